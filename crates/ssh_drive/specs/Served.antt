-- What a program has that drives a session itself, from the contract of one input.
use Rattle.std.specs.Prelude.{◌≡◌, ◌≤◌, ℕ, List, [], ◌++◌, map, flat_map, Option, Some, None}
use Rattle.std.specs.Prelude.{option_to_list, IfSome}
use Rattle.std.specs.Prelude.{Result, Ok, Err}
use Rattle.ssh_link.specs.Faults.{Rose}
use Rattle.ssh_link.specs.Told.{Adds, ToldBy}
use Rattle.ssh_link.specs.declared.frame.InputKind.{InputKind}
use Rattle.ssh_link.specs.declared.frame.InputKind.TheVariants.{Payload}
use Rattle.ssh_link.specs.declared.link.TraceEntry.{TraceEntry}
use Rattle.ssh_auth.specs.Plan.{Plan, Follows, told_in}
use Rattle.ssh_auth.specs.Publickey.{Acceptance}
use Rattle.ssh_rules.specs.declared.error.Flow.{Flow}
use Rattle.ssh_rules.specs.declared.error.Flow.TheVariants.{Continue, Ended}
use Rattle.ssh_rules.specs.declared.error.RunError.{RunError}
use Rattle.ssh_rules.specs.declared.error.RunError.TheVariants as error
use Rattle.ssh_rules.specs.Account.{Told}
use Rattle.ssh_rules.specs.Answered.{Answered}
use Rattle.ssh_rules.specs.Authorised.{Authorised}
use Rattle.ssh_rules.specs.Exchanged.{Exchanged, IsNextExchanged}
use Rattle.ssh_rules.specs.GlobalReplied.{GlobalReplied}
use Rattle.ssh_rules.specs.InOrder.{InOrder}
use Rattle.ssh_rules.specs.Ledger.{Ledgered_after, IsNextLedgered}
use Rattle.ssh_rules.specs.Outcome.{Outcome, Ends}
use Rattle.ssh_rules.specs.Parting.{IsLastWord}
use Rattle.ssh_rules.specs.Received.{Received}
use Rattle.ssh_rules.specs.Replied.{Replied}
use Rattle.ssh_rules.specs.Run.{Owes, Turn, Run, calls_of, steps_of}
use Rattle.ssh_rules.specs.Cause.{IsCaused, cause_of, may_stop}
use Rattle.ssh_rules.specs.World.{Settings, World, opening_world}

abbrev pub kind_of : {E F : Type 0} → Turn E F → InputKind
kind_of turn = turn.input.kind

-- what the link was told as an input was served: notices, answers and frames
abbrev pub told_of : {E F : Type 0} → Turn E F → List TraceEntry
told_of turn = told_in turn.events

-- how it ends: all went well; the last one ended the connection, or was not finished by a cause; or
-- memory was wanting, or the link failed, before the next one was looked at
abbrev pub EndsSo : {E F : Type 0} → Acceptance → World → Option (Turn E F) → (rose : Type 0)
    → Result Flow (RunError E F) → Type 0
EndsSo accepts w None rose (Ok Continue) = Unit {0}
EndsSo accepts w (Some turn) rose (Ok Ended) = (plan : Plan Outcome)
    × Owes accepts w turn.input plan × ((world : World) × Follows plan turn.events (Ends world))
EndsSo accepts w (Some turn) rose (Err e) = (plan : Plan Outcome)
    × Owes accepts w turn.input plan × IsCaused (cause_of e) plan rose turn.events
EndsSo accepts w None rose (Err error.NoMemory) = Unit {0}
EndsSo accepts w None rose (Err error.LinkFault) = rose
EndsSo accepts w _ rose _ = ⊥

-- payloads were served one after another
pub record Served {E F : Type 0} (accepts : Acceptance) (settings : Settings)
    (payloads : List (List ℕ)) (before after : Told E F) (result : Result Flow (RunError E F))
    : Type 0 where
  -- those that were finished, each by its row
  pub turns : List (Turn E F)
  pub world : World
  pub run : Run accepts (opening_world settings) turns world
  -- one more, which ended the connection or was not finished
  pub last : Option (Turn E F)
  -- and those that it did not come to: none where all went well
  pub left : List InputKind
  pub given : map kind_of (turns ++ option_to_list last) ++ left ≡ map Payload payloads
  pub all : result ≡ Ok Continue → left ≡ []
  -- each end has its cause
  pub ends : EndsSo accepts world last (Rose before.faults after.faults) result
  pub later : before.faults ≤ after.faults
  -- the handler was called, the exchange asked and the link told for these, and nothing else
  pub called : ToldBy (may_stop result) before.calls after.calls
      (flat_map calls_of (turns ++ option_to_list last))
  pub stepped : Adds before.steps after.steps (flat_map steps_of (turns ++ option_to_list last))
  pub told : Adds before.trace after.trace (flat_map told_of (turns ++ option_to_list last))
  -- nothing of the connection is served before an accepted authentication
  pub authorised : Authorised accepts settings (turns ++ option_to_list last)
  -- after each that was finished, outside an exchange of keys, each channel has sent exactly its
  -- first min(accepted, granted) bytes, in order
  pub ledger : (earlier later : List (Turn E F)) → turns ≡ earlier ++ later
      → Ledgered_after accepts settings earlier
  -- so it is at every moment of the last input, and behind it where it ended the connection
  pub last_ledger : IfSome last (IsNextLedgered accepts world turns)
  -- an open of the peer's gets at most one answer, and none before its callback returned
  pub answered : Answered accepts settings (turns ++ option_to_list last)
  -- the peer gets no more replies to its requests than it wanted, on a channel and to global ones
  pub replied : Replied accepts settings (turns ++ option_to_list last)
  pub globally_replied : GlobalReplied accepts settings (turns ++ option_to_list last)
  -- the replies to this side's global requests are taken in the order of the requests
  pub in_order : (earlier later : List (Turn E F)) → turns ≡ earlier ++ later
      → InOrder accepts settings earlier
  -- in an exchange of keys only its own frames are handed on, and in the last input too, unless a
  -- command ended the connection in it
  pub exchanged : Exchanged turns
  pub last_exchanged : IfSome last (IsNextExchanged turns)
  -- on a channel no more bytes of data are passed to the handler than this side granted there
  pub received : Received accepts settings (turns ++ option_to_list last)
  -- and a DISCONNECT of this side is the last that happens
  pub last_word : IsLastWord (turns ++ option_to_list last)
