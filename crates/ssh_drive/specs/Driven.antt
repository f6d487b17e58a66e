-- What a program has that drives a session itself, from the contracts of its four calls.
use Rattle.std.specs.Prelude.{◌≡◌, ◌≤◌, ◌⊎◌, ℕ, Bool, true, false, List, [], ◌∷◌, ◌++◌, map}
use Rattle.std.specs.Prelude.{flat_map, option_to_list, Option, Some, None, IfSome, Result, Ok}
use Rattle.ssh_link.specs.Faults.{Rose}
use Rattle.ssh_link.specs.Told.{Adds, ToldBy}
use Rattle.ssh_link.specs.declared.frame.InputKind.TheVariants as input
use Rattle.ssh_auth.specs.Publickey.{Acceptance}
use Rattle.ssh_channels.specs.Entry.{IsDue}
use Rattle.ssh_channels.specs.Sent.{Each, Ledgered}
use Rattle.ssh_rules.specs.declared.error.Flow.{Flow}
use Rattle.ssh_rules.specs.declared.error.Flow.TheVariants.{Continue}
use Rattle.ssh_session.specs.declared.session.Session.{Session}
use Rattle.ssh_rules.specs.Account.{Told}
use Rattle.ssh_session.specs.Between.{untold}
use Rattle.ssh_rules.specs.Exchanged.{ends_exchange}
use Rattle.ssh_rules.specs.Ledger.{SentSo, SentAll, is_kexinit}
use Rattle.ssh_session.specs.Serve.{Refines}
use Rattle.ssh_rules.specs.World.{Settings, in_exchange}
use Rattle.ssh_drive.specs.declared.moves.Move.{Move}
use Rattle.ssh_drive.specs.declared.moves.MoveError.{MoveError}
use Rattle.ssh_drive.specs.Authorised.{AreAuthorised}
use Rattle.ssh_drive.specs.Moves.{Place, Made, Served, Said, Let_out, Leads, Drives}
use Rattle.ssh_drive.specs.Moves.{opening_place, move_of, calls_of, steps_of, told_of}
use Rattle.ssh_drive.specs.Moves.{EndsSo, may_stop_telling}

-- ---- what was sent

-- what was written goes out with a payload and where it is handed on, and not with a command or
-- where a channel lets out what waits
abbrev pub hands_on : {E F : Type 0} → Made E F → Bool
hands_on (Said command outcome) = false
hands_on (Let_out channel count) = false
hands_on _ = true

-- the peer begins an exchange of keys by it (RFC 4253 section 7.1)
abbrev pub begins_exchange : {E F : Type 0} → Made E F → Bool
begins_exchange (Served payload events) = is_kexinit (input.Payload payload)
begins_exchange _ = false

-- a payload that was served ended an exchange of keys
abbrev pub ends_one : {E F : Type 0} → Made E F → Bool
ends_one (Served payload events) = ends_exchange events
ends_one _ = false

-- no exchange of keys holds the frames of this move: none runs behind it; or none ran before it and
-- the peer began none by it, or it ended one: this side may have begun one behind its frames
abbrev pub IsOutside : {E F : Type 0} → Place → Made E F → Place → Type 0
IsOutside before made after = (in_exchange after.world ≡ false)
    ⊎ (((in_exchange before.world ≡ false) × (begins_exchange made ≡ false))
    ⊎ (ends_one made ≡ true))

-- where these moves lead, what was sent and written on each channel is what it has to be (RFC 4254
-- section 5)
pub record Accounted {E F : Type 0} (accepts : Acceptance) (settings : Settings) (moment : ℕ)
    (made : List (Made E F)) (place : Place) : Type 0 where
  -- with the frames that were written counted as sent: the first framed bytes of those that the
  -- channel accepted, in order, an EOF behind all of them, and behind a CLOSE nothing but refused
  -- opens
  pub kept : Ledgered place.world.channels.lines (flat_map told_of made)
  -- outside an exchange of keys as many are framed as were accepted and granted
  pub due : in_exchange place.world ≡ false → Each IsDue place.world.channels.lines
  -- what that says of the frames that were sent: among other things, no more than was granted
  pub sent : SentSo (flat_map told_of made) place.world.channels.lines
  -- and where the last one hands on, and no exchange of keys holds its frames, each channel has
  -- sent exactly the first min(accepted, granted) bytes
  pub sent_all : (earlier : List (Made E F)) → (last : Made E F) → (before : Place)
      → made ≡ earlier ++ last ∷ []
      → Drives accepts moment (opening_place settings) earlier before
      → Leads accepts moment before last place → hands_on last ≡ true
      → IsOutside before last place
      → SentAll (flat_map told_of made) place.world.channels.lines

-- ---- all moves

-- moves were made one after another
pub record Driven {E F : Type 0} (accepts : Acceptance) (settings : Settings) (moment : ℕ)
    (moves : List Move) (before after : Told E F) (result : Result Flow (MoveError E F)) :
    Type 0 where
  -- those that were finished: they lead here from the opening world
  pub made : List (Made E F)
  pub place : Place
  pub run : Drives accepts moment (opening_place settings) made place
  -- one more, which ended the connection or was not finished
  pub last : Option (Made E F)
  -- and those that it did not come to, with one for which memory was wanting: none where all went
  -- well
  pub left : List Move
  pub given : map move_of (made ++ option_to_list last) ++ left ≡ moves
  pub all : result ≡ Ok Continue → left ≡ []
  -- each end has its cause
  pub ends : EndsSo accepts moment place last (Rose before.faults after.faults) result
  pub later : before.faults ≤ after.faults
  -- the handler was called, the exchange asked and the link told for these, and nothing else
  pub called : ToldBy (may_stop_telling result) before.calls after.calls
      (flat_map calls_of (made ++ option_to_list last))
  pub stepped : Adds before.steps after.steps (flat_map steps_of (made ++ option_to_list last))
  pub told : Adds before.trace after.trace (flat_map told_of (made ++ option_to_list last))
  -- nothing of the connection is served before an accepted authentication
  pub authorised : AreAuthorised accepts settings moment (made ++ option_to_list last)
  -- after each that was finished, wherever those up to it lead
  pub ledger : (earlier later : List (Made E F)) → (at : Place) → made ≡ earlier ++ later
      → Drives accepts moment (opening_place settings) earlier at
      → Accounted accepts settings moment earlier at

-- ---- one move

-- it was finished and leads on, in a session that is then in such a place; or it was the last one
abbrev pub ComesTo : {E F : Type 0} → Acceptance → (moment : ℕ) → Place → Option (Made E F)
    → (rose : Type 0) → Session → Result Flow (MoveError E F) → Type 0
ComesTo accepts moment place (Some made) rose session (Ok Continue) = (after : Place)
    × Leads accepts moment place made after × Refines session after.world
    × (untold session ≡ after.untold)
ComesTo accepts moment place None rose session (Ok Continue) = ⊥
ComesTo accepts moment place made rose session result =
    EndsSo accepts moment place made rose result

-- one move was made in this place: none is told of where memory was wanting for a command, or for
-- what a channel lets out
pub record Makes {E F : Type 0} (accepts : Acceptance) (moment : ℕ) (place : Place) (move : Move)
    (before after : Told E F) (session : Session) (result : Result Flow (MoveError E F)) :
    Type 0 where
  pub made : Option (Made E F)
  pub given : IfSome made (λ one. move_of one ≡ move)
  pub later : before.faults ≤ after.faults
  pub called : ToldBy (may_stop_telling result) before.calls after.calls
      (flat_map calls_of (option_to_list made))
  pub stepped : Adds before.steps after.steps (flat_map steps_of (option_to_list made))
  pub told : Adds before.trace after.trace (flat_map told_of (option_to_list made))
  pub comes : ComesTo accepts moment place made (Rose before.faults after.faults) session result
