-- A turn that was not finished, in short.
use mathlib.Core.List.{IsPrefix}
use Rattle.std.specs.Prelude.{◌≡◌, ◌+◌, ◌⊎◌, ℕ, Bool, true, false, cond, List, [], ◌∷◌, ◌++◌, flat_map}
use Rattle.std.specs.Prelude.{Option, Some, None, Ok}
use Rattle.std.proofs.Common.{inl, inr}
use Rattle.ssh_link.specs.Told.{ToldBy}
use Rattle.ssh_link.specs.declared.link.TraceEntry.{TraceEntry}
use Rattle.ssh_link.specs.declared.link.TraceEntry.TheVariants.{Answered}
use Rattle.ssh_link.specs.declared.outcome.CommandOutcome.{CommandOutcome}
use Rattle.ssh_link.specs.declared.outcome.CommandOutcome.TheVariants.{Accepted}
use Rattle.ssh_auth.specs.Plan.{told_in}
use Rattle.ssh_auth.specs.Publickey.{Acceptance}
use Rattle.ssh_rules.specs.Run.{who}
use Rattle.ssh_rules.specs.World.{World}
use Rattle.ssh_gateway.specs.declared.error.GatewayError.{GatewayError}
use Rattle.ssh_gateway.specs.declared.switchboard.Asking.{Asking}
use Rattle.ssh_gateway.specs.declared.targets.TargetCall.{TargetCall}
use Rattle.ssh_gateway.specs.declared.targets.TargetCall.TheVariants as call
use Rattle.ssh_gateway.specs.Asked.{written, read}
use Rattle.ssh_gateway.specs.Board.{Board, opening_board}
use Rattle.ssh_gateway.specs.Bytes.{came, incoming, sent_by, outgoing}
use Rattle.ssh_gateway.specs.Choosing.{Permits, allows, to_decide}
use Rattle.ssh_gateway.specs.Serving.{Outside, IsBroken, IsShort}
use Rattle.ssh_gateway.specs.Turns.{Round, board_within, due_after, target_calls}

-- ---- its input and its calls

-- the turn as far as it came, where an input was given
abbrev pub last_round : {E F : Type 0} (accepts : Acceptance) (permits : Permits) (board : Board)
    (w : World) (before after : Outside F) (e : GatewayError E F)
    → IsBroken accepts permits board w before after e → Option (Round E F)
last_round accepts permits board w before after e (inl none) = None
last_round accepts permits board w before after e (inr (inl none)) = None
last_round accepts permits board w before after e (inr (inr (inl none))) = Some none.round
last_round accepts permits board w before after e (inr (inr (inr none))) = Some none.2.round

-- what the targets were asked in it, the call that failed among it
abbrev pub last_asked : {E F : Type 0} (accepts : Acceptance) (permits : Permits) (board : Board)
    (w : World) (before after : Outside F) (e : GatewayError E F)
    → IsBroken accepts permits board w before after e → List TargetCall
last_asked accepts permits board w before after e (inl none) = none.3.2
last_asked accepts permits board w before after e (inr (inl none)) = none.4
last_asked accepts permits board w before after e (inr (inr (inl none))) = target_calls none.round
last_asked accepts permits board w before after e (inr (inr (inr none))) = target_calls none.2.round

-- the same of one for which memory was wanting
abbrev pub short_round : {E F : Type 0} (accepts : Acceptance) (permits : Permits) (board : Board)
    (w : World) (before after : Outside F) → IsShort E accepts permits board w before after
    → Option (Round E F)
short_round accepts permits board w before after (inl none) = None
short_round accepts permits board w before after (inr (inl none)) = None
short_round accepts permits board w before after (inr (inr (inl none))) = Some none.round
short_round accepts permits board w before after (inr (inr (inr none))) = Some none.round

abbrev pub short_asked : {E F : Type 0} (accepts : Acceptance) (permits : Permits) (board : Board)
    (w : World) (before after : Outside F) → IsShort E accepts permits board w before after
    → List TargetCall
short_asked accepts permits board w before after (inl none) = none.1.2
short_asked accepts permits board w before after (inr (inl none)) = none.2
short_asked accepts permits board w before after (inr (inr (inl none))) = target_calls none.round
short_asked accepts permits board w before after (inr (inr (inr none))) = target_calls none.round

-- ---- the connects, and the calls that end something, whatever they answered

abbrev pub connect_by : TargetCall → List (ℕ × List ℕ × ℕ)
connect_by (call.Connect id host port answer) = (id, host, port) ∷ []
connect_by _ = []

abbrev pub connects_in : List TargetCall → List (ℕ × List ℕ × ℕ)
connects_in calls = flat_map connect_by calls

abbrev pub ending_by : TargetCall → List TargetCall
ending_by (call.Finish id answer) = call.Finish id (Ok tt) ∷ []
ending_by (call.Close id answer) = call.Close id (Ok tt) ∷ []
ending_by _ = []

abbrev pub endings_in : List TargetCall → List TargetCall
endings_in calls = flat_map ending_by calls

-- one, or none
abbrev pub AtMostOne : List TargetCall → Type 0
AtMostOne calls = (calls ≡ []) ⊎ ((one : TargetCall) × (calls ≡ one ∷ []))

-- at most one connect: for the oldest open that is to be decided, with its host and its port, and
-- only where the policy allows that to the user who was let in
abbrev pub ConnectsAtMost : Permits → Board → World → List TargetCall → Type 0
ConnectsAtMost permits board w calls = (connects_in calls ≡ [])
    ⊎ ((asked : Asking) × (later : List Asking) × (to_decide w board ≡ asked ∷ later)
    × (allows permits (who w.user) asked ≡ true)
    × (connects_in calls ≡ (board.last_id + 1, asked.host, asked.port) ∷ []))

-- ---- its bytes

-- what came for a connection in it
abbrev pub last_came : {E F : Type 0} → (id : ℕ) → Board → Option (Round E F) → List ℕ
last_came id board None = []
last_came id board (Some round) = came id round.asked (board_within round board)

-- whether its command was accepted: a gateway's input is one command
abbrev pub is_accepted : CommandOutcome → Bool
is_accepted Accepted = true
is_accepted _ = false

abbrev pub was_accepted : List TraceEntry → Bool
was_accepted [] = false
was_accepted (Answered ticket outcome ∷ entries) = is_accepted outcome
was_accepted (_ ∷ entries) = was_accepted entries

-- what went out on the channel of a connection in it
abbrev pub last_sent : {E F : Type 0} → (id : ℕ) → Option (Round E F) → List ℕ
last_sent id None = []
last_sent id (Some round) =
    cond (was_accepted (told_in round.turn.events)) (sent_by id round.source) []

-- what is due to the targets for it
abbrev pub last_due : {E F : Type 0} → Board → Option (Round E F) → List TargetCall
last_due board None = []
last_due board (Some round) = due_after round board

-- ---- the whole

-- behind these turns, which were finished, one came as far as this, and the targets, which told this
-- before it and that after it, were asked for these calls in it
pub record IsUnfinished {E F : Type 0} (permits : Permits) (board : Board) (w : World)
    (rounds : List (Round E F)) (last : Option (Round E F)) (calls : List TargetCall)
    (before after : Option (List TargetCall)) : Type 0 where
  -- it asked for no others; targets that failed, or had no memory, may have stopped telling
  pub told : ToldBy true before after calls
  -- it made at most one connect, where the policy allows it
  pub connects : ConnectsAtMost permits board w calls
  -- it finished or closed one connection, once, or none
  pub once : AtMostOne (endings_in calls)
  -- and only what its input asks for
  pub ends : IsPrefix (endings_in calls) (endings_in (last_due board last))
  -- what was written to a connection is a front of what came for it; a write that failed counts for
  -- nothing
  pub writes : (id : ℕ) → IsPrefix (written id (flat_map target_calls rounds ++ calls))
      (incoming id opening_board rounds ++ last_came id board last)
  -- what went out on its channel is a front of what was read from it
  pub reads : (id : ℕ) → IsPrefix (outgoing id rounds ++ last_sent id last)
      (read id (flat_map target_calls rounds ++ calls))
