-- What the callback of an open is in one event after another (RFC 4254 section 5.1).
use Rattle.std.proofs.Common.{◌≡◌, ◌≤◌, ◌+◌, ℕ, List, [], ◌∷◌, map, Bool, true, false, cond}
use Rattle.std.proofs.Common.{refl, ap, inl, inr, arith}
use Rattle.std.specs.Prelude.{if◌then◌else◌}
use Rattle.ssh_link.specs.declared.link.TraceEntry.TheVariants.{Sent}
use Rattle.ssh_auth.specs.Plan.{Plan, Finish, Ask, Tell, Event, after}
use Rattle.ssh_auth.specs.Proven.{AsksOnly}
use Rattle.ssh_auth.specs.Publickey.{Acceptance}
use Rattle.ssh_auth.proofs.Back.{asked_so, refused_so}
use Rattle.ssh_rules.specs.Answered.{how_many, is_open, open_returned}
use Rattle.ssh_rules.specs.Acts.{acts}
use Rattle.ssh_rules.specs.Outcome.{Outcome, Goes, Ends, Fails}
use Rattle.ssh_rules.specs.Run.{Turn, Owes, asks_for_keys, finish_input, going_out, handed_on}
use Rattle.ssh_rules.specs.Run.{begins, goes_unless_ended, is_due, is_over}
use Rattle.ssh_rules.specs.World.{World}
use Rattle.ssh_rules.proofs.Authorised.Guards.{Walks}
use Rattle.ssh_rules.proofs.Answered.CallbackRows.{asked_open, IsBeside, AsksOnce, AsksUpTo, kind_upto}
use Rattle.ssh_rules.proofs.Answered.CallbackRows.{acts_beside, tells_beside, then_beside, none_once}

-- ---- the end of an input

begins_beside : (due : Bool) (w : World) → AsksOnly IsBeside (acts (begins due) w)
begins_beside true w = acts_beside (begins true) w tt
begins_beside false w = tt

end_beside : (ended due : Bool) (w : World) →
    AsksOnly IsBeside (cond ended (Finish (Ends w)) (acts (begins due) w))
end_beside true due w = tt
end_beside false due w = begins_beside due w

finish_beside : (ticked : Bool) (outcome : Outcome) →
    AsksOnly IsBeside (finish_input ticked outcome)
finish_beside ticked (Goes w) =
    let v = handed_on w in
    tells_beside (map Sent (going_out w)) (goes_unless_ended ticked v)
    (end_beside v.disconnected (is_due ticked v) v)
finish_beside ticked (Ends w) = tells_beside (map Sent (going_out w)) (is_over (handed_on w)) tt
finish_beside ticked (Fails fault) = tt

input_once : (ticked : Bool) (plan : Plan Outcome) → AsksOnce plan →
    AsksOnce (after plan (finish_input ticked))
input_once ticked (Finish outcome) h =
    none_once (finish_input ticked outcome) (finish_beside ticked outcome)
input_once ticked (Ask question next) h = λ answer.
    then_beside (next answer) (finish_input ticked) (h answer) (finish_beside ticked)
input_once ticked (Tell entry next) h = input_once ticked next h

pub input_upto : (b ticked : Bool) (plan : Plan Outcome) → AsksUpTo b plan →
    AsksUpTo b (after plan (finish_input ticked))
input_upto true ticked plan h = input_once ticked plan h
input_upto false ticked plan h = then_beside plan (finish_input ticked) h (finish_beside ticked)

-- ---- events

beside_none : {E F : Type 0} (plan : Plan Outcome) (events : List (Event E F)) →
    AsksOnly IsBeside plan → Walks plan events → how_many open_returned events ≡ 0
beside_none plan [] h w = refl
beside_none (Finish outcome) (event ∷ events) h w = absurd w
beside_none (Ask question next) (event ∷ events) h (inl w) =
    rw (asked_open event question (asked_so question w.0 event w.1), h.0)
    (beside_none (next w.0) events (h.1 w.0) w.2)
beside_none (Ask question next) (event ∷ events) h (inr w) =
    rw (asked_open event question (refused_so question w.0 event w.1), h.0, w.2) refl
beside_none (Tell entry next) (event ∷ events) h w = rw w.0 (beside_none next events h w.1)

one_more : (b : Bool) (n : ℕ) → n ≡ 0 → cond b (n + 1) n ≤ 1
one_more true n h = omega (arith, h)
one_more false n h = omega (arith, h)

once_one : {E F : Type 0} (plan : Plan Outcome) (events : List (Event E F)) → AsksOnce plan →
    Walks plan events → how_many open_returned events ≤ 1
once_one plan [] h w = omega arith
once_one (Finish outcome) (event ∷ events) h w = absurd w
once_one (Ask question next) (event ∷ events) h (inl w) =
    one_more (open_returned event) (how_many open_returned events)
    (beside_none (next w.0) events (h w.0) w.2)
once_one (Ask question next) (event ∷ events) h (inr w) =
    one_more (open_returned event) (how_many open_returned events) (ap (how_many open_returned) w.2)
once_one (Tell entry next) (event ∷ events) h w = rw w.0 (once_one next events h w.1)

upto_count : {E F : Type 0} (b : Bool) (plan : Plan Outcome) (events : List (Event E F)) →
    AsksUpTo b plan → Walks plan events → how_many open_returned events ≤ (if b then 1 else 0)
upto_count true plan events h w = once_one plan events h w
upto_count false plan events h w = let none = beside_none plan events h w in omega (arith, none)

-- a CHANNEL_OPEN makes the callback of an open once at most, and another input never
pub turn_called : {E F : Type 0} (accepts : Acceptance) (w : World) (turn : Turn E F)
    (plan : Plan Outcome) → Owes accepts w turn.input plan → Walks plan turn.events →
    how_many open_returned turn.events ≤ (if is_open turn.input.kind then 1 else 0)
turn_called accepts w turn plan o walks =
    upto_count (is_open turn.input.kind) plan turn.events
    (rw o.2 (input_upto (is_open turn.input.kind) (asks_for_keys turn.input.kind) o.0
    (kind_upto accepts w turn.input.moment turn.input.kind o.0 o.1))) walks
