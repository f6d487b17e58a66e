-- After an input outside an exchange of keys nothing is left to be handed on, also where it ended
-- the run.
use Rattle.std.proofs.Common.{◌≡◌, ◌&&◌, List, [], ◌∷◌, ◌++◌, map, refl, sym, subst}
use Rattle.std.proofs.Common.{Bool, true, false, not, cond}
use Rattle.ssh_link.specs.declared.link.TraceEntry.{TraceEntry}
use Rattle.ssh_link.specs.declared.link.TraceEntry.TheVariants.{Sent}
use Rattle.ssh_auth.specs.Plan.{Plan, Finish, Ask, Tell, Event, Follows, after}
use Rattle.ssh_auth.specs.Publickey.{Acceptance}
use Rattle.ssh_channels.specs.Lines.{Lines, hands_on}
use Rattle.ssh_rules.specs.Acts.{Beginning, tell_all, acts, payloads_given, frames_given, moved}
use Rattle.ssh_rules.specs.Outcome.{Outcome, Goes, Ends, Fails}
use Rattle.ssh_rules.specs.Run.{Turn, Owes, finish_input, handed_on, going_out, begins, is_due}
use Rattle.ssh_rules.specs.Run.{goes_unless_ended, is_over, asks_for_keys}
use Rattle.ssh_rules.specs.World.{World, in_exchange}
use Rattle.ssh_rules.proofs.Plans.Acting.{PlanComes}
use Rattle.ssh_rules.proofs.Plans.Settled.{Anything}

-- this holds of what comes of a plan once these are told
pub told_comes : (comes : Outcome → Type 0) (entries : List TraceEntry) (next : Plan Outcome) →
    PlanComes Anything comes next → PlanComes Anything comes (tell_all entries next)
told_comes comes [] next h = h
told_comes comes (entry ∷ entries) next h = told_comes comes entries next h

pub comes_of : {E F : Type 0} (comes : Outcome → Type 0) (plan : Plan Outcome)
    (events : List (Event E F)) (outcome : Outcome) → PlanComes Anything comes plan →
    Follows plan events outcome → comes outcome
comes_of comes plan [] outcome h f = subst (PlanComes Anything comes) f h
comes_of comes (Finish other) (event ∷ events) outcome h f = absurd f
comes_of comes (Ask question next) (event ∷ events) outcome h f =
    comes_of comes (next f.0) events outcome (h f.0 tt) f.2
comes_of comes (Tell entry next) (event ∷ events) outcome h f = comes_of comes next events outcome h
    f.1

-- outside an exchange of keys nothing is left to be handed on
abbrev pub IsUnheld : World → Type 0
IsUnheld w = in_exchange w ≡ false → w.channels.lines.written ≡ []

abbrev pub IsEmptied : Outcome → Type 0
IsEmptied (Goes w) = IsUnheld w
IsEmptied (Ends w) = IsUnheld w
IsEmptied (Fails fault) = Unit {0}

pub unheld : (running ended : Bool) (l : Lines) → running ≡ false →
    (hands_on (running && not ended) l).written ≡ []
unheld true ended l h = absurd (cc)
unheld false ended l h = refl

begun_emptied : (due : Bool) (w : World) → IsUnheld w →
    PlanComes Anything IsEmptied (acts (begins due) w)
begun_emptied true w h = λ answer s.
    told_comes IsEmptied (map Sent (frames_given (payloads_given Beginning answer)))
    (Finish (Goes (moved Beginning answer w))) (λ idle. absurd (let e : true ≡ false = idle in cc))
begun_emptied false w h = h

ended_emptied : (ended due : Bool) (w : World) → IsUnheld w →
    PlanComes Anything IsEmptied (cond ended (Finish (Ends w)) (acts (begins due) w))
ended_emptied true due w h = h
ended_emptied false due w h = begun_emptied due w h

emptied : (ticked : Bool) (plan : Plan Outcome) →
    PlanComes Anything IsEmptied (after plan (finish_input ticked))
emptied ticked (Finish (Goes w)) =
    let v = handed_on w in
    told_comes IsEmptied (map Sent (going_out w)) (goes_unless_ended ticked v)
    (ended_emptied v.disconnected (is_due ticked v) v
    (λ idle. unheld (in_exchange w) w.disconnected w.channels.lines idle))
emptied ticked (Finish (Ends w)) =
    told_comes IsEmptied (map Sent (going_out w)) (is_over (handed_on w))
    (λ idle. unheld (in_exchange w) w.disconnected w.channels.lines idle)
emptied ticked (Finish (Fails fault)) = tt
emptied ticked (Ask question next) = λ answer s. emptied ticked (next answer)
emptied ticked (Tell entry next) = emptied ticked next

pub comes_emptied : {E F : Type 0} (accepts : Acceptance) (w : World) (turn : Turn E F)
    (plan : Plan Outcome) (outcome : Outcome) → Owes accepts w turn.input plan →
    Follows plan turn.events outcome → IsEmptied outcome
comes_emptied {E} {F} accepts w turn plan outcome o f =
    comes_of IsEmptied plan turn.events outcome
    (subst (PlanComes Anything IsEmptied) (sym o.2)
    (emptied (asks_for_keys turn.input.kind) o.0)) f

pub owed_emptied : {E F : Type 0} (accepts : Acceptance) (w : World) (turn : Turn E F)
    (plan : Plan Outcome) (mid : World) → Owes accepts w turn.input plan →
    Follows plan turn.events (Goes mid) → IsUnheld mid
owed_emptied accepts w turn plan mid o f = comes_emptied accepts w turn plan (Goes mid) o f

pub nothing_left : {A : Type 0} (xs : List A) (y : A) (ys : List A) → xs ++ y ∷ ys ≡ [] → ⊥
nothing_left [] y ys h = cc
nothing_left (x ∷ xs) y ys h = cc
