-- What is told first, before what an input owes; and what the end of an input without one leads to.
use Rattle.std.proofs.Common.{◌≡◌, ℕ, List, [], ◌∷◌, ◌++◌, map, Bool, true, false, cond}
use Rattle.std.proofs.Common.{refl, ◌∙◌, ap, subst}
use Rattle.ssh_link.specs.declared.frame.Input.{Input}
use Rattle.ssh_link.specs.declared.link.TraceEntry.{TraceEntry}
use Rattle.ssh_link.specs.declared.link.TraceEntry.TheVariants.{Sent}
use Rattle.ssh_auth.specs.Plan.{Plan, Finish, Tell, Event, Follows, told_in}
use Rattle.ssh_auth.specs.Publickey.{Acceptance}
use Rattle.ssh_rules.specs.Acts.{Beginning, acts, moved, tell_all, payloads_given, frames_given}
use Rattle.ssh_session.specs.Between.{OwesUnlessEnded, flushed}
use Rattle.ssh_rules.specs.Outcome.{Outcome, Goes, Ends}
use Rattle.ssh_rules.specs.Run.{Owes, begins, going_out, hand_on, handed_on, is_due, is_over}
use Rattle.ssh_rules.specs.World.{Settings, World}
use Rattle.ssh_rules.proofs.Plans.Acting.{PlanComes}
use Rattle.ssh_rules.proofs.Plans.Emptied.{told_comes, comes_of}
use Rattle.ssh_rules.proofs.Plans.Passing.{moved_so}
use Rattle.ssh_rules.proofs.Plans.Settled.{Anything, ComesSet}

-- these were told, and then the rest
pub told_first : {E F : Type 0} (entries : List TraceEntry) (next : Plan Outcome)
    (events : List (Event E F)) (outcome : Outcome) → Follows (tell_all entries next) events outcome
    → (rest : List (Event E F)) × (told_in events ≡ entries ++ told_in rest)
    × Follows next rest outcome
told_first [] next events outcome h = (events, refl, h)
told_first (entry ∷ entries) next [] outcome h =
    absurd (let e : Tell entry (tell_all entries next) ≡ Finish outcome = h in cc)
told_first (entry ∷ entries) next (event ∷ events) outcome h =
    let more = told_first entries next events outcome h.1 in (
      more.0,
      ap (λ first. told_in (first ∷ events)) h.0 ∙ ap (λ l. entry ∷ l) more.1,
      more.2,
    )

-- what a run that is over leads to is no world to go on in
over_not : {E F : Type 0} (v w : World) (events : List (Event E F))
    → Follows (Finish (Ends v)) events (Goes w) → ⊥
over_not v w [] h =
    let e : Finish (Ends v) ≡ Finish (Goes w) = h in cc
over_not v w (event ∷ events) h = h

-- so a command ended no connection where an input was finished and it goes on
pub owes_live : {E F : Type 0} (ended : Bool) (accepts : Acceptance) (w : World) (input : Input)
    (plan : Plan Outcome) (events : List (Event E F)) (world : World)
    → OwesUnlessEnded ended accepts w input plan → Follows plan events (Goes world)
    → Owes accepts w input plan
owes_live false accepts w input plan events world o h = o
owes_live true accepts w input plan events world o h =
    let over = subst (λ p. Follows p events (Goes world)) o h in
    let v = handed_on w in
    let rest = told_first (map Sent (going_out w)) (is_over v) events (Goes world) over in
    absurd (over_not v world rest.0 rest.2)

-- ---- the end of an input without one

-- what holds of the world once its frames are handed on, and stays so as this side begins an
-- exchange of keys, holds of what it comes to
module _ (comes : Outcome → Type 0)
    (begun : (w : World) (payload : List ℕ) → comes (Goes w)
    → comes (Goes (moved Beginning payload w)))
  where
    begun_comes : (due : Bool) (w : World) → comes (Goes w)
        → PlanComes Anything comes (acts (begins due) w)
    begun_comes true w h = λ answer s.
        told_comes comes (map Sent (frames_given (payloads_given Beginning answer)))
        (Finish (Goes (moved Beginning answer w))) (begun w answer h)
    begun_comes false w h = h

    flushed_comes : (ended due : Bool) (w : World) → comes (Goes w)
        → PlanComes Anything comes (cond ended (Finish (Goes w)) (acts (begins due) w))
    flushed_comes true due w h = h
    flushed_comes false due w h = begun_comes due w h

    pub flush_comes : {E F : Type 0} (w : World) (events : List (Event E F)) (world : World)
        → Follows (hand_on w flushed) events (Goes world) → comes (Goes (handed_on w))
        → comes (Goes world)
    flush_comes w events world h k =
        let v = handed_on w in
        comes_of comes (hand_on w flushed) events (Goes world)
        (told_comes comes (map Sent (going_out w)) (flushed v)
        (flushed_comes v.disconnected (is_due false v) v k)) h

pub flush_set : {E F : Type 0} (settings : Settings) (w : World) (events : List (Event E F))
    (world : World) → Follows (hand_on w flushed) events (Goes world) → w.settings ≡ settings
    → world.settings ≡ settings
flush_set settings w events world h set =
    flush_comes (ComesSet settings)
    (λ v payload k. moved_so (λ u. u.settings ≡ settings) Beginning payload v (λ keys. k)
    (λ keys. k)) w events world h set
