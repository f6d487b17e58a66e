-- A step, from what serving its input does.
use Rattle.std.proofs.Common.{◌≡◌, ℕ, Option, List, Result, Ok, Err, false, refl, sym, subst, inl, inr}
use Rattle.ssh_link.specs.declared.frame.Input.{Input}
use Rattle.ssh_link.specs.declared.notice.Notice.{Notice}
use Rattle.ssh_auth.specs.Publickey.{Acceptance}
use Rattle.ssh_auth.specs.Plan.{Plan, Event}
use Rattle.ssh_rules.specs.declared.error.Flow.{Flow}
use Rattle.ssh_rules.specs.declared.error.Flow.TheVariants.{Continue, Ended}
use Rattle.ssh_rules.specs.declared.error.RunError.{RunError}
use Rattle.ssh_session.specs.declared.session.Session.{Session}
use Rattle.ssh_rules.specs.Account.{Told}
use Rattle.ssh_session.specs.Steps.{Comes, Steps, StepsTo}
use Rattle.ssh_serving.specs.declared.server.Server.{Server}
use Rattle.ssh_session.specs.Between.{OwesBehind, OwesNotices, StepsAfter, CutsAfter, TakesBehind}
use Rattle.ssh_serving.specs.Handing.{CompletesTo}
use Rattle.ssh_rules.specs.Cut.{IsCut}
use Rattle.ssh_rules.specs.Heard.{Heard}
use Rattle.ssh_rules.specs.Outcome.{Outcome}
use Rattle.ssh_serving.specs.Serve.{Completes}
use Rattle.ssh_serving.specs.Serve as served
use Rattle.ssh_session.specs.Serve.{Refines, IsUnchanged}
use Rattle.ssh_rules.specs.World.{World}
use Rattle.ssh_link.specs.Faults.{Rose, RoseIfKept}

-- the session stands for the worlds of this server of its
abbrev pub StandsBy : Server → Session → Type 0
StandsBy server session = (w : World) → served.Refines server w → Refines session w

-- what the three of an outside have told
abbrev pub told_of : {E F : Type 0} → Heard E F → Told E F
told_of heard = record {
  calls = heard.calls;
  steps = heard.steps;
  trace = heard.trace;
  faults = heard.faults;
}

comes_so : {E F : Type 0} (plan : Plan Outcome) (a b : Heard E F) (session : Server)
    (session' : Session) (result : Result Flow (RunError E F)) →
    (result ≡ Ok Continue → StandsBy session session') → (h : Completes plan a b session result)
    →
    Comes plan h.0 (Rose a.faults b.faults) session' result
comes_so plan a b session session' (Ok Continue) same h =
    (h.2.0, h.2.1, same refl h.2.0 h.2.2)
comes_so plan a b session session' (Ok Ended) same h = (h.2.0, h.2.1)
comes_so plan a b session session' (Err e) same h = h.2

-- what is owed was done, and then the session is spent or goes on
noted_step : {E F : Type 0} (IsOwed : Plan Outcome → Type 0) (a b : Heard E F)
    (session : Server) (session' : Session) (result : Result Flow (RunError E F)) →
    (result ≡ Ok Continue → StandsBy session session') → (plan : Plan Outcome) → IsOwed plan →
    Completes plan a b session result → Steps IsOwed (told_of a) (told_of b) session' result
noted_step IsOwed a b session session' result same plan owes h = record {
  plan = plan;
  owes = owes;
  events = h.0;
  called = h.1.called;
  told = h.1.told;
  later = h.1.later;
  stepped = h.1.stepped;
  comes = comes_so plan a b session session' result same h;
}

pub noted : {E F : Type 0} (IsOwed : Plan Outcome → Type 0) (a b : Heard E F)
    (session : Server) (session' : Session) (result : Result Flow (RunError E F)) →
    (result ≡ Ok Continue → StandsBy session session') →
    ((plan : Plan Outcome) × IsOwed plan × CompletesTo IsCut plan a b session result) →
    StepsTo IsOwed (told_of a) (told_of b) (RoseIfKept a.starved b.starved) session' result
unfolding noted_step
noted IsOwed a b session session' (Ok flow) same p =
    (noted_step IsOwed a b session session' (Ok flow) same p.0 p.1 p.2.0, tt)
noted IsOwed a b session session' (Err e) same p =
    (noted_step IsOwed a b session session' (Err e) same p.0 p.1 p.2.0, p.2.1)

-- the session that has this server, and is not spent
pub stands_by : (session session' : Session) → session' ≡ session → session.spent ≡ false →
    StandsBy session.server session'
stands_by session session' same live =
    λ w r. subst (λ s. Refines s w) (sym same) (record { server = r; live = live })

still_comes : {E F : Type 0} (plan : Plan Outcome) (events : List (Event E F)) (rose : Type 0)
    (session session' : Session) (result : Result Flow (RunError E F)) →
    IsUnchanged session session' → Comes plan events rose session result →
    Comes plan events rose session' result
still_comes plan events rose session session' (Ok Continue) same h =
    (h.0, h.1, same h.0 h.2)
still_comes plan events rose session session' (Ok Ended) same h = h
still_comes plan events rose session session' (Err e) same h = h

-- what was done is so of a session that stands for the same worlds
pub steps_still : {E F : Type 0} (IsOwed : Plan Outcome → Type 0) (a b : Told E F)
    (session session' : Session) (result : Result Flow (RunError E F)) →
    IsUnchanged session session' → Steps IsOwed a b session result →
    Steps IsOwed a b session' result
steps_still IsOwed a b session session' result same h = record {
  plan = h.plan;
  owes = h.owes;
  events = h.events;
  called = h.called;
  told = h.told;
  later = h.later;
  stepped = h.stepped;
  comes = still_comes h.plan h.events (Rose a.faults b.faults) session session' result same h.comes;
}

pub steps_to_still : {E F : Type 0} (IsOwed : Plan Outcome → Type 0) (a b : Told E F)
    (starved : Type 0) (session session' : Session) (result : Result Flow (RunError E F)) →
    IsUnchanged session session' → StepsTo IsOwed a b starved session result →
    StepsTo IsOwed a b starved session' result
unfolding steps_still
steps_to_still IsOwed a b starved session session' (Ok flow) same h =
    (steps_still IsOwed a b session session' (Ok flow) same h.0, tt)
steps_to_still IsOwed a b starved session session' (Err e) same h =
    (steps_still IsOwed a b session session' (Err e) same h.0, h.1)

-- ---- behind notices

-- what was taken behind notices was done, and then the session is spent or goes on
pub noted_behind : {E F : Type 0} (notices : List Notice) (accepts : Acceptance) (w : World)
    (input : Input) (a b : Heard E F) (session : Server) (session' : Session)
    (result : Result Flow (RunError E F)) → (result ≡ Ok Continue → StandsBy session session') →
    TakesBehind notices accepts w input a b session result →
    CutsAfter notices accepts w input (told_of a) (told_of b) (RoseIfKept a.starved b.starved)
    session' result
noted_behind notices accepts w input a b session session' result same (inl h) =
    inl (noted (OwesBehind notices accepts w input) a b session session' result same h)
noted_behind notices accepts w input a b session session' result same (inr (e, is, h)) =
    inr (e, is, noted (OwesNotices notices w) a b session session' result same (_, refl, h))

still_cut : {E F : Type 0} (notices : List Notice) (accepts : Acceptance) (w : World)
    (input : Input) (a b : Told E F) (starved : Type 0) (session session' : Session)
    (result : Result Flow (RunError E F)) → IsUnchanged session session' →
    CutsAfter notices accepts w input a b starved session result →
    CutsAfter notices accepts w input a b starved session' result
still_cut notices accepts w input a b starved session session' result same (inl h) =
    inl (steps_to_still (OwesBehind notices accepts w input) a b starved session session' result
    same h)
still_cut notices accepts w input a b starved session session' result same (inr (e, is, h)) =
    inr (e, is, steps_to_still (OwesNotices notices w) a b starved session session' result same h)

-- the same of notices, and of what was told, under other names
pub known_cut : {E F : Type 0} (notices notices' : List Notice) (accepts : Acceptance) (w : World)
    (input : Input) (a a' b b' : Told E F) (p p' q q' : Option ℕ) (session session' : Session)
    (result : Result Flow (RunError E F)) → notices ≡ notices' → a ≡ a' → b ≡ b' → p ≡ p' →
    q ≡ q' → IsUnchanged session session' →
    CutsAfter notices accepts w input a b (RoseIfKept p q) session result →
    CutsAfter notices' accepts w input a' b' (RoseIfKept p' q') session' result
known_cut notices notices' accepts w input a a' b b' p p' q q' session session' result n s t c d same
    h =
    subst (λ x. CutsAfter x accepts w input a' b' (RoseIfKept p' q') session' result) n
    (subst (λ x. CutsAfter notices accepts w input x b' (RoseIfKept p' q') session' result) s
    (subst (λ x. CutsAfter notices accepts w input a x (RoseIfKept p' q') session' result) t
    (subst (λ x. CutsAfter notices accepts w input a b (RoseIfKept x q') session' result) c
    (subst (λ x. CutsAfter notices accepts w input a b (RoseIfKept p x) session' result) d
    (still_cut notices accepts w input a b (RoseIfKept p q) session session' result same h)))))

-- it was taken, however far its frames were handed on
pub steps_cut : {E F : Type 0} (notices : List Notice) (accepts : Acceptance) (w : World)
    (input : Input) (a b : Told E F) (starved : Type 0) (session : Session)
    (result : Result Flow (RunError E F)) →
    CutsAfter notices accepts w input a b starved session result →
    StepsAfter notices accepts w input a b session result
steps_cut notices accepts w input a b starved session result (inl h) = inl h.0
steps_cut notices accepts w input a b starved session result (inr (e, is, h)) = inr (e, is, h.0)
