use Rattle.std.proofs.Common.{◌≡◌, ◌++◌, List, ℕ, [], ◌∷◌, Ok, ap, refl, subst, sym, ◌∙◌}
use Rattle.std.specs.Prelude.{All}
use Rattle.ssh_link.specs.Exchange.{IsOfTransport}
use Rattle.ssh_link.specs.declared.kex.KexCall.TheVariants.{Begun}
use Rattle.ssh_auth.specs.Plan.{Plan, Ask}
use Rattle.ssh_auth.specs.declared.question.Question.TheVariants.{Begins}
use Rattle.ssh_rules.specs.Acts.{Beginning, acts, exchanged, frames_given, gives, moved}
use Rattle.ssh_rules.specs.Exchange.{begun}
use Rattle.ssh_rules.specs.Failure.{run_error_of}
use Rattle.ssh_rules.specs.Outcome.{Outcome}
use Rattle.ssh_serving.specs.Serve.{Refines, Serves}
use Rattle.ssh_rules.proofs.Plans.Exchanging.{kexinit_given}
use Rattle.ssh_serving.proofs.Refining.{rekeyed}
use Rattle.ssh_serving.specs.Handing.{IsCutBefore, ServesTo}
use Rattle.ssh_serving.proofs.Handing.{asked_no_frame, exchange_failed_to, passed_to, starved_to}
use Rattle.ssh_serving.proofs.Handing.{then_before}
use Rattle.ssh_serving.proofs.Serving.{exchange_asked, served_both, serves_nothing}
use Rattle.ssh_serving.proofs.server.Server.begin_exchange.Goals as goal

pub give_payloads-requires : goal.give_payloads-requires
give_payloads-requires g c = record {
  transport = subst (All IsOfTransport)
      (sym (c.in_ok-push.ensures.ok ∙ ap (λ l. l ++ c.in_ok-payload.payload ∷ [])
      c.new-payloads.ensures))
      (kexinit_given c.in_ok-payload.payload c.in_ok-payload.ensures.kexinit);
}

pub returns-in_err-payload-clause-does : goal.returns-in_err-payload-clause-does
returns-in_err-payload-clause-does g c = λ w r later.
    let next : List ℕ → Plan Outcome = λ payload. exchanged Beginning payload w (acts later) in
    passed_to {U = Unit {0}} IsCutBefore (Ask Begins next) (λ (_ : Unit {0}). acts later)
    (λ (_ : Unit {0}). acts later) _ _ c.args.self.now c.args.self.now _ _ c.from_residual.ensures.1
    (exchange_failed_to Begins next (λ (_ : Unit {0}). acts later) Begun _ _ c.args.self.now _
    c.in_err-payload.ensures.begun (λ e. refl))

pub returns-in_err-push-clause-does : goal.returns-in_err-push-clause-does
returns-in_err-push-clause-does g c = λ w r later.
    let payload = c.in_ok-payload.payload in
    let next : List ℕ → Plan Outcome = λ payload. exchanged Beginning payload w (acts later) in
    let first : Serves (Ask Begins next) (λ given _. next given)
    (g.O.Transport.heard c.args.outside.now) (g.O.Transport.heard c.begin_exchange.new.self)
    c.args.self.now (Ok payload) = exchange_asked Begins payload next (Begun (Ok payload)) _ _ w
    c.args.self.now r c.in_ok-payload.ensures.begun.0 c.in_ok-payload.ensures.begun.1 refl in
    then_before payload (Ask Begins next) (λ given _. next given) (λ (_ : Unit {0}). acts later) _ _
    _ c.args.self.now c.args.self.now _ first
    (asked_no_frame Begins payload next (Begun (Ok payload)) _ _ w c.args.self.now r
    c.in_ok-payload.ensures.begun.0 c.in_ok-payload.ensures.begun.1 refl)
    (λ _ _. starved_to (next payload) (λ (_ : Unit {0}). acts later) _ c.args.self.now _ _
    c.from_residual-in_err-push.ensures.1 (ap run_error_of c.in_err-push.ensures.memory))

pub returns-in_err-give_payloads-clause-does : goal.returns-in_err-give_payloads-clause-does
returns-in_err-give_payloads-clause-does g c = λ w r later.
    let payload = c.in_ok-payload.payload in
    let next : List ℕ → Plan Outcome = λ payload. exchanged Beginning payload w (acts later) in
    let rest = acts later (moved Beginning payload w) in
    let one : c.push.new.self ≡ payload ∷ [] =
    c.in_ok-push.ensures.ok ∙ ap (λ l. l ++ payload ∷ []) c.new-payloads.ensures in
    let first : Serves (Ask Begins next) (λ given _. next given)
    (g.O.Transport.heard c.args.outside.now) (g.O.Transport.heard c.begin_exchange.new.self)
    c.args.self.now (Ok payload) = exchange_asked Begins payload next (Begun (Ok payload)) _ _ w
    c.args.self.now r c.in_ok-payload.ensures.begun.0 c.in_ok-payload.ensures.begun.1 refl in
    then_before payload (Ask Begins next) (λ given _. next given) (λ (_ : Unit {0}). acts later) _ _
    _ c.args.self.now c.give_payloads.new.self _ first
    (asked_no_frame Begins payload next (Begun (Ok payload)) _ _ w c.args.self.now r
    c.in_ok-payload.ensures.begun.0 c.in_ok-payload.ensures.begun.1 refl)
    (λ _ _. passed_to {U = Unit {0}} IsCutBefore (next payload) (λ _ _. rest)
    (λ (_ : Unit {0}). acts later) _ _ c.give_payloads.new.self c.give_payloads.new.self _ _
    c.from_residual-in_err-give_payloads.ensures.1
    (rw one at (c.in_err-give_payloads.ensures.does w r rest)))

pub returns-clause-does : goal.returns-clause-does
returns-clause-does g c = λ w r later.
    let payload = c.in_ok-payload.payload in
    let next : List ℕ → Plan Outcome = λ payload. exchanged Beginning payload w (acts later) in
    let to = moved Beginning payload w in
    let rest = acts later to in
    let one : c.push.new.self ≡ payload ∷ [] =
    c.in_ok-push.ensures.ok ∙ ap (λ l. l ++ payload ∷ []) c.new-payloads.ensures in
    let q : Refines c.give_payloads.new.self (gives (frames_given (payload ∷ [])) w) =
    rw one at (c.in_ok-give_payloads.ensures.world w r) in
    let given : ServesTo IsCutBefore (next payload) (λ (_ : Unit {0}) _. rest)
    (g.O.Transport.heard c.begin_exchange.new.self)
    (g.O.Transport.heard c.give_payloads.new.outside) c.give_payloads.new.self (Ok tt) =
    rw one at (c.in_ok-give_payloads.ensures.does w r rest) in (
      served_both payload (Ask Begins next) (λ given _. next given) (λ (_ : Unit {0}). acts later)
          _ _ _ c.args.self.now _ (Ok tt)
          (exchange_asked Begins payload next (Begun (Ok payload)) _ _ w c.args.self.now r
          c.in_ok-payload.ensures.begun.0 c.in_ok-payload.ensures.begun.1 refl)
          (λ _ _. served_both tt (next payload) (λ (_ : Unit {0}) _. rest)
          (λ (_ : Unit {0}). acts later) _ _ _ c.give_payloads.new.self _ (Ok tt) given.0
          (λ _ _. serves_nothing tt (λ (_ : Unit {0}). acts later) _ to _
          (rekeyed c.give_payloads.new.self _ _ (gives (frames_given (payload ∷ [])) w) to.keys
          (ap begun q.keys) q))),
      tt,
    )
