use Rattle.ssh_link.specs.declared.link.TraceEntry.TheVariants.{Noticed}
use Rattle.ssh_serving.proofs.Serving.{given, not_noticed, serves_nothing}
use Rattle.ssh_serving.proofs.server.Server.give.Goals as goal

pub returns-in_err-notice-in-Some-clause-does : goal.returns-in_err-notice-in-Some-clause-does
returns-in_err-notice-in-Some-clause-does g c = λ w r next.
    rw c.in-Some.is (not_noticed c.in-Some.notice next _ _ c.args.self.now _ _
    c.from_residual.ensures.1 c.in_err-notice-in-Some.ensures)

pub returns-in_ok-notice-in-Some-clause-does : goal.returns-in_ok-notice-in-Some-clause-does
returns-in_ok-notice-in-Some-clause-does g c = λ w r next.
    rw c.in-Some.is (given (Noticed c.in-Some.notice) next _ _ w c.args.self.now r
    c.in_ok-notice-in-Some.ensures)

pub returns-in-None-clause-does : goal.returns-in-None-clause-does
returns-in-None-clause-does g c = λ w r next.
    rw c.in-None.is (serves_nothing tt (λ (_ : Unit {0}) _. next) _ w c.args.self.now r)
