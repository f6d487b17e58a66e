use Rattle.std.proofs.Common.{Some, subst}
use Rattle.ssh_rules.specs.Rows.{greets}
use Rattle.ssh_serving.specs.Serve.{Turned}
use Rattle.ssh_serving.proofs.server.Server.greet.Goals as goal

pub returns-in-Some-clause-does : goal.returns-in-Some-clause-does
returns-in-Some-clause-does g c = λ w r.
    rw c.in-Some.is (subst (λ m. Turned (greets (Some m)) w c.greet_with-greeted.new.self
    c.greet_with-greeted.result) c.as_str.ensures
    (c.greet_with-greeted.ensures.does w r))

pub returns-in-None-clause-does : goal.returns-in-None-clause-does
returns-in-None-clause-does g c = λ w r. rw c.in-None.is (c.greet_alone.ensures.does w r)
