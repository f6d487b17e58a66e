use Rattle.std.proofs.Common.{◌∙◌, sym, subst, IfOk, IfErr}
use Rattle.ssh_ends.specs.Ends.{Posts, Happens, FailsFor}
use Rattle.ssh_ends.proofs.Happening.{a_happens, b_happens, a_fails, b_fails}
use Rattle.ssh_ends.proofs.ends.Ends.event.Goals as goal

pub returns-in-A-clause-happens : goal.returns-in-A-clause-happens
returns-in-A-clause-happens c =
    let b = c.self.inside in
    subst (λ (o : Posts). IfOk c.turn.result (Happens c.args.event o (record {
      a = c.turn.new.self;
      b = c.turn.new.other;
    }))) c.self.view_is
    (a_happens c.args.event b.a b.b c.turn.new.self c.turn.new.other c.turn.result
    (sym c.actor.ensures ∙ c.in-A.is) c.turn.ensures.turned c.turn.ensures.ranged)

pub returns-in-A-clause-memory : goal.returns-in-A-clause-memory
returns-in-A-clause-memory c =
    let b = c.self.inside in
    subst (λ (o : Posts). IfErr c.turn.result (FailsFor c.args.event o)) c.self.view_is
    (a_fails c.args.event b.a b.b c.turn.new.self c.turn.new.other c.turn.result
    (sym c.actor.ensures ∙ c.in-A.is) c.turn.ensures.errors)

pub returns-in-B-clause-happens : goal.returns-in-B-clause-happens
returns-in-B-clause-happens c =
    let b = c.self.inside in
    subst (λ (o : Posts). IfOk c.turn-in-B.result (Happens c.args.event o (record {
      a = c.turn-in-B.new.other;
      b = c.turn-in-B.new.self;
    }))) c.self.view_is
    (b_happens c.args.event b.a b.b c.turn-in-B.new.other c.turn-in-B.new.self
    c.turn-in-B.result (sym c.actor.ensures ∙ c.in-B.is) c.turn-in-B.ensures.turned
    c.turn-in-B.ensures.ranged)

pub returns-in-B-clause-memory : goal.returns-in-B-clause-memory
returns-in-B-clause-memory c =
    let b = c.self.inside in
    subst (λ (o : Posts). IfErr c.turn-in-B.result (FailsFor c.args.event o)) c.self.view_is
    (b_fails c.args.event b.a b.b c.turn-in-B.new.other c.turn-in-B.new.self c.turn-in-B.result
    (sym c.actor.ensures ∙ c.in-B.is) c.turn-in-B.ensures.errors)
