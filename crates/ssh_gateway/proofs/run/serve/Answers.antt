use Rattle.std.proofs.Common.{refl, ◌∙◌, ap, Some, []}
use Rattle.ssh_session.specs.Between.{untold}
use Rattle.ssh_gateway.specs.Answering.{told_of}
use Rattle.ssh_gateway.proofs.Serving.{served_so, stops}
use Rattle.ssh_gateway.proofs.run.serve.Goals as goal

pub returns-in-Ok-clause-served : goal.returns-in-Ok-clause-served
returns-in-Ok-clause-served g c = λ w calls r silent live repeats kept tells.
    served_so (g.V.Verifier.accepts c.args.verifier.now) w c.args.input
    c.args.keeper.now.auth.ghost_name c.step.new.handler.auth.ghost_name calls
    (g.A.AuthHandler.told c.step.new.handler.auth.now) c.step.new.handler.notebook.now
    (untold c.args.session.now) _ _ c.step.new.self c.in-Ok.flow silent live
    (c.in-Ok.ensures.taken w r repeats)
    (ap (λ n. told_of c.args.keeper.now.auth.ghost_name
    (g.A.AuthHandler.told c.args.keeper.now.auth.now) n) kept
    ∙ ap (λ a. told_of c.args.keeper.now.auth.ghost_name a (Some [])) tells) refl

pub returns-then-is_lost-clause-served : goal.returns-then-is_lost-clause-served
returns-then-is_lost-clause-served g c = λ w calls r silent live repeats kept tells.
    stops (g.V.Verifier.accepts c.args.verifier.now) w c.args.input
    c.args.keeper.now.auth.ghost_name c.step.new.handler.auth.ghost_name calls
    (g.A.AuthHandler.told c.step.new.handler.auth.now) c.step.new.handler.notebook.now
    (untold c.args.session.now) _ _ c.step.new.self c.in-Err.why _
    (λ other. absurd (other refl)) (λ other. absurd (other refl)) silent live (c.in-Err.ensures.taken w r repeats)
    (ap (λ n. told_of c.args.keeper.now.auth.ghost_name
    (g.A.AuthHandler.told c.args.keeper.now.auth.now) n) kept
    ∙ ap (λ a. told_of c.args.keeper.now.auth.ghost_name a (Some [])) tells) refl

pub returns-else-is_lost-clause-served : goal.returns-else-is_lost-clause-served
returns-else-is_lost-clause-served g c = λ w calls r silent live repeats kept tells.
    stops (g.V.Verifier.accepts c.args.verifier.now) w c.args.input
    c.args.keeper.now.auth.ghost_name c.step.new.handler.auth.ghost_name calls
    (g.A.AuthHandler.told c.step.new.handler.auth.now) c.step.new.handler.notebook.now
    (untold c.args.session.now) _ _ c.step.new.self c.in-Err.why _
    (λ other. c.lowered-error.ensures.is) (λ other. c.is_lost.ensures.kept c.if-is_lost.false) silent live (c.in-Err.ensures.taken w r repeats)
    (ap (λ n. told_of c.args.keeper.now.auth.ghost_name
    (g.A.AuthHandler.told c.args.keeper.now.auth.now) n) kept
    ∙ ap (λ a. told_of c.args.keeper.now.auth.ghost_name a (Some [])) tells) refl
