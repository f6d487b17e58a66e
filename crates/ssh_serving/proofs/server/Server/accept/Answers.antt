use Rattle.std.proofs.Common.{◌∷◌, [], ap}
use Rattle.ssh_rules.specs.Acts.{acts}
use Rattle.ssh_rules.specs.Failure.{error_of_table, run_error_of}
use Rattle.ssh_rules.specs.Layout.{at_once}
use Rattle.ssh_rules.specs.Rows.{lets_in, finishes}
use Rattle.ssh_rules.specs.World.{writes}
use Rattle.ssh_serving.proofs.Refining.{staged}
use Rattle.ssh_serving.proofs.Requests.{let_in}
use Rattle.ssh_serving.proofs.Serving.{starved}
use Rattle.ssh_serving.proofs.server.Server.accept.Goals as goal

pub returns-in_err-user-clause-does : goal.returns-in_err-user-clause-does
returns-in_err-user-clause-does g c = λ w moment r later.
    starved _ (λ (_ : Unit {0}). acts later) _ c.args.self.now _ _ c.from_residual.ensures.1
    (ap run_error_of c.in_err-user.ensures.memory)

pub returns-in_err-stage-clause-does : goal.returns-in_err-stage-clause-does
returns-in_err-stage-clause-does g c = λ w moment r later.
    starved _ (λ (_ : Unit {0}). acts later) _ _ _ _
    c.from_residual-in_err-stage.ensures.1
    (ap error_of_table c.in_err-stage.ensures.memory)

pub returns-clause-does : goal.returns-clause-does
returns-clause-does g c = λ w moment r.
    c.call.ensures.does (writes (at_once c.args.reply ∷ []) (lets_in (finishes c.args.requested w)))
    (let_in c.args.requested c.in_ok-user.user _ _ (writes (at_once c.args.reply ∷ []) w)
    (staged c.new.result (at_once c.args.reply) c.args.self.now c.stage.new.self
    c.args.self.now.session_id_fits w c.new.ensures
    c.in_ok-stage.ensures.table r) (c.in_ok-user.ensures.ok w r))
