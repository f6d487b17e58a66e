use Rattle.std.proofs.Common.{subst}
use Rattle.ssh_rules.specs.Globals.{success, denial}
use Rattle.ssh_rules.specs.Spelling.{IsRead}
use Rattle.ssh_rules.specs.World.{is_there}
use Rattle.ssh_serving.proofs.Refining.{there_same}
use Rattle.ssh_serving.proofs.server.Server.read_message.Goals as goal

pub returns-in-RequestSuccess : goal.returns-in-RequestSuccess
returns-in-RequestSuccess c = λ w r.
    rw c.in-RequestSuccess.is (subst (λ first. IsRead (success first) c.args.fields.now
    c.success_message.result) (c.oldest.ensures w r) c.success_message.ensures)

pub returns-in-RequestFailure : goal.returns-in-RequestFailure
returns-in-RequestFailure c = λ w r.
    rw c.in-RequestFailure.is (subst (λ first. IsRead (denial first) c.args.fields.now
    c.failure_message.result) (c.oldest-in-RequestFailure.ensures w r) c.failure_message.ensures)

pub returns-in-Data : goal.returns-in-Data
returns-in-Data c = λ w r.
    rw c.in-Data.is (c.data_message.ensures (is_there w) (λ n. there_same n c.args.self.now w r))

pub returns-in-ExtendedData : goal.returns-in-ExtendedData
returns-in-ExtendedData c = λ w r.
    rw c.in-ExtendedData.is (c.extended_data_message.ensures (is_there w)
    (λ n. there_same n c.args.self.now w r))

pub returns-in-Request : goal.returns-in-Request
returns-in-Request c = λ w r.
    rw c.in-Request.is (c.request_message.ensures (is_there w)
    (λ n. there_same n c.args.self.now w r))
