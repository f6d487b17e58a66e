use Rattle.ssh_c.proofs.Fed.{fed_number, fed_plain}
use Rattle.ssh_c.proofs.held.Held.take_now.Goals as goal

pub returns : goal.returns
returns c =
    fed_number c.args.self.now c.take.new.self c.args.input c.take.result c.code_of.result
    c.code_of.ensures
    (fed_plain c.args.self.now c.take.new.self c.args.input c.take.result
    c.take.ensures.taken c.take.ensures.adds)
