use Rattle.ssh_c.proofs.Fed.{fed_vouched}
use Rattle.ssh_c.proofs.held.Held.vouch_and_take.Goals as goal

pub returns-in-Ok : goal.returns-in-Ok
returns-in-Ok c =
    fed_vouched c.args.self.now c.take.new.self c.args.moment c.args.payload.now c.args.input
    c.vouch.new.self c.in-Ok.field-0 c.take.result c.requires c.in-Ok.ensures.vouches
    c.take.ensures.taken c.take.ensures.adds
