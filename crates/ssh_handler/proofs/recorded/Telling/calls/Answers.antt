use Rattle.ssh_handler.proofs.Records.{told_items}
use Rattle.ssh_handler.proofs.recorded.Telling.calls.Goals as goal

pub returns : goal.returns
returns g c =
    told_items c.self.inside.goes_on c.self.inside.calls.items c.as_slice.result.now
    c.args.self.now c.self.view_is c.as_slice.ensures.value
