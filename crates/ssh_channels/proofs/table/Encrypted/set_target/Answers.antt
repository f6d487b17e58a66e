use Rattle.std.proofs.Common.{refl}
use Rattle.ssh_channels.specs.Window as window
use Rattle.ssh_channels.proofs.Noting.{other_waiting}
use Rattle.ssh_channels.proofs.table.Encrypted.set_target.Goals as goal

pub invariant_of-self-2 : goal.invariant_of-self-2
invariant_of-self-2 c =
    let l = c.in-Some.line.now in
    other_waiting c.args.channel.0 c.self.inside.lines.entries _ l (window.aimed c.args.target l)
    c.self.inside.waiting.keys
    c.in-Some.ensures.value
    (c.get_mut.follows.holds (window.aimed c.args.target l)).0 c.self.invariant refl
