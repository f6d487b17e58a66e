use Rattle.ssh_scene.proofs.Reasons.{the_reason}
use Rattle.ssh_scene.proofs.command_lines.reason_in.Goals as goal

pub returns : goal.returns
returns c = the_reason c.args.code c.from_u32.result c.from_u32.ensures.code
    c.from_u32.ensures.known
