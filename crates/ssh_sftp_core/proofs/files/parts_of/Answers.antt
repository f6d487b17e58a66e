use Rattle.std.proofs.Common.{ap, ◌∙◌}
use Rattle.std.specs.Int.{w32, from_be_bytes}
use Rattle.ssh_sftp_core.proofs.Packets.{id_bytes}
use Rattle.ssh_sftp_core.proofs.files.parts_of.Goals as goal

pub returns-clause-id : goal.returns-clause-id
returns-clause-id c =
    c.from_be_bytes-id.ensures ∙ ap (from_be_bytes w32) (id_bytes c.args.packet.now c.requires)
