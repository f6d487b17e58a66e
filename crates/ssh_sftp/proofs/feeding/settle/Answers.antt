use Rattle.std.proofs.Common.{rules, ◌∙◌}
use Rattle.ssh_sftp.proofs.Joined.{settled}
use Rattle.ssh_sftp.proofs.feeding.settle.Goals as goal

pub returns-clause-ok : goal.returns-clause-ok
returns-clause-ok c =
    let number_read = c.in-Ok.ensures.ok in
    let packet_read = c.in-Ok-bytes.ensures.ok in
    settled c.args.files.now c.answer.new.self c.args.rest.now.items c.new-reader.result.left
    number_read.0 packet_read.0 c.u32.new.self.left c.in-Ok-bytes.packet.now c.bytes.new.self.left
    c.clear.new.self.items c.args.out.now.items c.answer.new.out.items c.in-Ok.length
    (c.new-reader.ensures.left ∙ c.deref.ensures.value)
    (search rules) number_read.1.1 number_read.1.0 packet_read.2.0 packet_read.1.1
    packet_read.1.0 c.requires (search rules) (search rules) (search rules)
    c.clear.ensures.items (search rules)
