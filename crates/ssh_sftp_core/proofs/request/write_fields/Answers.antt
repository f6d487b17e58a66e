use Rattle.std.proofs.Common.{rules, ◌≡◌, sym, ap, ◌∙◌, [], ◌∷◌}
use Rattle.ssh_wire.specs.Field.{Long, Bytes}
use Rattle.ssh_sftp_core.specs.Layouts.{decoded}
use Rattle.ssh_sftp_core.proofs.Fields.{decoded_three, first_bytes, first_long}
use Rattle.ssh_sftp_core.proofs.request.write_fields.Goals as goal

pub returns : goal.returns
returns c =
    let none : c.bytes-2.new.self.left ≡ [] = search rules in
    ap (decoded (Bytes ∷ Long ∷ Bytes ∷ [])) (sym c.new-reader.ensures.left)
    ∙ decoded_three Bytes Long Bytes c.new-reader.result.left c.bytes.new.self.left
    c.u64.new.self.left c.bytes-2.new.self.left c.in_ok-handle.handle.now c.in_ok-offset.offset
    c.in_ok-bytes.bytes.now
    (first_bytes c.new-reader.result c.bytes.new.self c.in_ok-handle.handle.now
    c.in_ok-handle.ensures.ok)
    (first_long c.bytes.new.self c.u64.new.self c.in_ok-offset.offset c.in_ok-offset.ensures.ok)
    (first_bytes c.u64.new.self c.bytes-2.new.self c.in_ok-bytes.bytes.now c.in_ok-bytes.ensures.ok)
    none
