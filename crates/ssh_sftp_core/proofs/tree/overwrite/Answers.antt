use Rattle.std.proofs.Common.{sym, ap, refl, ◌∙◌, ◌+◌, ◌++◌, length, take, drop}
use Rattle.std.proofs.lemmas.List.{with_items_is}
use Rattle.ssh_sftp_core.proofs.Writing.{put_over}
use Rattle.ssh_sftp_core.proofs.tree.overwrite.Goals as goal

pub returns : goal.returns
returns c =
    let offset = c.args.offset in
    let bytes = c.args.bytes.now in
    record {
      ok = with_items_is c.lengthen.new.file c.replace.new.file
          (c.replace.auto.file ∙ ap length c.deref_mut.ensures.value ∙ sym c.lengthen.new.file.ok.0)
          ∙ c.replace.ensures
          ∙ ap (λ z. take offset z ++ bytes ++ drop (offset + length bytes) z)
          (c.deref_mut.ensures.value ∙ c.in_ok-lengthen.ensures.ok)
          ∙ put_over c.args.file.now.items offset bytes _ refl;
    }
