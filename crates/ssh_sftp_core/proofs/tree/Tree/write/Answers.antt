use Rattle.ssh_sftp_core.proofs.Trees.{written_is, missing_is}
use Rattle.ssh_sftp_core.proofs.tree.Tree.write.Goals.{in-Some+in_ok-overwrite, in_default}
use Rattle.ssh_sftp_core.proofs.tree.Tree.write.Goals as goal

pub returns-clause-ok : goal.returns-clause-ok
returns-clause-ok c = elim c.match-get_mut.branch [
  | in-Some+in_ok-overwrite w ↦ rw w.self-inside-is (written_is c.self.inside.files
      (c.get_mut.follows.lender w.overwrite.new.file) c.args.self.now c.args.path.now
      w.in-Some.file.now w.overwrite.new.file c.args.offset c.args.bytes.now c.self.view_is
      w.in-Some.ensures.value (c.get_mut.follows.holds w.overwrite.new.file).3
      w.in_ok-overwrite.ensures.ok)
  | in_default w ↦ missing_is c.self.inside.files c.args.self.now c.args.path.now _ c.self.view_is
      w.in_default.ensures.value
]
