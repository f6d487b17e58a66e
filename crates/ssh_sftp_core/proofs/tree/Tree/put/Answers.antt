use Rattle.std.proofs.Common.{ap, ◌∙◌}
use Rattle.std.specs.FinMap as map
use Rattle.ssh_sftp_core.proofs.Trees.{put_is}
use Rattle.ssh_sftp_core.proofs.tree.Tree.put.Goals as goal

pub returns-in-Ok-clause-ok : goal.returns-in-Ok-clause-ok
returns-in-Ok-clause-ok c =
    put_is c.self.inside.files c.insert.new.self c.args.path.items c.args.bytes
    c.in-Ok.ensures.updates
    ∙ ap (λ tree. map.insert tree c.args.path.items c.args.bytes.items) c.self.view_is
