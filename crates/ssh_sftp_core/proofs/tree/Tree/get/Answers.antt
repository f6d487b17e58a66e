use Rattle.std.proofs.Common.{ap, ◌∙◌}
use Rattle.std.specs.Prelude.{option_map}
use Rattle.std.specs.FinMap as map
use Rattle.ssh_sftp_core.proofs.Trees.{get_is, seen}
use Rattle.ssh_sftp_core.proofs.tree.Tree.get.Goals as goal

pub returns : goal.returns
returns c =
    seen c.get.result ∙ ap (option_map (λ file. file.items)) c.get.ensures.value
    ∙ get_is c.self.inside.files.entries c.args.path.now
    ∙ ap (λ tree. map.get tree c.args.path.now) c.self.view_is
