use Rattle.std.proofs.Common.{ap, ◌∙◌}
use Rattle.std.specs.Prelude.{option_map}
use Rattle.std.specs.FinMap as map
use Rattle.ssh_sftp_core.proofs.Trees.{taken_is, get_is}
use Rattle.ssh_sftp_core.proofs.tree.Tree.take.Goals as goal

pub returns-clause-found : goal.returns-clause-found
returns-clause-found c =
    ap (option_map (λ file. file.items)) c.remove.ensures.value
    ∙ get_is c.self.inside.files.entries c.args.path.now
    ∙ ap (λ tree. map.get tree c.args.path.now) c.self.view_is

pub returns-clause-without : goal.returns-clause-without
returns-clause-without c =
    taken_is c.self.inside.files c.remove.new.self c.args.path.now c.remove.ensures.updates
    ∙ ap (λ tree. map.remove tree c.args.path.now) c.self.view_is
