use Rattle.std.proofs.Common.{rules, ◌≡◌, inr, refl, sym, subst, Some, None}
use Rattle.ssh_scene.specs.Grammar.{cut, IsTextIn}
use Rattle.ssh_scene_gateway.specs.HostLines.{FitsHost, target_form}
use Rattle.ssh_scene_gateway.proofs.hosts.target_line.Goals as goal

pub returns-in-None : goal.returns-in-None
returns-in-None c =
    let parts : cut c.args.rest.now ≡ Some (c.in-Some.digits.now, c.in-Some.words.now) =
    search rules in
    let host : IsTextIn c.in-Some.digits.now None = search rules in
    subst (λ x. FitsHost (target_form x) None) (sym parts) (inr (host, refl))
