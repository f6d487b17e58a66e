use Rattle.std.proofs.Common.{rules, ◌≡◌, inl, sym, subst, Some, None}
use Rattle.ssh_scene.specs.Grammar.{cut, IsHexIn, IsSmall}
use Rattle.ssh_scene_gateway.specs.HostLines.{FitsHost, target_words}
use Rattle.ssh_scene_gateway.proofs.hosts.target_of.Goals as goal

pub returns-in_default-3 : goal.returns-in_default-3
returns-in_default-3 c =
    let parts : cut c.args.rest.now ≡ Some (c.in-Some.number.now, c.in-Some.digits.now) =
    search rules in
    let port : IsSmall c.in-Some.number.now c.in-Some-2.port = search rules in
    let digits : IsHexIn c.in-Some.digits.now None = search rules in
    subst (λ x. FitsHost (target_words c.args.host x) None) (sym parts)
    (inl (c.in-Some-2.port, port, digits))
