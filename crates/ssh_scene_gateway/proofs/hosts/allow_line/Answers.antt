use Rattle.std.proofs.Common.{rules, ◌≡◌, inl, inr, refl, sym, subst, Some, None}
use Rattle.ssh_scene.specs.Grammar.{cut, IsTextIn, IsSmallIn}
use Rattle.ssh_scene_gateway.specs.HostLines.{FitsHost, allow_words}
use Rattle.ssh_scene_gateway.proofs.hosts.allow_line.Goals as goal

pub returns-in_default-2 : goal.returns-in_default-2
returns-in_default-2 c =
    let parts : cut c.args.rest.now ≡ Some (c.in-Some.digits.now, c.in-Some.number.now) =
    search rules in
    let host : IsTextIn c.in-Some.digits.now None = search rules in
    subst (λ x. FitsHost (allow_words x) None) (sym parts) (inr (host, refl))

pub returns-in_default-3 : goal.returns-in_default-3
returns-in_default-3 c =
    let parts : cut c.args.rest.now ≡ Some (c.in-Some.digits.now, c.in-Some.number.now) =
    search rules in
    let host : IsTextIn c.in-Some.digits.now (Some c.in-Some-2.host) = search rules in
    let port : IsSmallIn c.in-Some.number.now None = search rules in
    subst (λ x. FitsHost (allow_words x) None) (sym parts)
    (inl (c.in-Some-2.host, host, inr (port, refl)))
