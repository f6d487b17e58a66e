use Rattle.std.proofs.Common.{rules, ◌≡◌, inl, sym, subst, Some, None}
use Rattle.ssh_scene.specs.Grammar.{cut, IsHexIn, IsSmall}
use Rattle.ssh_scene_ends.specs.EventLines.{FitsEvent, data_words}
use Rattle.ssh_scene_ends.proofs.events.data_event.Goals as goal

pub returns-in_default-3 : goal.returns-in_default-3
returns-in_default-3 c =
    let parts : cut c.args.rest.now ≡ Some (c.in-Some.number.now, c.in-Some.digits.now) =
    search rules in
    let number : IsSmall c.in-Some.number.now c.in-Some-2.channel.0 = search rules in
    let digits : IsHexIn c.in-Some.digits.now None = search rules in
    subst (λ x. FitsEvent (data_words c.args.side x) None) (sym parts)
    (inl (c.in-Some-2.channel.0, number, digits))
