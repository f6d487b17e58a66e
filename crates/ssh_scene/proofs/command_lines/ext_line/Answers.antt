use Rattle.std.proofs.Common.{rules, ◌≡◌, inl, refl, sym, subst, Some, None}
use Rattle.std.specs.Prelude.{Option}
use Rattle.ssh_link.specs.declared.command.Command.TheVariants.{ExtendedData}
use Rattle.ssh_scene.specs.declared.lines.Line.{Line}
use Rattle.ssh_scene.specs.Grammar.{cut, commands, IsHexIn, IsSmall, Fits, ext_words, ext_data}
use Rattle.ssh_scene.proofs.command_lines.ext_line.Goals as goal

pub returns-in_default-4 : goal.returns-in_default-4
returns-in_default-4 c =
    let parts : cut c.args.rest.now ≡ Some (c.in-Some.number.now, c.in-Some.rest.now) =
    search rules in
    let more : cut c.in-Some.rest.now
    ≡ Some (c.in-Some-split_once.code.now, c.in-Some-split_once.digits.now) = search rules in
    let number : IsSmall c.in-Some.number.now c.in-Some-2.channel.0 = search rules in
    let code : IsSmall c.in-Some-split_once.code.now c.in-Some-3.ext = search rules in
    let digits : IsHexIn c.in-Some-split_once.digits.now None = search rules in
    subst (λ x. Fits (ext_words x) None) (sym parts)
    (subst (λ x. Fits (ext_data c.in-Some.number.now x) None) (sym more)
    (inl (c.in-Some-2.channel.0, number, inl (c.in-Some-3.ext, code, digits))))

pub returns : goal.returns
returns c =
    let parts : cut c.args.rest.now ≡ Some (c.in-Some.number.now, c.in-Some.rest.now) =
    search rules in
    let more : cut c.in-Some.rest.now
    ≡ Some (c.in-Some-split_once.code.now, c.in-Some-split_once.digits.now) = search rules in
    let number : IsSmall c.in-Some.number.now c.in-Some-2.channel.0 = search rules in
    let code : IsSmall c.in-Some-split_once.code.now c.in-Some-3.ext = search rules in
    let digits : IsHexIn c.in-Some-split_once.digits.now (Some c.in-Some-4.bytes) = search rules in
    let said : Option Line = Some (commands
    (ExtendedData c.in-Some-2.channel c.in-Some-3.ext c.in-Some-4.bytes)) in
    subst (λ x. Fits (ext_words x) said) (sym parts)
    (subst (λ x. Fits (ext_data c.in-Some.number.now x) said) (sym more)
    (inl (
      c.in-Some-2.channel.0,
      number,
      inl (
        c.in-Some-3.ext,
        code,
        (c.in-Some-4.bytes, digits, refl),
      ),
    )))
