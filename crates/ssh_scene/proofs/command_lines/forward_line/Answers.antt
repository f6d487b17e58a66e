use Rattle.std.proofs.Common.{rules, ◌≡◌, inl, inr, refl, sym, subst, Some, None}
use Rattle.std.specs.Prelude.{Option}
use Rattle.ssh_link.specs.declared.command.Command.TheVariants.{TcpipForward}
use Rattle.ssh_scene.specs.declared.lines.Line.{Line}
use Rattle.ssh_scene.specs.Grammar.{cut, commands, IsNumberIn, IsSmall, IsTextIn, Fits}
use Rattle.ssh_scene.specs.Grammar.{forward_words, forward_port}
use Rattle.ssh_scene.proofs.command_lines.forward_line.Goals as goal

pub returns-in_default-3 : goal.returns-in_default-3
returns-in_default-3 c =
    let parts : cut c.args.rest.now ≡ Some (c.in-Some.digits.now, c.in-Some.rest.now) =
    search rules in
    let more : cut c.in-Some.rest.now
    ≡ Some (c.in-Some-split_once.port.now, c.in-Some-split_once.slot.now) = search rules in
    let port : IsSmall c.in-Some-split_once.port.now c.in-Some-2.port = search rules in
    let address : IsTextIn c.in-Some.digits.now None = search rules in
    subst (λ x. Fits (forward_words x) None) (sym parts)
    (subst (λ x. Fits (forward_port c.in-Some.digits.now x) None) (sym more)
    (inl (c.in-Some-2.port, port, inr (address, refl))))

pub returns : goal.returns
returns c =
    let parts : cut c.args.rest.now ≡ Some (c.in-Some.digits.now, c.in-Some.rest.now) =
    search rules in
    let more : cut c.in-Some.rest.now
    ≡ Some (c.in-Some-split_once.port.now, c.in-Some-split_once.slot.now) = search rules in
    let port : IsSmall c.in-Some-split_once.port.now c.in-Some-2.port = search rules in
    let address : IsTextIn c.in-Some.digits.now (Some c.in-Some-3.address) = search rules in
    let slot : IsNumberIn c.in-Some-split_once.slot.now (Some c.in-Some-4.slot) = search rules in
    let said : Option Line = Some (commands
    (TcpipForward c.in-Some-3.address c.in-Some-2.port (Some c.in-Some-4.slot))) in
    subst (λ x. Fits (forward_words x) said) (sym parts)
    (subst (λ x. Fits (forward_port c.in-Some.digits.now x) said) (sym more)
    (inl (
      c.in-Some-2.port,
      port,
      inl (
        c.in-Some-3.address,
        address,
        (c.in-Some-4.slot, slot, refl),
      ),
    )))
