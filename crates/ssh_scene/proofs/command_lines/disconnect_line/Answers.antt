use Rattle.std.proofs.Common.{rules, ◌≡◌, inl, inr, refl, sym, subst, Some, None}
use Rattle.ssh_scene.specs.Grammar.{cut, IsSmall, IsTextIn, Fits, disconnect_of}
use Rattle.ssh_scene.specs.Grammar.{disconnect_text, disconnect_words}
use Rattle.ssh_scene.proofs.command_lines.disconnect_line.Goals as goal

pub returns-in_default-3 : goal.returns-in_default-3
returns-in_default-3 c =
    let parts : cut c.args.rest.now ≡ Some (c.in-Some.number.now, c.in-Some.digits.now) =
    search rules in
    let number : IsSmall c.in-Some.number.now c.in-Some-2.code = search rules in
    let reason : disconnect_of c.in-Some-2.code ≡ Some c.in-Some-disconnect_in.reason =
    search rules in
    let text : IsTextIn c.in-Some.digits.now None = search rules in
    subst (λ x. Fits (disconnect_words x) None) (sym parts)
    (inl (
      c.in-Some-2.code,
      number,
      subst (λ x. Fits (disconnect_text c.in-Some.digits.now x) None) (sym reason)
          (inr (text, refl)),
    ))
