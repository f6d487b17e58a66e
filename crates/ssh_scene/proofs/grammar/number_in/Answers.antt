use Rattle.std.proofs.Common.{rules, ◌∙◌}
use Rattle.ssh_scene.proofs.Digits.{no_number, other_digits}
use Rattle.ssh_scene.proofs.grammar.number_in.Goals as goal

pub returns-in_default : goal.returns-in_default
returns-in_default c = no_number c.args.digits.now c.parse.result c.in_default.field-0
    c.parse.ensures.value.0 c.in_default.is

pub returns-then-ne : goal.returns-then-ne
returns-then-ne c = other_digits c.args.digits.now c.as_str.result.now c.parse.result c.in-Ok.n
    c.parse.ensures.value.0 c.in-Ok.is
    (c.as_str.ensures.value ∙ c.in_ok-written.ensures.ok) (search rules)
