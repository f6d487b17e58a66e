use Rattle.ssh_scene.proofs.Texts.{no_bytes}
use Rattle.ssh_scene.proofs.grammar.text_in.Goals as goal

pub returns-in_default : goal.returns-in_default
returns-in_default c = no_bytes c.args.digits.now c.in_ok-bytes.field-0 c.in_ok-bytes.ensures
    c.in_default.is
