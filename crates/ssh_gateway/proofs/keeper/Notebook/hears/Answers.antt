use Rattle.ssh_auth.specs.declared.question.Question.TheVariants.{Lends}
use Rattle.ssh_auth.specs.Calls.{lent_call}
use Rattle.ssh_gateway.proofs.Telling.{tells_kept, lent_so}
use Rattle.ssh_gateway.proofs.keeper.Notebook.hears.Goals as goal

pub returns : goal.returns
returns g c = λ name auth. tells_kept c.keep.result name auth _ _ (Lends c.args.lent)
    (lent_call c.args.lent c.keep.result c.args.session.now.recorded) c.keep.ensures.ok
    c.keep.ensures.err
    (lent_so c.keep.result c.args.lent c.args.session.now.recorded c.requires.recorded)
