use Rattle.std.proofs.Common.{refl}
use Rattle.ssh_auth.specs.declared.question.Question.TheVariants.{Lends}
use Rattle.ssh_players.proofs.Telling.{left_same, tells_lent}
use Rattle.ssh_players.proofs.script_handler.ScriptHandler.hears.Goals as goal

pub invariant_of-self : goal.invariant_of-self
invariant_of-self c = record {
  left = left_same c.keep.result _ _ _ _ (Lends c.args.lent)
      c.args.self.now.left c.keep.ensures.ok c.keep.ensures.err refl;
}

pub returns : goal.returns
returns c = tells_lent c.keep.result _ _ _ _ _ _ c.args.lent c.args.session.now.recorded
    c.args.self.now.left c.requires.recorded c.keep.ensures.ok c.keep.ensures.same
    c.keep.ensures.lost
