use Rattle.std.proofs.Common.{refl}
use Rattle.ssh_auth.specs.declared.question.Question.TheVariants.{Done}
use Rattle.ssh_players.proofs.Telling.{tells_done, left_same}
use Rattle.ssh_players.proofs.callbacks.ScriptHandlerHandler.command_done.Goals as goal

pub invariant_of-self : goal.invariant_of-self
invariant_of-self c = record {
  left = left_same c.keep.result _ _ _ _
      (Done c.args.place c.args.outcome) c.args.self.now.left c.keep.ensures.ok c.keep.ensures.err
      refl;
}

pub returns : goal.returns
returns c = tells_done c.keep.result _ _ _ _ _ _ c.args.place c.args.outcome c.args.self.now.left
    c.keep.ensures.ok c.keep.ensures.same c.keep.ensures.lost
