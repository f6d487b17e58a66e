use Rattle.std.proofs.Common.{refl, Ok}
use Rattle.ssh_auth.specs.declared.question.Question.TheVariants.{Adjusts}
use Rattle.ssh_players.proofs.Telling.{tells_call, left_same}
use Rattle.ssh_players.proofs.callbacks.ScriptHandlerHandler.adjust_window.Goals as goal

pub invariant_of-self : goal.invariant_of-self
invariant_of-self c = record {
  left = left_same c.keep.result _ _ _ _
      (Adjusts c.args.channel c.args.current) c.args.self.now.left c.keep.ensures.ok
      c.keep.ensures.err refl;
}

pub returns : goal.returns
returns c = tells_call _ _ _ _ _ _ (Adjusts c.args.channel c.args.current) (Ok c.args.current) _
    c.args.self.now.left c.in_ok-keep.ensures.ok c.in_ok-keep.ensures.same refl
