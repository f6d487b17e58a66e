use Rattle.std.proofs.Common.{refl, sym, ap, Ok, [], ◌∷◌, ◌∙◌}
use Rattle.ssh_auth.specs.declared.question.Question.TheVariants.{Judges}
use Rattle.ssh_auth.specs.Calls.{judged_call}
use Rattle.ssh_players.proofs.Telling.{tells_call, left_same}
use Rattle.ssh_players.proofs.script_handler.ScriptHandler.judges.Goals as goal

pub invariant_of-self : goal.invariant_of-self
invariant_of-self c = record {
  left = left_same c.keep.result _ _ _ _ (Judges c.args.judged)
      c.args.self.now.left c.keep.ensures.ok c.keep.ensures.err refl;
}

pub returns : goal.returns
returns c = tells_call _ _ _ _ _ _ (Judges c.args.judged) (Ok c.args.granted) _ c.args.self.now.left
    c.in_ok-keep.ensures.ok c.in_ok-keep.ensures.same
    (ap (λ g. judged_call c.args.judged (Ok g) [] ∷ []) c.requires.granted
    ∙ ap (λ l. judged_call c.args.judged (Ok c.args.granted) l ∷ []) (sym c.requires.fresh))
