use Rattle.std.proofs.Common.{rules, ◌≡◌, ◌++◌, ◌∷◌, [], Err, false, sym, ◌∙◌, ap, subst}
use Rattle.std.proofs.Common.{append_assoc}
use Rattle.std.proofs.lemmas.List.{append-nil, nil_from_length}
use Rattle.std.proofs.lemmas.Result.{err_from_is_err_and}
use Rattle.ssh_link.specs.declared.link.TraceEntry.TheVariants.{Sent}
use Rattle.ssh_rules.specs.Failure.{error_of_link}
use Rattle.ssh_serving.specs.Serve.{TellsEach}
use Rattle.ssh_serving.proofs.Finishing.{told_more, not_told}
use Rattle.ssh_serving.proofs.Serving.{hears_nothing, same_as, same_both}
use Rattle.ssh_serving.proofs.outside.send_each.Goals as goal

pub loop-frame-init : goal.loop-frame-init
loop-frame-init g c = record {
  items = search rules;
  does = hears_nothing false (g.O.Transport.heard c.args.outside.now);
  same = same_as (g.O.Transport.heard c.args.outside.now);
}

pub loop-frame-preserved : goal.loop-frame-preserved
loop-frame-preserved g c = record {
  items = append_assoc c.loop-frame.yielded (c.in-Some.frame ∷ []) c.next.new.self.rest.items
      ∙ ap (λ l. c.loop-frame.yielded ++ l) (sym c.in-Some.ensures.steps.0)
      ∙ c.loop-frame.invariant.items;
  does = told_more Sent c.loop-frame.yielded c.in-Some.frame _ _ _ c.loop-frame.invariant.does
      c.in_ok-send.ensures;
  same = same_both (g.O.Transport.heard c.args.outside.now)
      (g.O.Transport.heard c.loop-frame.outside) (g.O.Transport.heard c.send.new.self)
      c.loop-frame.invariant.same c.in_ok-send.ensures.0.0;
}

pub returns-in_err-send-clause-does : goal.returns-in_err-send-clause-does
returns-in_err-send-clause-does g c =
    let p = err_from_is_err_and c.from_residual.result c.from_residual.ensures.1 in
    subst (λ x. TellsEach Sent c.args.frames.items (g.O.Transport.heard c.args.outside.now)
    (g.O.Transport.heard c.send.new.self) x)
    (sym (p.1 ∙ ap Err p.2))
    (subst (λ l. TellsEach Sent l (g.O.Transport.heard c.args.outside.now)
    (g.O.Transport.heard c.send.new.self) (Err (error_of_link c.in_err-send.field-0.0)))
    c.loop-frame.invariant.items
    (not_told Sent c.loop-frame.yielded c.loop-frame.frame-iterator.rest.items
    c.next.new.self.rest.items c.in-Some.frame _ _ _ _ c.in-Some.ensures.steps.0
    c.loop-frame.invariant.does c.in_err-send.ensures))

pub returns-clause-does : goal.returns-clause-does
returns-clause-does g c =
    let none : c.loop-frame.frame-iterator.rest.items ≡ [] =
    nil_from_length c.loop-frame.frame-iterator.rest.items (search rules) in
    let e : c.loop-frame.yielded ≡ c.args.frames.items = sym (append-nil c.loop-frame.yielded)
    ∙ ap (λ l. c.loop-frame.yielded ++ l) (sym none) ∙ c.loop-frame.invariant.items in
    (c.loop-frame.yielded, c.loop-frame.invariant.does, e)
