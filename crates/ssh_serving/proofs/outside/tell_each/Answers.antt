use Rattle.std.proofs.Common.{◌≡◌, ◌++◌, ◌∷◌, [], Err, false, length, arith, refl, sym, ◌∙◌, ap}
use Rattle.std.proofs.Common.{subst, append_assoc}
use Rattle.std.proofs.lemmas.List.{append-nil}
use Rattle.std.proofs.lemmas.Result.{err_from_is_err_and}
use Rattle.ssh_link.specs.declared.link.TraceEntry.TheVariants.{Noticed}
use Rattle.ssh_rules.specs.Failure.{error_of_link}
use Rattle.ssh_serving.specs.Serve.{TellsEach}
use Rattle.ssh_serving.proofs.Finishing.{told_more, not_told, none_left}
use Rattle.ssh_serving.proofs.Serving.{hears_nothing, same_as, same_both}
use Rattle.ssh_serving.proofs.outside.tell_each.Goals as goal

pub loop-told-init : goal.loop-told-init
loop-told-init g c =
    let none = hears_nothing false (g.O.Transport.heard c.args.outside.now) in
    ([], refl, omega arith, none, same_as (g.O.Transport.heard c.args.outside.now))

pub loop-told-preserved : goal.loop-told-preserved
loop-told-preserved g c =
    let i = c.loop-told.invariant in
    let popped = c.in-Some.ensures.items in
    let count = i.2 in
    let fewer = ap length popped in (
      i.0 ++ c.in-Some.notice ∷ [],
      append_assoc i.0 (c.in-Some.notice ∷ []) c.pop_front.new.self.items
          ∙ ap (λ l. i.0 ++ l) (sym popped) ∙ i.1,
      omega (arith, count, fewer),
      told_more Noticed i.0 c.in-Some.notice _ _ _ i.3 c.in_ok-notice.ensures,
      same_both (g.O.Transport.heard c.args.outside.now)
          (g.O.Transport.heard c.loop-told.outside) (g.O.Transport.heard c.notice.new.self) i.4
          c.in_ok-notice.ensures.0.0,
    )

pub returns-in_err-notice-clause-does : goal.returns-in_err-notice-clause-does
returns-in_err-notice-clause-does g c =
    let i = c.loop-told.invariant in
    let p = err_from_is_err_and c.from_residual.result c.from_residual.ensures.1 in
    subst (λ x. TellsEach Noticed c.args.notices.now.items (g.O.Transport.heard c.args.outside.now)
    (g.O.Transport.heard c.notice.new.self) x)
    (sym (p.1 ∙ ap Err p.2))
    (subst (λ l. TellsEach Noticed l (g.O.Transport.heard c.args.outside.now)
    (g.O.Transport.heard c.notice.new.self) (Err (error_of_link c.in_err-notice.field-0.0)))
    i.1
    (not_told Noticed i.0 c.loop-told.notices.items c.pop_front.new.self.items c.in-Some.notice _ _
    _ _ c.in-Some.ensures.items i.3 c.in_err-notice.ensures))

pub returns-clause-does : goal.returns-clause-does
returns-clause-does g c =
    let i = c.loop-told.invariant in
    let count = i.2 in
    let end = c.len-told-end.ensures in
    let over = c.loop-told-test.false in
    let none : c.loop-told.notices.items ≡ [] = none_left c.loop-told.notices.items
    (omega (arith, count, end, over)) in
    let all : i.0 ≡ c.args.notices.now.items =
    sym (append-nil i.0) ∙ ap (λ l. i.0 ++ l) (sym none) ∙ i.1 in
    (i.0, i.3, all)
