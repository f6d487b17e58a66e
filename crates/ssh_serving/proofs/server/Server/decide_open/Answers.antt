use Rattle.std.proofs.Common.{◌≡◌, ◌∙◌, Some, ap, subst, sym}
use Rattle.std.specs.Ordering.{nat_cmp}
use Rattle.std.specs.BTreeMap.{is_at}
use Rattle.std.specs.Map.{lookup}
use Rattle.ssh_rules.specs.Effect.{decides_open, decides}
use Rattle.ssh_rules.specs.Opens.{opening_of}
use Rattle.ssh_serving.specs.Serve.{HasEffect}
use Rattle.ssh_serving.proofs.server.Server.decide_open.Goals as goal

pub returns-in-None-clause-does : goal.returns-in-None-clause-does
returns-in-None-clause-does g c = λ w r.
    let a = c.args.answer in
    let n = a.channel.0 in
    let o = c.in-Some.opening in
    let e : Some o ≡ opening_of n w = c.in-Some.ensures ∙ c.get.ensures.value
    ∙ ap (lookup (is_at (nat_cmp n))) r.opens in
    subst (λ x. HasEffect (decides_open a x w) c.confirm_open.new.self c.confirm_open.result) e
    (subst (λ x. HasEffect (decides n o x a.texts w) c.confirm_open.new.self c.confirm_open.result)
    (sym c.in-None.is)
    (c.confirm_open.ensures.does w r))

pub returns-in-Some-rejection-clause-does : goal.returns-in-Some-rejection-clause-does
returns-in-Some-rejection-clause-does g c = λ w r.
    let a = c.args.answer in
    let n = a.channel.0 in
    let o = c.in-Some.opening in
    let e : Some o ≡ opening_of n w = c.in-Some.ensures ∙ c.get.ensures.value
    ∙ ap (lookup (is_at (nat_cmp n))) r.opens in
    subst (λ x. HasEffect (decides_open a x w) c.refuse_open.new.self c.refuse_open.result) e
    (subst (λ x. HasEffect (decides n o x a.texts w) c.refuse_open.new.self c.refuse_open.result)
    (sym c.in-Some-rejection.is)
    (c.refuse_open.ensures.does w r))
