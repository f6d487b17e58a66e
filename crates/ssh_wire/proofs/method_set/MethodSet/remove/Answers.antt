use Rattle.std.proofs.Common.{rules, sym, ◌∙◌, ap, ◌∷◌, ◌++◌, [], get_or}
use denote.Enum.Bare.{differs_true, differs_false}
use Rattle.ssh_wire.specs.contracts.method.MethodKind.{the_type}
use Rattle.ssh_wire.specs.declared.method.MethodKind.TheVariants as kind
use Rattle.ssh_wire.proofs.MethodSets.{has-without, without-kept, without-left_out}
use Rattle.ssh_wire.proofs.method_set.MethodSet.remove.Goals as goal
use Rattle.ssh_wire.proofs.method_set.MethodSet.remove.Goals.{then-ne, else-ne}

pub append-requires : goal.append-requires
append-requires c = rw c.loop-kind.invariant
    (has-without c.args.method _ c.loop-kind.kind-index _ c.as_slice-kind-items.ensures.distinct
    c.loop-kind-test.true)

pub loop-kind-preserved : goal.loop-kind-preserved
loop-kind-preserved c =
    let methods = c.as_slice-kind-items.result.now in
    let place = c.loop-kind.kind-index in
    let next = get_or methods place kind.None in
    elim c.if-ne.branch [
      | then-ne w ↦ w.left-is
          ∙ w.append.ensures
          ∙ ap (λ before. before ++ next ∷ []) c.loop-kind.invariant
          ∙ sym (without-kept c.args.method methods place kind.None c.loop-kind-test.true
          (differs_true the_type _ _ (sym w.if-ne.ensures)))
      | else-ne w ↦ w.left-is
          ∙ c.loop-kind.invariant
          ∙ sym (without-left_out c.args.method methods place kind.None c.loop-kind-test.true
          (differs_false the_type (search rules) _ _ (sym w.if-ne.ensures)))
    ]
