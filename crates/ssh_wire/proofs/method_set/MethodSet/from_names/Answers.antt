use Rattle.std.proofs.Common.{◌∙◌, subst}
use Rattle.ssh_wire.specs.Methods.{IsNoMethod}
use Rattle.ssh_wire.proofs.MethodNames.{pushed_all-named, pushed_all-unknown}
use Rattle.ssh_wire.proofs.method_set.MethodSet.from_names.Goals as goal
use Rattle.ssh_wire.proofs.method_set.MethodSet.from_names.Goals.{in-Ok, in_default}

pub loop-name-preserved : goal.loop-name-preserved
loop-name-preserved c =
    let names = c.as_slice-name-items.result.now in
    let place = c.loop-name.name-index in
    elim c.match-parse.branch [
      | in-Ok w ↦ rw (w.methods-is, w.push.ensures)
          (pushed_all-named names place c.name-item.result w.in-Ok.method c.loop-name.methods
          c.loop-name-test.true
          (w.in-Ok.ensures.value ∙ c.as_str.ensures ∙ c.name-item.is)
          ∙ c.loop-name.invariant)
      | in_default w ↦ rw w.methods-is
          (pushed_all-unknown names place c.name-item.result c.loop-name.methods
          c.loop-name-test.true
          (subst IsNoMethod (c.as_str.ensures ∙ c.name-item.is) w.in_default.ensures.value)
          ∙ c.loop-name.invariant)
    ]
