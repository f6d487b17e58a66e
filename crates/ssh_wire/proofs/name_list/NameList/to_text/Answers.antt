use Rattle.std.proofs.Common.{ap, ◌∙◌, ◌∷◌, ◌++◌, [], take}
use Rattle.ssh_wire.specs.Names.{joined, comma}
use Rattle.ssh_wire.proofs.Names.{joined_first, joined_next}
use Rattle.ssh_wire.proofs.name_list.NameList.to_text.Goals as goal
use Rattle.ssh_wire.proofs.name_list.NameList.to_text.Goals.{then-place-gt0+in_ok-push}
use Rattle.ssh_wire.proofs.name_list.NameList.to_text.Goals.{else-place-gt0}

pub loop-place-preserved : goal.loop-place-preserved
unfolding lib.Utf8.encode
loop-place-preserved c =
    let names = c.deref-name-items.result.now in
    let place = c.loop-place.place in
    elim c.if-place-gt0.branch [
      | then-place-gt0+in_ok-push w ↦
          rw (
            c.in_ok-push_str.ensures.bytes,
            c.as_str.ensures,
            w.text-is,
            w.in_ok-push.ensures.bytes,
            c.loop-place.invariant,
          )
          (ap (λ name. (joined (take place names) ++ comma ∷ []) ++ name) c.name-item.is
          ∙ joined_next names place c.name-item.result c.loop-place-test.true w.if-place-gt0.true)
      | else-place-gt0 w ↦
          rw (c.in_ok-push_str.ensures.bytes, c.as_str.ensures, w.text-is, c.loop-place.invariant)
          (ap (λ name. joined (take place names) ++ name) c.name-item.is
          ∙ joined_first names place c.name-item.result c.loop-place-test.true w.if-place-gt0.false)
    ]
