use Rattle.std.proofs.Common.{◌≡◌, ◌<◌, length, map, inr, refl, arith}
use Rattle.std.proofs.lemmas.List.{length-map}
use Rattle.ssh_wire.specs.Field.{Number, Bytes}
use Rattle.ssh_wire.proofs.Outcomes.{not_so}
use Rattle.ssh_auth.proofs.Responses.{reads_more, misfits_next, misfits_end, fails_as}
use Rattle.ssh_auth.proofs.Signatures.{field_first}
use Rattle.ssh_auth.proofs.interactive.read_responses.Goals as goal

pub returns-in_err-bytes : goal.returns-in_err-bytes
returns-in_err-bytes c =
    let count = c.in_ok-count.count in
    let texts = map (λ text. text.now) c.loop.responses.items in
    let less : length texts < count = omega (
      arith,
      c.loop.invariant.0,
      c.loop-test.true,
      length-map c.loop.responses.items (λ text. text.now),
    ) in
    let announced = field_first Number c.new-reader.result c.u32.new.self c.args.fields.now count
    c.new-reader.ensures.left c.in_ok-count.ensures.ok in
    fails_as c.from_residual-in_err-bytes.result _ _ c.in_err-bytes.field-0.0
    c.from_residual-in_err-bytes.ensures.1
    (inr (inr (
      count,
      c.u32.new.self.left,
      announced,
      misfits_next texts count c.u32.new.self.left
          c.loop.reader.left c.in_err-bytes.field-0.0 less c.loop.invariant.1
          c.in_err-bytes.ensures.misfit,
    )))

pub loop-preserved : goal.loop-preserved
loop-preserved c =
    let item = c.in_ok-bytes.field-0 in (
      omega (arith, c.loop.invariant.0, c.in_ok-push.ensures.len),
      reads_more c.loop.responses.items c.push.new.self.items item c.u32.new.self.left
          c.loop.reader.left c.bytes.new.self.left c.in_ok-push.ensures.items c.loop.invariant.1
          (field_first Bytes c.loop.reader c.bytes.new.self c.loop.reader.left item.now refl
          c.in_ok-bytes.ensures.ok),
    )

pub returns-in_err-end : goal.returns-in_err-end
returns-in_err-end c =
    let count = c.in_ok-count.count in
    let texts = map (λ text. text.now) c.loop.responses.items in
    let same : length texts ≡ count = omega (
      arith,
      c.loop.invariant.0,
      c.loop-test.false,
      c.loop.auto.counter-end,
      length-map c.loop.responses.items (λ text. text.now),
    ) in
    let announced = field_first Number c.new-reader.result c.u32.new.self c.args.fields.now count
    c.new-reader.ensures.left c.in_ok-count.ensures.ok in
    fails_as c.from_residual-in_err-end.result _ _ c.in_err-end.field-0.0
    c.from_residual-in_err-end.ensures.1
    (inr (inr (
      count,
      c.u32.new.self.left,
      announced,
      misfits_end texts count c.u32.new.self.left c.loop.reader.left c.in_err-end.field-0.0 same
          c.loop.invariant.1 (not_so c.in_err-end.ensures.ok, c.in_err-end.ensures.trailing),
    )))
