-- A curve that is not there, another one, and a point that is not there.
use Rattle.std.proofs.Common.{[], ◌∷◌, inl, inr, refl}
use Rattle.ssh_wire.specs.Field.{Text, Bytes}
use Rattle.ssh_keys.specs.Algorithms.{curve_name}
use Rattle.ssh_keys.specs.Keys.{LacksKey}
use Rattle.ssh_keys.specs.declared.key_type.KeyType.TheVariants as type
use Rattle.ssh_keys.proofs.Layouts.{lacks_ecdsa, other_curve, no_string_after_text}
use Rattle.ssh_keys.proofs.Refusals.{from_field, lacking, differ}
use Rattle.ssh_keys.proofs.public_key.read_ecdsa.Goals as goal

pub returns-in_err-name-clause-refused : goal.returns-in_err-name-clause-refused
returns-in_err-name-clause-refused c =
    let why = c.in_err-name.field-0.0 in
    let start = c.args.r.now in
    from_field c.from_residual.result why (LacksKey (type.Ecdsa c.args.curve) start.left)
    c.from_residual.ensures.1
    (lacks_ecdsa c.args.curve start.left (lacking (Text ∷ Bytes ∷ []) start.left why
    (inl c.in_err-name.ensures.misfit)))

pub returns-then-ne-clause-refused : goal.returns-then-ne-clause-refused
returns-then-ne-clause-refused c =
    inr (
      refl,
      other_curve c.args.curve c.args.r.now c.text.new.self c.in_ok-name.name.now
          c.in_ok-name.ensures.ok
          (differ c.in_ok-name.name.now c.as_str.result.now (curve_name c.args.curve) c.ne.result
          c.ne.ensures c.if-ne.true c.as_str.ensures),
    )

pub returns-in_err-point-clause-refused : goal.returns-in_err-point-clause-refused
returns-in_err-point-clause-refused c =
    let why = c.in_err-point.field-0.0 in
    let start = c.args.r.now in
    from_field c.from_residual-in_err-point.result why
    (LacksKey (type.Ecdsa c.args.curve) start.left) c.from_residual-in_err-point.ensures.1
    (lacks_ecdsa c.args.curve start.left (lacking (Text ∷ Bytes ∷ []) start.left why
    (no_string_after_text start c.text.new.self c.in_ok-name.name.now why c.in_ok-name.ensures.ok
    c.in_err-point.ensures.misfit)))
