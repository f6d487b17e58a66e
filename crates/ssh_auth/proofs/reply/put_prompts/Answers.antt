use Rattle.std.proofs.Common.{length, inl, inr, refl, ap, Err, arith}
use Rattle.ssh_auth.proofs.Prompting.{count_fits, text_fits, refused_for}
use Rattle.ssh_auth.proofs.reply.put_prompts.Goals as goal

pub returns-in_default-clause-refused : goal.returns-in_default-clause-refused
returns-in_default-clause-refused c =
    inr (refl, omega (arith, c.in_default.ensures, count_fits c.args.prompts.now))

pub returns-in_err-put_text-clause-refused : goal.returns-in_err-put_text-clause-refused
returns-in_err-put_text-clause-refused c =
    let fits = text_fits c.args.prompts.now c.loop-text.text-index c.loop-text-item.result
    c.loop-text-item.is c.loop-text-test.true in
    refused_for c.from_residual-in_err-put_text.result c.in_err-put_text.field-0.0 _
    c.from_residual-in_err-put_text.ensures.1
    (elim c.in_err-put_text.ensures.errors [
      | inl long ↦ inr (
        long,
        omega (
          arith,
          fits,
          ap length c.as_str.ensures,
          c.in_err-put_text.ensures.too_long.0 (ap Err long),
        ),
      )
      | inr memory ↦ inl memory
    ])
