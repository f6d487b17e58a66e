use Rattle.std.proofs.Common.{length, inl, inr, ap, Err, arith}
use Rattle.ssh_auth.specs.Layout.{pk_ok}
use Rattle.ssh_auth.proofs.Prompting.{name_fits, blob_fits, refused_for, too_long_for}
use Rattle.ssh_auth.proofs.reply.put_pk_ok.Goals as goal

pub returns-in_err-put_text-clause-refused : goal.returns-in_err-put_text-clause-refused
returns-in_err-put_text-clause-refused c =
    let fits = name_fits c.args.name.now c.args.blob.now in
    refused_for c.from_residual-in_err-put_text.result c.in_err-put_text.field-0.0 _
    c.from_residual-in_err-put_text.ensures.1
    (elim c.in_err-put_text.ensures.errors [
      | inl long ↦ inr (long, omega (arith, fits, c.in_err-put_text.ensures.too_long.0 (ap Err long)))
      | inr memory ↦ inl memory
    ])

pub returns-clause-refused : goal.returns-clause-refused
returns-clause-refused c =
    too_long_for c.put_bytes.result (length c.args.blob.now)
    (length (pk_ok c.args.name.now c.args.blob.now)) c.put_bytes.ensures.errors
    c.put_bytes.ensures.too_long (blob_fits c.args.name.now c.args.blob.now)
