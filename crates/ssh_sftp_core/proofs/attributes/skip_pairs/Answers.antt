use Rattle.std.proofs.Common.{◌∙◌, refl}
use Rattle.std.proofs.lemmas.Result.{err_from_is_err_and}
use Rattle.ssh_sftp_core.proofs.Fields.{pair_read, no_first, no_second, no_pairs_left}
use Rattle.ssh_sftp_core.proofs.attributes.skip_pairs.Goals as goal

pub returns-in_err-bytes : goal.returns-in_err-bytes
returns-in_err-bytes c =
    let p = err_from_is_err_and c.from_residual.result c.from_residual.ensures.1 in
    rw (p.1, p.2) (
      refl,
      c.loop-pair.invariant ∙ no_first c.args.count c.loop-pair._pair
          c.loop-pair.reader.left c.in_err-bytes.field-0.0 c.loop-pair-test.true
          c.in_err-bytes.ensures.misfit,
    )

pub returns-in_err-bytes-2 : goal.returns-in_err-bytes-2
returns-in_err-bytes-2 c =
    let p = err_from_is_err_and c.from_residual-in_err-bytes-2.result
    c.from_residual-in_err-bytes-2.ensures.1 in
    rw (p.1, p.2) (
      refl,
      c.loop-pair.invariant ∙ no_second c.args.count c.loop-pair._pair
          c.loop-pair.reader c.bytes.new.self c.in_ok-bytes.field-0.now c.in_err-bytes-2.field-0.0
          c.loop-pair-test.true c.in_ok-bytes.ensures.ok c.in_err-bytes-2.ensures.misfit,
    )

pub loop-pair-preserved : goal.loop-pair-preserved
loop-pair-preserved c =
    c.loop-pair.invariant ∙ pair_read c.args.count c.loop-pair._pair c.loop-pair.reader
    c.bytes.new.self c.bytes-in-loop-pair.new.self c.in_ok-bytes.field-0.now
    c.in_ok-bytes-2.field-0.now c.loop-pair-test.true c.in_ok-bytes.ensures.ok
    c.in_ok-bytes-2.ensures.ok

pub returns : goal.returns
returns c =
    c.loop-pair.invariant
    ∙ no_pairs_left c.args.count c.loop-pair._pair c.loop-pair.reader.left c.loop-pair-test.false
