use Rattle.std.proofs.Common.{rules, ◌≡◌, ◌++◌}
use Rattle.std.proofs.lemmas.Result.{err_from_is_err_and}
use Rattle.ssh_sftp.proofs.Joined.{serves_on, refuses_on, part_taken}
use Rattle.ssh_sftp.proofs.feeding.feed_into.Goals as goal

pub loop-left-preserved : goal.loop-left-preserved
loop-left-preserved c =
    let items : c.extend_from_slice.new.self.items
    ≡ c.loop-left.rest.items ++ c.split_at.result.0.now = search rules in
    let stream = c.args.rest.now.items ++ c.args.piece.now in
    let before = part_taken c.args.files.now c.loop-left.files stream c.loop-left.rest.items
    c.loop-left.left.now c.split_at.result.0.now c.split_at.result.1.now
    c.extend_from_slice.new.self.items c.args.out.now.items c.loop-left.out.items _
    c.split_at.ensures.front c.split_at.ensures.back items c.loop-left.invariant.0 in (
      serves_on c.args.files.now c.loop-left.files c.settle.new.files stream
          c.extend_from_slice.new.self.items c.settle.new.rest.items c.split_at.result.1.now
          c.args.out.now.items c.loop-left.out.items c.settle.new.out.items before
          c.in_ok-settle.ensures.ok,
      c.in_ok-settle.ensures.partial,
    )

pub returns-in_err-settle-clause-err : goal.returns-in_err-settle-clause-err
returns-in_err-settle-clause-err c =
    let items : c.extend_from_slice.new.self.items
    ≡ c.loop-left.rest.items ++ c.split_at.result.0.now = search rules in
    let stream = c.args.rest.now.items ++ c.args.piece.now in
    let before = part_taken c.args.files.now c.loop-left.files stream c.loop-left.rest.items
    c.loop-left.left.now c.split_at.result.0.now c.split_at.result.1.now
    c.extend_from_slice.new.self.items c.args.out.now.items c.loop-left.out.items _
    c.split_at.ensures.front c.split_at.ensures.back items c.loop-left.invariant.0 in
    let p = err_from_is_err_and c.from_residual-in_err-settle.result
    c.from_residual-in_err-settle.ensures.1 in
    rw (p.1, p.2) (refuses_on c.args.files.now c.loop-left.files c.in_err-settle.field-0.0 stream
    c.extend_from_slice.new.self.items c.split_at.result.1.now c.args.out.now.items
    c.loop-left.out.items c.settle.new.out.items before c.in_err-settle.ensures.err)
