use Rattle.std.proofs.Common.{◌≡◌, ◌≤◌, length, ◌∙◌, arith}
use Rattle.ssh_handles.proofs.Faultless.{no_fault}
use Rattle.ssh_handles.proofs.Sending.{so_far_more, stop_told}
use Rattle.ssh_handles.proofs.caller.Caller.send.Goals as goal

pub returns-in-Err-clause-entries : goal.returns-in-Err-clause-entries
returns-in-Err-clause-entries g c = stop_told c.args.channel c.args.ext _ _ _ _ _ _ _ _ c.in-Err.e _
    c.loop.invariant.3 c.in-Ok.ensures.taken c.in-Err.ensures.entries

pub returns-in-Err-clause-cause : goal.returns-in-Err-clause-cause
returns-in-Err-clause-cause g c = λ is. absurd
    (no_fault c.args.channel c.args.ext _ _ c.in-Err.e _ c.in-Err.ensures.entries (cc is))

pub loop-preserved : goal.loop-preserved
loop-preserved g c =
    let inv = c.loop.invariant in
    let le : c.in-Ok.length ≤ length c.read.new.buf =
    omega (arith, c.in-Ok.ensures.within, c.in-Ok.ensures.len) in (
      c.in_default-write_copy.ensures.hub ∙ inv.0,
      c.in_default-write_copy.ensures.room ∙ inv.1,
      c.in_default-write_copy.ensures.none,
      so_far_more c.args.channel c.args.ext _ _ _ _ _ _ _ _ _ _ inv.3 c.in-Ok.ensures.taken le
          c.in_default-write_copy.ensures.entries c.saturating_add-count.ensures,
      omega (arith, inv.4, c.read.ensures.later),
    )
