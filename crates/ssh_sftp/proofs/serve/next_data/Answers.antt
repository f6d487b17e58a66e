use Rattle.std.proofs.Common.{[], refl, sym, ◌∙◌}
use Rattle.ssh_hub.proofs.Did.{did_nothing}
use Rattle.ssh_sftp.proofs.Seats.{heard_data, heard_end, heard_nothing}
use Rattle.ssh_sftp.proofs.serve.next_data.Goals as goal

pub loop-init : goal.loop-init
loop-init g c = (
  refl,
  refl,
  [],
  record { does = did_nothing _ c.args.half.now.caller.seat.legal; each = tt },
  refl,
)

pub returns-in-Data-clause-entries : goal.returns-in-Data-clause-entries
returns-in-Data-clause-entries g c = let inv = c.loop.invariant in
    heard_data _ _ _ _ _ inv.2 _ inv.1 inv.3 inv.4 c.wait.ensures.entries _ (sym c.in-Data.ensures)

pub returns-in-End-clause-entries : goal.returns-in-End-clause-entries
returns-in-End-clause-entries g c = let inv = c.loop.invariant in
    heard_end _ _ _ _ _ inv.2 _ inv.1 inv.3 inv.4 c.wait.ensures.entries (sym c.in-End.ensures)

pub loop-preserved : goal.loop-preserved
loop-preserved g c =
    let inv = c.loop.invariant in
    let all = heard_nothing _ _ _ _ _ inv.2 _ inv.1 inv.3 inv.4 c.wait.ensures.entries
    (sym c.in-Nothing.ensures) in
    (c.wait.ensures.hub ∙ inv.0, c.wait.ensures.id ∙ inv.1, all.0, all.1, all.2)
