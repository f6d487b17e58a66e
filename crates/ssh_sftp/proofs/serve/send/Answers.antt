use Rattle.std.proofs.Common.{[], Ok, Err, refl, subst}
use Rattle.ssh_hub.proofs.Did.{did_nothing}
use Rattle.ssh_handles.specs.Handles.{writer_id, writer_view}
use Rattle.ssh_sftp.specs.declared.error.SftpError.TheVariants.{Handle}
use Rattle.ssh_sftp.specs.Serving.{Sends}
use Rattle.ssh_sftp.proofs.Seats.{sent, unsent}
use Rattle.ssh_sftp.proofs.serve.send.Goals as goal

pub returns-in_default-clause-entries : goal.returns-in_default-clause-entries
returns-in_default-clause-entries g c = (
  [],
  record { does = did_nothing _ c.args.half.now.caller.seat.legal; each = tt },
  (c.args.out.items, refl),
  tt,
)

pub returns-in-Ok-data_bytes-clause-entries : goal.returns-in-Ok-data_bytes-clause-entries
returns-in-Ok-data_bytes-clause-entries g c =
    let half = c.args.half.now in
    subst (λ z. Sends (writer_id half) z (writer_view half) (Ok tt)
    (writer_view c.data_bytes.new.self)) c.in-Ok.ensures.ok
    (sent (writer_id half) c.in-Ok.bytes (writer_view half) (writer_view c.data_bytes.new.self)
    c.in-Ok-data_bytes.ensures.entries)

pub returns-in-Err-clause-entries : goal.returns-in-Err-clause-entries
returns-in-Err-clause-entries g c =
    let half = c.args.half.now in
    subst (λ z. Sends (writer_id half) z (writer_view half) (Err (Handle c.in-Err.e))
    (writer_view c.data_bytes.new.self)) c.in-Ok.ensures.ok
    (unsent (writer_id half) c.in-Ok.bytes (writer_view half)
    (writer_view c.data_bytes.new.self) c.in-Err.e c.in-Err.ensures.entries)
