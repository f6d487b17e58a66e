use Rattle.std.proofs.Common.{◌≡◌, ◌∙◌, ℕ, List, false, ap, subst}
use Rattle.ssh_wire.specs.declared.channel_id.ChannelId.{ChannelId}
use Rattle.ssh_link.specs.declared.command.Command.TheVariants.{Eof}
use Rattle.ssh_handles.specs.Callers.{IsPut}
use Rattle.ssh_handles.specs.Handles.{writer_id, writer_view}
use Rattle.ssh_writers.specs.Writers.{WritesFirst, bytes_for}
use Rattle.ssh_writers.proofs.Writing.{writes_first}
use Rattle.ssh_writers.proofs.writer.send_all.Goals as goal

pub returns-clause-wrote : goal.returns-clause-wrote
returns-clause-wrote g c =
    let channel = writer_id c.args.half.now in
    let bytes : c.in_ok-bytes.bytes ≡ bytes_for channel =
    c.in_ok-bytes.ensures ∙ ap bytes_for c.id-channel.ensures in
    let ended : IsPut (Eof channel) 0 false (writer_view c.data_bytes_through.new.self) c.eof.result
    (writer_view c.eof.new.self) =
    subst (λ (n : ChannelId). IsPut (Eof n) 0 false (writer_view c.data_bytes_through.new.self)
    c.eof.result (writer_view c.eof.new.self)) c.data_bytes_through.ensures.id
    c.eof.ensures.entries in
    subst (λ (b : List ℕ). WritesFirst channel b (writer_view c.args.half.now)
    (writer_view c.eof.new.self)) bytes
    (writes_first _ _ _ _ _ _ _ _ c.in_ok-data_bytes_through.was
    c.data_bytes_through.ensures.entries ended)
