use Rattle.std.proofs.Common.{OnOk, subst}
use Rattle.ssh_handles.specs.declared.channel.write_half.ChannelWriteHalf.{ChannelWriteHalf}
use Rattle.ssh_handles.specs.Handles.{writer_id, writer_view}
use Rattle.ssh_writers.specs.Writers.{WritesFirst, bytes_for}
use Rattle.ssh_writers.proofs.Writing.{written_then}
use Rattle.ssh_writers.proofs.writer.write_on.Goals as goal

pub returns-clause-wrote : goal.returns-clause-wrote
returns-clause-wrote g c =
    let first = subst (λ (half : ChannelWriteHalf). OnOk c.send_all-sent.result
    (WritesFirst (writer_id half) (bytes_for (writer_id half)) (writer_view half)
    (writer_view c.send_all-sent.new.half))) c.split-read.ensures.1 c.send_all-sent.ensures.wrote in
    written_then _ _ _ _ _ _ _ _ _ c.leave-written.ensures.result c.requires.new first
    c.into_seat-2.ensures.view c.join-2.ensures.meets
