use Rattle.std.proofs.Common.{subst}
use Rattle.std.specs.Prelude.{OnOk, IfErr}
use Rattle.ssh_handles.specs.Handles.{writer_id, writer_view}
use Rattle.ssh_sftp.specs.Replies.{Serves, RefusesAt, stream_of}
use Rattle.ssh_sftp.proofs.Channels.{answered}
use Rattle.ssh_sftp.proofs.serve.answer.Goals as goal

pub returns-clause-entries : goal.returns-clause-entries
returns-clause-entries g c =
    let before = c.args.server.now in
    let after = c.feed-fed.new.self in
    let half = c.args.half.now in
    let fed = c.feed-fed.ensures in
    let stream = stream_of before c.args.piece.now in
    let out = c.feed-fed.new.out.items in
    rw c.and.ensures (answered before after c.args.piece.now out (writer_id half) (writer_view half)
    (writer_view c.send-sent.new.half) c.feed-fed.result c.send-sent.result c.requires fed.failed
    (subst (λ z. OnOk c.feed-fed.result (Serves before.files stream after.files after.rest z out))
    c.new-out.ensures.items fed.ok)
    fed.partial
    (subst (λ z. IfErr c.feed-fed.result
    (λ why. RefusesAt before.failed before.files stream why z out)) c.new-out.ensures.items fed.err)
    c.send-sent.ensures.entries)
