use Rattle.std.proofs.Common.{sym, ◌∙◌}
use Rattle.ssh_handles.specs.Handles.{reader_id, reader_view, writer_id, writer_view}
use Rattle.ssh_sftp.specs.Replies.{answers_of}
use Rattle.ssh_sftp.specs.Serving.{received}
use Rattle.ssh_sftp.proofs.Clauses.{has_heard, has_said, has_front, has_ended}
use Rattle.ssh_sftp.proofs.Clauses.{ok_answered, ok_whole, ok_ended, ok_after, err_cause, err_spent}
use Rattle.ssh_sftp.proofs.Clauses.{heard_none, said_none, front_none}
use Rattle.ssh_sftp.proofs.serve.serve_sftp.Goals as goal

pub returns-then-failed-clause-heard : goal.returns-then-failed-clause-heard
returns-then-failed-clause-heard g c = let half = c.args.channel.now.read in
    heard_none (reader_id half) (reader_view half) half.caller.seat.legal

pub returns-then-failed-clause-said : goal.returns-then-failed-clause-said
returns-then-failed-clause-said g c = let half = c.args.channel.now.write in
    said_none (writer_id half) (writer_view half) half.caller.seat.legal

pub returns-then-failed-clause-front : goal.returns-then-failed-clause-front
returns-then-failed-clause-front g c = let channel = c.args.channel.now in
    front_none (writer_view channel.write) (answers_of c.args.server.now (received channel channel))

pub returns-clause-heard : goal.returns-clause-heard
returns-clause-heard g c = has_heard _ _ _ _ _ c.serve_to_end.ensures.served

pub returns-clause-said : goal.returns-clause-said
returns-clause-said g c = has_said _ _ _ _ _ c.serve_to_end.ensures.served

pub returns-clause-front : goal.returns-clause-front
returns-clause-front g c = has_front _ _ _ _ _ c.serve_to_end.ensures.served

pub returns-clause-answered : goal.returns-clause-answered
returns-clause-answered g c = let now = c.serve_to_end in
    ok_answered c.args.server.now now.new.server c.args.channel.now now.new.channel now.result
    (has_ended _ _ _ _ _ now.ensures.served)

pub returns-clause-whole : goal.returns-clause-whole
returns-clause-whole g c = let now = c.serve_to_end in
    ok_whole c.args.server.now now.new.server c.args.channel.now now.new.channel now.result
    (has_ended _ _ _ _ _ now.ensures.served)

pub returns-clause-ended : goal.returns-clause-ended
returns-clause-ended g c = let now = c.serve_to_end in
    ok_ended c.args.server.now now.new.server c.args.channel.now now.new.channel now.result
    (has_ended _ _ _ _ _ now.ensures.served)

pub returns-clause-after : goal.returns-clause-after
returns-clause-after g c = let now = c.serve_to_end in
    ok_after c.args.server.now now.new.server c.args.channel.now now.new.channel now.result
    (has_ended _ _ _ _ _ now.ensures.served)

pub returns-clause-cause : goal.returns-clause-cause
returns-clause-cause g c = let now = c.serve_to_end in
    err_cause c.args.server.now now.new.server c.args.channel.now now.new.channel now.result
    (has_ended _ _ _ _ _ now.ensures.served)

pub returns-clause-spent : goal.returns-clause-spent
returns-clause-spent g c = let now = c.serve_to_end in
    err_spent c.args.server.now now.new.server c.args.channel.now now.new.channel now.result
    (sym c.failed.ensures.told ∙ c.if-failed.false)
    (has_ended _ _ _ _ _ now.ensures.served)
