use Rattle.ssh_link.specs.declared.notice.ChannelMsg.TheVariants as msg
use Rattle.ssh_auth.specs.declared.question.Happening.TheVariants as what
use Rattle.ssh_rules.specs.declared.messages.Spoken.TheVariants.{Requests}
use Rattle.ssh_rules.proofs.Read.ChannelRequests.{asked_end, misended}
use Rattle.ssh_messages.proofs.channel_requests.request_at_end.Goals as goal

pub returns-in-Ok : goal.returns-in-Ok
returns-in-Ok c =
    asked_end c.args.asking.channel c.args.asking.wanted c.args.after.now _ _
    c.terminal_told.result c.requests.result c.in-Ok.ensures c.terminal_told.ensures.ok
    c.terminal_told.ensures.memory c.requests.ensures

pub returns-in-Err : goal.returns-in-Err
returns-in-Err c =
    let t = c.args.terminal in
    misended (Requests c.args.asking.channel c.args.asking.wanted
    (msg.RequestPty c.args.asking.wanted t.term.now t.col_width t.row_height t.pix_width
    t.pix_height c.args.modes) (what.PtyRequest t.term.now t.col_width t.row_height t.pix_width
    t.pix_height c.args.modes)) c.args.after.now c.in-Err.e c.in-Err.ensures tt
