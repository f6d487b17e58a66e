use Rattle.std.proofs.Common.{subst}
use Rattle.ssh_wire.specs.Field.{Values}
use Rattle.ssh_rules.specs.ChannelRequests.{terminal, to_the_end, terminal_request}
use Rattle.ssh_rules.specs.Spelling.{IsRead}
use Rattle.ssh_rules.proofs.Read.ChannelRequests.{fields_then, fields_lost, fields_misread}
use Rattle.ssh_messages.proofs.channel_requests.request_terminal.Goals as goal

pub returns-in-Ok-read_modes : goal.returns-in-Ok-read_modes
returns-in-Ok-read_modes c =
    let t = c.in-Ok.terminal in
    let channel = c.args.asking.channel in
    let wanted = c.args.asking.wanted in
    let values : Values terminal.fields = (
      t.term.now,
      (t.col_width, (t.row_height, (t.pix_width, (t.pix_height, (t.modes.now, tt))))),
    ) in
    fields_then terminal.fields (λ v. to_the_end (terminal.says channel wanted v)) values
    c.args.rest.now c.in-Ok.after.now c.request_with_modes.result c.in-Ok.ensures
    (subst (λ m. IsRead (to_the_end (terminal_request channel wanted t.term.now t.col_width
    t.row_height t.pix_width t.pix_height m)) c.in-Ok.after.now c.request_with_modes.result)
    c.in-Ok-read_modes.ensures.ok c.request_with_modes.ensures)

pub returns-in-Err-read_modes : goal.returns-in-Err-read_modes
returns-in-Err-read_modes c =
    let t = c.in-Ok.terminal in
    let channel = c.args.asking.channel in
    let wanted = c.args.asking.wanted in
    let values : Values terminal.fields = (
      t.term.now,
      (t.col_width, (t.row_height, (t.pix_width, (t.pix_height, (t.modes.now, tt))))),
    ) in
    fields_lost terminal.fields (terminal.says channel wanted) values c.args.rest.now
    c.in-Ok.after.now c.in-Err-read_modes.e c.in-Ok.ensures c.in-Err-read_modes.ensures.memory

pub returns-in-Err : goal.returns-in-Err
returns-in-Err c =
    let channel = c.args.asking.channel in
    let wanted = c.args.asking.wanted in
    fields_misread terminal.fields (λ v. to_the_end (terminal.says channel wanted v))
    c.args.rest.now c.in-Err.e c.in-Err.ensures
