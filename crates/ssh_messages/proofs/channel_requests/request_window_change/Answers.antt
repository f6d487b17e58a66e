use Rattle.std.proofs.Common.{Ok, refl}
use Rattle.ssh_link.specs.declared.notice.ChannelMsg.TheVariants as msg
use Rattle.ssh_auth.specs.declared.question.Happening.TheVariants as what
use Rattle.ssh_rules.specs.ChannelRequests.{window_change}
use Rattle.ssh_rules.proofs.Read.ChannelRequests.{asked_whole, misasked}
use Rattle.ssh_messages.proofs.channel_requests.request_window_change.Goals as goal

pub returns-in-Ok : goal.returns-in-Ok
returns-in-Ok c =
    let columns = c.in-Ok.col_width in
    let rows = c.in-Ok.row_height in
    let width = c.in-Ok.pix_width in
    let height = c.in-Ok.pix_height in
    let message = msg.WindowChange columns rows width height in
    let happening = what.WindowChangeRequest columns rows width height in
    asked_whole window_change c.args.asking.channel c.args.asking.wanted (λ _. tt)
    (columns, (rows, (width, (height, tt)))) c.args.rest.now message happening
    (Ok (message, happening)) c.requests.result c.in-Ok.ensures refl refl tt c.requests.ensures

pub returns-in-Err : goal.returns-in-Err
returns-in-Err c = misasked window_change c.args.asking.channel c.args.asking.wanted (λ _. tt)
    c.args.rest.now c.in-Err.e c.in-Err.ensures
