-- Data on a channel that may send are accepted, and so is its end of file.
use Rattle.std.proofs.Common.{◌≡◌, ◌&&◌, ◌||◌, not, ℕ, List, [], Option, Some, None, Bool, true, false, refl}
use Rattle.std.proofs.Common.{◌∙◌, ap}
use Rattle.ssh_link.specs.declared.command.Command.TheVariants as command
use Rattle.ssh_channels.specs.Does.{is_one}
use Rattle.ssh_channels.specs.Entry.{Entry, more_may_come}
use Rattle.ssh_channels.specs.Lines.{find, takes_eof}
use Rattle.ssh_rules.specs.Effect.{accepts as does, effect, no_sending, not_usable, refused_or}
use Rattle.ssh_rules.specs.Effect.{refused_for, done_by}
use Rattle.ssh_rules.specs.World.{World, lined}
use Rattle.ssh_gateway.specs.declared.switchboard.Connection.{Connection}
use Rattle.ssh_gateway.specs.Choosing.{Permits, Source, Decides, Sends, Ends, Closes, Waits}
use Rattle.ssh_gateway.specs.Choosing.{IsChosen, may_send}
use Rattle.ssh_gateway.specs.Board.{Board}
use Rattle.ssh_gateway.specs.Turns.{TakesData}
use Rattle.ssh_gateway.specs.declared.targets.TargetCall.{TargetCall}

usable : (confirmed ended : Bool) → confirmed && not ended ≡ true
    → not_usable confirmed ended ≡ None
usable true false is = refl
usable true true is = absurd (cc)
usable false ended is = absurd (cc)

sendable : (entry : Option Entry) → is_one more_may_come entry ≡ true → no_sending entry ≡ None
sendable None is = absurd (cc)
sendable (Some e) is = usable e.confirmed (e.eof || e.close) is

accepted : (w : World) (one : Connection) (bytes : List ℕ) → w.disconnected ≡ false
    → may_send w one ≡ true → TakesData w (Sends [] one [] bytes)
accepted w one bytes live may =
    let given = command.Data one.channel bytes in
    let none : refused_for w.disconnected w given ≡ None =
    ap (λ b. refused_for b w given) live
    ∙ sendable (find one.channel.0 w.channels.lines.entries) may in
    ap (λ why. refused_or why w (done_by None w given)) none

pub ends_taken : (w : World) (one : Connection) → w.disconnected ≡ false → may_send w one ≡ true
    → effect w (command.Eof one.channel) ≡ does (lined (takes_eof one.channel.0) w)
ends_taken w one live may =
    let given = command.Eof one.channel in
    let none : refused_for w.disconnected w given ≡ None =
    ap (λ b. refused_for b w given) live
    ∙ sendable (find one.channel.0 w.channels.lines.entries) may in
    ap (λ why. refused_or why w (done_by None w given)) none

pub takes_data_of : (permits : Permits) (w : World) (board : Board) (source : Source)
    (calls : List TargetCall) → w.disconnected ≡ false → IsChosen permits w board source calls
    → TakesData w source
takes_data_of permits w board (Decides asked verdict) calls live chosen = tt
takes_data_of permits w board (Sends earlier one later bytes) calls live chosen =
    accepted w one bytes live chosen.1
takes_data_of permits w board (Ends earlier one later) calls live chosen = tt
takes_data_of permits w board (Closes earlier one later) calls live chosen = tt
takes_data_of permits w board Waits calls live chosen = tt
