use Rattle.std.proofs.Common.{◌≡◌, ◌∙◌, refl, sym, subst, Some, None, arith}
use Rattle.ssh_link.specs.declared.outcome.CommandOutcome.TheVariants.{Opened}
use Rattle.ssh_link.specs.declared.outcome.Refusal.TheVariants.{NumbersFull}
use Rattle.ssh_channels.specs.Calls.{Open_next, Stage}
use Rattle.ssh_channels.specs.Numbers.{open_next}
use Rattle.ssh_rules.specs.Effect.{opens}
use Rattle.ssh_rules.specs.OwnOpens.{OwnOpen, open_frame}
use Rattle.ssh_serving.proofs.Effects.{quiet, refused}
use Rattle.ssh_serving.proofs.OwnOpens.{opens_short, opened_own}
use Rattle.ssh_serving.proofs.Refining.{called, next_same}
use Rattle.ssh_serving.proofs.server.Server.open_own.Goals as goal

pub returns-in-Ok-clause-does : goal.returns-in-Ok-clause-does
returns-in-Ok-clause-does g c = λ w r.
    let old = c.args.self.now in
    let n = c.in-Ok.channel.0 in
    let asked : OwnOpen = record { name = c.args.name.now; fields = c.args.fields.now } in
    let small = c.if-saturating_add-gt-MAX_OPEN_PARTS.false in
    let sum = c.saturating_add.ensures in
    let room = old.common.config.window_size in
    let packet = old.common.config.maximum_packet_size in
    let both : Some c.in-Some.number.0 ≡ Some n =
    sym c.in-Some.ensures.number ∙ c.in-Ok.ensures.number in
    let same : c.in-Some.number.0 ≡ n = cc in
    let framed = subst (λ m. c.in_ok-frame.frame ≡ open_frame asked m room packet) same
    c.in_ok-frame.ensures.ok in
    let drew = called (Open_next room packet) old (open_next room packet old.table)
    old.session_id_fits w tt refl r in
    let staged = called (Stage c.in_ok-frame.frame) _ c.new_channel_with.new.self _ _ tt
    c.in-Ok.ensures.table drew in
    quiet g.row.E.Denot g.row.F.Denot (opens asked w) (Opened c.in-Ok.channel) _ _
    c.quiet-in-Ok.result
    (opens_short asked w (Some n) (omega (arith, small, sum))
    (sym (next_same old w r) ∙ c.in-Ok.ensures.number))
    c.quiet-in-Ok.ensures
    (opened_own asked _ old w n c.in_ok-frame.frame r framed staged)

pub returns-in_default-clause-does : goal.returns-in_default-clause-does
returns-in_default-clause-does g c = λ w r.
    let old = c.args.self.now in
    let asked : OwnOpen = record { name = c.args.name.now; fields = c.args.fields.now } in
    let small = c.if-saturating_add-gt-MAX_OPEN_PARTS.false in
    let sum = c.saturating_add.ensures in
    refused g.row.E.Denot g.row.F.Denot (opens asked w) w NumbersFull _ c.quiet-in_default.result
    (opens_short asked w None (omega (arith, small, sum))
    (sym (next_same old w r) ∙ c.in_default.ensures.full))
    c.quiet-in_default.ensures r
