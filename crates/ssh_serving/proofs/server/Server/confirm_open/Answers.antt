use Rattle.std.proofs.Common.{◌≡◌, ◌∙◌, refl, ap, subst, sym}
use Rattle.std.specs.Ordering.{nat_cmp}
use Rattle.std.specs.BTreeMap.{is_at}
use Rattle.std.specs.Map.{remove_entry}
use Rattle.ssh_link.specs.Frames.{Frame}
use Rattle.ssh_channels.specs.Calls.{insert_with}
use Rattle.ssh_channels.specs.Entry.{opened}
use Rattle.ssh_channels.specs.Lines.{adds_with}
use Rattle.ssh_channels.specs.Stands.{Stands}
use Rattle.ssh_handler.specs.declared.config.Config.{Config}
use Rattle.ssh_rules.specs.Effect.{confirms}
use Rattle.ssh_rules.specs.Opens.{decided, confirmation_frame}
use Rattle.ssh_rules.specs.World.{lined}
use Rattle.ssh_serving.proofs.Opened.{changed, confirms_stands}
use Rattle.ssh_serving.proofs.server.Server.confirm_open.Goals as goal

pub returns-clause-does : goal.returns-clause-does
returns-clause-does g c = λ w r.
    let a = c.args in
    let n = a.channel.0 in
    let old = a.self.now in
    let o = c.said.inside in
    let config = old.common.config in
    let room = w.settings.config.window_size in
    let packet = w.settings.config.maximum_packet_size in
    let frame = confirmation_frame n o.peer room packet in
    let lines = w.channels.lines in
    let framed : c.in_ok-frame.frame ≡ frame = c.in_ok-frame.ensures.ok
    ∙ ap (λ (k : Config). confirmation_frame n o.peer k.window_size k.maximum_packet_size)
    r.config in
    let stands = confirms_stands c.insert_with.new.self old w o.peer a.channel o.window
    config.window_size o.packet config.maximum_packet_size c.in_ok-frame.frame c.said.invariant.0
    c.said.invariant.1
    (c.in_ok-insert_with.ensures.table
    ∙ ap (λ p. insert_with c.in_ok-frame.frame p old.table) c.new-params.ensures) r in
    let come = adds_with frame (opened n o.peer o.window room o.packet packet) in (
      lined come (decided n w),
      ap (λ s. confirms n s w) (sym c.said.view_is),
      changed old _ w (remove_entry (is_at (nat_cmp n)) w.channels.opens) (come lines) refl refl refl refl
          refl refl refl refl
          (c.remove.ensures.entries ∙ ap (remove_entry (is_at (nat_cmp n))) r.opens)
          (subst (λ (k : Config). Stands c.insert_with.new.self
          (adds_with frame (opened n o.peer o.window k.window_size o.packet k.maximum_packet_size)
          lines))
          r.config
          (subst (λ (f : Frame). Stands c.insert_with.new.self
          (adds_with f (opened n o.peer o.window config.window_size o.packet
          config.maximum_packet_size) lines))
          framed stands)) r,
    )
