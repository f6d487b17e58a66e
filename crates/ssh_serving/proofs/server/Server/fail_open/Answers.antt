use Rattle.std.proofs.Common.{◌∷◌, ◌∙◌, [], refl, sym, ap, subst}
use Rattle.std.specs.Prelude.{option_to_list}
use Rattle.std.specs.Ordering.{nat_cmp}
use Rattle.std.specs.BTreeMap.{is_at}
use Rattle.std.specs.Map.{remove_entry}
use Rattle.ssh_wire.specs.Open.{open_failure}
use Rattle.ssh_wire.specs.OpenFailures.{open_failure_code}
use Rattle.ssh_channels.specs.Lines.{write, drops_pending}
use Rattle.ssh_channels.specs.Numbers.{drop_pending}
use Rattle.ssh_channels.specs.Stands.{Stands}
use Rattle.ssh_serving.specs.declared.commands.Done.{Done}
use Rattle.ssh_rules.specs.Effect.{Brings, fails_open}
use Rattle.ssh_rules.specs.Opening.{Opening}
use Rattle.ssh_rules.specs.Opens.{decided, failure_frame}
use Rattle.ssh_rules.specs.World.{lined, writes}
use Rattle.ssh_serving.proofs.Effects.{short}
use Rattle.ssh_serving.proofs.Opened.{changed, fails_stands}
use Rattle.ssh_serving.proofs.server.Server.fail_open.Goals as goal

pub returns-in_ok-stage-in-Ok-clause-does : goal.returns-in_ok-stage-in-Ok-clause-does
returns-in_ok-stage-in-Ok-clause-does g c = λ w r.
    let a = c.args in
    let n = a.channel.0 in
    let old = a.self.now in
    let lines = w.channels.lines in
    let payload = open_failure c.said.inside.peer (open_failure_code a.reason) a.description.now
    a.language.now in
    let stands = fails_stands c.drop_pending.new.self old w n c.in-Ok.refusal
    (c.drop_pending.ensures.table ∙ ap (drop_pending n) c.in_ok-stage-in-Ok.ensures.table) r in
    let world = writes (failure_frame n payload ∷ []) (lined (drops_pending n) (decided n w)) in (
      world,
      ap (λ (o : Opening).
          fails_open n (open_failure o.peer (open_failure_code a.reason) a.description.now
          a.language.now) w) (sym c.said.view_is)
          ∙ short n payload w (λ l. let k = c.in-Ok.ensures.too_long.1 l in absurd (cc))
          ∙ ap (λ (x : Done). Brings (option_to_list x.notice) x.outcome world)
          (sym c.quiet.ensures),
      changed old _ w (remove_entry (is_at (nat_cmp n)) w.channels.opens)
          (write (failure_frame n payload ∷ []) (drops_pending n lines)) refl refl refl refl
          refl refl refl refl
          (c.remove.ensures.entries ∙ ap (remove_entry (is_at (nat_cmp n))) r.opens)
          (subst (λ f. Stands c.drop_pending.new.self (write (f ∷ []) (drops_pending n lines)))
          c.in-Ok.ensures.ok stands) r,
    )
