use Rattle.std.proofs.Common.{◌≡◌, ◌++◌, ◌&&◌, true, false, not, ap, sym, ◌∙◌}
use Rattle.ssh_channels.specs.Calls as calls
use Rattle.ssh_rules.specs.Exchange.{given}
use Rattle.ssh_rules.specs.Run.{going_out, handed_on}
use Rattle.ssh_serving.proofs.Finishing.{told_all}
use Rattle.ssh_rules.proofs.Plans.Results.{in_any_case}
use Rattle.ssh_serving.proofs.Refining.{handed_out, handed_to, runs}
use Rattle.ssh_rules.specs.World.{is_held}
use Rattle.ssh_session.proofs.run.hand_on.Goals.{then-is_running, else-is_running}
use Rattle.ssh_session.proofs.run.hand_on.Goals as goal

pub returns-in_err-flush-clause-does : goal.returns-in_err-flush-clause-does
returns-in_err-flush-clause-does g c =
    absurd (let no : false ≡ true = c.in_err-flush.ensures.at_once c.new-sink.ensures in cc)

pub returns-clause-does : goal.returns-clause-does
returns-clause-does g c = λ w r next.
    let old = c.args.server.now in
    let held = c.if-is_running.is_held in
    let frames = c.into_vec-frames.result.items in
    let both = c.is_running.ensures ∙ runs old w r in
    let is : held ≡ is_held w = elim c.if-is_running.branch [
      | then-is_running b ↦ b.is_held-is ∙ (ap not r.disconnected
          ∙ ap (λ x. x && not w.disconnected) (sym b.if-is_running.true ∙ both))
      | else-is_running b ↦ b.is_held-is ∙ (b.if-is_running.false
          ∙ ap (λ x. x && not w.disconnected) (sym b.if-is_running.false ∙ both))
    ] in
    let out : frames ≡ calls.handed held old.table =
    c.into_vec-frames.ensures ∙ c.in_ok-flush.ensures.sink
    ∙ ap (λ l. l ++ calls.handed held old.table) c.new-sink.ensures in
    told_all frames (going_out w) (next (handed_on w)) _ _ (handed_on w) _ c.send_each.result
    (handed_out held old w frames r is out)
    (handed_to held old c.flush.new.self c.give.new.self _ w frames r is
    c.in_ok-flush.ensures.table out
    (c.give.ensures ∙ ap (λ l. given l old.keys) c.as_slice.ensures.value))
    c.send_each.ensures.does

pub returns-clause-world : goal.returns-clause-world
returns-clause-world g c = in_any_case _ c.send_each.result (λ w r.
    let old = c.args.server.now in
    let held = c.if-is_running.is_held in
    let both = c.is_running.ensures ∙ runs old w r in
    let is : held ≡ is_held w = elim c.if-is_running.branch [
      | then-is_running b ↦ b.is_held-is ∙ (ap not r.disconnected
          ∙ ap (λ x. x && not w.disconnected) (sym b.if-is_running.true ∙ both))
      | else-is_running b ↦ b.is_held-is ∙ (b.if-is_running.false
          ∙ ap (λ x. x && not w.disconnected) (sym b.if-is_running.false ∙ both))
    ] in
    handed_to held old c.flush.new.self c.give.new.self _ w c.into_vec-frames.result.items r
    is c.in_ok-flush.ensures.table
    (c.into_vec-frames.ensures ∙ c.in_ok-flush.ensures.sink
    ∙ ap (λ l. l ++ calls.handed held old.table) c.new-sink.ensures)
    (c.give.ensures ∙ ap (λ l. given l old.keys) c.as_slice.ensures.value))
