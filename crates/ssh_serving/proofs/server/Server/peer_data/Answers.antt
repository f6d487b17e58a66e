use Rattle.std.proofs.Common.{◌++◌, length, None, Some, Ok, Option, ◌∙◌, ap, subst, sym, refl, ℕ}
use Rattle.ssh_link.specs.declared.notice.ChannelMsg.{ChannelMsg}
use Rattle.ssh_auth.specs.declared.question.Happening.{Happening}
use Rattle.ssh_channels.specs.declared.adjusted.Adjusted.TheVariants.{Dropped, Kept, Granted}
use Rattle.ssh_channels.specs.Lines.{takes_in}
use Rattle.ssh_rules.specs.Acts.{acts}
use Rattle.ssh_rules.specs.Failure.{error_of_table}
use Rattle.ssh_rules.specs.Rows.{data_notice, data_happening, told_and_aimed}
use Rattle.ssh_rules.specs.World.{lined, target_on}
use Rattle.ssh_serving.specs.Serve.{Serves}
use Rattle.ssh_serving.proofs.Refining.{came_in, taken_in, target_same}
use Rattle.ssh_serving.proofs.Rows.{arrived}
use Rattle.ssh_serving.proofs.Serving.{serves_nothing, starved}
use Rattle.ssh_serving.proofs.server.Server.peer_data.Goals as goal
use Rattle.ssh_serving.proofs.server.Server.peer_data.Goals.{in-Kept, in-Granted}

pub returns-in_err-adjust_window_size-clause-does :
    goal.returns-in_err-adjust_window_size-clause-does
returns-in_err-adjust_window_size-clause-does g c = λ w r later.
    starved _ (λ (_ : Unit {0}). acts later) _ _ _ _ c.from_residual.ensures.1
    (ap error_of_table c.in_err-adjust_window_size.ensures.memory)

pub returns-in-Dropped-clause-does : goal.returns-in-Dropped-clause-does
returns-in-Dropped-clause-does g c = λ w r later.
    let n = c.args.channel.0 in
    let a = c.args.piece in
    let old = c.args.self.now in
    let is = came_in n c.target-target.result c.as_slice-sent.result.now a.bytes _ old w
    c.target-target.ensures c.as_slice-sent.ensures c.in_ok-adjust_window_size.ensures.answer r in
    arrived n w a Dropped later _ _ _ (Ok tt) (sym is ∙ c.in-Dropped.is)
    (serves_nothing tt (λ (_ : Unit {0}). acts later) _
    (lined (takes_in n (length a.bytes) (target_on n w)) w) _
    (taken_in n c.target-target.result c.as_slice-sent.result.now a.bytes old
    c.adjust_window_size.new.self _ w c.target-target.ensures c.as_slice-sent.ensures
    c.in_ok-adjust_window_size.ensures.table r))

pub returns-in_err-copy-clause-does : goal.returns-in_err-copy-clause-does
returns-in_err-copy-clause-does g c = λ w r later.
    starved _ (λ (_ : Unit {0}). acts later) _ _ _ _ c.from_residual-in_err-copy.ensures.1 refl

pub returns-clause-does : goal.returns-clause-does
returns-clause-does g c = λ w r later.
    let n = c.args.channel.0 in
    let a = c.args.piece in
    let old = c.args.self.now in
    let v = lined (takes_in n (length a.bytes) (target_on n w)) w in
    let is = came_in n c.target-target.result c.as_slice-sent.result.now a.bytes _ old w
    c.target-target.ensures c.as_slice-sent.ensures c.in_ok-adjust_window_size.ensures.answer r in
    let tells = subst (λ (told : ChannelMsg × Happening). Serves (acts (told_and_aimed None
    c.args.channel c.match-branch-2.filled told.0 told.1 ++ later) v) (λ (_ : Unit {0}). acts later)
    (g.O.Transport.heard c.args.outside.now) (g.O.Transport.heard c.tell.new.outside)
    c.tell.new.self c.tell.result)
    (c.data_told-message.ensures ∙ ap (λ b. (data_notice a.kind b, data_happening a.kind a.bytes))
    c.in_ok-copy.ensures.cases) (c.tell.ensures.does v
    (taken_in n c.target-target.result c.as_slice-sent.result.now a.bytes old
    c.adjust_window_size.new.self _ w c.target-target.ensures c.as_slice-sent.ensures
    c.in_ok-adjust_window_size.ensures.table r) later) in
    let aims = λ (filled : Option ℕ). Serves (acts (told_and_aimed None c.args.channel filled
    (data_notice a.kind a.bytes) (data_happening a.kind a.bytes) ++ later) v)
    (λ (_ : Unit {0}). acts later) (g.O.Transport.heard c.args.outside.now)
    (g.O.Transport.heard c.tell.new.outside) c.tell.new.self c.tell.result in
    elim c.match-branch-2.branch [
      | in-Kept kept ↦ arrived n w a Kept later _ _ _ _ (sym is ∙ kept.in-Kept.is)
          (subst aims kept.filled-is tells)
      | in-Granted granted ↦ arrived n w a (Granted granted.in-Granted.field-0) later _ _ _ _
          (sym is ∙ granted.in-Granted.is) (subst aims (granted.filled-is
          ∙ ap Some (c.target-target.ensures ∙ target_same n old w r)) tells)
    ]
