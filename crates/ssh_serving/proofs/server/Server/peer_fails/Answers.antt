use Rattle.std.proofs.Common.{[], ◌∙◌, Ok, refl, sym, true, false}
use Rattle.ssh_link.specs.declared.link.TraceEntry.TheVariants.{Noticed}
use Rattle.ssh_link.specs.declared.notice.ChannelMsg.TheVariants.{OpenFailure}
use Rattle.ssh_link.specs.declared.notice.Notice.TheVariants.{Channel}
use Rattle.ssh_auth.specs.Plan.{Tell}
use Rattle.ssh_channels.specs.Calls.{Fail_open}
use Rattle.ssh_channels.specs.Lines.{fails}
use Rattle.ssh_rules.specs.Acts.{acts}
use Rattle.ssh_rules.specs.World.{lined}
use Rattle.ssh_serving.proofs.Refining.{called, there_same}
use Rattle.ssh_serving.proofs.Rows.{failure_by, open_waits_not, waiting_same, not_failed}
use Rattle.ssh_serving.proofs.Serving.{given, hears_nothing, not_noticed}
use Rattle.ssh_serving.proofs.Serving.{serves_nothing, settled_by}
use Rattle.ssh_serving.proofs.server.Server.peer_fails.Goals as goal

pub returns-then-is_established-clause-does : goal.returns-then-is_established-clause-does
returns-then-is_established-clause-does g c = λ w r later.
    let there = sym (c.is_established.ensures ∙ there_same c.args.channel.0 c.args.self.now w r)
    ∙ c.if-is_established.true in
    rw (failure_by w c.args.channel c.args.reason true false there
    (open_waits_not c.args.channel.0 w there)) ([], hears_nothing false _, refl)

pub returns-then-not-waited-clause-does : goal.returns-then-not-waited-clause-does
returns-then-not-waited-clause-does g c = λ w r later.
    let n = c.args.channel.0 in
    let old = c.args.self.now in
    let there = sym (c.is_established.ensures ∙ there_same c.args.channel.0 c.args.self.now w r)
    ∙ c.if-is_established.false in
    let none = sym (waiting_same n old w r) ∙ (sym c.fail_open-waited.ensures.answer
    ∙ c.if-not-waited.true) in
    let failed = called (Fail_open n) old c.fail_open-waited.new.self _ w tt
    c.fail_open-waited.ensures.table r in
    rw (failure_by w c.args.channel c.args.reason false false there none)
    (serves_nothing tt (λ (_ : Unit {0}). acts later) _ w _ (not_failed n w _ none failed))

pub returns-in_err-notice-clause-does : goal.returns-in_err-notice-clause-does
returns-in_err-notice-clause-does g c = λ w r later.
    let n = c.args.channel.0 in
    let old = c.args.self.now in
    let there = sym (c.is_established.ensures ∙ there_same c.args.channel.0 c.args.self.now w r)
    ∙ c.if-is_established.false in
    let waits = sym (waiting_same n old w r) ∙ (sym c.fail_open-waited.ensures.answer
    ∙ c.if-not-waited.false) in
    let failed = called (Fail_open n) old c.fail_open-waited.new.self _ w tt
    c.fail_open-waited.ensures.table r in
    let v = lined (fails n) w in
    rw (failure_by w c.args.channel c.args.reason false true there waits)
    (settled_by (Tell (Noticed (Channel c.args.channel (OpenFailure c.args.reason)))
    (acts later v)) (acts later) _ _ v _ _ failed
    (not_noticed (Channel c.args.channel (OpenFailure c.args.reason)) (acts later v) _ _ _ _ _
    c.from_residual.ensures.1 c.in_err-notice.ensures))

pub returns-clause-does : goal.returns-clause-does
returns-clause-does g c = λ w r later.
    let n = c.args.channel.0 in
    let old = c.args.self.now in
    let there = sym (c.is_established.ensures ∙ there_same c.args.channel.0 c.args.self.now w r)
    ∙ c.if-is_established.false in
    let waits = sym (waiting_same n old w r) ∙ (sym c.fail_open-waited.ensures.answer
    ∙ c.if-not-waited.false) in
    let failed = called (Fail_open n) old c.fail_open-waited.new.self _ w tt
    c.fail_open-waited.ensures.table r in
    let v = lined (fails n) w in
    rw (failure_by w c.args.channel c.args.reason false true there waits)
    (settled_by (Tell (Noticed (Channel c.args.channel (OpenFailure c.args.reason)))
    (acts later v)) (acts later) _ _ v _ (Ok tt) failed
    (given (Noticed (Channel c.args.channel (OpenFailure c.args.reason))) (acts later v) _ _ v _
    failed c.in_ok-notice.ensures))
