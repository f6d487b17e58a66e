use Rattle.std.proofs.Common.{Ok, ap, subst}
use Rattle.ssh_link.specs.declared.link.TraceEntry.TheVariants.{Noticed}
use Rattle.ssh_link.specs.declared.notice.ChannelMsg.TheVariants as msg
use Rattle.ssh_link.specs.declared.notice.Notice.TheVariants.{Channel}
use Rattle.ssh_rules.specs.Acts.{acts}
use Rattle.ssh_rules.specs.Failure.{error_of_table}
use Rattle.ssh_rules.specs.World.{lined, wants_if}
use Rattle.ssh_serving.specs.Serve.{Serves}
use Rattle.ssh_serving.proofs.Replying.{agent_plan, judged_plan, agreed_next, agreed_turn}
use Rattle.ssh_serving.proofs.Serving.{given, not_given, passed, passed_later}
use Rattle.ssh_serving.proofs.Serving.{served_both, serves_nothing, starved}
use Rattle.ssh_serving.proofs.server.Server.agent_requested.Goals as goal

pub returns-in_err-asked-clause-does : goal.returns-in_err-asked-clause-does
returns-in_err-asked-clause-does g c = λ w r later.
    starved _ (λ (_ : Unit {0}). acts later) _ c.owe_reply.new.self _ _ c.from_residual.ensures.1
    (ap error_of_table c.in_err-asked.ensures.memory)

pub returns-in_err-notice-clause-does : goal.returns-in_err-notice-clause-does
returns-in_err-notice-clause-does g c = λ w r later.
    let wanted = c.args.wanted in
    let channel = c.args.channel in
    let asked = c.in_ok-asked.asked in
    let v = lined (wants_if wanted channel.0) w in
    let q = c.in_ok-asked.ensures.world w r in
    let next = agreed_next asked later in
    let rest = judged_plan asked channel later v in
    let all = agent_plan asked channel wanted later v in
    subst (λ a. Serves (agent_plan a channel wanted later v) (λ (_ : Unit {0}). acts later)
    (g.O.Transport.heard c.args.outside.now) (g.O.Transport.heard c.notice.new.self)
    c.owe_reply.new.self c.from_residual-in_err-notice.result) (c.in_ok-asked.ensures.asked w r)
    (passed all (λ (_ : Unit {0}) _. rest) (λ (_ : Unit {0}). acts later) _ _ c.owe_reply.new.self
    c.owe_reply.new.self _ _ c.from_residual-in_err-notice.ensures.1
    (not_given (Noticed (Channel channel (msg.AgentForward wanted))) all
    (λ (_ : Unit {0}) _. rest) _ _ c.owe_reply.new.self _ c.in_err-notice.ensures))

pub returns-in_err-granted-clause-does : goal.returns-in_err-granted-clause-does
returns-in_err-granted-clause-does g c = λ w r later.
    let wanted = c.args.wanted in
    let channel = c.args.channel in
    let asked = c.in_ok-asked.asked in
    let v = lined (wants_if wanted channel.0) w in
    let q = c.in_ok-asked.ensures.world w r in
    let next = agreed_next asked later in
    let rest = judged_plan asked channel later v in
    let all = agent_plan asked channel wanted later v in
    subst (λ a. Serves (agent_plan a channel wanted later v) (λ (_ : Unit {0}). acts later)
    (g.O.Transport.heard c.args.outside.now) (g.O.Transport.heard c.judge.new.outside)
    c.judge.new.self c.from_residual-in_err-granted.result) (c.in_ok-asked.ensures.asked w r)
    (passed_later tt all (λ (_ : Unit {0}) _. rest) (λ (_ : Unit {0}). acts later) (λ _. next) _ _ _
    c.owe_reply.new.self c.judge.new.self c.judge.new.self _ _
    c.from_residual-in_err-granted.ensures.1 (given (Noticed (Channel channel (msg.AgentForward wanted))) rest _ _ v _ q
    c.in_ok-notice.ensures)
    (λ _ _. c.in_err-granted.ensures.does v q next))

pub returns-in_err-settle_unless_disconnected-clause-does :
    goal.returns-in_err-settle_unless_disconnected-clause-does
returns-in_err-settle_unless_disconnected-clause-does g c = λ w r later.
    let wanted = c.args.wanted in
    let channel = c.args.channel in
    let asked = c.in_ok-asked.asked in
    let v = lined (wants_if wanted channel.0) w in
    let q = c.in_ok-asked.ensures.world w r in
    let next = agreed_next asked later in
    let rest = judged_plan asked channel later v in
    let all = agent_plan asked channel wanted later v in
    let granted = c.in_ok-granted.granted in
    subst (λ a. Serves (agent_plan a channel wanted later v) (λ (_ : Unit {0}). acts later)
    (g.O.Transport.heard c.args.outside.now) (g.O.Transport.heard c.judge.new.outside)
    c.settle_unless_disconnected.new.self
    c.from_residual-in_err-settle_unless_disconnected.result) (c.in_ok-asked.ensures.asked w r)
    (served_both tt all (λ (_ : Unit {0}) _. rest) (λ (_ : Unit {0}). acts later) _ _ _
    c.owe_reply.new.self _ _ (given (Noticed (Channel channel (msg.AgentForward wanted))) rest _ _ v _ q
    c.in_ok-notice.ensures)
    (λ _ _. served_both granted rest next (λ (_ : Unit {0}). acts later) _ _ _ c.judge.new.self _ _
    (c.in_ok-granted.ensures.does v q next)
    (λ world p. starved (next granted world) (λ (_ : Unit {0}). acts later) _ _ _ _
    c.from_residual-in_err-settle_unless_disconnected.ensures.1
    (ap error_of_table c.in_err-settle_unless_disconnected.ensures.memory))))

pub returns-clause-does : goal.returns-clause-does
returns-clause-does g c = λ w r later.
    let wanted = c.args.wanted in
    let channel = c.args.channel in
    let asked = c.in_ok-asked.asked in
    let v = lined (wants_if wanted channel.0) w in
    let q = c.in_ok-asked.ensures.world w r in
    let next = agreed_next asked later in
    let rest = judged_plan asked channel later v in
    let all = agent_plan asked channel wanted later v in
    let granted = c.in_ok-granted.granted in
    let done = c.settle_unless_disconnected.new.self in
    subst (λ a. Serves (agent_plan a channel wanted later v) (λ (_ : Unit {0}). acts later)
    (g.O.Transport.heard c.args.outside.now) (g.O.Transport.heard c.judge.new.outside) done
    (Ok tt)) (c.in_ok-asked.ensures.asked w r)
    (served_both tt all (λ (_ : Unit {0}) _. rest) (λ (_ : Unit {0}). acts later) _ _ _
    c.owe_reply.new.self done (Ok tt) (given (Noticed (Channel channel (msg.AgentForward wanted))) rest _ _ v _ q
    c.in_ok-notice.ensures)
    (λ _ _. served_both granted rest next (λ (_ : Unit {0}). acts later) _ _ _ c.judge.new.self
    done (Ok tt) (c.in_ok-granted.ensures.does v q next)
    (λ world p. serves_nothing tt (λ (_ : Unit {0}). acts later) _
    (agreed_turn asked granted world) done
    (c.in_ok-settle_unless_disconnected.ensures.world world p))))
