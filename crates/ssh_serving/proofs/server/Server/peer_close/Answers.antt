use Rattle.std.proofs.Common.{◌∷◌, sym, ◌∙◌, ap}
use Rattle.ssh_link.specs.declared.notice.ChannelMsg.TheVariants as msg
use Rattle.ssh_auth.specs.declared.question.Happening.TheVariants as what
use Rattle.ssh_channels.specs.Calls.{Peer_close}
use Rattle.ssh_channels.specs.Lines.{peer_closes}
use Rattle.ssh_rules.specs.Acts.{acts, Turns}
use Rattle.ssh_rules.specs.Failure.{error_of_table}
use Rattle.ssh_rules.specs.Opens.{own}
use Rattle.ssh_rules.specs.Rows.{told}
use Rattle.ssh_rules.specs.World.{lined}
use Rattle.ssh_serving.proofs.Refining.{called, there_same}
use Rattle.ssh_serving.proofs.Rows.{nothing_on, all_on, not_closed}
use Rattle.ssh_serving.proofs.Serving.{serves_nothing, starved}
use Rattle.ssh_serving.proofs.server.Server.peer_close.Goals as goal

pub returns-in_err-there-clause-does : goal.returns-in_err-there-clause-does
returns-in_err-there-clause-does g c = λ w r later.
    starved _ (λ (_ : Unit {0}). acts later) _ _ _ _
    c.from_residual.ensures.1
    (ap error_of_table c.in_err-there.ensures.memory)

pub returns-then-not-there-clause-does : goal.returns-then-not-there-clause-does
returns-then-not-there-clause-does g c = λ w r later.
    let n = c.args.channel.0 in
    let no = sym (c.in_ok-there.ensures.answer ∙ there_same n c.args.self.now w r) ∙ c.if-not-there.true in
    rw (nothing_on n w (λ _. Turns (lined (peer_closes n)) ∷ told (own n) msg.Close what.Close) no)
    (serves_nothing tt (λ (_ : Unit {0}). acts later) _ w _
    (not_closed n w _ no (called (Peer_close n) c.args.self.now c.peer_close.new.self _ w tt
    c.in_ok-there.ensures.table r)))

pub returns-clause-does : goal.returns-clause-does
returns-clause-does g c = λ w r later.
    let n = c.args.channel.0 in
    rw (all_on n w (Turns (lined (peer_closes n)) ∷ told (own n) msg.Close what.Close)
    (sym (c.in_ok-there.ensures.answer ∙ there_same n c.args.self.now w r) ∙ c.if-not-there.false))
    (c.tell.ensures.does (lined (peer_closes n) w) (called (Peer_close n) c.args.self.now c.peer_close.new.self _ w tt
    c.in_ok-there.ensures.table r) later)
