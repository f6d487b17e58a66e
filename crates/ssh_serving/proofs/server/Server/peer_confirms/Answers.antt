use Rattle.std.proofs.Common.{◌++◌, [], ◌∙◌, refl, sym, false}
use Rattle.ssh_link.specs.declared.link.TraceEntry.TheVariants.{Noticed}
use Rattle.ssh_link.specs.declared.notice.ChannelMsg.TheVariants as msg
use Rattle.ssh_link.specs.declared.notice.Notice.TheVariants.{Ready}
use Rattle.ssh_auth.specs.declared.question.Happening.TheVariants as what
use Rattle.ssh_auth.specs.Plan.{Tell}
use Rattle.ssh_rules.specs.Acts.{acts}
use Rattle.ssh_rules.specs.Opens.{own}
use Rattle.ssh_rules.specs.Rows.{told}
use Rattle.ssh_rules.specs.World.{lined}
use Rattle.ssh_channels.specs.Lines.{confirms}
use Rattle.ssh_serving.proofs.Opened.{confirmed_as}
use Rattle.ssh_serving.proofs.Rows.{waiting_same}
use Rattle.ssh_serving.proofs.Serving.{given, hears_nothing, not_given, passed}
use Rattle.ssh_serving.proofs.Serving.{served_both}
use Rattle.ssh_serving.proofs.server.Server.peer_confirms.Goals as goal

pub returns-then-not-waited-clause-does : goal.returns-then-not-waited-clause-does
returns-then-not-waited-clause-does g c = λ w r later.
    let m = c.args.message in
    rw (sym (waiting_same m.recipient_channel c.args.self.now w r)
    ∙ (sym c.in_ok-waited.ensures.answer ∙ c.if-not-waited.true)) ([], hears_nothing false _, refl)

pub returns-in_err-notice-clause-does : goal.returns-in_err-notice-clause-does
returns-in_err-notice-clause-does g c = λ w r later.
    let m = c.args.message in
    let n = m.recipient_channel in
    let v = lined (confirms n m.sender_channel m.initial_window_size m.maximum_packet_size) w in
    let rest = acts (told (own n) (msg.Open (own n) m.maximum_packet_size m.initial_window_size)
    (what.Confirmed m.maximum_packet_size m.initial_window_size) ++ later) v in
    rw (sym (waiting_same n c.args.self.now w r) ∙ (sym c.in_ok-waited.ensures.answer
    ∙ c.if-not-waited.false))
    (passed (Tell (Noticed (Ready (own n) m.initial_window_size m.maximum_packet_size)) rest)
    (λ (_ : Unit {0}) _. rest) (λ (_ : Unit {0}). acts later) _ _
    c.args.self.now _ _ _
    c.from_residual-in_err-notice.ensures.1
    (not_given (Noticed (Ready (own n) m.initial_window_size m.maximum_packet_size))
    (Tell (Noticed (Ready (own n) m.initial_window_size m.maximum_packet_size)) rest)
    (λ (_ : Unit {0}) _. rest) _ _ c.args.self.now _ c.in_err-notice.ensures))

pub returns-clause-does : goal.returns-clause-does
returns-clause-does g c = λ w r later.
    let m = c.args.message in
    let n = m.recipient_channel in
    let v = lined (confirms n m.sender_channel m.initial_window_size m.maximum_packet_size) w in
    let q = confirmed_as m c.args.self.now c.confirm.new.self _ w c.requires.packets
    c.requires.window c.in_ok-waited.ensures.table r in
    let rest = acts (told (own n) (msg.Open (own n) m.maximum_packet_size m.initial_window_size)
    (what.Confirmed m.maximum_packet_size m.initial_window_size) ++ later) v in
    rw (sym (waiting_same n c.args.self.now w r) ∙ (sym c.in_ok-waited.ensures.answer
    ∙ c.if-not-waited.false))
    (served_both tt (Tell (Noticed (Ready (own n) m.initial_window_size m.maximum_packet_size))
    rest) (λ (_ : Unit {0}) _. rest) (λ (_ : Unit {0}). acts later) _ _ _ _ c.tell.new.self
    c.tell.result (given (Noticed (Ready (own n) m.initial_window_size m.maximum_packet_size)) rest
    _ _ v _ q c.in_ok-notice.ensures)
    (λ _ _. c.tell.ensures.does v q later))
