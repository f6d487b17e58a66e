use Rattle.std.proofs.Common.{◌++◌, sym, ◌∙◌, ap}
use Rattle.ssh_link.specs.declared.link.TraceEntry.TheVariants.{Noticed}
use Rattle.ssh_link.specs.declared.notice.ChannelMsg.TheVariants as msg
use Rattle.ssh_link.specs.declared.notice.Notice.TheVariants.{Granted}
use Rattle.ssh_auth.specs.declared.question.Happening.TheVariants as what
use Rattle.ssh_auth.specs.Plan.{Tell}
use Rattle.ssh_channels.specs.Calls.{Grant}
use Rattle.ssh_channels.specs.Lines.{takes_grant}
use Rattle.ssh_rules.specs.Acts.{acts}
use Rattle.ssh_rules.specs.Failure.{error_of_table}
use Rattle.ssh_rules.specs.Opens.{own}
use Rattle.ssh_rules.specs.Rows.{told, grant_acts, credit_left}
use Rattle.ssh_rules.specs.World.{lined}
use Rattle.ssh_serving.proofs.Refining.{called, credit_same}
use Rattle.ssh_serving.proofs.Rows.{nothing_on, granted_on, ungranted_on, not_granted}
use Rattle.ssh_serving.proofs.Serving.{given, not_given, passed, served_both, serves_nothing}
use Rattle.ssh_serving.proofs.Serving.{starved}
use Rattle.ssh_serving.proofs.server.Server.grant.Goals as goal

pub returns-in_err-new_size-clause-does : goal.returns-in_err-new_size-clause-does
returns-in_err-new_size-clause-does g c = λ w r later.
    starved _ (λ (_ : Unit {0}). acts later) _ _ _ _ c.from_residual.ensures.1
    (ap error_of_table c.in_err-new_size.ensures.memory)

pub returns-in_default-clause-does : goal.returns-in_default-clause-does
returns-in_default-clause-does g c = λ w r later.
    let n = c.args.channel.0 in
    let amount = c.args.amount in
    let no = ungranted_on n amount w (sym (c.in_ok-new_size.ensures.answer
    ∙ credit_same n amount c.args.self.now w r) ∙ c.in_default.is) in
    rw (nothing_on n w (λ e. grant_acts n amount (credit_left amount e)) no)
    (serves_nothing tt (λ (_ : Unit {0}). acts later) _ w _
    (not_granted n amount w _ no (called (Grant n amount) c.args.self.now c.grant.new.self _ w tt
    c.in_ok-new_size.ensures.table r)))

pub returns-in_err-notice-clause-does : goal.returns-in_err-notice-clause-does
returns-in_err-notice-clause-does g c = λ w r later.
    let n = c.args.channel.0 in
    let amount = c.args.amount in
    let credit = c.in-Some.new_size in
    let v = lined (takes_grant n amount) w in
    let rest = acts (told (own n) (msg.WindowAdjusted credit) (what.WindowAdjusted credit) ++ later)
    v in
    rw (granted_on n amount credit w (sym (c.in_ok-new_size.ensures.answer
    ∙ credit_same n amount c.args.self.now w r) ∙ c.in-Some.is))
    (passed (Tell (Noticed (Granted (own n) amount)) rest) (λ (_ : Unit {0}) _. rest)
    (λ (_ : Unit {0}). acts later) _ _
    c.args.self.now _ _ _ c.from_residual-in_err-notice.ensures.1
    (not_given (Noticed (Granted (own n) amount)) (Tell (Noticed (Granted (own n) amount)) rest)
    (λ (_ : Unit {0}) _. rest) _ _ c.args.self.now _ c.in_err-notice.ensures))

pub returns-clause-does : goal.returns-clause-does
returns-clause-does g c = λ w r later.
    let n = c.args.channel.0 in
    let amount = c.args.amount in
    let credit = c.in-Some.new_size in
    let v = lined (takes_grant n amount) w in
    let q = called (Grant n amount) c.args.self.now c.grant.new.self _ w tt
    c.in_ok-new_size.ensures.table r in
    let rest = acts (told (own n) (msg.WindowAdjusted credit) (what.WindowAdjusted credit) ++ later)
    v in
    rw (granted_on n amount credit w (sym (c.in_ok-new_size.ensures.answer
    ∙ credit_same n amount c.args.self.now w r) ∙ c.in-Some.is))
    (served_both tt (Tell (Noticed (Granted (own n) amount)) rest) (λ (_ : Unit {0}) _. rest)
    (λ (_ : Unit {0}). acts later) _ _ _
    _ c.tell.new.self c.tell.result (given (Noticed (Granted (own n) amount)) rest _ _ v _ q c.in_ok-notice.ensures)
    (λ _ _. c.tell.ensures.does v q later))
