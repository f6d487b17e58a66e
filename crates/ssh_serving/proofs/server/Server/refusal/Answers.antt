use Rattle.std.proofs.Common.{◌∙◌, sym}
use Rattle.ssh_serving.proofs.Effects.{needs_other}
use Rattle.ssh_serving.proofs.server.Server.refusal.Goals as goal

pub returns-in-Data : goal.returns-in-Data
returns-in-Data c = λ w r.
    rw (sym r.disconnected ∙ c.if-self.false)
    (rw c.in-Data.is (c.no_sending.ensures w r))

pub returns-in-ExtendedData : goal.returns-in-ExtendedData
returns-in-ExtendedData c = λ w r.
    rw (sym r.disconnected ∙ c.if-self.false)
    (rw c.in-ExtendedData.is (c.no_sending-in-ExtendedData.ensures w r))

pub returns-in-Eof : goal.returns-in-Eof
returns-in-Eof c = λ w r.
    rw (sym r.disconnected ∙ c.if-self.false)
    (rw c.in-Eof.is (c.no_sending-in-Eof.ensures w r))

pub returns-in-Close : goal.returns-in-Close
returns-in-Close c = λ w r.
    rw (sym r.disconnected ∙ c.if-self.false)
    (rw c.in-Close.is (c.no_closing.ensures w r))

pub returns-in-ChannelSuccess : goal.returns-in-ChannelSuccess
returns-in-ChannelSuccess c = λ w r.
    rw (sym r.disconnected ∙ c.if-self.false)
    (rw c.in-ChannelSuccess.is (c.not_established.ensures w r))

pub returns-in-ChannelFailure : goal.returns-in-ChannelFailure
returns-in-ChannelFailure c = λ w r.
    rw (sym r.disconnected ∙ c.if-self.false)
    (rw c.in-ChannelFailure.is (c.not_established-in-ChannelFailure.ensures w r))

pub returns-in-XonXoff : goal.returns-in-XonXoff
returns-in-XonXoff c = λ w r.
    rw (sym r.disconnected ∙ c.if-self.false)
    (rw c.in-XonXoff.is (c.not_established-in-XonXoff.ensures w r))

pub returns-in-ExitStatus : goal.returns-in-ExitStatus
returns-in-ExitStatus c = λ w r.
    rw (sym r.disconnected ∙ c.if-self.false)
    (rw c.in-ExitStatus.is (c.not_established-in-ExitStatus.ensures w r))

pub returns-in-ExitSignal : goal.returns-in-ExitSignal
returns-in-ExitSignal c = λ w r.
    rw (sym r.disconnected ∙ c.if-self.false)
    (rw c.in-ExitSignal.is (c.not_established-in-ExitSignal.ensures w r))

pub returns-in-Answer : goal.returns-in-Answer
returns-in-Answer c = λ w r.
    rw (sym r.disconnected ∙ c.if-self.false)
    (rw c.in-Answer.is (c.no_open.ensures w r))

pub returns-in_default : goal.returns-in_default
returns-in_default c = λ w r.
    rw (sym r.disconnected ∙ c.if-self.false)
    (c.refusal_apart.ensures w r ∙ sym (needs_other w c.args.command.now c.in_default.not-Data
    c.in_default.not-ExtendedData c.in_default.not-Eof c.in_default.not-Close
    c.in_default.not-ChannelSuccess c.in_default.not-ChannelFailure c.in_default.not-XonXoff
    c.in_default.not-ExitStatus c.in_default.not-ExitSignal c.in_default.not-Answer))
