use Rattle.std.proofs.Common.{inl, inr, refl}
use Rattle.ssh_link.specs.declared.notice.ChannelMsg.TheVariants as notice
use Rattle.ssh_auth.specs.declared.question.Happening.TheVariants as told
use Rattle.ssh_rules.specs.Messages.{tells}
use Rattle.ssh_rules.proofs.Read.Misread.{misread}
use Rattle.ssh_messages.proofs.spoken.eof_message.Goals as goal

pub returns-in_err-channel : goal.returns-in_err-channel
returns-in_err-channel c = misread (tells notice.Eof told.Eof) c.args.fields.now _ _
    c.from_residual.ensures.1 (inr (c.in_err-channel.field-0.0, c.in_err-channel.ensures, refl))

pub returns : goal.returns
returns c = inl ((c.in_ok-channel.channel.0, tt), c.in_ok-channel.ensures, refl)
