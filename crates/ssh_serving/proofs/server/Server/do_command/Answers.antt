use Rattle.std.proofs.Common.{◌∙◌, ◌∷◌, [], ap, subst, sym}
use Rattle.std.specs.Prelude.{codes}
use Rattle.ssh_channels.specs.declared.chunk.DataKind.TheVariants.{Plain, Extended}
use Rattle.ssh_channels.specs.Calls.{Eof, Close}
use Rattle.ssh_channels.specs.Layout.{chunk}
use Rattle.ssh_channels.specs.Lines.{takes_data, takes_eof, takes_close}
use Rattle.ssh_rules.specs.Effect.{done_by, requests}
use Rattle.ssh_rules.specs.Failure.{error_of_table}
use Rattle.ssh_serving.specs.Serve.{HasEffect}
use Rattle.ssh_rules.specs.World.{in_exchange, lined}
use Rattle.ssh_serving.proofs.Effects.{accepted, starved_effect, done_other, flag_byte}
use Rattle.ssh_serving.proofs.Refining.{called, data_taken, runs}
use Rattle.ssh_serving.proofs.server.Server.do_command.Goals as goal

pub returns-in_err-data-in-Data-clause-does : goal.returns-in_err-data-in-Data-clause-does
returns-in_err-data-in-Data-clause-does g c = λ w r.
    starved_effect (done_by c.args.at w c.args.command) _ _ _ c.from_residual.ensures.1
    (ap error_of_table c.in_err-data-in-Data.ensures.memory)

pub returns-in_ok-data-in-Data-clause-does : goal.returns-in_ok-data-in-Data-clause-does
returns-in_ok-data-in-Data-clause-does g c = λ w r.
    let n = c.in-Data.channel.0 in
    let piece = chunk Plain c.in-Data.bytes in
    accepted g.row.E.Denot g.row.F.Denot (done_by c.args.at w c.args.command)
    (lined (takes_data n piece (in_exchange w)) w) _
    c.quiet.result (ap (done_by c.args.at w) c.in-Data.is)
    c.quiet.ensures (data_taken n piece c.is_running-in_exchange.result c.args.self.now
    c.data.new.self _ w (c.is_running-in_exchange.ensures ∙ runs c.args.self.now w r)
    c.in_ok-data-in-Data.ensures.table r)

pub returns-in_err-extended_data-in-ExtendedData-clause-does :
    goal.returns-in_err-extended_data-in-ExtendedData-clause-does
returns-in_err-extended_data-in-ExtendedData-clause-does g c = λ w r.
    starved_effect (done_by c.args.at w c.args.command) _ _ _
    c.from_residual-in_err-extended_data-in-ExtendedData.ensures.1
    (ap error_of_table c.in_err-extended_data-in-ExtendedData.ensures.memory)

pub returns-in_ok-extended_data-in-ExtendedData-clause-does :
    goal.returns-in_ok-extended_data-in-ExtendedData-clause-does
returns-in_ok-extended_data-in-ExtendedData-clause-does g c = λ w r.
    let n = c.in-ExtendedData.channel.0 in
    let piece = chunk (Extended c.in-ExtendedData.ext) c.in-ExtendedData.bytes in
    accepted g.row.E.Denot g.row.F.Denot (done_by c.args.at w c.args.command)
    (lined (takes_data n piece (in_exchange w)) w) _
    c.quiet-in-ExtendedData.result
    (ap (done_by c.args.at w) c.in-ExtendedData.is) c.quiet-in-ExtendedData.ensures
    (data_taken n piece c.is_running-in_exchange-in-ExtendedData.result c.args.self.now
    c.extended_data.new.self _ w (c.is_running-in_exchange-in-ExtendedData.ensures ∙ runs c.args.self.now w r)
    c.in_ok-extended_data-in-ExtendedData.ensures.table r)

pub returns-in_err-eof-in-Eof-clause-does : goal.returns-in_err-eof-in-Eof-clause-does
returns-in_err-eof-in-Eof-clause-does g c = λ w r.
    starved_effect (done_by c.args.at w c.args.command) _ _ _ c.from_residual-in_err-eof-in-Eof.ensures.1
    (ap error_of_table c.in_err-eof-in-Eof.ensures.memory)

pub returns-in_ok-eof-in-Eof-clause-does : goal.returns-in_ok-eof-in-Eof-clause-does
returns-in_ok-eof-in-Eof-clause-does g c = λ w r.
    let n = c.in-Eof.channel.0 in
    accepted g.row.E.Denot g.row.F.Denot (done_by c.args.at w c.args.command) (lined (takes_eof n) w) _
    c.quiet-in-Eof.result (ap (done_by c.args.at w) c.in-Eof.is)
    c.quiet-in-Eof.ensures (called (Eof n) c.args.self.now c.eof.new.self _ w tt
    c.in_ok-eof-in-Eof.ensures.table r)

pub returns-in_err-close-in-Close-clause-does : goal.returns-in_err-close-in-Close-clause-does
returns-in_err-close-in-Close-clause-does g c = λ w r.
    starved_effect (done_by c.args.at w c.args.command) _ _ _ c.from_residual-in_err-close-in-Close.ensures.1
    (ap error_of_table c.in_err-close-in-Close.ensures.memory)

pub returns-in_ok-close-in-Close-clause-does : goal.returns-in_ok-close-in-Close-clause-does
returns-in_ok-close-in-Close-clause-does g c = λ w r.
    let n = c.in-Close.channel.0 in
    accepted g.row.E.Denot g.row.F.Denot (done_by c.args.at w c.args.command) (lined (takes_close n) w) _
    c.quiet-in-Close.result (ap (done_by c.args.at w) c.in-Close.is)
    c.quiet-in-Close.ensures (called (Close n) c.args.self.now c.close.new.self _ w tt
    c.in_ok-close-in-Close.ensures.table r)

pub returns-in-ChannelSuccess-clause-does : goal.returns-in-ChannelSuccess-clause-does
returns-in-ChannelSuccess-clause-does g c = λ w r.
    subst (λ d. HasEffect d c.reply_to.new.self c.reply_to.result)
    (sym (ap (done_by c.args.at w) c.in-ChannelSuccess.is))
    (c.reply_to.ensures.does w r)

pub returns-in-ChannelFailure-clause-does : goal.returns-in-ChannelFailure-clause-does
returns-in-ChannelFailure-clause-does g c = λ w r.
    subst (λ d. HasEffect d c.reply_to-in-ChannelFailure.new.self
    c.reply_to-in-ChannelFailure.result) (sym (ap (done_by c.args.at w) c.in-ChannelFailure.is))
    (c.reply_to-in-ChannelFailure.ensures.does w r)

pub returns-in-XonXoff-clause-does : goal.returns-in-XonXoff-clause-does
returns-in-XonXoff-clause-does g c = λ w r.
    subst (λ d. HasEffect d c.request.new.self c.request.result)
    (sym (ap (done_by c.args.at w) c.in-XonXoff.is))
    (subst (λ byte. HasEffect (requests c.in-XonXoff.channel
    (record { name = codes "xon-xoff"; fields = byte ∷ [] }) w) c.request.new.self c.request.result)
    (flag_byte c.in-XonXoff.client_can_do) (c.request.ensures.does w r))

pub returns-in-ExitStatus-clause-does : goal.returns-in-ExitStatus-clause-does
returns-in-ExitStatus-clause-does g c = λ w r.
    subst (λ d. HasEffect d c.request-in-ExitStatus.new.self c.request-in-ExitStatus.result)
    (sym (ap (done_by c.args.at w) c.in-ExitStatus.is))
    (subst (λ fields. HasEffect (requests c.in-ExitStatus.channel
    (record { name = codes "exit-status"; fields = fields }) w) c.request-in-ExitStatus.new.self
    c.request-in-ExitStatus.result)
    c.to_be_bytes.ensures (c.request-in-ExitStatus.ensures.does w r))

pub returns-in-ExitSignal-clause-does : goal.returns-in-ExitSignal-clause-does
returns-in-ExitSignal-clause-does g c = λ w r.
    subst (λ d. HasEffect d c.exit_signal-done.new.self c.exit_signal-done.result)
    (sym (ap (done_by c.args.at w) c.in-ExitSignal.is))
    (c.exit_signal-done.ensures.does w r)

pub returns-in-Answer-clause-does : goal.returns-in-Answer-clause-does
returns-in-Answer-clause-does g c = λ w r.
    subst (λ d. HasEffect d c.decide_open.new.self c.decide_open.result)
    (sym (ap (done_by c.args.at w) c.in-Answer.is)) (c.decide_open.ensures.does w r)

pub returns-in_default-clause-does : goal.returns-in_default-clause-does
returns-in_default-clause-does g c = λ w r.
    rw (done_other w c.args.at c.args.command c.in_default.not-Data c.in_default.not-ExtendedData
    c.in_default.not-Eof c.in_default.not-Close c.in_default.not-ChannelSuccess
    c.in_default.not-ChannelFailure c.in_default.not-XonXoff c.in_default.not-ExitStatus
    c.in_default.not-ExitSignal c.in_default.not-Answer)
    (c.do_apart-done.ensures.does w r)
