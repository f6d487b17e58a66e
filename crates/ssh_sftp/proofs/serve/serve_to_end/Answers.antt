use Rattle.std.proofs.Common.{refl, sym, subst}
use Rattle.std.proofs.lemmas.Result.{err_from_is_err_and}
use Rattle.ssh_handles.specs.declared.channel.Channel.{Channel}
use Rattle.ssh_sftp.specs.Serving.{IsServed}
use Rattle.ssh_sftp.proofs.Channels.{Serving, serving_none, goes_on, stops, ended_on}
use Rattle.ssh_sftp.proofs.serve.serve_to_end.Given.{Over}
use Rattle.ssh_sftp.proofs.serve.serve_to_end.Goals as goal
use Rattle.ssh_sftp.proofs.serve.serve_to_end.Goals.{In_ok-answer-in-Some-next_data}

pub loop-init : goal.loop-init
loop-init g c =
    let now = c.args.channel.now in
    serving_none c.args.server.now now now.read.caller.seat.legal now.write.caller.seat.legal
    c.requires.partial c.requires.fine

pub returns-in_err-answer-in-Some-next_data-clause-served :
    goal.returns-in_err-answer-in-Some-next_data-clause-served
returns-in_err-answer-in-Some-next_data-clause-served g c =
    let next : Channel = record { read = c.next_data.new.half; write = c.answer.new.half } in
    let why = c.in_err-answer-in-Some-next_data.field-0.0 in
    let p = err_from_is_err_and c.from_residual.result c.from_residual.ensures.1 in
    rw (p.1, p.2) (stops c.args.server.now c.args.channel.now c.loop.server c.loop.channel next
    c.answer.new.server c.in-Some-next_data.piece c.as_slice.result.now c.loop.invariant
    c.in-Some-next_data.ensures.entries c.as_slice.ensures why
    c.in_err-answer-in-Some-next_data.ensures.entries)

-- a piece was answered: both ends of an iteration rest on this
answered_well : (g : Over) (c : In_ok-answer-in-Some-next_data g)
    → Serving c.args.server.now c.args.channel.now c.answer.new.server
    (record { read = c.next_data.new.half; write = c.answer.new.half })
answered_well g c =
    goes_on _ _ _ _ (record { read = c.next_data.new.half; write = c.answer.new.half }) _
    c.in-Some-next_data.piece c.as_slice.result.now c.loop.invariant
    c.in-Some-next_data.ensures.entries c.as_slice.ensures
    c.in_ok-answer-in-Some-next_data.ensures.entries
    (record {
      read_hub = c.next_data.ensures.hub;
      read_id = c.next_data.ensures.id;
      write_hub = c.answer.ensures.hub;
      write_id = c.answer.ensures.id;
    })

pub loop-preserved-in_ok-answer-in-Some-next_data :
    goal.loop-preserved-in_ok-answer-in-Some-next_data
loop-preserved-in_ok-answer-in-Some-next_data g c = answered_well g
    (goal.at.loop-preserved-in_ok-answer-in-Some-next_data g c).In_ok-answer-in-Some-next_data

pub loop-preserved : goal.loop-preserved
loop-preserved g c =
    answered_well g (goal.at.loop-preserved g c).In_ok-answer-in-Some-next_data

pub returns-in-None-next_data-clause-served : goal.returns-in-None-next_data-clause-served
returns-in-None-next_data-clause-served g c =
    let next : Channel = record { read = c.next_data.new.half; write = c.loop.channel.write } in
    subst (λ r. IsServed c.args.server.now c.args.channel.now r c.loop.server next)
    (sym c.end.ensures)
    (ended_on c.args.server.now c.args.channel.now c.loop.server c.loop.channel
    c.loop.invariant next refl c.in-None-next_data.ensures.entries)
