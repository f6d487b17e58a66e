use Rattle.ssh_handles.specs.Handles.{handle_hub}
use Rattle.ssh_handles.proofs.Seats.{gives_channel, gives_none}
use Rattle.ssh_handles.proofs.handle.Handle.channel.Goals as goal

pub returns-in-Err-clause-entries : goal.returns-in-Err-clause-entries
returns-in-Err-clause-entries g c = (c.in-Err.ensures.memory, c.in-Err.ensures.none)

pub returns-then-is_ours-clause-entries : goal.returns-then-is_ours-clause-entries
returns-then-is_ours-clause-entries g c = gives_channel _ _ _ _ _ _ _ _ _ _ c.in-Ok.ensures.made
    c.claim-is_ours.ensures.call c.if-is_ours.true c.new.ensures.read c.new.ensures.write
    c.in-Ok.ensures.first.hub c.new.ensures.of

pub returns-clause-entries : goal.returns-clause-entries
returns-clause-entries g c = gives_none (handle_hub c.args.self.now) _ _ _ _ _ _ _ _ _ c.in-Ok.ensures.made
    c.claim-is_ours.ensures.call c.if-is_ours.false c.join.ensures.none c.join-2.ensures.none
