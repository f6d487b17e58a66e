use Rattle.std.proofs.Common.{◌∙◌}
use Rattle.ssh_handles.proofs.Reserving.{looked_none}
use Rattle.ssh_handles.proofs.writer.ChannelTx.poll_write.Goals as goal

pub invariant_of-self : goal.invariant_of-self
invariant_of-self g c = record {
  held = looked_none _ _ _ _ c.look.ensures.call ∙ c.args.self.now.held;
  room = c.look.ensures.room ∙ c.args.self.now.room;
  short = c.args.self.now.short;
}
