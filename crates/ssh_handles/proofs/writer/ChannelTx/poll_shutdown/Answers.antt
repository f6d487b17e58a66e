use Rattle.std.proofs.Common.{refl, ◌∙◌}
use Rattle.ssh_handles.proofs.Stages.{quiet_held}
use Rattle.ssh_handles.proofs.writer.ChannelTx.poll_shutdown.Goals as goal

pub invariant_of-self : goal.invariant_of-self
invariant_of-self g c = record {
  held = quiet_held _ _ _ _ refl c.put.ensures.call ∙ c.give_back.new.self.held;
  room = c.put.ensures.room ∙ c.give_back.new.self.room;
  short = c.give_back.new.self.short;
}
