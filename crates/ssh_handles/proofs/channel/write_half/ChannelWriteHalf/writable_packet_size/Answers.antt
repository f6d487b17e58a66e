use Rattle.std.proofs.Common.{◌∙◌}
use Rattle.ssh_handles.proofs.Reserving.{looked_none}
use Rattle.ssh_handles.proofs.channel.write_half.ChannelWriteHalf.writable_packet_size.Goals as goal

pub invariant_of-self : goal.invariant_of-self
invariant_of-self g c = record {
  none = looked_none _ _ _ _ c.look.ensures.call ∙ c.args.self.now.none;
  room = c.look.ensures.room ∙ c.args.self.now.room;
}
