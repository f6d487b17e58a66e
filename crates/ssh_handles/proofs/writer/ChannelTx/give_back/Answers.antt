use Rattle.std.proofs.Common.{◌∙◌}
use Rattle.ssh_handles.proofs.Stages.{given_back, short_none}
use Rattle.ssh_handles.proofs.writer.ChannelTx.give_back.Goals as goal

pub invariant_of-self : goal.invariant_of-self
invariant_of-self g c = record {
  held = given_back _ _ _ _ _ _ c.release.ensures.call c.args.self.now.held c.len-count.ensures.value
      c.if-count-gt0.true c.new.ensures;
  room = c.release.ensures.room ∙ c.args.self.now.room;
  short = short_none _ c.new.ensures;
}
