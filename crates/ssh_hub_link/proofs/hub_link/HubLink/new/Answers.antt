use Rattle.std.proofs.Common.{ap}
use Rattle.ssh_hub.specs.Words.{view_of}
use Rattle.ssh_hub_link.proofs.Telling.{takes_begun, feed_begun, sent_begun}
use Rattle.ssh_hub_link.proofs.hub_link.HubLink.new.Goals as goal

pub invariant_of-result : goal.invariant_of-result
invariant_of-result g c = (
  c.requires,
  takes_begun c.args.keep _ _ _ (ap view_of c.of-seat_before.ensures) c.new.ensures c.args.seat.legal,
  feed_begun c.args.keep _ _ _ (ap g.F.Feed.inputs c.of-feed_before.ensures) c.new.ensures,
  sent_begun c.args.keep _ _ _ (ap g.F.Feed.frames c.of-feed_before.ensures) c.new.ensures,
  Rattle.std.proofs.Common.sym (ap g.F.Feed.identity c.of-feed_before.ensures),
)
