use Rattle.std.proofs.Common.{subst}
use Rattle.ssh_c.specs.Feeding.{Feeds, payload_at}
use Rattle.ssh_c.proofs.Fed.{fed_plain}
use Rattle.ssh_c.proofs.held.Held.feed.Goals as goal

pub returns-then-matches : goal.returns-then-matches
returns-then-matches c =
    subst (λ bytes. Feeds c.args.self.now (payload_at c.args.moment bytes) c.vouch_and_take.new.self
    c.vouch_and_take.result) c.in_ok-copy_from_slice.ensures c.vouch_and_take.ensures

pub returns-else-matches : goal.returns-else-matches
returns-else-matches c =
    subst (λ bytes. Feeds c.args.self.now (payload_at c.args.moment bytes) c.take.new.self
    c.take.result) c.in_ok-copy_from_slice.ensures
    (fed_plain c.args.self.now c.take.new.self
    (payload_at c.args.moment c.in_ok-copy_from_slice.field-0) c.take.result c.take.ensures.taken
    c.take.ensures.adds)
