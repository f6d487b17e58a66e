use Rattle.std.proofs.Common.{subst}
use Rattle.ssh_c.specs.Feeding.{Feeds, payload_at}
use Rattle.ssh_c.proofs.Fed.{fed_plain}
use Rattle.ssh_c.proofs.held.Held.exchange.Goals as goal

pub returns : goal.returns
returns c =
    subst (λ bytes. Feeds c.args.self.now (payload_at c.args.moment bytes) c.take.new.self
    c.take.result) c.in_ok-copy_from_slice.ensures
    (fed_plain c.args.self.now c.take.new.self
    (payload_at c.args.moment c.in_ok-copy_from_slice.field-0) c.take.result c.take.ensures.taken
    c.take.ensures.adds)
