use Rattle.std.proofs.Common.{Some, sym, ◌∙◌, ap}
use Rattle.ssh_c.specs.Feeding.{payload_at}
use Rattle.ssh_c.proofs.Fed.{fed_in}
use Rattle.ssh_c.proofs.export.gidzork_feed.Goals as goal

pub returns : goal.returns
returns c =
    fed_in c.args.handle.now.slot.held c.put.new.self.slot.held c.deref_mut.result.now
    c.feed_now-code.new.self (payload_at c.args.moment c.args.payload.now)
    c.feed_now-code.result (c.in-Some.ensures.taken ∙ ap Some (sym c.deref_mut.ensures.value))
    c.put.ensures c.feed_now-code.ensures
