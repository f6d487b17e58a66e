use Rattle.std.proofs.Common.{Option, IfSome, refl, sym, ap, subst, ◌∙◌}
use Rattle.std.specs.Arc.{arc_value}
use Rattle.std.specs.Borrow.{MutBor}
use Rattle.ssh_hub.specs.Words.{config_of, view_of}
use Rattle.ssh_hub.specs.declared.lock.HubLock.{HubLock}
use Rattle.ssh_threads.specs.Served.{IsLeft, peer_told}
use Rattle.ssh_threads.specs.declared.served.Served.{Served}
use Rattle.ssh_threads.proofs.Leaving.{left_of, run_is}
use Rattle.ssh_threads.proofs.served.serve_once.Goals as goal

pub invariant_of-link : goal.invariant_of-link
invariant_of-link g c = let hub = c.requires.hub in let peer = c.requires.peer in
    let now = c.new-inner.ensures in (
      ap (λ (l : HubLock). l.table.shared.table_id) now.lock ∙ sym hub.0,
      ap config_of now.lock ∙ sym hub.1,
      ap view_of now.seat.1 ∙ sym hub.2,
      ap (λ (f : MutBor _). f.ghost_name) now.feed.1 ∙ sym peer.0,
      ap (λ (f : MutBor _). g.P.Feed.inputs f.now) now.feed.1 ∙ sym peer.1,
      ap (λ (f : MutBor _). g.P.Feed.frames f.now) now.feed.1 ∙ sym peer.2,
    )

pub returns-clause-same : goal.returns-clause-same
returns-clause-same g c =
    c.finish-peer.ensures.identity ∙ c.link.invariant.3 ∙ c.requires.peer.0

pub returns-clause-left : goal.returns-clause-left
returns-clause-left g c =
    let pin = c.link.invariant in
    let hub = c.requires.hub in
    let peer = c.requires.peer in
    let done = c.finish-peer.ensures in
    let now = c.new-inner.ensures in
    let ran = run_is c.serve_over-outcome.result _ _ (g.P.Feed.faults c.args.peer.now)
    (g.P.Feed.faults c.link.inside.inner.feed.now) c.link.inside.inner.trace
    (λ i. record { trace = now.trace.0 i; faults = g.P.Feed.faults (now.feed.0 i).now })
    (sym c.link.view_is) c.serve_over-outcome.ensures in
    subst (λ (o : Option Served). IfSome o (IsLeft (arc_value c.args.lock) (view_of c.args.seat)
    (peer_told g.P.Feed.inputs g.P.Feed.frames g.P.Feed.faults c.args.peer.now)
    (peer_told g.P.Feed.inputs g.P.Feed.frames g.P.Feed.faults c.finish-peer.result.0.now)))
    (sym c.put.ensures)
    (left_of (λ (f : MutBor _). g.P.Feed.inputs f.now) (λ (f : MutBor _). g.P.Feed.frames f.now)
    (λ (f : MutBor _). g.P.Feed.faults f.now) (λ v. v.items) (λ s. s.trace) (λ s. refl)
    (arc_value c.args.lock) (view_of c.args.seat) (g.P.Feed.inputs c.args.peer.now)
    (g.P.Feed.frames c.args.peer.now) (g.P.Feed.faults c.args.peer.now) c.link.inside.inner
    c.finish-peer.result.0 c.finish-peer.result.1 c.serve_over-outcome.result
    c.trace_of-trace.result (pin.0 ∙ hub.0) (pin.1 ∙ hub.1) (pin.2 ∙ hub.2) (pin.4 ∙ peer.1)
    (pin.5 ∙ peer.2) done.feed done.seat done.takes done.inputs done.frames ran
    c.trace_of-trace.ensures.whole c.trace_of-trace.ensures.trace c.made-served.result
    c.made-served.ensures.seat c.made-served.ensures.outcome c.made-served.ensures.trace)
