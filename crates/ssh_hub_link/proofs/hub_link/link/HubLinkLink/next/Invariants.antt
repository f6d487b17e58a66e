use Rattle.std.proofs.Common.{◌≡◌, ◌≤◌, ℕ, None}
use Rattle.ssh_hub.specs.Words.{view_of}
use Rattle.ssh_hub_link.specs.Linked.{IsSameLink}
use Rattle.ssh_hub_link.specs.Rounds.{EmptyRounds}
use Rattle.ssh_hub_link.proofs.hub_link.link.HubLinkLink.next.Given as goal

abbrev pub invariant-loop : goal.invariant-loop
invariant-loop g l =
    IsSameLink l.fn.self l.self
    × (l.self.trace ≡ l.fn.self.trace)
    × (l.self.lost ≡ None)
    × (g.F.Feed.faults l.fn.self.feed ≤ g.F.Feed.faults l.self.feed)
    × ((n : ℕ) × EmptyRounds g.F.Feed.polls g.F.Feed.waits l.commands l.replies n
    (view_of l.fn.self.seat) l.fn.self.feed (view_of l.self.seat) l.self.feed)
