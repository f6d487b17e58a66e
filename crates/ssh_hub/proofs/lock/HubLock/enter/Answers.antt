use Rattle.std.proofs.Common.{arith, ◌∙◌, ap}
use mathlib.Core.Option.{none}
use Rattle.atomic_table.specs.Table.{step}
use Rattle.ssh_hub.proofs.Steps.{draws, looks_as, took_turn}
use Rattle.ssh_hub.proofs.Handing.{carries}
use Rattle.ssh_hub.proofs.Made.{inside_after, newest_entered, held_entered, owns_entered}
use Rattle.ssh_hub.proofs.lock.HubLock.enter.Goals as goal

pub fetch_add-ticket-requires : goal.fetch_add-ticket-requires
fetch_add-ticket-requires g c = let words = c.args.self.now.sized.0 in
    (c.requires.0, omega arith, draws _ _ _ _ c.requires.1.1)

pub load-serving-requires : goal.load-serving-requires
load-serving-requires g c = let words = c.args.self.now.sized.0 in let inv = c.loop.invariant in
    let is = inv.1 in let m = c.args.place.now.me in (
      inv.3 ∙ c.requires.0,
      omega arith,
      looks_as _ _ _ inv.0 _ m.0 m.1 inv.2 c.requires.1.0
          (omega arith),
    )

pub exchange-requires : goal.exchange-requires
exchange-requires g c = let inv = c.loop.invariant in let m = c.args.place.now.me in
    let took = took_turn (step 0 0 0 0 none) inv.0 _ _ _ m.0 m.1 inv.2 c.load-serving.ensures.2
    (c.if-serving-ticket.true ∙ inv.1) in
    (c.load-serving.ensures.0 ∙ (inv.3 ∙ c.requires.0), (_, carries _ _ _ (ap (λ m. m.1) took.1)))

pub returns-then-serving-ticket-clause-place : goal.returns-then-serving-ticket-clause-place
returns-then-serving-ticket-clause-place g c = let inv = c.loop.invariant in
    let m = c.args.place.now.me in
    let took = took_turn (step 0 0 0 0 none) inv.0 _ _ _ m.0 m.1 inv.2 c.load-serving.ensures.2
    (c.if-serving-ticket.true ∙ inv.1) in (
      c.exchange.ensures.0 ∙ (c.load-serving.ensures.0 ∙ inv.3),
      inside_after inv.0 m.0 m.1 _ _ took
          c.exchange.ensures.3 c.requires.1,
    )

pub returns-then-serving-ticket-clause-newest : goal.returns-then-serving-ticket-clause-newest
returns-then-serving-ticket-clause-newest g c = let inv = c.loop.invariant in
    let m = c.args.place.now.me in
    let took = took_turn (step 0 0 0 0 none) inv.0 _ _ _ m.0 m.1 inv.2 c.load-serving.ensures.2
    (c.if-serving-ticket.true ∙ inv.1) in
    newest_entered inv.0 m.0 m.1 _ _ took c.exchange.ensures.3

pub returns-then-serving-ticket-clause-held : goal.returns-then-serving-ticket-clause-held
returns-then-serving-ticket-clause-held g c = let inv = c.loop.invariant in
    let m = c.args.place.now.me in
    let took = took_turn (step 0 0 0 0 none) inv.0 _ _ _ m.0 m.1 inv.2 c.load-serving.ensures.2
    (c.if-serving-ticket.true ∙ inv.1) in
    held_entered inv.0 m.0 m.1 _ _ took c.exchange.ensures.3

pub returns-then-serving-ticket-clause-owns : goal.returns-then-serving-ticket-clause-owns
returns-then-serving-ticket-clause-owns g c = let inv = c.loop.invariant in
    let m = c.args.place.now.me in
    let took = took_turn (step 0 0 0 0 none) inv.0 _ _ _ m.0 m.1 inv.2 c.load-serving.ensures.2
    (c.if-serving-ticket.true ∙ inv.1) in
    owns_entered inv.0 m.0 m.1 _ _ took c.exchange.ensures.3
