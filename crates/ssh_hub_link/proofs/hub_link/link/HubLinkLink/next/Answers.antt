use Rattle.std.proofs.Common.{◌∙◌, arith}
use Rattle.ssh_hub_link.proofs.Rounds.{told_none, asked_of, gave_some, rounds_more}
use Rattle.ssh_hub_link.proofs.hub_link.link.HubLinkLink.next.Goals as goal

pub loop-preserved : goal.loop-preserved
loop-preserved g c = let inv = c.loop.invariant in let now = c.in-Ok-None in
    let told = told_none c.loop.self c.round.new.self _ _ _ now.field-0-is now.ensures.told in (
      (
        now.ensures.same.0 ∙ inv.0.0,
        now.ensures.same.1 ∙ inv.0.1,
        now.ensures.same.2 ∙ inv.0.2,
      ),
      told.0 ∙ inv.1,
      told.1,
      omega (arith, inv.3, now.ensures.later),
      rounds_more _ _ _ _ _ _ _ _ _ _ _ _ inv.4.1 now.ensures.round now.field-0-is,
    )

pub returns-in-Ok-Some-clause-asked : goal.returns-in-Ok-Some-clause-asked
returns-in-Ok-Some-clause-asked g c = let now = c.in-Ok-Some in
    asked_of _ _ _ _ _ _ _ _ _
    (gave_some _ _ _ _ _ _ _ _ _ _ now.ensures.round now.field-0-is)

pub returns-in-Ok-Some-clause-rounds : goal.returns-in-Ok-Some-clause-rounds
returns-in-Ok-Some-clause-rounds g c = let inv = c.loop.invariant in let now = c.in-Ok-Some in record {
  rounds = inv.4.0;
  seen = _;
  fed = _;
  empty = inv.4.1;
  last = gave_some _ _ _ _ _ _ _ _ _ _ now.ensures.round now.field-0-is;
}
