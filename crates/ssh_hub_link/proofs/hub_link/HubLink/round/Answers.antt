use Rattle.std.proofs.Common.{ap}
use Rattle.ssh_hub.specs.Words.{view_of}
use Rattle.ssh_hub_link.proofs.Rounds.{by_reply, by_either, by_wait}
use Rattle.ssh_hub_link.proofs.hub_link.HubLink.round.Goals as goal

pub returns-in-Ok-Some-clause-round : goal.returns-in-Ok-Some-clause-round
returns-in-Ok-Some-clause-round g c = let now = c.in-Ok-Some in
    by_reply _ _ _ _ _ _ _ _ _ _ now.ensures.took now.field-0-is now.ensures.same.1

pub returns-in-Ok-Some-take_either-clause-round : goal.returns-in-Ok-Some-take_either-clause-round
returns-in-Ok-Some-take_either-clause-round g c = let first = c.in-Ok-None in
    let fed = c.in-Ok-None-poll_feed in let second = c.in-Ok-Some-take_either in
    by_either _ _ _ _ _ _ _ _ _ _ _ _ _ _ _ _ first.ensures.took first.field-0-is
    first.ensures.same.1 fed.ensures.polled fed.field-0-is (ap view_of fed.ensures.same.1)
    second.ensures.took second.field-0-is second.ensures.same.1

pub returns-clause-round : goal.returns-clause-round
returns-clause-round g c = let first = c.in-Ok-None in let fed = c.in-Ok-None-poll_feed in
    let second = c.in-Ok-None-take_either in
    by_wait _ _ _ _ _ _ _ _ _ _ _ _ _ _ _ _ _ _ first.ensures.took first.field-0-is
    first.ensures.same.1 fed.ensures.polled fed.field-0-is (ap view_of fed.ensures.same.1)
    second.ensures.took second.field-0-is second.ensures.same.1 c.wait_feed.ensures.waited
    (ap view_of c.wait_feed.ensures.same.1)
