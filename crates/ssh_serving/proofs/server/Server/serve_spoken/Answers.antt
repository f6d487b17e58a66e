use Rattle.std.proofs.Common.{[], false, refl}
use Rattle.ssh_rules.specs.Acts.{acts}
use Rattle.ssh_rules.specs.declared.messages.Spoken.TheVariants.{RequestsUnknown}
use Rattle.ssh_rules.specs.declared.messages.Spoken.TheVariants.{RequestsGloballyUnknown}
use Rattle.ssh_rules.specs.declared.messages.Spoken.TheVariants.{GivesUpSessions}
use Rattle.ssh_rules.specs.Rows.{spoken_acts}
use Rattle.ssh_serving.proofs.Serving.{serves_nothing, turned, hears_nothing}
use Rattle.ssh_serving.proofs.server.Server.serve_spoken.Goals as goal

pub returns-in-Nothing-clause-does : goal.returns-in-Nothing-clause-does
returns-in-Nothing-clause-does g c = λ w r later.
    rw c.in-Nothing.is (serves_nothing tt (λ (_ : Unit {0}). acts later) _ w c.args.self.now r)

pub returns-in-Failed-clause-does : goal.returns-in-Failed-clause-does
returns-in-Failed-clause-does g c = λ w r later.
    rw c.in-Failed.is (c.peer_fails.ensures.does w r later)

pub returns-in-Grant-clause-does : goal.returns-in-Grant-clause-does
returns-in-Grant-clause-does g c = λ w r later. rw c.in-Grant.is (c.grant.ensures.does w r later)

pub returns-in-Data-clause-does : goal.returns-in-Data-clause-does
returns-in-Data-clause-does g c = λ w r later. rw c.in-Data.is (c.peer_data.ensures.does w r later)

pub returns-in-Tells-clause-does : goal.returns-in-Tells-clause-does
returns-in-Tells-clause-does g c = λ w r later. rw c.in-Tells.is (c.tell_on.ensures.does w r later)

pub returns-in-Close-clause-does : goal.returns-in-Close-clause-does
returns-in-Close-clause-does g c = λ w r later.
    rw c.in-Close.is (c.peer_close.ensures.does w r later)

pub returns-in-Requests-clause-does : goal.returns-in-Requests-clause-does
returns-in-Requests-clause-does g c = λ w r later. rw c.in-Requests.is (c.channel_requested.ensures.does w r later)

pub returns-in-RequestsAgent-clause-does : goal.returns-in-RequestsAgent-clause-does
returns-in-RequestsAgent-clause-does g c = λ w r later.
    rw c.in-RequestsAgent.is (c.agent_requested.ensures.does w r later)

pub returns-in-RequestsUnknown-clause-does : goal.returns-in-RequestsUnknown-clause-does
returns-in-RequestsUnknown-clause-does g c = λ w r later.
    rw c.in-RequestsUnknown.is (turned (spoken_acts w
    (RequestsUnknown c.in-RequestsUnknown.channel c.in-RequestsUnknown.wanted)) w _ c.unknown_requested.new.self
    c.unknown_requested.result (c.unknown_requested.ensures.does w r) later)

pub returns-in-RequestsForward-clause-does : goal.returns-in-RequestsForward-clause-does
returns-in-RequestsForward-clause-does g c = λ w r later.
    rw c.in-RequestsForward.is (c.forward_requested.ensures.does w r later)

pub returns-in-RequestsGlobally-clause-does : goal.returns-in-RequestsGlobally-clause-does
returns-in-RequestsGlobally-clause-does g c = λ w r later.
    rw c.in-RequestsGlobally.is (c.globally_requested.ensures.does w r later)

pub returns-in-RequestsGloballyUnknown-clause-does : goal.returns-in-RequestsGloballyUnknown-clause-does
returns-in-RequestsGloballyUnknown-clause-does g c = λ w r later.
    rw c.in-RequestsGloballyUnknown.is (turned (spoken_acts w
    (RequestsGloballyUnknown c.in-RequestsGloballyUnknown.wanted)) w _ c.unknown_globally_requested.new.self
    c.unknown_globally_requested.result (c.unknown_globally_requested.ensures.does w r) later)

pub returns-in-GivesUpSessions-clause-does : goal.returns-in-GivesUpSessions-clause-does
returns-in-GivesUpSessions-clause-does g c = λ w r later.
    rw c.in-GivesUpSessions.is (turned (spoken_acts w
    (GivesUpSessions c.in-GivesUpSessions.wanted)) w _ c.gave_up_sessions.new.self
    c.gave_up_sessions.result (c.gave_up_sessions.ensures.does w r) later)

pub returns-in-Settles-clause-does : goal.returns-in-Settles-clause-does
returns-in-Settles-clause-does g c = λ w r later.
    rw c.in-Settles.is (c.settle.ensures.does w r later)

pub returns-in-Inconsistent-clause-does : goal.returns-in-Inconsistent-clause-does
returns-in-Inconsistent-clause-does g c = λ w r later.
    rw c.in-Inconsistent.is ([], hears_nothing false (g.O.Transport.heard c.args.outside.now), refl)
