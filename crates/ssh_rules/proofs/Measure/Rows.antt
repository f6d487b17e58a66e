-- What a measure counts in a world after a row (RFC 4254 section 5).
use Rattle.std.proofs.Common.{◌≡◌, ℕ, List, [], ◌∷◌, Bool, true, false}
use Rattle.std.proofs.Common.{Option, Some, None, refl}
use Rattle.std.specs.Prelude.{bytes_eq, codes, if◌then◌else◌}
use Rattle.ssh_wire.specs.declared.channel_id.ChannelId.{ChannelId}
use Rattle.ssh_link.specs.declared.command.Command.{Command}
use Rattle.ssh_link.specs.declared.link.TraceEntry.TheVariants.{Answered}
use Rattle.ssh_link.specs.declared.notice.Notice.{Notice}
use Rattle.ssh_auth.specs.declared.auth_request.AuthRequest.{AuthRequest}
use Rattle.ssh_auth.specs.declared.auth_step.AuthVerdict.TheVariants as verdict
use Rattle.ssh_auth.specs.declared.question.Question.TheVariants.{Banner}
use Rattle.ssh_auth.specs.Plan.{Plan, Finish, Ask, Tell, after}
use Rattle.ssh_auth.specs.Verdict.{AuthOutcome, Replies, verdict as verdict_on, response_verdict}
use Rattle.ssh_auth.specs.Verdict as auth
use Rattle.ssh_rules.specs.declared.state.EncryptedState.{EncryptedState}
use Rattle.ssh_rules.specs.declared.state.EncryptedState.TheVariants.{WaitingAuthRequest}
use Rattle.ssh_rules.specs.Acts.{acts}
use Rattle.ssh_rules.specs.Effect.{effect, said}
use Rattle.std.specs.Prelude.{if◌then◌else◌}
use Rattle.ssh_rules.specs.Layout.{too_many_attempts, service_accept, banner, at_once, held}
use Rattle.ssh_rules.specs.Outcome.{Goes}
use Rattle.ssh_rules.specs.OwnMessages.{keepalive}
use Rattle.ssh_rules.specs.Ticks.{keepalive_acts, ticked}
use Rattle.ssh_rules.specs.Reading.{Said, Disconnect, Over_cap, Service, Request, Response, Open}
use Rattle.ssh_rules.specs.Reading.{Agreed, Unfit, Without_packets}
use Rattle.ssh_rules.specs.Reading as read
use Rattle.ssh_rules.specs.Rows.{row, owed, greeting, greets, is_short, replied}
use Rattle.ssh_rules.specs.Rows.{concluded, where_waiting, rejection_hold, moment_after}
use Rattle.ssh_rules.specs.Rows.{served, lets_in, finishes}
use Rattle.ssh_rules.specs.Run.{command_row}
use Rattle.ssh_rules.specs.World.{World, waits_for, is_waiting}
use Rattle.ssh_rules.proofs.Plans.Acting.{PlanComes, ActsCome, acts_come}
use Rattle.ssh_rules.proofs.Plans.Acting.{one_comes}
use Rattle.ssh_rules.proofs.Plans.Apart.{tick_comes}
use Rattle.ssh_rules.proofs.Answered.CallbackRows.{IsBesideOpen}
use Rattle.ssh_rules.proofs.Measure.Calls.{Measure, AreSilent}
use Rattle.ssh_rules.proofs.Plans.Settled.{Anything}
use Rattle.ssh_rules.proofs.Measure.Commands.{OwesUpTo, ComesUpTo, writes_upto, said_upto, effect_upto}
use Rattle.ssh_rules.proofs.Measure.Commands.{law, confirmation_upto, OfRequest, of_every, weaker}
use Rattle.ssh_rules.proofs.Measure.Commands.{Claims, RequestOwes, spoken_upto}
use Rattle.ssh_rules.proofs.Plans.Verdicts.{EndsSo, IsBeside, so_then, verdict_beside, response_beside}

-- ---- rows

abbrev pub OfRead : Claims → Said → Type 0
OfRead so (read.Connection said) = OfRequest so said
OfRead so _ = Unit {0}

-- it is so of what was read where it is so of every request, or where something else is of which
-- it follows
pub of_read : (so : Claims) (said : Said) →
    ((channel : ChannelId) (wanted : Bool) → so.on channel wanted) →
    ((wanted : Bool) → so.globally wanted) → ((told : Option Notice) → so.settles told) →
    OfRead so said
of_read so (read.Connection said) f g h = of_every so said f g h
of_read so _ f g h = tt

pub read_weaker : (so other : Claims) (said : Said) →
    ((channel : ChannelId) (wanted : Bool) → so.on channel wanted → other.on channel wanted) →
    ((wanted : Bool) → so.globally wanted → other.globally wanted) →
    ((told : Option Notice) → so.settles told → other.settles told) →
    OfRead so said → OfRead other said
read_weaker so other (read.Connection said) f g h is = weaker so other said f g h is
read_weaker so other _ f g h is = tt

owed_upto : (of : Measure) (k : ℕ) (w : World) (said : Said) → IsBesideOpen said →
    OfRead (RequestOwes of k w) said → OwesUpTo of k w → ActsCome (law of k) (owed w said) w
owed_upto of k w (Open message) beside q h = absurd beside
owed_upto of k w (Agreed message) beside q h =
    confirmation_upto of k w (is_waiting w message.recipient_channel) message h
owed_upto of k w (read.Connection said) beside q h = spoken_upto of k w said q h
owed_upto of k w Disconnect beside q h = h
owed_upto of k w Over_cap beside q h =
    let frame = at_once too_many_attempts in
    let kept = writes_upto of k (frame ∷ []) w (of.untagged frame refl refl, tt) h in (kept, kept)
owed_upto of k w (Unfit why) beside q h = tt
owed_upto of k w Without_packets beside q h = tt
owed_upto of k w _ beside q h = tt

concluded_upto : (of : Measure) (k : ℕ) (w : World) (moment : ℕ) (requested : Bool)
    (outcome : AuthOutcome) → IsBeside outcome → OwesUpTo of k w →
    PlanComes Anything (ComesUpTo of k) (concluded w moment requested outcome)
concluded_upto of k w moment requested (Replies reply verdict.Accepted state) beside h =
    let v = waits_for (WaitingAuthRequest state) w in
    acts_come (law of k) (replied w moment requested reply verdict.Accepted) v h (
      writes_upto of k (at_once reply ∷ []) (lets_in (finishes requested v))
          (of.untagged (at_once reply) refl beside.0, tt) h,
      λ world j. tt,
    )
concluded_upto of k w moment requested (Replies reply (verdict.Rejected none_method) state) beside
    h =
    let frame = held reply (moment_after moment (rejection_hold w.settings.config none_method
    w.user.requested)) in
    writes_upto of k (frame ∷ []) (finishes requested (waits_for (WaitingAuthRequest state) w))
    (of.untagged frame refl beside.0, tt) h
concluded_upto of k w moment requested (Replies reply verdict.Continued state) beside h =
    writes_upto of k (at_once reply ∷ [])
    (finishes requested (waits_for (WaitingAuthRequest state) w))
    (of.untagged (at_once reply) refl beside.0, tt) h
concluded_upto of k w moment requested (auth.Fails fault) beside h = tt

asked_upto : (of : Measure) (k : ℕ) (state : EncryptedState)
    (next : AuthRequest → Plan AuthOutcome) (w : World) (moment : ℕ) (requested : Bool) →
    ((auth : AuthRequest) → EndsSo IsBeside (next auth)) → OwesUpTo of k w →
    PlanComes Anything (ComesUpTo of k)
    (where_waiting state (λ auth. after (next auth) (concluded w moment requested)) (acts [] w))
asked_upto of k (WaitingAuthRequest auth) next w moment requested ends h =
    so_then IsBeside Anything (ComesUpTo of k) (next auth) (concluded w moment requested)
    (ends auth) (λ outcome beside. concluded_upto of k w moment requested outcome beside h)
asked_upto of k _ next w moment requested ends h = h

greeting_silent : (of : Measure) (message : Option (List ℕ)) →
    AreSilent of.such (greeting message)
greeting_silent of None = (of.untagged (at_once service_accept) refl refl, tt)
greeting_silent of (Some message) = (
  of.untagged (at_once service_accept) refl refl,
  (of.untagged (at_once (banner message)) refl refl, tt),
)

greets_upto : (of : Measure) (k : ℕ) (w : World) (message : Option (List ℕ)) (short : Bool) →
    is_short message ≡ short → OwesUpTo of k w →
    PlanComes Anything (ComesUpTo of k) (acts (greets message) w)
greets_upto of k w message true is h =
    rw is (writes_upto of k (greeting message) (served w) (greeting_silent of message) h)
greets_upto of k w message false is h = rw is tt

service_upto : (of : Measure) (k : ℕ) (w : World) (b : Bool) → OwesUpTo of k w →
    PlanComes Anything (ComesUpTo of k)
    (if b then Ask Banner (λ message. acts (greets message) w) else acts [] w)
service_upto of k w true h = λ message s. greets_upto of k w message (is_short message) refl h
service_upto of k w false h = h

pub row_upto : (of : Measure) (k : ℕ) (w : World) (moment : ℕ) (said : Said) →
    IsBesideOpen said → OfRead (RequestOwes of k w) said → OwesUpTo of k w →
    PlanComes Anything (ComesUpTo of k) (row w moment said)
row_upto of k w moment (Service name) beside q h = service_upto of k w
    (bytes_eq name (codes "ssh-userauth")) h
row_upto of k w moment (Request asked) beside q h =
    asked_upto of k w.user.state (λ auth. verdict_on auth asked) w moment true
    (verdict_beside asked) h
row_upto of k w moment (Response responded) beside q h =
    asked_upto of k w.user.state (λ auth. response_verdict auth responded) w moment
    w.user.requested (response_beside responded) h
row_upto of k w moment said beside q h =
    acts_come (law of k) (owed w said) w h (owed_upto of k w said beside q h)

pub command_upto : (of : Measure) (k : ℕ) (w : World) (ticket : ℕ) (commanded : Command) →
    OwesUpTo of k w → PlanComes Anything (ComesUpTo of k) (command_row w ticket commanded)
command_upto of k w ticket commanded h =
    one_comes (law of k) (effect w commanded) (λ outcome world. Tell (Answered ticket outcome)
    (Finish (Goes world)))
    (effect_upto None of k w commanded h) (λ outcome world j. j)

pub tick_upto : (of : Measure) (k : ℕ) (w : World) → OwesUpTo of k w →
    PlanComes Anything (ComesUpTo of k) (acts (keepalive_acts w) w)
tick_upto of k w h =
    acts_come (law of k) (keepalive_acts w) w h
    (tick_comes (law of k) w tt (said_upto of k keepalive (ticked w) refl h))
