-- Requests of the peer on a channel, and the replies to them (RFC 4254 section 5.4).
use Rattle.std.proofs.Common.{◌≡◌, ◌<◌, ◌∙◌, ◌∷◌, [], ◌++◌, ℕ, Bool, true, false, List, Option}
use Rattle.std.proofs.Common.{Some, None, ap}
use Rattle.std.proofs.Common.{arith, length, refl, subst, sym}
use Rattle.std.proofs.Math.Nat.{min-eq_left}
use Rattle.std.specs.Prelude.{◌^◌, ◌==◌, if◌then◌else◌, cond}
use Rattle.ssh_wire.specs.declared.channel_id.ChannelId.{ChannelId}
use Rattle.ssh_link.specs.declared.link.TraceEntry.TheVariants.{Noticed}
use Rattle.ssh_link.specs.declared.notice.ChannelMsg.TheVariants as msg
use Rattle.ssh_link.specs.declared.notice.Notice.TheVariants.{Channel}
use Rattle.ssh_auth.specs.Plan.{Plan, Ask, Tell, Judgement}
use Rattle.ssh_auth.specs.declared.question.Judged.TheVariants.{AgentRequest}
use Rattle.ssh_auth.specs.declared.question.Question.TheVariants.{Judges}
use Rattle.ssh_channels.specs.Calls.{Set_target}
use Rattle.ssh_channels.specs.Calls as calls
use Rattle.ssh_channels.specs.Layout.{as_uint32}
use Rattle.ssh_channels.specs.Lines.{aims}
use Rattle.ssh_channels.specs.Table.{Table}
use Rattle.ssh_rules.specs.Acts.{Act, acts, done_all}
use Rattle.ssh_rules.specs.Outcome.{Outcome}
use Rattle.ssh_rules.specs.Rows.{aims_at, aims_if, gives_up_sessions}
use Rattle.ssh_rules.specs.declared.request.ChannelRequest.{ChannelRequest}
use Rattle.ssh_rules.specs.World.{World, request_at, lined, next_place, settles_for}
use Rattle.ssh_rules.specs.World.{settles_one, unless_ended}
use Rattle.ssh_serving.specs.Serve.{Refines}
use Rattle.ssh_serving.specs.declared.server.Server.{Server}
use Rattle.ssh_serving.proofs.Refining.{called}

-- a request with this place
abbrev pub asked_with : ChannelId → Option ℕ → ChannelRequest
asked_with channel place = record { channel = channel; place = place }

pub asked_so : (channel : ChannelId) (wanted : Bool) (place : Option ℕ) (w : World)
    → wanted ≡ true → place ≡ next_place channel.0 w
    → asked_with channel place ≡ request_at channel wanted w
asked_so channel wanted place w is h =
    ap (asked_with channel) (h ∙ sym (ap (λ b. cond b (next_place channel.0 w) None) is))

-- a command in the callback of another request, or of none
pub settles_other : (asked : ChannelRequest) (n : ℕ) (success : Bool) (w : World)
    → (n == asked.channel.0) ≡ false
    → lined (settles_for None n success) w ≡ lined (settles_for (Some asked) n success) w
settles_other asked n success w h =
    sym (ap (λ b. lined (λ l. cond b (settles_one asked.place n success l)
    (settles_for None n success l)) w) h)

pub settles_own : (asked : ChannelRequest) (n : ℕ) (success : Bool) (w : World)
    → (n == asked.channel.0) ≡ true
    → lined (settles_one asked.place n success) w ≡ lined (settles_for (Some asked) n success) w
settles_own asked n success w h =
    sym (ap (λ b. lined (λ l. cond b (settles_one asked.place n success l)
    (settles_for None n success l)) w) h)

-- a channel's window is filled up to so many bytes from now on
pub aimed : (channel : ChannelId) (window : ℕ) (session : Server) (table : Table)
    (fits : length session.session_id < 2 ^ 32) (w : World) → window < 2 ^ 32
    → (window == 0) ≡ false → table ≡ calls.set_target channel.0 window session.table
    → Refines session w
    → Refines (record session { table = table; session_id_fits = fits })
    (aims_at channel window w)
aimed channel window session table fits w small some e r =
    let whole : as_uint32 window ≡ window = min-eq_left (omega (arith, small)) in
    let to = called (Set_target channel.0 window) session table fits w small e r in
    rw some (subst (λ k. Refines (record session { table = table; session_id_fits = fits })
    (lined (aims channel.0 k) w)) (sym whole) to)

-- .. and 0 leaves it as it is
pub unaimed : (channel : ChannelId) (window : ℕ) (session : Server) (w : World)
    → (window == 0) ≡ true → Refines session w → Refines session (aims_at channel window w)
unaimed channel window session w zero r = rw zero r

-- the next window is asked for before this is done
pub aims_then : (channel : ChannelId) (filled : Option ℕ) (now : Act) (later : List Act)
    → (aims_if channel filled ++ now ∷ []) ++ later ≡ aims_if channel filled ++ now ∷ later
aims_then channel None now later = refl
aims_then channel (Some target) now later = refl

-- the peer gave up opening sessions
pub given_up : (session : Server) (fits : length session.session_id < 2 ^ 32) (w : World)
    → Refines session w
    → Refines (record session { no_more_sessions = true; session_id_fits = fits })
    (gives_up_sessions w)
given_up session fits w r = record {
  config = r.config;
  session_id = r.session_id;
  remote_sshid = r.remote_sshid;
  state = r.state;
  requested = r.requested;
  name = r.name;
  table = r.table;
  opens = r.opens;
  no_more_sessions = refl;
  wanted = r.wanted;
  outstanding = r.outstanding;
  keepalives = r.keepalives;
  disconnected = r.disconnected;
  keys = r.keys;
}

-- ---- whether the peer's agent may be reached, once the reply is owed

-- the world by the handler's answer
abbrev pub agreed_turn : ChannelRequest → (granted : Bool) → World → World
agreed_turn asked granted = unless_ended (lined (settles_one asked.place asked.channel.0 granted))

abbrev pub agreed_next : ChannelRequest → (later : List Act) → (granted : Bool) → World
    → Plan Outcome
agreed_next asked later granted world = acts later (agreed_turn asked granted world)

abbrev pub judged_plan : ChannelRequest → ChannelId → (later : List Act) → World → Plan Outcome
judged_plan asked channel later v = Ask (Judges (AgentRequest channel)) (λ (answer : Judgement).
    done_all (Some asked) 0 answer.commands v (agreed_next asked later answer.granted))

abbrev pub agent_plan : ChannelRequest → ChannelId → (wanted : Bool) → (later : List Act) → World
    → Plan Outcome
agent_plan asked channel wanted later v =
    Tell (Noticed (Channel channel (msg.AgentForward wanted))) (judged_plan asked channel later v)
