-- The state of a session in the standard's terms. It is a record of the definitions alone: the code
-- has what it needs of it, and the relation `Refines` of `ssh_session` ties the two.
use Rattle.std.specs.Prelude.{◌&&◌, ◌||◌, ◌++◌, ◌∷◌, ℕ, Bool, List, [], true, false, not, cond}
use Rattle.std.specs.Prelude.{◌==◌, min, drop, Option, Some, None, option_to_list}
use Rattle.ssh_link.specs.Frames.{Frame}
use Rattle.ssh_handler.specs.declared.config.Config.{Config}
use Rattle.ssh_auth.specs.Publickey.{Acceptance, Circumstances}
use Rattle.ssh_wire.specs.declared.channel_id.ChannelId.{ChannelId}
use Rattle.ssh_channels.specs.Does.{has, place_of}
use Rattle.ssh_channels.specs.Entry.{Entry}
use Rattle.ssh_channels.specs.Lines.{Lines, no_lines, find, write, takes_request, takes_reply}
use Rattle.ssh_rules.specs.declared.exchange.ExchangeState.TheVariants.{Idle}
use Rattle.ssh_rules.specs.declared.exchange.Keys.{Keys}
use Rattle.ssh_rules.specs.declared.outstanding.Outstanding.{Outstanding}
pub use Rattle.ssh_rules.specs.declared.request.ChannelRequest.{ChannelRequest}
use Rattle.ssh_rules.specs.declared.state.EncryptedState.{EncryptedState}
use Rattle.ssh_rules.specs.declared.state.EncryptedState.TheVariants.{WaitingAuthServiceRequest}
use Rattle.ssh_rules.specs.Exchange.{heard, is_running}
use Rattle.ssh_rules.specs.Layout.{at_once}
use Rattle.ssh_rules.specs.Opening.{Opening}

-- what is fixed in a run
pub record Settings : Type 0 where
  pub config : Config
  -- the exchange hash of the first key exchange (RFC 4253 section 7.2)
  pub session_id : List ℕ
  -- the line by which the peer's software named itself (RFC 4253 section 4.2)
  pub remote_sshid : List ℕ
  -- this side can begin an exchange of keys by itself
  pub repeatable : Bool

-- a run of a server that is set up so, over a key exchange with this session id, for a peer of this
-- name, and whether this side can begin an exchange of keys
abbrev pub settings_of : Config → List ℕ → List ℕ → Bool → Settings
settings_of config session_id remote_sshid repeatable = record {
  config = config;
  session_id = session_id;
  remote_sshid = remote_sshid;
  repeatable = repeatable;
}

-- how far authentication has come (RFC 4252)
pub record User : Type 0 where
  -- what is waited for, with what the requests so far left
  pub state : EncryptedState
  -- a USERAUTH_REQUEST was finished
  pub requested : Bool
  -- the name of the user who was let in, and nothing before
  pub name : List ℕ

-- the channels (RFC 4254 section 5)
pub record Channels : Type 0 where
  -- each channel, the numbers that are pending, and the frames that were written
  pub lines : Lines
  -- what the peer said of each open that waits for its answer, by this side's number
  pub opens : List (ℕ × Opening)
  -- the peer gave up opening sessions, and an open of one is refused (OpenSSH PROTOCOL section 2.2)
  pub no_more_sessions : Bool

-- the global requests, which are no channel's (RFC 4254 section 4)
pub record Globals : Type 0 where
  -- the peer's last one wants a reply, and has none yet
  pub wanted : Bool
  -- those of this side's that wait for a reply, the oldest first
  pub outstanding : List Outstanding

pub record World : Type 0 where
  pub settings : Settings
  pub user : User
  pub channels : Channels
  pub globals : Globals
  -- how many keepalive ticks came since the peer was heard last
  pub keepalives : ℕ
  -- a command ended the connection by a DISCONNECT, behind which nothing goes out (RFC 4253 section
  -- 11.1)
  pub disconnected : Bool
  -- the exchange of keys, and how much passed under the keys in use (RFC 4253 sections 7 and 9)
  pub keys : Keys

-- before the first input
abbrev pub opening_world : Settings → World
opening_world settings = record {
  settings = settings;
  user = record { state = WaitingAuthServiceRequest false false; requested = false; name = [] };
  channels = record {
    lines = no_lines;
    opens = [];
    no_more_sessions = false;
  };
  globals = record { wanted = false; outstanding = [] };
  keepalives = 0;
  disconnected = false;
  keys = record { exchange = Idle; taken = 0; handed_on = 0 };
}

-- what a request at this moment is judged by, where the verifier accepts these signatures
abbrev pub circumstances : Acceptance → Settings → (moment : ℕ) → Circumstances
circumstances accepts settings moment =
    record { accepts = accepts; session_id = settings.session_id; moment = moment }

-- the peer waits for this from now on
abbrev pub waits_for : EncryptedState → World → World
waits_for state w = record w { user = record w.user { state = state } }

-- the channels are these from now on
abbrev pub lined : (Lines → Lines) → World → World
lined change w = record w { channels = record w.channels { lines = change w.channels.lines } }

-- a channel of this number is there, which both sides agreed to
abbrev pub is_there : World → ℕ → Bool
is_there w channel = has (λ e. e.confirmed) channel w.channels.lines

-- an open of this side's waits under this number for the peer
abbrev pub is_waiting : World → ℕ → Bool
is_waiting w channel = has (λ e. not e.confirmed) channel w.channels.lines

-- ---- requests of the peer's on a channel, and their replies (RFC 4254 section 5.4)

-- the place that the next reply has that is wanted on the channel
abbrev pub next_place : (number : ℕ) → World → Option ℕ
next_place number w = place_of (find number w.channels.lines.entries)

-- the request that comes now, as the commands of its callback know it: its channel, and the place of
-- its reply among those of the channel, where it wants one
abbrev pub request_at : ChannelId → (wanted : Bool) → World → ChannelRequest
request_at channel wanted w = record {
  channel = channel;
  place = cond wanted (next_place channel.0 w) None;
}

-- its reply is owed from now on, where it wants one
abbrev pub wants_if : (wanted : Bool) → (number : ℕ) → Lines → Lines
wants_if wanted number l = cond wanted (takes_request number l) l

-- the reply of this place is settled, if it is still owed; where there is no place, nothing changes
abbrev pub settles_one : (place : Option ℕ) → (number : ℕ) → (success : Bool) → Lines → Lines
settles_one None number success l = l
settles_one (Some place) number success l = takes_reply number (Some place) success l

-- a command in the callback of a request on the same channel settles the reply of that request, and
-- nothing else; any other settles the first reply that is owed on the channel
abbrev pub settles_for : (at : Option ChannelRequest) → (number : ℕ) → (success : Bool) → Lines
    → Lines
settles_for None number success l = takes_reply number None success l
settles_for (Some asked) number success l = cond (number == asked.channel.0)
    (settles_one asked.place number success l)
    (takes_reply number None success l)

-- ---- the room of a channel (RFC 4254 section 5.2)

-- up to how many bytes it is filled; of no channel up to 0
abbrev pub target_of : Option Entry → ℕ
target_of None = 0
target_of (Some e) = e.target

abbrev pub target_on : (number : ℕ) → World → ℕ
target_on number w = target_of (find number w.channels.lines.entries)

-- how many bytes the peer may still send on it; on no channel none
abbrev pub room_of : Option Entry → ℕ
room_of None = 0
room_of (Some e) = e.room

abbrev pub room_on : (number : ℕ) → World → ℕ
room_on number w = room_of (find number w.channels.lines.entries)

-- the most bytes of data that this side takes on it in one message; on no channel none (section
-- 5.1)
abbrev pub packet_of : Option Entry → ℕ
packet_of None = 0
packet_of (Some e) = e.packet

abbrev pub packet_on : (number : ℕ) → World → ℕ
packet_on number w = packet_of (find number w.channels.lines.entries)

-- the most that the peer may send on it in one message now
abbrev pub writable_on : (number : ℕ) → World → ℕ
writable_on number w = min (room_on number w) (packet_on number w)

-- ---- what changes of the world

-- these frames are written
abbrev pub writes : List Frame → World → World
writes frames = lined (write frames)

-- the global requests are these from now on
abbrev pub requested : (Globals → Globals) → World → World
requested change w = record w { globals = change w.globals }

-- the peer's last global request wants a reply, or none
abbrev pub wants_global : (wanted : Bool) → World → World
wants_global wanted = requested (λ g. record g { wanted = wanted })

-- the reply that the peer's last global request wants, where it wants one; then it wants none (RFC
-- 4254 section 4)
abbrev pub settles_global : (payload : List ℕ) → World → World
settles_global payload w =
    cond w.globals.wanted (writes (at_once payload ∷ []) (wants_global false w)) w

-- a request of this side's waits for its reply, behind those before
abbrev pub awaits : Option Outstanding → World → World
awaits awaited =
    requested (λ g. record g { outstanding = g.outstanding ++ option_to_list awaited })

-- the oldest one waits no longer
abbrev pub settled_first : World → World
settled_first = requested (λ g. record g { outstanding = drop 1 g.outstanding })

-- the connection is ended, or stays as it is (RFC 4253 section 11.1)
abbrev pub ends_by : Bool → World → World
ends_by ends w = record w { disconnected = w.disconnected || ends }

-- where the connection was ended, nothing changes any more (RFC 4253 section 11.1)
abbrev pub unless_ended : (World → World) → World → World
unless_ended change w = cond w.disconnected w (change w)

abbrev pub is_empty : List ℕ → Bool
is_empty [] = true
is_empty (n ∷ rest) = false

-- the peer was heard: a payload that is not empty came, and its bytes count
abbrev pub hears : (payload : List ℕ) → World → World
hears payload w = record w {
  keepalives = cond (is_empty payload) w.keepalives 0;
  keys = heard payload w.keys;
}

-- the keys are these from now on
abbrev pub keyed : Keys → World → World
keyed keys w = record w { keys = keys }

-- an exchange of keys runs
abbrev pub in_exchange : World → Bool
in_exchange w = is_running w.keys.exchange

-- what is written is held: an exchange runs, and no command ended the connection (RFC 4253 sections
-- 7.1 and 11.1)
abbrev pub is_held : World → Bool
is_held w = in_exchange w && not w.disconnected
