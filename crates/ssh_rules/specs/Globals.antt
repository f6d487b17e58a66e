-- Global requests, which are no channel's (RFC 4254 section 4): what the peer's say, and what the
-- replies to this side's say.
use Rattle.std.specs.Prelude.{◌==◌, ℕ, Bool, true, false, List, [], ◌∷◌, Option, Some, None, find}
use Rattle.std.specs.Prelude.{bytes_eq, codes, length, if◌then◌else◌}
use Rattle.std.specs.Int.{w32, from_be_bytes}
use Rattle.ssh_wire.specs.Field.{Field, Values, Number, Text}
use Rattle.ssh_wire.specs.Messages.{global_request}
use Rattle.ssh_link.specs.declared.notice.Notice.TheVariants as notice
use Rattle.ssh_auth.specs.declared.question.Judged.{Judged}
use Rattle.ssh_auth.specs.declared.question.Judged.TheVariants as whether
use Rattle.ssh_rules.specs.declared.messages.Spoken.{Spoken}
use Rattle.ssh_rules.specs.declared.messages.Spoken.TheVariants as spoken
use Rattle.ssh_rules.specs.declared.outstanding.Outstanding.{Outstanding}
use Rattle.ssh_rules.specs.declared.outstanding.Outstanding.TheVariants.{Keepalive, Ping}
use Rattle.ssh_rules.specs.declared.outstanding.Outstanding.TheVariants.{Forward, Cancel}
use Rattle.ssh_rules.specs.Spelling.{Layout, Leaves, Rest, Whole, Fields}

-- ---- requests of the peer's

-- what is asked of the handler: whether it forwards connections to an address, and listens at which
-- port, or whether something else is granted
pub data Globally : Type 0 where
  Listens : (address : List ℕ) → (port : ℕ) → Globally
  Judges : (judged : Judged) → Globally
  -- nothing: the peer will open no more sessions
  Gives_up_sessions : Globally

-- a request: its name, its own fields, and what it asks
pub record KnownGlobal : Type 0 where
  pub name : List ℕ
  pub fields : List Field
  pub asks : Values fields → Globally

-- string address to bind, uint32 port (section 7.1)
abbrev pub forward : KnownGlobal
forward = record {
  name = codes "tcpip-forward";
  fields = Text ∷ Number ∷ [];
  asks = λ (address, (port, _)). Listens address port;
}

abbrev pub cancel_forward : KnownGlobal
cancel_forward = record {
  name = codes "cancel-tcpip-forward";
  fields = Text ∷ Number ∷ [];
  asks = λ (address, (port, _)). Judges (whether.CancelTcpipForward address port);
}

-- string socket path (OpenSSH PROTOCOL section 2.4)
abbrev pub forward_socket : KnownGlobal
forward_socket = record {
  name = codes "streamlocal-forward@openssh.com";
  fields = Text ∷ [];
  asks = λ (path, _). Judges (whether.StreamlocalForward path);
}

abbrev pub cancel_socket : KnownGlobal
cancel_socket = record {
  name = codes "cancel-streamlocal-forward@openssh.com";
  fields = Text ∷ [];
  asks = λ (path, _). Judges (whether.CancelStreamlocalForward path);
}

-- nothing (OpenSSH PROTOCOL section 2.2)
abbrev pub no_more_sessions : KnownGlobal
no_more_sessions = record {
  name = codes "no-more-sessions@openssh.com";
  fields = [];
  asks = λ _. Gives_up_sessions;
}

abbrev pub known_globals : List KnownGlobal
known_globals =
    forward ∷ cancel_forward ∷ forward_socket ∷ cancel_socket ∷ no_more_sessions ∷ []

-- the known request of this name
abbrev pub global_named : List ℕ → Option KnownGlobal
global_named name = find (λ known. bytes_eq known.name name) known_globals

-- what a request says that asks this, where a reply is wanted or not
abbrev pub global_request_said : (wanted : Bool) → Globally → Spoken
global_request_said wanted (Listens address port) = spoken.RequestsForward wanted address port
global_request_said wanted (Judges judged) = spoken.RequestsGlobally wanted judged
global_request_said wanted Gives_up_sessions = spoken.GivesUpSessions wanted

-- how a request is read behind its flag; of an unknown one nothing is
abbrev pub global_layout : Option KnownGlobal → (wanted : Bool) → Layout Spoken
global_layout None wanted = Leaves (spoken.RequestsGloballyUnknown wanted)
global_layout (Some known) wanted =
    Whole known.fields (λ values. global_request_said wanted (known.asks values))

-- GLOBAL_REQUEST: string request name, boolean want reply, and then the request's own fields
-- (section 4)
abbrev pub global_request_message : Layout Spoken
global_request_message = Fields global_request.fields (λ (name, (wanted, _)).
    global_layout (global_named name) wanted)

-- ---- replies to this side's requests, which come in the order of the requests (section 4)

abbrev pub oldest : List Outstanding → Option Outstanding
oldest [] = None
oldest (first ∷ later) = Some first

-- behind REQUEST_SUCCESS: the port that the peer listens at, and 0 where it tells none; what is no
-- port counts as a refusal (section 7.1)
abbrev pub port_told : List ℕ → Option ℕ
port_told [] = Some 0
port_told rest = if length rest == 4 then Some (from_be_bytes w32 rest) else None

-- REQUEST_SUCCESS, by the request that it replies to; where none waits, it is not read
abbrev pub success : Option Outstanding → Layout Spoken
success None = Leaves spoken.Nothing
success (Some Keepalive) = Whole [] (λ _. spoken.Settles None)
success (Some (Ping slot)) = Whole [] (λ _. spoken.Settles (Some (notice.Pong slot)))
success (Some (Cancel slot)) = Whole [] (λ _. spoken.Settles (Some (notice.Cancelled slot true)))
success (Some (Forward slot)) =
    Rest (λ rest. spoken.Settles (Some (notice.Forwarded slot (port_told rest))))

-- REQUEST_FAILURE has no fields, whatever waits
abbrev pub denied : Option Outstanding → Spoken
denied None = spoken.Nothing
denied (Some Keepalive) = spoken.Settles None
denied (Some (Ping slot)) = spoken.Settles (Some (notice.Pong slot))
denied (Some (Cancel slot)) = spoken.Settles (Some (notice.Cancelled slot false))
denied (Some (Forward slot)) = spoken.Settles (Some (notice.Forwarded slot None))

abbrev pub denial : Option Outstanding → Layout Spoken
denial first = Whole [] (λ _. denied first)
