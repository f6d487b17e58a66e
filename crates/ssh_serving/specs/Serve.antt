-- What serving does, and how a session stands for a world.
use Rattle.std.specs.Prelude.{◌&&◌, ◌≡◌, ℕ, Bool, not, List, [], ◌∷◌, ◌++◌, map}
use Rattle.std.specs.Prelude.{Option, Some, None, cond, option_to_list, Result, Ok, Err}
use Rattle.ssh_link.specs.declared.link.TraceEntry.{TraceEntry}
use Rattle.ssh_link.specs.Faults.{Rose, RoseIfKept}
use Rattle.ssh_auth.specs.Plan.{Plan, Finish, Event, Told}
use Rattle.ssh_auth.specs.Plan.{Reaches}
use Rattle.ssh_handler.specs.declared.config.Config.{Config}
use Rattle.ssh_handler.specs.Loan.{Loan}
use Rattle.ssh_channels.specs.Stands.{Stands}
use Rattle.ssh_channels.specs.Table.{some_wait}
use Rattle.ssh_serving.specs.declared.commands.Done.{Done}
use Rattle.ssh_rules.specs.declared.error.Flow.{Flow}
use Rattle.ssh_rules.specs.declared.error.RunError.{RunError}
use Rattle.ssh_rules.specs.declared.error.RunError.TheVariants as error
use Rattle.ssh_serving.specs.declared.server.Server.{Server}
use Rattle.ssh_rules.specs.Acts.{Act, acts}
use Rattle.ssh_rules.specs.Effect.{Effect, Brings as Does_so}
use Rattle.ssh_rules.specs.Heard.{Heard, AreSame}
use Rattle.ssh_rules.specs.Outcome.{Outcome}
use Rattle.ssh_rules.specs.Run.{is_let_in}
use Rattle.ssh_rules.specs.Cause.{IsCaused, cause_of, may_stop, Hears, comes}
use Rattle.ssh_rules.specs.Exchange.{is_running}
use Rattle.ssh_rules.specs.World.{Settings, World, opening_world}

-- ---- how a session stands for a world

-- an exchange of keys runs
abbrev pub is_exchanging : Server → Bool
is_exchanging session = is_running session.keys.exchange

-- the name of the user who was let in, where one was (RFC 4252 section 5)
abbrev pub let_in_user : Server → Option (List ℕ)
let_in_user session = cond (is_let_in session.state) (Some session.common.auth_user) None

-- what a session lends to a callback, which has recorded no command yet: answers to opens are taken
-- from outside where no exchange of keys runs, and commands where besides no data wait
abbrev pub lends : Server → Loan
lends session = record {
  recorded = [];
  table = session.table;
  config = session.common.config;
  remote_sshid = session.common.remote_sshid;
  commands_wanted = not (is_exchanging session) && not (some_wait session.table);
  replies_wanted = not (is_exchanging session);
  user = let_in_user session;
}

-- a handler that suits these servers and peers suits the session: it may be called with what the
-- session lends
abbrev pub IsSuited : (suits : Config → List ℕ → Type 0) → Server → Type 0
IsSuited suits session = suits session.common.config session.common.remote_sshid

-- it is a server that is set up as before, for the same peer
abbrev pub IsSameServer : Server → Server → Type 0
IsSameServer before after = (after.common.config ≡ before.common.config)
    × (after.common.remote_sshid ≡ before.common.remote_sshid)

-- the server is in this world
pub record Refines (session : Server) (w : World) : Type 0 where
  pub config : session.common.config ≡ w.settings.config
  pub session_id : session.session_id ≡ w.settings.session_id
  pub remote_sshid : session.common.remote_sshid ≡ w.settings.remote_sshid
  pub state : session.state ≡ w.user.state
  pub requested : session.requested ≡ w.user.requested
  pub name : session.common.auth_user ≡ w.user.name
  pub table : Stands session.table w.channels.lines
  pub opens : session.opens.entries ≡ w.channels.opens
  pub no_more_sessions : session.no_more_sessions ≡ w.channels.no_more_sessions
  pub wanted : session.common.wants_reply ≡ w.globals.wanted
  pub outstanding : session.outstanding.items ≡ w.globals.outstanding
  pub keepalives : session.keepalives ≡ w.keepalives
  pub disconnected : session.common.disconnected ≡ w.disconnected
  pub keys : session.keys ≡ w.keys

-- the session stands for each world that it stood for
abbrev pub IsUnchanged : Server → Server → Type 0
IsUnchanged before after = (w : World) → Refines before w → Refines after w

-- the session is before its first input, and the handler suits its config and its peer
abbrev pub BeginsSuited : (suits : Config → List ℕ → Type 0) → Server → Type 0
BeginsSuited suits session = (settings : Settings) × Refines session (opening_world settings)
    × suits settings.config settings.remote_sshid

-- ---- what serving does

-- with these events the plan goes on as next says, by the result and in the world that the session
-- is then in; an error says where it stopped
abbrev pub ComesTo : {T E F : Type 0} → Plan Outcome → (T → World → Plan Outcome) → (rose : Type 0)
    → List (Event E F) → Server → Result T (RunError E F) → Type 0
ComesTo plan next rose events session (Ok value) = (world : World)
    × Reaches plan events (next value world) × Refines session world
ComesTo plan next rose events session (Err e) = IsCaused (cause_of e) plan rose events

abbrev pub Serves : {T E F : Type 0} → Plan Outcome → (T → World → Plan Outcome) → Heard E F
    → Heard E F
    → Server → Result T (RunError E F) → Type 0
Serves {T} {E} {F} plan next before after session result =
    (events : List (Event E F)) × Hears (may_stop result) before after events
    × ComesTo plan next (Rose before.faults after.faults) events session result

-- these acts were done, whatever follows them
abbrev pub Does : {E F : Type 0} → List Act → World → Heard E F → Heard E F → Server
    → Result (Unit {0}) (RunError E F) → Type 0
Does now w before after session result = (later : List Act) → Serves (acts (now ++ later) w)
    (λ _. acts later) before after session result

-- the same, where nobody was told or asked anything
abbrev pub Turned : {E F : Type 0} → List Act → World → Server → Result (Unit {0}) (RunError E F)
    → Type 0
Turned {E} {F} now w session result =
    (later : List Act) → ComesTo {E = E} {F = F} (acts (now ++ later) w)
    (λ _. acts later) ⊥ [] session
    result

-- the plan came to its end
abbrev pub Completes : {E F : Type 0} → Plan Outcome → Heard E F → Heard E F → Server
    → Result Flow (RunError E F) → Type 0
Completes plan before after session result = Serves plan (λ flow world. Finish (comes flow world))
    before after session result

-- all of these were told, or the link failed or found no memory as it was told the next one
abbrev pub IsShort : {A : Type 0} → (items told : List A) → Type 0
IsShort {A} items told = (next : A) × (later : List A) × (items ≡ told ++ next ∷ later)

abbrev pub TellsAll : {A T E F : Type 0} → (items told : List A) → (rose starved : Type 0)
    → Result T (RunError E F) → Type 0
TellsAll items told rose starved (Ok value) = told ≡ items
TellsAll items told rose starved (Err error.LinkFault) = rose × IsShort items told
TellsAll items told rose starved (Err error.NoMemory) = starved × IsShort items told
TellsAll items told rose starved (Err _) = ⊥

-- the link was told these, as frames that are handed on or as notices, one after another
abbrev pub TellsEach : {A E F : Type 0} → (as_what : A → TraceEntry) → List A → Heard E F
    → Heard E F
    → Result (Unit {0}) (RunError E F) → Type 0
TellsEach {A} as_what items before after result = (told : List A)
    × Hears (may_stop result) before after (map Told (map as_what told))
    × TellsAll items told (Rose before.faults after.faults)
    (RoseIfKept before.starved after.starved) result

-- the command did this, or there was no memory
abbrev pub HasEffect : {E F : Type 0} → Effect → Server → Result Done (RunError E F) → Type 0
HasEffect does session (Ok done) = (world : World)
    × (does ≡ Does_so (option_to_list done.notice) done.outcome world) × Refines session world
HasEffect does session (Err error.NoMemory) = Unit {0}
HasEffect does session (Err _) = ⊥

-- ---- what a call of a session says, with what its outside tells

-- the session is set up as before, for the same peer, over the same handler, exchange and link
abbrev pub Stays : {O E F : Type 0} → (heard : O → Heard E F) → (before after : Server)
    → (outside outside' : O) → Type 0
Stays heard before after outside outside' =
    IsSameServer before after × AreSame (heard outside) (heard outside')

-- in each world that the session was in, these acts were done
abbrev pub Acted : {O E F : Type 0} → (heard : O → Heard E F) → (owed : World → List Act)
    → (before after : Server) → (outside outside' : O) → Result (Unit {0}) (RunError E F) → Type 0
Acted heard owed before after outside outside' result = (w : World) → Refines before w
    → Does (owed w) w (heard outside) (heard outside') after result

-- .. and this plan came to its end
abbrev pub Completed : {O E F : Type 0} → (heard : O → Heard E F) → (owed : World → Plan Outcome)
    → (before after : Server) → (outside outside' : O) → Result Flow (RunError E F) → Type 0
Completed heard owed before after outside outside' result = (w : World) → Refines before w
    → Completes (owed w) (heard outside) (heard outside') after result
