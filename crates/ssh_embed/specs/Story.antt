-- The story of a connection from its first input on, and that nothing of it is served before an
-- accepted authentication (RFC 4252 section 6).
use Rattle.std.specs.Prelude.{◌≡◌, List, [], ◌∷◌, ◌++◌, map, Some, Ok}
use Rattle.ssh_keys.specs.Tables.{IsListed}
use Rattle.ssh_keys.specs.declared.table_verifier.AcceptedSignature.{AcceptedSignature}
use Rattle.ssh_link.specs.Told.{ToldBy}
use Rattle.ssh_link.specs.declared.frame.Input.{Input}
use Rattle.ssh_auth.specs.declared.call.Call.{Call}
use Rattle.ssh_auth.specs.Plan.{Plan, Event, Follows, told_in}
use Rattle.ssh_handler.specs.declared.recorded.RecordError.{RecordError}
use Rattle.ssh_rules.specs.declared.error.Flow.TheVariants.{Continue}
use Rattle.ssh_rules.specs.Authorised.{IsAccepting, LastNamed, NeedsUser}
use Rattle.ssh_rules.specs.Cause.{may_stop}
use Rattle.ssh_rules.specs.Outcome.{Outcome, Goes}
use Rattle.ssh_rules.specs.Run.{Turn, calls_of}
use Rattle.ssh_rules.specs.World.{Settings, World, circumstances, opening_world}
use Rattle.ssh_session.specs.Between.{OwesUnlessEnded, untold}
use Rattle.ssh_embed.specs.Taking.{Went, IsIn, called}
use Rattle.ssh_embed.specs.declared.connection.Connection.{Connection}
use Rattle.ssh_embed.specs.declared.policy.NoMemory.{NoMemory}

-- what happens on a connection: a callback, a step of the exchange of keys, or what the link is
-- told
abbrev pub Happening : Type 0
Happening = Event (RecordError NoMemory) (Unit {0})

-- one input, with the signatures that its owner vouched for, and what happened
pub record Round : Type 0 where
  pub vouched : List AcceptedSignature
  pub turn : Turn (RecordError NoMemory) (Unit {0})

abbrev pub turns_of : List Round → List (Turn (RecordError NoMemory) (Unit {0}))
turns_of rounds = map (λ round. round.turn) rounds

-- the round as far as this
abbrev pub cut : Round → List Happening → Round
cut round past = record round { turn = record round.turn { events = past } }

-- each input was finished by its row, and they lead from world to world
abbrev pub Leads : World → List Round → World → Type 0
Leads w [] world = world ≡ w
Leads w (round ∷ rounds) world = (mid : World) × (plan : Plan Outcome)
    × OwesUnlessEnded w.disconnected (IsListed round.vouched) w round.turn.input plan
    × Follows plan round.turn.events (Goes mid) × Leads mid rounds world

-- this is what became of the connection by these inputs
abbrev pub Came : Settings → List Round → Connection → Type 0
Came settings rounds connection = (world : World) × Leads (opening_world settings) rounds world
    × IsIn connection world × (untold connection.session ≡ [])

-- in one of these rounds a call accepted a user: of that input, or the one whom the last request
-- before a response named; by a key only where the signature was vouched for
abbrev pub SomeoneIsIn : Settings → List Round → Type 0
SomeoneIsIn settings rounds = (before after : List Round) × (round : Round)
    × (rounds ≡ before ++ round ∷ after)
    × (earlier later : List (Call (RecordError NoMemory))) × (call : Call (RecordError NoMemory))
    × (calls_of round.turn ≡ earlier ++ call ∷ later)
    × IsAccepting (circumstances (IsListed round.vouched) settings round.turn.input.moment)
    (LastNamed (turns_of before)) round.turn.input.kind call

-- behind these rounds each callback of the connection and each frame of a channel in this one has a
-- call before it that accepted a user
abbrev pub IsAuthorised : Settings → List Round → Round → Type 0
IsAuthorised settings rounds round = (past more : List Happening) (event : Happening)
    → round.turn.events ≡ past ++ event ∷ more → NeedsUser event
    → SomeoneIsIn settings (rounds ++ cut round past ∷ [])

-- an input that came behind these, and what happened by it
pub record Adds (settings : Settings) (rounds : List Round) (before : Connection) (input : Input)
    (after : Connection) (went : Went) : Type 0 where
  pub round : Round
  pub input_is : round.turn.input ≡ input
  pub vouched_is : round.vouched ≡ before.verifier
  -- the calls that are told, and what stands behind what waited in the outbox, are those of it
  pub calls : ToldBy (may_stop went) (Some []) (called after) (calls_of round.turn)
  pub told : after.outbox ≡ before.outbox ++ told_in round.turn.events
  -- nothing of it is served before an accepted authentication
  pub authorised : IsAuthorised settings rounds round
  pub came : went ≡ Ok Continue → Came settings (rounds ++ round ∷ []) after
