-- The session that threads share, and what its link tells of it.
use Rattle.std.specs.Prelude.{◌≡◌, ◌≢◌, ◌-◌, ◌^◌, ℕ, false, List, [], ◌++◌, flat_map, length}
use Rattle.std.specs.Prelude.{Option, None, option_to_list}
use Rattle.ssh_link.specs.declared.link.TraceEntry.{TraceEntry}
use Rattle.ssh_link.specs.declared.plain_kex.PlainKexError.{PlainKexError}
use Rattle.ssh_link.specs.Told.{Adds}
use Rattle.ssh_channels.specs.declared.chunk.DataKind.{DataKind}
use Rattle.ssh_channels.specs.Sent.{IsUnopened, since}
use Rattle.ssh_rules.specs.Account.{Closes}
use Rattle.ssh_rules.specs.Ledger.{outgoing}
use Rattle.ssh_rules.specs.Run.{Turn, Run, calls_of, steps_of, entries}
use Rattle.ssh_rules.specs.World.{Settings, World, settings_of, opening_world}
use Rattle.ssh_run_laws.specs.Accepted.{HoldFirst}
use Rattle.ssh_run_laws.specs.Traces.{data_told}
use Rattle.ssh_scene.specs.Scene.{Scene}
use Rattle.ssh_scene.specs.Generated.{generated}
use Rattle.ssh_players.specs.Played.{Failure, IsAnswered}
use Rattle.ssh_players.specs.Exchanged.{IsExchanged}
use Rattle.ssh_script.specs.Transcript.{scene_accepts, status_of}
pub use Rattle.ssh_threads_lines.specs.Lines.{Outcome}

-- not for want of memory
abbrev pub IsFed : Outcome → Type 0
IsFed outcome = status_of outcome ≢ None

-- a server with the standard settings lets alice in by the method none, accepts the channels that
-- she opens, and records no data
abbrev pub hall : Scene
hall = generated 0

-- a server does not begin an exchange of keys by itself
abbrev pub hall_settings : Scene → Settings
hall_settings scene = settings_of scene.config scene.session_id [] false

abbrev pub FailureTurn : Type 0
FailureTurn = Turn Failure PlainKexError

-- at each moment of these inputs since a channel was opened on a number, the data frames on it hold
-- the first bytes of a part of those that the whole trace answers by `Accepted` (RFC 4254 section
-- 5.2)
abbrev pub HoldsData : List FailureTurn → World → List TraceEntry → Type 0
HoldsData turns world trace = (number : ℕ) (seen rest : List TraceEntry)
    → flat_map entries turns ≡ seen ++ rest
    → IsUnopened number (outgoing rest world.channels.lines)
    → (earlier bytes later : List (DataKind × ℕ))
    × (data_told number trace ≡ earlier ++ (bytes ++ later))
    × HoldFirst number bytes (since number seen)

-- one run of a server with these settings and answers: its inputs one after another from the opening
-- world, and one more, which ended it or was not finished; the link told this between the two
pub record ServesAs (scene : Scene) (rose : Type 0) (before after : Option (List TraceEntry))
    (outcome : Outcome) : Type 0 where
  pub turns : List FailureTurn
  pub world : World
  pub run : Run (scene_accepts scene) (opening_world (hall_settings scene)) turns world
  pub last : Option FailureTurn
  pub closes : Closes (scene_accepts scene) world (length turns) (2 ^ 64 - 1) last rose outcome
  -- each callback is answered as the server answers it
  pub answered : IsAnswered scene.queues (flat_map calls_of (turns ++ option_to_list last))
  -- the keys are exchanged without cryptography
  pub exchanged : IsExchanged false (flat_map steps_of (turns ++ option_to_list last))
  pub told : Adds before after (flat_map entries (turns ++ option_to_list last))
  pub fed : IsFed outcome
  pub held : HoldsData turns world (flat_map entries (turns ++ option_to_list last))

abbrev pub Serves : (rose : Type 0) → (before after : Option (List TraceEntry)) → Outcome → Type 0
Serves = ServesAs hall
