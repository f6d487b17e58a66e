-- What a trace alone tells of the data that a channel accepted (RFC 4254 section 5.2).
use Rattle.std.specs.Prelude.{◌≡◌, ◌==◌, ℕ, Bool, false, cond, List, [], ◌++◌, flat_map, None}
use Rattle.std.specs.List.{list_any}
use Rattle.ssh_link.specs.declared.command.Command.{Command}
use Rattle.ssh_link.specs.declared.command.Command.TheVariants as command
use Rattle.ssh_link.specs.declared.link.TraceEntry.{TraceEntry}
use Rattle.ssh_link.specs.declared.outcome.CommandOutcome.{CommandOutcome}
use Rattle.ssh_link.specs.declared.outcome.CommandOutcome.TheVariants.{Accepted, Opened, Refused}
use Rattle.ssh_auth.specs.declared.call.Call.{Call}
use Rattle.ssh_auth.specs.Publickey.{Acceptance}
use Rattle.ssh_auth.specs.Was.{was}
use Rattle.ssh_channels.specs.declared.chunk.DataKind.{DataKind}
use Rattle.ssh_channels.specs.declared.chunk.DataKind.TheVariants.{Plain, Extended}
use Rattle.ssh_channels.specs.Entry.{tagged}
use Rattle.ssh_channels.specs.Layout.{chunk}
use Rattle.ssh_channels.specs.Sent.{IsUnopened, since}
use Rattle.ssh_rules.specs.Ledger.{outgoing}
use Rattle.ssh_rules.specs.Run.{Turn, Run, calls_of, entries}
use Rattle.ssh_rules.specs.Valid.{recorded_so}
use Rattle.ssh_rules.specs.World.{Settings, World, opening_world}
use Rattle.ssh_run_laws.specs.Accepted.{HoldFirst}
use Rattle.ssh_run_laws.specs.Channels.{accepted_on, sends_by}
use Rattle.ssh_run_laws.specs.Deeds.{Asked, Closed_by_peer, Commanded, Deed, deeds, deeds_told}

-- the data that a command sends on this number
abbrev pub data_in : (number : ℕ) → Command → List (DataKind × ℕ)
data_in number (command.Data channel bytes) =
    cond (number == channel.0) (tagged (chunk Plain bytes)) []
data_in number (command.ExtendedData channel code bytes) =
    cond (number == channel.0) (tagged (chunk (Extended code) bytes)) []
data_in number _ = []

-- .. where it was accepted
abbrev pub data_accepted : (number : ℕ) → Command → CommandOutcome → List (DataKind × ℕ)
data_accepted number command Accepted = data_in number command
data_accepted number command (Opened channel) = []
data_accepted number command (Refused why) = []

abbrev pub data_by : (number : ℕ) → Deed → List (DataKind × ℕ)
data_by number (Commanded command outcome) = data_accepted number command outcome
data_by number (Asked channel) = []
data_by number (Closed_by_peer channel) = []

-- the data of the commands on this number that this trace answers by `Accepted`
abbrev pub data_told : (number : ℕ) → List TraceEntry → List (DataKind × ℕ)
data_told number trace = flat_map (data_by number) (deeds_told None trace)

-- in this call no data were recorded for this number
abbrev pub records_data : {E : Type 0} → (number : ℕ) → Call E → Bool
records_data number call = list_any (sends_by number) (recorded_so (was call))

-- where no callback recorded data for a number, those that its channel accepted since it was opened
-- are the last ones of those that the trace answers by `Accepted`
abbrev pub TracesTell : (E F : Type 0) → Acceptance → Type 0
TracesTell E F accepts = (settings : Settings) (turns : List (Turn E F)) (world : World)
    → Run accepts (opening_world settings) turns world → (number : ℕ)
    → list_any (records_data number) (flat_map calls_of turns) ≡ false
    → (earlier : List (DataKind × ℕ))
    × (data_told number (flat_map entries turns)
    ≡ earlier ++ accepted_on number (flat_map deeds turns))

-- .. and at each moment since it was opened the data frames on its number hold the first of them:
-- of a part of what the trace, with whatever follows, answers by `Accepted`
abbrev pub TracesHold : (E F : Type 0) → Acceptance → Type 0
TracesHold E F accepts = (settings : Settings) (turns : List (Turn E F)) (world : World)
    → Run accepts (opening_world settings) turns world → (number : ℕ)
    → list_any (records_data number) (flat_map calls_of turns) ≡ false
    → (seen rest more : List TraceEntry) → flat_map entries turns ≡ seen ++ rest
    → IsUnopened number (outgoing rest world.channels.lines)
    → (earlier bytes later : List (DataKind × ℕ))
    × (data_told number (flat_map entries turns ++ more) ≡ earlier ++ (bytes ++ later))
    × HoldFirst number bytes (since number seen)
