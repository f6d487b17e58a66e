-- The channel of a number, and what was done that concerns it (RFC 4254 section 5).
use Rattle.std.specs.Prelude.{◌≡◌, ◌==◌, ◌||◌, ℕ, Bool, true, false, cond, List, [], ◌∷◌, ◌++◌}
use Rattle.std.specs.Prelude.{Option, Some, None}
use Rattle.ssh_link.specs.declared.command.Command.{Command}
use Rattle.ssh_link.specs.declared.command.Command.TheVariants as command
use Rattle.ssh_link.specs.declared.outcome.CommandOutcome.{CommandOutcome}
use Rattle.ssh_link.specs.declared.outcome.CommandOutcome.TheVariants.{Accepted, Opened, Refused}
use Rattle.ssh_wire.specs.declared.open_failure.ChannelOpenFailure.{ChannelOpenFailure}
use Rattle.ssh_channels.specs.declared.chunk.DataKind.{DataKind}
use Rattle.ssh_channels.specs.declared.chunk.DataKind.TheVariants.{Plain, Extended}
use Rattle.ssh_channels.specs.Entry.{Entry, accepted, tagged}
use Rattle.ssh_channels.specs.Layout.{chunk}
use Rattle.ssh_channels.specs.Lines.{Lines, Left, find, last_left}
use Rattle.ssh_rules.specs.Opening.{Opening}
use Rattle.ssh_rules.specs.Opens.{opening_of}
use Rattle.ssh_rules.specs.World.{World}
use Rattle.ssh_run_laws.specs.Deeds.{Deed, Commanded, Asked, Closed_by_peer}

-- ---- the bytes that it accepted, each with its kind (section 5.2)

-- those of the channel that is there, or of the last one that left
abbrev pub bytes_of : Option Entry → Option Left → List (DataKind × ℕ)
bytes_of (Some e) last = accepted e
bytes_of None (Some gone) = accepted gone.entry
bytes_of None None = []

abbrev pub bytes_on : (number : ℕ) → Lines → List (DataKind × ℕ)
bytes_on number l = bytes_of (find number l.entries) (last_left number l.left)

-- so many were accepted on the number, and then an open there was answered: a new channel has
-- accepted nothing
abbrev pub after_answer : (held : List (DataKind × ℕ)) → Option ChannelOpenFailure
    → List (DataKind × ℕ)
after_answer held None = []
after_answer held (Some reason) = held

-- .. or this command was accepted
abbrev pub after_accepted : (number : ℕ) → (held : List (DataKind × ℕ)) → Command
    → List (DataKind × ℕ)
after_accepted number held (command.Data channel bytes) =
    cond (number == channel.0) (held ++ tagged (chunk Plain bytes)) held
after_accepted number held (command.ExtendedData channel code bytes) =
    cond (number == channel.0) (held ++ tagged (chunk (Extended code) bytes)) held
after_accepted number held (command.Answer answer) =
    cond (number == answer.channel.0) (after_answer held answer.rejection) held
after_accepted number held _ = held

-- .. or so it came out
abbrev pub after_command : (number : ℕ) → (held : List (DataKind × ℕ)) → Command → CommandOutcome
    → List (DataKind × ℕ)
after_command number held command Accepted = after_accepted number held command
after_command number held command (Opened channel) = cond (number == channel.0) [] held
after_command number held command (Refused why) = held

abbrev pub after_deed : (number : ℕ) → (held : List (DataKind × ℕ)) → Deed → List (DataKind × ℕ)
after_deed number held (Commanded command outcome) = after_command number held command outcome
after_deed number held (Asked channel) = held
after_deed number held (Closed_by_peer channel) = held

abbrev pub accepted_from : (number : ℕ) → (held : List (DataKind × ℕ)) → List Deed
    → List (DataKind × ℕ)
accepted_from number held [] = held
accepted_from number held (deed ∷ deeds) = accepted_from number (after_deed number held deed) deeds

-- the data of the commands that were accepted on this number since a channel was opened there last,
-- one after another
abbrev pub accepted_on : (number : ℕ) → List Deed → List (DataKind × ℕ)
accepted_on number deeds = accepted_from number [] deeds

-- ---- whether it stands

-- both sides agreed to it, no CLOSE was accepted, and an EOF was or was not (section 5.3)
abbrev pub StandsSo : (ended : Bool) → Entry → Type 0
StandsSo ended e = (e.confirmed ≡ true) × (e.close ≡ false) × (e.eof ≡ ended)

abbrev pub Stands : (number : ℕ) → (ended : Bool) → Lines → Type 0
Stands number ended l = (e : Entry) × (find number l.entries ≡ Some e) × StandsSo ended e

-- this command ends one direction of it, or both
abbrev pub ends_by : (number : ℕ) → Command → Bool
ends_by number (command.Eof channel) = number == channel.0
ends_by number (command.Close channel) = number == channel.0
ends_by number _ = false

abbrev pub sends_by : (number : ℕ) → Command → Bool
sends_by number (command.Data channel bytes) = number == channel.0
sends_by number (command.ExtendedData channel code bytes) = number == channel.0
sends_by number _ = false

-- such a command was accepted
abbrev pub was_accepted : (such : Command → Bool) → Command → CommandOutcome → Bool
was_accepted such command Accepted = such command
was_accepted such command (Opened channel) = false
was_accepted such command (Refused why) = false

-- an EOF or a CLOSE of it was accepted, or the peer closed it
abbrev pub ends : (number : ℕ) → Deed → Bool
ends number (Commanded command outcome) = was_accepted (ends_by number) command outcome
ends number (Asked channel) = false
ends number (Closed_by_peer channel) = number == channel.0

-- .. or data were accepted on it
abbrev pub sends : (number : ℕ) → Deed → Bool
sends number (Commanded command outcome) = was_accepted (sends_by number) command outcome
sends number (Asked channel) = false
sends number (Closed_by_peer channel) = false

abbrev pub touches : (number : ℕ) → Deed → Bool
touches number deed = ends number deed || sends number deed

-- ---- whether an open of the peer's waits (section 5.1)

abbrev pub Waits : (number : ℕ) → World → Type 0
Waits number w = (opening : Opening) × (opening_of number w ≡ Some opening)

abbrev pub answers_by : (number : ℕ) → Command → Bool
answers_by number (command.Answer answer) = number == answer.channel.0
answers_by number _ = false

-- an answer of it was accepted
abbrev pub answers : (number : ℕ) → Deed → Bool
answers number (Commanded command outcome) = was_accepted (answers_by number) command outcome
answers number (Asked channel) = false
answers number (Closed_by_peer channel) = false

-- the handler was asked about an open on it
abbrev pub asks : (number : ℕ) → Deed → Bool
asks number (Commanded command outcome) = false
asks number (Asked channel) = number == channel.0
asks number (Closed_by_peer channel) = false

-- it waited or did not, and then this was done
abbrev pub waits_then : (number : ℕ) → (waits : Bool) → Deed → Bool
waits_then number waits (Commanded command outcome) =
    cond (was_accepted (answers_by number) command outcome) false waits
waits_then number waits (Asked channel) = (number == channel.0) || waits
waits_then number waits (Closed_by_peer channel) = waits

abbrev pub waits_from : (number : ℕ) → (waits : Bool) → List Deed → Bool
waits_from number waits [] = waits
waits_from number waits (deed ∷ deeds) = waits_from number (waits_then number waits deed) deeds

-- the handler was asked about an open on this number, and no answer of it was accepted since
abbrev pub waits_on : (number : ℕ) → List Deed → Bool
waits_on number deeds = waits_from number false deeds

-- ---- whether one was opened for the peer

-- no reason to refuse was given
abbrev pub is_accepting : Option ChannelOpenFailure → Bool
is_accepting None = true
is_accepting (Some reason) = false

-- this command accepts an open on this number
abbrev pub opens_by : (number : ℕ) → Command → Bool
opens_by number (command.Answer answer) =
    cond (number == answer.channel.0) (is_accepting answer.rejection) false
opens_by number _ = false

abbrev pub opens : (number : ℕ) → Deed → Bool
opens number (Commanded command outcome) = was_accepted (opens_by number) command outcome
opens number (Asked channel) = false
opens number (Closed_by_peer channel) = false
