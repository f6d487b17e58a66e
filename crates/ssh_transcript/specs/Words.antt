-- Names and words: how callbacks and notices are printed.
use Rattle.std.specs.Prelude.{ℕ, List, [], ◌∷◌, ◌++◌, codes, map, flat_map, Bool, true, false}
use Rattle.std.specs.Prelude.{Option, Some, None}
use Rattle.std.specs.Fmt.{decimal}
use Rattle.hex.specs.Hex.{encode_lower}
use Rattle.ssh_wire.specs.OpenFailures.{open_failure_code}
use Rattle.ssh_wire.specs.declared.pty.Pty.{Pty}
use Rattle.ssh_wire.specs.Ptys.{opcode}
use Rattle.ssh_wire.specs.Signals.{signal_name}
use Rattle.ssh_keys.specs.Keys.{key_blob}
use Rattle.ssh_link.specs.declared.outcome.CommandOutcome.{CommandOutcome}
use Rattle.ssh_link.specs.declared.outcome.CommandOutcome.TheVariants as outcome
use Rattle.ssh_link.specs.declared.outcome.Refusal.{Refusal}
use Rattle.ssh_link.specs.declared.outcome.Refusal.TheVariants as refusal
use Rattle.ssh_transcript.specs.declared.argument.Argument.{Argument}
use Rattle.ssh_transcript.specs.declared.argument.Argument.TheVariants as argument
use Rattle.ssh_transcript.specs.declared.argument.Said.{Said}

-- a word behind the name of a callback or a notice
pub data Word : Type 0 where
  -- in decimal
  Number : (n : ℕ) → Word
  -- in hex, and - for none
  Hex : (bytes : List ℕ) → Word
  -- 1 or 0
  Flag : (holds : Bool) → Word
  -- as it is
  Name : (name : List ℕ) → Word
  -- terminal modes, each its code and its value, joined by commas, and - for none
  Modes : (modes : List (Pty × ℕ)) → Word
  -- responses to prompts, each a word of its own in hex, and none where nothing was prompted for
  -- yet
  Responses : (response : Option (List (List ℕ))) → Word
  -- what came of a command
  Came : (result : CommandOutcome) → Word

-- bytes in hex, and - for none
abbrev pub hex_text : List ℕ → List ℕ
hex_text [] = codes "-"
hex_text (byte ∷ bytes) = encode_lower (byte ∷ bytes)

abbrev pub flag_text : Bool → List ℕ
flag_text true = codes "1"
flag_text false = codes "0"

-- a mode: its code and its value
abbrev pub mode_text : Pty × ℕ → List ℕ
mode_text mode = decimal (opcode mode.0) ++ codes ":" ++ decimal mode.1

abbrev pub later_mode : Pty × ℕ → List ℕ
later_mode mode = codes "," ++ mode_text mode

abbrev pub modes_text : List (Pty × ℕ) → List ℕ
modes_text [] = codes "-"
modes_text (mode ∷ modes) = mode_text mode ++ flat_map later_mode modes

-- behind a space
abbrev pub hex_word : List ℕ → List ℕ
hex_word bytes = codes " " ++ hex_text bytes

-- the responses to prompts, and none where nothing was prompted for yet
abbrev pub response_text : Option (List (List ℕ)) → List ℕ
response_text None = codes " none"
response_text (Some responses) = flat_map hex_word responses

-- how a refusal is named
abbrev pub refusal_name : Refusal → List ℕ
refusal_name refusal.Disconnected = codes "Disconnected"
refusal_name refusal.ClientOnly = codes "ClientOnly"
refusal_name refusal.NotAuthenticated = codes "NotAuthenticated"
refusal_name refusal.UnknownChannel = codes "UnknownChannel"
refusal_name refusal.UnknownOpen = codes "UnknownOpen"
refusal_name refusal.NotConfirmed = codes "NotConfirmed"
refusal_name refusal.SendingEnded = codes "SendingEnded"
refusal_name refusal.TooLong = codes "TooLong"
refusal_name refusal.NumbersFull = codes "NumbersFull"

-- what came of a command
abbrev pub outcome_text : CommandOutcome → List ℕ
outcome_text outcome.Accepted = codes "accepted"
outcome_text (outcome.Opened channel) = codes "opened " ++ decimal channel.0
outcome_text (outcome.Refused why) = codes "refused " ++ refusal_name why

abbrev pub word_text : Word → List ℕ
word_text (Number n) = codes " " ++ decimal n
word_text (Hex bytes) = hex_word bytes
word_text (Flag holds) = codes " " ++ flag_text holds
word_text (Name name) = codes " " ++ name
word_text (Modes modes) = codes " " ++ modes_text modes
word_text (Responses response) = response_text response
word_text (Came result) = codes " " ++ outcome_text result

-- as the code holds a word: a key is its blob, and the reason of a refusal its code
abbrev pub word_of : Argument → Word
word_of (argument.Number n) = Number n
word_of (argument.Reason why) = Number (open_failure_code why)
word_of (argument.Bytes bytes) = Hex bytes.now
word_of (argument.Text text) = Hex text.now
word_of (argument.Key key) = Hex (key_blob key.now)
word_of (argument.Signal signal) = Hex (signal_name signal.now)
word_of (argument.Flag holds) = Flag holds
word_of (argument.Name name) = Name name.now
word_of (argument.Modes modes) = Modes modes.now
word_of (argument.Responses response) = Responses response.now
word_of (argument.Came result) = Came result

-- a name, and the words behind it
abbrev pub Named : Type 0
Named = List ℕ × List Word

-- as the code holds them
abbrev pub named_by : Said → Named
named_by said = (said.name.now, map word_of said.arguments.items)

abbrev pub named_text : Named → List ℕ
named_text named = named.0 ++ flat_map word_text named.1
