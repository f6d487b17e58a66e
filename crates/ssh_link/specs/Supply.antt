-- Inputs that are given in order, while commands and replies to opens wait until they are asked
-- for.
use Rattle.std.specs.Prelude.{ℕ, ◌-◌, Bool, true, false, if◌then◌else◌, Option, Some, None}
use Rattle.std.specs.Prelude.{List, [], ◌++◌, drop, length}
use Rattle.std.specs.List.{list_any, slice_get, filter, find, position_or_len, before_first}
use Rattle.std.specs.List.{after_first}
use Rattle.ssh_link.specs.declared.frame.Input.{Input}
use Rattle.ssh_link.specs.declared.frame.InputKind.{InputKind}
use Rattle.ssh_link.specs.declared.frame.InputKind.TheVariants.{Command, OpenReply, End}
use Rattle.ssh_link.specs.Asked.{is_asked}

-- what is left of a list of inputs
pub record Supply : Type 0 where
  -- the replies to opens that were set aside, since nobody had asked for them, in order
  pub replies : List Input
  -- the commands that were set aside so, in order
  pub commands : List Input
  -- those that were not reached yet, in order
  pub left : List Input
  -- the moment of the end, which comes behind the last of them
  pub end_moment : ℕ

-- the moment of this input, and 0 where there is none
abbrev pub moment_or_zero : Option Input → ℕ
moment_or_zero None = 0
moment_or_zero (Some input) = input.moment

-- the moment of the last of these inputs
abbrev pub last_moment : List Input → ℕ
last_moment inputs = moment_or_zero (slice_get inputs (length inputs - 1))

-- before the first input was given, with the end at this moment
abbrev pub left_until : ℕ → List Input → Supply
left_until moment inputs =
    record { replies = []; commands = []; left = inputs; end_moment = moment }

-- with the end at the moment of the last of them
abbrev pub all_left : List Input → Supply
all_left inputs = left_until (last_moment inputs) inputs

-- whether what came is a reply to an open
abbrev pub is_reply : InputKind → Bool
is_reply (OpenReply ticket answer) = true
is_reply kind = false

-- whether it is a command
abbrev pub is_command : InputKind → Bool
is_command (Command ticket command) = true
is_command kind = false

-- this input, and the end where there is none
abbrev pub input_or_end : Option Input → ℕ → Input
input_or_end None moment = record { moment = moment; kind = End }
input_or_end (Some input) moment = input

-- the inputs in the order in which they come: the replies that were set aside, the commands that
-- were, and then those that were not reached yet
abbrev pub in_turn : Supply → List Input
in_turn supply = supply.replies ++ (supply.commands ++ supply.left)

-- the input that comes next: the first in turn that is asked for
abbrev pub next_input : Bool → Bool → Supply → Input
next_input commands replies supply =
    input_or_end (find (λ input. is_asked commands replies input.kind) (in_turn supply))
    supply.end_moment

-- these inputs without the first of which this holds
abbrev pub without_first : (Input → Bool) → List Input → List Input
without_first comes inputs = before_first comes inputs ++ after_first comes inputs

-- those that were not reached yet are set aside, up to the first of which this holds
abbrev pub passed_over : (Input → Bool) → Supply → Supply
passed_over comes supply = record supply {
  replies =
      supply.replies ++ filter (λ input. is_reply input.kind) (before_first comes supply.left);
  commands =
      supply.commands ++ filter (λ input. is_command input.kind) (before_first comes supply.left);
  left = drop (position_or_len comes supply.left) supply.left;
}

-- what is left where the first in turn is taken of which this holds: one that was set aside leaves
-- the others as they are; else those before it are set aside
abbrev pub after_taking : (Input → Bool) → Supply → Supply
after_taking comes supply =
    if list_any comes supply.replies then record supply
    { replies = without_first comes supply.replies }
    else if list_any comes supply.commands then record supply
    { commands = without_first comes supply.commands }
    else record (passed_over comes supply) { left = after_first comes supply.left }

-- what is left behind the input that comes next
abbrev pub after_next : Bool → Bool → Supply → Supply
after_next commands replies supply =
    after_taking (λ input. is_asked commands replies input.kind) supply
