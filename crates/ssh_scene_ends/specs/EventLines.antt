-- A script of what happens to two ends: how its lines are written, and what they say together.
use Rattle.std.specs.Prelude.{◌≡◌, ◌+◌, ◌⊎◌, ℕ, Bool, true, false, List, [], ◌∷◌, ◌++◌}
use Rattle.std.specs.Prelude.{if◌then◌else◌}
use Rattle.std.specs.Prelude.{bytes_eq, codes, Option, Some, None, Result, Ok, Err, IsUtf8}
use Rattle.std.specs.Prelude.{MatchOption}
use Rattle.ssh_ends.specs.declared.event.EndEvent.{EndEvent}
use Rattle.ssh_ends.specs.declared.event.EndEvent.TheVariants as event
use Rattle.ssh_ends.specs.declared.event.Side.{Side}
use Rattle.ssh_ends.specs.declared.event.Side.TheVariants.{A, B}
use Rattle.ssh_scene.specs.Grammar.{IsSmall, IsHex, cut, is_passed}
use Rattle.ssh_scene.specs.Opens.{own}
use Rattle.ssh_scene_ends.specs.declared.events.EventLine.{EventLine}
use Rattle.ssh_scene_ends.specs.declared.events.EventLine.TheVariants as line

-- what a line is by its words
pub data EventForm : Type 0 where
  -- no line has these words
  No_event : EventForm
  -- its words say this
  Just : EndEvent → EventForm
  -- these digits write a number below 2^32, and by it this is what the line is
  By_small : (next : ℕ → EventForm) → (digits : List ℕ) → EventForm
  -- these digits write the bytes of which it speaks
  By_bytes : (says : List ℕ → EndEvent) → (digits : List ℕ) → EventForm

-- data, a channel and bytes
abbrev pub data_words : Side → Option (List ℕ × List ℕ) → EventForm
data_words side None = No_event
data_words side (Some parts) = By_small (λ channel.
    By_bytes (λ bytes. event.Data side (own channel) None bytes) parts.1) parts.0

-- eof, and a channel; and close, and a channel
abbrev pub eof_words : Side → List ℕ → EventForm
eof_words side digits = By_small (λ channel. Just (event.Eof side (own channel))) digits

abbrev pub close_words : Side → List ℕ → EventForm
close_words side digits = By_small (λ channel. Just (event.Close side (own channel))) digits

-- target, a channel and a number of bytes
abbrev pub target_words : Side → Option (List ℕ × List ℕ) → EventForm
target_words side None = No_event
target_words side (Some parts) = By_small (λ channel.
    By_small (λ target. Just (event.Target side (own channel) target)) parts.1) parts.0

abbrev pub verb_form : Side → (verb rest : List ℕ) → EventForm
verb_form side verb rest =
    if bytes_eq verb (codes "data") then data_words side (cut rest)
    else if bytes_eq verb (codes "eof") then eof_words side rest
    else if bytes_eq verb (codes "close") then close_words side rest
    else if bytes_eq verb (codes "target") then target_words side (cut rest)
    else No_event

-- open
abbrev pub lone_verb : Side → (verb : List ℕ) → EventForm
lone_verb side verb =
    if bytes_eq verb (codes "open") then Just (event.Open side) else No_event

-- what a side does
abbrev pub side_words : Side → (rest : List ℕ) → Option (List ℕ × List ℕ) → EventForm
side_words side rest None = lone_verb side rest
side_words side rest (Some parts) = verb_form side parts.0 parts.1

abbrev pub side_form : Side → (rest : List ℕ) → EventForm
side_form side rest = side_words side rest (cut rest)

-- move, and the side whose message is taken
abbrev pub move_form : (side : List ℕ) → EventForm
move_form side =
    if bytes_eq side (codes "a") then Just (event.Move A)
    else if bytes_eq side (codes "b") then Just (event.Move B)
    else No_event

abbrev pub word_event : (word rest : List ℕ) → EventForm
word_event word rest =
    if bytes_eq word (codes "a") then side_form A rest
    else if bytes_eq word (codes "b") then side_form B rest
    else if bytes_eq word (codes "move") then move_form rest
    else No_event

abbrev pub words_event : Option (List ℕ × List ℕ) → EventForm
words_event None = No_event
words_event (Some parts) = word_event parts.0 parts.1

-- a line of this form says this; None says that it is bad
abbrev pub FitsEvent : EventForm → Option EndEvent → Type 0
FitsEvent No_event said = said ≡ None
FitsEvent (Just e) said = said ≡ Some e
FitsEvent (By_small next digits) said =
    ((n : ℕ) × IsSmall digits n × FitsEvent (next n) said)
    ⊎ (((n : ℕ) → IsSmall digits n → ⊥) × (said ≡ None))
FitsEvent (By_bytes says digits) (Some said) =
    (bytes : List ℕ) × IsHex digits bytes × (said ≡ says bytes)
FitsEvent (By_bytes says digits) None = (bytes : List ℕ) → IsHex digits bytes → ⊥

-- as a line of a script; None is a bad one
abbrev pub as_line : Option EndEvent → Option EventLine
as_line None = None
as_line (Some e) = Some (line.Event e)

abbrev pub ReadsEventWords : Bool → List ℕ → Option EventLine → Type 0
ReadsEventWords true text said = said ≡ Some line.Passed
ReadsEventWords false text said =
    (IsUtf8 text × ((e : Option EndEvent) × FitsEvent (words_event (cut text)) e
    × (said ≡ as_line e))) ⊎ ((IsUtf8 text → ⊥) × (said ≡ None))

abbrev pub ReadsEvent : List ℕ → Option EventLine → Type 0
ReadsEvent text said = ReadsEventWords (is_passed text) text said

-- the events after one more line; None where it is bad
abbrev pub with_event : List EndEvent → Option EventLine → Option (List EndEvent)
with_event events None = None
with_event events (Some line.Passed) = Some events
with_event events (Some (line.Event e)) = Some (events ++ e ∷ [])

-- behind so many lines with these events, these lines bring these, or this is the number of the
-- first bad one
abbrev pub BringsFrom : ℕ → List EndEvent → List (List ℕ) → Result (List EndEvent) ℕ → Type 0
BringsFrom done events [] read = read ≡ Ok events
BringsFrom done events (text ∷ lines) read = (said : Option EventLine) × ReadsEvent text said
    × MatchOption (with_event events said) (read ≡ Err (done + 1))
    (λ next. BringsFrom (done + 1) next lines read)

abbrev pub BringsEvents : List (List ℕ) → Result (List EndEvent) ℕ → Type 0
BringsEvents lines read = BringsFrom 0 [] lines read
