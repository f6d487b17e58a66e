-- What a list of events of two ends delivers, from its beginning.
use Rattle.std.specs.Prelude.{◌≡◌, ◌==◌, ◌&&◌, ℕ, Bool, true, false, cond, List, [], ◌∷◌, ◌++◌}
use Rattle.std.specs.Prelude.{Option, Some, None}
use Rattle.ssh_channels.specs.declared.chunk.DataKind.{DataKind}
use Rattle.ssh_channels.specs.Entry.{tagged}
use Rattle.ssh_channels.specs.Layout.{chunk}
use Rattle.ssh_ends.specs.End.{kind_of}
use Rattle.ssh_ends.specs.Pair.{Party, Pair}
use Rattle.ssh_ends.specs.Run.{actor, after, delivers, happens, new_pair, FewDraws, Holds}
use Rattle.ssh_ends.specs.Ends.{Posts, Happens}
use Rattle.ssh_ends.specs.declared.end.Delivered.{Delivered}
use Rattle.ssh_ends.specs.declared.error.EndError.{EndError}
use Rattle.ssh_ends.specs.declared.error.EndError.TheVariants.{NoMemory}
use Rattle.ssh_ends.specs.declared.event.EndEvent.{EndEvent}
use Rattle.ssh_ends.specs.declared.event.Side.{Side}
use Rattle.ssh_ends.specs.declared.event.Side.TheVariants.{A, B}

abbrev pub told_by : Side → Option Delivered → List (Side × Delivered)
told_by side None = []
told_by side (Some delivered) = (side, delivered) ∷ []

-- all that these events deliver, in order, each with the side that does
abbrev pub told_on : (window packet : ℕ) → List EndEvent → Pair → List (Side × Delivered)
told_on window packet [] w = []
told_on window packet (e ∷ events) w =
    told_by (actor e) (delivers e w) ++ told_on window packet events (happens window packet e w)

abbrev pub told : (window packet : ℕ) → List EndEvent → List (Side × Delivered)
told window packet events = told_on window packet events new_pair

-- the bytes in it that a side delivers on its channel of this number, each with its kind
abbrev pub is_side : Side → Side → Bool
is_side A A = true
is_side B B = true
is_side side other = false

abbrev pub data_of : Delivered → List (DataKind × ℕ)
data_of delivered = tagged (chunk (kind_of delivered.ext) delivered.bytes)

abbrev pub bytes_at : Side → (n : ℕ) → List (Side × Delivered) → List (DataKind × ℕ)
bytes_at side n [] = []
bytes_at side n (one ∷ others) = cond (is_side side one.0 && (n == one.1.channel.0))
    (data_of one.1) []
    ++ bytes_at side n others

abbrev pub party : Side → Pair → Party
party A w = w.near
party B w = w.far

-- these deliveries are told by all these events, the promise holds behind them, and each side
-- delivered on each channel what the promise speaks of
abbrev pub Ran : (window packet : ℕ) → List EndEvent → List (Side × Delivered) → Type 0
Ran window packet events deliveries = FewDraws (after window packet events)
    → (deliveries ≡ told window packet events) × Holds (after window packet events)
    × ((side : Side) (n : ℕ) → bytes_at side n deliveries
    ≡ (party side (after window packet events)).delivered n)

abbrev pub RunsOut : (window packet : ℕ) → List EndEvent → EndError → Type 0
RunsOut window packet events why = FewDraws (after window packet events) → why ≡ NoMemory

-- an event happens to two ends, and what it delivers comes behind these deliveries
abbrev pub Plays : EndEvent → Posts → List (Side × Delivered) → Posts → List (Side × Delivered)
    → Type 0
Plays e old before new now = (delivered : Option Delivered) × Happens e old new delivered
    × (now ≡ before ++ told_by (actor e) delivered)
