-- The rule of the lock, and what its steps tell.
-- Word 0 is the number of tickets that were drawn, word 1 the ticket that is served, and word 2 the
-- number of entries.
use Rattle.std.specs.Prelude.{◌≡◌, ◌≢◌, ℕ, ◌+◌, ◌%◌, ◌<◌, ◌≤◌, ◌⊎◌, cond, ltb}
use Rattle.std.specs.Prelude.{List, [], ◌∷◌, ◌++◌, length, Option, Some, None}
use mathlib.Core.Option as maybe
use mathlib.Core.List.{IsPrefix}
use lib.ListN.{get_elem?}
use Rattle.atomic_table.specs.Table.{State, Me, Step, rest}
use Rattle.ssh_hub.specs.World.{Held, World, HasRoom}
use Rattle.ssh_hub.specs.Step.{opening}
use Rattle.ssh_hub.specs.History.{run, IsLegal, calls_by, Grows}
use Rattle.ssh_hub.specs.declared.answers.Config2.{Config2}
use Rattle.ssh_hub.specs.declared.history.HubCall.{HubCall}
use Rattle.ssh_hub.specs.declared.history.HubCall.TheVariants.{Nudge, SplitSeat}
use Rattle.ssh_hub.specs.declared.history.HubReply.{HubReply}
use Rattle.ssh_hub.specs.declared.history.HubReply.TheVariants.{Done, SeatIs}
use Rattle.ssh_hub.specs.declared.history.Entry.{Entry}
use Rattle.ssh_hub.specs.declared.history.Stage.{Stage}
use Rattle.ssh_hub.specs.declared.history.Stage.TheVariants.{Idle, Waiting, Inside, Leaving}
use Rattle.ssh_hub.specs.declared.history.View.{View}

abbrev pub HasTicket : Stage → ℕ → Type 0
HasTicket Idle t = ⊥
HasTicket (Waiting u) t = u ≡ t
HasTicket (Inside u) t = u ≡ t
HasTicket (Leaving u) t = u ≡ t

abbrev pub HasTurn : Stage → Type 0
HasTurn Idle = ⊥
HasTurn (Waiting u) = ⊥
HasTurn (Inside u) = Unit {0}
HasTurn (Leaving u) = Unit {0}

-- 1 where it holds a ticket
abbrev pub tickets_at : Stage → ℕ
tickets_at Idle = 0
tickets_at (Waiting u) = 1
tickets_at (Inside u) = 1
tickets_at (Leaving u) = 1

abbrev pub tickets_of : View → ℕ
tickets_of v = tickets_at v.stage

abbrev pub spares_in : Option ℕ → ℕ
spares_in None = 0
spares_in (Some n) = 1

abbrev pub spares_of : View → ℕ
spares_of v = spares_in v.spare

abbrev pub total : (View → ℕ) → List View → ℕ
total f [] = 0
total f (v ∷ vs) = f v + total f vs

-- a number that the seat has, or has drawn
abbrev pub IsNamed : View → ℕ → Type 0
IsNamed v n = ((0 < n) × (v.number ≡ n)) ⊎ (v.spare ≡ Some n)

-- two seats have no ticket and no number in common
abbrev pub Apart : View → View → Type 0
Apart v w =
    ((t : ℕ) → HasTicket v.stage t → HasTicket w.stage t → ⊥)
    × ((n : ℕ) → IsNamed v n → IsNamed w n → ⊥)

abbrev pub world : Config2 → List Entry → World
world k log = run (opening k) log

abbrev pub InStage : List Entry → ℕ → ℕ → List Entry → Stage → Type 0
InStage log drawn served seen Idle = Unit {0}
InStage log drawn served seen (Waiting t) = (served ≤ t) × (t < drawn)
InStage log drawn served seen (Inside t) =
    (t ≡ served) × (t < drawn) × (seen ≡ log)
    × (length log ≤ served) × (served + 2 < 18446744073709551616)
InStage log drawn served seen (Leaving t) =
    (t ≡ served) × (t < drawn) × (seen ≡ log)
    × (length log ≤ served + 1) × (served + 2 < 18446744073709551616)

-- a number that was drawn, and which no seat has yet
abbrev pub IsSpare : Config2 → List Entry → ℕ → ℕ → Type 0
IsSpare k log number n = (0 < n) × (n ≤ (world k log).hub.seats) × (calls_by n log ≡ []) × (n ≢ number)

-- what holds of one seat
pub record Fits (k : Config2) (log : List Entry) (drawn served : ℕ) (v : View) : Type 0 where
  pub config : 0 < v.number → v.config ≡ k
  pub seen : IsPrefix v.seen log
  pub told : IsPrefix v.told log
  pub mine : 0 < v.number → calls_by v.number log ≡ calls_by v.number v.seen
  pub own : 0 < v.number → calls_by v.number log ≡ v.mine
  pub known : v.number ≤ (world k log).hub.seats
  pub spare : (n : ℕ) → v.spare ≡ Some n → IsSpare k log v.number n
  pub stage : InStage log drawn served v.seen v.stage

-- the hub is in its slot and no seat has the turn, or one seat has the turn and the hub
abbrev pub OneHolder :
    Config2 → List Entry → ℕ → List View → List (maybe.Option (Option Held)) → Type 0
OneHolder k log served views homes =
    (((j : ℕ) (v : View) → get_elem? views j ≡ maybe.some v → HasTurn v.stage → ⊥)
    × (homes ≡ maybe.some (Some (world k log).hub) ∷ []) × (length log ≤ served))
    ⊎ ((i : ℕ) × (v : View) × (get_elem? views i ≡ maybe.some v)
    × HasTurn v.stage × (homes ≡ maybe.none ∷ []))

pub record Kept (k : Config2) (s : State (Option Held) View) : Type 0 where
  pub log : List Entry
  pub drawn : ℕ
  pub served : ℕ
  pub words : s.words ≡ drawn % 18446744073709551616 ∷ served ∷ length log ∷ []
  pub small : served < 18446744073709551616
  pub legal : IsLegal (opening k) log
  pub named : (n : ℕ) → (world k log).hub.seats < n → calls_by n log ≡ []
  pub held : served + total tickets_of s.views ≡ drawn
  pub seated : length s.views + total spares_of s.views ≡ (world k log).hub.seats
  pub each : (j : ℕ) (v : View) → get_elem? s.views j ≡ maybe.some v → Fits k log drawn served v
  pub apart :
      (i j : ℕ) (v w : View) → i ≢ j → get_elem? s.views i ≡ maybe.some v
      → get_elem? s.views j ≡ maybe.some w → Apart v w
  pub holder : OneHolder k log served s.views s.homes

abbrev pub newcomer : Config2 → ℕ → List Entry → View
newcomer k n seen = record {
  config = k;
  number = n;
  stage = Idle;
  spare = None;
  seen = seen;
  mine = [];
  told = [];
}

abbrev pub nobody : View
nobody = record {
  config = record { channel_buffer_size = 0; event_buffer_size = 0 };
  number = 0;
  stage = Idle;
  spare = None;
  seen = [];
  mine = [];
  told = [];
}

abbrev pub no_entry : Entry
no_entry = record { by = 0; call = Nudge; reply = Done }

-- a seat: what it knows, and what it took out of the slots
abbrev pub Seated : Type 0
Seated = Me (Option Held) View

-- a ticket was drawn
abbrev pub drew : Step (Option Held) → Seated → ℕ → Seated → Type 0
drew st m r m' = (t : ℕ) × (r ≡ t % 18446744073709551616)
    × (m' ≡ (record m.0 { stage = Waiting t }, m.1))

-- the seat has the turn, and the hub's state
abbrev pub Turned : ℕ → Seated → Seated → Type 0
Turned t m m' =
    (seen : List Entry)
    × (m' ≡ (record m.0 { stage = Inside t; seen = seen }, (0, Some (world m.0.config seen).hub) ∷ m.1))
    × Grows m.0.number m.0.seen seen × IsLegal (opening m.0.config) seen
    × HasRoom (world m.0.config seen).hub

abbrev pub looked : Step (Option Held) → Seated → ℕ → Seated → Type 0
looked st m r m' =
    (t : ℕ) → m.0.stage ≡ Waiting t
    → (r ≡ t % 18446744073709551616 → Turned t m m') × (r ≢ t % 18446744073709551616 → m' ≡ m)

-- both histories stand in one
abbrev pub compared : Step (Option Held) → Seated → ℕ → Seated → Type 0
compared st m r m' =
    (m' ≡ (record m.0 { told = [] }, m.1)) × IsPrefix m.0.told m.0.seen
    × (m.0.mine ≡ calls_by m.0.number m.0.seen)

abbrev pub leaving : Stage → Stage
leaving (Inside t) = Leaving t
leaving Idle = Idle
leaving (Waiting t) = Waiting t
leaving (Leaving t) = Leaving t

abbrev pub drawn_by : HubCall → HubReply → Option ℕ → Option ℕ
drawn_by SplitSeat (SeatIs n) s = Some n
drawn_by c r s = s

abbrev pub written : Entry → View → View
written e v = record v {
  stage = leaving v.stage;
  spare = drawn_by e.call e.reply v.spare;
  seen = v.seen ++ e ∷ [];
  mine = v.mine ++ e ∷ [];
}

abbrev pub committed : Entry → Step (Option Held) → Seated → ℕ → Seated → Type 0
committed e st m r m' =
    (r ≡ length m.0.seen) × (m' ≡ (written e m.0, m.1))
    × ((n : ℕ) → drawn_by e.call e.reply m.0.spare ≡ Some n
    → (0 < n) × (calls_by n (m.0.seen ++ e ∷ []) ≡ []))

abbrev pub passed : Step (Option Held) → Seated → ℕ → Seated → Type 0
passed st m r m' = m' ≡ (record m.0 { stage = Idle }, rest m.1)

-- a new seat takes the number that was drawn
abbrev pub stays_seated : View → View
stays_seated v = record v { spare = None }

abbrev pub number_in : Option ℕ → ℕ
number_in None = 0
number_in (Some n) = n

abbrev pub sits_down : View → View
sits_down v = newcomer v.config (number_in v.spare) v.seen

-- the longer history is kept
abbrev pub meets : View → View → View
meets v w =
    cond (ltb (length v.seen) (length w.seen)) (record v { seen = w.seen; told = v.seen })
    (record v { told = w.seen })

-- a seat with a number, and with no ticket, no slot and no number for a new seat
abbrev pub AtRest : Seated → Type 0
AtRest m =
    (0 < m.0.number) × (m.0.stage ≡ Idle) × (m.0.spare ≡ None)
    × (m.0.told ≡ []) × (m.1 ≡ []) × (m.0.mine ≡ calls_by m.0.number m.0.seen)

-- a seat that has the turn, and the hub out of its slot
abbrev pub InsideAt : Seated → Type 0
InsideAt m =
    (0 < m.0.number) × ((t : ℕ) × (m.0.stage ≡ Inside t)) × (m.0.spare ≡ None)
    × (m.0.told ≡ []) × (m.1 ≡ (0, None) ∷ []) × (m.0.mine ≡ calls_by m.0.number m.0.seen)

-- the view after an entry and the end of the turn
abbrev pub ended : Entry → View → View
ended e v = record v {
  stage = Idle;
  spare = drawn_by e.call e.reply None;
  seen = v.seen ++ e ∷ [];
  mine = v.mine ++ e ∷ [];
}
