-- What clauses say of a lock and of its seats.
use Rattle.std.specs.Prelude.{◌≡◌, ℕ, ◌<◌, ◌≤◌, List, [], ◌∷◌, ◌++◌, Option, Some, None, Bool}
use mathlib.Core.List.{IsPrefix}
use Rattle.atomic_table.specs.declared.shared.Seat as atomic
use Rattle.ssh_hub.specs.World.{Held, find}
use Rattle.ssh_hub.specs.Reserved.{at_hand, is_roomy, bytes_on, sum_on}
use Rattle.ssh_hub.specs.Step.{opening, act, hub_step}
use Rattle.ssh_hub.specs.History.{IsLegal, Grows, calls_by, newest}
use Rattle.ssh_hub.specs.Rule.{world, drawn_by, AtRest, InsideAt}
use Rattle.ssh_hub.specs.Views.{own_reservations}
use Rattle.ssh_hub.specs.declared.answers.Config2.{Config2}
use Rattle.ssh_hub.specs.declared.history.HubCall.{HubCall}
use Rattle.ssh_hub.specs.declared.history.HubReply.{HubReply}
use Rattle.ssh_hub.specs.declared.history.Entry.{Entry}
use Rattle.ssh_hub.specs.declared.history.View.{View}
use Rattle.ssh_hub.specs.declared.lock.HubLock.{HubLock}
use Rattle.ssh_hub.specs.declared.lock.Seat.{Seat}
use Rattle.ssh_hub.specs.declared.reservations.Reservation.{Reservation}

-- what the seat knows: its number, the history so far, and its own calls
abbrev pub view_of : Seat → View
view_of s = s.inner.me.0

-- the seat's number in the history
abbrev pub number_of : Seat → ℕ
number_of s = s.inner.me.0.number

-- the seat was made by this lock
abbrev pub IsSeatOf : HubLock → Seat → Type 0
IsSeatOf l s = (s.inner.table_id ≡ l.table.shared.table_id)
    × (s.inner.me.0.config ≡ l.table.shared.key)

abbrev pub config_of : HubLock → Config2
config_of l = l.table.shared.key

abbrev pub entry : ℕ → HubCall → HubReply → Entry
entry n c r = record { by = n; call = c; reply = r }

-- on how many channels the seat may have reserved bytes at once
abbrev pub room_of : Seat → ℕ
room_of s = s.reserved.room

-- whether the seat has bytes of the channel c, or has room for those of one channel more
abbrev pub has_room_for : Seat → ℕ → Bool
has_room_for s c = is_roomy (room_of s) (own_reservations (view_of s)) c

-- the same seat
abbrev pub IsSameSeat : View → View → Type 0
IsSameSeat v w = (w.number ≡ v.number) × (w.config ≡ v.config)

-- it made no call, and has seen the history so far
pub record Learns (v w : View) : Type 0 where
  pub same : IsSameSeat v w
  pub legal : IsLegal (opening w.config) w.seen
  pub grows : Grows v.number v.seen w.seen

-- it made no call, and has seen no more
pub record Stays (v w : View) : Type 0 where
  pub same : IsSameSeat v w
  pub seen : w.seen ≡ v.seen

-- it made this call: the history goes on with calls of other seats, and ends with it
pub record Makes (v : View) (c : HubCall) (r : HubReply) (w : View) : Type 0 where
  pub same : IsSameSeat v w
  pub legal : IsLegal (opening w.config) w.seen
  pub before : List Entry
  pub grows : Grows v.number v.seen before
  pub ends : w.seen ≡ before ++ entry v.number c r ∷ []

-- the seat has made this call, which answered so, and nothing else
abbrev pub HasCalled : Seat → HubCall → HubReply → Seat → Type 0
HasCalled s c r t = Makes (view_of s) c r (view_of t)

-- the seat has made no call; it may have seen more
abbrev pub HasLearned : Seat → Seat → Type 0
HasLearned s t = Learns (view_of s) (view_of t)

-- it met another seat: both histories stand in one
pub record Meets (v x w : View) : Type 0 where
  pub same : IsSameSeat v w
  pub legal : IsLegal (opening w.config) w.seen
  pub mine : Grows v.number v.seen w.seen
  pub theirs : IsPrefix x.seen w.seen

-- a new seat, made by v: it has seen as much, and has made no call
pub record IsNew (v w : View) : Type 0 where
  pub config : w.config ≡ v.config
  pub legal : IsLegal (opening w.config) w.seen
  pub seen : w.seen ≡ v.seen
  pub none_made : calls_by w.number w.seen ≡ []

abbrev pub Place : Type 0
Place = atomic.Seat (Option Held) View

-- the seat is at rest, and fits the lock
abbrev pub IsIdle : HubLock → Place → Type 0
IsIdle l p = (p.table_id ≡ l.table.shared.table_id) × AtRest p.me

abbrev pub IsInside : Place → Type 0
IsInside p = InsideAt p.me

-- the seat has the turn in this lock
abbrev pub IsInTurn : HubLock → Place → Type 0
IsInTurn l p = (p.table_id ≡ l.table.shared.table_id) × IsInside p

-- the place fits the same table still
abbrev pub IsOfSame : Place → Place → Type 0
IsOfSame p q = q.table_id ≡ p.table_id

-- the hub after the history that the seat has seen
abbrev pub hub_seen : Place → Held
hub_seen p = (world p.me.0.config p.me.0.seen).hub

-- what the seat has reserved
abbrev pub held_of : Place → List Reservation
held_of p = own_reservations p.me.0

-- of no channel the seat has reserved more than the hub counts
abbrev pub OwnsPart : Place → Type 0
OwnsPart p = (c : ℕ) → bytes_on c (held_of p) ≤ sum_on (find c (hub_seen p).channels)

-- the place of the seat's newest entry
abbrev pub newest_of : Place → Option ℕ
newest_of p = newest p.me.0.number p.me.0.seen

-- the call is answered so by the hub that the seat has seen
abbrev pub IsAnswered : Place → Entry → Type 0
IsAnswered p e = (e.by ≡ p.me.0.number)
    × (e.reply ≡ (hub_step (world p.me.0.config p.me.0.seen) e.by e.call).1)

-- so is the call, and it leaves this hub
abbrev pub IsServed : Place → Entry → Held → Type 0
IsServed p e hub = (e.by ≡ p.me.0.number)
    × (act (hub_seen p) e.by (at_hand e.call (held_of p)) e.call ≡ (hub, e.reply))

-- a number that the entry drew is nobody's
abbrev pub IsFresh : Entry → Place → Type 0
IsFresh e p = (n : ℕ) → drawn_by e.call e.reply None ≡ Some n → (0 < n)
    × (calls_by n p.me.0.seen ≡ [])
