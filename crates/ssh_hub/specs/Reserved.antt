-- What a seat has reserved: it gains bytes by `reserve`, and gives them back by `release` or spends
-- them by a put of data.
use Rattle.std.specs.Prelude.{ℕ, ◌+◌, ◌-◌, ◌≤◌, ◌==◌, cond, ltb, Bool, false, ◌||◌, length, List, [], ◌∷◌, Option, Some, None}
use Rattle.ssh_hub.specs.World.{World, Channel, Map, find}
use Rattle.ssh_hub.specs.Channels.{most_bytes}
use Rattle.ssh_hub.specs.Lists.{data_channel}
use Rattle.ssh_hub.specs.Outcomes.{put_at}
use Rattle.ssh_hub.specs.declared.answers.Reserve.{Reserve}
use Rattle.ssh_hub.specs.declared.answers.Reserve.TheVariants.{Got}
use Rattle.ssh_hub.specs.declared.answers.Put.{Put}
use Rattle.ssh_hub.specs.declared.answers.Put.TheVariants.{Done as IsPut}
use Rattle.ssh_hub.specs.declared.history.HubCall.{HubCall}
use Rattle.ssh_hub.specs.declared.history.HubCall.TheVariants.{
  ReserveBytes,
  ReleaseBytes,
  PutCommand,
}
use Rattle.ssh_hub.specs.declared.history.HubReply.{HubReply}
use Rattle.ssh_hub.specs.declared.history.HubReply.TheVariants.{Reserved, WasPut}
use Rattle.ssh_hub.specs.declared.history.Entry.{Entry}
use Rattle.ssh_hub.specs.declared.reservations.Reservation.{Reservation}

-- the bytes that are reserved of the channel c
abbrev pub bytes_on : ℕ → List Reservation → ℕ
bytes_on c [] = 0
bytes_on c (r ∷ rs) = cond (r.channel == c) r.bytes (bytes_on c rs)

-- whether some are
abbrev pub is_on : ℕ → List Reservation → Bool
is_on c [] = false
is_on c (r ∷ rs) = r.channel == c || is_on c rs

abbrev pub one_on : Option ℕ → Option ℕ
one_on None = None
one_on (Some i) = Some (i + 1)

-- where the first of them stands
abbrev pub index_of : ℕ → List Reservation → Option ℕ
index_of c [] = None
index_of c (r ∷ rs) = cond (r.channel == c) (Some 0) (one_on (index_of c rs))

-- whether memory for reservations on so many channels has room for one of the channel c
abbrev pub is_roomy : ℕ → List Reservation → ℕ → Bool
is_roomy room rs c = is_on c rs || ltb (length rs) room

abbrev pub bytes_at : Option ℕ → List Reservation → ℕ
bytes_at None rs = 0
bytes_at (Some c) rs = bytes_on c rs

abbrev pub reservation : ℕ → ℕ → Reservation
reservation c n = record { channel = c; bytes = n }

-- n bytes more of the channel c
abbrev pub with_more : ℕ → ℕ → List Reservation → List Reservation
with_more c n [] = reservation c n ∷ []
with_more c n (r ∷ rs) =
    cond (r.channel == c) (reservation c (r.bytes + n) ∷ rs) (r ∷ with_more c n rs)

-- one reservation with n bytes less, which is gone where no byte is left
abbrev pub lessened : ℕ → Reservation → List Reservation → List Reservation
lessened n r rs = cond (ltb n r.bytes) (reservation r.channel (r.bytes - n) ∷ rs) rs

-- n bytes less of the channel c, or none where it has fewer
abbrev pub with_less : ℕ → ℕ → List Reservation → List Reservation
with_less c n [] = []
with_less c n (r ∷ rs) = cond (r.channel == c) (lessened n r rs) (r ∷ with_less c n rs)

-- what a seat has after it asked for bytes of the channel c
abbrev pub after_reserve : Reserve → ℕ → List Reservation → List Reservation
after_reserve (Got n) c rs = with_more c n rs
after_reserve reply c rs = rs

abbrev pub less_at : Option ℕ → ℕ → List Reservation → List Reservation
less_at None n rs = rs
less_at (Some c) n rs = with_less c n rs

-- what a seat has after a put that was to spend n bytes
abbrev pub after_put : Put → Option ℕ → ℕ → List Reservation → List Reservation
after_put (IsPut ticket) channel n rs = less_at channel n rs
after_put reply channel n rs = rs

-- what a seat has reserved after one of its calls
abbrev pub reserved_after : HubCall → HubReply → List Reservation → List Reservation
reserved_after (ReserveBytes c want) (Reserved reply) rs = after_reserve reply c.0 rs
reserved_after (ReleaseBytes c amount) reply rs = with_less c.0 amount rs
reserved_after (PutCommand command spend wanted) (WasPut reply) rs =
    after_put reply (data_channel command) spend rs
reserved_after call reply rs = rs

-- what a seat has reserved after these calls of its own
abbrev pub reserved_by : List Entry → List Reservation → List Reservation
reserved_by [] rs = rs
reserved_by (e ∷ es) rs = reserved_by es (reserved_after e.call e.reply rs)

-- how many bytes a call may give back or spend, of those that its seat has reserved
abbrev pub at_hand : HubCall → List Reservation → ℕ
at_hand (ReleaseBytes c amount) rs = bytes_on c.0 rs
at_hand (PutCommand command spend wanted) rs = bytes_at (data_channel command) rs
at_hand call rs = 0

abbrev pub or_none : Option (List Reservation) → List Reservation
or_none None = []
or_none (Some rs) = rs

-- what the seat has reserved
abbrev pub reservations : ℕ → World → List Reservation
reservations seat w = or_none (find seat w.reserved)

-- what the seats have reserved after a call of one of them
abbrev pub all_after : World → ℕ → HubCall → HubReply → Map (List Reservation)
all_after w seat call reply =
    put_at w.reserved seat (reserved_after call reply (reservations seat w)) (find seat w.reserved)

-- how many bytes all seats have reserved of a channel, as the hub counts them
abbrev pub sum_on : Option Channel → ℕ
sum_on None = 0
sum_on (Some ch) = ch.reserved

-- what a seat's memory for reservations has: they, and on how many channels they may be at once
pub record Reservations : Type 0 where
  pub held : List Reservation
  pub room : ℕ

abbrev pub memory : List Reservation → ℕ → Reservations
memory held room = record { held = held; room = room }

-- the bytes that a `reserve` gave fit 32 bits together with n others
abbrev pub FitsBeside : ℕ → Reserve → Type 0
FitsBeside n (Got got) = n + got ≤ most_bytes
FitsBeside n reply = Unit {0}

-- a put that spends at most n bytes spends no more than are reserved of its channel
abbrev pub IsCovered : Option ℕ → ℕ → Map Channel → Type 0
IsCovered None n channels = Unit {0}
IsCovered (Some c) n channels = n ≤ sum_on (find c channels)
