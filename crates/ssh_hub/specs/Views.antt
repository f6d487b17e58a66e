-- What a seat knows.
use Rattle.std.specs.Prelude.{List, []}
use Rattle.ssh_hub.specs.Reserved.{reserved_by}
use Rattle.ssh_hub.specs.History.{calls_by}
use Rattle.ssh_hub.specs.declared.history.View.{View}
use Rattle.ssh_hub.specs.declared.reservations.Reservation.{Reservation}

-- what the seat has reserved, as its own calls make it
abbrev pub own_reservations : View → List Reservation
own_reservations v = reserved_by (calls_by v.number v.seen) []
