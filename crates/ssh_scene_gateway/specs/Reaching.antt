-- What the targets of a script answer.
use Rattle.std.specs.Prelude.{◌≡◌, ℕ, ◌==◌, ◌&&◌, not, cond, Bool, true, false, List, [], ◌∷◌, ◌++◌}
use Rattle.std.specs.Prelude.{bytes_eq, take, drop, Option, Some, None, Ok}
use Rattle.std.specs.List.{find, position, filter, slice_get, slice_set}
use Rattle.ssh_gateway.specs.declared.targets.Arrived.{Arrived}
use Rattle.ssh_gateway.specs.declared.targets.Arrived.TheVariants as arrived
use Rattle.ssh_gateway.specs.declared.targets.TargetCall.{TargetCall}
use Rattle.ssh_gateway.specs.declared.targets.TargetCall.TheVariants as call
use Rattle.ssh_scene_gateway.specs.declared.targets.ScriptHost.{ScriptHost}
use Rattle.ssh_scene_gateway.specs.declared.targets.Stream.{Stream}

-- the hosts that can be reached, and the connections with what they have still to give
pub record Stock : Type 0 where
  pub hosts : List ScriptHost
  pub streams : List Stream

-- before the first call
abbrev pub untouched : List ScriptHost → Stock
untouched hosts = record { hosts = hosts; streams = [] }

-- ---- a connection

abbrev pub is_at : (host : List ℕ) → (port : ℕ) → ScriptHost → Bool
is_at host port one = (one.port == port) && bytes_eq one.host host

-- the connection to the first such host; none where there is none
abbrev pub connection : (id : ℕ) → Option ScriptHost → List Stream
connection id None = []
connection id (Some one) = record { id = id; left = one.bytes } ∷ []

abbrev pub is_reached : Option ScriptHost → Bool
is_reached None = false
is_reached (Some one) = true

-- ---- what it gives

abbrev pub is_of : (id : ℕ) → Stream → Bool
is_of id one = one.id == id

-- so many of these bytes at most, and the end behind the last of them
abbrev pub arrives : (most : ℕ) → (left : List ℕ) → Arrived
arrives most [] = arrived.End
arrives most (byte ∷ bytes) =
    cond (most == 0) arrived.Nothing (arrived.Bytes (take most (byte ∷ bytes)))

-- a connection that is closed, or was never made, gives the end
abbrev pub arrives_from : (most : ℕ) → Option Stream → Arrived
arrives_from most None = arrived.End
arrives_from most (Some one) = arrives most one.left

-- without what it gave
abbrev pub read_at : (most place : ℕ) → Option Stream → List Stream → List Stream
read_at most place None all = all
read_at most place (Some one) all = slice_set all place (record one { left = drop most one.left })

abbrev pub read_from : (most : ℕ) → Option ℕ → List Stream → List Stream
read_from most None all = all
read_from most (Some place) all = read_at most place (slice_get all place) all

-- ---- a call

-- the call as it is answered
abbrev pub given_as : Stock → TargetCall → TargetCall
given_as stock (call.Connect id host port answer) =
    call.Connect id host port (Ok (is_reached (find (is_at host port) stock.hosts)))
given_as stock (call.Write id bytes answer) = call.Write id bytes (Ok tt)
given_as stock (call.Read id most answer) =
    call.Read id most (Ok (arrives_from most (find (is_of id) stock.streams)))
given_as stock (call.Finish id answer) = call.Finish id (Ok tt)
given_as stock (call.Close id answer) = call.Close id (Ok tt)

-- what is left after it
abbrev pub after : Stock → TargetCall → Stock
after stock (call.Connect id host port answer) = record stock {
  streams = stock.streams ++ connection id (find (is_at host port) stock.hosts);
}
after stock (call.Read id most answer) = record stock {
  streams = read_from most (position (is_of id) stock.streams) stock.streams;
}
after stock (call.Close id answer) =
    record stock { streams = filter (λ one. not (is_of id one)) stock.streams }
after stock _ = stock

-- the calls as they are answered, in order
abbrev pub as_given : Stock → List TargetCall → List TargetCall
as_given stock [] = []
as_given stock (one ∷ more) = given_as stock one ∷ as_given (after stock one) more

abbrev pub left_after : Stock → List TargetCall → Stock
left_after stock [] = stock
left_after stock (one ∷ more) = left_after (after stock one) more

-- each of these calls was answered by these hosts, in order
abbrev pub AreReached : Stock → List TargetCall → Type 0
AreReached stock calls = as_given stock calls ≡ calls

-- ---- what is told

-- the hosts as targets tell them before their calls: two calls for each, with its name and port
-- and its bytes, and one behind the last
abbrev pub heading : List ScriptHost → List TargetCall
heading [] = call.Close 0 (Ok tt) ∷ []
heading (one ∷ more) = call.Connect 0 one.host one.port (Ok true)
    ∷ call.Write 0 one.bytes (Ok tt) ∷ heading more

-- what targets tell that have these hosts, and whose calls are these; nothing where one was lost
abbrev pub told_of : (lost : Bool) → List ScriptHost → List TargetCall → Option (List TargetCall)
told_of true hosts calls = None
told_of false hosts calls = Some (heading hosts ++ calls)
