-- Hosts that may be reached.
use Rattle.std.specs.Prelude.{ℕ, ◌==◌, ◌&&◌, bytes_eq, List, Bool}
use Rattle.std.specs.List.{list_any}
use Rattle.ssh_gateway.specs.declared.policy.Reachable.{Reachable}

-- this host and port stand in the list
abbrev pub is_listed : (host : List ℕ) → (port : ℕ) → List Reachable → Bool
is_listed host port hosts = list_any (λ one. (one.port == port) && bytes_eq one.host host) hosts
