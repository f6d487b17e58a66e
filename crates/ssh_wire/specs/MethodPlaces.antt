-- How a set of methods is held: six places, of which the first are taken.
use Rattle.std.specs.Prelude.{◌≡◌, ℕ, ◌-◌, ◌≤◌, List, ◌++◌, length, take, replicate}
use Rattle.ssh_wire.specs.Methods.{NoDoubles}
use Rattle.ssh_wire.specs.declared.method.MethodKind.{MethodKind}
use Rattle.ssh_wire.specs.declared.method.MethodKind.TheVariants as kind

-- the methods, and then "none" in each place that is left
abbrev pub placed : List MethodKind → List MethodKind
placed methods = methods ++ replicate (6 - length methods) kind.None

pub record IsHeld (count : ℕ) (places : List MethodKind) : Type 0 where
  pub counted : length (take count places) ≡ count
  pub fits : count ≤ 6
  pub is_placed : placed (take count places) ≡ places
  pub distinct : NoDoubles (take count places)
