-- The files, as the code keeps them.
use Rattle.std.specs.Prelude.{ℕ, List, map, Vec}
use Rattle.std.specs.Global.{Global}
use Rattle.std.specs.FinMap as finite
use Rattle.std.specs.Ordering.{nat_cmp}
use Rattle.std.specs.Cmp.Lexicographic.{slice_cmp}

-- bytes under paths
abbrev pub Tree : Type 0
Tree = finite.FinMap (slice_cmp nat_cmp) (List ℕ)

-- a path and the bytes under it
abbrev pub shown : Vec ℕ Global × Vec ℕ Global → List ℕ × List ℕ
shown entry = (entry.0.items, entry.1.items)

-- the map of these entries
abbrev pub tree_of : List (Vec ℕ Global × Vec ℕ Global) → Tree
tree_of entries = finite.from_entries (map shown entries)
