-- Lists that are kept, or not.
use Rattle.std.specs.Prelude.{Bool, true, false, List, [], Option, Some, None}

-- an empty list, where one is kept
abbrev pub begun : {T : Type 0} → Bool → Option (List T)
begun true = Some []
begun false = None

abbrev pub items_of : {T V : Type 0} → (V → List T) → Option V → Option (List T)
items_of f None = None
items_of f (Some v) = Some (f v)

-- what is kept
abbrev pub listed : {T : Type 0} → Option (List T) → List T
listed None = []
listed (Some items) = items
