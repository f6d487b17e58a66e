-- A list that is used up from its front.
use Rattle.std.specs.Prelude.{List, [], ◌∷◌}

-- what is left after the first; nothing where there is none
abbrev pub rest : {A : Type 0} → List A → List A
rest [] = []
rest (x ∷ xs) = xs
