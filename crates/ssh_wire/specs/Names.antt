-- Lists of names (RFC 4251 section 5, name-list).
use Rattle.std.specs.Prelude.{ℕ, List, Contains}
use Rattle.std.specs.List.{join_with_byte}

-- the byte between two names
abbrev pub comma : ℕ
comma = 44

-- the names in order, with a comma between each two
abbrev pub joined : List (List ℕ) → List ℕ
joined names = join_with_byte comma names

-- no byte of it is a comma
abbrev pub HasNoComma : List ℕ → Type 0
HasNoComma name = Contains name comma → ⊥
