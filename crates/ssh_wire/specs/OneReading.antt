-- Bytes are read in one way: they say one thing, or they are refused for one reason.
use Rattle.std.specs.Prelude.{◌≡◌, ℕ, List}

-- bytes say at most one thing, and one rest follows it
abbrev pub SaysOne : {A : Type 0} → (A → (bytes rest : List ℕ) → Type 0) → Type 0
SaysOne {A} Says =
    (x y : A) (bytes rest other : List ℕ) → Says x bytes rest → Says y bytes other
    → (x ≡ y) × (rest ≡ other)

-- bytes are refused for at most one reason
abbrev pub HasOneReason : {Why : Type 0} → (List ℕ → Why → Type 0) → Type 0
HasOneReason {Why} Misfits =
    (bytes : List ℕ) (why other : Why) → Misfits bytes why → Misfits bytes other → why ≡ other

-- bytes that are refused say nothing
abbrev pub NeverBoth : {A Why : Type 0} → (A → (bytes rest : List ℕ) → Type 0)
    → (List ℕ → Why → Type 0) → Type 0
NeverBoth {A} {Why} Says Misfits =
    (x : A) (bytes rest : List ℕ) (why : Why) → Misfits bytes why → Says x bytes rest → ⊥
