-- Bytes begin with at most one spelling of a field, or do not fit it for one reason; the same of
-- lists of fields.
use Rattle.std.proofs.Common.{◌≡◌, ℕ, ◌+◌, ◌<◌, ◌^◌, ◌==◌, inl, inr, not, List, [], ◌∷◌, ◌++◌}
use Rattle.std.proofs.Common.{length, take, sym, ap, refl, ◌∙◌, length-append, arith, subst, IsUtf8}
use Rattle.std.specs.Int.{w32, w64, to_be_bytes, from_be_bytes}
use Rattle.ssh_wire.specs.Field.{Field, Byte, Flag, Number, Long, Bytes, Text, Value, Spells}
use Rattle.ssh_wire.specs.Field.{Misfits, IsCutShort, Values, SpellsAll, MisfitsAll, SpellsWhole}
use Rattle.ssh_wire.specs.Field.{MisfitsWhole, number, string}
use Rattle.ssh_wire.specs.Reading.{Reading, Reads, ReadsAll}
use Rattle.ssh_wire.specs.declared.error.WireError.{WireError}
use Rattle.ssh_wire.specs.declared.error.WireError.TheVariants as error
use Rattle.ssh_wire.proofs.Numbers.{parts_once, number_once, long_once, string_once, string_size}
use Rattle.ssh_wire.proofs.Numbers.{string_length}

-- one byte, whatever follows it
byte_once : (m n : ℕ) (a b p q : List ℕ) → p ≡ m ∷ [] → q ≡ n ∷ [] → p ++ a ≡ q ++ b
    → (m ≡ n) × (p ≡ q) × (a ≡ b)
byte_once m n a b p q p-is q-is is =
    let parts = parts_once p q a b (ap length p-is ∙ ap length (sym q-is)) is in
    let heads : m ∷ [] ≡ n ∷ [] = sym p-is ∙ parts.0 ∙ q-is in
    (cc, parts.0, parts.1)

string_parts : (s t a b p q : List ℕ) → length s < 2 ^ 32 → length t < 2 ^ 32 → p ≡ string s
    → q ≡ string t → p ++ a ≡ q ++ b → (s ≡ t) × (p ≡ q) × (a ≡ b)
string_parts s t a b p q s-fits t-fits p-is q-is is =
    let parts = string_once s t a b s-fits t-fits (ap (λ x. x ++ a) (sym p-is) ∙ is
    ∙ ap (λ x. x ++ b) q-is) in
    (parts.0, p-is ∙ ap string parts.0 ∙ sym q-is, parts.1)

-- two spellings of one field, at the front of the same bytes, are one and say the same
pub spells_once : (field : Field) (v w : Value field) (p q a b : List ℕ) → Spells field v p
    → Spells field w q → p ++ a ≡ q ++ b
    → (v ≡ w) × (p ≡ q) × (a ≡ b)
spells_once Byte v w p q a b s t is = byte_once v w a b p q s.1 t.1 is
spells_once Flag v w p q a b s t is =
    let parts = byte_once s.0 t.0 a b p q s.2 t.2 is in
    (s.3 ∙ ap (λ n. not (n == 0)) parts.0 ∙ sym t.3, parts.1, parts.2)
spells_once Number v w p q a b s t is =
    let parts =
    number_once v w a b s.0 t.0 (ap (λ x. x ++ a) (sym s.1) ∙ is ∙ ap (λ x. x ++ b) t.1) in
    (parts.0, s.1 ∙ ap number parts.0 ∙ sym t.1, parts.1)
spells_once Long v w p q a b s t is =
    let parts =
    long_once v w a b s.0 t.0 (ap (λ x. x ++ a) (sym s.1) ∙ is ∙ ap (λ x. x ++ b) t.1) in
    (parts.0, s.1 ∙ ap (to_be_bytes w64) parts.0 ∙ sym t.1, parts.1)
spells_once Bytes v w p q a b s t is = string_parts v w a b p q s.0 t.0 s.1 t.1 is
spells_once Text v w p q a b s t is = string_parts v w a b p q s.0 t.0 s.1 t.1 is

-- how many bytes come in all
size : (bytes piece after : List ℕ) → bytes ≡ piece ++ after
    → length bytes ≡ length piece + length after
size bytes piece after is = ap length is ∙ length-append piece after

not_short : (n : ℕ) (bytes piece after : List ℕ) → length bytes < n → length piece ≡ n
    → bytes ≡ piece ++ after → ⊥
not_short n bytes piece after short whole is = omega (arith, size bytes piece after is)

not_cut : (text bytes piece after : List ℕ) → IsCutShort bytes → length text < 2 ^ 32
    → piece ≡ string text → bytes ≡ piece ++ after → ⊥
not_cut text bytes piece after cut fits spelled is =
    let whole : length bytes ≡ 4 + length text + length after =
    size bytes piece after is ∙ ap (λ x. length x + length after) spelled
    ∙ ap (λ n. n + length after) (string_size text) in
    let says : from_be_bytes w32 (take 4 bytes) ≡ length text =
    ap (λ x. from_be_bytes w32 (take 4 x)) (is ∙ ap (λ x. x ++ after) spelled)
    ∙ string_length text after fits in
    elim cut [
      | inl few ↦ omega arith
      | inr less ↦ omega arith
    ]

-- bytes that do not fit a field do not begin with a spelling of it
pub misfits_not_spells : (field : Field) (value : Value field) (bytes piece after : List ℕ)
    (why : WireError)
    → Misfits field bytes why → bytes ≡ piece ++ after → Spells field value piece → ⊥
misfits_not_spells Byte value bytes piece after error.Short m is s =
    not_short 1 bytes piece after (omega (arith, ap length m)) (ap length s.1) is
misfits_not_spells Flag value bytes piece after error.Short m is s =
    not_short 1 bytes piece after (omega (arith, ap length m)) (ap length s.2) is
misfits_not_spells Number value bytes piece after error.Short m is s =
    not_short 4 bytes piece after m (ap length s.1) is
misfits_not_spells Long value bytes piece after error.Short m is s =
    not_short 8 bytes piece after m (ap length s.1) is
misfits_not_spells Bytes value bytes piece after error.Short m is s =
    not_cut value bytes piece after m s.0 s.1 is
misfits_not_spells Text value bytes piece after error.Short m is s =
    not_cut value bytes piece after m s.0 s.1 is
misfits_not_spells Text value bytes piece after error.NotUtf8 m is s =
    let same = string_once m.0 value m.1 after m.2 s.0 (sym m.3 ∙ is ∙ ap (λ x. x ++ after) s.1) in
    m.4 (subst IsUtf8 (sym same.0) s.2)
misfits_not_spells _ value bytes piece after why m is s = absurd m

-- bytes do not fit a field for one reason
pub misfits_once : (field : Field) (bytes : List ℕ) (why other : WireError)
    → Misfits field bytes why → Misfits field bytes other → why ≡ other
misfits_once field bytes error.Short error.Short m n = refl
misfits_once Text bytes error.NotUtf8 error.NotUtf8 m n = refl
misfits_once Text bytes error.Short error.NotUtf8 m n =
    absurd (not_cut n.0 bytes (string n.0) n.1 m n.2 refl n.3)
misfits_once Text bytes error.NotUtf8 error.Short m n =
    absurd (not_cut m.0 bytes (string m.0) m.1 n m.2 refl m.3)
misfits_once Text bytes error.NotUtf8 other m n = absurd n
misfits_once _ bytes error.Short other m n = absurd n
misfits_once _ bytes why other m n = absurd m

-- ---- fields one after another

-- bytes say one thing, and one rest is left
pub spells_all_once : (fields : List Field) (v w : Values fields) (bytes a b : List ℕ)
    → SpellsAll fields v bytes a → SpellsAll fields w bytes b
    → (v ≡ w) × (a ≡ b)
spells_all_once [] v w bytes a b s t = (refl, sym s ∙ t)
spells_all_once (field ∷ fields) v w bytes a b s t =
    let first = spells_once field v.0 w.0 s.0 t.0 s.1 t.1 s.2 t.2 (sym s.3 ∙ t.3) in
    let t-more = subst (λ x. SpellsAll fields w.1 x b) (sym first.2) t.4 in
    let more = spells_all_once fields v.1 w.1 s.1 a b s.4 t-more in
    (λ i. (first.0 i, more.0 i), more.1)

pub spells_whole_once : (fields : List Field) (v w : Values fields) (bytes : List ℕ)
    → SpellsWhole fields v bytes → SpellsWhole fields w bytes → v ≡ w
spells_whole_once fields v w bytes s t = (spells_all_once fields v w bytes [] [] s t).0

-- bytes that do not fit the fields are no spelling of them
pub misfits_all_not_spells : (fields : List Field) (values : Values fields) (bytes rest : List ℕ)
    (why : WireError)
    → MisfitsAll fields bytes why → SpellsAll fields values bytes rest → ⊥
misfits_all_not_spells [] values bytes rest why m s = m
misfits_all_not_spells (field ∷ fields) values bytes rest why m s =
    elim m [
      | inl here ↦ misfits_not_spells field values.0 bytes s.0 s.1 why here s.3 s.2
      | inr later ↦
          let first = spells_once field values.0 later.0 s.0 later.1 s.1 later.2 s.2 later.3
          (sym s.3 ∙ later.4) in
          misfits_all_not_spells fields values.1 s.1 rest why
          (subst (λ x. MisfitsAll fields x why) (sym first.2) later.5) s.4
    ]

pub misfits_whole_not_spells : (fields : List Field) (values : Values fields) (bytes : List ℕ)
    (why : WireError)
    → MisfitsWhole fields bytes why → SpellsWhole fields values bytes → ⊥
misfits_whole_not_spells [] values bytes why m s = m.0 s
misfits_whole_not_spells (field ∷ fields) values bytes why m s =
    elim m [
      | inl here ↦ misfits_not_spells field values.0 bytes s.0 s.1 why here s.3 s.2
      | inr later ↦
          let first = spells_once field values.0 later.0 s.0 later.1 s.1 later.2 s.2 later.3
          (sym s.3 ∙ later.4) in
          misfits_whole_not_spells fields values.1 s.1 why
          (subst (λ x. MisfitsWhole fields x why) (sym first.2) later.5) s.4
    ]

-- bytes do not fit the fields for one reason
pub misfits_all_once : (fields : List Field) (bytes : List ℕ) (why other : WireError)
    → MisfitsAll fields bytes why → MisfitsAll fields bytes other
    → why ≡ other
misfits_all_once [] bytes why other m n = absurd m
misfits_all_once (field ∷ fields) bytes why other m n =
    elim m [
      | inl here ↦ elim n [
        | inl there ↦ misfits_once field bytes why other here there
        | inr after ↦ absurd (misfits_not_spells field after.0 bytes after.1 after.2 why here
            after.4 after.3)
      ]
      | inr later ↦ elim n [
        | inl there ↦ absurd (misfits_not_spells field later.0 bytes later.1 later.2 other there
            later.4 later.3)
        | inr after ↦
            let first = spells_once field later.0 after.0 later.1 after.1 later.2 after.2 later.3
            after.3 (sym later.4 ∙ after.4) in
            misfits_all_once fields later.2 why other later.5
            (subst (λ x. MisfitsAll fields x other) (sym first.2) after.5)
      ]
    ]

pub misfits_whole_once : (fields : List Field) (bytes : List ℕ) (why other : WireError)
    → MisfitsWhole fields bytes why → MisfitsWhole fields bytes other
    → why ≡ other
misfits_whole_once [] bytes why other m n = m.1 ∙ sym n.1
misfits_whole_once (field ∷ fields) bytes why other m n =
    elim m [
      | inl here ↦ elim n [
        | inl there ↦ misfits_once field bytes why other here there
        | inr after ↦ absurd (misfits_not_spells field after.0 bytes after.1 after.2 why here
            after.4 after.3)
      ]
      | inr later ↦ elim n [
        | inl there ↦ absurd (misfits_not_spells field later.0 bytes later.1 later.2 other there
            later.4 later.3)
        | inr after ↦
            let first = spells_once field later.0 after.0 later.1 after.1 later.2 after.2 later.3
            after.3 (sym later.4 ∙ after.4) in
            misfits_whole_once fields later.2 why other later.5
            (subst (λ x. MisfitsWhole fields x other) (sym first.2) after.5)
      ]
    ]

-- ---- one field more, where it was read

pub spells_more : (field : Field) (fields : List Field) (old new : Reading) (value : Value field)
    (values : Values fields)
    → Reads field old new value → SpellsWhole fields values new.left
    → SpellsWhole (field ∷ fields) (value, values) old.left
spells_more field fields old new value values read more = (read.0, new.left, read.1, read.2.0, more)

pub spells_more_all : (field : Field) (fields : List Field) (old new : Reading)
    (value : Value field) (values : Values fields) (rest : List ℕ)
    → Reads field old new value → SpellsAll fields values new.left rest
    → SpellsAll (field ∷ fields) (value, values) old.left rest
spells_more_all field fields old new value values rest read more =
    (read.0, new.left, read.1, read.2.0, more)

pub misfit_here : (field : Field) (fields : List Field) (bytes : List ℕ) (why : WireError)
    → Misfits field bytes why → MisfitsWhole (field ∷ fields) bytes why
misfit_here field fields bytes why m = inl m

pub misfit_later : (field : Field) (fields : List Field) (old new : Reading) (value : Value field)
    (why : WireError)
    → Reads field old new value → MisfitsWhole fields new.left why
    → MisfitsWhole (field ∷ fields) old.left why
misfit_later field fields old new value why read later =
    inr (value, read.0, new.left, read.1, read.2.0, later)

pub misfit_here_all : (field : Field) (fields : List Field) (bytes : List ℕ) (why : WireError)
    → Misfits field bytes why → MisfitsAll (field ∷ fields) bytes why
misfit_here_all field fields bytes why m = inl m

pub misfit_later_all : (field : Field) (fields : List Field) (old new : Reading)
    (value : Value field) (why : WireError)
    → Reads field old new value → MisfitsAll fields new.left why
    → MisfitsAll (field ∷ fields) old.left why
misfit_later_all field fields old new value why read later =
    inr (value, read.0, new.left, read.1, read.2.0, later)

-- ---- the end after the last field

pub misfits_whole : (fields : List Field) (bytes : List ℕ) (why : WireError)
    → MisfitsAll fields bytes why → MisfitsWhole fields bytes why
misfits_whole [] bytes why m = absurd m
misfits_whole (field ∷ fields) bytes why m =
    elim m [
      | inl here ↦ inl here
      | inr later ↦ inr (
        later.0,
        later.1,
        later.2,
        later.3,
        later.4,
        misfits_whole fields later.2 why later.5,
      )
    ]

pub misfits_trailing : (fields : List Field) (values : Values fields) (bytes rest : List ℕ)
    → SpellsAll fields values bytes rest → (rest ≡ [] → ⊥)
    → MisfitsWhole fields bytes (error.Trailing (length rest))
misfits_trailing [] values bytes rest s more =
    (λ none. more (sym s ∙ none), ap (λ x. error.Trailing (length x)) (sym s))
misfits_trailing (field ∷ fields) values bytes rest s more =
    inr (values.0, s.0, s.1, s.2, s.3, misfits_trailing fields values.1 s.1 rest s.4 more)

-- the same, with the reason as an equation
pub trailing : (fields : List Field) (values : Values fields) (bytes rest : List ℕ)
    (why : WireError) → SpellsAll fields values bytes rest → (rest ≡ [] → ⊥)
    → why ≡ error.Trailing (length rest) → MisfitsWhole fields bytes why
trailing fields values bytes rest why s more is = subst (λ e. MisfitsWhole fields bytes e) (sym is)
    (misfits_trailing fields values bytes rest s more)

pub spells_whole : (fields : List Field) (values : Values fields) (bytes rest : List ℕ)
    → SpellsAll fields values bytes rest → rest ≡ []
    → SpellsWhole fields values bytes
spells_whole fields values bytes rest s none = subst (λ x. SpellsAll fields values bytes x) none s

-- a list of one field reads that field
pub reads_one : (field : Field) (old new : Reading) (value : Value field)
    → ReadsAll (field ∷ []) old new (value, tt) → Reads field old new value
reads_one field old new value read =
    let all : old.left ≡ read.0.0 ++ new.left = read.0.3 ∙ ap (λ x. read.0.0 ++ x) read.0.4 in
    (read.0.0, read.0.2, (all, omega (arith, size old.left read.0.0 new.left all)))
