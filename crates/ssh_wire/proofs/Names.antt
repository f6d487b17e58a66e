-- What is known of names joined by commas.
use Rattle.std.proofs.Common.{Bool, true, false, cond, eqb, eq-eqb, ◌≡◌, ◌==◌, ℕ, zero, suc, ◌+◌}
use Rattle.std.proofs.Common.{◌<◌, ◌≤◌, List, [], ◌∷◌, ◌++◌, length, take, get_or, refl, sym, ◌∙◌}
use Rattle.std.proofs.Common.{ap, arith, append_assoc, length-take-le}
use Rattle.std.proofs.lemmas.List.{take_more}
use Rattle.std.proofs.lemmas.List.Elements.{All-from_recursion}
use Rattle.std.proofs.lemmas.List.Splits.{join_with_byte-slice_split, length-slice_split}
use Rattle.std.specs.List.{All, AllByRecursion as ByRecursion, slice_split, onto_first}
use Rattle.std.specs.List.{slice_index_or}
use Rattle.ssh_wire.specs.Names.{joined, comma, HasNoComma}

-- one more name
pub joined-push : (names : List (List ℕ)) (name : List ℕ) → 0 < length names
    → joined (names ++ name ∷ []) ≡ (joined names ++ comma ∷ []) ++ name
joined-push [] name some = absurd (omega arith)
joined-push (first ∷ []) name some = sym (append_assoc first (comma ∷ []) name)
joined-push (first ∷ second ∷ rest) name some =
    ap (λ tail. first ++ comma ∷ tail) (joined-push (second ∷ rest) name (omega arith))
    ∙ sym (append_assoc first (comma ∷ joined (second ∷ rest) ++ comma ∷ []) name)
    ∙ ap (λ front. front ++ name) (sym (append_assoc first (comma ∷ joined (second ∷ rest))
    (comma ∷ [])))

-- the first of them
pub joined_first : (names : List (List ℕ)) (i : ℕ) (d : List ℕ) → i < length names → i ≤ 0
    → joined (take i names) ++ get_or names i d ≡ joined (take (i + 1) names)
joined_first [] i d below none = absurd (omega arith)
joined_first (name ∷ names) zero d below none = refl
joined_first (name ∷ names) (suc i) d below none = absurd (omega arith)

-- the next of them
pub joined_next : (names : List (List ℕ)) (i : ℕ) (d : List ℕ) → i < length names → 0 < i
    → (joined (take i names) ++ comma ∷ []) ++ get_or names i d ≡ joined (take (i + 1) names)
joined_next names i d below some =
    sym (ap joined (take_more names i d below) ∙ joined-push (take i names) (get_or names i d)
    (omega (arith, length-take-le i names (omega arith))))

-- ---- what is cut at each comma

no_comma-cons : (byte : ℕ) (name : List ℕ) → eqb byte comma ≡ false → HasNoComma name → (place : ℕ)
    → place < length (byte ∷ name) → slice_index_or (byte ∷ name) place comma ≡ comma → ⊥
no_comma-cons byte name other none zero below is = let bad : true ≡ false =
    sym (eq-eqb byte comma is) ∙ other in cc
no_comma-cons byte name other none (suc place) below is = none (place, omega arith, is)

onto_first-apart : (byte : ℕ) (parts : List (List ℕ)) → eqb byte comma ≡ false
    → ByRecursion HasNoComma parts → ByRecursion HasNoComma (onto_first byte parts)
onto_first-apart byte [] other apart =
    (λ k. no_comma-cons byte [] other (λ at. omega (arith, at.1)) k.0 k.1 k.2, tt)
onto_first-apart byte (part ∷ parts) other apart =
    (λ k. no_comma-cons byte part other apart.0 k.0 k.1 k.2, apart.1)

cut-apart : (byte : ℕ) (parts : List (List ℕ)) (cuts : Bool) → eqb byte comma ≡ cuts
    → ByRecursion HasNoComma parts → ByRecursion HasNoComma
    (cond cuts ([] ∷ parts) (onto_first byte parts))
cut-apart byte parts true is apart = (λ k. omega (arith, k.1), apart)
cut-apart byte parts false is apart = onto_first-apart byte parts is apart

parts-apart : (text : List ℕ) → ByRecursion HasNoComma (slice_split (λ byte. eqb byte comma) text)
parts-apart [] = (λ k. omega (arith, k.1), tt)
parts-apart (byte ∷ text) =
    cut-apart byte (slice_split (λ b. eqb b comma) text) (eqb byte comma) refl (parts-apart text)

pub All-HasNoComma : (text : List ℕ) → All HasNoComma (slice_split (λ byte. eqb byte comma) text)
All-HasNoComma text =
    All-from_recursion HasNoComma (slice_split (λ byte. eqb byte comma) text) (parts-apart text)

pub joined-slice_split : (text : List ℕ) → joined (slice_split (λ byte. eqb byte comma) text) ≡ text
joined-slice_split text = join_with_byte-slice_split comma text

-- there is always a part
some_part : (text : List ℕ) → slice_split (λ byte. eqb byte comma) text ≡ [] → ⊥
some_part text none =
    omega (arith, ap length none, length-slice_split (λ byte. eqb byte comma) text)

-- a text that is not empty lists a name
pub none_listed : (text : List ℕ) (names : List (List ℕ)) (empty : Bool)
    → names ≡ slice_split (λ byte. eqb byte comma) text → empty ≡ (length text == 0) → empty ≡ false
    → (names ≡ [] → text ≡ []) × (text ≡ [] → names ≡ [])
none_listed text names empty split is some = (
  (λ none. absurd (some_part text (sym split ∙ none))),
  (λ none. let bad : false ≡ true = sym some ∙ is ∙ ap (λ bytes. length bytes == 0) none in cc),
)
