-- Strings one after another, as many as a response announces.
use Rattle.std.proofs.Common.{◌≡◌, ◌+◌, ◌-◌, ◌<◌, ℕ, suc, List, [], ◌∷◌, ◌++◌, length, map, Bor}
use Rattle.std.proofs.Common.{Result, Ok, Err, IsErrAnd, MatchResult, inl, inr, refl, sym, ap}
use Rattle.std.proofs.Common.{subst, arith}
use Rattle.std.specs.Prelude.{replicate}
use Rattle.std.proofs.lemmas.List.{map-append}
use Rattle.ssh_wire.specs.declared.error.WireError.{WireError}
use Rattle.ssh_wire.specs.Field.{Number, Bytes, SpellsAll, SpellsWhole, Misfits, MisfitsWhole}
use Rattle.ssh_wire.proofs.Fields.{spells_all_once, misfits_all_not_spells}
use Rattle.ssh_wire.proofs.Fields.{misfits_whole_not_spells}
use Rattle.ssh_auth.specs.Response.{Unfit_responses, strings, values, SaysResponses}

-- one more string
spells_more : (texts : List (List ℕ)) (text bytes left after : List ℕ) → SpellsAll (strings texts)
    (values texts) bytes left →
    SpellsAll (Bytes ∷ []) (text, tt) left after → SpellsAll (strings (texts ++ text ∷ []))
    (values (texts ++ text ∷ [])) bytes after
spells_more [] text bytes left after h k = subst (λ b. SpellsAll (Bytes ∷ []) (text, tt) b after)
    (sym h) k
spells_more (first ∷ texts) text bytes left after h k =
    (h.0, h.1, h.2, h.3, spells_more texts text h.1 left after h.4 k)

-- the same of borrowed strings
pub reads_more : (items items' : List (Bor (List ℕ))) (item : Bor (List ℕ))
    (bytes left after : List ℕ) → items' ≡ items ++ item ∷ [] →
    SpellsAll (strings (map (λ text. text.now) items)) (values (map (λ text. text.now) items)) bytes
    left → SpellsAll (Bytes ∷ []) (item.now, tt) left after →
    SpellsAll (strings (map (λ text. text.now) items')) (values (map (λ text. text.now) items'))
    bytes after
reads_more items items' item bytes left after is h k =
    subst (λ xs. SpellsAll (strings (map (λ text. text.now) xs))
    (values (map (λ text. text.now) xs)) bytes after) (sym is)
    (subst (λ texts. SpellsAll (strings texts) (values texts) bytes after)
    (sym (map-append (λ text. text.now) items (item ∷ [])))
    (spells_more (map (λ text. text.now) items) item.now bytes left after h k))

-- behind these strings so many others do not fit
misfits_more : (texts : List (List ℕ)) (count rest : ℕ) (bytes left : List ℕ) (why : WireError)
    → length texts + rest ≡ count → SpellsAll (strings texts) (values texts) bytes left →
    MisfitsWhole (replicate rest Bytes) left why → MisfitsWhole (replicate count Bytes) bytes why
misfits_more [] count rest bytes left why is h k =
    let same : rest ≡ count = omega (arith, is) in
    subst (λ n. MisfitsWhole (replicate n Bytes) bytes why) same
    (subst (λ b. MisfitsWhole (replicate rest Bytes) b why) (sym h) k)
misfits_more (first ∷ texts) count rest bytes left why is h k =
    let same : suc (length texts + rest) ≡ count = omega (arith, is) in
    subst (λ n. MisfitsWhole (replicate n Bytes) bytes why) same
    (inr (
      first,
      h.0,
      h.1,
      h.2,
      h.3,
      misfits_more texts (length texts + rest) rest h.1 left why refl
          h.4 k,
    ))

-- more strings were announced, and the next one does not fit
pub misfits_next : (texts : List (List ℕ)) (count : ℕ) (bytes left : List ℕ) (why : WireError)
    → length texts < count →
    SpellsAll (strings texts) (values texts) bytes left → Misfits Bytes left why
    → MisfitsWhole (replicate count Bytes) bytes why
misfits_next texts count bytes left why less h k =
    let rest : ℕ = count - length texts - 1 in
    misfits_more texts count (suc rest) bytes left why (omega (arith, less)) h (inl k)

-- as many strings as were announced, and more
pub misfits_end : (texts : List (List ℕ)) (count : ℕ) (bytes left : List ℕ) (why : WireError)
    → length texts ≡ count →
    SpellsAll (strings texts) (values texts) bytes left → MisfitsWhole [] left why
    → MisfitsWhole (replicate count Bytes) bytes why
misfits_end texts count bytes left why same h k = misfits_more texts count 0 bytes left why
    (omega (arith, same)) h k

-- as many strings as were announced
as_many : (texts : List (List ℕ)) → replicate (length texts) Bytes ≡ strings texts
as_many [] = refl
as_many (text ∷ texts) = ap (λ fields. Bytes ∷ fields) (as_many texts)

-- fields that are responses do not misfit
pub never_unfit : (fields : List ℕ) (responses : List (List ℕ)) (why : WireError)
    → SpellsWhole (Number ∷ strings responses) (length responses, values responses) fields →
    SaysResponses fields (Unfit_responses why) → ⊥
never_unfit fields responses why v (inl m) = misfits_all_not_spells (Number ∷ []) (
  length responses,
  tt,
) fields v.1 why m (v.0, v.1, v.2, v.3, refl)
never_unfit fields responses why v (inr m) =
    let once = spells_all_once (Number ∷ []) (length responses, tt) (m.0, tt) fields v.1 m.1 (
      v.0,
      v.1,
      v.2,
      v.3,
      refl,
    ) m.2 in
    let count : length responses ≡ m.0 = ap (λ x. x.0) once.0 in
    let here : MisfitsWhole (replicate m.0 Bytes) v.1 why =
    subst (λ rest. MisfitsWhole (replicate m.0 Bytes) rest why) (sym once.1) m.3 in
    let same : MisfitsWhole (replicate (length responses) Bytes) v.1 why =
    subst (λ n. MisfitsWhole (replicate n Bytes) v.1 why) (sym count) here in
    misfits_whole_not_spells (strings responses) (values responses) v.1 why
    (subst (λ l. MisfitsWhole l v.1 why) (as_many responses) same) v.4

-- an error for this reason
pub fails_as : {T E : Type 0} (result : Result T E) (P : T → Type 0) (Q : E → Type 0) (why : E)
    → IsErrAnd result (λ e. e ≡ why) → Q why → MatchResult result P Q
fails_as (Ok x) P Q why is h = absurd is
fails_as (Err e) P Q why is h = subst Q (sym is) h
