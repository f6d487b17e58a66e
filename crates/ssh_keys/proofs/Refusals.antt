-- Refusals that a `?` passes on.
use Rattle.std.proofs.Common.{◌≡◌, ◌⊎◌, ◌↔◌, IsTrue, inl, inr, List, ℕ, [], ◌∷◌, Bool, true, false}
use Rattle.std.proofs.Common.{not, bytes_eq, Result, Ok, Err, IfErr, IsErrAnd, sym, ap, ◌∙◌, subst}
use Rattle.std.proofs.lemmas.Slice.Eq.{bytes_eq-Decides}
use Rattle.ssh_wire.specs.Field.{Field, Text, Misfits, MisfitsAll}
use Rattle.ssh_wire.specs.declared.error.WireError.{WireError}
use Rattle.ssh_wire.specs.declared.error.WireError.TheVariants as wire
use Rattle.ssh_wire.proofs.Fields.{misfits_all_not_spells}
use Rattle.ssh_keys.specs.Errors.{key_error}
use Rattle.ssh_keys.specs.Keys.{LacksFields, FailsType}
use Rattle.ssh_keys.specs.declared.error.KeyError.{KeyError}
use Rattle.ssh_keys.specs.declared.error.KeyError.TheVariants.{Blob, NoMemory}
use Rattle.ssh_keys.specs.declared.key_type.KeyType.{KeyType}

-- fields that do not fit are not there
pub lacking : (fields : List Field) (bytes : List ℕ) (why : WireError) → MisfitsAll fields bytes why
    → LacksFields fields bytes
lacking fields bytes why misfit =
    λ values rest spelled. misfits_all_not_spells fields values bytes rest why misfit spelled

blob_or_memory : (e : KeyError) (why : WireError) (P : Type 0) → e ≡ key_error why → P
    → (e ≡ NoMemory) ⊎ ((e ≡ Blob) × P)
blob_or_memory e wire.Short P is holds = inr (is, holds)
blob_or_memory e wire.NotUtf8 P is holds = inr (is, holds)
blob_or_memory e (wire.Trailing n) P is holds = inr (is, holds)
blob_or_memory e wire.TooLong P is holds = inr (is, holds)
blob_or_memory e wire.NoMemory P is holds = inl is

-- the error of a field is the blob's, or want of memory
pub from_field : {T : Type 0} (r : Result T KeyError) (why : WireError) (P : Type 0)
    → IsErrAnd r (λ e. e ≡ key_error why) → P
    → IfErr r (λ e. (e ≡ NoMemory) ⊎ ((e ≡ Blob) × P))
from_field (Ok x) why P is holds = tt
from_field (Err e) why P is holds = blob_or_memory e why P is holds

-- the error of a call whose layout is a part of this one
pub from_part : {T : Type 0} (r : Result T KeyError) (why : KeyError) (P Q : Type 0)
    → IsErrAnd r (λ e. e ≡ why)
    → (why ≡ NoMemory) ⊎ ((why ≡ Blob) × P) → (P → Q)
    → IfErr r (λ e. (e ≡ NoMemory) ⊎ ((e ≡ Blob) × Q))
from_part (Ok x) why P Q is holds to = tt
from_part (Err e) why P Q is holds to =
    subst (λ x. (x ≡ NoMemory) ⊎ ((x ≡ Blob) × Q)) (sym is) (elim holds [
      | inl memory ↦ inl memory
      | inr blob ↦ inr (blob.0, to blob.1)
    ])

-- a name that does not fit
no_name_for : (names : KeyType → List ℕ) (bytes : List ℕ) (e : KeyError) (why : WireError)
    → e ≡ key_error why → Misfits Text bytes why
    → FailsType names bytes e
no_name_for names bytes e wire.Short is misfit =
    subst (FailsType names bytes) (sym is) (lacking (Text ∷ []) bytes wire.Short (inl misfit))
no_name_for names bytes e wire.NotUtf8 is misfit =
    subst (FailsType names bytes) (sym is) (lacking (Text ∷ []) bytes wire.NotUtf8 (inl misfit))
no_name_for names bytes e (wire.Trailing n) is misfit = absurd misfit
no_name_for names bytes e wire.TooLong is misfit = absurd misfit
no_name_for names bytes e wire.NoMemory is misfit = absurd misfit

pub no_name : {T : Type 0} (r : Result T KeyError) (names : KeyType → List ℕ) (bytes : List ℕ)
    (why : WireError) → IsErrAnd r (λ e. e ≡ key_error why)
    → Misfits Text bytes why → IfErr r (FailsType names bytes)
no_name (Ok x) names bytes why is misfit = tt
no_name (Err e) names bytes why is misfit = no_name_for names bytes e why is misfit

-- two texts that a test finds different
pub differ : (a b c : List ℕ) (r : Bool) → r ≡ not (bytes_eq a b) → r ≡ true → b ≡ c → a ≡ c → ⊥
differ a b c r tests found is same =
    let equal : bytes_eq a b ≡ true = (bytes_eq-Decides a b).1 (same ∙ sym is) in
    let bad : true ≡ false = sym found ∙ tests ∙ ap not equal in
    cc

-- a test that is true exactly where something holds, and is false
pub does_not_hold : {P : Type 0} → (r : Bool) → (IsTrue r ↔ P) → r ≡ false → P → ⊥
does_not_hold r exactly is holds = let bad : true ≡ false = sym (exactly.1 holds) ∙ is in cc
