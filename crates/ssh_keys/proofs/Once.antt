-- Reading a blob has one answer.
use Rattle.std.proofs.Common.{◌≡◌, ◌⊎◌, inl, inr, ℕ, List, Result, Ok, Err, IfOk, IfErr, ap, sym}
use Rattle.std.proofs.Common.{◌∙◌, refl}
use Rattle.ssh_keys.specs.Keys.{type_name, IsKey, FailsType, FailsKey, DecodesKey}
use Rattle.ssh_keys.specs.declared.error.KeyError.{KeyError}
use Rattle.ssh_keys.specs.declared.error.KeyError.TheVariants.{Unknown, Blob, NoMemory}
use Rattle.ssh_keys.specs.declared.key_type.KeyType.{KeyType}
use Rattle.ssh_keys.specs.declared.public_key.PublicKey.{PublicKey}
use Rattle.ssh_keys.proofs.Blobs.{type_is_known, keys_agree, key_never_fails}

pub type_fails_once : (names : KeyType → List ℕ) (blob : List ℕ) (d e : KeyError)
    → FailsType names blob d → FailsType names blob e → d ≡ e
type_fails_once names blob Blob Blob m n = refl
type_fails_once names blob Unknown Unknown m n = refl
type_fails_once names blob Blob Unknown m n = absurd (m (n.0, tt) n.1 n.2)
type_fails_once names blob Unknown Blob m n = absurd (n (m.0, tt) m.1 m.2)
type_fails_once names blob Blob other m n = absurd n
type_fails_once names blob Unknown other m n = absurd n
type_fails_once names blob other e m n = absurd m

pub key_fails_once : (blob : List ℕ) (d e : KeyError) → FailsKey blob d → FailsKey blob e → d ≡ e
key_fails_once blob d e m n =
    elim m [
      | inl a ↦ elim n [
        | inl b ↦ type_fails_once type_name blob d e a b
        | inr b ↦ absurd (type_is_known type_name b.0 blob b.1 d b.2 a)
      ]
      | inr a ↦ elim n [
        | inl b ↦ absurd (type_is_known type_name a.0 blob a.1 e a.2 b)
        | inr b ↦ a.3 ∙ sym b.3
      ]
    ]

pub key_answers_once : (blob : List ℕ) (a b : Result PublicKey KeyError) → DecodesKey blob a
    → DecodesKey blob b → a ≡ b
key_answers_once blob (Ok k) (Ok l) s t = ap Ok (keys_agree l k blob t s)
key_answers_once blob (Ok k) (Err e) s t = absurd (key_never_fails k blob e s t)
key_answers_once blob (Err d) (Ok l) s t = absurd (key_never_fails l blob d t s)
key_answers_once blob (Err d) (Err e) s t = ap Err (key_fails_once blob d e s t)

-- an answer that is right, or want of memory, is the right answer, or want of memory
pub only_key_answer : (blob : List ℕ) (result answer : Result PublicKey KeyError)
    → (IfOk result (λ public. IsKey public blob))
    → IfErr result (λ e. (e ≡ NoMemory) ⊎ FailsKey blob e) → DecodesKey blob answer
    → (result ≡ answer) ⊎ (result ≡ Err NoMemory)
only_key_answer blob (Ok k) answer s fails t = inl (key_answers_once blob (Ok k) answer s t)
only_key_answer blob (Err e) answer s fails t =
    elim fails [
      | inl memory ↦ inr (ap Err memory)
      | inr why ↦ inl (key_answers_once blob (Err e) answer why t)
    ]
