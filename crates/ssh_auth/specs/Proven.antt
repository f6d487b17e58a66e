-- What stands behind the calls that let a user in by a key or a certificate.
use Rattle.std.specs.Prelude.{◌≡◌, ℕ, List, ◌++◌, All, true, codes, Option, Some}
use Rattle.ssh_wire.specs.Field.{SpellsAll}
use Rattle.ssh_keys.specs.declared.algorithm.HashAlg.{HashAlg}
use Rattle.ssh_keys.specs.declared.key_or_certificate.PublicKeyOrCertificate.TheVariants.{
  PublicKey
      as Plain,
}
use Rattle.ssh_keys.specs.declared.key_or_certificate.PublicKeyOrCertificate.TheVariants.{Certificate}
use Rattle.ssh_keys.specs.declared.signature.Signature.{Signature}
use Rattle.ssh_keys.specs.Algorithms.{algorithm_name}
use Rattle.ssh_keys.specs.Offers.{offered_key}
use Rattle.ssh_keys.specs.Signatures.{EndsInSignature}
use Rattle.ssh_auth.specs.declared.call.Call.{Call}
use Rattle.ssh_auth.specs.declared.question.Admission.TheVariants as by
use Rattle.ssh_auth.specs.declared.question.Question.TheVariants.{Admits}
use Rattle.ssh_auth.specs.declared.question.Question.{Question}
use Rattle.ssh_auth.specs.Plan.{Answer, Plan, Finish, Ask, Tell}
use Rattle.ssh_auth.specs.Publickey.{Circumstances, Offer, Offers, question}
use Rattle.ssh_auth.specs.Requested.{head_fields}
use Rattle.ssh_auth.specs.Was.{asked_of}

-- the request is this user's, by this offer, which can be used, and it ends in a signature that the
-- verifier accepts: of the offered key, by the algorithm that the request names, of the session id
-- and all of the request before it
abbrev pub IsSignedBy : Circumstances → (fields user : List ℕ) → Offer → Type 0
IsSignedBy given fields user offer =
    (method rest unsigned : List ℕ) × (signature : Signature)
    × SpellsAll head_fields (user, (codes "ssh-connection", (codes "publickey", tt))) fields method
    × Offers given true offer method rest
    × EndsInSignature signature rest
    × (signature.name ≡ algorithm_name offer.algorithm)
    × (fields ≡ unsigned ++ rest)
    × given.accepts (offered_key offer.key) offer.algorithm (question given.session_id unsigned)
    signature.blob

-- a question by which a key or a certificate may let a user in is about one that has signed the
-- request so
abbrev pub IsProven : Circumstances → List ℕ → Question → Type 0
IsProven given fields (Admits (by.Publickey user key algorithm)) =
    (offer : Offer) × (hash : Option HashAlg) × (offer.key ≡ Plain key hash)
    × (offer.algorithm ≡ algorithm) × IsSignedBy given fields user offer
IsProven given fields (Admits (by.OpensshCertificate user certificate)) =
    (offer : Offer) × (offer.key ≡ Certificate certificate) × IsSignedBy given fields user offer
IsProven given fields question = Unit {0}

-- whatever is answered, a plan asks only such questions
abbrev pub AsksOnly : {O : Type 0} → (Question → Type 0) → Plan O → Type 0
AsksOnly P (Finish outcome) = Unit {0}
AsksOnly P (Ask question next) = P question
    × ((answer : Answer question) → AsksOnly P (next answer))
AsksOnly P (Tell entry next) = AsksOnly P next

-- a call by which a key or a certificate may let a user in is about one that has signed the request
-- so, whatever it was answered
abbrev pub IsProvenCall : {E : Type 0} → Circumstances → (fields : List ℕ) → Call E → Type 0
IsProvenCall given fields call = IsProven given fields (asked_of call)

-- the question is one of a round of keyboard-interactive
abbrev pub IsPrompt : Question → Type 0
IsPrompt (Admits (by.KeyboardInteractive user submethods response)) = Unit {0}
IsPrompt question = ⊥

-- the call asks in a round of keyboard-interactive
abbrev pub IsPromptCall : {E : Type 0} → Call E → Type 0
IsPromptCall call = IsPrompt (asked_of call)

-- of each that is told now and was not before, this holds
abbrev pub AllAdded : {A : Type 0} → (A → Type 0) → Option (List A) → Option (List A) → Type 0
AllAdded {A} holds told told' = (before more : List A) → told ≡ Some before → told'
    ≡ Some (before ++ more) → All holds more
