-- What a line sign says.
use Rattle.std.proofs.Common.{◌≡◌, ◌⊎◌, ℕ, List, Option, Some, None, Result, Ok, Err, IsErrOf, refl}
use Rattle.std.proofs.Common.{sym, ◌∙◌, subst, inl, inr}
use Rattle.ssh_keys.specs.Keys.{IsKey, DecodesKey}
use Rattle.ssh_keys.specs.declared.error.KeyError.{KeyError}
use Rattle.ssh_keys.specs.declared.error.KeyError.TheVariants.{NoMemory}
use Rattle.ssh_keys.specs.declared.public_key.PublicKey.{PublicKey}
use Rattle.ssh_keys.specs.declared.table_verifier.AcceptedSignature.{AcceptedSignature}
use Rattle.ssh_scene.specs.declared.lines.Line.{Line}
use Rattle.ssh_scene.specs.Grammar.{IsHex, IsHexIn, IsKeyHex, IsKeyIn, IsSignature, Of_signature}
use Rattle.ssh_scene.specs.Grammar.{cut, sign_message, sign_algorithm, sign_words, sign_form, Fits}
use Rattle.ssh_scene.proofs.LinesOnce.{hex_once}

-- digits that write no bytes write no key
pub no_digits : (digits : List ℕ) (read : Option (List ℕ)) → IsHexIn digits read → read ≡ None
    → (public : PublicKey) → IsKeyHex digits public → ⊥
no_digits digits read h is public k = subst (IsHexIn digits) is h k.0 k.1

-- bytes that are read as no key write none
pub no_key : (digits bytes blob : List ℕ) (result : Result PublicKey KeyError) (why : KeyError)
    → IsHex digits bytes → blob ≡ bytes → result ≡ Err why → (why ≡ NoMemory → ⊥) →
    ((answer : Result PublicKey KeyError) → DecodesKey blob answer → (result ≡ answer)
    ⊎ IsErrOf result NoMemory) → (public : PublicKey) → IsKeyHex digits public → ⊥
no_key digits bytes blob result why h same is other exactly public k =
    let e : k.0 ≡ blob = hex_once digits k.0 bytes k.1 h ∙ sym same in
    elim (exactly (Ok public) (subst (IsKey public) e k.2)) [
      | inl right ↦ let z = sym is ∙ right in cc
      | inr memory ↦ other (let z = sym is ∙ memory in cc)
    ]

-- where one of the words writes nothing, no signature is written
pub without_key : (key algorithm message signature : List ℕ) (read : Option PublicKey)
    → IsKeyIn key read → read ≡ None → (accepted : AcceptedSignature) →
    IsSignature key algorithm message signature accepted → ⊥
without_key key algorithm message signature read h is accepted k = subst (IsKeyIn key) is h
    accepted.key k.0

pub without_message : (key algorithm message signature : List ℕ) (read : Option (List ℕ))
    → IsHexIn message read → read ≡ None → (accepted : AcceptedSignature) →
    IsSignature key algorithm message signature accepted → ⊥
without_message key algorithm message signature read h is accepted k = subst (IsHexIn message) is h
    accepted.message k.2

pub without_signature : (key algorithm message signature : List ℕ) (read : Option (List ℕ))
    → IsHexIn signature read → read ≡ None → (accepted : AcceptedSignature) →
    IsSignature key algorithm message signature accepted → ⊥
without_signature key algorithm message signature read h is accepted k = subst (IsHexIn signature)
    is h accepted.signature k.3

-- the words of a line sign, cut off one after another
pub four_words : (rest key more algorithm later message signature : List ℕ) (said : Option Line)
    → cut rest ≡ Some (key, more) → cut more ≡ Some (algorithm, later) →
    cut later ≡ Some (message, signature) → Fits (Of_signature key algorithm message signature) said
    → Fits (sign_form rest) said
four_words rest key more algorithm later message signature said a b c h =
    subst (λ x. Fits (sign_words x) said) (sym a) (subst (λ x. Fits (sign_algorithm key x) said)
    (sym b) (subst (λ x. Fits (sign_message key algorithm x) said) (sym c) h))

pub three_words : (rest key more algorithm later : List ℕ) → cut rest ≡ Some (key, more) → cut more
    ≡ Some (algorithm, later) → cut later ≡ None → Fits (sign_form rest) None
three_words rest key more algorithm later a b c =
    subst (λ x. Fits (sign_words x) None) (sym a) (subst (λ x. Fits (sign_algorithm key x) None)
    (sym b) (subst (λ x. Fits (sign_message key algorithm x) None) (sym c) refl))
