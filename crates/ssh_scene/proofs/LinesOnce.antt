-- A line says one thing, and so does a script.
use Rattle.std.proofs.Common.{◌≡◌, ◌+◌, ℕ, arith, List, [], ◌∷◌, Bool, true, false, Option, Some}
use Rattle.std.proofs.Common.{None, Result, Ok, Err, refl, sym, ◌∙◌, ap, subst, inl, inr}
use Rattle.std.specs.Prelude.{codes, MatchOption}
use Rattle.std.proofs.lemmas.Fmt.{decimal_injective}
use Rattle.hex.specs.Hex.{decode_of}
use Rattle.hex.proofs.HexLemmas.{decode_of-same}
use Rattle.ssh_keys.specs.Keys.{IsKey}
use Rattle.ssh_keys.specs.declared.public_key.PublicKey.{PublicKey}
use Rattle.ssh_keys.specs.declared.table_verifier.AcceptedSignature.{AcceptedSignature}
use Rattle.ssh_keys.proofs.Blobs.{keys_agree}
use Rattle.ssh_keys.proofs.Offered.{algorithm_once}
use Rattle.ssh_scene.specs.declared.lines.Line.{Line}
use Rattle.ssh_scene.specs.declared.lines.Line.TheVariants as line
use Rattle.ssh_scene.specs.declared.lines.Setting.TheVariants as setting
use Rattle.ssh_scene.specs.Grammar.{IsNumber, IsSmall, IsHex, IsKeyHex, IsSignature, Form, No_form}
use Rattle.ssh_scene.specs.Grammar.{Whole, Of_number, Of_bytes, Of_text, Of_small, Of_signature}
use Rattle.ssh_scene.specs.Grammar.{Fits, is_passed, ReadsWords, form_of, Reads}
use Rattle.ssh_scene.specs.Scene.{Taking, GivesBy}

number_once : (digits : List ℕ) (m n : ℕ) → IsNumber digits m → IsNumber digits n → m ≡ n
number_once digits m n h k = decimal_injective m n h.0 k.0 (sym h.1 ∙ k.1)

pub small_once : (digits : List ℕ) (m n : ℕ) → IsSmall digits m → IsSmall digits n → m ≡ n
small_once digits m n h k = decimal_injective m n (omega (arith, h.0)) (omega (arith, k.0))
    (sym h.1 ∙ k.1)

no_dash : (bytes : List ℕ) → decode_of (codes "-") ≡ Ok bytes → ⊥
no_dash bytes e = cc

pub hex_once : (digits a b : List ℕ) → IsHex digits a → IsHex digits b → a ≡ b
hex_once digits a b (inl h) (inl k) = h.1 ∙ sym k.1
hex_once digits a b (inl h) (inr k) = absurd (no_dash b (ap decode_of (sym h.0) ∙ k.1))
hex_once digits a b (inr h) (inl k) = absurd (no_dash a (ap decode_of (sym k.0) ∙ h.1))
hex_once digits a b (inr h) (inr k) = decode_of-same digits a b h.1 k.1

key_once : (digits : List ℕ) (k l : PublicKey) → IsKeyHex digits k → IsKeyHex digits l → k ≡ l
key_once digits k l h i =
    let e : h.0 ≡ i.0 = hex_once digits h.0 i.0 h.1 i.1 in
    keys_agree l k h.0 (subst (IsKey l) (sym e) i.2) h.2

signature_once : (key algorithm message signature : List ℕ) (a b : AcceptedSignature)
    → IsSignature key algorithm message signature a → IsSignature key algorithm message signature b
    → a ≡ b
signature_once key algorithm message signature a b h k =
    let e = key_once key a.key b.key h.0 k.0 in
    let f = algorithm_once a.algorithm b.algorithm algorithm h.1 k.1 in
    let g = hex_once message a.message b.message h.2 k.2 in
    let i = hex_once signature a.signature b.signature h.3 k.3 in
    λ n. record { key = e n; algorithm = f n; message = g n; signature = i n }

fits_once : (form : Form) (a b : Option Line) → Fits form a → Fits form b → a ≡ b
fits_once No_form a b h k = h ∙ sym k
fits_once (Whole says) a b h k = h ∙ sym k
fits_once (Of_number says digits) None None h k = refl
fits_once (Of_number says digits) None (Some b) h k = absurd (h k.0 k.1)
fits_once (Of_number says digits) (Some a) None h k = absurd (k h.0 h.1)
fits_once (Of_number says digits) (Some a) (Some b) h k =
    ap Some (h.2 ∙ (ap says (number_once digits h.0 k.0 h.1 k.1) ∙ sym k.2))
fits_once (Of_bytes says digits) None None h k = refl
fits_once (Of_bytes says digits) None (Some b) h k = absurd (h k.0 k.1)
fits_once (Of_bytes says digits) (Some a) None h k = absurd (k h.0 h.1)
fits_once (Of_bytes says digits) (Some a) (Some b) h k =
    ap Some (h.2 ∙ (ap says (hex_once digits h.0 k.0 h.1 k.1) ∙ sym k.2))
fits_once (Of_text next digits) a b (inl h) (inl k) =
    fits_once (next h.0) a b h.2 (subst (λ text. Fits (next text) b)
    (sym (hex_once digits h.0 k.0 h.1.0 k.1.0)) k.2)
fits_once (Of_text next digits) a b (inl h) (inr k) = absurd (k.0 h.0 h.1)
fits_once (Of_text next digits) a b (inr h) (inl k) = absurd (h.0 k.0 k.1)
fits_once (Of_text next digits) a b (inr h) (inr k) = h.1 ∙ sym k.1
fits_once (Of_signature key algorithm message signature) None None h k = refl
fits_once (Of_signature key algorithm message signature) None (Some b) h k = absurd (h k.0 k.1)
fits_once (Of_signature key algorithm message signature) (Some a) None h k = absurd (k h.0 h.1)
fits_once (Of_signature key algorithm message signature) (Some a) (Some b) h k =
    ap Some (h.2 ∙ (ap (λ one. line.Setting (setting.Sign one))
    (signature_once key algorithm message signature h.0 k.0 h.1 k.1) ∙ sym k.2))
fits_once (Of_small next digits) a b (inl h) (inl k) =
    fits_once (next h.0) a b h.2 (subst (λ n. Fits (next n) b)
    (sym (small_once digits h.0 k.0 h.1 k.1)) k.2)
fits_once (Of_small next digits) a b (inl h) (inr k) = absurd (k.0 h.0 h.1)
fits_once (Of_small next digits) a b (inr h) (inl k) = absurd (h.0 k.0 k.1)
fits_once (Of_small next digits) a b (inr h) (inr k) = h.1 ∙ sym k.1

words_once : (passed : Bool) (text : List ℕ) (a b : Option Line) → ReadsWords passed text a
    → ReadsWords passed text b → a ≡ b
words_once true text a b h k = h ∙ sym k
words_once false text a b (inl h) (inl k) = fits_once (form_of text) a b h.1 k.1
words_once false text a b (inl h) (inr k) = absurd (k.0 h.0)
words_once false text a b (inr h) (inl k) = absurd (h.0 k.0)
words_once false text a b (inr h) (inr k) = h.1 ∙ sym k.1

pub reads_once : (text : List ℕ) (a b : Option Line) → Reads text a → Reads text b → a ≡ b
reads_once text a b h k = words_once (is_passed text) text a b h k

module _ {S : Type 0} (takes : Taking S) where
  next_once : (done : ℕ) (next : Option S) (lines : List (List ℕ)) (r s : Result S ℕ) →
      ((so_far : S) (r s : Result S ℕ) → GivesBy takes (done + 1) so_far lines r
      → GivesBy takes (done + 1) so_far lines s → r ≡ s) →
      MatchOption next (r ≡ Err (done + 1)) (λ next. GivesBy takes (done + 1) next lines r)
      → MatchOption next (s ≡ Err (done + 1)) (λ next. GivesBy takes (done + 1) next lines s)
      → r ≡ s
  next_once done None lines r s later h k = h ∙ sym k
  next_once done (Some next) lines r s later h k = later next r s h k

  -- the lines give one thing, or have one first bad line
  pub gives_once : (done : ℕ) (so_far : S) (lines : List (List ℕ)) (r s : Result S ℕ)
      → GivesBy takes done so_far lines r → GivesBy takes done so_far lines s → r ≡ s
  gives_once done so_far [] r s h k = h ∙ sym k
  gives_once done so_far (text ∷ lines) r s h k =
      let e : h.0 ≡ k.0 = reads_once text h.0 k.0 h.1 k.1 in
      next_once done (takes so_far h.0) lines r s
      (λ next r s. gives_once (done + 1) next lines r s) h.2
      (subst (λ said. MatchOption (takes so_far said) (s ≡ Err (done + 1))
      (λ next. GivesBy takes (done + 1) next lines s)) (sym e) k.2)
