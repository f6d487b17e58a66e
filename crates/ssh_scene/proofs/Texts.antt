-- What a line says that is a text, and what one says that writes a text.
use Rattle.std.proofs.Common.{◌≡◌, ℕ, List, Option, Some, None, Result, Ok, Err, false, sym, subst}
use Rattle.std.proofs.Common.{inl, IsUtf8, IfOk}
use Rattle.ssh_scene.specs.declared.lines.Line.{Line}
use Rattle.ssh_scene.specs.Grammar.{IsHex, IsHexIn, IsTextHex, cut, word_form, words_form, Fits}
use Rattle.ssh_scene.specs.Grammar.{is_passed, ReadsWords, Reads}
use Rattle.ssh_scene.proofs.LinesOnce.{hex_once}

-- digits that write no bytes write no text
pub no_bytes : (digits : List ℕ) (read : Option (List ℕ)) → IsHexIn digits read → read ≡ None
    → (text : List ℕ) → IsTextHex digits text → ⊥
no_bytes digits read h is text k = subst (IsHexIn digits) is h text k.0

-- nor do those of bytes that are not UTF-8
pub no_text : (digits bytes : List ℕ) → IsHex digits bytes → (IsUtf8 bytes → ⊥) → (text : List ℕ)
    → IsTextHex digits text → ⊥
no_text digits bytes h n text k = n (subst IsUtf8 (hex_once digits text bytes k.0 h) k.1)

-- a line of more than one word is read by the first of them
pub words_read : {E : Type 0} (text word rest : List ℕ) (said : Result (Option Line) E)
    → is_passed text ≡ false → IsUtf8 text → cut text ≡ Some (word, rest) →
    IfOk said (Fits (word_form word rest)) → IfOk said (Reads text)
words_read text word rest (Ok said) passed utf8 parts h =
    subst (λ p. ReadsWords p text said) (sym passed)
    (inl (utf8, subst (λ p. Fits (words_form text p) said) (sym parts) h))
words_read text word rest (Err e) passed utf8 parts h = tt
