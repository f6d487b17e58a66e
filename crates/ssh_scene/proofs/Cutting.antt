-- The lines of a text, from its front.
use Rattle.std.proofs.Common.{◌≡◌, ◌≢◌, ◌<◌, ◌≤◌, ◌+◌, ℕ, List, [], ◌∷◌, ◌++◌, length, take, drop}
use Rattle.std.proofs.Common.{get_or, arith, refl, sym, ◌∙◌, ap, subst, false, add-one, drop-cons}
use Rattle.std.specs.Prelude.{◌==◌}
use Rattle.std.proofs.lemmas.Grind.{common_steps}
use Rattle.std.proofs.lemmas.List.{take-append-drop}
use Rattle.std.proofs.Math.Seq.{take-suc}
use Rattle.ssh_scene.specs.Scene.{IsOneLine, lines_of, onto_first}

cut : (xs tail : List ℕ) → IsOneLine xs → lines_of (xs ++ 10 ∷ tail) ≡ xs ∷ lines_of tail
cut [] tail h = refl
cut (b ∷ xs) tail h = let e : (b == 10) ≡ false = h.0 in rw e (ap (onto_first b) (cut xs tail h.1))

whole : (x : ℕ) (xs : List ℕ) → IsOneLine (x ∷ xs) → lines_of (x ∷ xs) ≡ (x ∷ xs) ∷ []
whole x [] h = let e : (x == 10) ≡ false = h.0 in rw e refl
whole x (y ∷ ys) h = let e : (x == 10) ≡ false = h.0 in rw e (ap (onto_first x) (whole y ys h.1))

one_more : (xs : List ℕ) (b : ℕ) → IsOneLine xs → (b == 10) ≡ false → IsOneLine (xs ++ b ∷ [])
one_more [] b h e = (e, tt)
one_more (x ∷ xs) b h e = (h.0, one_more xs b h.1 e)

pub line_cut : (text rest : List ℕ) (i : ℕ) → i < length text → get_or text i 0 ≡ 10
    → IsOneLine (take i text) → rest ≡ drop (i + 1) text →
    lines_of text ≡ take i text ∷ lines_of rest
line_cut text rest i l e h r =
    let t : take i text ++ drop i text ≡ text = take-append-drop i text in
    let d : drop i text ≡ get_or text i 0 ∷ drop (i + 1) text = rw add-one (drop-cons text i 0 l) in
    let z : text ≡ take i text ++ 10 ∷ rest = sym t ∙ ap (λ x. take i text ++ x)
    (d ∙ ap (λ b. b ∷ drop (i + 1) text) e ∙ ap (λ x. 10 ∷ x) (sym r)) in
    ap lines_of z ∙ cut (take i text) rest h

pub line_more : (text : List ℕ) (i : ℕ) → i < length text → (get_or text i 0 == 10) ≡ false
    → IsOneLine (take i text) → IsOneLine (take (i + 1) text)
line_more text i l e h =
    let t : take (i + 1) text ≡ take i text ++ get_or text i 0 ∷ [] =
    rw add-one (take-suc text i 0 l) in
    subst IsOneLine (sym t) (one_more (take i text) (get_or text i 0) h e)

whole_of : (text : List ℕ) → text ≢ [] → IsOneLine text → lines_of text ≡ text ∷ []
whole_of [] n h = absurd (n refl)
whole_of (x ∷ xs) n h = whole x xs h

pub line_whole : (text rest : List ℕ) (i : ℕ) → length text ≤ i → text ≢ []
    → IsOneLine (take i text) → rest ≡ [] → lines_of text ≡ text ∷ lines_of rest
line_whole text rest i l n h r =
    let t : take i text ≡ text = grind (arith, common_steps) in
    whole_of text n (subst IsOneLine t h) ∙ ap (λ x. text ∷ lines_of x) (sym r)
