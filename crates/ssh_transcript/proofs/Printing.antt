-- A text that is written piece by piece.
use Rattle.std.proofs.Common.{◌≡◌, ℕ, List, [], ◌++◌, Result, Ok, Err, sym, ◌∙◌, ap, append_assoc}
use Rattle.std.specs.Prelude.{OnOk, is_ok, if◌then◌else◌}

pub two_pieces : {T E : Type 0} (result : Result T E) (t0 t1 t2 a b : List ℕ) → t1 ≡ t0 ++ a
    → OnOk result (t2 ≡ t1 ++ b) → OnOk result (t2 ≡ t0 ++ (a ++ b))
two_pieces (Ok done) t0 t1 t2 a b e h = h ∙ (ap (λ t. t ++ b) e ∙ append_assoc t0 a b)
two_pieces (Err error) t0 t1 t2 a b e h = tt

-- the same of a last piece that is two
pub split_pieces : {T E : Type 0} (result : Result T E) (t0 t1 t2 a b c : List ℕ) →
    t1 ≡ t0 ++ a → OnOk result (t2 ≡ t1 ++ (b ++ c)) → OnOk result (t2 ≡ t0 ++ ((a ++ b) ++ c))
split_pieces (Ok done) t0 t1 t2 a b c e h =
    h ∙ (ap (λ t. t ++ (b ++ c)) e ∙ (append_assoc t0 a (b ++ c)
    ∙ ap (λ t. t0 ++ t) (sym (append_assoc a b c))))
split_pieces (Err error) t0 t1 t2 a b c e h = tt

pub four_pieces : {T E : Type 0} (result : Result T E) (t0 t1 t2 t3 t4 a b c d : List ℕ) → t1 ≡ t0
    ++ a → t2 ≡ t1 ++ b → t3 ≡ t2 ++ c → t4 ≡ (if is_ok result then t3 ++ d else t3) →
    OnOk result (t4 ≡ t0 ++ (((a ++ b) ++ c) ++ d))
four_pieces (Ok done) t0 t1 t2 t3 t4 a b c d e f g h =
    let two : t2 ≡ t0 ++ (a ++ b) = f ∙ (ap (λ t. t ++ b) e ∙ append_assoc t0 a b) in
    let three : t3 ≡ t0 ++ ((a ++ b) ++ c) = g ∙ (ap (λ t. t ++ c) two ∙ append_assoc t0 (a ++ b) c)
    in
    h ∙ (ap (λ t. t ++ d) three ∙ append_assoc t0 ((a ++ b) ++ c) d)
four_pieces (Err error) t0 t1 t2 t3 t4 a b c d e f g h = tt

-- a text of three pieces that was begun empty
pub text_of : (t0 t1 t2 t3 a b c : List ℕ) → t0 ≡ [] → t1 ≡ t0 ++ a → t2 ≡ t1 ++ b → t3 ≡ t2 ++ c
    → t3 ≡ a ++ b ++ c
text_of t0 t1 t2 t3 a b c e f g h = h
    ∙ ap (λ x. x ++ c) (g ∙ ap (λ x. x ++ b) (f ∙ ap (λ x. x ++ a) e))
