-- What a reader read is what the bytes say.
use Rattle.std.proofs.Common.{◌≡◌, ℕ, suc, ◌+◌, ◌-◌, ◌<◌, ◌≤◌, inl, inr, List, [], ◌∷◌, ◌++◌}
use Rattle.std.proofs.Common.{length}
use Rattle.std.proofs.Common.{sym, ap, refl, ◌∙◌, length-append, arith, take, drop, Option, Some}
use Rattle.std.proofs.Common.{None}
use Rattle.std.proofs.Common.{Bool, true, false}
use Rattle.std.specs.Prelude.{◌&&◌, nat_le, if◌then◌else◌, option_map}
use Rattle.std.specs.Option.{option_and_then}
use Rattle.std.proofs.lemmas.Nat.{from_be_bytes-to_be_bytes_4, from_be_bytes-to_be_bytes_8}
use Rattle.std.proofs.Math.Seq.{take-append_seam, drop-append_seam}
use Rattle.std.specs.Int.{w64, to_be_bytes, from_be_bytes}
use Rattle.ssh_wire.specs.Field.{Field, Number, Long, Bytes, Value, Values, number, string}
use Rattle.ssh_wire.specs.Field.{Misfits, IsCutShort}
use Rattle.ssh_wire.specs.Reading.{Reading, Reads}
use Rattle.ssh_wire.specs.declared.error.WireError.{WireError}
use Rattle.ssh_wire.specs.declared.error.WireError.TheVariants as error
use Rattle.ssh_wire.proofs.Numbers.{string_size, string_length}
use Rattle.ssh_sftp_core.specs.Layouts.{said, first_of, decoded, past, past_pairs}

-- ---- the first field

-- a piece and what follows it, where there is one
abbrev cut : Bool → (piece after : List ℕ) → Option (List ℕ × List ℕ)
cut is_there piece after = if is_there then Some (piece, after) else None

string_first : (n : ℕ) (text after : List ℕ) → n ≡ length text
    → cut (nat_le 4 (length (string text ++ after)) && nat_le (4 + n) (length (string text ++
    after)))
    (take n (drop 4 (string text ++ after))) (drop (4 + n) (string text ++ after))
    ≡ Some (text, after)
string_first n text after is =
    let size : length (string text ++ after) ≡ 4 + length text + length after =
    length-append (string text) after ∙ ap (λ z. z + length after) (string_size text) in
    let test : (nat_le 4 (length (string text ++ after))
    && nat_le (4 + n) (length (string text ++ after))) ≡ true = grind (arith, size, is) in
    let head : take n (text ++ after) ≡ text =
    ap (λ z. take z (text ++ after)) is ∙ take-append_seam text after in
    let whole : 4 + n ≡ length (string text) = ap (λ z. 4 + z) is ∙ sym (string_size text) in
    let tail : drop (4 + n) (string text ++ after) ≡ after =
    ap (λ z. drop z (string text ++ after)) whole ∙ drop-append_seam (string text) after in
    ap (λ t. cut t (take n (text ++ after)) (drop (4 + n) (string text ++ after))) test
    ∙ ap (λ z. cut true z (drop (4 + n) (string text ++ after))) head
    ∙ ap (cut true text) tail

pub first_bytes : (old new : Reading) (text : List ℕ) → Reads Bytes old new text
    → first_of Bytes old.left ≡ Some (text, new.left)
first_bytes old new text read =
    let is : old.left ≡ string text ++ new.left = read.2.0 ∙ ap (λ z. z ++ new.left) read.1.1 in
    ap (first_of Bytes) is ∙ string_first (said (string text ++ new.left)) text new.left
    (string_length text new.left read.1.0)

-- a number and what follows it, where there is one
abbrev counted : Bool → (after : List ℕ) → ℕ → Option (ℕ × List ℕ)
counted is_there after n = if is_there then Some (n, after) else None

pub first_number : (old new : Reading) (n : ℕ) → Reads Number old new n
    → first_of Number old.left ≡ Some (n, new.left)
first_number old new n read =
    let is : old.left ≡ number n ++ new.left = read.2.0 ∙ ap (λ z. z ++ new.left) read.1.1 in
    let enough : nat_le 4 (length (number n ++ new.left)) ≡ true =
    grind (arith, length-append (number n) new.left) in
    ap (first_of Number) is
    ∙ ap (λ t. counted t new.left (said (number n ++ new.left))) enough
    ∙ ap (counted true new.left) (from_be_bytes-to_be_bytes_4 n read.1.0)

pub first_long : (old new : Reading) (n : ℕ) → Reads Long old new n
    → first_of Long old.left ≡ Some (n, new.left)
first_long old new n read =
    let is : old.left ≡ to_be_bytes w64 n ++ new.left =
    read.2.0 ∙ ap (λ z. z ++ new.left) read.1.1 in
    let enough : nat_le 8 (length (to_be_bytes w64 n ++ new.left)) ≡ true =
    grind (arith, length-append (to_be_bytes w64 n) new.left) in
    ap (first_of Long) is
    ∙ ap (λ t. counted t new.left (from_be_bytes w64 (take 8 (to_be_bytes w64 n ++ new.left))))
    enough
    ∙ ap (counted true new.left) (from_be_bytes-to_be_bytes_8 n read.1.0)

is_cut : (bytes : List ℕ) → IsCutShort bytes
    → (nat_le 4 (length bytes) && nat_le (4 + said bytes) (length bytes)) ≡ false
is_cut bytes (inl few) = grind (arith, few)
is_cut bytes (inr less) = grind (arith, less)

no_bytes : (bytes : List ℕ) → IsCutShort bytes → first_of Bytes bytes ≡ None
no_bytes bytes short =
    ap (λ t. cut t (take (said bytes) (drop 4 bytes)) (drop (4 + said bytes) bytes)) (is_cut bytes
    short)

-- bytes that no string fits have none in front
pub none_first : (bytes : List ℕ) (why : WireError) → Misfits Bytes bytes why
    → first_of Bytes bytes ≡ None
none_first bytes error.Short short = no_bytes bytes short
none_first bytes _ never = absurd never

-- ---- fields one after another

decoded_more : (f : Field) (fields : List Field) (a b : List ℕ) (x : Value f)
    → first_of f a ≡ Some (x, b)
    → decoded (f ∷ fields) a ≡ option_map (λ (values : Values fields). (x, values)) (decoded fields
    b)
decoded_more f fields a b x is = ap (λ (o : Option (Value f × List ℕ)). elim o [
  | None ↦ None
  | Some found ↦ option_map (λ values. (found.0, values)) (decoded fields found.1)
]) is

-- three fields and nothing else
pub decoded_three : (f g h : Field) (a b c d : List ℕ) (x : Value f) (y : Value g) (z : Value h)
    → first_of f a ≡ Some (x, b) → first_of g b ≡ Some (y, c) → first_of h c ≡ Some (z, d) → d ≡ []
    → decoded (f ∷ g ∷ h ∷ []) a ≡ Some (x, (y, (z, tt)))
decoded_three f g h a b c d x y z first second third none =
    decoded_more f (g ∷ h ∷ []) a b x first
    ∙ ap (option_map (λ (values : Values (g ∷ h ∷ [])). (x, values)))
    (decoded_more g (h ∷ []) b c y second
    ∙ ap (option_map (λ (values : Values (h ∷ [])). (y, values)))
    (decoded_more h [] c d z third
    ∙ ap (λ e. option_map (λ (values : Values []). (z, values)) (decoded [] e)) none))

-- ---- pairs of strings, one after another

past_one : (a b : List ℕ) (x : List ℕ) → first_of Bytes a ≡ Some (x, b)
    → past (Bytes ∷ Bytes ∷ []) a ≡ past (Bytes ∷ []) b
past_one a b x is = ap (option_and_then (λ found. past (Bytes ∷ []) found.1)) is

past_two : (a b : List ℕ) (x : List ℕ) → first_of Bytes a ≡ Some (x, b)
    → past (Bytes ∷ []) a ≡ Some b
past_two a b x is = ap (option_and_then (λ found. past [] found.1)) is

one_less : (count i : ℕ) (a : List ℕ) → i < count → past_pairs (count - i) a
    ≡ option_and_then (past_pairs (count - (i + 1))) (past (Bytes ∷ Bytes ∷ []) a)
one_less count i a more =
    let less : count - i ≡ suc (count - (i + 1)) = omega arith in ap (λ n. past_pairs n a) less

pub pair_read : (count i : ℕ) (a b c : Reading) (x y : List ℕ) → i < count → Reads Bytes a b x
    → Reads Bytes b c y → past_pairs (count - i) a.left ≡ past_pairs (count - (i + 1)) c.left
pair_read count i a b c x y more first second =
    one_less count i a.left more
    ∙ ap (option_and_then (past_pairs (count - (i + 1))))
    (past_one a.left b.left x (first_bytes a b x first)
    ∙ past_two b.left c.left y (first_bytes b c y second))

pub no_first : (count i : ℕ) (a : List ℕ) (why : WireError) → i < count → Misfits Bytes a why
    → past_pairs (count - i) a ≡ None
no_first count i a why more misfit =
    one_less count i a more
    ∙ ap (λ o. option_and_then (past_pairs (count - (i + 1)))
    (option_and_then (λ found. past (Bytes ∷ []) found.1) o)) (none_first a why misfit)

pub no_second : (count i : ℕ) (a b : Reading) (x : List ℕ) (why : WireError) → i < count
    → Reads Bytes a b x → Misfits Bytes b.left why → past_pairs (count - i) a.left ≡ None
no_second count i a b x why more first misfit =
    one_less count i a.left more
    ∙ ap (option_and_then (past_pairs (count - (i + 1))))
    (past_one a.left b.left x (first_bytes a b x first)
    ∙ ap (option_and_then (λ found. past [] found.1)) (none_first b.left why misfit))

pub no_pairs_left : (count i : ℕ) (a : List ℕ) → count ≤ i → past_pairs (count - i) a ≡ Some a
no_pairs_left count i a all =
    let none : count - i ≡ 0 = omega arith in ap (λ n. past_pairs n a) none

-- ---- five steps, of which one may fail

abbrev five : (f g h j k : List ℕ → Option (List ℕ)) → List ℕ → Option (List ℕ)
five f g h j k a =
    option_and_then k (option_and_then j (option_and_then h (option_and_then g (f a))))

module _ (f g h j k : List ℕ → Option (List ℕ)) (a b : List ℕ) (first : f a ≡ Some b) where
  pub none_second : g b ≡ None → five f g h j k a ≡ None
  none_second none = rw (first, none) refl

  module _ (c : List ℕ) (second : g b ≡ Some c) where
    pub none_third : h c ≡ None → five f g h j k a ≡ None
    none_third none = rw (first, second, none) refl

    module _ (d : List ℕ) (third : h c ≡ Some d) where
      pub none_fourth : j d ≡ None → five f g h j k a ≡ None
      none_fourth none = rw (first, second, third, none) refl

      pub fifth : (e : List ℕ) → j d ≡ Some e → five f g h j k a ≡ k e
      fifth e fourth = rw (first, second, third, fourth) refl
