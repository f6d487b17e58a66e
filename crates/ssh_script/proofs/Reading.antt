-- Reading and writing piece by piece.
use Rattle.std.proofs.Common.{◌≡◌, ◌≤◌, ◌+◌, ◌-◌, ◌⊎◌, inl, inr, ℕ, List, [], ◌++◌, length, take}
use Rattle.std.proofs.Common.{drop, Option, Some, None, arith, refl, sym, ◌∙◌, ap, append_assoc}
use Rattle.std.proofs.Common.{subst}
use Rattle.std.proofs.Math.Seq.{take-append_seam, drop-append_seam, drop-append-add}
use Rattle.std.proofs.lemmas.List.{take-append-drop, append-nil, take_all, drop_all}
use Rattle.ssh_link.specs.Told.{Adds}
use Rattle.ssh_link.specs.Io.{Takes, AtEnd}
use Rattle.ssh_script.specs.Transfer.{left_behind, IsFront, IsReadTo, IsReadWithin, IsRead}
use Rattle.ssh_script.specs.Transfer.{IsReadOn, AddsPart, IsWritten}

pub read_start : (left : Option (List ℕ)) → IsRead left left []
read_start None = refl
read_start (Some bytes) = (bytes, refl, refl)

taken : (a b : Option (List ℕ)) (n : ℕ) (buffer : List ℕ) → Takes a b n buffer
    → IsRead a b (take n buffer)
taken None b n buffer h = h
taken (Some bytes) b n buffer h = (
  drop n bytes,
  h.0,
  ap (λ x. x ++ drop n bytes) h.2
      ∙ take-append-drop n bytes,
)

-- one read
pub read_one : (a b : Option (List ℕ)) (n : ℕ) (buffer text text' : List ℕ) → Takes a b n buffer
    → text' ≡ text ++ take n buffer → IsReadOn a b text text'
read_one a b n buffer text text' h e = (take n buffer, e, taken a b n buffer h)

-- and one more
pub read_more : (a b c : Option (List ℕ)) (read more : List ℕ) → IsRead a b read
    → IsReadOn b c read more → IsRead a c more
read_more None b c read more h k = subst (λ o. IsRead o c k.0) h k.2
read_more (Some bytes) b c read more h k =
    let t = subst (λ o. IsRead o c k.0) h.1 k.2 in (
      t.0,
      t.1,
      ap (λ m. m ++ t.0) k.1
          ∙ (append_assoc read k.0 t.0 ∙ (ap (λ x. read ++ x) t.2 ∙ h.2)),
    )

pub still_at_end : (a b : Option (List ℕ)) (n : ℕ) (buffer : List ℕ) → Takes a b n buffer → AtEnd a
    → AtEnd b
still_at_end None b n buffer h e = let z : None ≡ b = sym h in subst AtEnd z tt
still_at_end (Some bytes) b n buffer h e =
    let f : b ≡ Some [] = h.0 ∙ ap (λ x. Some (drop n x)) e ∙ ap Some (drop_all n [] (omega arith))
    in
    subst AtEnd (sym f) refl

-- how far was read
pub within_one : (a b : Option (List ℕ)) (n byte : ℕ) (buffer : List ℕ) → Takes a b n buffer
    → n ≤ byte → IsReadWithin byte a b
within_one None b n byte buffer h l = (n, l, h)
within_one (Some bytes) b n byte buffer h l = (n, l, h.0)

pub within_none : (a b : Option (List ℕ)) (byte : ℕ) → b ≡ a → IsReadWithin byte a b
within_none None b byte e = (0, omega arith, e)
within_none (Some bytes) b byte e = (0, omega arith, e)

pub within_read : (a b : Option (List ℕ)) (byte : ℕ) (read : List ℕ) → IsRead a b read
    → length read ≤ byte → IsReadWithin byte a b
within_read None b byte read h l = (length read, l, h)
within_read (Some bytes) b byte read h l =
    let e : drop (length read) bytes ≡ h.0 = ap (drop (length read)) (sym h.2)
    ∙ drop-append_seam read h.0 in
    (length read, l, h.1 ∙ ap Some (sym e))

pub within_more : (a b c : Option (List ℕ)) (byte : ℕ) (read : List ℕ) → IsRead a b read
    → length read ≤ byte → IsReadWithin (byte - length read) b c → IsReadWithin byte a c
within_more None b c byte read h l k = (0, omega arith, k.2 ∙ ap (left_behind k.0) h)
within_more (Some bytes) b c byte read h l k =
    let m : k.0 ≤ byte - length read = k.1 in
    let e : drop (length read + k.0) bytes ≡ drop k.0 h.0 = ap (drop (length read + k.0)) (sym h.2)
    ∙ drop-append-add read h.0 k.0 in
    (length read + k.0, omega arith, k.2 ∙ ap (left_behind k.0) h.1 ∙ ap Some (sym e))

-- nothing is left to be read, or as much was read as may be
pub whole : (a b : Option (List ℕ)) (byte : ℕ) (read : List ℕ) → IsRead a b read
    → length read ≤ byte → (AtEnd b ⊎ (byte ≤ length read)) → IsReadTo byte a b
whole None b byte read h l t = h
whole (Some bytes) b byte read h l (inl t) =
    let e : h.0 ≡ [] = subst AtEnd h.1 t in
    let f : bytes ≡ read = sym h.2 ∙ ap (λ r. read ++ r) e ∙ append-nil read in
    let g : drop byte bytes ≡ [] = ap (drop byte) f ∙ drop_all byte read l in
    h.1 ∙ ap Some (e ∙ sym g)
whole (Some bytes) b byte read h l (inr t) =
    let n : byte ≡ length read = omega arith in
    let g : drop byte bytes ≡ h.0 = ap (λ k. drop k bytes) n ∙ ap (drop (length read)) (sym h.2)
    ∙ drop-append_seam read h.0 in
    h.1 ∙ ap Some (sym g)

pub front : (a b : Option (List ℕ)) (byte : ℕ) (read : List ℕ) → IsRead a b read
    → length read ≤ byte → (AtEnd b ⊎ (byte ≤ length read)) → IsFront byte a read
front None b byte read h l t = tt
front (Some bytes) b byte read h l (inl t) =
    let e : h.0 ≡ [] = subst AtEnd h.1 t in
    let f : bytes ≡ read = sym h.2 ∙ ap (λ r. read ++ r) e ∙ append-nil read in
    sym (ap (take byte) f ∙ take_all byte read l)
front (Some bytes) b byte read h l (inr t) =
    let n : byte ≡ length read = omega arith in
    sym (ap (λ k. take k bytes) n ∙ ap (take (length read)) (sym h.2) ∙ take-append_seam read h.0)

adds_more : (a b c : Option (List ℕ)) (xs ys : List ℕ) → Adds a b xs → Adds b c ys
    → Adds a c (xs ++ ys)
adds_more None b c xs ys h k = subst (λ o. Adds o c ys) h k
adds_more (Some old) b c xs ys h k = subst (λ o. Adds o c ys) h k ∙ ap Some (append_assoc old xs ys)

adds_nothing : (a b c : Option (List ℕ)) (xs : List ℕ) → Adds a b xs → Adds b c [] → Adds a c xs
adds_nothing a b c xs h k = let e : xs ++ [] ≡ xs = append-nil xs in
    subst (Adds a c) e (adds_more a b c xs [] h k)

pub adds_start : (a : Option (List ℕ)) → Adds a a []
adds_start None = refl
adds_start (Some old) = ap Some (sym (append-nil old))

pub written_start : (a : Option (List ℕ)) (text : List ℕ) → IsWritten a a text text
written_start a text = ([], refl, adds_start a)

-- one more write
pub written_more : (a b c : Option (List ℕ)) (n : ℕ) (text rest next : List ℕ)
    → IsWritten a b text rest → Adds b c (take n rest) → next ≡ drop n rest
    → IsWritten a c text next
written_more a b c n text rest next h k e =
    let r : take n rest ++ drop n rest ≡ rest = take-append-drop n rest in
    let z : (h.0 ++ take n rest) ++ drop n rest ≡ h.0 ++ (take n rest ++ drop n rest) =
    append_assoc h.0 (take n rest) (drop n rest) in
    let w : IsWritten a c text (drop n rest) = (
      h.0 ++ take n rest,
      h.1 ∙ (ap (λ x. h.0 ++ x) (sym r) ∙ sym z),
      adds_more a b c h.0 (take n rest) h.2 k,
    ) in
    subst (IsWritten a c text) (sym e) w

pub written_whole : (a b : Option (List ℕ)) (text rest : List ℕ) → IsWritten a b text rest → rest
    ≡ [] → Adds a b text
written_whole a b text rest h e =
    let f : h.0 ++ [] ≡ h.0 = append-nil h.0 in
    let g : text ≡ h.0 = h.1 ∙ (ap (λ r. h.0 ++ r) e ∙ f) in
    subst (Adds a b) (sym g) h.2

pub written_part : (a b c : Option (List ℕ)) (text rest : List ℕ) → IsWritten a b text rest
    → Adds b c [] → AddsPart a c text
written_part a b c text rest h k = (h.0, rest, h.1, adds_nothing a b c h.0 h.2 k)
