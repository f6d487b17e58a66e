-- What a source gives, and what is put of it.
use Rattle.std.proofs.Common.{
  ◌≡◌,
  ◌⊎◌,
  inl,
  inr,
  ℕ,
  ◌≤◌,
  ◌+◌,
  ◌-◌,
  ◌^◌,
  min,
  arith,
  List,
  [],
  ◌∷◌,
  ◌++◌,
  length,
  take,
  drop,
  Option,
  Some,
  None,
  Result,
  Ok,
  Err,
  refl,
  ap,
  sym,
  ◌∙◌,
  subst,
  append_assoc,
}
use Rattle.std.specs.List.{concat}
use Rattle.std.proofs.Math.Seq.{take-length, take-append_seam, drop-append_seam}
use Rattle.std.proofs.lemmas.List.{append-nil, length-append, length-take-le, take-append-drop}
use Rattle.std.proofs.lemmas.List.Folds.{concat-append}
use Rattle.ssh_wire.specs.declared.channel_id.ChannelId.{ChannelId}
use Rattle.ssh_link.specs.Io.{Takes, AtEnd}
use Rattle.ssh_hub.specs.declared.answers.HandleError.{HandleError}
use Rattle.ssh_hub.specs.declared.answers.HandleError.TheVariants.{ReadFault}
use Rattle.ssh_hub.specs.declared.history.View.{View}
use Rattle.ssh_handles.specs.Writing.{Writes}
use Rattle.ssh_handles.specs.Sending.{counted, IsReadOff, PutsAll, Sends}

-- the front of what was left, with what is left behind it
front_taken : (bytes front rest : List ℕ) → bytes ≡ front ++ rest
    → Takes (Some bytes) (Some rest) (length front) front
front_taken bytes front rest is =
    let size : length bytes ≡ length front + length rest =
    ap length is ∙ length-append front rest in (
      ap Some (sym (ap (drop (length front)) is ∙ drop-append_seam front rest)),
      omega arith,
      take-length front ∙ sym (ap (take (length front)) is ∙ take-append_seam front rest),
    )

read_none : (left : Option (List ℕ)) → IsReadOff left left []
read_none None = refl
read_none (Some bytes) = front_taken bytes [] bytes refl

-- one piece more
read_more : (a b c : Option (List ℕ)) (read : List ℕ) (n : ℕ) (buf : List ℕ) → IsReadOff a b read
    → Takes b c n buf → IsReadOff a c (read ++ take n buf)
read_more None b c read n buf h k = subst (λ (o : Option (List ℕ)). Takes o c n buf) h k
read_more (Some bytes) b c read n buf h k =
    let rest : List ℕ = drop (length read) bytes in
    let more : Takes (Some rest) c n buf =
    subst (λ (o : Option (List ℕ)). Takes o c n buf) h.0 k in
    let front : read ≡ take (length read) bytes = sym (take-length read) ∙ h.2 in
    let first : bytes ≡ read ++ rest = sym (take-append-drop (length read) bytes)
    ∙ ap (λ (l : List ℕ). l ++ rest) (sym front) in
    let next : rest ≡ take n buf ++ drop n rest = sym (take-append-drop n rest)
    ∙ ap (λ (l : List ℕ). l ++ drop n rest) (sym more.2) in
    let whole : bytes ≡ (read ++ take n buf) ++ drop n rest =
    first ∙ (ap (λ (l : List ℕ). read ++ l) next ∙ sym (append_assoc read (take n buf) (drop n rest)))
    in
    subst (λ (o : Option (List ℕ)). IsReadOff (Some bytes) o (read ++ take n buf)) (sym more.0)
    (front_taken bytes (read ++ take n buf) (drop n rest) whole)

-- a read of no byte leaves what was left
none_taken : (b c : Option (List ℕ)) (buf : List ℕ) → Takes b c 0 buf → c ≡ b
none_taken None c buf k = k
none_taken (Some bytes) c buf k = k.0

stays : (b c : Option (List ℕ)) (n : ℕ) (buf : List ℕ) → Takes b c n buf → n ≡ 0 → c ≡ b
stays b c n buf k none = none_taken b c buf (subst (λ (m : ℕ). Takes b c m buf) none k)

joined : (pieces : List (List ℕ)) (piece : List ℕ)
    → concat (pieces ++ piece ∷ []) ≡ concat pieces ++ piece
joined pieces piece = concat-append pieces (piece ∷ [])
    ∙ ap (λ (l : List ℕ). concat pieces ++ l) (append-nil piece)

module _ (c : ChannelId) (ext : Option ℕ) where
  puts_more : (pieces : List (List ℕ)) (v x : View) (piece : List ℕ) (w : View)
      → PutsAll c ext pieces v x → Writes c ext piece x (Ok tt) w
      → PutsAll c ext (pieces ++ piece ∷ []) v w
  puts_more [] v x piece w a b = (
    w,
    subst (λ (u : View). Writes c ext piece u (Ok tt) w) a b,
    refl,
  )
  puts_more (p ∷ ps) v x piece w a b = (a.0, a.1, puts_more ps a.0 x piece w a.2 b)

  -- what was read so far was put, and counted
  abbrev pub SoFar : Option (List ℕ) → Option (List ℕ) → View → ℕ → View → Type 0
  SoFar left left' v count w = (pieces : List (List ℕ))
      × PutsAll c ext pieces v w
      × IsReadOff left left' (concat pieces)
      × (count ≡ counted (length (concat pieces)))

  pub so_far_none : (left : Option (List ℕ)) (v : View) → SoFar left left v 0 v
  so_far_none left v = ([], refl, read_none left, omega arith)

  pub so_far_more : (a b d : Option (List ℕ)) (v : View) (count : ℕ) (x : View) (n : ℕ)
      (buf : List ℕ) (count' : ℕ) (w : View) → SoFar a b v count x → Takes b d n buf
      → n ≤ length buf → Writes c ext (take n buf) x (Ok tt) w → count' ≡ counted (count + n)
      → SoFar a d v count' w
  so_far_more a b d v count x n buf count' w s k le wrote is =
      let one : concat (s.0 ++ take n buf ∷ []) ≡ concat s.0 ++ take n buf =
      joined s.0 (take n buf) in
      let size : length (concat (s.0 ++ take n buf ∷ [])) ≡ length (concat s.0) + n =
      ap length one ∙ (length-append (concat s.0) (take n buf)
      ∙ ap (λ (m : ℕ). length (concat s.0) + m) (length-take-le n buf le)) in
      let before : count ≡ min (length (concat s.0)) (2 ^ 64 - 1) = s.3 in
      let now : count' ≡ min (count + n) (2 ^ 64 - 1) = is in (
        s.0 ++ take n buf ∷ [],
        puts_more s.0 v x (take n buf) w s.1 wrote,
        subst (λ (l : List ℕ). IsReadOff a d l) (sym one) (read_more a b d (concat s.0) n buf s.2 k),
        omega arith,
      )

  pub sent_to_end : (a b d : Option (List ℕ)) (v : View) (count : ℕ) (x : View) (n : ℕ)
      (buf : List ℕ) → SoFar a b v count x → Takes b d n buf → n ≡ 0 → AtEnd b
      → Sends c ext a d v (Ok count) x
  sent_to_end a b d v count x n buf s k none end =
      let same : b ≡ d = sym (stays b d n buf k none) in (
        s.0,
        s.1,
        subst (λ (o : Option (List ℕ)). IsReadOff a o (concat s.0)) same s.2,
        subst AtEnd same end,
        s.3,
      )

  -- the source failed
  pub fault_told : (a b d : Option (List ℕ)) (v : View) (count : ℕ) (x : View)
      → SoFar a b v count x → d ≡ b → Sends c ext a d v (Err ReadFault) x
  fault_told a b d v count x s same = (
    s.0,
    x,
    s.1,
    inl
        (refl, subst (λ (o : Option (List ℕ)). IsReadOff a o (concat s.0)) (sym same) s.2, refl),
  )

  -- a piece was not put whole
  pub stop_told : (a b d : Option (List ℕ)) (v : View) (count : ℕ) (x : View) (n : ℕ)
      (buf : List ℕ) (e : HandleError) (w : View) → SoFar a b v count x → Takes b d n buf
      → Writes c ext (take n buf) x (Err e) w → Sends c ext a d v (Err e) w
  stop_told a b d v count x n buf e w s k wrote = (
    s.0,
    x,
    s.1,
    inr (take n buf, read_more a b d (concat s.0) n buf s.2 k, wrote),
  )
