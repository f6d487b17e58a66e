-- The calls of who writes.
use Rattle.std.proofs.Common.{
  ◌≡◌,
  ℕ,
  ◌≤◌,
  ◌<◌,
  ◌-◌,
  min,
  arith,
  Bool,
  true,
  false,
  eqb,
  List,
  [],
  ◌∷◌,
  length,
  take,
  drop,
  Option,
  Some,
  None,
  Result,
  Ok,
  Err,
  refl,
  ap,
  sym,
  ◌∙◌,
  subst,
}
use Rattle.std.specs.Prelude.{slice_range}
use Rattle.std.proofs.lemmas.List.{take-take}
use Rattle.ssh_wire.specs.declared.channel_id.ChannelId.{ChannelId}
use Rattle.ssh_link.specs.declared.outcome.Refusal.TheVariants.{UnknownChannel}
use Rattle.ssh_hub.specs.Step.{opening}
use Rattle.ssh_hub.specs.History.{IsLegal}
use Rattle.ssh_hub.specs.declared.answers.HandleError.{HandleError}
use Rattle.ssh_hub.specs.declared.answers.HandleError.TheVariants.{
  Ended,
  Inconsistent,
  NoMemory,
  Refused,
}
use Rattle.ssh_hub.specs.declared.answers.Look.{Look}
use Rattle.ssh_hub.specs.declared.history.HubCall.{HubCall}
use Rattle.ssh_hub.specs.declared.history.HubCall.TheVariants.{
  PutCommand,
  ReserveBytes,
  ReleaseBytes,
  LookAt,
}
use Rattle.ssh_hub.specs.declared.history.HubReply.{HubReply}
use Rattle.ssh_hub.specs.declared.history.HubReply.TheVariants.{Saw, Done}
use Rattle.ssh_hub.specs.declared.history.View.{View}
use Rattle.ssh_hub.specs.Words.{Makes}
use Rattle.ssh_hub.specs.Follow.{Acts}
use Rattle.ssh_hub.proofs.Following.{acts_none, acts_both, acts_to, acts_within}
use Rattle.ssh_handles.specs.DataCommands.{data_command}
use Rattle.ssh_handles.specs.Said.{ticket_said}
use Rattle.ssh_handles.specs.Tries.{
  Tried,
  trying,
  got,
  tries,
  try_asks,
  try_told,
  after_try,
}
use Rattle.ssh_handles.specs.Callers.{IsPut, PutsOrReleases}
use Rattle.ssh_handles.specs.Writing.{
  Writing,
  looking,
  asking,
  putting,
  releasing,
  written,
  stopped,
  writing_asks,
  writing_told,
  packet_if,
  packet_seen,
  begun,
  after_look,
  goes_on,
  after_error,
  after_putting,
  writes,
  to_write,
  stands,
  StopsBy,
  WritesFrom,
  Writes,
  PutsPiece,
}

-- the puts of one piece, as a state of the whole
abbrev piece_state : ℕ → ℕ → List ℕ → Tried (Result ℕ HandleError) → Writing
piece_state p n rest trying = putting p n rest
piece_state p n rest (got (Ok ticket)) = goes_on p (drop n rest)
piece_state p n rest (got (Err e)) = after_error n rest e

module _ (c : ChannelId) (ext : Option ℕ) (p n : ℕ) (rest : List ℕ) where
  piece_asks : (s : Tried (Result ℕ HandleError)) (call : HubCall)
      → try_asks (PutCommand (data_command c ext (take n rest)) n false) s ≡ Some call
      → writing_asks c ext (piece_state p n rest s) ≡ Some call
  piece_asks trying call e = e
  piece_asks (got (Ok k)) call e = absurd (cc e)
  piece_asks (got (Err k)) call e = absurd (cc e)

  piece_after : (o : Option (Result ℕ HandleError)) → after_putting p n rest o
      ≡ piece_state p n rest (after_try o)
  piece_after (Some (Ok k)) = refl
  piece_after (Some (Err e)) = refl
  piece_after None = refl

  piece_told : (s : Tried (Result ℕ HandleError)) (call : HubCall) (reply : HubReply)
      → try_asks (PutCommand (data_command c ext (take n rest)) n false) s ≡ Some call
      → writing_told (piece_state p n rest s) reply
      ≡ piece_state p n rest (try_told ticket_said s reply)
  piece_told trying call reply e = piece_after (ticket_said reply)
  piece_told (got (Ok k)) call reply e = absurd (cc e)
  piece_told (got (Err k)) call reply e = absurd (cc e)

  -- the puts of one piece are puts of the whole
  puts_piece : (v : View) (a : Result ℕ HandleError) (w : View)
      → IsPut (data_command c ext (take n rest)) n false v a w
      → Acts (writes c ext) v (putting p n rest) (piece_state p n rest (got a)) w
  puts_piece v a w put = acts_within
      (tries (PutCommand (data_command c ext (take n rest)) n false) ticket_said) (writes c ext)
      (piece_state p n rest) piece_asks piece_told v trying (got a) w put

  puts_that : (piece : List ℕ) (v : View) (a : Result ℕ HandleError) (w : View)
      → piece ≡ take n rest → IsPut (data_command c ext piece) n false v a w
      → Acts (writes c ext) v (putting p n rest) (piece_state p n rest (got a)) w
  puts_that piece v a w is put = puts_piece v a w
      (subst (λ (b : List ℕ). IsPut (data_command c ext b) n false v a w) is put)

  pub piece_put : (piece : List ℕ) (v : View) (r : Result (Unit {0}) HandleError) (w : View)
      → piece ≡ take n rest → PutsOrReleases (data_command c ext piece) c n v r w
      → PutsPiece c ext v p n rest r w
  piece_put piece v (Ok u) w is (ticket, put) = puts_that piece v (Ok ticket) w is put
  piece_put piece v (Err e) w is (at, x, ended, put, released) = (
    p,
    rest,
    subst (λ (why : HandleError). Acts (writes c ext) v (putting p n rest) (stands why p rest) w)
        (sym ended)
        (acts_to (writes c ext) v (putting p n rest) x (releasing n at rest) (ReleaseBytes c n) Done w
        (stopped (Ended at) rest) (puts_that piece v (Err (Ended at)) x is put) refl released refl),
  )

module _ (c : ChannelId) (ext : Option ℕ) where
  -- what stops a part stops the whole
  pub stops_after : (v : View) (s : Writing) (x : View) (t : Writing) (e : HandleError) (w : View)
      → Acts (writes c ext) v s t x → StopsBy c ext x t e w → StopsBy c ext v s e w
  stops_after v s x t e w a b = (
    b.0,
    b.1,
    acts_both (writes c ext) v s x t w (stands e b.0 b.1) a b.2,
  )

  -- from a state that a part led to, the rest of the whole
  pub writes_after : (v : View) (s : Writing) (x : View) (t : Writing)
      (r : Result (Unit {0}) HandleError) (w : View) → Acts (writes c ext) v s t x
      → WritesFrom c ext x t r w → WritesFrom c ext v s r w
  writes_after v s x t (Ok u) w a b = acts_both (writes c ext) v s x t w written a b
  writes_after v s x t (Err e) w a b = stops_after v s x t e w a b

  pub goes_to : (v : View) (s : Writing) (x : View) (t : Writing) (w : View) (u u' : Writing)
      → Acts (writes c ext) v s t x → Acts (writes c ext) x t u w → u ≡ u'
      → Acts (writes c ext) v s u' w
  goes_to v s x t w u u' a b is = subst (λ (y : Writing). Acts (writes c ext) v s y w) is
      (acts_both (writes c ext) v s x t w u a b)

  pub asks_reserve : (w p k : ℕ) (rest : List ℕ) → w ≡ min p k → k ≡ length rest
      → writing_asks c ext (asking p rest) ≡ Some (ReserveBytes c w)
  asks_reserve w p k rest is len = ap (λ (x : ℕ). Some (ReserveBytes c x))
      (ap (min p) (sym len) ∙ sym is)

  -- the look, and where it leads
  pub looked : (v : View) (bytes : List ℕ) (o o' : Option Look) (x : View) (t : Writing)
      → IsLegal (opening v.config) v.seen → 0 < length bytes → Makes v (LookAt c) (Saw o) x → o ≡ o'
      → after_look bytes o' ≡ t → Acts (writes c ext) v (to_write bytes) t x
  looked v [] o o' x t legal some made is leads = absurd (omega arith)
  looked v (b ∷ bs) o o' x t legal some made is leads =
      acts_to (writes c ext) v (looking (b ∷ bs)) v (looking (b ∷ bs)) (LookAt c) (Saw o) x t
      (acts_none (writes c ext) v (looking (b ∷ bs)) legal) refl made
      (ap (after_look (b ∷ bs)) is ∙ leads)

  pub nothing_to_write : (v : View) (bytes : List ℕ) → IsLegal (opening v.config) v.seen
      → length bytes ≡ 0 → Acts (writes c ext) v (to_write bytes) written v
  nothing_to_write v [] legal none = acts_none (writes c ext) v written legal
  nothing_to_write v (b ∷ bs) legal none = absurd (omega arith)

-- how a look that says how many bytes go into a message leads on, and one that does not
seen_if : (b : Bool) (q p : ℕ) (bytes : List ℕ) → Ok p ≡ packet_if b q
    → begun b q bytes ≡ asking p bytes
seen_if true q p bytes e = absurd (cc e)
seen_if false q p bytes e =
    let is : q ≡ p = cc e in
    ap (λ (k : ℕ). asking k bytes) is

seen_well : (bytes : List ℕ) (o : Option Look) (p : ℕ) → Ok p ≡ packet_seen o
    → after_look bytes o ≡ asking p bytes
seen_well bytes None p e = absurd (cc e)
seen_well bytes (Some look) p e = seen_if (eqb look.packet 0) look.packet p bytes e

stands_if : (b : Bool) (q : ℕ) (why : HandleError) (bytes : List ℕ) → Err why ≡ packet_if b q
    → begun b q bytes ≡ stands why 0 bytes
stands_if true q why bytes e =
    let is : Inconsistent ≡ why = cc e in
    ap (λ (k : HandleError). stands k 0 bytes) is
stands_if false q why bytes e = absurd (cc e)

seen_badly : (bytes : List ℕ) (o : Option Look) (why : HandleError) → Err why ≡ packet_seen o
    → after_look bytes o ≡ stands why 0 bytes
seen_badly bytes None why e =
    let is : Refused UnknownChannel ≡ why = cc e in
    ap (λ (k : HandleError). stands k 0 bytes) is
seen_badly bytes (Some look) why e = stands_if (eqb look.packet 0) look.packet why bytes e

module _ (c : ChannelId) (ext : Option ℕ) where
  pub begins : (v : View) (bytes : List ℕ) (o : Option Look) (x : View) (p : ℕ)
      → IsLegal (opening v.config) v.seen → 0 < length bytes → Makes v (LookAt c) (Saw o) x
      → Ok p ≡ packet_seen o → Acts (writes c ext) v (to_write bytes) (asking p bytes) x
  begins v bytes o x p legal some made is =
      looked c ext v bytes o o x (asking p bytes) legal some made refl (seen_well bytes o p is)

  pub stops_first : (v : View) (bytes : List ℕ) (o : Option Look) (x : View) (why : HandleError)
      → IsLegal (opening v.config) v.seen → 0 < length bytes → Makes v (LookAt c) (Saw o) x
      → Err why ≡ packet_seen o → StopsBy c ext v (to_write bytes) why x
  stops_first v bytes o x why legal some made is = (
    0,
    bytes,
    looked c ext v bytes o o x (stands why 0 bytes) legal some made refl (seen_badly bytes o why is),
  )

pub nothing_left : (p : ℕ) (xs : List ℕ) → length xs ≡ 0 → goes_on p xs ≡ written
nothing_left p [] e = refl
nothing_left p (x ∷ xs) e = absurd (omega arith)

pub something_left : (p : ℕ) (xs : List ℕ) → 0 < length xs → goes_on p xs ≡ asking p xs
something_left p [] e = absurd (omega arith)
something_left p (x ∷ xs) e = refl

pub within_rest : (n w p k : ℕ) (rest : List ℕ) → n ≤ w → w ≡ min p k → k ≡ length rest
    → n ≤ length rest
within_rest n w p k rest le is len = omega arith

pub some_wanted : (w p k : ℕ) (rest : List ℕ) → w ≡ min p k → k ≡ length rest → 0 < p
    → 0 < length rest → 0 < w
some_wanted w p k rest is len packet some = omega arith

-- the front of a front
pub piece_front : (rest piece cut : List ℕ) (n w : ℕ) → piece ≡ slice_range rest 0 w → n ≤ w
    → cut ≡ take n piece → cut ≡ take n rest
piece_front rest piece cut n w is le front =
    let zero : w - 0 ≡ w = omega arith in
    front ∙ (ap (take n) is ∙ (ap (λ (k : ℕ). take n (take k rest)) zero ∙ take-take n w rest le))
