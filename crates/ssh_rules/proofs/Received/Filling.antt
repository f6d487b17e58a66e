-- Data that come in take from the room of their channel, and what fills it up is granted (RFC 4254
-- section 5.2).
use Rattle.std.proofs.Common.{◌≡◌, ◌≤◌, ◌<◌, ◌+◌, ◌-◌, ◌/◌, ◌^◌, ◌==◌, ◌&&◌, ℕ, [], ◌∷◌, Bool, true}
use Rattle.std.proofs.Common.{false, suc, cond, Some, refl, ◌∙◌, ap, arith}
use Rattle.std.proofs.lemmas.Bool.{leb-true, ltb-true}
use Rattle.std.proofs.lemmas.Nat.{from_be_bytes-to_be_bytes_4}
use Rattle.ssh_channels.specs.declared.adjusted.Adjusted.TheVariants.{Dropped, Kept, Granted}
use Rattle.ssh_channels.specs.Entry.{Entry}
use Rattle.ssh_channels.specs.Layout.{adjust_frame}
use Rattle.ssh_channels.specs.Lines.{Lines, find, turns}
use Rattle.ssh_channels.specs.Room.{coming}
use Rattle.ssh_channels.proofs.Listed.{one_number}
use Rattle.ssh_rules.specs.Received.{added_by}
use Rattle.ssh_rules.proofs.Received.Granting.{Roomy, room_of, lifted, lifted_so, grown, grown_by}
use Rattle.ssh_rules.proofs.Received.Granting.{grown_both, put_here, put_there}

-- ---- what data come to

kept_step : (a b : Bool) (amount : ℕ) →
    cond a (cond b (Granted amount) Kept) Dropped ≡ Kept → a ≡ true
kept_step true b amount h = refl
kept_step false b amount h = absurd (cc)

granted_step : (a b : Bool) (amount other : ℕ) →
    cond a (cond b (Granted amount) Kept) Dropped ≡ Granted other →
    (a ≡ true) × (b ≡ true) × (amount ≡ other)
granted_step true true amount other h = (refl, refl, cc)
granted_step true false amount other h = absurd (cc)
granted_step false b amount other h = absurd (cc)

second_so : (a b : Bool) → (a && b) ≡ true → b ≡ true
second_so true b h = h
second_so false b h = absurd (cc)

half_low : (room target : ℕ) → room < target / 2 → room ≤ target
half_low room target l = omega (arith, l)

-- data that are kept have room
pub kept_low : (count target : ℕ) (e : Entry) → coming count target e ≡ Kept → count ≤ e.room
kept_low count target e is =
    leb-true count e.room (second_so e.confirmed _ (kept_step _ _ _ is))

-- .. and where the room is filled up, what is granted is what is missing
pub granted_low : (count target amount : ℕ) (e : Entry) → coming count target e ≡ Granted amount →
    (count ≤ e.room) × (e.room - count ≤ target) × (target - (e.room - count) ≡ amount)
granted_low count target amount e is =
    let so = granted_step _ _ _ amount is in (
      leb-true count e.room (second_so e.confirmed _ so.0),
      half_low (e.room - count) target (ltb-true (e.room - count) (target / 2) so.1),
      so.2,
    )

-- ---- the room after them

-- the frame adds what it says
adds_so : (own peer amount : ℕ) → amount < 2 ^ 32 → added_by (adjust_frame own peer amount) ≡ amount
adds_so own peer amount small = from_be_bytes-to_be_bytes_4 amount small

pub kept_room : (b : Bool) (n passed window grew count : ℕ) (e : Entry) (l : Lines) →
    (n == e.number) ≡ b → find e.number l.entries ≡ Some e → count ≤ e.room →
    Roomy n passed window grew l →
    Roomy n (cond b (passed + count) passed) window grew
    (turns (record e { room = e.room - count }) [] l)
kept_room true n passed window grew count e l t at low h =
    let same = one_number n e.number t in
    let here = put_here n (record e { room = e.room - count }) e l.entries same at in
    let was : room_of (find n l.entries) ≡ suc e.room =
    ap (λ m. room_of (find m l.entries)) same ∙ ap room_of at in
    let none = grown_both n window grew l.written [] in
    let first = h.0 in
    (omega (arith, here, was, none, low, first), omega (arith, was, none, low, first))
kept_room false n passed window grew count e l t at low h =
    let there = put_there n (record e { room = e.room - count }) l.entries t in
    let none = grown_both n window grew l.written [] in
    let first = h.0 in
    let second = h.1 in
    (omega (arith, there, none, first), omega (arith, none, second))

pub granted_room : (b : Bool) (n passed window grew count target amount : ℕ) (e : Entry)
    (l : Lines) → (n == e.number) ≡ b → find e.number l.entries ≡ Some e → count ≤ e.room →
    e.room - count ≤ target → target - (e.room - count) ≡ amount → target < 2 ^ 32 →
    Roomy n passed window grew l →
    Roomy n (cond b (passed + count) passed) window grew
    (turns (record e { room = target }) (adjust_frame e.number e.peer amount ∷ []) l)
granted_room true n passed window grew count target amount e l t at low fill is small h =
    let frame = adjust_frame e.number e.peer amount in
    let g = grown_by n window grew l.written in
    let same = one_number n e.number t in
    let here = put_here n (record e { room = target }) e l.entries same at in
    let was : room_of (find n l.entries) ≡ suc e.room =
    ap (λ m. room_of (find m l.entries)) same ∙ ap room_of at in
    let first = h.0 in
    let opened : 0 < g = omega (arith, was, first) in
    let both = grown_both n window grew l.written (frame ∷ []) in
    let few : amount < 2 ^ 32 = omega (arith, is, small) in
    let more : grown n window g frame ≡ g + amount =
    ap (λ c. cond c (lifted g (added_by frame)) g) t
    ∙ (ap (lifted g) (adds_so e.number e.peer amount few) ∙ lifted_so g amount opened) in (
      omega (arith, here, was, both, more, low, fill, is, first),
      omega (arith, was, both, more, low, first),
    )
granted_room false n passed window grew count target amount e l t at low fill is small h =
    let frame = adjust_frame e.number e.peer amount in
    let g = grown_by n window grew l.written in
    let there = put_there n (record e { room = target }) l.entries t in
    let both = grown_both n window grew l.written (frame ∷ []) in
    let more : grown n window g frame ≡ g =
    ap (λ c. cond c (lifted g (added_by frame)) g) t in
    let first = h.0 in
    let second = h.1 in
    (omega (arith, there, both, more, first), omega (arith, both, more, second))

-- what is passed then is no more than was granted before
pub passed_low : (b : Bool) (n passed window grew count : ℕ) (e : Entry) (l : Lines) →
    (n == e.number) ≡ b → find e.number l.entries ≡ Some e → count ≤ e.room →
    Roomy n passed window grew l →
    cond b (passed + count) passed ≤ grown_by n window grew l.written - 1
passed_low true n passed window grew count e l t at low h =
    let was : room_of (find n l.entries) ≡ suc e.room =
    ap (λ m. room_of (find m l.entries)) (one_number n e.number t) ∙ ap room_of at in
    let first = h.0 in
    omega (arith, was, low, first)
passed_low false n passed window grew count e l t at low h = h.1
