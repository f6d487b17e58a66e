-- What holds of a channel at every moment goes on holding.
use Rattle.std.proofs.Common.{◌≡◌, ◌<◌, ◌≤◌, ◌+◌, ◌^◌, ◌==◌, ◌&&◌, ◌||◌, ℕ, [], ◌∷◌, ◌++◌, length}
use Rattle.std.proofs.Common.{Bool, true, List, Option}
use Rattle.std.proofs.Common.{false, not, rules, refl, ◌∙◌, ap, arith, length-append}
use Rattle.ssh_channels.specs.declared.chunk.Chunk.{Chunk}
use Rattle.ssh_channels.specs.declared.replies.Reply.{Reply}
use Rattle.ssh_channels.specs.Replies.{settling}
use Rattle.ssh_channels.specs.Entry.{Entry, opened, asked, agreed, accepted, joined, all_framed}
use Rattle.ssh_channels.specs.Entry.{more_may_come, flushed}
use Rattle.ssh_channels.specs.Entry.{granting, accepting, tells_eof, closes_now, after_eof}
use Rattle.ssh_channels.specs.Entry.{requesting, replying}
use Rattle.ssh_channels.specs.Entry.{IsDeferred, IsDue, Sound}
use Rattle.ssh_channels.proofs.Joined.{joined_both, joined_length}

pub and_left : (a b : Bool) → a && b ≡ true → a ≡ true
and_left true b h = refl
and_left false b h = absurd (cc)

pub and_right : (a b : Bool) → a && b ≡ true → b ≡ true
and_right true b h = h
and_right false b h = absurd (cc)

pub not_left : (a b : Bool) → not (a || b) ≡ true → a ≡ false
not_left false b h = refl
not_left true b h = absurd (cc)

pub not_right : (a b : Bool) → not (a || b) ≡ true → b ≡ false
not_right false false h = refl
not_right false true h = absurd (cc)
not_right true b h = absurd (cc)

-- a channel on which more data are accepted
pub more_confirmed : (e : Entry) → more_may_come e ≡ true → e.confirmed ≡ true
more_confirmed e h = and_left e.confirmed (not (e.eof || e.close)) h

pub more_eof : (e : Entry) → more_may_come e ≡ true → e.eof ≡ false
more_eof e h = not_left e.eof e.close (and_right e.confirmed (not (e.eof || e.close)) h)

pub more_close : (e : Entry) → more_may_come e ≡ true → e.close ≡ false
more_close e h = not_right e.eof e.close (and_right e.confirmed (not (e.eof || e.close)) h)

-- no EOF frame was written where no EOF was accepted
told_at : (b : Bool) (e : Entry) → e.told ≡ b → Sound e → e.eof ≡ false → e.told ≡ false
told_at true e t s h = absurd (let k : e.eof ≡ true = (s.ended t).0 in cc)
told_at false e t s h = t

pub not_told : (e : Entry) → Sound e → e.eof ≡ false → e.told ≡ false
not_told e s h = told_at e.told e refl s h

pub framed_all : (e : Entry) → all_framed e ≡ true → length (accepted e) ≤ e.framed
framed_all e h = search rules

pub sound_opened : (number peer window room limit packet : ℕ) → 0 < limit → window < 2 ^ 32 →
    Sound (opened number peer window room limit packet)
sound_opened number peer window room limit packet h k = record {
  low = omega arith;
  within = omega arith;
  small = omega arith;
  aimed = omega arith;
  silent = λ t. absurd (cc);
  positive = λ t. h;
  waits = λ t. absurd (cc);
  ended = λ t. absurd (cc);
}

pub sound_asked : (number room packet : ℕ) → Sound (asked number room packet)
sound_asked number room packet = record {
  low = omega arith;
  within = omega arith;
  small = omega arith;
  aimed = omega arith;
  silent = λ t. refl;
  positive = λ t. absurd (cc);
  waits = λ t. (refl, refl, refl, refl);
  ended = λ t. absurd (cc);
}

pub sound_agreed : (peer window limit : ℕ) (e : Entry) → e.confirmed ≡ false → 0 < limit
    → window < 2 ^ 32 → Sound e →
    Sound (agreed peer window limit e)
sound_agreed peer window limit e c h k s =
    let w = s.within in
    let g : e.granted ≡ 0 = (s.waits c).1 in
    let z : e.framed ≡ 0 = omega arith in
    record {
      low = s.low;
      within = omega arith;
      small = omega arith;
      aimed = s.aimed;
      silent = λ t. absurd (cc);
      positive = λ t. h;
      waits = λ t. absurd (cc);
      ended = s.ended;
    }

pub sound_flushed : (e : Entry) → Sound e → Sound (flushed e)
sound_flushed e s =
    let l = s.low in
    let w = s.within in
    let m = s.small in
    record {
      low = omega arith;
      within = omega arith;
      small = omega arith;
      aimed = s.aimed;
      silent = s.silent;
      positive = s.positive;
      waits = s.waits;
      ended = λ t. let k = (s.ended t).1 in ((s.ended t).0, omega arith);
    }

pub sound_granting : (amount : ℕ) (e : Entry) → e.confirmed ≡ true → IsDue e → Sound e
    → Sound (granting amount e)
sound_granting amount e c d s =
    let l = s.low in
    let w = s.within in
    let m = s.small in
    record {
      low = s.low;
      within = omega arith;
      small = omega arith;
      aimed = s.aimed;
      silent = s.silent;
      positive = s.positive;
      waits = λ t. absurd (cc);
      ended = s.ended;
    }

-- an accepted chunk, and an empty one adds nothing
more_at : (b : Bool) (chunk : Chunk) (e : Entry) → (length chunk.bytes == 0) ≡ b →
    length (accepted (accepting chunk e)) ≡ length (accepted e) + length chunk.bytes
more_at true chunk e t =
    let z : length chunk.bytes ≡ 0 = search rules in
    let k : accepted (accepting chunk e) ≡ accepted e = rw t refl in
    omega (arith, ap length k)
more_at false chunk e t =
    let k : accepted (accepting chunk e) ≡ joined (e.chunks ++ chunk ∷ []) = rw t refl in
    let j : length (joined (e.chunks ++ chunk ∷ [])) ≡ length (joined e.chunks) + length
    (joined (chunk ∷ [])) =
    ap length (joined_both e.chunks (chunk ∷ [])) ∙ length-append (joined e.chunks)
    (joined (chunk ∷ [])) in
    omega (arith, ap length k, joined_length chunk [])

pub accepted_length : (chunk : Chunk) (e : Entry) →
    length (accepted (accepting chunk e)) ≡ length (accepted e) + length chunk.bytes
accepted_length chunk e = more_at (length chunk.bytes == 0) chunk e refl

pub sound_accepting : (chunk : Chunk) (e : Entry) → more_may_come e ≡ true → Sound e
    → Sound (accepting chunk e)
sound_accepting chunk e h s =
    let l = s.low in
    let c : e.confirmed ≡ true = more_confirmed e h in
    let t : e.told ≡ false = not_told e s (more_eof e h) in
    record {
      low = omega (arith, accepted_length chunk e);
      within = s.within;
      small = s.small;
      aimed = s.aimed;
      silent = s.silent;
      positive = s.positive;
      waits = λ u. absurd (cc);
      ended = λ u. absurd (cc);
    }

pub sound_eof : (e : Entry) → e.confirmed ≡ true → Sound e → Sound (record e { eof = true })
sound_eof e c s = record {
  low = s.low;
  within = s.within;
  small = s.small;
  aimed = s.aimed;
  silent = s.silent;
  positive = s.positive;
  waits = λ u. absurd (cc);
  ended = λ u. (refl, (s.ended u).1);
}

pub sound_close : (e : Entry) → e.confirmed ≡ true → Sound e → Sound (record e { close = true })
sound_close e c s = record {
  low = s.low;
  within = s.within;
  small = s.small;
  aimed = s.aimed;
  silent = s.silent;
  positive = s.positive;
  waits = λ u. absurd (cc);
  ended = s.ended;
}

three : (a b c : Bool) → (a && not b && c) ≡ true → (a ≡ true) × (c ≡ true)
three true false true h = (refl, refl)
three true false false h = absurd (cc)
three true true c h = absurd (cc)
three false b c h = absurd (cc)

or_split : (a b : Bool) → (a || b) ≡ true → (a ≡ false → b ≡ true)
or_split false b h = λ k. h
or_split true b h = λ k. absurd (cc)

ended_at : (b : Bool) (e : Entry) → e.told ≡ b → Sound e → (e.told || tells_eof e) ≡ true →
    (e.eof ≡ true) × (length (accepted e) ≤ e.framed)
ended_at true e t s h = s.ended t
ended_at false e t s h =
    let k = three e.eof e.told (all_framed e) (or_split e.told (tells_eof e) h t) in
    (k.0, framed_all e k.1)

pub sound_told : (e : Entry) → Sound e → Sound (after_eof e)
sound_told e s = record {
  low = s.low;
  within = s.within;
  small = s.small;
  aimed = s.aimed;
  silent = s.silent;
  positive = s.positive;
  waits = s.waits;
  ended = ended_at e.told e refl s;
}

pub sound_room : (room : ℕ) (e : Entry) → Sound e → Sound (record e { room = room })
sound_room room e s = record {
  low = s.low;
  within = s.within;
  small = s.small;
  aimed = s.aimed;
  silent = s.silent;
  positive = s.positive;
  waits = s.waits;
  ended = s.ended;
}

pub sound_aimed : (target : ℕ) (e : Entry) → target < 2 ^ 32 → Sound e
    → Sound (record e { target = target })
sound_aimed target e h s = record {
  low = s.low;
  within = s.within;
  small = s.small;
  aimed = h;
  silent = s.silent;
  positive = s.positive;
  waits = s.waits;
  ended = s.ended;
}

-- other replies are wanted, and none on a channel that waits
pub sound_replies : (replies : List Reply) (e : Entry) → (e.confirmed ≡ false → replies ≡ [])
    → Sound e → Sound (record e { replies = replies })
sound_replies replies e h s = record {
  low = s.low;
  within = s.within;
  small = s.small;
  aimed = s.aimed;
  silent = h;
  positive = s.positive;
  waits = s.waits;
  ended = s.ended;
}

pub sound_requesting : (e : Entry) → e.confirmed ≡ true → Sound e → Sound (requesting e)
sound_requesting e c s = sound_replies (requesting e).replies e (λ t. absurd (cc)) s

pub sound_replying : (place : Option ℕ) (success : Bool) (e : Entry) → Sound e
    → Sound (replying place success e)
sound_replying place success e s =
    sound_replies (replying place success e).replies e
    (λ t. ap (settling place success 0) (s.silent t)) s

-- once an EOF that was owed is told, only a CLOSE may be owed
not_twice : (a b c : Bool) → (a && not (b || (a && not b && c)) && c) ≡ false
not_twice true true true = refl
not_twice true true false = refl
not_twice true false true = refl
not_twice true false false = refl
not_twice false b c = refl

pub deferred_after : (e : Entry) → closes_now e ≡ false → IsDeferred (after_eof e)
deferred_after e h = (not_twice e.eof e.told (all_framed e), h)
