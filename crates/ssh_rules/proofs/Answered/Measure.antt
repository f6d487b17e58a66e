-- Answers to opens, as a measure: what may still be answered on a number is what the opens of it
-- that wait make (RFC 4254 section 5.1).
use Rattle.std.proofs.Common.{◌≡◌, ◌<◌, ◌≤◌, ◌+◌, ◌==◌, ◌&&◌, ℕ, List, [], ◌∷◌}
use Rattle.std.proofs.Common.{Bool, true, false, cond, Some, nat_lt}
use Rattle.std.proofs.Common.{refl, sym, subst, rules, arith, Option}
use Rattle.std.specs.Ordering.{nat_cmp}
use Rattle.std.specs.BTreeMap.{is_at, insert_entry}
use Rattle.std.specs.Map.{lookup, remove_entry}
use Rattle.ssh_auth.specs.declared.question.Question.{Question}
use Rattle.ssh_channels.specs.Lines.{Lines, find, put}
use Rattle.ssh_channels.specs.Sent.{is_tagged}
use Rattle.std.proofs.lemmas.Bool.{eqb-true}
use Rattle.ssh_channels.proofs.Standing.{at_is}
use Rattle.ssh_rules.specs.Answered.{how_many, is_answer, is_answer_on, open_asked}
use Rattle.ssh_rules.specs.Opening.{Opening}
use Rattle.ssh_rules.specs.Opens.{failure_frame}
use Rattle.ssh_rules.proofs.Measure.Calls.{Measure, one_if, no_channel, untold, LinesOwe}
use Rattle.ssh_rules.proofs.Measure.Calls.{found, silent_more, silent_none, replies_silent, chosen}
use Rattle.ssh_rules.proofs.Ledger.Waiting.{AllWaiting}
use Rattle.ssh_channels.specs.Layout.{reply_frame}
use Rattle.ssh_channels.specs.Entry.{Entry, requesting, replies_out}
use Rattle.ssh_rules.specs.World.{wants_if}
use Rattle.ssh_rules.proofs.Plans.Requested.{wants_kept}

-- ---- opens that wait

-- how many opens of this number wait for their answer
abbrev pub waiting : (number : ℕ) → List (ℕ × Opening) → ℕ
waiting number opens = how_many (λ x. number == x.0) opens

counted : (b : Bool) (n : ℕ) → cond b (n + 1) n ≤ n + one_if b
counted true n = omega arith
counted false n = omega arith

counted_back : (b : Bool) (n : ℕ) → n + one_if b ≤ cond b (n + 1) n
counted_back true n = omega arith
counted_back false n = omega arith

first_most : (n : ℕ) → n ≡ 0 → n + 1 ≤ 1
first_most n h = omega (arith, h)

kept : (b : Bool) (m n k : ℕ) → m ≤ n + k → cond b (m + 1) m ≤ cond b (n + 1) n + k
kept true m n k h = omega (arith, h)
kept false m n k h = h

kept_back : (b : Bool) (m n k : ℕ) → m + k ≤ n → cond b (m + 1) m + k ≤ cond b (n + 1) n
kept_back true m n k h = omega (arith, h)
kept_back false m n k h = h

inserted_step : (b c : Bool) (number m : ℕ) (v : Opening) (x : ℕ × Opening)
    (xs : List (ℕ × Opening)) → nat_lt m x.0 ≡ b → (m == x.0) ≡ c →
    waiting number (insert_entry nat_cmp xs m v) ≤ waiting number xs + one_if (number == m) →
    waiting number (insert_entry nat_cmp (x ∷ xs) m v)
    ≤ waiting number (x ∷ xs) + one_if (number == m)
inserted_step true c number m v x xs t u h =
    rw t (counted (number == m) (waiting number (x ∷ xs)))
inserted_step false true number m v x xs t u h =
    let at : m ≡ x.0 = search rules in
    rw (t, u) (omega arith)
inserted_step false false number m v x xs t u h =
    rw (t, u) (kept (number == x.0) (waiting number (insert_entry nat_cmp xs m v))
    (waiting number xs) (one_if (number == m)) h)

-- one more waits
pub inserted_count : (number m : ℕ) (v : Opening) (xs : List (ℕ × Opening)) →
    waiting number (insert_entry nat_cmp xs m v) ≤ waiting number xs + one_if (number == m)
inserted_count number m v [] = counted (number == m) 0
inserted_count number m v (x ∷ xs) =
    inserted_step (nat_lt m x.0) (m == x.0) number m v x xs refl refl
    (inserted_count number m v xs)

removed_step : (b : Bool) (number m : ℕ) (o : Opening) (x : ℕ × Opening)
    (xs : List (ℕ × Opening)) → (m == x.0) ≡ b →
    cond b (Some x.1) (lookup (is_at (nat_cmp m)) xs) ≡ Some o →
    (lookup (is_at (nat_cmp m)) xs ≡ Some o →
    waiting number (remove_entry (is_at (nat_cmp m)) xs) + one_if (number == m)
    ≤ waiting number xs) →
    waiting number (cond b xs (x ∷ remove_entry (is_at (nat_cmp m)) xs)) + one_if (number == m)
    ≤ waiting number (x ∷ xs)
removed_step true number m o x xs t is h =
    let at : m ≡ x.0 = search rules in
    subst (λ n. waiting number xs + one_if (number == n) ≤ waiting number (x ∷ xs)) (sym at)
    (counted_back (number == x.0) (waiting number xs))
removed_step false number m o x xs t is h =
    kept_back (number == x.0) (waiting number (remove_entry (is_at (nat_cmp m)) xs))
    (waiting number xs) (one_if (number == m)) (h is)

-- one is answered
pub removed_count : (number m : ℕ) (o : Opening) (xs : List (ℕ × Opening)) →
    lookup (is_at (nat_cmp m)) xs ≡ Some o →
    waiting number (remove_entry (is_at (nat_cmp m)) xs) + one_if (number == m)
    ≤ waiting number xs
removed_count number m o [] is = absurd (cc)
removed_count number m o (x ∷ xs) is =
    let P : Bool → Type 0 = λ b.
    waiting number (cond b xs (x ∷ remove_entry (is_at (nat_cmp m)) xs)) + one_if (number == m)
    ≤ waiting number (x ∷ xs) in
    subst P (sym (at_is m x.0))
    (removed_step (m == x.0) number m o x xs refl
    (subst (λ b. cond b (Some x.1) (lookup (is_at (nat_cmp m)) xs) ≡ Some o) (at_is m x.0) is)
    (removed_count number m o xs))

-- the numbers of opens that wait are different
low_apart : (b : Bool) (n m : ℕ) → (n == m) ≡ b → n < m → (n == m) ≡ false
low_apart true n m t l = absurd (let at : n ≡ m = search rules in omega (arith, at, l))
low_apart false n m t l = t

above_none : (from m : ℕ) (P : ℕ → Type 0) (xs : List (ℕ × Opening)) → m < from →
    AllWaiting from P xs → waiting m xs ≡ 0
above_none from m P [] l h = refl
above_none from m P (x ∷ xs) l h =
    let low = h.0 in
    let apart = low_apart (m == x.0) m x.0 refl (omega (arith, l, low)) in
    rw apart (above_none (x.0 + 1) m P xs (omega (arith, l, low)) h.2)

once_step : (b : Bool) (n : ℕ) → (b ≡ true → n ≡ 0) → n ≤ 1 → cond b (n + 1) n ≤ 1
once_step true n none h = first_most n (none refl)
once_step false n none h = h

-- so at most one of a number waits
pub waiting_once : (from m : ℕ) (P : ℕ → Type 0) (xs : List (ℕ × Opening)) →
    AllWaiting from P xs → waiting m xs ≤ 1
waiting_once from m P [] h = omega arith
waiting_once from m P (x ∷ xs) h =
    once_step (m == x.0) (waiting m xs)
    (λ is. let at : m ≡ x.0 = eqb-true m x.0 is in
    above_none (x.0 + 1) m P xs (subst (λ n. n < x.0 + 1) (sym at) (omega arith)) h.2)
    (waiting_once (x.0 + 1) m P xs h.2)

-- ---- the measure

-- the handler is asked about an open of this number
abbrev pub asks_open : (number : ℕ) → Question → Bool
asks_open number question = is_tagged number (open_asked question)

pub on_number : (b c : Bool) → one_if (b && c) ≤ one_if b
on_number true true = omega arith
on_number true false = omega arith
on_number false c = omega arith

-- an open that waits is answered by one frame of its number
pub one_answered : (number m : ℕ) (payload : List ℕ) (opening : Opening)
    (opens : List (ℕ × Opening)) → lookup (is_at (nat_cmp m)) opens ≡ Some opening →
    one_if (is_answer_on number (failure_frame m payload))
    + waiting number (remove_entry (is_at (nat_cmp m)) opens) ≤ waiting number opens
one_answered number m payload opening opens is =
    let one = on_number (number == m) (is_answer (failure_frame m payload)) in
    let left = removed_count number m opening opens is in
    omega (arith, one, left)

-- a reply to a request answers no open
reply_unlike : (own peer : ℕ) (success : Bool) → is_answer (reply_frame own peer success) ≡ false
reply_unlike own peer true = refl
reply_unlike own peer false = refl

pub no_answer_replied : (number : ℕ) (place : Option ℕ) (success : Bool) (e : Entry) →
    how_many (is_answer_on number) (replies_out place success e) ≡ 0
no_answer_replied number place success e =
    silent_none (is_answer_on number) (replies_out place success e)
    (replies_silent (is_answer_on number) e.number e.peer
    (λ said. untold (number == e.number) (is_answer (reply_frame e.number e.peer said))
    (reply_unlike e.number e.peer said)) _)

-- answers on this number, and the opens of it that wait; the callback of one makes one
abbrev pub answers_on : (number : ℕ) → Measure
answers_on number = record {
  such = is_answer_on number;
  due = λ entries. 0;
  waiting = waiting number;
  globally = λ wanted. 0;
  asks = asks_open number;
  untagged = λ frame is unlike. no_channel number frame.channel (is_answer frame) is;
  exchanged = λ frame is transport. no_channel number frame.channel (is_answer frame) is;
  other = λ frame no_answer no_reply. untold (is_tagged number frame.channel) (is_answer frame)
      no_answer;
  kept = λ e f entries at same. omega arith;
  parted = λ m entries. omega arith;
  begun = λ e entries none. omega arith;
  replied = λ place success e entries at.
      let none = no_answer_replied number place success e in omega (arith, none);
  answered = λ m payload opening opens unlike is. one_answered number m payload opening opens is;
  settled = λ payload. omega arith;
}

-- a request makes none
pub wants_owe : (number k m : ℕ) (wanted : Bool) (l : Lines) → LinesOwe (answers_on number) k l →
    LinesOwe (answers_on number) k (wants_if wanted m l)
wants_owe number k m wanted l h = wants_kept (LinesOwe (answers_on number) k) wanted m l
    (λ j. found (find m l.entries) (answers_on number) k m _ l refl
    (λ e is. chosen e.confirmed (answers_on number) k _ _
    (silent_more (answers_on number) k l.written [] l.entries (put (requesting e) l.entries) tt
    (omega arith) j) j) j) h
