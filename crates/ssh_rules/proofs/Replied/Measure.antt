-- Replies to requests, as a measure: on a number those may still come that its channel owes, or keeps
-- behind one that is owed (RFC 4254 section 5.4).
use Rattle.std.proofs.Common.{◌≡◌, ◌≤◌, ◌+◌, ◌==◌, ◌&&◌, ℕ, List, [], ◌∷◌, ◌++◌, map, length, drop}
use Rattle.std.proofs.Common.{Bool, true, false, cond, Option, Some, None, nat_lt}
use Rattle.std.proofs.Common.{refl, sym, ◌∙◌, ap, subst, arith, length-append}
use Rattle.ssh_link.specs.Frames.{Frame}
use Rattle.ssh_channels.specs.declared.replies.Reply.{Reply}
use Rattle.ssh_channels.specs.declared.replies.Reply.TheVariants.{Owed}
use Rattle.ssh_channels.specs.Entry.{Entry, requesting, replying, replies_out}
use Rattle.ssh_channels.specs.Layout.{reply_frame}
use Rattle.ssh_channels.specs.Lines.{Lines, find, put, without, added, turns, where_found}
use Rattle.ssh_channels.specs.Lines.{takes_request}
use Rattle.ssh_channels.specs.Replies.{ready, held, settling}
use Rattle.ssh_channels.specs.Sent.{is_tagged, is_reply}
use Rattle.ssh_channels.proofs.Listed.{one_number, found_put, find_other, find_again, find_without}
use Rattle.ssh_channels.proofs.Listed.{without_other, found_number}
use Rattle.ssh_channels.proofs.Replying.{held_more, held_out}
use Rattle.ssh_rules.specs.Answered.{how_many}
use Rattle.ssh_rules.specs.Opens.{failure_frame}
use Rattle.ssh_rules.specs.Replied.{is_reply_on, unsent_of}
use Rattle.ssh_rules.proofs.Measure.Calls.{Measure, LinesOwe, lines_owe, no_channel, no_more, untold}
use Rattle.ssh_rules.proofs.Measure.Calls.{silent_none, replies_silent, how_many_both}

-- the replies of the channel of this number that did not go out
abbrev pub due_on : (number : ℕ) → List Entry → ℕ
due_on number entries = unsent_of (find number entries)

no_fewer : (a b : ℕ) → a ≡ b → a ≤ b
no_fewer a b is = omega (arith, is)

-- ---- a channel changes, leaves, and is added

kept_step : (b : Bool) (number : ℕ) (e f : Entry) (entries : List Entry) →
    (number == e.number) ≡ b → find e.number entries ≡ Some f → e.replies ≡ f.replies →
    due_on number (put e entries) ≡ due_on number entries
kept_step true number e f entries is at same =
    subst (λ n. due_on n (put e entries) ≡ due_on n entries) (sym (one_number number e.number is))
    (ap unsent_of (found_put e entries f at) ∙ ap (λ rs. length (held rs)) same
    ∙ sym (ap unsent_of at))
kept_step false number e f entries is at same = ap unsent_of (find_other number e entries is)

pub due_kept : (number : ℕ) (e f : Entry) (entries : List Entry) → find e.number entries ≡ Some f →
    e.replies ≡ f.replies → due_on number (put e entries) ≤ due_on number entries
due_kept number e f entries at same =
    no_fewer (due_on number (put e entries)) (due_on number entries)
    (kept_step (number == e.number) number e f entries refl at same)

pub parted_step : (b : Bool) (number m : ℕ) (entries : List Entry) → (number == m) ≡ b →
    due_on number (without m entries) ≤ due_on number entries
parted_step true number m entries is =
    let none : find number (without m entries) ≡ None =
    subst (λ k. find number (without k entries) ≡ None) (one_number number m is)
    (find_without number entries) in
    subst (λ o. unsent_of o ≤ due_on number entries) (sym none) (omega arith)
parted_step false number m entries is =
    no_fewer (due_on number (without m entries)) (due_on number entries)
    (ap unsent_of (without_other m number entries is))

-- this one, or that, by what did not go out of each
first_step : (b : Bool) (e : Entry) (o : Option Entry) → e.replies ≡ [] →
    unsent_of (cond b (Some e) o) ≤ unsent_of o
first_step true e o none = subst (λ rs. length (held rs) ≤ unsent_of o) (sym none) (omega arith)
first_step false e o none = omega arith

next_step : (b : Bool) (x : Entry) (o p : Option Entry) → unsent_of o ≤ unsent_of p →
    unsent_of (cond b (Some x) o) ≤ unsent_of (cond b (Some x) p)
next_step true x o p h = omega arith
next_step false x o p h = h

begun_step : (b : Bool) (number : ℕ) (e x : Entry) (xs : List Entry) → e.replies ≡ [] →
    due_on number (added e xs) ≤ due_on number xs →
    due_on number (cond b (e ∷ x ∷ xs) (x ∷ added e xs)) ≤ due_on number (x ∷ xs)
begun_step true number e x xs none h =
    first_step (number == e.number) e (find number (x ∷ xs)) none
begun_step false number e x xs none h =
    next_step (number == x.number) x (find number (added e xs)) (find number xs) h

pub due_begun : (number : ℕ) (e : Entry) (entries : List Entry) → e.replies ≡ [] →
    due_on number (added e entries) ≤ due_on number entries
due_begun number e [] none = first_step (number == e.number) e None none
due_begun number e (x ∷ xs) none =
    begun_step (nat_lt e.number x.number) number e x xs none (due_begun number e xs none)

-- ---- replies that go out

-- of frames no more are such ones than there are
at_most : (b : Bool) (few count : ℕ) → few ≤ count → cond b (few + 1) few ≤ count + 1
at_most true few count h = omega (arith, h)
at_most false few count h = omega (arith, h)

few_replies : (such : Frame → Bool) (own peer : ℕ) (said : List Bool) →
    how_many such (map (reply_frame own peer) said) ≤ length said
few_replies such own peer [] = omega arith
few_replies such own peer (success ∷ said) =
    let most = at_most (such (reply_frame own peer success))
    (how_many such (map (reply_frame own peer) said)) (length said)
    (few_replies such own peer said) in
    omega (arith, most)

-- on its own number each of them did not go out before, and on another none is one
pub paid_step : (b : Bool) (number : ℕ) (place : Option ℕ) (success : Bool) (e : Entry)
    (entries : List Entry) → (number == e.number) ≡ b → find e.number entries ≡ Some e →
    how_many (is_reply_on number) (replies_out place success e)
    + due_on number (put (replying place success e) entries) ≤ due_on number entries
paid_step true number place success e entries is at =
    let later = replying place success e in
    let said = drop (length (ready e.replies)) (ready (settling place success 0 e.replies)) in
    let before : due_on e.number entries ≡ length (held e.replies) = ap unsent_of at in
    let after : due_on e.number (put later entries) ≡ length (held later.replies) =
    ap unsent_of (found_put later entries e at) in
    let few = few_replies (is_reply_on e.number) e.number e.peer said in
    let each = held_out place success e.replies in
    subst (λ n. how_many (is_reply_on n) (replies_out place success e)
    + due_on n (put later entries) ≤ due_on n entries) (sym (one_number number e.number is))
    (omega (arith, before, after, few, each))
paid_step false number place success e entries is at =
    let later = replying place success e in
    let said = drop (length (ready e.replies)) (ready (settling place success 0 e.replies)) in
    let same : due_on number (put later entries) ≡ due_on number entries =
    ap unsent_of (find_other number later entries is) in
    let none = silent_none (is_reply_on number) (replies_out place success e)
    (replies_silent (is_reply_on number) e.number e.peer
    (λ s. ap (λ b. b && is_reply (reply_frame e.number e.peer s)) is) said) in
    omega (arith, same, none)

-- ---- the measure

-- replies on this number, and those of its channel that did not go out; no question makes one
abbrev pub replies_on : (number : ℕ) → Measure
replies_on number = record {
  such = is_reply_on number;
  due = due_on number;
  waiting = λ opens. 0;
  globally = λ wanted. 0;
  asks = λ question. false;
  untagged = λ frame is unlike. no_channel number frame.channel (is_reply frame) is;
  exchanged = λ frame is so. no_channel number frame.channel (is_reply frame) is;
  other = λ frame no_answer no_reply. untold (is_tagged number frame.channel) (is_reply frame)
      no_reply.0;
  kept = λ e f entries at same. due_kept number e f entries at same;
  parted = λ m entries. parted_step (number == m) number m entries refl;
  begun = λ e entries none. due_begun number e entries none;
  replied = λ place success e entries at. paid_step (number == e.number) number place success e
      entries refl at;
  answered = λ m payload opening opens unlike is. no_more (is_reply_on number (failure_frame m
      payload)) 0 (untold (number == m) (is_reply (failure_frame m payload)) unlike.0);
  settled = λ payload. omega arith;
}

-- ---- a request

-- its reply is held until it is settled
one_longer : (rs : List Reply) → length (held (rs ++ Owed ∷ [])) ≡ length (held rs) + 1
one_longer rs = ap length (held_more rs) ∙ length-append (held rs) (Owed ∷ [])

asked_step : (b : Bool) (number : ℕ) (e : Entry) (entries : List Entry) →
    (number == e.number) ≡ b → find e.number entries ≡ Some e →
    due_on number (put (requesting e) entries) ≤ due_on number entries + cond b 1 0
asked_step true number e entries is at =
    let before : due_on e.number entries ≡ length (held e.replies) = ap unsent_of at in
    let after : due_on e.number (put (requesting e) entries)
    ≡ length (held (e.replies ++ Owed ∷ [])) =
    ap unsent_of (found_put (requesting e) entries e at) in
    let longer = one_longer e.replies in
    subst (λ n. due_on n (put (requesting e) entries) ≤ due_on n entries + 1)
    (sym (one_number number e.number is)) (omega (arith, before, after, longer))
asked_step false number e entries is at =
    let same : due_on number (put (requesting e) entries) ≡ due_on number entries =
    ap unsent_of (find_other number (requesting e) entries is) in
    omega (arith, same)

-- no more than these, and this one where it is on the number
abbrev OweWith : (number m : ℕ) → Lines → Lines → Type 0
OweWith number m l later = LinesOwe (replies_on number)
    (lines_owe (replies_on number) l + cond (number == m) 1 0) later

confirmed_step : (confirmed : Bool) (number : ℕ) (e : Entry) (l : Lines) →
    find e.number l.entries ≡ Some e →
    OweWith number e.number l (cond confirmed (turns (requesting e) [] l) l)
confirmed_step true number e l at =
    let same = how_many_both (is_reply_on number) l.written [] in
    let more = asked_step (number == e.number) number e l.entries refl at in
    omega (arith, same, more)
confirmed_step false number e l at = omega arith

found_step : (o : Option Entry) (number m : ℕ) (l : Lines) → find m l.entries ≡ o →
    OweWith number m l
    (where_found o (λ e l. cond e.confirmed (turns (requesting e) [] l) l) l)
found_step None number m l is = omega arith
found_step (Some e) number m l is =
    subst (λ k. OweWith number k l (cond e.confirmed (turns (requesting e) [] l) l))
    (found_number m l.entries e is)
    (confirmed_step e.confirmed number e l (find_again m l.entries e is))

-- a request that wants a reply makes one more on its number, and none on another
pub request_owe : (number m : ℕ) (l : Lines) → OweWith number m l (takes_request m l)
request_owe number m l = found_step (find m l.entries) number m l refl
