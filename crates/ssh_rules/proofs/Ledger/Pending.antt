-- Numbers that are drawn for opens of the peer's stay so until their opens are answered.
use Rattle.std.proofs.Common.{◌≡◌, ◌==◌, ◌||◌, ◌∙◌, ℕ, Bool, true, false, not, cond, List, []}
use Rattle.std.proofs.Common.{◌∷◌, ◌++◌, Option, Some, None, nat_lt, rules, refl, sym, ap, subst}
use Rattle.std.specs.Prelude.{◌^◌, is_some}
use Rattle.std.specs.List.{list_any}
use Rattle.std.specs.Ordering.{nat_cmp}
use Rattle.std.specs.BTreeMap.{is_at}
use Rattle.std.specs.BTreeSet.{insert_key}
use Rattle.std.specs.Set.{remove_key}
use Rattle.ssh_link.specs.Frames.{Frame}
use Rattle.ssh_channels.specs.declared.chunk.Chunk.{Chunk}
use Rattle.ssh_channels.specs.Entry.{Entry, closes_now, flushed, flush_out, granting}
use Rattle.ssh_channels.specs.Entry.{more_may_come, close_may_come, reply_may_come, all_framed}
use Rattle.ssh_channels.specs.Lines.{Lines, find, settles, where_found, is_taken, next_number}
use Rattle.ssh_channels.specs.Lines.{takes_data, takes_eof, takes_close, peer_closes, takes_grant}
use Rattle.ssh_channels.specs.Lines.{takes_in, takes_request, takes_reply, aims, says, confirms}
use Rattle.ssh_channels.specs.Lines.{fails, drawn, numbers}
use Rattle.ssh_channels.specs.Lines.{goes_on, each_goes_on, all_go_on}
use Rattle.ssh_channels.proofs.Frees.{found_free}
use Rattle.ssh_channels.proofs.Standing.{at_is}

-- the number is pending
abbrev pub is_pending : ℕ → Lines → Bool
is_pending n l = list_any (is_at (nat_cmp n)) l.pending

-- no channel's, and drawn for an open that waits for its answer
abbrev pub IsReserved : Lines → ℕ → Type 0
IsReserved l n = (find n l.entries ≡ None) × (is_pending n l ≡ true)

-- ---- what is pending after one more was drawn, and after one was answered

or_swap : (a b c : Bool) → a || (b || c) ≡ b || (a || c)
or_swap true true c = refl
or_swap true false c = refl
or_swap false b c = refl

or_same : (a c : Bool) → a || c ≡ a || (a || c)
or_same true c = refl
or_same false c = refl

inserted_step : (b e : Bool) (p : ℕ → Bool) (k x : ℕ) (xs : List ℕ) → nat_lt k x ≡ b
    → (k == x) ≡ e → list_any p (insert_key nat_cmp xs k) ≡ p k || list_any p xs
    → list_any p (insert_key nat_cmp (x ∷ xs) k) ≡ p k || (p x || list_any p xs)
inserted_step true e p k x xs t u h = rw t refl
inserted_step false true p k x xs t u h =
    let same : k ≡ x = search rules in
    rw (t, u) (subst (λ m. p x || list_any p xs ≡ p m || (p x || list_any p xs)) (sym same)
    (or_same (p x) (list_any p xs)))
inserted_step false false p k x xs t u h =
    rw (t, u) (ap (λ b. p x || b) h ∙ or_swap (p x) (p k) (list_any p xs))

inserted_any : (p : ℕ → Bool) (k : ℕ) (ps : List ℕ)
    → list_any p (insert_key nat_cmp ps k) ≡ p k || list_any p ps
inserted_any p k [] = refl
inserted_any p k (x ∷ xs) =
    inserted_step (nat_lt k x) (k == x) p k x xs refl refl (inserted_any p k xs)

same_number : (n : ℕ) → is_at (nat_cmp n) n ≡ true
same_number n = at_is n n ∙ (let e : (n == n) ≡ true = search rules in e)

or_right : (a b : Bool) → b ≡ true → a || b ≡ true
or_right true b h = refl
or_right false b h = h

pub drawn_pending : (k n : ℕ) (l : Lines) → is_pending k l ≡ true
    → is_pending k (drawn (Some n) l) ≡ true
drawn_pending k n l h = inserted_any (is_at (nat_cmp k)) n l.pending
    ∙ or_right (is_at (nat_cmp k) n) (is_pending k l) h

pub drawn_self : (n : ℕ) (l : Lines) → is_pending n (drawn (Some n) l) ≡ true
drawn_self n l = inserted_any (is_at (nat_cmp n)) n l.pending
    ∙ ap (λ b. b || is_pending n l) (same_number n)

removed_step : (b a : Bool) (p : ℕ → Bool) (n x : ℕ) (xs rest : List ℕ)
    → is_at (nat_cmp n) x ≡ b → p x ≡ a → p n ≡ false → a || list_any p xs ≡ true
    → (list_any p xs ≡ true → list_any p rest ≡ true) → list_any p (cond b xs (x ∷ rest)) ≡ true
removed_step true true p n x xs rest t u free h k =
    let at : (n == x) ≡ true = sym (at_is n x) ∙ t in
    let same : n ≡ x = search rules in
    absurd (let e : p x ≡ false = subst (λ m. p m ≡ false) same free in cc)
removed_step true false p n x xs rest t u free h k = h
removed_step false true p n x xs rest t u free h k = rw u refl
removed_step false false p n x xs rest t u free h k = rw u (k h)

removed_any : (p : ℕ → Bool) (n : ℕ) (ps : List ℕ) → p n ≡ false → list_any p ps ≡ true
    → list_any p (remove_key (is_at (nat_cmp n)) ps) ≡ true
removed_any p n [] free h = h
removed_any p n (x ∷ xs) free h =
    removed_step (is_at (nat_cmp n) x) (p x) p n x xs (remove_key (is_at (nat_cmp n)) xs) refl refl
    free h (removed_any p n xs free)

pub dropped_pending : (k n : ℕ) (ps : List ℕ) → (k == n) ≡ false
    → list_any (is_at (nat_cmp k)) ps ≡ true
    → list_any (is_at (nat_cmp k)) (remove_key (is_at (nat_cmp n)) ps) ≡ true
dropped_pending k n ps apart h =
    removed_any (is_at (nat_cmp k)) n ps (at_is k n ∙ apart) h

-- ---- the number that is drawn next is not pending

free_step : (a b : Bool) → a || b ≡ false → b ≡ false
free_step true b h = absurd (cc)
free_step false b h = h

next_unpending : (n : ℕ) (l : Lines) → next_number l ≡ Some n → is_pending n l ≡ false
next_unpending n l h =
    free_step (is_some (find n l.entries)) (is_pending n l)
    (found_free (2 ^ 32) l.last n (is_taken l) h)

apart_step : (b : Bool) (k n : ℕ) (l : Lines) → (k == n) ≡ b → is_pending k l ≡ true
    → is_pending n l ≡ false → b ≡ false
apart_step true k n l t h free =
    let same : k ≡ n = search rules in
    absurd (let e : is_pending n l ≡ true = subst (λ m. is_pending m l ≡ true) same h in cc)
apart_step false k n l t h free = refl

-- .. and so is none of those that wait
pub next_apart : (k n : ℕ) (l : Lines) → next_number l ≡ Some n → is_pending k l ≡ true
    → (k == n) ≡ false
next_apart k n l is h = apart_step (k == n) k n l refl h (next_unpending n l is)

-- ---- what is done to channels leaves what is pending

at_pends : (m : ℕ) (o : Option Entry) (change : Entry → Lines → Lines) (l : Lines)
    → ((e : Entry) → (change e l).pending ≡ l.pending)
    → (where_found o change l).pending ≡ l.pending
at_pends m None change l h = refl
at_pends m (Some e) change l h = h e

chosen_pends : (b : Bool) (l m : Lines) (ps : List ℕ) → l.pending ≡ ps → m.pending ≡ ps
    → (cond b l m).pending ≡ ps
chosen_pends true l m ps h k = h
chosen_pends false l m ps h k = k

settled_pends : (e : Entry) (frames : List Frame) (l : Lines)
    → (settles e frames l).pending ≡ l.pending
settled_pends e frames l = chosen_pends (closes_now e) _ _ l.pending refl refl

pub data_pends : (m : ℕ) (chunk : Chunk) (is_rekeying : Bool) (l : Lines)
    → (takes_data m chunk is_rekeying l).pending ≡ l.pending
data_pends m chunk is_rekeying l = at_pends m (find m l.entries) _ l
    (λ e. chosen_pends (more_may_come e) _ _ l.pending
    (chosen_pends (is_rekeying || not (all_framed e)) _ _ l.pending refl refl) refl)

pub eof_pends : (m : ℕ) (l : Lines) → (takes_eof m l).pending ≡ l.pending
eof_pends m l = at_pends m (find m l.entries) _ l
    (λ e. let f = record e { eof = true } in
    chosen_pends (more_may_come e) (settles f [] l) l l.pending (settled_pends f [] l) refl)

pub close_pends : (m : ℕ) (l : Lines) → (takes_close m l).pending ≡ l.pending
close_pends m l = at_pends m (find m l.entries) _ l
    (λ e. let f = record e { close = true } in
    chosen_pends (close_may_come e) (settles f [] l) l l.pending (settled_pends f [] l) refl)

pub peer_close_pends : (m : ℕ) (l : Lines) → (peer_closes m l).pending ≡ l.pending
peer_close_pends m l = at_pends m (find m l.entries) _ l
    (λ e. chosen_pends e.confirmed _ _ l.pending refl refl)

pub grant_pends : (m amount : ℕ) (l : Lines) → (takes_grant m amount l).pending ≡ l.pending
grant_pends m amount l = at_pends m (find m l.entries) _ l
    (λ e. let f = flushed (granting amount (flushed e)) in
    let frames = flush_out e ++ flush_out (granting amount (flushed e)) in
    chosen_pends e.confirmed (settles f frames l) l l.pending (settled_pends f frames l) refl)

pub adjust_pends : (m count target : ℕ) (l : Lines)
    → (takes_in m count target l).pending ≡ l.pending
adjust_pends m count target l = at_pends m (find m l.entries) _ l (λ e. refl)

pub aims_pends : (m target : ℕ) (l : Lines) → (aims m target l).pending ≡ l.pending
aims_pends m target l = at_pends m (find m l.entries) _ l (λ e. refl)

pub request_pends : (m : ℕ) (l : Lines) → (takes_request m l).pending ≡ l.pending
request_pends m l = at_pends m (find m l.entries) _ l
    (λ e. chosen_pends e.confirmed _ _ l.pending refl refl)

pub reply_pends : (m : ℕ) (place : Option ℕ) (success : Bool) (l : Lines)
    → (takes_reply m place success l).pending ≡ l.pending
reply_pends m place success l = at_pends m (find m l.entries) _ l
    (λ e. chosen_pends (reply_may_come place e) _ _ l.pending refl refl)

pub says_pends : (m message : ℕ) (l : Lines) → (says m message l).pending ≡ l.pending
says_pends m message l = at_pends m (find m l.entries) _ l
    (λ e. chosen_pends e.confirmed _ _ l.pending refl refl)

pub confirmed_pends : (m peer window limit : ℕ) (l : Lines)
    → (confirms m peer window limit l).pending ≡ l.pending
confirmed_pends m peer window limit l = at_pends m (find m l.entries) _ l
    (λ e. chosen_pends (not e.confirmed) _ _ l.pending refl refl)

pub failed_pends : (m : ℕ) (l : Lines) → (fails m l).pending ≡ l.pending
failed_pends m l = at_pends m (find m l.entries) _ l
    (λ e. chosen_pends (not e.confirmed) _ _ l.pending refl refl)

pub goes_on_pends : (m : ℕ) (l : Lines) → (goes_on m l).pending ≡ l.pending
goes_on_pends m l = at_pends m (find m l.entries) _ l
    (λ e. settled_pends (flushed e) (flush_out e) l)

each_pends : (ms : List ℕ) (l : Lines) → (each_goes_on ms l).pending ≡ l.pending
each_pends [] l = refl
each_pends (m ∷ ms) l = each_pends ms (goes_on m l) ∙ goes_on_pends m l

pub all_pends : (l : Lines) → (all_go_on l).pending ≡ l.pending
all_pends l = each_pends (numbers l.entries) l
