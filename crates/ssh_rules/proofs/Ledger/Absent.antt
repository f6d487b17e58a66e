-- A number that is no channel's stays so, whatever is done to the channels.
use Rattle.std.proofs.Common.{◌≡◌, ◌==◌, ◌||◌, ℕ, List, [], ◌∷◌, ◌++◌, Bool, true, false, not, cond}
use Rattle.std.proofs.Common.{Option, Some, None}
use Rattle.std.proofs.Common.{rules, refl, sym, ◌∙◌, ap, subst}
use Rattle.ssh_link.specs.Frames.{Frame}
use Rattle.ssh_channels.specs.declared.chunk.Chunk.{Chunk}
use Rattle.ssh_channels.specs.declared.adjusted.Adjusted.{Adjusted}
use Rattle.ssh_channels.specs.declared.adjusted.Adjusted.TheVariants.{Dropped, Kept, Granted}
use Rattle.ssh_channels.specs.Entry.{Entry, accepting, after_eof, all_framed, closes_now, eof_out}
use Rattle.ssh_channels.specs.Entry.{flush_out, flushed, granting, agreed}
use Rattle.ssh_channels.specs.Entry.{more_may_come, close_may_come}
use Rattle.ssh_channels.specs.Entry.{requesting, reply_may_come, replying, replies_out}
use Rattle.ssh_channels.specs.Lines.{Lines, find, turns, leaves, closes, settles}
use Rattle.ssh_channels.specs.Lines.{where_found, at, takes_data, takes_eof}
use Rattle.ssh_channels.specs.Lines.{takes_close, peer_closes, takes_grant, takes_in}
use Rattle.ssh_channels.specs.Lines.{confirms, fails, says, numbers, goes_on, each_goes_on}
use Rattle.ssh_channels.specs.Lines.{all_go_on, aims, takes_request, takes_reply}
use Rattle.ssh_channels.specs.Room.{coming, having, adjust_out}
use Rattle.ssh_channels.specs.Layout.{bare_frame, close_frame}
use Rattle.ssh_channels.proofs.Listed.{find_other, without_other, found_number}

-- on a number that is no channel's there is none after it either
abbrev pub IsAbsent : (n : ℕ) → Lines → Type 0
IsAbsent n l = find n l.entries ≡ None

turned_absent : (n : ℕ) (e f : Entry) (frames : List Frame) (l : Lines) → (n == f.number) ≡ false
    → e.number ≡ f.number →
    IsAbsent n l → IsAbsent n (turns e frames l)
turned_absent n e f frames l apart same h =
    find_other n e l.entries (subst (λ m. (n == m) ≡ false) (sym same) apart) ∙ h

left_absent : (n : ℕ) (e : Entry) (by_peer : Bool) (frames : List Frame) (l : Lines)
    → (n == e.number) ≡ false →
    IsAbsent n l → IsAbsent n (leaves e by_peer frames l)
left_absent n e by_peer frames l apart h = without_other e.number n l.entries apart ∙ h

settled_step : (b : Bool) (n : ℕ) (e f : Entry) (frames : List Frame) (l : Lines) → (n == f.number)
    ≡ false → e.number ≡ f.number →
    IsAbsent n l → IsAbsent n (cond b (closes (after_eof e) false frames l)
    (turns (after_eof e) frames l))
settled_step true n e f frames l apart same h =
    left_absent n (after_eof e) false (frames ++ close_frame e.number e.peer ∷ []) l
    (subst (λ m. (n == m) ≡ false) (sym same) apart) h
settled_step false n e f frames l apart same h = turned_absent n (after_eof e) f frames l apart same
    h

settled_absent : (n : ℕ) (e f : Entry) (frames : List Frame) (l : Lines) → (n == f.number) ≡ false
    → e.number ≡ f.number →
    IsAbsent n l → IsAbsent n (settles e frames l)
settled_absent n e f frames l apart same h = settled_step (closes_now e) n e f (frames ++ eof_out e)
    l apart same h

chosen_absent : (b : Bool) (n : ℕ) (l m : Lines) → IsAbsent n l → IsAbsent n m
    → IsAbsent n (cond b l m)
chosen_absent true n l m h k = h
chosen_absent false n l m h k = k

-- a call on a channel that is there is on another number
apart_of : (n m : ℕ) (l : Lines) (e : Entry) (b : Bool) → (n == e.number) ≡ b → find m l.entries
    ≡ Some e → IsAbsent n l →
    (n == e.number) ≡ false
apart_of n m l e true t is h =
    let number : e.number ≡ m = found_number m l.entries e is in
    let same : n ≡ e.number = search rules in
    let here : find n l.entries ≡ Some e = ap (λ k. find k l.entries) (same ∙ number) ∙ is in
    absurd (cc)
apart_of n m l e false t is h = t

at_step : (o : Option Entry) (n m : ℕ) (change : Entry → Lines → Lines) (l : Lines)
    → find m l.entries ≡ o →
    ((e : Entry) → (n == e.number) ≡ false → IsAbsent n (change e l)) → IsAbsent n l
    → IsAbsent n (where_found o change l)
at_step None n m change l is k h = h
at_step (Some e) n m change l is k h = k e (apart_of n m l e (n == e.number) refl is h)

at_absent : (n m : ℕ) (change : Entry → Lines → Lines) (l : Lines) →
    ((e : Entry) → (n == e.number) ≡ false → IsAbsent n (change e l)) → IsAbsent n l
    → IsAbsent n (at m change l)
at_absent n m change l k h = at_step (find m l.entries) n m change l refl k h

pub data_absent : (n m : ℕ) (chunk : Chunk) (is_rekeying : Bool) (l : Lines) → IsAbsent n l →
    IsAbsent n (takes_data m chunk is_rekeying l)
data_absent n m chunk is_rekeying l h = at_absent n m _ l
    (λ e apart. chosen_absent (more_may_come e) n _ _
    (chosen_absent (is_rekeying || not (all_framed e)) n _ _
    (turned_absent n (accepting chunk e) e [] l apart refl h)
    (turned_absent n (flushed (accepting chunk e)) e (flush_out (accepting chunk e)) l apart refl
    h)) h) h

pub eof_absent : (n m : ℕ) (l : Lines) → IsAbsent n l → IsAbsent n (takes_eof m l)
eof_absent n m l h = at_absent n m _ l
    (λ e apart. chosen_absent (more_may_come e) n _ _
    (settled_absent n (record e { eof = true }) e [] l apart refl h) h) h

pub close_absent : (n m : ℕ) (l : Lines) → IsAbsent n l → IsAbsent n (takes_close m l)
close_absent n m l h = at_absent n m _ l
    (λ e apart. chosen_absent (close_may_come e) n _ _
    (settled_absent n (record e { close = true }) e [] l apart refl h) h) h

pub peer_close_absent : (n m : ℕ) (l : Lines) → IsAbsent n l → IsAbsent n (peer_closes m l)
peer_close_absent n m l h = at_absent n m _ l
    (λ e apart. chosen_absent e.confirmed n _ _ (left_absent n e true (close_frame e.number e.peer
    ∷ []) l apart h) h) h

pub grant_absent : (n m amount : ℕ) (l : Lines) → IsAbsent n l → IsAbsent n (takes_grant m amount l)
grant_absent n m amount l h = at_absent n m _ l
    (λ e apart. chosen_absent e.confirmed n _ _
    (settled_absent n (flushed (granting amount (flushed e))) e
    (flush_out e ++ flush_out (granting amount (flushed e))) l apart refl h) h) h

having_number : (adjusted : Adjusted) (count target : ℕ) (e : Entry)
    → (having adjusted count target e).number ≡ e.number
having_number Dropped count target e = refl
having_number Kept count target e = refl
having_number (Granted amount) count target e = refl

pub adjust_absent : (n m count target : ℕ) (l : Lines) → IsAbsent n l
    → IsAbsent n (takes_in m count target l)
adjust_absent n m count target l h = at_absent n m _ l
    (λ e apart. turned_absent n (having (coming count target e) count target e) e
    (adjust_out (coming count target e) e) l apart (having_number (coming count target e) count
    target e) h) h

pub aims_absent : (n m target : ℕ) (l : Lines) → IsAbsent n l → IsAbsent n (aims m target l)
aims_absent n m target l h = at_absent n m _ l
    (λ e apart. turned_absent n (record e { target = target }) e [] l apart refl h) h

pub request_absent : (n m : ℕ) (l : Lines) → IsAbsent n l → IsAbsent n (takes_request m l)
request_absent n m l h = at_absent n m _ l
    (λ e apart. chosen_absent e.confirmed n _ _
    (turned_absent n (requesting e) e [] l apart refl h) h) h

pub reply_absent : (n m : ℕ) (place : Option ℕ) (success : Bool) (l : Lines) → IsAbsent n l
    → IsAbsent n (takes_reply m place success l)
reply_absent n m place success l h = at_absent n m _ l
    (λ e apart. chosen_absent (reply_may_come place e) n _ _
    (turned_absent n (replying place success e) e (replies_out place success e) l apart refl h)
    h) h

pub says_absent : (n m message : ℕ) (l : Lines) → IsAbsent n l → IsAbsent n (says m message l)
says_absent n m message l h = at_absent n m _ l
    (λ e apart. chosen_absent e.confirmed n _ _
    (turned_absent n e e (bare_frame message e.number e.peer ∷ []) l apart refl h) h) h

pub confirmed_absent : (n m peer window limit : ℕ) (l : Lines) → IsAbsent n l
    → IsAbsent n (confirms m peer window limit l)
confirmed_absent n m peer window limit l h = at_absent n m _ l
    (λ e apart. chosen_absent (not e.confirmed) n _ _
    (turned_absent n (agreed peer window limit e) e [] l apart refl h) h) h

pub failed_absent : (n m : ℕ) (l : Lines) → IsAbsent n l → IsAbsent n (fails m l)
failed_absent n m l h = at_absent n m _ l
    (λ e apart. chosen_absent (not e.confirmed) n _ _ (left_absent n e true [] l apart h) h) h

-- what goes on at the end of an exchange of keys leaves it so
pub goes_on_absent : (n m : ℕ) (l : Lines) → IsAbsent n l → IsAbsent n (goes_on m l)
goes_on_absent n m l h = at_absent n m _ l
    (λ e apart. settled_absent n (flushed e) e (flush_out e) l apart refl h) h

each_absent : (n : ℕ) (ms : List ℕ) (l : Lines) → IsAbsent n l → IsAbsent n (each_goes_on ms l)
each_absent n [] l h = h
each_absent n (m ∷ ms) l h = each_absent n ms (goes_on m l) (goes_on_absent n m l h)

pub all_absent : (n : ℕ) (l : Lines) → IsAbsent n l → IsAbsent n (all_go_on l)
all_absent n l h = each_absent n (numbers l.entries) l h
