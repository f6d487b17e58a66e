-- The calls that one seat made.
use Rattle.std.proofs.Common.{
  ◌≡◌,
  ℕ,
  ◌+◌,
  ◌≤◌,
  ◌⊎◌,
  min,
  Bool,
  true,
  false,
  eqb,
  ltb,
  List,
  [],
  ◌∷◌,
  ◌++◌,
  length,
  if◌then◌else◌,
  Option,
  Some,
  None,
  refl,
  inl,
  inr,
  ap,
  sym,
  ◌∙◌,
  subst,
  arith,
  append-nil,
}
use mathlib.Core.List.{IsPrefix}
use Rattle.ssh_link.specs.declared.command.Command.{Command}
use Rattle.ssh_link.specs.declared.open_answer.OpenAnswer.{OpenAnswer}
use Rattle.ssh_link.specs.declared.notice.ChannelMsg.{ChannelMsg}
use Rattle.ssh_hub.specs.World.{World, Held, Channel, Map, find}
use Rattle.ssh_hub.specs.Channels.{reserve_from, reserve_open, receive_from, nothing_from}
use Rattle.ssh_hub.specs.Lists.{
  put_in,
  put_open,
  put_reply_in,
  put_reply_open,
  reply_size,
  data_channel,
}
use Rattle.ssh_hub.specs.Reserved.{
  at_hand,
  reservations,
  bytes_on,
  less_at,
  with_less,
}
use Rattle.ssh_hub.specs.Step.{opening, act, hub_step, reserve_in, receive_in}
use Rattle.ssh_hub.specs.History.{run, IsLegal, calls_by}
use Rattle.ssh_hub.specs.Views.{own_reservations}
use Rattle.ssh_hub.specs.Laws.{
  commands_put,
  commands_taken,
  taken_command,
  first_end,
  is_end,
  or_later,
}
use Rattle.ssh_hub.specs.Words.{Makes}
use Rattle.ssh_hub.specs.SeatLaws.{IsAmong, EndsAt, end_named}
use Rattle.ssh_hub.specs.declared.answers.Config2.{Config2}
use Rattle.ssh_hub.specs.declared.answers.Put.TheVariants.{Done as IsPut}
use Rattle.ssh_hub.specs.declared.history.HubCall.{HubCall}
use Rattle.ssh_hub.specs.declared.history.HubCall.TheVariants.{
  ReserveBytes,
  ReleaseBytes,
  PutCommand,
  PutAnswer,
  TakeNext,
  MakeReady,
  GrantBytes,
  DeliverMsg,
  ReceiveMsg,
  AnswerTicket,
  TakeOutcome,
  EndHub,
  AskEnded,
  LookAt,
  ClaimChannel,
  DrawSlot,
  AnswerSlot,
  TakeSlotAnswer,
  AskRefusal,
  Nudge,
  SplitSeat,
}
use Rattle.ssh_hub.specs.declared.history.HubReply.{HubReply}
use Rattle.ssh_hub.specs.declared.history.HubReply.TheVariants.{
  Reserved,
  WasPut,
  ReplyWasPut,
  HasReceived,
}
use Rattle.ssh_hub.specs.declared.history.Entry.{Entry}
use Rattle.ssh_hub.specs.declared.history.View.{View}
use Rattle.ssh_hub.specs.declared.reservations.Reservation.{Reservation}
use Rattle.ssh_hub.proofs.Histories.{legal_parts}
use Rattle.ssh_hub.proofs.Order.{commands_first}
use Rattle.ssh_hub.proofs.Ends.{ended_at_first}
use Rattle.ssh_hub.proofs.Holdings.{less_here, own_distinct}
use Rattle.ssh_hub.proofs.OwnAfter.{reserved_by_call}

-- lists that stand in others

module _ {A : Type 0} where
  among_self : (xs : List A) → IsAmong xs xs
  among_self [] = refl
  among_self (x ∷ xs) = inr (xs, refl, among_self xs)

  among_none : (ys : List A) → IsAmong [] ys
  among_none [] = refl
  among_none (y ∷ ys) = inl (among_none ys)

  among_both : (us vs xs ys : List A) → IsAmong us xs → IsAmong vs ys → IsAmong (us ++ vs) (xs ++ ys)
  among_both us vs [] ys p q = subst (λ (l : List A). IsAmong (l ++ vs) ys) (sym p) q
  among_both us vs (x ∷ xs) ys (inl p) q = inl (among_both us vs xs ys p q)
  among_both us vs (x ∷ xs) ys (inr p) q = inr (
    p.0 ++ vs,
    ap (λ (l : List A). l ++ vs) p.1,
    among_both p.0 vs xs ys p.2 q,
  )

  among_first : (xs ys zs : List A) → IsAmong xs ys → IsAmong xs (ys ++ zs)
  among_first xs ys zs p = subst (λ (l : List A). IsAmong l (ys ++ zs)) (append-nil xs)
      (among_both xs [] ys zs p (among_none zs))

taken_kept : (b : Bool) (e : Entry) (own all : List Entry)
    → IsAmong (commands_taken own) (commands_taken all)
    → IsAmong (commands_taken (if b then (e ∷ own) else own)) (commands_taken (e ∷ all))
taken_kept true e own all rec = among_both (taken_command e.reply) (commands_taken own)
    (taken_command e.reply) (commands_taken all) (among_self (taken_command e.reply)) rec
taken_kept false e own all rec = among_both [] (commands_taken own) (taken_command e.reply)
    (commands_taken all) (among_none (taken_command e.reply)) rec

own_among : (n : ℕ) (log : List Entry)
    → IsAmong (commands_taken (calls_by n log)) (commands_taken log)
own_among n [] = refl
own_among n (e ∷ es) = taken_kept (eqb e.by n) e (calls_by n es) es (own_among n es)

pub own_takes : (k : Config2) (log : List Entry) (n : ℕ) → IsLegal (opening k) log
    → IsAmong (commands_taken (calls_by n log)) (commands_put log)
own_takes k log n legal = let first : IsPrefix (commands_taken log) (commands_put log) =
    commands_first k log legal in
    subst (IsAmong (commands_taken (calls_by n log))) first.1
    (among_first (commands_taken (calls_by n log)) (commands_taken log) first.0 (own_among n log))

-- the end that an answer names

open_names_none : (ch : Channel) (want : ℕ) (b : Bool)
    → end_named (Reserved (reserve_open ch want b).1) ≡ None
open_names_none ch want true = refl
open_names_none ch want false = refl

from_names_none : (ch : Channel) (want : ℕ) (b : Bool)
    → end_named (Reserved (reserve_from ch want b).1) ≡ None
from_names_none ch want true = refl
from_names_none ch want false = open_names_none ch want (eqb ch.left 0)

reserve_names : (cs : Map Channel) (c want : ℕ) (ended : Option ℕ) (o : Option Channel)
    → end_named (Reserved (reserve_in cs c want ended o).1) ≡ ended
reserve_names cs c want (Some at) o = refl
reserve_names cs c want None None = refl
reserve_names cs c want None (Some ch) = from_names_none ch want ch.is_closed

put_open_names_none : (w : Held) (by n : ℕ) (m : Command) (wanted b : Bool)
    → end_named (WasPut (put_open w by n m wanted b).1) ≡ None
put_open_names_none w by n m wanted true = refl
put_open_names_none w by n m wanted false = refl

put_names : (w : Held) (by n : ℕ) (m : Command) (wanted : Bool) (ended : Option ℕ)
    → end_named (WasPut (put_in w by n m wanted ended).1) ≡ ended
put_names w by n m wanted (Some at) = refl
put_names w by n m wanted None = put_open_names_none w by n m wanted
    (ltb (length w.commands) w.command_size)

reply_open_names_none : (w : Held) (by : ℕ) (m : OpenAnswer) (b : Bool)
    → end_named (ReplyWasPut (put_reply_open w by m b).1) ≡ None
reply_open_names_none w by m true = refl
reply_open_names_none w by m false = refl

reply_names : (w : Held) (by : ℕ) (m : OpenAnswer) (ended : Option ℕ)
    → end_named (ReplyWasPut (put_reply_in w by m ended).1) ≡ ended
reply_names w by m (Some at) = refl
reply_names w by m None = reply_open_names_none w by m (ltb (length w.replies) reply_size)

-- none is named, or the end
abbrev NamesEnd : Option ℕ → Option ℕ → Type 0
NamesEnd named ended = (at : ℕ) → named ≡ Some at → ended ≡ Some at

nothing_names : (ended : Option ℕ) (b : Bool)
    → NamesEnd (end_named (HasReceived (nothing_from ended b))) ended
nothing_names ended true at e = absurd (cc e)
nothing_names None false at e = absurd (cc e)
nothing_names (Some end) false at e = e

inbox_names : (ch : Channel) (ended : Option ℕ) (msgs : List ChannelMsg)
    → NamesEnd (end_named (HasReceived (receive_from ch ended msgs).1)) ended
inbox_names ch ended [] at e = nothing_names ended ch.is_closed at e
inbox_names ch ended (m ∷ ms) at e = absurd (cc e)

receive_names : (cs : Map Channel) (c : ℕ) (ended : Option ℕ) (o : Option Channel)
    → NamesEnd (end_named (HasReceived (receive_in cs c ended o).1)) ended
receive_names cs c ended None at e = absurd (cc e)
receive_names cs c ended (Some ch) at e = inbox_names ch ended ch.inbox at e

act_names : (w : Held) (by had : ℕ) (c : HubCall) → NamesEnd (end_named (act w by had c).1) w.ended
unfolding act
act_names w by had (ReserveBytes c n) at e =
    sym (reserve_names w.channels c.0 n w.ended (find c.0 w.channels)) ∙ e
act_names w by had (ReleaseBytes c n) at e = absurd (cc e)
act_names w by had (PutCommand m n b) at e = sym (put_names w by (min n had) m b w.ended) ∙ e
act_names w by had (PutAnswer m) at e = sym (reply_names w by m w.ended) ∙ e
act_names w by had (TakeNext r c) at e = absurd (cc e)
act_names w by had (MakeReady c n p) at e = absurd (cc e)
act_names w by had (GrantBytes c n) at e = absurd (cc e)
act_names w by had (DeliverMsg c m) at e = absurd (cc e)
act_names w by had (ReceiveMsg c) at e =
    receive_names w.channels c.0 w.ended (find c.0 w.channels) at e
act_names w by had (AnswerTicket t o) at e = absurd (cc e)
act_names w by had (TakeOutcome t) at e = absurd (cc e)
act_names w by had EndHub at e = absurd (cc e)
act_names w by had AskEnded at e = e
act_names w by had (LookAt c) at e = absurd (cc e)
act_names w by had (ClaimChannel c) at e = absurd (cc e)
act_names w by had DrawSlot at e = absurd (cc e)
act_names w by had (AnswerSlot t a) at e = absurd (cc e)
act_names w by had (TakeSlotAnswer t) at e = absurd (cc e)
act_names w by had AskRefusal at e = absurd (cc e)
act_names w by had Nudge at e = absurd (cc e)
act_names w by had SplitSeat at e = absurd (cc e)

ends_by : (c : HubCall) → is_end c ≡ true → c ≡ EndHub
ends_by EndHub e = refl
ends_by c e = absurd (cc e)

-- the end in a list whose first entry has the place `here`
abbrev EndsFrom : ℕ → ℕ → List Entry → Type 0
EndsFrom here at log = (front back : List Entry) × (e : Entry)
    × (log ≡ front ++ e ∷ back) × (here + length front ≡ at) × (e.call ≡ EndHub)

end_or : (here at : ℕ) (e : Entry) (es : List Entry) (b : Bool) → is_end e.call ≡ b
    → or_later b here (first_end (here + 1) es) ≡ Some at
    → (first_end (here + 1) es ≡ Some at → EndsFrom (here + 1) at es) → EndsFrom here at (e ∷ es)
end_or here at e es true is first rec =
    let same : here ≡ at = cc first in
    ([], es, e, refl, omega arith, ends_by e.call is)
end_or here at e es false is first rec =
    let later : EndsFrom (here + 1) at es = rec first in
    let sum : here + 1 + length later.0 ≡ at = later.4 in
    (e ∷ later.0, later.1, later.2, ap (λ (l : List Entry). e ∷ l) later.3, omega arith, later.5)

end_found : (here at : ℕ) (log : List Entry) → first_end here log ≡ Some at → EndsFrom here at log
end_found here at [] first = absurd (cc first)
end_found here at (e ∷ es) first = end_or here at e es (is_end e.call) refl first
    (λ later. end_found (here + 1) at es later)

pub ends_named : (k : Config2) (before after : List Entry) (e : Entry) (at : ℕ)
    → IsLegal (opening k) (before ++ e ∷ after) → end_named e.reply ≡ Some at → EndsAt at before
ends_named k before after e at legal named =
    let w : World = run (opening k) before in
    let parts = legal_parts (opening k) before (e ∷ after) legal in
    let said : end_named (hub_step w e.by e.call).1 ≡ Some at =
    ap end_named (sym parts.1.0) ∙ named in
    let ended : w.hub.ended ≡ Some at =
    act_names w.hub e.by (at_hand e.call (reservations e.by w)) e.call at said in
    let found : EndsFrom 0 at before = end_found 0 at before (sym (ended_at_first k before) ∙ ended) in
    let sum : 0 + length found.0 ≡ at = found.4 in
    (found.0, found.1, found.2, found.3, omega arith, found.5)

-- what a seat has reserved

pub spent_whole : (v : View) (msg : Command) (c spend ticket : ℕ) (wanted : Bool) (w : View)
    → Makes v (PutCommand msg spend wanted) (WasPut (IsPut ticket)) w → data_channel msg ≡ Some c
    → spend ≤ bytes_on c (own_reservations v)
    → bytes_on c (own_reservations w) + spend ≡ bytes_on c (own_reservations v)
spent_whole v msg c spend ticket wanted w made on within =
    let rs : List Reservation = own_reservations v in
    let after : own_reservations w ≡ with_less c spend rs =
    reserved_by_call v (PutCommand msg spend wanted) (WasPut (IsPut ticket)) w made
    ∙ ap (λ (o : Option ℕ). less_at o spend rs) on in
    let same : bytes_on c (own_reservations w)
    ≡ bytes_on c (with_less c spend rs) = ap (bytes_on c) after in
    let sum : bytes_on c (with_less c spend rs)
    + min spend (bytes_on c rs) ≡ bytes_on c rs =
    less_here c spend rs (own_distinct (calls_by v.number v.seen) [] tt) in
    omega arith
