-- What an answer says of its call.
use Rattle.std.proofs.Common.{
  ◌≡◌,
  ◌≤◌,
  ◌<◌,
  ◌≢◌,
  ℕ,
  min,
  Bool,
  true,
  false,
  eqb,
  eq-eqb,
  ltb,
  length,
  List,
  [],
  ◌∷◌,
  ◌++◌,
  if◌then◌else◌,
  Option,
  Some,
  None,
  refl,
  zero,
  suc,
  ap,
  sym,
  ◌∙◌,
  subst,
  arith,
}
use Rattle.ssh_link.specs.declared.command.Command.{Command}
use Rattle.ssh_link.specs.declared.open_answer.OpenAnswer.{OpenAnswer}
use Rattle.ssh_link.specs.declared.notice.ChannelMsg.{ChannelMsg}
use Rattle.ssh_wire.specs.declared.channel_id.ChannelId.{ChannelId}
use Rattle.ssh_hub.specs.World.{World, Held, Channel, Map, find}
use Rattle.ssh_hub.specs.Channels.{reserve_from, reserve_open, deliver_to, deliver_open}
use Rattle.ssh_hub.specs.Lists.{
  put_in,
  put_open,
  put_reply_in,
  put_reply_open,
  take_first,
  asked,
  reply_size,
}
use Rattle.ssh_hub.specs.Reserved.{at_hand, reservations}
use Rattle.ssh_hub.specs.Step.{opening, act, hub_step, reserve_in, deliver_in}
use Rattle.ssh_hub.specs.History.{IsLegal, calls_by}
use Rattle.ssh_hub.specs.Words.{Makes, entry}
use Rattle.ssh_hub.specs.Does.{Does, entries}
use Rattle.ssh_hub.specs.Fits.{Fits, AllFit}
use Rattle.ssh_hub.specs.declared.answers.Put.{Put}
use Rattle.ssh_hub.specs.declared.answers.Put.TheVariants.{Full, Ended as PutEnded}
use Rattle.ssh_hub.specs.declared.answers.PutReply.{PutReply}
use Rattle.ssh_hub.specs.declared.answers.PutReply.TheVariants.{
  Full as RepliesFull,
  Ended as ReplyEnded,
}
use Rattle.ssh_hub.specs.declared.answers.Reserve.{Reserve}
use Rattle.ssh_hub.specs.declared.answers.Reserve.TheVariants.{Got}
use Rattle.ssh_hub.specs.declared.queued.QueuedCommand.{QueuedCommand}
use Rattle.ssh_hub.specs.declared.queued.QueuedReply.{QueuedReply}
use Rattle.ssh_hub.specs.declared.history.HubCall.{HubCall}
use Rattle.ssh_hub.specs.declared.history.HubCall.TheVariants.{
  ReserveBytes,
  ReleaseBytes,
  PutCommand,
  PutAnswer,
  TakeNext,
  MakeReady,
  GrantBytes,
  DeliverMsg,
  ReceiveMsg,
  AnswerTicket,
  TakeOutcome,
  EndHub,
  AskEnded,
  LookAt,
  ClaimChannel,
  DrawSlot,
  AnswerSlot,
  TakeSlotAnswer,
  AskRefusal,
  Nudge,
  SplitSeat,
}
use Rattle.ssh_hub.specs.declared.history.HubReply.{HubReply}
use Rattle.ssh_hub.specs.declared.history.HubReply.TheVariants.{
  Reserved,
  WasPut,
  ReplyWasPut,
  Took,
  Delivered,
}
use Rattle.ssh_hub.specs.declared.history.Entry.{Entry}
use Rattle.ssh_hub.specs.declared.history.View.{View}
use Rattle.ssh_hub.proofs.Did.{did_one}

-- a bytes count that is left, where it is not 0
some_left : (left : ℕ) → eqb left 0 ≡ false → 0 < left
some_left zero e = absurd (cc e)
some_left (suc n) e = omega arith

reserve_open_fits : (ch : Channel) (c : ChannelId) (want : ℕ) (b : Bool) → eqb ch.left 0 ≡ b
    → Fits (ReserveBytes c want) (Reserved (reserve_open ch want b).1)
reserve_open_fits ch c want true is = tt
reserve_open_fits ch c want false is =
    let some : 0 < ch.left = some_left ch.left is in (omega arith, λ w. omega arith)

reserve_from_fits : (ch : Channel) (c : ChannelId) (want : ℕ) (b : Bool)
    → Fits (ReserveBytes c want) (Reserved (reserve_from ch want b).1)
reserve_from_fits ch c want true = tt
reserve_from_fits ch c want false = reserve_open_fits ch c want (eqb ch.left 0) refl

reserve_in_fits : (cs : Map Channel) (c : ChannelId) (want : ℕ) (ended : Option ℕ)
    (o : Option Channel) → Fits (ReserveBytes c want)
    (Reserved (reserve_in cs c.0 want ended o).1)
reserve_in_fits cs c want (Some at) o = tt
reserve_in_fits cs c want None None = tt
reserve_in_fits cs c want None (Some ch) = reserve_from_fits ch c want ch.is_closed

put_open_fits : (w : Held) (by n : ℕ) (m : Command) (spend : ℕ) (wanted b : Bool)
    → Fits (PutCommand m spend wanted) (WasPut (put_open w by n m wanted b).1)
put_open_fits w by n m spend wanted true = tt
put_open_fits w by n m spend wanted false = refl

put_fits : (w : Held) (by n : ℕ) (m : Command) (spend : ℕ) (wanted : Bool) (o : Option ℕ)
    → Fits (PutCommand m spend wanted) (WasPut (put_in w by n m wanted o).1)
put_fits w by n m spend wanted (Some at) = refl
put_fits w by n m spend wanted None = put_open_fits w by n m spend wanted
    (ltb (length w.commands) w.command_size)

reply_open_fits : (w : Held) (by : ℕ) (m : OpenAnswer) (b : Bool)
    → Fits (PutAnswer m) (ReplyWasPut (put_reply_open w by m b).1)
reply_open_fits w by m true = tt
reply_open_fits w by m false = refl

reply_fits : (w : Held) (by : ℕ) (m : OpenAnswer) (o : Option ℕ)
    → Fits (PutAnswer m) (ReplyWasPut (put_reply_in w by m o).1)
reply_fits w by m (Some at) = refl
reply_fits w by m None = reply_open_fits w by m (ltb (length w.replies) reply_size)

take_fits : (w : Held) (r c : Bool) (rs : List QueuedReply) (cs : List QueuedCommand)
    → Fits (TakeNext r c) (Took (take_first w (asked r rs) (asked c cs)).1)
take_fits w true true (q ∷ rs) cs = refl
take_fits w true false (q ∷ rs) cs = refl
take_fits w true true [] (q ∷ cs) = refl
take_fits w true true [] [] = tt
take_fits w true false [] cs = tt
take_fits w false true rs (q ∷ cs) = refl
take_fits w false true rs [] = tt
take_fits w false false rs cs = tt

deliver_open_fits : (ch : Channel) (c : ChannelId) (m : ChannelMsg) (b : Bool)
    → Fits (DeliverMsg c m) (Delivered (deliver_open ch m b).1)
deliver_open_fits ch c m true = tt
deliver_open_fits ch c m false = refl

deliver_to_fits : (ch : Channel) (c : ChannelId) (m : ChannelMsg) (b : Bool)
    → Fits (DeliverMsg c m) (Delivered (deliver_to ch m b).1)
deliver_to_fits ch c m true = refl
deliver_to_fits ch c m false = deliver_open_fits ch c m (ltb (length ch.inbox) ch.room)

deliver_fits : (cs : Map Channel) (c : ChannelId) (m : ChannelMsg) (o : Option Channel)
    → Fits (DeliverMsg c m) (Delivered (deliver_in cs c.0 m o).1)
deliver_fits cs c m None = refl
deliver_fits cs c m (Some ch) = deliver_to_fits ch c m ch.is_closed

-- the answer of each call says so
act_fits : (w : Held) (by had : ℕ) (c : HubCall) → Fits c (act w by had c).1
unfolding act
act_fits w by had (ReserveBytes c n) = reserve_in_fits w.channels c n w.ended (find c.0 w.channels)
act_fits w by had (ReleaseBytes c n) = tt
act_fits w by had (PutCommand m n b) = put_fits w by (min n had) m n b w.ended
act_fits w by had (PutAnswer m) = reply_fits w by m w.ended
act_fits w by had (TakeNext r c) = take_fits w r c w.replies w.commands
act_fits w by had (MakeReady c n p) = tt
act_fits w by had (GrantBytes c n) = tt
act_fits w by had (DeliverMsg c m) = deliver_fits w.channels c m (find c.0 w.channels)
act_fits w by had (ReceiveMsg c) = tt
act_fits w by had (AnswerTicket t o) = tt
act_fits w by had (TakeOutcome t) = tt
act_fits w by had EndHub = tt
act_fits w by had AskEnded = tt
act_fits w by had (LookAt c) = tt
act_fits w by had (ClaimChannel c) = tt
act_fits w by had DrawSlot = tt
act_fits w by had (AnswerSlot t a) = tt
act_fits w by had (TakeSlotAnswer t) = tt
act_fits w by had AskRefusal = tt
act_fits w by had Nudge = tt
act_fits w by had SplitSeat = tt

step_fits : (w : World) (by : ℕ) (c : HubCall) → Fits c (hub_step w by c).1
step_fits w by c = act_fits w.hub by (at_hand c (reservations by w)) c

abbrev EntriesFit : List Entry → Type 0
EntriesFit [] = Unit {0}
EntriesFit (e ∷ es) = Fits e.call e.reply × EntriesFit es

legal_fits : (w : World) (log : List Entry) → IsLegal w log → EntriesFit log
legal_fits w [] l = tt
legal_fits w (e ∷ es) l = (
  subst (λ (r : HubReply). Fits e.call r) (sym l.0) (step_fits w e.by e.call),
  legal_fits (hub_step w e.by e.call).0 es l.1,
)

kept_fit : (b : Bool) (e : Entry) (es : List Entry) → Fits e.call e.reply → EntriesFit es
    → EntriesFit (if b then (e ∷ es) else es)
kept_fit true e es one others = (one, others)
kept_fit false e es one others = others

own_fit : (n : ℕ) (log : List Entry) → EntriesFit log → EntriesFit (calls_by n log)
own_fit n [] f = tt
own_fit n (e ∷ es) f = kept_fit (eqb e.by n) e (calls_by n es) f.0 (own_fit n es f.1)

later_fit : (xs ys : List Entry) → EntriesFit (xs ++ ys) → EntriesFit ys
later_fit [] ys f = f
later_fit (x ∷ xs) ys f = later_fit xs ys f.1

calls_fit : (n : ℕ) (calls : List (HubCall × HubReply)) → EntriesFit (entries n calls)
    → AllFit calls
calls_fit n [] f = tt
calls_fit n (c ∷ cs) f = (f.0, calls_fit n cs f.1)

pub did_fit : (v : View) (calls : List (HubCall × HubReply)) (w : View) → Does v calls w
    → AllFit calls
did_fit v calls w d = calls_fit v.number calls (later_fit (calls_by v.number v.seen)
    (entries v.number calls)
    (subst EntriesFit d.own (own_fit v.number w.seen (legal_fits (opening w.config) w.seen d.legal))))

pub made_fits : (v : View) (c : HubCall) (r : HubReply) (w : View) → Makes v c r w → Fits c r
made_fits v c r w made = (did_fit v ((c, r) ∷ []) w (did_one v c r w made)).0

-- the parts that callers use, at an answer known by an equation

pub full_back : (v : View) (msg : Command) (spend : ℕ) (wanted : Bool) (r : Put) (w : View)
    (back : Command) → Makes v (PutCommand msg spend wanted) (WasPut r) w → r ≡ Full back
    → back ≡ msg
full_back v msg spend wanted r w back made is = subst
    (λ (x : Put). Fits (PutCommand msg spend wanted) (WasPut x)) is
    (made_fits v (PutCommand msg spend wanted) (WasPut r) w made)

pub ended_back : (v : View) (msg : Command) (spend : ℕ) (wanted : Bool) (r : Put) (w : View)
    (at : ℕ) (back : Command) → Makes v (PutCommand msg spend wanted) (WasPut r) w
    → r ≡ PutEnded at back → back ≡ msg
ended_back v msg spend wanted r w at back made is = subst
    (λ (x : Put). Fits (PutCommand msg spend wanted) (WasPut x)) is
    (made_fits v (PutCommand msg spend wanted) (WasPut r) w made)

pub reply_full_back : (v : View) (answer : OpenAnswer) (r : PutReply) (w : View) (back : OpenAnswer)
    → Makes v (PutAnswer answer) (ReplyWasPut r) w → r ≡ RepliesFull back → back ≡ answer
reply_full_back v answer r w back made is = subst
    (λ (x : PutReply). Fits (PutAnswer answer) (ReplyWasPut x)) is
    (made_fits v (PutAnswer answer) (ReplyWasPut r) w made)

pub got_within : (v : View) (c : ChannelId) (want : ℕ) (r : Reserve) (w : View) (n : ℕ)
    → Makes v (ReserveBytes c want) (Reserved r) w → r ≡ Got n → (n ≤ want) × (0 < want → 0 < n)
got_within v c want r w n made is = subst
    (λ (x : Reserve). Fits (ReserveBytes c want) (Reserved x)) is
    (made_fits v (ReserveBytes c want) (Reserved r) w made)
