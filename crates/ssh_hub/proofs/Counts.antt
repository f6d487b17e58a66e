-- What a call does to the numbers that a hub draws.
use Rattle.std.proofs.Common.{
  ◌≡◌,
  ℕ,
  ◌+◌,
  ◌≤◌,
  min,
  ◌⊎◌,
  Bool,
  true,
  false,
  List,
  [],
  ◌∷◌,
  Some,
  None,
  Option,
  refl,
  inl,
  inr,
  arith,
  ltb,
  length,
  eqb,
}
use Rattle.ssh_link.specs.declared.command.Command.{Command}
use Rattle.ssh_link.specs.declared.open_answer.OpenAnswer.{OpenAnswer}
use Rattle.ssh_link.specs.declared.outcome.CommandOutcome.{CommandOutcome}
use Rattle.ssh_hub.specs.World.{Held}
use Rattle.ssh_hub.specs.Lists.{
  put_open,
  put_in,
  put_reply_open,
  put_reply_in,
  take_first,
  asked,
  reply_size,
}
use Rattle.ssh_hub.specs.Outcomes.{answered, settled_if}
use Rattle.ssh_hub.specs.Step.{act, counted}
use Rattle.ssh_hub.specs.Rule.{drawn_by}
use Rattle.ssh_hub.specs.declared.queued.QueuedCommand.{QueuedCommand}
use Rattle.ssh_hub.specs.declared.queued.QueuedReply.{QueuedReply}
use Rattle.ssh_hub.specs.declared.queued.Due.{Due}
use Rattle.ssh_hub.specs.declared.history.HubCall.{HubCall}
use Rattle.ssh_hub.specs.declared.history.HubCall.TheVariants.{
  ReserveBytes,
  ReleaseBytes,
  PutCommand,
  PutAnswer,
  TakeNext,
  MakeReady,
  GrantBytes,
  DeliverMsg,
  ReceiveMsg,
  AnswerTicket,
  TakeOutcome,
  EndHub,
  AskEnded,
  LookAt,
  ClaimChannel,
  DrawSlot,
  AnswerSlot,
  TakeSlotAnswer,
  AskRefusal,
  Nudge,
  SplitSeat,
}

-- no number is drawn but a ticket
pub record Quiet (w x : Held) : Type 0 where
  pub place : x.place ≡ w.place
  pub seats : x.seats ≡ w.seats
  pub slots : x.slots ≡ w.slots
  pub tickets : w.tickets ≤ x.tickets
  pub ticket : x.tickets ≤ w.tickets + 1
  pub ended : x.ended ≡ w.ended
  pub inbox : x.inbox_size ≡ w.inbox_size

put_open_quiet : (w : Held) (seat n : ℕ) (m : Command) (wanted : Bool) (b : Bool)
    → Quiet w (put_open w seat n m wanted b).0
put_open_quiet w seat n m wanted true = record {
  place = refl;
  seats = refl;
  slots = refl;
  tickets = omega arith;
  ticket = omega arith;
  ended = refl;
  inbox = refl;
}
put_open_quiet w seat n m wanted false = record {
  place = refl;
  seats = refl;
  slots = refl;
  tickets = omega arith;
  ticket = omega arith;
  ended = refl;
  inbox = refl;
}

pub put_quiet : (w : Held) (seat n : ℕ) (m : Command) (wanted : Bool) (o : Option ℕ)
    → Quiet w (put_in w seat n m wanted o).0
put_quiet w seat n m wanted (Some at) = record {
  place = refl;
  seats = refl;
  slots = refl;
  tickets = omega arith;
  ticket = omega arith;
  ended = refl;
  inbox = refl;
}
put_quiet w seat n m wanted None = put_open_quiet w seat n m wanted
    (ltb (length w.commands) w.command_size)

reply_open_quiet : (w : Held) (seat : ℕ) (m : OpenAnswer) (b : Bool)
    → Quiet w (put_reply_open w seat m b).0
reply_open_quiet w seat m true = record {
  place = refl;
  seats = refl;
  slots = refl;
  tickets = omega arith;
  ticket = omega arith;
  ended = refl;
  inbox = refl;
}
reply_open_quiet w seat m false = record {
  place = refl;
  seats = refl;
  slots = refl;
  tickets = omega arith;
  ticket = omega arith;
  ended = refl;
  inbox = refl;
}

pub reply_quiet : (w : Held) (seat : ℕ) (m : OpenAnswer) (o : Option ℕ)
    → Quiet w (put_reply_in w seat m o).0
reply_quiet w seat m (Some at) = record {
  place = refl;
  seats = refl;
  slots = refl;
  tickets = omega arith;
  ticket = omega arith;
  ended = refl;
  inbox = refl;
}
reply_quiet w seat m None = reply_open_quiet w seat m (ltb (length w.replies) reply_size)

pub take_quiet : (w : Held) (rs : List QueuedReply) (cs : List QueuedCommand)
    → Quiet w (take_first w rs cs).0
take_quiet w (r ∷ rs) cs = record {
  place = refl;
  seats = refl;
  slots = refl;
  tickets = omega arith;
  ticket = omega arith;
  ended = refl;
  inbox = refl;
}
take_quiet w [] (c ∷ cs) = record {
  place = refl;
  seats = refl;
  slots = refl;
  tickets = omega arith;
  ticket = omega arith;
  ended = refl;
  inbox = refl;
}
take_quiet w [] [] = record {
  place = refl;
  seats = refl;
  slots = refl;
  tickets = omega arith;
  ticket = omega arith;
  ended = refl;
  inbox = refl;
}

settled_quiet : (w : Held) (d : Due) (o : CommandOutcome) (b : Bool) → Quiet w (settled_if w d o b)
settled_quiet w d o true = record {
  place = refl;
  seats = refl;
  slots = refl;
  tickets = omega arith;
  ticket = omega arith;
  ended = refl;
  inbox = refl;
}
settled_quiet w d o false = record {
  place = refl;
  seats = refl;
  slots = refl;
  tickets = omega arith;
  ticket = omega arith;
  ended = refl;
  inbox = refl;
}

pub answer_quiet : (w : Held) (t : ℕ) (o : CommandOutcome) (d : Option Due)
    → Quiet w (answered w t o d)
answer_quiet w t o None = record {
  place = refl;
  seats = refl;
  slots = refl;
  tickets = omega arith;
  ticket = omega arith;
  ended = refl;
  inbox = refl;
}
answer_quiet w t o (Some d) = settled_quiet w d o (eqb d.ticket t)

-- every number that a call draws is the next one
pub record Counts (w x : Held) : Type 0 where
  pub place : x.place ≡ w.place + 1
  pub seats : w.seats ≤ x.seats
  pub seat : x.seats ≤ w.seats + 1
  pub tickets : w.tickets ≤ x.tickets
  pub ticket : x.tickets ≤ w.tickets + 1
  pub slots : w.slots ≤ x.slots
  pub slot : x.slots ≤ w.slots + 1
  pub inbox : x.inbox_size ≡ w.inbox_size

quiet_counts : (w x : Held) → Quiet w x → Counts w (counted x)
quiet_counts w x q = let p = q.place in let s = q.seats in let l = q.slots in
    record {
      place = omega arith;
      seats = omega arith;
      seat = omega arith;
      tickets = q.tickets;
      ticket = q.ticket;
      slots = omega arith;
      slot = omega arith;
      inbox = q.inbox;
    }

still_counts : (w x : Held) → x.place ≡ w.place + 1 → x.seats ≡ w.seats → x.tickets ≡ w.tickets
    → x.slots ≡ w.slots → x.inbox_size ≡ w.inbox_size → Counts w x
still_counts w x p s t l i = record {
  place = p;
  seats = omega arith;
  seat = omega arith;
  tickets = omega arith;
  ticket = omega arith;
  slots = omega arith;
  slot = omega arith;
  inbox = i;
}

pub act_counts : (w : Held) (by had : ℕ) (c : HubCall) → Counts w (counted (act w by had c).0)
unfolding act
act_counts w by had (ReserveBytes c n) = still_counts _ _ refl refl refl refl refl
act_counts w by had (ReleaseBytes c n) = still_counts _ _ refl refl refl refl refl
act_counts w by had (PutCommand m n b) = quiet_counts _ _ (put_quiet w by (min n had) m b w.ended)
act_counts w by had (PutAnswer m) = quiet_counts _ _ (reply_quiet w by m w.ended)
act_counts w by had (TakeNext r c) = quiet_counts _ _
    (take_quiet w (asked r w.replies) (asked c w.commands))
act_counts w by had (MakeReady c n p) = still_counts _ _ refl refl refl refl refl
act_counts w by had (GrantBytes c n) = still_counts _ _ refl refl refl refl refl
act_counts w by had (DeliverMsg c m) = still_counts _ _ refl refl refl refl refl
act_counts w by had (ReceiveMsg c) = still_counts _ _ refl refl refl refl refl
act_counts w by had (AnswerTicket t o) = quiet_counts _ _ (answer_quiet w t o w.due)
act_counts w by had (TakeOutcome t) = still_counts _ _ refl refl refl refl refl
act_counts w by had EndHub = still_counts _ _ refl refl refl refl refl
act_counts w by had AskEnded = still_counts _ _ refl refl refl refl refl
act_counts w by had (LookAt c) = still_counts _ _ refl refl refl refl refl
act_counts w by had (ClaimChannel c) = still_counts _ _ refl refl refl refl refl
act_counts w by had DrawSlot = record {
  place = refl;
  seats = omega arith;
  seat = omega arith;
  tickets = omega arith;
  ticket = omega arith;
  slots = omega arith;
  slot = omega arith;
  inbox = refl;
}
act_counts w by had (AnswerSlot t a) = still_counts _ _ refl refl refl refl refl
act_counts w by had (TakeSlotAnswer t) = still_counts _ _ refl refl refl refl refl
act_counts w by had AskRefusal = still_counts _ _ refl refl refl refl refl
act_counts w by had Nudge = still_counts _ _ refl refl refl refl refl
act_counts w by had SplitSeat = record {
  place = refl;
  seats = omega arith;
  seat = omega arith;
  tickets = omega arith;
  ticket = omega arith;
  slots = omega arith;
  slot = omega arith;
  inbox = refl;
}

-- a call draws no seat number, or the next one
pub act_draws : (w : Held) (by had : ℕ) (c : HubCall)
    → ((drawn_by c (act w by had c).1 None ≡ None) × ((act w by had c).0.seats ≡ w.seats))
    ⊎ ((drawn_by c (act w by had c).1 None ≡ Some (w.seats + 1))
    × ((act w by had c).0.seats ≡ w.seats + 1))
unfolding act
act_draws w by had (ReserveBytes c n) = inl (refl, refl)
act_draws w by had (ReleaseBytes c n) = inl (refl, refl)
act_draws w by had (PutCommand m n b) = inl (refl, (put_quiet w by (min n had) m b w.ended).seats)
act_draws w by had (PutAnswer m) = inl (refl, (reply_quiet w by m w.ended).seats)
act_draws w by had (TakeNext r c) = inl (
  refl,
  (take_quiet w (asked r w.replies) (asked c w.commands)).seats,
)
act_draws w by had (MakeReady c n p) = inl (refl, refl)
act_draws w by had (GrantBytes c n) = inl (refl, refl)
act_draws w by had (DeliverMsg c m) = inl (refl, refl)
act_draws w by had (ReceiveMsg c) = inl (refl, refl)
act_draws w by had (AnswerTicket t o) = inl (refl, (answer_quiet w t o w.due).seats)
act_draws w by had (TakeOutcome t) = inl (refl, refl)
act_draws w by had EndHub = inl (refl, refl)
act_draws w by had AskEnded = inl (refl, refl)
act_draws w by had (LookAt c) = inl (refl, refl)
act_draws w by had (ClaimChannel c) = inl (refl, refl)
act_draws w by had DrawSlot = inl (refl, refl)
act_draws w by had (AnswerSlot t a) = inl (refl, refl)
act_draws w by had (TakeSlotAnswer t) = inl (refl, refl)
act_draws w by had AskRefusal = inl (refl, refl)
act_draws w by had Nudge = inl (refl, refl)
act_draws w by had SplitSeat = inr (refl, refl)

-- the place is counted apart
pub place_kept : (w : Held) (by had : ℕ) (c : HubCall) → (act w by had c).0.place ≡ w.place
place_kept w by had c = let p = (act_counts w by had c).place in omega arith
