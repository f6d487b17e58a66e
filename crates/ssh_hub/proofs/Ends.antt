-- Where a hub ends.
use Rattle.std.proofs.Common.{
  ◌≡◌,
  ℕ,
  ◌+◌,
  min,
  Bool,
  true,
  false,
  cond,
  List,
  [],
  ◌∷◌,
  Option,
  Some,
  None,
  refl,
  ap,
  ◌∙◌,
}
use Rattle.ssh_hub.specs.World.{Held, World}
use Rattle.ssh_hub.specs.Reserved.{at_hand, reservations}
use Rattle.ssh_hub.specs.Lists.{asked}
use Rattle.ssh_hub.specs.Step.{opening, act, hub_step, ended_first}
use Rattle.ssh_hub.specs.History.{run}
use Rattle.ssh_hub.specs.Laws.{is_end, or_later, first_end}
use Rattle.ssh_hub.specs.declared.answers.Config2.{Config2}
use Rattle.ssh_hub.specs.declared.history.HubCall.{HubCall}
use Rattle.ssh_hub.specs.declared.history.HubCall.TheVariants.{
  ReserveBytes,
  ReleaseBytes,
  PutCommand,
  PutAnswer,
  TakeNext,
  MakeReady,
  GrantBytes,
  DeliverMsg,
  ReceiveMsg,
  AnswerTicket,
  TakeOutcome,
  EndHub,
  AskEnded,
  LookAt,
  ClaimChannel,
  DrawSlot,
  AnswerSlot,
  TakeSlotAnswer,
  AskRefusal,
  Nudge,
  SplitSeat,
}
use Rattle.ssh_hub.specs.declared.history.Entry.{Entry}
use Rattle.ssh_hub.proofs.Counts.{put_quiet, reply_quiet, take_quiet, answer_quiet, act_counts}

-- a call ends the hub, or leaves it as it was
act_ended : (w : Held) (by had : ℕ) (c : HubCall) → (act w by had c).0.ended
    ≡ cond (is_end c) (ended_first w.place w.ended) w.ended
unfolding act
act_ended w by had (ReserveBytes d n) = refl
act_ended w by had (ReleaseBytes d n) = refl
act_ended w by had (PutCommand m n b) = (put_quiet w by (min n had) m b w.ended).ended
act_ended w by had (PutAnswer m) = (reply_quiet w by m w.ended).ended
act_ended w by had (TakeNext r q) = (take_quiet w (asked r w.replies) (asked q w.commands)).ended
act_ended w by had (MakeReady d n p) = refl
act_ended w by had (GrantBytes d n) = refl
act_ended w by had (DeliverMsg d m) = refl
act_ended w by had (ReceiveMsg d) = refl
act_ended w by had (AnswerTicket t o) = (answer_quiet w t o w.due).ended
act_ended w by had (TakeOutcome t) = refl
act_ended w by had EndHub = refl
act_ended w by had AskEnded = refl
act_ended w by had (LookAt d) = refl
act_ended w by had (ClaimChannel d) = refl
act_ended w by had DrawSlot = refl
act_ended w by had (AnswerSlot t x) = refl
act_ended w by had (TakeSlotAnswer t) = refl
act_ended w by had AskRefusal = refl
act_ended w by had Nudge = refl
act_ended w by had SplitSeat = refl

-- where it has not ended, the later end counts
or_else : Option ℕ → Option ℕ → Option ℕ
or_else (Some at) later = Some at
or_else None later = later

ends_once : (b : Bool) (place : ℕ) (ended later : Option ℕ)
    → or_else (cond b (ended_first place ended) ended) later
    ≡ or_else ended (or_later b place later)
unfolding or_else
ends_once true place (Some at) later = refl
ends_once true place None later = refl
ends_once false place (Some at) later = refl
ends_once false place None later = refl

never_later : (ended : Option ℕ) → ended ≡ or_else ended None
unfolding or_else
never_later (Some at) = refl
never_later None = refl

ended_through : (w : World) (log : List Entry) → (run w log).hub.ended
    ≡ or_else w.hub.ended (first_end w.hub.place log)
ended_through w [] = never_later w.hub.ended
ended_through w (e ∷ es) =
    let next : World = (hub_step w e.by e.call).0 in
    let had : ℕ = at_hand e.call (reservations e.by w) in
    let h : Held = w.hub in
    let place : next.hub.place ≡ h.place + 1 = (act_counts h e.by had e.call).place in
    ended_through next es
    ∙ (ap (λ (o : Option ℕ). or_else o (first_end next.hub.place es)) (act_ended h e.by had e.call)
    ∙ (ap (λ (p : ℕ). or_else (cond (is_end e.call) (ended_first h.place h.ended) h.ended)
    (first_end p es)) place
    ∙ ends_once (is_end e.call) h.place h.ended (first_end (h.place + 1) es)))

-- the hub has ended at the place of the first end
pub ended_at_first : (k : Config2) (log : List Entry) → (run (opening k) log).hub.ended
    ≡ first_end 0 log
unfolding or_else
ended_at_first k log = ended_through (opening k) log
