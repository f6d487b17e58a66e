-- What is taken is what was put first.
use Rattle.std.proofs.Common.{
  ◌≡◌,
  ℕ,
  ◌+◌,
  min,
  List,
  [],
  ◌∷◌,
  ◌++◌,
  refl,
  ap,
  sym,
  ◌∙◌,
  append_assoc,
  append-nil,
  Bool,
  true,
  false,
  ltb,
  length,
  subst,
  Option,
  Some,
  None,
  map,
  eqb,
}
use mathlib.Core.List.{IsPrefix, map-append}
use Rattle.ssh_link.specs.declared.command.Command.{Command}
use Rattle.ssh_link.specs.declared.open_answer.OpenAnswer.{OpenAnswer}
use Rattle.ssh_link.specs.declared.outcome.CommandOutcome.{CommandOutcome}
use Rattle.ssh_hub.specs.World.{Held, World}
use Rattle.ssh_hub.specs.Reserved.{at_hand, reservations}
use Rattle.ssh_hub.specs.Lists.{
  put_open,
  put_in,
  put_reply_open,
  put_reply_in,
  take_first,
  asked,
  reply_size,
}
use Rattle.ssh_hub.specs.Outcomes.{answered, settled_if}
use Rattle.ssh_hub.specs.Step.{opening, act, hub_step}
use Rattle.ssh_hub.specs.History.{run, IsLegal}
use Rattle.ssh_hub.specs.Laws.{
  put_command,
  taken_command,
  put_reply,
  taken_reply,
  commands_put,
  commands_taken,
  replies_put,
  replies_taken,
}
use Rattle.ssh_hub.specs.declared.answers.Config2.{Config2}
use Rattle.ssh_hub.specs.declared.queued.QueuedCommand.{QueuedCommand}
use Rattle.ssh_hub.specs.declared.queued.QueuedReply.{QueuedReply}
use Rattle.ssh_hub.specs.declared.queued.Due.{Due}
use Rattle.ssh_hub.specs.declared.answers.Taken.TheVariants.{Command as TakenCommand}
use Rattle.ssh_hub.specs.declared.history.HubCall.{HubCall}
use Rattle.ssh_hub.specs.declared.history.HubCall.TheVariants.{
  ReserveBytes,
  ReleaseBytes,
  PutCommand,
  PutAnswer,
  TakeNext,
  MakeReady,
  GrantBytes,
  DeliverMsg,
  ReceiveMsg,
  AnswerTicket,
  TakeOutcome,
  EndHub,
  AskEnded,
  LookAt,
  ClaimChannel,
  DrawSlot,
  AnswerSlot,
  TakeSlotAnswer,
  AskRefusal,
  Nudge,
  SplitSeat,
}
use Rattle.ssh_hub.specs.declared.history.HubReply.{HubReply}
use Rattle.ssh_hub.specs.declared.history.HubReply.TheVariants.{WasPut, ReplyWasPut, Took}
use Rattle.ssh_hub.specs.declared.history.Entry.{Entry}
use Rattle.ssh_hub.proofs.Histories.{legal_parts}

abbrev pub waiting_commands : Held → List (ℕ × Command)
waiting_commands w = map (λ q. (q.ticket, q.command)) w.commands

abbrev pub waiting_replies : Held → List (ℕ × OpenAnswer)
waiting_replies w = map (λ q. (q.ticket, q.answer)) w.replies

-- what waits and what a call puts is what it takes and what waits then
pub record Goes (w : Held) (c : HubCall) (x : Held) (r : HubReply) : Type 0 where
  pub commands : waiting_commands w ++ put_command c r ≡ taken_command r ++ waiting_commands x
  pub replies : waiting_replies w ++ put_reply c r ≡ taken_reply r ++ waiting_replies x

goes_still : (w : Held) → Goes w Nudge w
    Rattle.ssh_hub.specs.declared.history.HubReply.TheVariants.Done
goes_still w = record {
  commands = append-nil (waiting_commands w);
  replies = append-nil (waiting_replies w);
}

put_open_goes : (w : Held) (seat n k : ℕ) (m : Command) (wanted : Bool) (b : Bool)
    → Goes w (PutCommand m k wanted) (put_open w seat n m wanted b).0
    (WasPut (put_open w seat n m wanted b).1)
put_open_goes w seat n k m wanted true =
    record {
      commands = sym (map-append (λ (q : QueuedCommand). let p : ℕ × Command =
          (q.ticket, q.command) in p) w.commands (record {
            ticket = w.tickets + 1;
            seat = seat;
            wanted = wanted;
            command = m;
          } ∷ []));
      replies = append-nil (waiting_replies w);
    }
put_open_goes w seat n k m wanted false = record {
  commands = append-nil (waiting_commands w);
  replies = append-nil (waiting_replies w);
}

put_goes : (w : Held) (seat n k : ℕ) (m : Command) (wanted : Bool) (o : Option ℕ)
    → Goes w (PutCommand m k wanted) (put_in w seat n m wanted o).0
    (WasPut (put_in w seat n m wanted o).1)
put_goes w seat n k m wanted (Some at) = record {
  commands = append-nil (waiting_commands w);
  replies = append-nil (waiting_replies w);
}
put_goes w seat n k m wanted None = put_open_goes w seat n k m wanted
    (ltb (length w.commands) w.command_size)

reply_open_goes : (w : Held) (seat : ℕ) (m : OpenAnswer) (b : Bool) → Goes w (PutAnswer m)
    (put_reply_open w seat m b).0 (ReplyWasPut (put_reply_open w seat m b).1)
reply_open_goes w seat m true = record {
  commands = append-nil (waiting_commands w);
  replies = sym (map-append (λ (q : QueuedReply). let p : ℕ × OpenAnswer = (q.ticket, q.answer) in
      p) w.replies (record { ticket = w.tickets + 1; seat = seat; answer = m } ∷ []));
}
reply_open_goes w seat m false = record {
  commands = append-nil (waiting_commands w);
  replies = append-nil (waiting_replies w);
}

reply_goes : (w : Held) (seat : ℕ) (m : OpenAnswer) (o : Option ℕ) → Goes w (PutAnswer m)
    (put_reply_in w seat m o).0 (ReplyWasPut (put_reply_in w seat m o).1)
reply_goes w seat m (Some at) = record {
  commands = append-nil (waiting_commands w);
  replies = append-nil (waiting_replies w);
}
reply_goes w seat m None = reply_open_goes w seat m (ltb (length w.replies) reply_size)

take_command_goes : (w : Held) (b c : Bool) (cs : List QueuedCommand) → cs ≡ w.commands
    → Goes w (TakeNext b c) (take_first w [] (asked c cs)).0 (Took (take_first w [] (asked c cs)).1)
take_command_goes w b true (q ∷ cs) is = record {
  commands = append-nil (waiting_commands w)
      ∙ ap (map (λ (q : QueuedCommand). let p : ℕ × Command = (q.ticket, q.command) in p)) (sym is);
  replies = append-nil (waiting_replies w);
}
take_command_goes w b true [] is = record {
  commands = append-nil (waiting_commands w);
  replies = append-nil (waiting_replies w);
}
take_command_goes w b false cs is = record {
  commands = append-nil (waiting_commands w);
  replies = append-nil (waiting_replies w);
}

take_goes : (w : Held) (b c : Bool) (rs : List QueuedReply) → rs ≡ w.replies
    → Goes w (TakeNext b c) (take_first w (asked b rs) (asked c w.commands)).0
    (Took (take_first w (asked b rs) (asked c w.commands)).1)
take_goes w true c (q ∷ rs) is = record {
  commands = append-nil (waiting_commands w);
  replies = append-nil (waiting_replies w)
      ∙ ap (map (λ (q : QueuedReply). let p : ℕ × OpenAnswer = (q.ticket, q.answer) in p)) (sym is);
}
take_goes w true c [] is = take_command_goes w true c w.commands refl
take_goes w false c rs is = take_command_goes w false c w.commands refl

settled_commands : (w : Held) (d : Due) (o : CommandOutcome) (b : Bool)
    → ((settled_if w d o b).commands ≡ w.commands) × ((settled_if w d o b).replies ≡ w.replies)
settled_commands w d o true = (refl, refl)
settled_commands w d o false = (refl, refl)

answer_commands : (w : Held) (t : ℕ) (o : CommandOutcome) (d : Option Due)
    → ((answered w t o d).commands ≡ w.commands) × ((answered w t o d).replies ≡ w.replies)
answer_commands w t o None = (refl, refl)
answer_commands w t o (Some d) = settled_commands w d o (eqb d.ticket t)

pub act_goes : (w : Held) (by had : ℕ) (c : HubCall) → Goes w c (act w by had c).0
    (act w by had c).1
unfolding act
act_goes w by had (ReserveBytes c n) = record {
  commands = append-nil (waiting_commands w);
  replies = append-nil (waiting_replies w);
}
act_goes w by had (ReleaseBytes c n) = record {
  commands = append-nil (waiting_commands w);
  replies = append-nil (waiting_replies w);
}
act_goes w by had (PutCommand m n b) = let g = put_goes w by (min n had) n m b w.ended in
    record { commands = g.commands; replies = g.replies }
act_goes w by had (PutAnswer m) = let g = reply_goes w by m w.ended in
    record { commands = g.commands; replies = g.replies }
act_goes w by had (TakeNext r c) = let g = take_goes w r c w.replies refl in
    record { commands = g.commands; replies = g.replies }
act_goes w by had (MakeReady c n p) = record {
  commands = append-nil (waiting_commands w);
  replies = append-nil (waiting_replies w);
}
act_goes w by had (GrantBytes c n) = record {
  commands = append-nil (waiting_commands w);
  replies = append-nil (waiting_replies w);
}
act_goes w by had (DeliverMsg c m) = record {
  commands = append-nil (waiting_commands w);
  replies = append-nil (waiting_replies w);
}
act_goes w by had (ReceiveMsg c) = record {
  commands = append-nil (waiting_commands w);
  replies = append-nil (waiting_replies w);
}
act_goes w by had (AnswerTicket t o) = let a = answer_commands w t o w.due in
    record {
      commands = append-nil (waiting_commands w)
          ∙ ap (map (λ (q : QueuedCommand). let p : ℕ × Command = (q.ticket, q.command) in p))
          (sym a.0);
      replies = append-nil (waiting_replies w)
          ∙ ap (map (λ (q : QueuedReply). let p : ℕ × OpenAnswer = (q.ticket, q.answer) in p))
          (sym a.1);
    }
act_goes w by had (TakeOutcome t) = record {
  commands = append-nil (waiting_commands w);
  replies = append-nil (waiting_replies w);
}
act_goes w by had EndHub = record {
  commands = append-nil (waiting_commands w);
  replies = append-nil (waiting_replies w);
}
act_goes w by had AskEnded = record {
  commands = append-nil (waiting_commands w);
  replies = append-nil (waiting_replies w);
}
act_goes w by had (LookAt c) = record {
  commands = append-nil (waiting_commands w);
  replies = append-nil (waiting_replies w);
}
act_goes w by had (ClaimChannel c) = record {
  commands = append-nil (waiting_commands w);
  replies = append-nil (waiting_replies w);
}
act_goes w by had DrawSlot = record {
  commands = append-nil (waiting_commands w);
  replies = append-nil (waiting_replies w);
}
act_goes w by had (AnswerSlot t a) = record {
  commands = append-nil (waiting_commands w);
  replies = append-nil (waiting_replies w);
}
act_goes w by had (TakeSlotAnswer t) = record {
  commands = append-nil (waiting_commands w);
  replies = append-nil (waiting_replies w);
}
act_goes w by had AskRefusal = record {
  commands = append-nil (waiting_commands w);
  replies = append-nil (waiting_replies w);
}
act_goes w by had Nudge = record {
  commands = append-nil (waiting_commands w);
  replies = append-nil (waiting_replies w);
}
act_goes w by had SplitSeat = record {
  commands = append-nil (waiting_commands w);
  replies = append-nil (waiting_replies w);
}

-- what waits goes through a list: q is what waits first, p and t what the first entry puts and
-- takes, and n what waits then
joined : {X : Type 0} (q p t n puts takes last : List X) → q ++ p ≡ t ++ n → n ++ puts ≡ takes
    ++ last → q ++ (p ++ puts) ≡ (t ++ takes) ++ last
joined q p t n puts takes last one rec = sym (append_assoc q p puts)
    ∙ (ap (λ l. l ++ puts) one ∙ (append_assoc t n puts
    ∙ (ap (λ l. t ++ l) rec ∙ sym (append_assoc t takes last))))

legal_step : (w : World) (e : Entry) → e.reply ≡ (hub_step w e.by e.call).1
    → Goes w.hub e.call (hub_step w e.by e.call).0.hub e.reply
legal_step w e is =
    subst (λ (r : HubReply). Goes w.hub e.call (hub_step w e.by e.call).0.hub r) (sym is)
    (let g = act_goes w.hub e.by (at_hand e.call (reservations e.by w)) e.call in
    record { commands = g.commands; replies = g.replies })

commands_through : (w : World) (log : List Entry) → IsLegal w log → waiting_commands w.hub
    ++ commands_put log ≡ commands_taken log ++ waiting_commands (run w log).hub
commands_through w [] l = append-nil (waiting_commands w.hub)
commands_through w (e ∷ es) l = let next : World = (hub_step w e.by e.call).0 in
    joined (waiting_commands w.hub) (put_command e.call e.reply) (taken_command e.reply)
    (waiting_commands next.hub) (commands_put es) (commands_taken es)
    (waiting_commands (run next es).hub) (legal_step w e l.0).commands
    (commands_through next es l.1)

replies_through : (w : World) (log : List Entry) → IsLegal w log → waiting_replies w.hub
    ++ replies_put log ≡ replies_taken log ++ waiting_replies (run w log).hub
replies_through w [] l = append-nil (waiting_replies w.hub)
replies_through w (e ∷ es) l = let next : World = (hub_step w e.by e.call).0 in
    joined (waiting_replies w.hub) (put_reply e.call e.reply) (taken_reply e.reply)
    (waiting_replies next.hub) (replies_put es) (replies_taken es) (waiting_replies (run next es).hub)
    (legal_step w e l.0).replies (replies_through next es l.1)

pub commands_first : (k : Config2) (log : List Entry) → IsLegal (opening k) log
    → IsPrefix (commands_taken log) (commands_put log)
commands_first k log l = (
  waiting_commands (run (opening k) log).hub,
  sym (commands_through (opening k) log l),
)

pub replies_first : (k : Config2) (log : List Entry) → IsLegal (opening k) log
    → IsPrefix (replies_taken log) (replies_put log)
replies_first k log l = (
  waiting_replies (run (opening k) log).hub,
  sym (replies_through (opening k) log l),
)

-- a take that asks for replies and gives a command found no reply
none_waits : (w : Held) (c : Bool) (rs : List QueuedReply) (t : ℕ) (m : Command)
    → Took (Some (TakenCommand t m)) ≡ Took (take_first w rs (asked c w.commands)).1 → rs ≡ []
none_waits w c [] t m is = refl
none_waits w c (r ∷ rs) t m is = absurd (cc is)

took_as : (w : Held) (by : ℕ) (b c : Bool) → (act w by 0 (TakeNext b c)).1
    ≡ Took (take_first w (asked b w.replies) (asked c w.commands)).1
unfolding act
took_as w by b c = refl

pub answers_first : (k : Config2) (before after : List Entry) (e : Entry) (commands : Bool) (t : ℕ)
    (m : Command) → IsLegal (opening k) (before ++ e ∷ after) → e.call ≡ TakeNext true commands
    → e.reply ≡ Took (Some (TakenCommand t m)) → replies_taken before ≡ replies_put before
answers_first k before after e commands t m legal call reply =
    let x : World = run (opening k) before in
    let w : Held = x.hub in
    let parts = legal_parts (opening k) before (e ∷ after) legal in
    let said : Took (Some (TakenCommand t m))
    ≡ Took (take_first w (asked true w.replies) (asked commands w.commands)).1 = sym reply
    ∙ (parts.1.0 ∙ (ap (λ (c : HubCall). (hub_step x e.by c).1) call ∙ took_as w e.by true commands))
    in
    let none : w.replies ≡ [] = none_waits w commands w.replies t m said in
    sym (replies_through (opening k) before parts.0
    ∙ (ap (λ (rs : List QueuedReply). replies_taken before
    ++ map (λ (q : QueuedReply). let p : ℕ × OpenAnswer = (q.ticket, q.answer) in p) rs) none
    ∙ append-nil (replies_taken before)))
