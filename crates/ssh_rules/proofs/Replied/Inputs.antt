-- No more replies are sent than inputs want, of a measure of replies and by induction over a run
-- (RFC 4254 sections 4 and 5.4).
use Rattle.std.proofs.Common.{◌≡◌, ◌≤◌, ◌+◌, ℕ, List, [], ◌∷◌, ◌++◌, Bool, true, false}
use Rattle.std.proofs.Common.{cond, Option, Some, None, refl, sym, ◌∙◌, subst, inl, inr}
use Rattle.std.proofs.Common.{arith}
use Rattle.std.specs.Prelude.{drop}
use Rattle.ssh_wire.specs.declared.open.OpenChannelMessage.{OpenChannelMessage}
use Rattle.ssh_link.specs.declared.command.Command.TheVariants as command
use Rattle.ssh_link.specs.declared.frame.InputKind.{InputKind}
use Rattle.ssh_link.specs.declared.frame.InputKind.TheVariants as input
use Rattle.ssh_auth.specs.declared.question.Question.{Question}
use Rattle.ssh_auth.specs.Plan.{Plan, Event, Follows, asked_in}
use Rattle.ssh_auth.specs.Publickey.{Acceptance}
use Rattle.ssh_channels.specs.Lines.{next_number, drawn, drops_pending}
use Rattle.ssh_rules.specs.declared.exchange.Passage.{Passage}
use Rattle.ssh_rules.specs.declared.handling.Handling.{Handling}
use Rattle.ssh_rules.specs.declared.handling.Handling.TheVariants.{Asks, GivenUp, Unsupported, Unknown}
use Rattle.ssh_rules.specs.Acts.{acts}
use Rattle.ssh_rules.specs.Answered.{how_many, sends_answer}
use Rattle.ssh_rules.specs.Gate.{gate_of}
use Rattle.ssh_rules.specs.Opening.{Opening}
use Rattle.ssh_rules.specs.Opens.{failure_frame}
use Rattle.ssh_rules.specs.Outcome.{Outcome, Goes}
use Rattle.ssh_rules.specs.Reading.{Said, Open, Says}
use Rattle.ssh_rules.specs.Replied.{events_of}
use Rattle.ssh_rules.specs.Rows.{row, exchange_acts, open_acts, turns_away, waits}
use Rattle.ssh_rules.specs.Run.{Turn, Owes, OwesKind, asks_for_keys, command_row}
use Rattle.ssh_rules.specs.Ticks.{keepalive_acts}
use Rattle.ssh_rules.specs.Types.{handling, opening_by, given_up, unsupported, unknown}
use Rattle.ssh_rules.specs.World.{World, circumstances, hears, lined}
use Rattle.ssh_rules.proofs.Authorised.Run.{AllWalk}
use Rattle.ssh_rules.proofs.Plans.Acting.{PlanComes, ActsCome, acts_come, exchange_comes}
use Rattle.ssh_rules.proofs.Measure.Events.{Covered, covered, Allowed, input_allowed, still_low}
use Rattle.ssh_rules.proofs.Measure.Events.{asks_in, returned, left_through, Within}
use Rattle.ssh_rules.proofs.Measure.Events.{within_few, walks_within, follows_covered}
use Rattle.ssh_rules.proofs.Plans.Emptied.{nothing_left}
use Rattle.ssh_rules.proofs.Authorised.Guards.{Walks}
use Rattle.ssh_rules.proofs.Measure.Rows.{OfRead, row_upto, command_upto, tick_upto}
use Rattle.ssh_rules.proofs.Measure.Calls.{Measure, IsNoReply, how_many_both, how_many_same}
use Rattle.ssh_rules.proofs.Measure.Commands.{exchanged_upto}
use Rattle.ssh_rules.proofs.Measure.Commands.{owing, OwesUpTo, ComesUpTo, law, RequestOwes, writes_upto}
use Rattle.ssh_rules.proofs.Plans.Passing.{payload_so}
use Rattle.ssh_rules.proofs.Plans.Settled.{Anything}
use Rattle.ssh_rules.proofs.Plans.Telling.{kind_silent}
use Rattle.ssh_rules.proofs.Read.Wanting.{BytesSay, payload_says}

-- so many are left once this input came: one more, where it wants a reply
abbrev pub left_with : (wants : InputKind → Bool) → (left : ℕ) → InputKind → ℕ
left_with wants left kind = cond (wants kind) (left + 1) left

-- a measure of replies: no question and no open makes one, an answer to an open is none, and a
-- request makes one more where its input wants one
pub record Repays (of : Measure) (wants : InputKind → Bool) : Type 0 where
  pub never : (question : Question) → of.asks question ≡ false
  pub none_wait : (opens : List (ℕ × Opening)) → of.waiting opens ≡ 0
  pub apart : (m : ℕ) (payload : List ℕ) → IsNoReply (failure_frame m payload)
      → of.such (failure_frame m payload) ≡ false
  pub reads : (left : ℕ) (w : World) (payload : List ℕ) (said : Said)
      → OfRead (BytesSay w payload) said → OwesUpTo of left w
      → OfRead (RequestOwes of (left_with wants left (input.Payload payload)) w) said

asks_never : (of : Measure) (never : (question : Question) → of.asks question ≡ false)
    (question : Option Question) → asks_in of.asks question ≡ false
asks_never of never None = refl
asks_never of never (Some question) = never question

never_many : {X : Type 0} (xs : List X) → how_many (λ x. false) xs ≡ 0
never_many [] = refl
never_many (x ∷ xs) = never_many xs

more_step : (b : Bool) (left n m rest c : ℕ) → n + rest ≤ cond b (left + 1) left → m ≤ rest + c →
    n + m ≤ left + cond b (c + 1) c
more_step true left n m rest c h k = omega (arith, h, k)
more_step false left n m rest c h k = omega (arith, h, k)

-- where nothing comes, nothing is sent
none_few : {E F : Type 0} (of : Measure) (k : ℕ) (past span more : List (Turn E F)) →
    past ++ (span ++ more) ≡ [] → how_many (sends_answer of.such) (events_of span) ≤ k
none_few of k past [] more is = omega arith
none_few of k past (turn ∷ span) more is = absurd (nothing_left past turn (span ++ more) is)

module _ (of : Measure) (wants : InputKind → Bool) (pays : Repays of wants) where
  -- ---- rows

  waits_upto : (k m : ℕ) (opening : Opening) (w : World) → OwesUpTo of k w
      → OwesUpTo of k (waits m opening w)
  waits_upto k m opening w h =
      let before = pays.none_wait w.channels.opens in
      let later = pays.none_wait (waits m opening w).channels.opens in
      omega (arith, before, later, h)

  -- an open that is refused at once
  away_upto : (k m : ℕ) (payload : List ℕ) (w : World) → IsNoReply (failure_frame m payload)
      → OwesUpTo of k w → OwesUpTo of k (turns_away m payload w)
  away_upto k m payload w unlike h =
      writes_upto of k (failure_frame m payload ∷ [])
      (lined (λ l. drops_pending m (drawn (Some m) l)) w) (pays.apart m payload unlike, tt) h

  open_come : (k : ℕ) (number : Option ℕ) (message : OpenChannelMessage) (does : Handling)
      (w : World) → OwesUpTo of k w → ActsCome (law of k) (open_acts number message does) w
  open_come k None message (Asks type) w h = tt
  open_come k None message GivenUp w h = tt
  open_come k None message Unsupported w h = tt
  open_come k None message Unknown w h = tt
  open_come k (Some m) message (Asks type) w h =
      (waits_upto k m (opening_by message) w h, λ world j. tt)
  open_come k (Some m) message GivenUp w h =
      (away_upto k m (given_up message.recipient_channel) w (refl, refl) h, tt)
  open_come k (Some m) message Unsupported w h =
      (away_upto k m (unsupported message.recipient_channel) w (refl, refl) h, tt)
  open_come k (Some m) message Unknown w h =
      (away_upto k m (unknown message.recipient_channel) w (refl, refl) h, tt)

  row_come : (k : ℕ) (w : World) (moment : ℕ) (said : Said)
      → OfRead (RequestOwes of k w) said → OwesUpTo of k w
      → PlanComes Anything (ComesUpTo of k) (row w moment said)
  row_come k w moment (Open message) q h =
      let number = next_number w.channels.lines in
      let does = handling w.channels.no_more_sessions message.typ in
      acts_come (law of k) (open_acts number message does) w h (open_come k number message does w h)
  row_come k w moment said q h = row_upto of k w moment said tt q h

  -- ---- inputs

  payload_covered : (accepts : Acceptance) (left : ℕ) (w : World) (moment : ℕ)
      (payload : List ℕ) (said : Said)
      → Says (circumstances accepts w.settings moment) w (gate_of w payload) (drop 1 payload) said
      → OwesUpTo of left w
      → Covered of (left_with wants left (input.Payload payload)) (row w moment said)
  payload_covered accepts left w moment payload said says h =
      let k = left_with wants left (input.Payload payload) in
      covered of k k (row w moment said) (omega arith)
      (row_come k w moment said
      (pays.reads left w payload said
      (payload_says (circumstances accepts w.settings moment) w payload said says) h)
      (still_low (wants (input.Payload payload)) (owing of w) left h))

  -- a step of an exchange of keys makes none, nor does what does not come in one
  exchange_covered : (left : ℕ) (payload : List ℕ) (at : Passage) (w : World) → OwesUpTo of left w
      → Covered of left (acts (exchange_acts payload at) w)
  exchange_covered left payload at w h =
      covered of left left (acts (exchange_acts payload at) w) (omega arith)
      (exchange_comes (law of left) (exchanged_upto of left) payload at w h tt tt)

  -- where an input makes none by itself, as many are left as before, or one more
  plan_covered : (b : Bool) (left : ℕ) (plan : Plan Outcome)
      → PlanComes Anything (ComesUpTo of left) plan → Covered of (cond b (left + 1) left) plan
  plan_covered b left plan h =
      covered of left (cond b (left + 1) left) plan (still_low b left left (omega arith)) h

  kind_covered : (accepts : Acceptance) (left : ℕ) (w : World) (moment : ℕ) (kind : InputKind)
      (plan : Plan Outcome) → OwesKind accepts w moment kind plan → OwesUpTo of left w
      → Covered of (left_with wants left kind) plan
  kind_covered accepts left w moment input.End plan o h =
      rw o (still_low (wants input.End) (owing of w) left h)
  kind_covered accepts left w moment (input.Payload payload) plan o h =
      let v = hears payload w in
      let k = left_with wants left (input.Payload payload) in
      payload_so accepts v moment payload plan (Covered of k) o
      (λ said says. payload_covered accepts left v moment payload said says h)
      (λ at. exchange_covered k payload at v
      (still_low (wants (input.Payload payload)) (owing of v) left h))
  kind_covered accepts left w moment (input.Command ticket commanded) plan o h =
      rw o (plan_covered (wants (input.Command ticket commanded)) left
      (command_row w ticket commanded) (command_upto of left w ticket commanded h))
  kind_covered accepts left w moment (input.OpenReply ticket answer) plan o h =
      rw o (plan_covered (wants (input.OpenReply ticket answer)) left
      (command_row w ticket (command.Answer answer))
      (command_upto of left w ticket (command.Answer answer) h))
  kind_covered accepts left w moment input.KeepaliveTick plan o h =
      rw o (plan_covered (wants input.KeepaliveTick) left (acts (keepalive_acts w) w)
      (tick_upto of left w h))
  kind_covered accepts left w moment input.InactivityTick plan o h = rw o tt
  kind_covered accepts left w moment input.RekeyTick plan o h =
      rw o (still_low (wants input.RekeyTick) (owing of w) left h)

  turn_allowed : {E F : Type 0} (accepts : Acceptance) (left : ℕ) (w : World) (turn : Turn E F)
      (plan : Plan Outcome) → Owes accepts w turn.input plan → OwesUpTo of left w
      → Allowed of (left_with wants left turn.input.kind) plan
  turn_allowed accepts left w turn plan o h =
      rw o.2 (input_allowed of (asks_for_keys turn.input.kind)
      (left_with wants left turn.input.kind) o.0
      (kind_silent accepts w turn.input.moment turn.input.kind o.0 o.1)
      (kind_covered accepts left w turn.input.moment turn.input.kind o.0 o.1 h))

  -- ---- events

  -- no more replies are sent than are left
  few_replies : {E F : Type 0} (left : ℕ) (events : List (Event E F)) → Within of left events
      → how_many (sends_answer of.such) events + left_through of left events ≤ left
  few_replies left events h =
      let few : how_many (sends_answer of.such) events + left_through of left events
      ≤ left + how_many (returned of.asks) events = within_few of left events h in
      let none : how_many (returned of.asks) events ≡ 0 =
      how_many_same (returned of.asks) (λ event. false) events
      (λ event. asks_never of pays.never (asked_in event)) ∙ never_many events in
      omega (arith, few, none)

  turn_few : {E F : Type 0} (accepts : Acceptance) (left : ℕ) (w : World) (turn : Turn E F)
      (plan : Plan Outcome) → Owes accepts w turn.input plan → OwesUpTo of left w
      → Walks plan turn.events → how_many (sends_answer of.such) turn.events
      + left_through of (left_with wants left turn.input.kind) turn.events
      ≤ left_with wants left turn.input.kind
  turn_few accepts left w turn plan o h walks =
      let k = left_with wants left turn.input.kind in
      few_replies k turn.events
      (walks_within of k plan turn.events (turn_allowed accepts left w turn plan o h) walks)

  -- after an input as many are left as it left
  turn_owed : {E F : Type 0} (accepts : Acceptance) (left : ℕ) (w : World) (turn : Turn E F)
      (plan : Plan Outcome) (mid : World) → Owes accepts w turn.input plan → OwesUpTo of left w
      → Follows plan turn.events (Goes mid)
      → OwesUpTo of (left_through of (left_with wants left turn.input.kind) turn.events) mid
  turn_owed accepts left w turn plan mid o h f =
      follows_covered of (left_with wants left turn.input.kind) plan turn.events mid
      (turn_allowed accepts left w turn plan o h) f

  -- ---- a run

  -- one input and then more
  turns_few : {E F : Type 0} (accepts : Acceptance) (left : ℕ) (w : World) (turn : Turn E F)
      (turns : List (Turn E F)) (plan : Plan Outcome) → Owes accepts w turn.input plan
      → OwesUpTo of left w → Walks plan turn.events
      → how_many (sends_answer of.such) (events_of turns)
      ≤ left_through of (left_with wants left turn.input.kind) turn.events
      + how_many (λ t. wants t.input.kind) turns
      → how_many (sends_answer of.such) (events_of (turn ∷ turns))
      ≤ left + how_many (λ t. wants t.input.kind) (turn ∷ turns)
  turns_few accepts left w turn turns plan o h walks more =
      let both = how_many_both (sends_answer of.such) turn.events (events_of turns) in
      let all = more_step (wants turn.input.kind) left
      (how_many (sends_answer of.such) turn.events) (how_many (sends_answer of.such) (events_of turns))
      (left_through of (left_with wants left turn.input.kind) turn.events)
      (how_many (λ t. wants t.input.kind) turns)
      (turn_few accepts left w turn plan o h walks) more in
      omega (arith, both, all)

  pub past_few : {E F : Type 0} (accepts : Acceptance) (left : ℕ) (turns : List (Turn E F))
      (w : World) → AllWalk accepts w turns → OwesUpTo of left w → (past more : List (Turn E F))
      → turns ≡ past ++ more → how_many (sends_answer of.such) (events_of past)
      ≤ left + how_many (λ t. wants t.input.kind) past
  past_few accepts left [] w all h past more is =
      none_few of (left + how_many (λ t. wants t.input.kind) past) [] past more (sym is)
  past_few accepts left (t ∷ turns) w all h [] more is = omega arith
  past_few accepts left (t ∷ turns) w (plan, owes, walks, inl last, taken) h (p ∷ past) more is =
      let same : t ≡ p = cc in
      let rest : turns ≡ past ++ more = cc in
      subst (λ u. how_many (sends_answer of.such) (events_of (u ∷ past))
      ≤ left + how_many (λ t. wants t.input.kind) (u ∷ past)) same
      (turns_few accepts left w t past plan owes h walks
      (none_few of _ [] past more (sym rest ∙ last)))
  past_few accepts left (t ∷ turns) w (plan, owes, walks, inr next, taken) h (p ∷ past) more is =
      let same : t ≡ p = cc in
      let rest : turns ≡ past ++ more = cc in
      subst (λ u. how_many (sends_answer of.such) (events_of (u ∷ past))
      ≤ left + how_many (λ t. wants t.input.kind) (u ∷ past)) same
      (turns_few accepts left w t past plan owes h walks
      (past_few accepts (left_through of (left_with wants left t.input.kind) t.events) turns
      next.0 next.2 (turn_owed accepts left w t plan next.0 owes h next.1) past more rest))
