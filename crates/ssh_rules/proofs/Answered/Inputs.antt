-- What may still be answered on a number, by inputs: an open of the peer's waits from its callback
-- on (RFC 4254 section 5.1).
use Rattle.std.proofs.Common.{◌≡◌, ◌≤◌, ◌+◌, ◌==◌, ℕ, List, [], ◌∷◌, Bool, true}
use Rattle.std.proofs.Common.{false, cond, Option, Some, None}
use Rattle.std.proofs.Common.{refl, ap, inl, inr, arith}
use Rattle.std.specs.Prelude.{◌⊎◌, drop}
use Rattle.ssh_wire.specs.declared.open.OpenChannelMessage.{OpenChannelMessage}
use Rattle.ssh_link.specs.declared.command.Command.{Command}
use Rattle.ssh_link.specs.declared.command.Command.TheVariants as command
use Rattle.ssh_link.specs.declared.frame.InputKind.{InputKind}
use Rattle.ssh_link.specs.declared.frame.InputKind.TheVariants as input
use Rattle.ssh_auth.specs.declared.question.Lent.TheVariants.{Opens}
use Rattle.ssh_auth.specs.declared.question.OpenType.{OpenType}
use Rattle.ssh_auth.specs.Plan.{Plan, Finish, Ask, Tell}
use Rattle.ssh_auth.specs.Publickey.{Acceptance}
use Rattle.ssh_channels.specs.Lines.{next_number}
use Rattle.ssh_rules.specs.declared.exchange.Passage.{Passage}
use Rattle.ssh_rules.specs.declared.gate.Gate.TheVariants as gate
use Rattle.ssh_rules.specs.declared.handling.Handling.{Handling}
use Rattle.ssh_rules.specs.declared.handling.Handling.TheVariants.{Asks, Unsupported, Unknown, GivenUp}
use Rattle.ssh_rules.specs.Acts.{Calls, acts, done_all}
use Rattle.ssh_rules.specs.Answered.{is_answer, is_answer_on, is_drawn, is_open}
use Rattle.ssh_rules.specs.Gate.{gate_of}
use Rattle.ssh_rules.specs.Opening.{Opening}
use Rattle.ssh_rules.specs.Opens.{own, failure_frame}
use Rattle.ssh_rules.specs.Outcome.{Outcome, Goes, Ends, Fails}
use Rattle.ssh_rules.specs.Reading.{Said, Open, Unread, Unfit, Without_packets, SaysOpen}
use Rattle.ssh_rules.specs.Rows.{row, open_acts, waits, asks_first, turns_first, exchange_acts}
use Rattle.ssh_rules.specs.Run.{OwesKind, command_row}
use Rattle.ssh_rules.specs.Types.{handling, opening_by, unsupported, unknown, given_up}
use Rattle.ssh_rules.specs.Ticks.{keepalive_acts}
use Rattle.ssh_rules.specs.World.{World, circumstances, hears, wants_if}
use Rattle.ssh_rules.proofs.Plans.Acting.{acts_come, exchange_comes}
use Rattle.ssh_rules.proofs.Answered.Measure.{inserted_count, answers_on, on_number, wants_owe}
use Rattle.ssh_rules.proofs.Answered.CallbackRows.{IsBesideOpen, beside_at, read_open}
use Rattle.ssh_rules.proofs.Measure.Events.{Covered, covered, asked_more}
use Rattle.ssh_rules.proofs.Measure.Calls.{Measure, one_if, lines_owe, how_many_one}
use Rattle.ssh_rules.proofs.Measure.Commands.{owing, law, exchanged_upto, OwesUpTo, RequestOwes}
use Rattle.ssh_rules.proofs.Measure.Rows.{OfRead, of_read, row_upto, command_upto, tick_upto}
use Rattle.ssh_rules.proofs.Measure.Commands.{lined_upto, same_lines}
use Rattle.ssh_rules.proofs.Plans.Passing.{payload_so}

waits_step : (b : Bool) (number left m : ℕ) (opening : Opening) (w : World) → (number == m) ≡ b →
    OwesUpTo (answers_on number) left w →
    owing (answers_on number) (waits m opening w) ≤ cond b (left + 1) left
waits_step true number left m opening w is h =
    let more = inserted_count number m opening w.channels.opens in
    let one : one_if (number == m) ≡ 1 = ap one_if is in
    omega (arith, more, one, h)
waits_step false number left m opening w is h =
    let more = inserted_count number m opening w.channels.opens in
    let same : one_if (number == m) ≡ 0 = ap one_if is in
    omega (arith, more, same, h)

-- an open waits from its drawing on, and its callback returns before anything else comes of it
open_covered : (number left m : ℕ) (opening : Opening) (type : OpenType) (w : World) →
    OwesUpTo (answers_on number) left w →
    Covered (answers_on number) left (acts (asks_first (Some m) opening type) w)
open_covered number left m opening type w h =
    let lent = Opens (own m) type in
    let k = cond (number == m) (left + 1) left in
    let v = waits m opening w in
    λ commands. covered (answers_on number) k k (done_all None 0 commands v (acts []))
    (omega arith)
    (acts_come (law (answers_on number) k) (Calls None lent ∷ []) v
    (waits_step (number == m) number left m opening w refl h) (λ world j. tt) commands tt)

-- the same, where something is asked at all; where nothing is, more answers may be left: one, which
-- was written on the number that the open drew
abbrev pub CoveredOnce : (number left most : ℕ) → Plan Outcome → Type 0
CoveredOnce number left most (Finish outcome) =
    Covered (answers_on number) most (Finish outcome)
CoveredOnce number left most plan = Covered (answers_on number) left plan

asked_low : (b : Bool) (left m : ℕ) → left ≤ m → cond b (left + 1) left ≤ cond b (m + 1) m
asked_low true left m l = omega (arith, l)
asked_low false left m l = l

-- where more are left, what is covered still is
pub covered_more : (of : Measure) (left m : ℕ) (plan : Plan Outcome) → left ≤ m →
    Covered of left plan → Covered of m plan
covered_more of left m (Finish (Goes w)) l h = omega (arith, l, h)
covered_more of left m (Finish (Ends w)) l h = omega (arith, l, h)
covered_more of left m (Finish (Fails fault)) l h = tt
covered_more of left m (Ask question next) l h = λ answer.
    covered_more of (asked_more of left question) (asked_more of m question) (next answer)
    (asked_low (of.asks question) left m l) (h answer)
covered_more of left m (Tell entry next) l h = covered_more of left m next l h

pub once_more : (number left most : ℕ) (plan : Plan Outcome) → left ≤ most →
    CoveredOnce number left most plan → Covered (answers_on number) most plan
once_more number left most (Finish outcome) l h = h
once_more number left most (Ask question next) l h =
    covered_more (answers_on number) left most (Ask question next) l h
once_more number left most (Tell entry next) l h =
    covered_more (answers_on number) left most (Tell entry next) l h

-- one more answer may be left where the open draws the number
abbrev pub most_on : (number left : ℕ) → (drawn : Option ℕ) → ℕ
most_on number left drawn = left + one_if (is_drawn number drawn)

-- an open that is refused at once has one answer written
away_covered : (number left : ℕ) (drawn : Option ℕ) (payload : List ℕ) (w : World) →
    OwesUpTo (answers_on number) left w →
    CoveredOnce number left (most_on number left drawn) (acts (turns_first drawn payload) w)
away_covered number left None payload w h = tt
away_covered number left (Some m) payload w h =
    let frame = failure_frame m payload in
    let one = how_many_one (is_answer_on number) w.channels.lines.written frame in
    let most : one_if (is_answer_on number frame) ≤ one_if (number == m) =
    on_number (number == m) (is_answer frame) in
    omega (arith, one, most, h)

opens_covered : (number left : ℕ) (drawn : Option ℕ) (message : OpenChannelMessage)
    (does : Handling) (w : World) → OwesUpTo (answers_on number) left w →
    CoveredOnce number left (most_on number left drawn) (acts (open_acts drawn message does) w)
opens_covered number left None message (Asks type) w h = tt
opens_covered number left (Some m) message (Asks type) w h =
    open_covered number left m (opening_by message) type w h
opens_covered number left drawn message GivenUp w h =
    away_covered number left drawn (given_up message.recipient_channel) w h
opens_covered number left drawn message Unsupported w h =
    away_covered number left drawn (unsupported message.recipient_channel) w h
opens_covered number left drawn message Unknown w h =
    away_covered number left drawn (unknown message.recipient_channel) w h

said_covered : (number left : ℕ) (w : World) (moment : ℕ) (fields : List ℕ) (said : Said) →
    SaysOpen fields said → OwesUpTo (answers_on number) left w →
    CoveredOnce number left (most_on number left (next_number w.channels.lines)) (row w moment said)
said_covered number left w moment fields (Open message) says h =
    opens_covered number left (next_number w.channels.lines) message
    (handling w.channels.no_more_sessions message.typ) w h
said_covered number left w moment fields Unread says h = tt
said_covered number left w moment fields Without_packets says h = tt
said_covered number left w moment fields (Unfit why) says h = tt
said_covered number left w moment fields _ says h = absurd says

-- a request makes no answer
requests_owe : (number k : ℕ) (w : World) (said : Said) → OwesUpTo (answers_on number) k w →
    OfRead (RequestOwes (answers_on number) k w) said
requests_owe number k w said h =
    of_read (RequestOwes (answers_on number) k w) said
    (λ channel wanted. lined_upto (answers_on number) k (wants_if wanted channel.0) w
    (wants_owe number (lines_owe (answers_on number) w.channels.lines) channel.0 wanted
    w.channels.lines (same_lines (answers_on number) w.channels.lines)) h) (λ wanted. h) (λ told.
    tt)

row_covered : (number left : ℕ) (w : World) (moment : ℕ) (said : Said) → IsBesideOpen said →
    OwesUpTo (answers_on number) left w → Covered (answers_on number) left (row w moment said)
row_covered number left w moment said beside h =
    covered (answers_on number) left left (row w moment said) (omega arith)
    (row_upto (answers_on number) left w moment said beside (requests_owe number left w said h) h)

-- a payload is a CHANNEL_OPEN, of which at most one more answer comes, on the number that it draws,
-- or none comes of it
abbrev pub CoveredPayload : (number left : ℕ) → World → InputKind → Plan Outcome → Type 0
CoveredPayload number left w kind plan = ((is_open kind ≡ true)
    × CoveredOnce number left (most_on number left (next_number w.channels.lines)) plan)
    ⊎ Covered (answers_on number) left plan

payload_covered : (number left : ℕ) (w : World) (moment : ℕ) (payload : List ℕ) (said : Said) →
    ((gate_of w payload ≡ gate.ChannelOpen) × SaysOpen (drop 1 payload) said) ⊎ IsBesideOpen said →
    OwesUpTo (answers_on number) left w →
    CoveredPayload number left w (input.Payload payload) (row w moment said)
payload_covered number left w moment payload said (inl at) h = inl (
  read_open w payload at.0,
  said_covered number left w moment (drop 1 payload) said at.1 h,
)
payload_covered number left w moment payload said (inr beside) h =
    inr (row_covered number left w moment said beside h)

-- no answer comes of an exchange of keys
passage_covered : (number left : ℕ) (w : World) (payload : List ℕ) (passage : Passage) →
    OwesUpTo (answers_on number) left w →
    Covered (answers_on number) left (acts (exchange_acts payload passage) w)
passage_covered number left w payload passage h =
    covered (answers_on number) left left (acts (exchange_acts payload passage) w) (omega arith)
    (exchange_comes (law (answers_on number) left) (exchanged_upto (answers_on number) left) payload
    passage w h tt tt)

command_covered : (number left : ℕ) (w : World) (ticket : ℕ) (commanded : Command) →
    OwesUpTo (answers_on number) left w →
    Covered (answers_on number) left (command_row w ticket commanded)
command_covered number left w ticket commanded h =
    covered (answers_on number) left left (command_row w ticket commanded) (omega arith)
    (command_upto (answers_on number) left w ticket commanded h)

pub kind_covered : (accepts : Acceptance) (number left : ℕ) (w : World) (moment : ℕ)
    (kind : InputKind) (plan : Plan Outcome) → OwesKind accepts w moment kind plan →
    OwesUpTo (answers_on number) left w → CoveredPayload number left w kind plan
kind_covered accepts number left w moment input.End plan o h = rw o (inr h)
kind_covered accepts number left w moment (input.Payload payload) plan o h =
    let v = hears payload w in
    payload_so accepts v moment payload plan (CoveredPayload number left v (input.Payload payload)) o
    (λ said says. payload_covered number left v moment payload said
    (beside_at (circumstances accepts v.settings moment) v (gate_of v payload) (drop 1 payload) said
    says) h)
    (λ passage. inr (passage_covered number left v payload passage h))
kind_covered accepts number left w moment (input.Command ticket commanded) plan o h =
    rw o (inr (command_covered number left w ticket commanded h))
kind_covered accepts number left w moment (input.OpenReply ticket answer) plan o h =
    rw o (inr (command_covered number left w ticket (command.Answer answer) h))
kind_covered accepts number left w moment input.KeepaliveTick plan o h =
    rw o (inr (covered (answers_on number) left left (acts (keepalive_acts w) w) (omega arith)
    (tick_upto (answers_on number) left w h)))
kind_covered accepts number left w moment input.InactivityTick plan o h = rw o (inr tt)
kind_covered accepts number left w moment input.RekeyTick plan o h = rw o (inr h)
