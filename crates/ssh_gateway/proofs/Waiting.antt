-- From turn to turn each open that is to be decided waits in the session.
use Rattle.std.proofs.Common.{◌≡◌, ◌==◌, ◌≤◌, ◌+◌, ◌⊎◌, ℕ, List, [], ◌∷◌, ◌++◌, Bool, true, false}
use Rattle.std.proofs.Common.{cond, Option, Some, None, Ok, refl, sym, ◌∙◌, ap, subst, inl, inr, rules}
use Rattle.std.proofs.Common.{arith, append_assoc}
use Rattle.std.specs.Prelude.{flat_map, drop, if◌then◌else◌}
use Rattle.std.proofs.lemmas.List.{append-nil}
use Rattle.ssh_wire.specs.declared.channel_id.ChannelId.{ChannelId}
use Rattle.ssh_link.specs.Asked.{IsAsked}
use Rattle.ssh_link.specs.declared.command.Command.{Command}
use Rattle.ssh_link.specs.declared.command.Command.TheVariants as command
use Rattle.ssh_link.specs.declared.frame.Input.{Input}
use Rattle.ssh_link.specs.declared.frame.InputKind.{InputKind}
use Rattle.ssh_link.specs.declared.frame.InputKind.TheVariants as input
use Rattle.ssh_auth.specs.declared.call.Call.{Call}
use Rattle.ssh_auth.specs.declared.call.Call.TheVariants as called
use Rattle.ssh_auth.specs.declared.question.Happening.TheVariants as what
use Rattle.ssh_auth.specs.declared.question.Lent.TheVariants.{Opens, Happened}
use Rattle.ssh_auth.specs.declared.question.OpenType.TheVariants as type
use Rattle.ssh_auth.specs.declared.question.Question.{Question}
use Rattle.ssh_auth.specs.declared.question.Question.TheVariants as ask
use Rattle.ssh_auth.specs.Calls.{lent_call, judged_call}
use Rattle.ssh_auth.specs.Plan.{Event, Called, Stepped, Told, calls_in}
use Rattle.ssh_auth.specs.Publickey.{Acceptance}
use Rattle.ssh_auth.specs.Was.{Was, Banner_so, Admitted_so, was, asked_of, question_of}
use Rattle.ssh_auth.proofs.Back.{lent_back, judged_back}
use Rattle.ssh_handler.specs.OwnCalls.{is_own, own_calls}
use Rattle.ssh_rules.specs.Answered.{how_many, is_open, open_asked, open_returned}
use Rattle.ssh_rules.specs.Outcome.{Goes}
use Rattle.ssh_rules.specs.Valid.{recorded_so}
use Rattle.ssh_rules.specs.World.{World, in_exchange}
use Rattle.ssh_rules.proofs.Answered.CallbackEvents.{turn_called}
use Rattle.ssh_rules.proofs.Authorised.Guards.{follows_walks}
use Rattle.ssh_run_laws.specs.Channels.{answers_by, waits_on}
use Rattle.ssh_run_laws.specs.Deeds.{Deed, Commanded, Asked, Closed_by_peer, asked_by, deeds}
use Rattle.ssh_run_laws.specs.Deeds.{deeds_from, deeds_in, given_by, told_by}
use Rattle.ssh_gateway.specs.declared.deciding.Verdict.{Verdict}
use Rattle.ssh_gateway.specs.declared.deciding.Verdict.TheVariants.{Prohibited, Unreachable, Granted}
use Rattle.ssh_gateway.specs.declared.switchboard.Asking.{Asking}
use Rattle.ssh_gateway.specs.declared.targets.TargetCall.{TargetCall}
use Rattle.ssh_gateway.specs.Answering.{answered, records}
use Rattle.ssh_gateway.specs.Board.{Board, opening_board, noted, all_noted}
use Rattle.ssh_gateway.specs.Choosing.{Permits, Source, Decides, Sends, Ends, Closes, Waits, IsChosen}
use Rattle.ssh_gateway.specs.Choosing.{IsGiven, decided, own_kind, settled, to_decide}
use Rattle.ssh_gateway.specs.Laws.{all_deeds, answer_to}
use Rattle.ssh_gateway.specs.Turns.{Round, Rounds, IsRound, board_after, board_within}
use Rattle.ssh_gateway.proofs.Undecided.{AreApart, AreNew, Hold, IsNew, Spares, behind, behind_both}
use Rattle.ssh_gateway.proofs.Undecided.{behind_is, lent_deeds, lent_hold, new_both, opened_by}
use Rattle.ssh_gateway.proofs.Undecided.{opened_in, told_hold}

-- ---- the calls of an input

-- what a session's own callbacks are not asked records nothing, and is about no open
quiet_was : {E F : Type 0} (x : Was E) (events : List (Event E F)) → is_own (question_of x) ≡ false
    → asked_by (open_asked (question_of x)) ++ deeds_from 0 (recorded_so x) events ≡ []
quiet_was (Banner_so answer) events is = refl
quiet_was (Admitted_so admission answer) events is = refl
quiet_was x events is = absurd (cc)

-- no question is about an open
abbrev pub OpensNone : List Question → Type 0
OpensNone [] = Unit {0}
OpensNone (question ∷ questions) = (open_asked question ≡ None) × OpensNone questions

-- none of them is such a one
abbrev pub AreFree : (such : Question → Bool) → List Question → Type 0
AreFree such [] = Unit {0}
AreFree such (question ∷ questions) = (such question ≡ false) × AreFree such questions

-- of the questions that were answered by these calls, the first one that was answered by a call; those
-- before it are about no open
pub record Next {E : Type 0} (call : Call E) (calls : List (Call E)) (questions : List Question)
    : Type 0 where
  pub question : Question
  pub later : List Question
  pub is : answered question ≡ call ∷ []
  pub rest : calls ≡ flat_map answered later
  pub free : (such : Question → Bool) → AreFree such questions
      → (such question ≡ false) × AreFree such later
  opens : opened_in questions ≡ opened_by question ++ opened_in later
  none : OpensNone questions → (open_asked question ≡ None) × OpensNone later
  all : open_asked question ≡ None → OpensNone later → OpensNone questions

next_skips : {E : Type 0} (call : Call E) (calls : List (Call E)) (first : Question)
    (questions : List Question) → opened_by first ≡ [] → open_asked first ≡ None
    → Next call calls questions → Next call calls (first ∷ questions)
next_skips call calls first questions none about next = record {
  question = next.question;
  later = next.later;
  is = next.is;
  rest = next.rest;
  free = λ such free. next.free such free.1;
  opens = ap (λ l. l ++ opened_in questions) none ∙ next.opens;
  none = λ all. next.none all.1;
  all = λ here rest. (about, next.all here rest);
}

next_is : {E : Type 0} (call other : Call E) (calls : List (Call E)) (first : Question)
    (questions : List Question) → answered first ≡ other ∷ []
    → call ∷ calls ≡ other ∷ flat_map answered questions → Next call calls (first ∷ questions)
next_is {E} call other calls first questions is same = record {
  question = first;
  later = questions;
  is = is ∙ (let one : other ≡ call = cc in ap (λ c. c ∷ []) one);
  rest = cc;
  free = λ such free. free;
  opens = refl;
  none = λ all. all;
  all = λ here rest. (here, rest);
}

pub next_of : {E : Type 0} (call : Call E) (calls : List (Call E)) (questions : List Question)
    → call ∷ calls ≡ flat_map answered questions → Next call calls questions
next_of call calls [] same = absurd (cc)
next_of call calls (ask.Banner ∷ questions) same =
    next_skips call calls ask.Banner questions refl refl (next_of call calls questions same)
next_of call calls (ask.Admits admission ∷ questions) same =
    next_skips call calls (ask.Admits admission) questions refl refl
    (next_of call calls questions same)
next_of call calls (ask.Begins ∷ questions) same =
    next_skips call calls ask.Begins questions refl refl (next_of call calls questions same)
next_of call calls (ask.Steps payload ∷ questions) same =
    next_skips call calls (ask.Steps payload) questions refl refl
    (next_of call calls questions same)
next_of call calls (ask.Lends lent ∷ questions) same =
    next_is call _ calls (ask.Lends lent) questions refl same
next_of call calls (ask.Judges judged ∷ questions) same =
    next_is call _ calls (ask.Judges judged) questions refl same
next_of call calls (ask.Listens address port ∷ questions) same =
    next_is call _ calls (ask.Listens address port) questions refl same
next_of call calls (ask.Adjusts channel current ∷ questions) same =
    next_is call _ calls (ask.Adjusts channel current) questions refl same
next_of call calls (ask.Done place outcome ∷ questions) same =
    next_is call _ calls (ask.Done place outcome) questions refl same

opened_none : {E : Type 0} (questions : List Question)
    → flat_map {A = Call E} answered questions ≡ []
    → (opened_in questions ≡ []) × OpensNone questions
opened_none [] same = (refl, tt)
opened_none (ask.Banner ∷ questions) same = let rest = opened_none questions same in
    (rest.0, (refl, rest.1))
opened_none (ask.Admits admission ∷ questions) same = let rest = opened_none questions same in
    (rest.0, (refl, rest.1))
opened_none (ask.Begins ∷ questions) same = let rest = opened_none questions same in
    (rest.0, (refl, rest.1))
opened_none (ask.Steps payload ∷ questions) same = let rest = opened_none questions same in
    (rest.0, (refl, rest.1))
opened_none (question ∷ questions) same = absurd (cc)

-- a call by its question
abbrev call_deeds : {E F : Type 0} → Call E → List (Event E F) → List Deed
call_deeds call events =
    asked_by (open_asked (asked_of call)) ++ deeds_from 0 (recorded_so (was call)) events

-- its question is the one that it answers
asks_so : {E : Type 0} (question : Question) (call : Call E) → answered question ≡ call ∷ []
    → asked_of call ≡ question
asks_so {E} (ask.Lends lent) call is =
    let made : lent_call lent (Ok tt) (records lent) ≡ call = cc in
    ap asked_of (sym made) ∙ ap question_of (lent_back E lent (Ok tt) (records lent))
asks_so {E} (ask.Judges judged) call is =
    let made : judged_call judged (Ok false) [] ≡ call = cc in
    ap asked_of (sym made) ∙ ap question_of (judged_back E judged (Ok false) [])
asks_so (ask.Listens address port) call is =
    let made : called.TcpipForward address port port (Ok false) [] ≡ call = cc in
    ap asked_of (sym made)
asks_so (ask.Adjusts channel current) call is =
    let made : called.AdjustWindow channel current (Ok current) ≡ call = cc in
    ap asked_of (sym made)
asks_so (ask.Done place outcome) call is =
    let made : called.CommandDone place outcome (Ok tt) ≡ call = cc in
    ap asked_of (sym made)
asks_so question call is = absurd (cc)

silent_hold : {E F : Type 0} (past : List Deed) (all : List Asking) (call : Call E)
    (events : List (Event E F)) → call_deeds call events ≡ [] → Hold past all
    → Hold (behind past (call_deeds call events)) (all ++ [])
silent_hold past all call events none hold =
    subst (λ l. Hold (behind past l) (all ++ [])) (sym none)
    (subst (Hold past) (sym (append-nil all)) hold)

question_hold : {E F : Type 0} (past : List Deed) (all : List Asking) (question : Question)
    (call : Call E) (events : List (Event E F)) → answered question ≡ call ∷ []
    → AreNew past (call_deeds call events) → Hold past all
    → Hold (behind past (call_deeds call events)) (all ++ opened_by question)
question_hold {E} past all (ask.Lends lent) call events is new hold =
    let made : lent_call lent (Ok tt) (records lent) ≡ call = cc in
    let same : call_deeds call events ≡ lent_deeds lent events =
    ap (λ (x : Was E). asked_by (open_asked (question_of x)) ++ deeds_from 0 (recorded_so x) events)
    (ap was (sym made) ∙ lent_back E lent (Ok tt) (records lent)) in
    subst (λ l. Hold (behind past l) (all ++ opened_by (ask.Lends lent))) (sym same)
    (lent_hold past all lent events (subst (AreNew past) same new) hold)
question_hold {E} past all (ask.Judges judged) call events is new hold =
    let made : judged_call judged (Ok false) [] ≡ call = cc in
    silent_hold past all call events
    (ap (λ (x : Was E). asked_by (open_asked (question_of x)) ++ deeds_from 0 (recorded_so x) events)
    (ap was (sym made) ∙ judged_back E judged (Ok false) [])) hold
question_hold past all (ask.Listens address port) call events is new hold =
    let made : called.TcpipForward address port port (Ok false) [] ≡ call = cc in
    silent_hold past all call events (ap (λ c. call_deeds c events) (sym made)) hold
question_hold past all (ask.Adjusts channel current) call events is new hold =
    let made : called.AdjustWindow channel current (Ok current) ≡ call = cc in
    silent_hold past all call events (ap (λ c. call_deeds c events) (sym made)) hold
question_hold past all (ask.Done place outcome) call events is new hold =
    let made : called.CommandDone place outcome (Ok tt) ≡ call = cc in
    silent_hold past all call events (ap (λ c. call_deeds c events) (sym made)) hold
question_hold past all question call events is new hold = absurd (cc)

-- ---- an input

-- the command that an input gives, where it gives one, answers no open of this number
abbrev pub IsSpared : Option Command → ℕ → Type 0
IsSpared None number = Unit {0}
IsSpared (Some given) number = answers_by number given ≡ false

-- it answers none, or none is asked about in its input
abbrev pub Fits : Option Command → List Question → Type 0
Fits given questions = OpensNone questions ⊎ ((number : ℕ) → IsSpared given number)

spares_more : (given : Option Command) (all : List Asking) (one : Asking) → Spares given all
    → IsSpared given one.channel.0 → Spares given (all ++ one ∷ [])
spares_more None all one spares spared = tt
spares_more (Some given) [] one spares spared = (spared, tt)
spares_more (Some given) (asked ∷ more) one spares spared =
    (spares.0, spares_more (Some given) more one spares.1 spared)

spares_opened : (given : Option Command) (all : List Asking) (question : Question)
    → Spares given all → (open_asked question ≡ None) ⊎ ((number : ℕ) → IsSpared given number)
    → Spares given (all ++ opened_by question)
spares_opened given all (ask.Lends (Opens channel (type.DirectTcpip host port from from_port))) spares
    (inl none) = absurd (cc)
spares_opened given all (ask.Lends (Opens channel (type.DirectTcpip host port from from_port))) spares
    (inr never) = spares_more given all (record { channel = channel; host = host; port = port }) spares
    (never channel.0)
spares_opened given all question spares fits = subst (Spares given) (sym (append-nil all)) spares

fits_parted : {E : Type 0} (given : Option Command) (call : Call E) (calls : List (Call E))
    (questions : List Question) (next : Next call calls questions) → Fits given questions
    → ((open_asked next.question ≡ None) ⊎ ((number : ℕ) → IsSpared given number))
    × Fits given next.later
fits_parted given call calls questions next (inl none) =
    let both = next.none none in (inl both.0, inl both.1)
fits_parted given call calls questions next (inr never) = (inr never, inr never)

-- what an input leads to, from any of its events on
abbrev Walks : {E F : Type 0} → (given : Option Command) → List (Event E F) → Type 0
Walks given events = (questions : List Question) (past : List Deed) (all : List Asking)
    → own_calls (calls_in events) ≡ flat_map answered questions
    → AreNew past (deeds_in given events) → Hold past all → Spares given all
    → Fits given questions
    → Hold (behind past (deeds_in given events)) (all ++ opened_in questions)

called_walk : {E F : Type 0} (b : Bool) (given : Option Command) (call : Call E)
    (events : List (Event E F)) → is_own (asked_of call) ≡ b → Walks given events
    → Walks given (Called call ∷ events)
called_walk false given call events is more questions past all same new hold spares fits =
    let left : own_calls (call ∷ calls_in events) ≡ own_calls (calls_in events) = rw is refl in
    let less : deeds_in given (Called call ∷ events) ≡ deeds_in given events =
    ap (λ l. l ++ deeds_in given events) (quiet_was (was call) events is) in
    subst (λ l. Hold (behind past l) (all ++ opened_in questions)) (sym less)
    (more questions past all (sym left ∙ same) (subst (AreNew past) less new) hold spares fits)
called_walk true given call events is more questions past all same new hold spares fits =
    let kept : own_calls (call ∷ calls_in events) ≡ call ∷ own_calls (calls_in events) =
    rw is refl in
    let next = next_of call (own_calls (calls_in events)) questions (sym kept ∙ same) in
    let here = call_deeds call events in
    let parts = new_both past here (deeds_in given events) new in
    let fit = fits_parted given call (own_calls (calls_in events)) questions next fits in
    let held = question_hold past all next.question call events next.is parts.0 hold in
    let rest = more next.later (behind past here) (all ++ opened_by next.question) next.rest parts.1
    held (spares_opened given all next.question spares fit.0) fit.1 in
    subst (λ l. Hold l (all ++ opened_in questions))
    (sym (behind_both past here (deeds_in given events)))
    (subst (Hold (behind (behind past here) (deeds_in given events)))
    (append_assoc all (opened_by next.question) (opened_in next.later)
    ∙ ap (λ l. all ++ l) (sym next.opens)) rest)

walk : {E F : Type 0} (given : Option Command) (events : List (Event E F)) → Walks given events
walk {E} given [] questions past all same new hold spares fits =
    subst (Hold past) (sym (ap (λ l. all ++ l) ((opened_none {E = E} questions (sym same)).0)
    ∙ append-nil all)) hold
walk given (Stepped step ∷ events) questions past all same new hold spares fits =
    walk given events questions past all same new hold spares fits
walk given (Told entry ∷ events) questions past all same new hold spares fits =
    let parts = new_both past (told_by given entry) (deeds_in given events) new in
    subst (λ l. Hold l (all ++ opened_in questions))
    (sym (behind_both past (told_by given entry) (deeds_in given events)))
    (walk given events questions (behind past (told_by given entry)) all same parts.1
    (told_hold past all given entry spares hold) spares fits)
walk given (Called call ∷ events) questions past all same new hold spares fits =
    called_walk (is_own (asked_of call)) given call events refl (walk given events) questions past
    all same new hold spares fits

-- ---- an input in which no open is asked about

abbrev Counts : {E F : Type 0} → List (Event E F) → Type 0
Counts events = (questions : List Question)
    → own_calls (calls_in events) ≡ flat_map answered questions
    → how_many open_returned events ≤ 0 → OpensNone questions

asked_count : {E F : Type 0} (b : Bool) (about : Option ChannelId) (call : Call E)
    (events : List (Event E F)) → is_own (asked_of call) ≡ b → open_asked (asked_of call) ≡ about
    → Counts events → Counts (Called call ∷ events)
asked_count b (Some channel) call events is about more questions same few =
    absurd (let many : how_many open_returned (Called call ∷ events)
    ≡ how_many open_returned events + 1 = rw about refl in omega (arith, many, few))
asked_count false None call events is about more questions same few =
    let left : own_calls (call ∷ calls_in events) ≡ own_calls (calls_in events) = rw is refl in
    let fewer : how_many open_returned (Called call ∷ events) ≡ how_many open_returned events =
    rw about refl in
    more questions (sym left ∙ same) (subst (λ n. n ≤ 0) fewer few)
asked_count true None call events is about more questions same few =
    let kept : own_calls (call ∷ calls_in events) ≡ call ∷ own_calls (calls_in events) =
    rw is refl in
    let fewer : how_many open_returned (Called call ∷ events) ≡ how_many open_returned events =
    rw about refl in
    let next = next_of call (own_calls (calls_in events)) questions (sym kept ∙ same) in
    next.all (ap open_asked (sym (asks_so next.question call next.is)) ∙ about)
    (more next.later next.rest (subst (λ n. n ≤ 0) fewer few))

none_asked : {E F : Type 0} (events : List (Event E F)) → Counts events
none_asked {E} [] questions same few = (opened_none {E = E} questions (sym same)).1
none_asked (Stepped step ∷ events) questions same few = none_asked events questions same few
none_asked (Told entry ∷ events) questions same few = none_asked events questions same few
none_asked (Called call ∷ events) questions same few =
    asked_count (is_own (asked_of call)) (open_asked (asked_of call)) call events refl refl
    (none_asked events) questions same few

-- ---- a turn

noted_undecided : (question : Question) (board : Board)
    → (noted question board).undecided ≡ board.undecided ++ opened_by question
noted_undecided (ask.Lends (Opens channel (type.DirectTcpip host port from from_port))) board = refl
noted_undecided (ask.Lends (Happened channel what.Eof)) board = sym (append-nil board.undecided)
noted_undecided (ask.Lends (Happened channel what.Close)) board = sym (append-nil board.undecided)
noted_undecided question board = sym (append-nil board.undecided)

all_undecided : (questions : List Question) (board : Board)
    → (all_noted questions board).undecided ≡ board.undecided ++ opened_in questions
all_undecided [] board = sym (append-nil board.undecided)
all_undecided (question ∷ questions) board =
    all_undecided questions (noted question board)
    ∙ (ap (λ l. l ++ opened_in questions) (noted_undecided question board)
    ∙ append_assoc board.undecided (opened_by question) (opened_in questions))

first_undecided : (held : Bool) (all : List Asking) (asked : Asking) (later : List Asking)
    → cond held [] all ≡ asked ∷ later → all ≡ asked ∷ later
first_undecided true all asked later is = absurd (cc)
first_undecided false all asked later is = is

-- the oldest open that is to be decided
pub oldest : (w : World) (board : Board) (asked : Asking) (later : List Asking)
    → to_decide w board ≡ asked ∷ later → board.undecided ≡ asked ∷ later
oldest w board asked later is = first_undecided (in_exchange w) board.undecided asked later is

decided_rest : (channel : ChannelId) (verdict : Verdict) (board : Board)
    → (decided channel verdict board).undecided ≡ drop 1 board.undecided
decided_rest channel Prohibited board = refl
decided_rest channel Unreachable board = refl
decided_rest channel Granted board = refl

other_way : (n m : ℕ) → (n == m) ≡ false → (m == n) ≡ false
other_way n m h = search rules

decided_spares : (asked : Asking) (verdict : Verdict) (later : List Asking)
    → AreApart asked.channel.0 later
    → Spares (Some (command.Answer (answer_to asked verdict))) later
decided_spares asked verdict [] apart = tt
decided_spares asked verdict (one ∷ more) apart = (
  other_way asked.channel.0 one.channel.0 apart.0,
  decided_spares asked verdict more apart.1,
)

never_spares : (given : Command) (all : List Asking) → ((number : ℕ) → answers_by number given ≡ false)
    → Spares (Some given) all
never_spares given [] never = tt
never_spares given (asked ∷ more) never = (never asked.channel.0, never_spares given more never)

-- the opens that are left to be decided behind its input
record Left (source : Source) (board : Board) (past : List Deed) (input : Input)
    (questions : List Question) : Type 0 where
  hold : Hold past (settled source board).undecided
  spares : Spares (given_by input.kind) (settled source board).undecided
  fits : Fits (given_by input.kind) questions

left_given : (source : Source) (board : Board) (past : List Deed) (input : Input)
    (questions : List Question) (given : Command) → given_by input.kind ≡ Some given
    → (settled source board).undecided ≡ board.undecided
    → ((number : ℕ) → answers_by number given ≡ false) → Hold past board.undecided
    → Left source board past input questions
left_given source board past input questions given is same never hold = record {
  hold = subst (Hold past) (sym same) hold;
  spares = subst (λ g. Spares g (settled source board).undecided) (sym is)
      (never_spares given (settled source board).undecided never);
  fits = subst (λ g. Fits g questions) (sym is) (inr never);
}

link_gives : (kind : InputKind) → IsAsked false false kind → given_by kind ≡ None
link_gives (input.Command ticket given) is = absurd (cc)
link_gives (input.OpenReply ticket answer) is = absurd (cc)
link_gives kind is = refl

left : (permits : Permits) (w : World) (board : Board) (source : Source) (calls : List TargetCall)
    (ticket : ℕ) (given : Input) (past : List Deed) (questions : List Question)
    → IsChosen permits w board source calls → IsGiven (own_kind ticket source) board.moment given
    → (is_open given.kind ≡ false → OpensNone questions) → Hold past board.undecided
    → Left source board past given questions
left permits w board (Decides asked verdict) calls ticket given past questions chosen is none hold =
    let kind : given.kind ≡ input.OpenReply ticket (answer_to asked verdict) = ap (λ i. i.kind) is in
    let first = oldest w board asked chosen.0 chosen.1 in
    let rest : (settled (Decides asked verdict) board).undecided ≡ chosen.0 =
    decided_rest asked.channel verdict board ∙ ap (drop 1) first in
    let held = subst (Hold past) first hold in
    record {
      hold = subst (Hold past) (sym rest) held.2;
      spares = subst (λ k. Spares (given_by k) (settled (Decides asked verdict) board).undecided)
          (sym kind) (subst (Spares (Some (command.Answer (answer_to asked verdict)))) (sym rest)
          (decided_spares asked verdict chosen.0 held.1));
      fits = inl (none (ap is_open kind));
    }
left permits w board (Sends earlier one later bytes) calls ticket given past questions chosen is none
    hold =
    left_given (Sends earlier one later bytes) board past given questions
    (command.Data one.channel bytes) (ap (λ i. given_by i.kind) is) refl (λ number. refl) hold
left permits w board (Ends earlier one later) calls ticket given past questions chosen is none hold =
    left_given (Ends earlier one later) board past given questions (command.Eof one.channel)
    (ap (λ i. given_by i.kind) is) refl (λ number. refl) hold
left permits w board (Closes earlier one later) calls ticket given past questions chosen is none hold =
    left_given (Closes earlier one later) board past given questions (command.Close one.channel)
    (ap (λ i. given_by i.kind) is) refl (λ number. refl) hold
left permits w board Waits calls ticket given past questions chosen is none hold = record {
  hold = hold;
  spares = subst (λ g. Spares g board.undecided) (sym (link_gives given.kind is)) tt;
  fits = subst (λ g. Fits g questions) (sym (link_gives given.kind is)) (inr (λ number. tt));
}

round_hold : {E F : Type 0} (accepts : Acceptance) (permits : Permits) (board : Board) (w : World)
    (round : Round E F) (world : World) (past : List Deed)
    → IsRound accepts permits board w round (Goes world) → AreNew past (deeds round.turn)
    → Hold past board.undecided
    → Hold (behind past (deeds round.turn)) (board_after round board).undecided
round_hold accepts permits board w round world past is new hold =
    let kind = round.turn.input.kind in
    let few = turn_called accepts w round.turn is.comes.plan is.comes.owes
    (follows_walks is.comes.plan round.turn.events (Goes world) is.comes.follows) in
    let l = left permits w board round.source round.before (board.last_ticket + 1) round.turn.input past
    round.asked is.begins.chosen is.begins.given
    (λ closed. none_asked round.turn.events round.asked is.comes.answered
    (subst (λ b. how_many open_returned round.turn.events ≤ (if b then 1 else 0)) closed few)) hold in
    subst (Hold (behind past (deeds round.turn)))
    (sym (all_undecided round.asked (board_within round board)))
    (walk (given_by kind) round.turn.events round.asked past (settled round.source board).undecided
    is.comes.answered new l.hold l.spares l.fits)

rounds_hold : {E F : Type 0} (accepts : Acceptance) (permits : Permits) (board : Board) (w : World)
    (rounds : List (Round E F)) (board' : Board) (world : World) (past : List Deed)
    → Rounds accepts permits board w rounds board' world → AreNew past (all_deeds rounds)
    → Hold past board.undecided → Hold (behind past (all_deeds rounds)) board'.undecided
rounds_hold accepts permits board w [] board' world past run new hold =
    subst (λ (b : Board). Hold past b.undecided) (sym run.0) hold
rounds_hold accepts permits board w (round ∷ rounds) board' world past run new hold =
    let parts = new_both past (deeds round.turn) (all_deeds rounds) new in
    subst (λ l. Hold l board'.undecided)
    (sym (behind_both past (deeds round.turn) (all_deeds rounds)))
    (rounds_hold accepts permits (board_after round board) run.0 rounds board' world
    (behind past (deeds round.turn)) run.2 parts.1
    (round_hold accepts permits board w round run.0 past run.1 parts.0 hold))

-- ---- a run

abbrev Law : List Deed → Type 0
Law all = (before after : List Deed) (channel : ChannelId) → all ≡ before ++ Asked channel ∷ after
    → waits_on channel.0 before ≡ false

new_here : (all past : List Deed) (deed : Deed) (rest : List Deed) → Law all
    → all ≡ past ++ deed ∷ rest → IsNew past deed
new_here all past (Asked channel) rest law is = law past rest channel is
new_here all past (Commanded given outcome) rest law is = tt
new_here all past (Closed_by_peer channel) rest law is = tt

are_new : (all past rest : List Deed) → Law all → all ≡ past ++ rest → AreNew past rest
are_new all past [] law is = tt
are_new all past (deed ∷ rest) law is = (
  new_here all past deed rest law is,
  are_new all (past ++ deed ∷ []) rest law (is ∙ sym (append_assoc past (deed ∷ []) rest)),
)

-- each open that is to be decided waits, and no two have one number
pub undecided_hold : {E F : Type 0} (accepts : Acceptance) (permits : Permits) (w : World)
    (rounds : List (Round E F)) (board : Board) (world : World)
    → Rounds accepts permits opening_board w rounds board world → Law (all_deeds rounds)
    → Hold (all_deeds rounds) board.undecided
undecided_hold accepts permits w rounds board world run law =
    subst (λ l. Hold l board.undecided) (behind_is [] (all_deeds rounds))
    (rounds_hold accepts permits opening_board w rounds board world [] run
    (are_new (all_deeds rounds) [] (all_deeds rounds) law refl) tt)
