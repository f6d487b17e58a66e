-- An open outside an exchange of keys in whose input no callback is made: at most one answer is
-- sent in it, and nothing is left of it (RFC 4254 section 5.1).
use Rattle.std.proofs.Common.{◌≡◌, ◌≤◌, ◌+◌, ◌<◌, ◌==◌, ◌&&◌, ℕ, List, [], ◌∷◌, map, Bool}
use Rattle.std.proofs.Common.{true, false, not, cond, Option, Some, None, nat_lt}
use Rattle.std.proofs.Common.{refl, sym, subst, inl, inr, rules, arith}
use Rattle.std.specs.Prelude.{drop}
use Rattle.std.proofs.lemmas.Bool.{eqb-true}
use Rattle.ssh_wire.specs.declared.open.OpenChannelMessage.{OpenChannelMessage}
use Rattle.ssh_link.specs.Frames.{Frame}
use Rattle.ssh_link.specs.declared.frame.InputKind.{InputKind}
use Rattle.ssh_link.specs.declared.frame.InputKind.TheVariants as input
use Rattle.ssh_link.specs.declared.kex.KexCall.TheVariants as kex
use Rattle.ssh_link.specs.declared.link.TraceEntry.{TraceEntry}
use Rattle.ssh_link.specs.declared.link.TraceEntry.TheVariants.{Sent}
use Rattle.ssh_auth.specs.declared.question.Question.{Question}
use Rattle.ssh_auth.specs.declared.question.Question.TheVariants.{Lends}
use Rattle.ssh_auth.specs.declared.question.Question.TheVariants as asked
use Rattle.ssh_auth.specs.Plan.{Plan, Finish, Ask, Tell, Event, Called, Stepped, Told}
use Rattle.ssh_auth.specs.Plan.{asked_in, Follows, Refused, OutsideError, Handler_error}
use Rattle.ssh_auth.specs.Plan.{Exchange_error, after, calls_in}
use Rattle.ssh_auth.specs.Publickey.{Acceptance, Circumstances}
use Rattle.ssh_auth.proofs.Back.{asked_so, refused_so}
use Rattle.ssh_channels.specs.Lines.{Lines, next_number, handed, hands_on}
use Rattle.ssh_rules.specs.declared.exchange.ExchangeState.{ExchangeState}
use Rattle.ssh_rules.specs.declared.exchange.ExchangeState.TheVariants.{Idle, Own, Both}
use Rattle.ssh_rules.specs.declared.exchange.Passage.TheVariants.{Passes}
use Rattle.ssh_rules.specs.declared.handling.Handling.{Handling}
use Rattle.ssh_rules.specs.declared.handling.Handling.TheVariants.{Asks, Unsupported, Unknown, GivenUp}
use Rattle.ssh_rules.specs.declared.state.EncryptedState.{EncryptedState}
use Rattle.ssh_rules.specs.declared.state.EncryptedState.TheVariants.{WaitingAuthServiceRequest}
use Rattle.ssh_rules.specs.declared.state.EncryptedState.TheVariants.{WaitingAuthRequest}
use Rattle.ssh_rules.specs.declared.state.EncryptedState.TheVariants.{InitCompression}
use Rattle.ssh_rules.specs.declared.state.EncryptedState.TheVariants.{Authenticated}
use Rattle.ssh_rules.specs.Acts.{Beginning, acts, tell_all, frames_given, moved}
use Rattle.ssh_rules.specs.Answered.{how_many, is_answer, sends_answer, is_open, is_none}
use Rattle.ssh_rules.specs.Exchange.{is_running, early_with, passage_in, is_of_transport}
use Rattle.ssh_rules.specs.Gate.{gate_of, state_gate}
use Rattle.ssh_rules.specs.Opens.{failure_frame}
use Rattle.ssh_rules.specs.Outcome.{Outcome, Goes, Ends, Fails}
use Rattle.ssh_rules.specs.Reading.{Said, Nothing, Open, Unread, Unfit, Without_packets, Says}
use Rattle.ssh_rules.specs.Reading.{SaysOpen}
use Rattle.ssh_rules.specs.Rows.{row, open_acts, turns_first}
use Rattle.ssh_rules.specs.Run.{OwesKind, OwesRead, OwesPassed, OwesPayload, finish_input}
use Rattle.ssh_rules.specs.Run.{going_out, handed_on, begins, goes_unless_ended, is_due, is_over}
use Rattle.ssh_rules.specs.Types.{handling, unsupported, unknown, given_up}
use Rattle.ssh_rules.specs.World.{World, circumstances, hears, in_exchange, is_held}
use Rattle.ssh_rules.proofs.Plans.Acting.{PlanComes}
use Rattle.ssh_rules.proofs.Answered.CallbackRows.{asked_silent}
use Rattle.ssh_rules.proofs.Plans.Emptied.{told_comes, comes_of}
use Rattle.ssh_rules.proofs.Authorised.Guards.{Walks}
use Rattle.ssh_rules.proofs.Plans.Settled.{Anything}
use Rattle.ssh_rules.proofs.Plans.Telling.{IsUnsent, SendsNone, acts_send_none}

-- ---- what such an open owes

-- a callback is made
abbrev IsLent : Question → Type 0
IsLent (Lends lent) = Unit {0}
IsLent _ = ⊥

-- before anything is told a callback is made; or at most one answer is written, the same opens wait
-- and no exchange of keys runs
abbrev pub IsUncalled : World → Plan Outcome → Type 0
IsUncalled w (Finish (Goes v)) = (how_many is_answer v.channels.lines.written ≤ 1)
    × (v.channels.opens ≡ w.channels.opens) × (in_exchange v ≡ false)
IsUncalled w (Finish (Ends v)) = ⊥
IsUncalled w (Finish (Fails fault)) = Unit {0}
IsUncalled w (Ask question next) = IsLent question
IsUncalled w (Tell entry next) = ⊥

-- no exchange of keys runs, and nothing is written
abbrev pub IsIdle : World → Type 0
IsIdle w = (w.channels.lines.written ≡ []) × (in_exchange w ≡ false)

at_most : (b : Bool) → cond b (0 + 1) 0 ≤ 1
at_most true = omega arith
at_most false = omega arith

away_uncalled : (w : World) (drawn : Option ℕ) (payload : List ℕ) → IsIdle w →
    IsUncalled w (acts (turns_first drawn payload) w)
away_uncalled w None payload idle = tt
away_uncalled w (Some number) payload idle =
    rw idle.0 (at_most (is_answer (failure_frame number payload)), refl, idle.1)

opens_uncalled : (w : World) (drawn : Option ℕ) (message : OpenChannelMessage) (does : Handling) →
    IsIdle w → IsUncalled w (acts (open_acts drawn message does) w)
opens_uncalled w None message (Asks type) idle = tt
opens_uncalled w (Some number) message (Asks type) idle = tt
opens_uncalled w drawn message GivenUp idle =
    away_uncalled w drawn (given_up message.recipient_channel) idle
opens_uncalled w drawn message Unsupported idle =
    away_uncalled w drawn (unsupported message.recipient_channel) idle
opens_uncalled w drawn message Unknown idle =
    away_uncalled w drawn (unknown message.recipient_channel) idle

open_uncalled : (w : World) (moment : ℕ) (fields : List ℕ) (said : Said) → IsIdle w →
    SaysOpen fields said → IsUncalled w (row w moment said)
open_uncalled w moment fields (Open message) idle h =
    opens_uncalled w (next_number w.channels.lines) message
    (handling w.channels.no_more_sessions message.typ) idle
open_uncalled w moment fields Unread idle h = tt
open_uncalled w moment fields Without_packets idle h = tt
open_uncalled w moment fields (Unfit why) idle h = tt
open_uncalled w moment fields _ idle h = absurd h

nothing_uncalled : (w : World) (moment : ℕ) (said : Said) → IsIdle w → said ≡ Nothing →
    IsUncalled w (row w moment said)
nothing_uncalled w moment said idle is = rw (is, idle.0) (omega arith, refl, idle.1)

state_uncalled : (given : Circumstances) (w : World) (moment : ℕ) (fields : List ℕ) (said : Said)
    (state : EncryptedState) → IsIdle w →
    Says given w (state_gate w.settings.config state 90) fields said →
    IsUncalled w (row w moment said)
state_uncalled given w moment fields said (WaitingAuthServiceRequest sent accepted) idle h =
    nothing_uncalled w moment said idle h
state_uncalled given w moment fields said (WaitingAuthRequest auth) idle h =
    nothing_uncalled w moment said idle h
state_uncalled given w moment fields said InitCompression idle h =
    open_uncalled w moment fields said idle h
state_uncalled given w moment fields said Authenticated idle h =
    open_uncalled w moment fields said idle h

payload_uncalled : (given : Circumstances) (w : World) (moment : ℕ) (payload : List ℕ)
    (said : Said) → is_open (input.Payload payload) ≡ true → IsIdle w →
    Says given w (gate_of w payload) (drop 1 payload) said →
    IsUncalled w (row w moment said)
payload_uncalled given w moment [] said is idle h = absurd (cc)
payload_uncalled given w moment (n ∷ fields) said is idle h =
    let same : n ≡ 90 = eqb-true n 90 is in
    state_uncalled given w moment fields said w.user.state idle
    (subst (λ m. Says given w (gate_of w (m ∷ fields)) fields said) same h)

-- outside an exchange an open is read
open_passes : (exchange : ExchangeState) (window n : ℕ) → is_running exchange ≡ false → n ≡ 90 →
    passage_in exchange window n ≡ Passes
open_passes Idle window n h same = rw same refl
open_passes (Own early) window n h same = absurd (cc)
open_passes Both window n h same = absurd (cc)

open_read : (accepts : Acceptance) (w : World) (moment : ℕ) (payload : List ℕ)
    (plan : Plan Outcome) → is_open (input.Payload payload) ≡ true → in_exchange w ≡ false →
    OwesPayload accepts w moment payload plan → OwesRead accepts w moment payload plan
open_read accepts w moment [] plan is outside o = o
open_read accepts w moment (n ∷ fields) plan is outside o =
    subst (λ p. OwesPassed p accepts w moment (n ∷ fields) plan)
    (open_passes w.keys.exchange w.settings.config.window_size n outside (eqb-true n 90 is)) o

-- that the peer was heard changes no open, and begins no exchange
uncalled_heard : (payload : List ℕ) (w : World) (plan : Plan Outcome)
    → IsUncalled (hears payload w) plan → IsUncalled w plan
uncalled_heard payload w (Finish (Goes v)) h = h
uncalled_heard payload w (Finish (Ends v)) h = h
uncalled_heard payload w (Finish (Fails fault)) h = h
uncalled_heard payload w (Ask question next) h = h
uncalled_heard payload w (Tell entry next) h = h

outside_heard : (payload : List ℕ) (exchange : ExchangeState) → is_running exchange ≡ false →
    is_running (early_with payload exchange) ≡ false
outside_heard payload Idle h = refl
outside_heard payload (Own early) h = absurd (cc)
outside_heard payload Both h = absurd (cc)

pub kind_uncalled : (accepts : Acceptance) (w : World) (moment : ℕ) (kind : InputKind)
    (plan : Plan Outcome) → OwesKind accepts w moment kind plan → is_open kind ≡ true →
    IsIdle w → IsUncalled w plan
kind_uncalled accepts w moment (input.Payload payload) plan o is idle =
    let v = hears payload w in
    let outside = outside_heard payload w.keys.exchange idle.1 in
    let read = open_read accepts v moment payload plan is outside o in
    rw read.2 (uncalled_heard payload w (row v moment read.0)
    (payload_uncalled (circumstances accepts v.settings moment) v moment payload read.0 is
    (idle.0, outside) read.1))
kind_uncalled accepts w moment kind plan o is idle = absurd (cc)

-- ---- what is sent in it

-- a callback is an event of its own
lent_called : {E F : Type 0} (question : Question) (event : Event E F) (events : List (Event E F)) →
    IsLent question → asked_in event ≡ Some question →
    is_none (calls_in (event ∷ events)) ≡ true → ⊥
lent_called question (Called call) events lent is none = cc
lent_called question (Stepped (kex.Begun answer)) events lent is none =
    let e : Some asked.Begins ≡ Some question = is in
    let same : asked.Begins ≡ question = cc in
    subst IsLent (sym same) lent
lent_called question (Stepped (kex.Stepped payload answer)) events lent is none =
    let e : Some (asked.Steps payload) ≡ Some question = is in
    let same : asked.Steps payload ≡ question = cc in
    subst IsLent (sym same) lent
lent_called question (Told entry) events lent is none = let e : None ≡ Some question = is in cc

-- a frame of an exchange of keys answers no open: its number is below 50
both_true : (a b : Bool) → (a && b) ≡ true → (a ≡ true) × (b ≡ true)
both_true true true h = (refl, refl)
both_true true false h = absurd (cc)
both_true false b h = absurd (cc)

low_apart : (b : Bool) (n m : ℕ) → (n == m) ≡ b → nat_lt n 50 ≡ true → 50 ≤ m → (n == m) ≡ false
low_apart true n m t low l = absurd (let at : n ≡ m = eqb-true n m t in
    let under : n < 50 = search rules in omega (arith, at, under, l))
low_apart false n m t low l = t

unanswered : (payload : List ℕ) (frame : Frame) → frame.payload ≡ payload →
    is_of_transport payload ≡ true → is_answer frame ≡ false
unanswered [] frame same h = absurd (cc)
unanswered (n ∷ fields) frame same h =
    let low = (both_true (nat_lt 0 n) (nat_lt n 50) h).1 in
    let agreed = low_apart (n == 91) n 91 refl low (omega arith) in
    let failed = low_apart (n == 92) n 92 refl low (omega arith) in
    rw (same, agreed, failed) refl

unsent_silent : (E F : Type 0) (entry : TraceEntry) → IsUnsent entry →
    sends_answer {E = E} {F = F} is_answer (Told entry) ≡ false
unsent_silent E F (Sent frame) h = unanswered frame.payload frame refl h.1
unsent_silent E F _ h = refl

silent_walks : {E F : Type 0} (plan : Plan Outcome) (events : List (Event E F)) → SendsNone plan →
    Walks plan events → how_many (sends_answer is_answer) events ≡ 0
silent_walks plan [] s w = refl
silent_walks (Finish outcome) (event ∷ events) s w = absurd w
silent_walks (Ask question next) (event ∷ events) s (inl w) =
    rw (asked_silent is_answer event question (asked_so question w.0 event w.1))
    (silent_walks (next w.0) events (s w.0) w.2)
silent_walks (Ask question next) (event ∷ events) s (inr w) =
    rw (asked_silent is_answer event question (refused_so question w.0 event w.1), w.2) refl
silent_walks {E} {F} (Tell entry next) (event ∷ events) s w =
    rw w.0 (rw (unsent_silent E F entry s.0) (silent_walks next events s.1 w.1))

few_more : (b : Bool) (n m : ℕ) → n ≤ m → cond b (n + 1) n ≤ cond b (m + 1) m
few_more true n m h = omega (arith, h)
few_more false n m h = h

-- no more answers are sent than were written
frames_few : {E F : Type 0} (frames : List Frame) (next : Plan Outcome) (events : List (Event E F))
    → SendsNone next → Walks (tell_all (map Sent frames) next) events →
    how_many (sends_answer is_answer) events ≤ how_many is_answer frames
frames_few frames next [] s w = omega arith
frames_few [] next (event ∷ events) s w =
    let none = silent_walks next (event ∷ events) s w in
    omega (arith, none)
frames_few (frame ∷ frames) next (event ∷ events) s w =
    subst (λ x. how_many (sends_answer is_answer) (x ∷ events) ≤ how_many is_answer (frame ∷ frames))
    (sym w.0)
    (few_more (is_answer frame) (how_many (sends_answer is_answer) events) (how_many is_answer frames)
    (frames_few frames next events s w.1))

handed_few : (held : Bool) (l : Lines) →
    how_many is_answer (handed held l) ≤ how_many is_answer l.written
handed_few true l = omega arith
handed_few false l = omega arith

end_silent : (ended due : Bool) (w : World) →
    SendsNone (cond ended (Finish (Ends w)) (acts (begins due) w))
end_silent true due w = tt
end_silent false due w = acts_send_none (begins due) w

pub uncalled_few : {E F : Type 0} (ticked : Bool) (w : World) (plan : Plan Outcome)
    (events : List (Event E F)) → IsUncalled w plan →
    Walks (after plan (finish_input ticked)) events → is_none (calls_in events) ≡ true →
    how_many (sends_answer is_answer) events ≤ 1
uncalled_few ticked w plan [] u h none = omega arith
uncalled_few ticked w (Finish (Goes v)) (event ∷ events) u h none =
    let x = handed_on v in
    let few = frames_few (going_out v) (goes_unless_ended ticked x) (event ∷ events)
    (end_silent x.disconnected (is_due ticked x) x) h in
    let fewer = handed_few (is_held v) v.channels.lines in
    let most = u.0 in
    omega (arith, few, fewer, most)
uncalled_few ticked w (Finish (Ends v)) (event ∷ events) u h none = absurd u
uncalled_few ticked w (Finish (Fails fault)) (event ∷ events) u h none = absurd h
uncalled_few ticked w (Ask question next) (event ∷ events) u (inl h) none =
    absurd (lent_called question event events u (asked_so question h.0 event h.1) none)
uncalled_few ticked w (Ask question next) (event ∷ events) u (inr h) none =
    absurd (lent_called question event events u (refused_so question h.0 event h.1) none)
uncalled_few ticked w (Tell entry next) (event ∷ events) u h none = absurd u

-- ---- what is left of it

-- the same opens wait as before, and nothing is written
abbrev KeepsOpens : World → Outcome → Type 0
KeepsOpens w (Goes v) = (v.channels.opens ≡ w.channels.opens) × (v.channels.lines.written ≡ [])
KeepsOpens w _ = Unit {0}

begins_keep : (w : World) (due : Bool) (v : World) → KeepsOpens w (Goes v) →
    PlanComes Anything (KeepsOpens w) (acts (begins due) v)
begins_keep w true v h = λ payload s.
    told_comes (KeepsOpens w) (map Sent (frames_given (payload ∷ [])))
    (Finish (Goes (moved Beginning payload v))) h
begins_keep w false v h = h

end_keeps : (w : World) (ended due : Bool) (v : World) → KeepsOpens w (Goes v) →
    PlanComes Anything (KeepsOpens w) (cond ended (Finish (Ends v)) (acts (begins due) v))
end_keeps w true due v h = tt
end_keeps w false due v h = begins_keep w due v h

not_held : (running ended : Bool) (l : Lines) → running ≡ false →
    (hands_on (running && not ended) l).written ≡ []
not_held true ended l h = absurd (cc)
not_held false ended l h = refl

pub uncalled_same : {E F : Type 0} (ticked : Bool) (w : World) (plan : Plan Outcome)
    (events : List (Event E F)) (world : World) → IsUncalled w plan →
    Follows (after plan (finish_input ticked)) events (Goes world) →
    is_none (calls_in events) ≡ true →
    (world.channels.opens ≡ w.channels.opens) × (world.channels.lines.written ≡ [])
uncalled_same ticked w (Finish (Goes v)) events world u f none =
    let x = handed_on v in
    comes_of (KeepsOpens w) (finish_input ticked (Goes v)) events (Goes world)
    (told_comes (KeepsOpens w) (map Sent (going_out v)) (goes_unless_ended ticked x)
    (end_keeps w x.disconnected (is_due ticked x) x
    (u.1, not_held (in_exchange v) v.disconnected v.channels.lines u.2))) f
uncalled_same ticked w (Finish (Ends v)) events world u f none = absurd u
uncalled_same {E} {F} ticked w (Finish (Fails fault)) events world u f none =
    comes_of (λ outcome. KeepsOpens w outcome) (Finish (Fails fault)) events (Goes world) tt f
uncalled_same ticked w (Ask question next) [] world u f none = absurd (cc)
uncalled_same ticked w (Ask question next) (event ∷ events) world u f none =
    absurd (lent_called question event events u (asked_so question f.0 event f.1) none)
uncalled_same ticked w (Tell entry next) events world u f none = absurd u

-- ---- the end of an input makes no call

told_uncalled : {E F : Type 0} (entries : List TraceEntry) (next : Plan Outcome)
    (events : List (Event E F)) →
    ((rest : List (Event E F)) → Walks next rest → is_none (calls_in rest) ≡ true) →
    Walks (tell_all entries next) events → is_none (calls_in events) ≡ true
told_uncalled entries next [] k h = refl
told_uncalled [] next (event ∷ events) k h = k (event ∷ events) h
told_uncalled (entry ∷ entries) next (event ∷ events) k h =
    rw h.0 (told_uncalled entries next events k h.1)

done_uncalled : {E F : Type 0} (outcome : Outcome) (events : List (Event E F)) →
    Walks (Finish outcome) events → is_none (calls_in events) ≡ true
done_uncalled outcome [] h = refl
done_uncalled outcome (event ∷ events) h = absurd h

refused_uncalled : {E F : Type 0} (error : OutsideError E F) (event : Event E F) →
    Refused asked.Begins error event → is_none (calls_in (event ∷ [])) ≡ true
refused_uncalled (Handler_error e) event h = absurd h
refused_uncalled (Exchange_error f) event h = rw h refl

begins_uncalled : {E F : Type 0} (due : Bool) (w : World) (events : List (Event E F)) →
    Walks (acts (begins due) w) events → is_none (calls_in events) ≡ true
begins_uncalled due w [] h = refl
begins_uncalled true w (event ∷ events) (inl h) =
    rw h.1 (told_uncalled (map Sent (frames_given (h.0 ∷ [])))
    (Finish (Goes (moved Beginning h.0 w))) events
    (done_uncalled (Goes (moved Beginning h.0 w))) h.2)
begins_uncalled true w (event ∷ events) (inr h) = rw h.2 (refused_uncalled h.0 event h.1)
begins_uncalled false w (event ∷ events) h = absurd h

end_uncalled : {E F : Type 0} (ended due : Bool) (w : World) (events : List (Event E F)) →
    Walks (cond ended (Finish (Ends w)) (acts (begins due) w)) events →
    is_none (calls_in events) ≡ true
end_uncalled true due w events h = done_uncalled (Ends w) events h
end_uncalled false due w events h = begins_uncalled due w events h

pub finished_uncalled : {E F : Type 0} (ticked : Bool) (outcome : Outcome)
    (events : List (Event E F)) → Walks (finish_input ticked outcome) events →
    is_none (calls_in events) ≡ true
finished_uncalled ticked (Goes w) events h =
    let v = handed_on w in
    told_uncalled (map Sent (going_out w)) (goes_unless_ended ticked v) events
    (end_uncalled v.disconnected (is_due ticked v) v) h
finished_uncalled ticked (Ends w) events h =
    told_uncalled (map Sent (going_out w)) (is_over (handed_on w)) events
    (done_uncalled (Ends (handed_on w))) h
finished_uncalled ticked (Fails fault) events h = done_uncalled (Fails fault) events h
