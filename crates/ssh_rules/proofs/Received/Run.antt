-- The bytes of data that are passed to the handler on a channel never exceed what this side granted
-- there: input by input, and by induction over a run (RFC 4254 section 5.2).
use Rattle.std.proofs.Common.{◌≡◌, ◌≤◌, ℕ, List, [], ◌∷◌, ◌++◌, map, drop, Option}
use Rattle.std.proofs.Common.{Some, None, Bool, true, false, Result, refl, sym, ◌∙◌, ap, subst, inl, inr}
use Rattle.std.proofs.Common.{◌-◌, arith}
use Rattle.std.specs.Prelude.{flat_map, option_to_list, if◌then◌else◌}
use Rattle.ssh_link.specs.declared.command.Command.{Command}
use Rattle.ssh_link.specs.declared.command.Command.TheVariants as command
use Rattle.ssh_link.specs.declared.frame.InputKind.{InputKind}
use Rattle.ssh_link.specs.declared.frame.InputKind.TheVariants as input
use Rattle.ssh_link.specs.declared.kex.KexCall.{KexCall}
use Rattle.ssh_link.specs.declared.kex.KexCall.TheVariants as kex
use Rattle.ssh_link.specs.declared.link.TraceEntry.{TraceEntry}
use Rattle.ssh_link.specs.declared.link.TraceEntry.TheVariants.{Sent, Answered}
use Rattle.ssh_auth.specs.declared.question.Question.{Question}
use Rattle.ssh_auth.specs.Plan.{Plan, Finish, Ask, Tell, Answer, Event, Called, Stepped, Told}
use Rattle.ssh_auth.specs.Plan.{Follows, Answered as Answered_so, asked_in, asked_in_step, told_in}
use Rattle.ssh_auth.specs.Was.{asked_of}
use Rattle.ssh_link.specs.declared.frame.Input.{Input}
use Rattle.ssh_auth.specs.Publickey.{Acceptance}
use Rattle.ssh_auth.proofs.Back.{asked_so, refused_so}
use Rattle.ssh_rules.specs.declared.error.RunError.{RunError}
use Rattle.ssh_rules.specs.Account.{Closes}
use Rattle.ssh_rules.specs.Acts.{Stops, Turns as Turning, acts}
use Rattle.ssh_rules.specs.Effect.{effect, said}
use Rattle.ssh_rules.specs.Gate.{gate_of}
use Rattle.ssh_rules.specs.Ledger.{outgoing}
use Rattle.ssh_rules.specs.Outcome.{Outcome, Goes, Keepalive_timeout}
use Rattle.ssh_rules.specs.OwnMessages.{keepalive}
use Rattle.ssh_rules.specs.Received.{passed_asked, passed_told, passed_after, passed_from}
use Rattle.ssh_rules.specs.Received.{passed_on, adjusted_on, IsReceived, Received}
use Rattle.ssh_rules.specs.Replied.{events_of}
use Rattle.ssh_rules.specs.Rows.{exchange_acts}
use Rattle.ssh_rules.specs.Run.{Turn, Turns, Run, Owes, OwesKind, command_row, entries}
use Rattle.ssh_rules.specs.Run.{asks_for_keys}
use Rattle.ssh_rules.specs.Ticks.{ticked, is_too_many, one_more}
use Rattle.ssh_rules.specs.World.{Settings, World, circumstances, hears, opening_world}
use Rattle.ssh_rules.specs.declared.exchange.Passage.{Passage}
use Rattle.ssh_rules.specs.declared.exchange.Passage.TheVariants.{Begins, Steps, Barred, Late}
use Rattle.ssh_rules.specs.declared.exchange.Passage.TheVariants.{Passes}
use Rattle.ssh_rules.proofs.Authorised.Run.{AllWalk, Behind, behind, last_walks, run_walks}
use Rattle.ssh_rules.proofs.Ledger.Inputs.{owed_kept, run_kept, nothing_kept, fair_at, early_runs}
use Rattle.ssh_rules.proofs.Received.Carried.{says_bare}
use Rattle.ssh_rules.proofs.Received.Acts.{Fits, acts_fit, one_fits, input_fits, told_low}
use Rattle.ssh_rules.proofs.Received.Rows.{row_fits}
use Rattle.ssh_rules.proofs.Received.Granting.{grown_by, grown_told, grown_in, grown_in_both, sent_grown}
use Rattle.ssh_rules.proofs.Received.Granting.{granted_grown}
use Rattle.ssh_rules.proofs.Authorised.Guards.{Walks}
use Rattle.ssh_rules.proofs.Ledger.Commands.{Kept, beside_on, effect_on}
use Rattle.ssh_rules.proofs.Ledger.Acts.{exchanged_on}
use Rattle.ssh_rules.proofs.Plans.Passing.{payload_so}
use Rattle.ssh_rules.proofs.Received.Commands.{InRoom, effect_room, said_room}

-- ---- inputs

module _ (n window top : ℕ) (past : List TraceEntry) (passed grew : ℕ)
  where
    exchange_fits : (payload : List ℕ) (at : Passage) (w : World) → passed ≤ top
        → InRoom n window passed grew w → Kept past w
        → Fits n window top passed grew (acts (exchange_acts payload at) w)
    exchange_fits payload Begins w low h kept =
        acts_fit n window top past passed grew (exchange_acts payload Begins) w low h tt kept
        (exchanged_on past w kept, λ v k. (exchanged_on past v k, λ u s. tt))
    exchange_fits payload Steps w low h kept =
        acts_fit n window top past passed grew (exchange_acts payload Steps) w low h tt kept
        (exchanged_on past w kept, λ v k. tt)
    exchange_fits payload Barred w low h kept = tt
    exchange_fits payload Late w low h kept = tt
    exchange_fits payload Passes w low h kept = h

    -- a command from outside, and the answer to its ticket
    command_fits : (w : World) (ticket : ℕ) (one : Command) → passed ≤ top
        → InRoom n window passed grew w → Kept past w
        → Fits n window top passed grew (command_row w ticket one)
    command_fits w ticket one low h kept =
        one_fits n window top past passed grew (effect w one)
        (λ outcome world. Tell (Answered ticket outcome) (Finish (Goes world))) low
        (effect_room n window passed grew None past w one kept h) (effect_on None past w one kept)
        (λ j outcome world l r k. r)

    tick_fits : (w : World) (many : Bool) → InRoom n window passed grew w
        → Fits n window top passed grew
        (acts (if many then Stops Keepalive_timeout ∷ []
        else Turning (λ v. said keepalive (ticked v)) ∷ []) w)
    tick_fits w true h = tt
    tick_fits w false h = said_room n window passed grew keepalive (ticked w) h

    kind_fits : (accepts : Acceptance) (w : World) (moment : ℕ) (kind : InputKind)
        (plan : Plan Outcome) → OwesKind accepts w moment kind plan → passed ≤ top
        → grown_by n window grew w.channels.lines.written - 1 ≤ top
        → InRoom n window passed grew w → Kept past w → Fits n window top passed grew plan
    kind_fits accepts w moment input.End plan o low high h kept = rw o tt
    kind_fits accepts w moment (input.Payload payload) plan o low high h kept =
        let v = hears payload w in
        let heard = beside_on past w v refl (early_runs payload w.keys.exchange) kept in
        payload_so accepts v moment payload plan (Fits n window top passed grew) o
        (λ said says.
        row_fits n window top past passed grew v moment said
        (fair_at (circumstances accepts v.settings moment) v (gate_of v payload) (drop 1 payload)
        said says)
        (says_bare (circumstances accepts v.settings moment) v (gate_of v payload)
        (drop 1 payload) said says) low high h heard)
        (λ at. exchange_fits payload at v low h heard)
    kind_fits accepts w moment (input.Command ticket one) plan o low high h kept =
        rw o (command_fits w ticket one low h kept)
    kind_fits accepts w moment (input.OpenReply ticket answer) plan o low high h kept =
        rw o (command_fits w ticket (command.Answer answer) low h kept)
    kind_fits accepts w moment input.KeepaliveTick plan o low high h kept =
        rw o (tick_fits w (is_too_many w.settings.config (one_more w.keepalives)) h)
    kind_fits accepts w moment input.InactivityTick plan o low high h kept = rw o tt
    kind_fits accepts w moment input.RekeyTick plan o low high h kept = rw o h

-- what was granted before an input
abbrev top_of : (number window grew : ℕ) → World → ℕ
top_of number window grew w = grown_by number window grew w.channels.lines.written - 1

-- no more was passed than that
room_low : (n window passed grew : ℕ) (w : World) → InRoom n window passed grew w →
    passed ≤ top_of n window grew w
room_low n window passed grew w h = h.1.1

owed_fits : (accepts : Acceptance) (n window passed grew : ℕ) (past : List TraceEntry) (w : World)
    (taken : Input) (plan : Plan Outcome) → Owes accepts w taken plan →
    InRoom n window passed grew w → Kept past w →
    Fits n window (top_of n window grew w) passed grew plan
owed_fits accepts n window passed grew past w taken plan o h kept =
    let top = top_of n window grew w in
    let low = room_low n window passed grew w h in
    rw o.2 (input_fits n window top passed grew (asks_for_keys taken.kind) o.0 low
    (kind_fits n window top past passed grew accepts w taken.moment taken.kind o.0 o.1 low
    (omega arith) h kept))

-- ---- events

step_same : {F : Type 0} (n passed : ℕ) (step : KexCall F) →
    passed_asked n passed (asked_in_step step) ≡ passed
step_same n passed (kex.Begun answer) = refl
step_same n passed (kex.Stepped payload answer) = refl

-- an event in which this was asked
asked_passed : {E F : Type 0} (n passed : ℕ) (event : Event E F) (question : Question) →
    asked_in event ≡ Some question → passed_after n passed event ≡ passed_asked n passed question
asked_passed n passed (Called call) question is =
    let same : asked_of call ≡ question = cc in ap (passed_asked n passed) same
asked_passed n passed (Stepped step) question is =
    let same : asked_in_step step ≡ question = cc in
    sym (step_same n passed step) ∙ ap (passed_asked n passed) same
asked_passed n passed (Told entry) question is = absurd (cc)

-- at each moment
walks_low : {E F : Type 0} (n window top passed grew : ℕ) (plan : Plan Outcome)
    (events past more : List (Event E F)) → passed ≤ top → Fits n window top passed grew plan →
    Walks plan events → events ≡ past ++ more → passed_from n passed past ≤ top
walks_low n window top passed grew plan events [] more low h w is = low
walks_low n window top passed grew plan [] (x ∷ past) more low h w is = absurd (cc)
walks_low n window top passed grew (Finish outcome) (event ∷ events) (x ∷ past) more low h w is =
    absurd w
walks_low n window top passed grew (Ask question next) (event ∷ events) (x ∷ past) more low h
    (inl w) is =
    let same : event ≡ x = cc in
    let rest : events ≡ past ++ more = cc in
    let asked = asked_passed n passed event question (asked_so question w.0 event w.1) in
    subst (λ p. passed_from n p past ≤ top) (sym asked ∙ ap (passed_after n passed) same)
    (walks_low n window top (passed_asked n passed question) grew (next w.0) events past more h.0
    (h.1 w.0) w.2 rest)
walks_low n window top passed grew (Ask question next) (event ∷ events) (x ∷ []) more low h
    (inr w) is =
    let same : event ≡ x = cc in
    let asked = asked_passed n passed event question (refused_so question w.0 event w.1) in
    subst (λ p. p ≤ top) (sym asked ∙ ap (passed_after n passed) same) h.0
walks_low n window top passed grew (Ask question next) (event ∷ events) (x ∷ y ∷ past) more low h
    (inr w) is =
    let none = w.2 in
    let rest : events ≡ y ∷ past ++ more = cc in
    absurd (let no : y ∷ past ++ more ≡ [] = sym rest ∙ none in cc)
walks_low {E} {F} n window top passed grew (Tell entry next) (event ∷ events) (x ∷ past) more low h
    w is =
    let same : event ≡ x = cc in
    let rest : events ≡ past ++ more = cc in
    let less = told_low n window top passed entry in
    subst (λ y. passed_from n (passed_after {E = E} {F = F} n passed y) past ≤ top)
    (sym w.0 ∙ same)
    (walks_low n window top (passed_told n passed entry) (grown_told n window grew entry) next
    events past more (omega (arith, low, less)) h w.1 rest)

-- an answered question is no notice
never_told : {E F : Type 0} (question : Question) (answer : Answer question) (entry : TraceEntry) →
    Answered_so {E = E} {F = F} question answer (Told entry) → ⊥
never_told question answer entry h = let e = asked_so question answer (Told entry) h in cc

-- and at the end there is room in the world that it came to
follows_room : {E F : Type 0} (n window top passed grew : ℕ) (plan : Plan Outcome)
    (events : List (Event E F)) (w : World) → Fits n window top passed grew plan →
    Follows plan events (Goes w) →
    InRoom n window (passed_from n passed events) (grown_in n window grew (told_in events)) w
follows_room n window top passed grew plan [] w h f = subst (Fits n window top passed grew) f h
follows_room n window top passed grew (Finish other) (event ∷ events) w h f = absurd f
follows_room {E} {F} n window top passed grew (Ask question next) (Called call ∷ events) w h f =
    let asked = asked_passed {F = F} n passed (Called call) question
    (asked_so question f.0 (Called call) f.1) in
    subst (λ p. InRoom n window (passed_from n p events)
    (grown_in n window grew (told_in events)) w) (sym asked)
    (follows_room n window top (passed_asked n passed question) grew (next f.0) events w (h.1 f.0)
    f.2)
follows_room {E} {F} n window top passed grew (Ask question next) (Stepped step ∷ events) w h f =
    let asked = asked_passed {E = E} n passed (Stepped step) question
    (asked_so question f.0 (Stepped step) f.1) in
    subst (λ p. InRoom n window (passed_from n p events)
    (grown_in n window grew (told_in events)) w) (sym asked)
    (follows_room n window top (passed_asked n passed question) grew (next f.0) events w (h.1 f.0)
    f.2)
follows_room {E} {F} n window top passed grew (Ask question next) (Told entry ∷ events) w h f =
    absurd (never_told {E = E} {F = F} question f.0 entry f.1)
follows_room n window top passed grew (Tell entry next) (Called call ∷ events) w h f =
    absurd (let e = f.0 in cc)
follows_room n window top passed grew (Tell entry next) (Stepped step ∷ events) w h f =
    absurd (let e = f.0 in cc)
follows_room {E} {F} n window top passed grew (Tell entry next) (Told told ∷ events) w h f =
    let same : entry ≡ told = let e = f.0 in cc in
    subst (λ x. InRoom n window (passed_from n (passed_told n passed x) events)
    (grown_in n window (grown_told n window grew x) (told_in events)) w) same
    (follows_room n window top (passed_told n passed entry) (grown_told n window grew entry) next
    events w h f.1)

-- ---- a run

from_both : {E F : Type 0} (n passed : ℕ) (xs ys : List (Event E F)) →
    passed_from n passed (xs ++ ys) ≡ passed_from n (passed_from n passed xs) ys
from_both n passed [] ys = refl
from_both n passed (x ∷ xs) ys = from_both n (passed_after n passed x) xs ys

turn_room : {E F : Type 0} (accepts : Acceptance) (n window passed grew : ℕ)
    (past : List TraceEntry) (w : World) (turn : Turn E F) (mid : World) →
    Turns accepts w turn mid → InRoom n window passed grew w → Kept past w →
    InRoom n window (passed_from n passed turn.events) (grown_in n window grew (entries turn)) mid
turn_room accepts n window passed grew past w turn mid t h kept =
    follows_room n window (top_of n window grew w) passed grew t.0 turn.events mid
    (owed_fits accepts n window passed grew past w turn.input t.0 t.1 h kept) t.2

run_room : {E F : Type 0} (accepts : Acceptance) (n window passed grew : ℕ)
    (past : List TraceEntry) (w : World) (turns : List (Turn E F)) (world : World) →
    Run accepts w turns world → InRoom n window passed grew w → Kept past w →
    InRoom n window (passed_from n passed (events_of turns))
    (grown_in n window grew (flat_map entries turns)) world
run_room accepts n window passed grew past w [] world run h kept =
    subst (InRoom n window passed grew) (sym run) h
run_room accepts n window passed grew past w (turn ∷ turns) world run h kept =
    let t = run.1 in
    let mid = turn_room accepts n window passed grew past w turn run.0 t h kept in
    let later = run_room accepts n window (passed_from n passed turn.events)
    (grown_in n window grew (entries turn)) (past ++ entries turn) run.0 turns world run.2 mid
    (owed_kept accepts past w turn t.0 run.0 t.1 t.2 kept) in
    subst (λ g. InRoom n window (passed_from n passed (events_of (turn ∷ turns))) g world)
    (sym (grown_in_both n window grew (entries turn) (flat_map entries turns)))
    (subst (λ p. InRoom n window p
    (grown_in n window (grown_in n window grew (entries turn)) (flat_map entries turns)) world)
    (sym (from_both n passed turn.events (events_of turns))) later)

taken_received : {E F : Type 0} (accepts : Acceptance) (settings : Settings)
    (before after : List (Turn E F)) (turn : Turn E F) →
    Behind accepts (opening_world settings) before (turn ∷ after) →
    IsReceived accepts settings before turn
taken_received accepts settings before after turn at =
    let past = flat_map entries before in
    let window = settings.config.window_size in
    let kept = run_kept accepts [] (opening_world settings) before at.world at.run
    (nothing_kept settings) in
    record {
      world = at.world;
      run = at.run;
      within = λ seen more is n.
          let passed = passed_on n (events_of before) in
          let grew = grown_in n window 0 past in
          let room = run_room accepts n window 0 0 [] (opening_world settings) before at.world
          at.run (refl, (omega arith, omega arith))
          (nothing_kept settings) in
          let low = walks_low n window (top_of n window grew at.world) passed grew at.walks.0
          turn.events seen more (room_low n window passed grew at.world room)
          (owed_fits accepts n window passed grew past at.world turn.input at.walks.0 at.walks.1
          room kept) at.walks.2 is in
          let written = at.world.channels.lines.written in
          let told = outgoing past at.world.channels.lines in
          let granted : top_of n window grew at.world ≡ adjusted_on settings n told =
          ap (λ g. g - 1) (sym (grown_in_both n window 0 past (map Sent written)
          ∙ sent_grown n window grew written)) ∙ granted_grown settings n told in
          let both = from_both n 0 (events_of before) seen in
          omega (arith, low, granted, both);
    }

-- in each input of a run, and in its last one as far as it came
pub received : {E F : Type 0} (accepts : Acceptance) (settings : Settings)
    (turns : List (Turn E F)) (world : World) (count max : ℕ) (last : Option (Turn E F))
    (rose : Type 0) (result : Result (Unit {0}) (RunError E F)) →
    Run accepts (opening_world settings) turns world →
    Closes accepts world count max last rose result →
    Received accepts settings (turns ++ option_to_list last)
received accepts settings turns world count max last rose result run closes =
    λ before after turn is.
    let w = opening_world settings in
    let all = run_walks accepts w turns world (option_to_list last) run
    (last_walks accepts world count max last rose result closes) in
    taken_received accepts settings before after turn
    (behind accepts w before turn after (subst (AllWalk accepts w) is all))
