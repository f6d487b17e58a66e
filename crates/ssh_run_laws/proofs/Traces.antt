-- A trace tells of all data that channels accepted, but for what callbacks recorded (RFC 4254
-- section 5.2).
use Rattle.std.proofs.Common.{◌≡◌, ◌==◌, ◌||◌, ◌+◌, ◌∙◌, ℕ, List, [], ◌∷◌, ◌++◌, Bool, true, false}
use Rattle.std.proofs.Common.{cond, Option, Some, None, refl, sym, ap, append_assoc}
use Rattle.std.specs.Prelude.{flat_map}
use Rattle.std.specs.List.{list_any}
use Rattle.std.proofs.lemmas.List.{append-nil}
use Rattle.std.proofs.lemmas.List.Folds.{list_any-append}
use Rattle.std.proofs.lemmas.Grind.{flat_map-append}
use Rattle.ssh_wire.specs.declared.channel_id.ChannelId.{ChannelId}
use Rattle.ssh_link.specs.declared.command.Command.{Command}
use Rattle.ssh_link.specs.declared.command.Command.TheVariants as command
use Rattle.ssh_link.specs.declared.link.TraceEntry.{TraceEntry}
use Rattle.ssh_link.specs.declared.link.TraceEntry.TheVariants.{Took, Sent, Noticed, Answered}
use Rattle.ssh_link.specs.declared.outcome.CommandOutcome.{CommandOutcome}
use Rattle.ssh_link.specs.declared.outcome.CommandOutcome.TheVariants.{Accepted, Opened, Refused}
use Rattle.ssh_wire.specs.declared.open_failure.ChannelOpenFailure.{ChannelOpenFailure}
use Rattle.ssh_auth.specs.Plan.{Event, Called, Stepped, Told, calls_in, told_in}
use Rattle.ssh_auth.specs.Publickey.{Acceptance}
use Rattle.ssh_auth.specs.Was.{asked_of, was}
use Rattle.ssh_channels.specs.declared.chunk.DataKind.{DataKind}
use Rattle.ssh_rules.specs.Answered.{open_asked}
use Rattle.ssh_rules.specs.Outcome.{Goes}
use Rattle.ssh_rules.specs.Run.{Run, Turn, calls_of, entries}
use Rattle.ssh_rules.specs.Valid.{recorded_so}
use Rattle.ssh_rules.specs.World.{World, opening_world}
use Rattle.ssh_run_laws.specs.Channels.{accepted_from, accepted_on, after_answer, after_deed}
use Rattle.ssh_run_laws.specs.Channels.{sends_by}
use Rattle.ssh_run_laws.specs.Deeds.{Asked, Closed_by_peer, Commanded, Deed, asked_by, deeds}
use Rattle.ssh_run_laws.specs.Deeds.{deeds_from, deeds_in, deeds_told, done_at, given_by}
use Rattle.ssh_run_laws.specs.Deeds.{given_then}
use Rattle.ssh_run_laws.specs.Deeds.{outcome_at, told_by}
use Rattle.ssh_run_laws.specs.Traces.{TracesHold, TracesTell, data_accepted, data_by, data_in}
use Rattle.ssh_run_laws.specs.Traces.{data_told}
use Rattle.ssh_run_laws.specs.Traces.{records_data}
use Rattle.ssh_run_laws.proofs.Accepted.{run_holds}
use Rattle.ssh_run_laws.proofs.Untaken.{AllUntaken, owed_untaken}

neither : (a b : Bool) → (a || b) ≡ false → (a ≡ false) × (b ≡ false)
neither true b h = absurd (cc)
neither false b h = (refl, h)

-- ---- what was accepted last is the last of what was accepted

abbrev IsLast : (whole last : List (DataKind × ℕ)) → Type 0
IsLast whole last = (earlier : List (DataKind × ℕ)) × (whole ≡ earlier ++ last)

same_last : (held : List (DataKind × ℕ)) → IsLast (held ++ []) held
same_last held = ([], append-nil held)

data_last : (b : Bool) (held more : List (DataKind × ℕ))
    → IsLast (held ++ cond b more []) (cond b (held ++ more) held)
data_last true held more = ([], refl)
data_last false held more = same_last held

answer_last : (b : Bool) (held : List (DataKind × ℕ)) (reason : Option ChannelOpenFailure)
    → IsLast (held ++ []) (cond b (after_answer held reason) held)
answer_last true held None = (held, refl)
answer_last true held (Some reason) = same_last held
answer_last false held reason = same_last held

opened_last : (b : Bool) (held : List (DataKind × ℕ)) → IsLast (held ++ []) (cond b [] held)
opened_last true held = (held, refl)
opened_last false held = same_last held

accepted_last : (n : ℕ) (held : List (DataKind × ℕ)) (one : Command)
    → IsLast (held ++ data_by n (Commanded one Accepted)) (after_deed n held (Commanded one Accepted))
accepted_last n held (command.Data channel bytes) = data_last (n == channel.0) held _
accepted_last n held (command.ExtendedData channel code bytes) =
    data_last (n == channel.0) held _
accepted_last n held (command.Answer answer) =
    answer_last (n == answer.channel.0) held answer.rejection
accepted_last n held other = same_last held

deed_last : (n : ℕ) (held : List (DataKind × ℕ)) (deed : Deed)
    → IsLast (held ++ data_by n deed) (after_deed n held deed)
deed_last n held (Commanded one Accepted) = accepted_last n held one
deed_last n held (Commanded one (Opened channel)) = opened_last (n == channel.0) held
deed_last n held (Commanded one (Refused why)) = same_last held
deed_last n held (Asked channel) = same_last held
deed_last n held (Closed_by_peer channel) = same_last held

deeds_last : (n : ℕ) (held : List (DataKind × ℕ)) (ds : List Deed)
    → IsLast (held ++ flat_map (data_by n) ds) (accepted_from n held ds)
deeds_last n held [] = same_last held
deeds_last n held (deed ∷ ds) =
    let here = deed_last n held deed in
    let next = after_deed n held deed in
    let later = deeds_last n next ds in (
      here.0 ++ later.0,
      sym (append_assoc held (data_by n deed) (flat_map (data_by n) ds))
          ∙ ap (λ l. l ++ flat_map (data_by n) ds) here.1
          ∙ append_assoc here.0 next (flat_map (data_by n) ds)
          ∙ ap (λ l. here.0 ++ l) later.1
          ∙ sym (append_assoc here.0 later.0 (accepted_from n next ds)),
    )

-- ---- what is recorded sends nothing

unsent_step : (b : Bool) (more : List (DataKind × ℕ)) → b ≡ false → cond b more [] ≡ []
unsent_step true more h = absurd (cc)
unsent_step false more h = refl

unsent_one : (n : ℕ) (one : Command) → sends_by n one ≡ false → data_in n one ≡ []
unsent_one n (command.Data channel bytes) h = unsent_step (n == channel.0) _ h
unsent_one n (command.ExtendedData channel code bytes) h = unsent_step (n == channel.0) _ h
unsent_one n other h = refl

unsent_came : (n : ℕ) (one : Command) (came : CommandOutcome) → sends_by n one ≡ false
    → data_accepted n one came ≡ []
unsent_came n one Accepted h = unsent_one n one h
unsent_came n one (Opened channel) h = refl
unsent_came n one (Refused why) h = refl

unsent_from : {E F : Type 0} (n place : ℕ) (commands : List Command) (events : List (Event E F))
    → list_any (sends_by n) commands ≡ false
    → flat_map (data_by n) (deeds_from place commands events) ≡ []
unsent_from n place [] events h = refl
unsent_from n place (one ∷ commands) events h =
    let none = neither (sends_by n one) (list_any (sends_by n) commands) h in
    ap (λ l. l ++ flat_map (data_by n) (deeds_from (place + 1) commands events))
    (unsent_came n one (outcome_at place events) none.0)
    ∙ unsent_from n (place + 1) commands events none.1

asked_none : (n : ℕ) (channel : Option ChannelId) → flat_map (data_by n) (asked_by channel) ≡ []
asked_none n None = refl
asked_none n (Some channel) = refl

called_none : {E F : Type 0} (n : ℕ) (channel : Option ChannelId) (commands : List Command)
    (events : List (Event E F)) → list_any (sends_by n) commands ≡ false
    → flat_map (data_by n) (asked_by channel ++ deeds_from 0 commands events) ≡ []
called_none n channel commands events h =
    flat_map-append (data_by n) (asked_by channel) (deeds_from 0 commands events)
    ∙ ap (λ l. l ++ flat_map (data_by n) (deeds_from 0 commands events)) (asked_none n channel)
    ∙ unsent_from n 0 commands events h

-- ---- an input, and a run

-- of what was done in these events, and of what they tell, the data are the same
events_told : {E F : Type 0} (n : ℕ) (given : Option Command) (events : List (Event E F))
    → list_any (records_data n) (calls_in events) ≡ false
    → flat_map (data_by n) (deeds_in given events)
    ≡ flat_map (data_by n) (flat_map (told_by given) (told_in events))
events_told n given [] h = refl
events_told {E} {F} n given (Called call ∷ events) h =
    let none = neither (records_data n call) (list_any (records_data n) (calls_in events)) h in
    flat_map-append (data_by n) (done_at {E = E} {F = F} given (Called call) events)
    (deeds_in given events)
    ∙ ap (λ l. l ++ flat_map (data_by n) (deeds_in given events))
    (called_none n (open_asked (asked_of call)) (recorded_so (was call)) events none.0)
    ∙ events_told n given events none.1
events_told n given (Stepped step ∷ events) h = events_told n given events h
events_told n given (Told entry ∷ events) h =
    flat_map-append (data_by n) (told_by given entry) (deeds_in given events)
    ∙ ap (λ l. flat_map (data_by n) (told_by given entry) ++ l) (events_told n given events h)
    ∙ sym (flat_map-append (data_by n) (told_by given entry)
    (flat_map (told_by given) (told_in events)))

-- no input is taken among these
told_both : (given : Option Command) (xs ys : List TraceEntry) → AllUntaken xs
    → deeds_told given (xs ++ ys) ≡ flat_map (told_by given) xs ++ deeds_told given ys
told_both given [] ys h = refl
told_both given (Took commands replies taken ∷ xs) ys h = absurd h.0
told_both given (Sent frame ∷ xs) ys h = told_both given xs ys h.1
told_both given (Noticed notice ∷ xs) ys h =
    ap (λ l. told_by given (Noticed notice) ++ l) (told_both given xs ys h.1)
    ∙ sym (append_assoc (told_by given (Noticed notice)) (flat_map (told_by given) xs)
    (deeds_told given ys))
told_both given (Answered ticket came ∷ xs) ys h =
    ap (λ l. told_by given (Answered ticket came) ++ l) (told_both given xs ys h.1)
    ∙ sym (append_assoc (told_by given (Answered ticket came)) (flat_map (told_by given) xs)
    (deeds_told given ys))

-- what comes next is an input, or nothing
next_told : {E F : Type 0} (given : Option Command) (turns : List (Turn E F))
    → deeds_told given (flat_map entries turns) ≡ deeds_told None (flat_map entries turns)
next_told given [] = refl
next_told given (turn ∷ turns) = refl

run_told : {E F : Type 0} (n : ℕ) (accepts : Acceptance) (w : World) (turns : List (Turn E F))
    (world : World) → Run accepts w turns world
    → list_any (records_data n) (flat_map calls_of turns) ≡ false
    → flat_map (data_by n) (flat_map deeds turns) ≡ data_told n (flat_map entries turns)
run_told n accepts w [] world run h = refl
run_told n accepts w (turn ∷ turns) world run h =
    let t = run.1 in
    let given = given_by turn.input.kind in
    let none = neither (list_any (records_data n) (calls_of turn))
    (list_any (records_data n) (flat_map calls_of turns))
    (sym (list_any-append (records_data n) (calls_of turn) (flat_map calls_of turns)) ∙ h) in
    let untaken = owed_untaken accepts w turn.input t.0 turn.events (Goes run.0) t.1 t.2 in
    let rest = flat_map entries turns in
    let told : deeds_told None (entries turn ++ rest)
    ≡ flat_map (told_by given) (told_in turn.events) ++ deeds_told None rest =
    told_both given (told_in turn.events) rest untaken
    ∙ ap (λ l. flat_map (told_by given) (told_in turn.events) ++ l) (next_told given turns) in
    flat_map-append (data_by n) (deeds turn) (flat_map deeds turns)
    ∙ ap (λ l. l ++ flat_map (data_by n) (flat_map deeds turns))
    (events_told n given turn.events none.0)
    ∙ ap (λ l. flat_map (data_by n) (flat_map (told_by given) (told_in turn.events)) ++ l)
    (run_told n accepts run.0 turns world run.2 none.1)
    ∙ sym (flat_map-append (data_by n) (flat_map (told_by given) (told_in turn.events))
    (deeds_told None rest))
    ∙ ap (flat_map (data_by n)) (sym told)

pub traces_tell : (E F : Type 0) (accepts : Acceptance) → TracesTell E F accepts
traces_tell E F accepts settings turns world run n none =
    let last = deeds_last n [] (flat_map deeds turns) in (
      last.0,
      sym (run_told n accepts (opening_world settings) turns world run none) ∙ last.1,
    )

-- what follows a trace adds to what it tells
told_more : (given : Option Command) (xs ys : List TraceEntry) → (more : List Deed)
    × (deeds_told given (xs ++ ys) ≡ deeds_told given xs ++ more)
told_more given [] ys = (deeds_told given ys, refl)
told_more given (x ∷ xs) ys =
    let later = told_more (given_then given x) xs ys in (
      later.0,
      ap (λ l. told_by given x ++ l) later.1
          ∙ sym (append_assoc (told_by given x) (deeds_told (given_then given x) xs) later.0),
    )

pub traces_hold : (E F : Type 0) (accepts : Acceptance) → TracesHold E F accepts
traces_hold E F accepts settings turns world run n none seen rest more is quiet =
    let trace = flat_map entries turns in
    let told = traces_tell E F accepts settings turns world run n none in
    let longer = told_more None trace more in
    let bytes = accepted_on n (flat_map deeds turns) in
    let later = flat_map (data_by n) longer.0 in (
      told.0,
      bytes,
      later,
      ap (flat_map (data_by n)) longer.1
          ∙ flat_map-append (data_by n) (deeds_told None trace) longer.0
          ∙ ap (λ l. l ++ later) told.1 ∙ append_assoc told.0 bytes later,
      run_holds accepts settings turns world run n seen rest is quiet,
    )
