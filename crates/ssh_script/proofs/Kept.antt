-- What was kept in a run is what is owed.
use Rattle.std.proofs.Common.{◌≡◌, ◌<◌, ◌⊎◌, ℕ, List, [], ◌∷◌, ◌++◌, length, Some, Result, Ok}
use Rattle.std.proofs.Common.{Bool, true, false, arith, refl, sym, ◌∙◌, ap, subst, inl, inr}
use Rattle.std.specs.Prelude.{flat_map, option_to_list}
use Rattle.std.proofs.lemmas.List.{append-nil}
use Rattle.std.proofs.lemmas.List.Concat.{flat_map-append}
use Rattle.ssh_link.specs.declared.frame.Input.{Input}
use Rattle.ssh_link.specs.declared.kex.KexCall.{KexCall}
use Rattle.ssh_link.specs.declared.link.TraceEntry.{TraceEntry}
use Rattle.ssh_link.specs.Supply.{left_until}
use Rattle.ssh_link.specs.declared.plain_kex.PlainKexError.{PlainKexError}
use Rattle.ssh_link.specs.Told.{ToldBy}
use Rattle.ssh_auth.specs.declared.call.Call.{Call}
use Rattle.ssh_auth.specs.declared.call.Call.TheVariants as call
use Rattle.ssh_auth.specs.declared.question.Question.{Question}
use Rattle.ssh_auth.specs.declared.question.Question.TheVariants as ask
use Rattle.ssh_auth.specs.Calls.{admission_call, lent_call, judged_call}
use Rattle.ssh_auth.specs.Was.{question_of, asked_of}
use Rattle.ssh_auth.proofs.Back.{admitted_back, lent_back, judged_back}
use Rattle.ssh_rules.specs.declared.error.RunError.{RunError}
use Rattle.ssh_rules.specs.World.{settings_of}
use Rattle.ssh_rules.specs.Cause.{may_stop}
use Rattle.ssh_rules.specs.Run.{calls_of, steps_of, entries}
use Rattle.ssh_rules.specs.Account.{Told, Ran}
use Rattle.ssh_scene.specs.Scene.{Scene}
use Rattle.ssh_scene.specs.Queues.{Queues}
use Rattle.ssh_players.specs.Played.{Failure, banner_answer, interactive_answer, verdict_on}
use Rattle.ssh_players.specs.Played.{records, grants, listened, answered, after, played, IsAnswered}
use Rattle.ssh_players.specs.Played.{heading, told_of}
use Rattle.ssh_players.specs.Exchanged.{IsExchanged}
use Rattle.ssh_players.specs.Given.{as_given, trace_of}
use Rattle.ssh_transcript.specs.CallLines.{question_line, call_line}
use Rattle.ssh_transcript.specs.Print.{entry_lines, last_line}
use Rattle.ssh_transcript.specs.Summary.{summary}
use Rattle.ssh_script.specs.declared.run.Writing.{Writing}
use Rattle.ssh_script.specs.declared.run.Writing.TheVariants.{LineByLine, InNumbers}
use Rattle.ssh_script.specs.Transcript.{status_of, scene_settings, scene_accepts, IsRun}
use Rattle.ssh_script.specs.Writings.{writing_of, text_in}
use Rattle.ssh_script.proofs.Faultless.{closes_by}
use Rattle.ssh_players.proofs.Heads.{heads}
use Rattle.ssh_players.proofs.Keeping.{stepped_is, traced_is, given_same}

abbrev done : Unit {0}
done = tt

-- a question has one call, or it is one of an exchange and has none, nor a line
abbrev IsHeard : Queues → Question → Type 0
IsHeard queues one =
    ((call : Call Failure) × (answered queues one ≡ call ∷ []) × (asked_of call ≡ one))
    ⊎ ((answered queues one ≡ []) × (after queues one ≡ queues) × (question_line one ≡ []))

heard : (queues : Queues) (one : Question) → IsHeard queues one
heard queues ask.Banner = inl (
  call.AuthenticationBanner
      (banner_answer queues.banners queues.banner),
  refl,
  refl,
)
heard queues (ask.Admits admission) =
    let answer = interactive_answer (verdict_on queues admission) in
    inl (
      admission_call admission answer,
      refl,
      ap question_of (admitted_back Failure admission answer),
    )
heard queues (ask.Lends lent) =
    inl (
      lent_call lent (Ok done) (records queues.standing lent),
      refl,
      ap question_of (lent_back Failure lent (Ok done)
          (records queues.standing lent)),
    )
heard queues (ask.Judges judged) =
    inl (
      judged_call judged (Ok (grants queues.standing judged)) [],
      refl,
      ap question_of (judged_back Failure judged (Ok (grants queues.standing judged)) []),
    )
heard queues (ask.Listens address port) = inl (
  listened address port queues.standing.forwards,
  refl,
  refl,
)
heard queues (ask.Adjusts channel current) = inl (
  call.AdjustWindow channel current (Ok current),
  refl,
  refl,
)
heard queues (ask.Done place outcome) = inl (call.CommandDone place outcome (Ok done), refl, refl)
heard queues ask.Begins = inr (refl, refl, refl)
heard queues (ask.Steps payload) = inr (refl, refl, refl)

-- what was played was answered by the script
first_answered : (queues : Queues) (one : Question) (rest : List (Call Failure))
    → IsHeard queues one → IsAnswered (after queues one) rest
    → IsAnswered queues (answered queues one ++ rest)
first_answered queues one rest (inl h) k =
    subst (λ l. IsAnswered queues (l ++ rest)) (sym h.1) (
      sym h.1 ∙ ap (answered queues) (sym h.2),
      subst (λ q. IsAnswered (after queues q) rest)
          (sym h.2) k,
    )
first_answered queues one rest (inr h) k = subst (λ l. IsAnswered queues (l ++ rest)) (sym h.0)
    (subst (λ q. IsAnswered q rest) h.1 k)

pub is_answered : (queues : Queues) (all : List Question) → IsAnswered queues (played queues all)
is_answered queues [] = tt
is_answered queues (one ∷ more) = first_answered queues one (played (after queues one) more)
    (heard queues one) (is_answered (after queues one) more)

-- it prints as it was kept
first_prints : (queues : Queues) (one : Question) → IsHeard queues one → question_line one
    ≡ flat_map call_line (answered queues one)
first_prints queues one (inl h) = sym (ap (flat_map call_line) h.1 ∙ append-nil (call_line h.0)
    ∙ ap question_line h.2)
first_prints queues one (inr h) = h.2 ∙ sym (ap (flat_map (call_line {E = Failure})) h.0)

calls_print : (queues : Queues) (all : List Question) → flat_map question_line all
    ≡ flat_map call_line (played queues all)
calls_print queues [] = refl
calls_print queues (one ∷ more) =
    ap (λ t. t ++ flat_map question_line more) (first_prints queues one (heard queues one))
    ∙ ap (λ t. flat_map call_line (answered queues one) ++ t) (calls_print (after queues one) more)
    ∙ sym (flat_map-append call_line (answered queues one) (played (after queues one) more))

-- a handler that goes on telling told these calls
told_some : (may_stop : Bool) (old new calls : List (Call Failure)) → ToldBy may_stop (Some old)
    (Some new) calls → new ≡ old ++ calls
told_some true old new calls h = h
told_some false old new calls h = let z : Some new ≡ Some (old ++ calls) = h in cc

pub told_is : (result : Result (Unit {0}) (RunError Failure PlainKexError)) (lost lost' : Bool)
    (queues queues' : Queues) (old all : List Question) (calls : List (Call Failure)) →
    lost ≡ false → lost' ≡ false → old ≡ [] → ToldBy (may_stop result) (told_of lost queues old)
    (told_of lost' queues' all) calls → (queues' ≡ queues) × (played queues' all ≡ calls)
told_is result true lost' queues queues' old all calls l m o h = absurd (let z : true ≡ false = l in
    cc)
told_is result false true queues queues' old all calls l m o h = absurd (let z : true ≡ false = m in
    cc)
told_is result false false queues queues' old all calls l m o h =
    let e : heading queues' ++ played queues' all ≡ (heading queues ++ played queues old) ++ calls =
    told_some (may_stop result) (heading queues ++ played queues old) (heading queues'
    ++ played queues' all) calls h in
    let f : heading queues ++ played queues old ≡ heading queues =
    ap (λ x. heading queues ++ played queues x) o ∙ append-nil (heading queues) in
    heads queues' queues (played queues' all) calls (e ∙ ap (λ x. x ++ calls) f)

-- no fault of a script's link rises
not_below : 0 < 0 → ⊥
not_below h = absurd (omega (arith, h))

-- what a handler that was asked so, an exchange with these calls and a link with these entries have
-- told
abbrev told : (lost : Bool) → Queues → List Question → List (KexCall PlainKexError) → List Input
    → (moment : ℕ) → List TraceEntry → Told Failure PlainKexError
told lost queues all steps inputs moment trace = record {
  calls = told_of lost queues all;
  steps = Some steps;
  trace = trace_of inputs moment trace;
  faults = 0;
}

-- what is written of the questions is what is owed of their calls
written_as : (writing : Writing) (all : List Question) (calls : List (Call Failure))
    (trace told : List TraceEntry) (result : Result (Unit {0}) (RunError Failure PlainKexError))
    → flat_map question_line all ≡ flat_map call_line calls → trace ≡ told
    → text_in writing all trace result ≡ writing_of writing calls told result
written_as LineByLine all calls trace told result e f =
    ap (λ lines. lines ++ entry_lines 0 trace ++ last_line result) e
    ∙ ap (λ entries. flat_map call_line calls ++ entry_lines 0 entries ++ last_line result) f
written_as InNumbers all calls trace told result e f = ap (λ entries. summary entries result) f

pub kept : (writing : Writing) (scene : Scene) (status : ℕ)
    (result : Result (Unit {0}) (RunError Failure PlainKexError))
    (lost lost' : Bool) (queues queues' : Queues) (old all : List Question)
    (steps steps' : List (KexCall PlainKexError)) (inputs inputs' : List Input)
    (moment moment' : ℕ) (trace trace' : List TraceEntry) (id : List ℕ) (repeatable : Bool)
    (text : List ℕ) → repeatable ≡ true → lost ≡ false → lost' ≡ false → queues ≡ scene.queues →
    old ≡ [] → steps ≡ [] → IsExchanged false steps' → inputs ≡ scene.inputs →
    moment ≡ scene.moment → trace ≡ [] →
    as_given (left_until moment' inputs') trace' ≡ trace' → status_of result ≡ Some status →
    id ≡ scene.session_id →
    Ran (scene_accepts scene) (settings_of scene.config id [] repeatable)
    (told lost queues old steps inputs moment trace)
    (told lost' queues' all steps' inputs' moment' trace') scene.max_inputs result →
    text ≡ text_in writing all trace' result → IsRun (writing_of writing) scene status text
kept writing scene status result lost lost' queues queues' old all steps steps' inputs inputs' moment
    moment' trace trace' id repeatable text repeats l m qe oe se exchanged ie me te given h de
    given_ran texts =
    let before : Told Failure PlainKexError = told lost queues old steps inputs moment trace in
    let after : Told Failure PlainKexError = told lost' queues' all steps' inputs' moment' trace' in
    let ran : Ran (scene_accepts scene) (scene_settings scene) before after scene.max_inputs
    result =
    subst (λ x. Ran (scene_accepts scene) (settings_of scene.config x [] true) before after
    scene.max_inputs result) de
    (subst (λ b. Ran (scene_accepts scene) (settings_of scene.config id [] b) before after
    scene.max_inputs result) repeats given_ran) in
    let calls = flat_map calls_of (ran.turns ++ option_to_list ran.last) in
    let asked = flat_map steps_of (ran.turns ++ option_to_list ran.last) in
    let told = flat_map entries (ran.turns ++ option_to_list ran.last) in
    let t = told_is result lost lost' queues queues' old all calls l m oe ran.called in
    let u = traced_is inputs inputs' moment moment' trace trace' told te ran.told in
    let c : played scene.queues all ≡ calls = ap (λ q. played q all) (sym (t.0 ∙ qe)) ∙ t.1 in
    let f : flat_map question_line all ≡ flat_map call_line calls =
    calls_print scene.queues all ∙ ap (λ x. flat_map call_line x) c in
    record {
      turns = ran.turns;
      world = ran.world;
      run = ran.run;
      last = ran.last;
      result = result;
      closes = closes_by (scene_accepts scene) ran.world (length ran.turns) scene.max_inputs
          ran.last (0 < 0) ⊥ result not_below ran.closes;
      answered = subst (IsAnswered scene.queues) c (is_answered scene.queues all);
      exchanged = subst (IsExchanged false) (stepped_is steps steps' asked se ran.stepped)
          exchanged;
      given = given_same scene.inputs inputs' scene.moment moment' trace' told (u.0 ∙ ie)
          (u.1 ∙ me) u.2 given;
      status_is = h;
      text_is = texts ∙ written_as writing all calls trace' told result f u.2;
    }
