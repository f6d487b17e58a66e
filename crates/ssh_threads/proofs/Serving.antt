-- What a session leaves, whose handler answers as in the beginning of a script.
use Rattle.std.proofs.Common.{◌≡◌, ◌-◌, ◌^◌, ℕ, List, [], ◌++◌, Bool, false, Option, Some, sym, ◌∙◌, ap, subst}
use Rattle.std.specs.Prelude.{flat_map, option_to_list}
use Rattle.std.proofs.lemmas.List.Concat.{flat_map-append}
use Rattle.ssh_link.specs.Faults.{Rose}
use Rattle.ssh_link.specs.declared.kex.KexCall.{KexCall}
use Rattle.ssh_link.specs.declared.link.TraceEntry.{TraceEntry}
use Rattle.ssh_link.specs.declared.plain_kex.PlainKexError.{PlainKexError}
use Rattle.ssh_auth.specs.declared.question.Question.{Question}
use Rattle.ssh_rules.specs.Account.{Told, Ran}
use Rattle.ssh_rules.specs.Run.{Run, calls_of, steps_of, entries}
use Rattle.ssh_rules.specs.World.{World, settings_of, opening_world}
use Rattle.ssh_run_laws.specs.Traces.{data_told}
use Rattle.ssh_run_laws.proofs.Traces.{traces_hold}
use Rattle.ssh_scene.specs.Scene.{Scene}
use Rattle.ssh_scene.specs.Queues.{Queues}
use Rattle.ssh_players.specs.Played.{Failure, IsAnswered, played, told_of}
use Rattle.ssh_players.specs.Exchanged.{IsExchanged}
use Rattle.ssh_players.proofs.Keeping.{stepped_is}
use Rattle.ssh_script.specs.Transcript.{scene_accepts}
use Rattle.ssh_script.proofs.Kept.{is_answered, told_is}
use Rattle.ssh_threads.specs.Sessions.{Outcome, IsFed, FailureTurn, HoldsData, ServesAs, hall_settings}
use Rattle.ssh_threads.proofs.Silent.{quiet, silent}

-- at each moment the data frames hold what they should
holding : (scene : Scene) (turns : List FailureTurn) (last : Option FailureTurn) (world : World)
    → Run (scene_accepts scene) (opening_world (hall_settings scene)) turns world
    → scene.queues.standing ≡ quiet
    → IsAnswered scene.queues (flat_map calls_of (turns ++ option_to_list last))
    → HoldsData turns world (flat_map entries (turns ++ option_to_list last))
holding scene turns last world run stands answers number seen rest is quiet_since =
    let all = flat_map-append calls_of turns (option_to_list last) in
    let none = silent number scene.queues (flat_map calls_of turns)
    (flat_map calls_of (option_to_list last)) stands (subst (IsAnswered scene.queues) all answers) in
    let trace = flat_map-append entries turns (option_to_list last) in
    let h = traces_hold _ _ _ (hall_settings scene) turns world run number none seen rest
    (flat_map entries (option_to_list last)) is quiet_since in
    (h.0, h.1, h.2, ap (data_told number) trace ∙ h.3, h.4)

-- what a handler that was asked so, an exchange with these calls and a link have told
abbrev told : (lost : Bool) → Queues → List Question → List (KexCall PlainKexError)
    → Option (List TraceEntry) → ℕ → Told Failure PlainKexError
told lost queues all steps trace faults = record {
  calls = told_of lost queues all;
  steps = Some steps;
  trace = trace;
  faults = faults;
}

pub serves : (scene : Scene) (outcome : Outcome) (lost lost' : Bool) (queues queues' : Queues)
    (old all : List Question) (steps steps' : List (KexCall PlainKexError))
    (trace trace' : Option (List TraceEntry)) (faults faults' : ℕ) (id : List ℕ)
    (repeatable : Bool)
    → scene.queues.standing ≡ quiet → repeatable ≡ false → lost ≡ false → lost' ≡ false
    → queues ≡ scene.queues → old ≡ [] → steps ≡ [] → IsExchanged false steps'
    → id ≡ scene.session_id → IsFed outcome
    → Ran (scene_accepts scene) (settings_of scene.config id [] repeatable)
    (told lost queues old steps trace faults) (told lost' queues' all steps' trace' faults')
    (2 ^ 64 - 1) outcome
    → ServesAs scene (Rose faults faults') trace trace' outcome
serves scene outcome lost lost' queues queues' old all steps steps' trace trace' faults faults' id
    repeatable stands repeats l m qe oe se exchanged ide fed given_ran =
    let before : Told Failure PlainKexError = told lost queues old steps trace faults in
    let after : Told Failure PlainKexError = told lost' queues' all steps' trace' faults' in
    let ran : Ran (scene_accepts scene) (hall_settings scene) before after (2 ^ 64 - 1) outcome =
    subst (λ x. Ran (scene_accepts scene) (settings_of scene.config x [] false) before after
    (2 ^ 64 - 1) outcome) ide
    (subst (λ b. Ran (scene_accepts scene) (settings_of scene.config id [] b) before after
    (2 ^ 64 - 1) outcome) repeats given_ran) in
    let calls = flat_map calls_of (ran.turns ++ option_to_list ran.last) in
    let asked = flat_map steps_of (ran.turns ++ option_to_list ran.last) in
    let t = told_is outcome lost lost' queues queues' old all calls l m oe ran.called in
    let c : played scene.queues all ≡ calls = ap (λ q. played q all) (sym (t.0 ∙ qe)) ∙ t.1 in
    let answers : IsAnswered scene.queues calls =
    subst (IsAnswered scene.queues) c (is_answered scene.queues all) in
    record {
      turns = ran.turns;
      world = ran.world;
      run = ran.run;
      last = ran.last;
      closes = ran.closes;
      answered = answers;
      exchanged = subst (IsExchanged false) (stepped_is steps steps' asked se ran.stepped)
          exchanged;
      told = ran.told;
      fed = fed;
      held = holding scene ran.turns ran.last ran.world ran.run stands answers;
    }
