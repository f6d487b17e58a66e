-- What a link leaves after the run of a session over it.
use Rattle.std.proofs.Common.{◌≡◌, ℕ, List, [], ◌++◌, Option, Some, None, Result, Ok, OnOk, IfOk, IfSome, sym, ◌∙◌, ap, subst, append-nil}
use Rattle.std.specs.Prelude.{flat_map, option_to_list}
use Rattle.std.specs.Option.{option_map}
use Rattle.ssh_link.specs.Faults.{Rose}
use Rattle.ssh_link.specs.Frames.{Frame}
use Rattle.ssh_link.specs.Told.{Adds}
use Rattle.ssh_link.specs.declared.frame.Input.{Input}
use Rattle.ssh_link.specs.declared.frame.InputKind.{InputKind}
use Rattle.ssh_link.specs.declared.link.TraceEntry.{TraceEntry}
use Rattle.ssh_rules.specs.Run.{entries}
use Rattle.ssh_hub.specs.Words.{config_of, view_of, IsSeatOf}
use Rattle.ssh_hub.specs.declared.history.View.{View}
use Rattle.ssh_hub.specs.declared.lock.HubLock.{HubLock}
use Rattle.ssh_hub.specs.declared.lock.Seat.{Seat}
use Rattle.ssh_hub_link.specs.Given.{given, sent, inputs_in, frames_in, of_feed, of_hub, GoesOn, TakesOf}
use Rattle.ssh_hub_link.specs.Journals.{listed}
use Rattle.ssh_hub_link.specs.Linked.{Linked}
use Rattle.ssh_threads.specs.Pins.{Watched}
use Rattle.ssh_threads.specs.Served.{peer_told, IsLeft}
use Rattle.ssh_threads.specs.Sessions.{Outcome, Serves}
use Rattle.ssh_threads.specs.declared.served.Served.{Served}

-- the list went on by these, where they are known
went_on : {A : Type 0} (before now : Option (List A)) (more : List A) → GoesOn before now (Some more)
    → Adds before now more
unfolding GoesOn
went_on before now more went = went

-- all inputs of a trace, where none was lost
all_given : {A : Type 0} (f : List Input → A) (trace : List TraceEntry)
    (told : Option (List TraceEntry)) (lost : Option Input) → told ≡ Some trace → lost ≡ None
    → option_map f (given told lost) ≡ Some (f (inputs_in trace))
all_given f trace told lost is none =
    ap (λ (t : Option (List TraceEntry)). option_map f (given t lost)) is
    ∙ ap (λ (l : Option Input). option_map f (given (Some trace) l)) none
    ∙ ap (λ (inputs : List Input). Some (f inputs)) (append-nil (inputs_in trace))

fits_still : (lock other : HubLock) (seat : Seat)
    → other.table.shared.table_id ≡ lock.table.shared.table_id → config_of other ≡ config_of lock
    → IsSeatOf other seat → IsSeatOf lock seat
fits_still lock other seat table config fits = (fits.0 ∙ table, fits.1 ∙ config)

module _ {F V E : Type 0} (told_inputs : F → Option (List Input))
    (told_frames : F → Option (List Frame)) (faults : F → ℕ) (items : V → List TraceEntry)
    (kept : Served → V) (fits : (s : Served) → items (kept s) ≡ s.trace.items)
    (lock : HubLock) (knew : View) (inputs : Option (List Input)) (frames : Option (List Frame))
    (failed : ℕ) (l : Linked HubLock Seat F) (feed : F) (seat : Seat)
    (outcome : Result Outcome E) (copies : Result V E)
    (table : l.lock.table.shared.table_id ≡ lock.table.shared.table_id)
    (config : config_of l.lock ≡ config_of lock)
    (seat_before : view_of l.seat_before ≡ knew)
    (inputs_before : told_inputs l.feed_before ≡ inputs)
    (frames_before : told_frames l.feed_before ≡ frames)
    (same_feed : feed ≡ l.feed)
    (seat_fits : IsSeatOf l.lock seat)
    (takes : TakesOf (view_of l.seat_before) (view_of seat) (option_map of_hub
    (given l.trace l.lost)))
    (gave : GoesOn (told_inputs l.feed_before) (told_inputs feed) (option_map of_feed
    (given l.trace l.lost)))
    (took : GoesOn (told_frames l.feed_before) (told_frames feed) (sent l.trace))
    (run : IfOk outcome (λ o. Serves (Rose failed (faults l.feed)) (Some []) l.trace o))
    (whole : OnOk copies (l.lost ≡ None))
    (copied : IfOk copies (λ v. items v ≡ listed l.trace)) where
  some_left : (s : Served) → s.seat ≡ seat → outcome ≡ Ok s.outcome → copies ≡ Ok (kept s)
      → IsLeft lock knew (record { inputs = inputs; frames = frames; faults = failed })
      (peer_told told_inputs told_frames faults feed) s
  some_left s same_seat same_outcome same_trace =
      let ran : Serves (Rose failed (faults l.feed)) (Some []) l.trace s.outcome =
      subst (λ (r : Result Outcome E). IfOk r (λ o. Serves (Rose failed (faults l.feed)) (Some [])
      l.trace o)) same_outcome run in
      let all = flat_map entries (ran.turns ++ option_to_list ran.last) in
      let told : l.trace ≡ Some all = ran.told in
      let none : l.lost ≡ None =
      subst (λ (r : Result V E). OnOk r (l.lost ≡ None)) same_trace whole in
      let kept_is : items (kept s) ≡ listed l.trace =
      subst (λ (r : Result V E). IfOk r (λ v. items v ≡ listed l.trace)) same_trace copied in
      let is : s.trace.items ≡ all = sym (fits s) ∙ kept_is ∙ ap listed told in
      let trace : l.trace ≡ Some s.trace.items = told ∙ ap Some (sym is) in
      record {
        seat = subst (IsSeatOf lock) (sym same_seat)
            (fits_still lock l.lock seat table config seat_fits);
        takes =
            subst (λ (u : Seat). TakesOf knew (view_of u) (Some (of_hub (inputs_in s.trace.items))))
            (sym same_seat)
            (subst (λ (v : View). TakesOf v (view_of seat) (Some (of_hub
            (inputs_in s.trace.items)))) seat_before
            (subst (λ (kinds : Option (List InputKind)). TakesOf (view_of l.seat_before)
            (view_of seat) kinds) (all_given of_hub s.trace.items l.trace l.lost trace none) takes));
        inputs =
            subst (λ (i : Option (List Input)). Adds i (told_inputs feed) (of_feed
            (inputs_in s.trace.items))) inputs_before
            (went_on (told_inputs l.feed_before) (told_inputs feed) (of_feed
            (inputs_in s.trace.items))
            (subst (λ (more : Option (List Input)). GoesOn (told_inputs l.feed_before)
            (told_inputs feed) more) (all_given of_feed s.trace.items l.trace l.lost trace none)
            gave));
        frames =
            subst (λ (i : Option (List Frame)). Adds i (told_frames feed) (frames_in s.trace.items))
            frames_before
            (went_on (told_frames l.feed_before) (told_frames feed) (frames_in s.trace.items)
            (subst (λ (more : Option (List Frame)). GoesOn (told_frames l.feed_before)
            (told_frames feed) more) (ap sent trace) took));
        run =
            subst (λ (n : ℕ). Serves (Rose failed n) (Some []) (Some s.trace.items) s.outcome)
            (ap faults (sym same_feed))
            (subst (λ (t : Option (List TraceEntry)). Serves (Rose failed (faults l.feed)) (Some [])
            t s.outcome) trace ran);
      }

  pub left_of : (served : Option Served) → IfSome served (λ s. s.seat ≡ seat)
      → IfSome served (λ s. outcome ≡ Ok s.outcome)
      → IfSome served (λ s. copies ≡ Ok (kept s))
      → IfSome served (IsLeft lock knew
      (record { inputs = inputs; frames = frames; faults = failed })
      (peer_told told_inputs told_frames faults feed))
  left_of None seats outcomes traces = tt
  left_of (Some s) seats outcomes traces = some_left s seats outcomes traces

-- a run over a link that told nothing before it
pub run_is : {E : Type 0} (outcome : Result Outcome E) (w w' : Watched) (failed failed' : ℕ)
    (trace : Option (List TraceEntry)) → w ≡ record { trace = Some []; faults = failed }
    → w' ≡ record { trace = trace; faults = failed' }
    → IfOk outcome (λ o. Serves (Rose w.faults w'.faults) w.trace w'.trace o)
    → IfOk outcome (λ o. Serves (Rose failed failed') (Some []) trace o)
run_is outcome w w' failed failed' trace before after ran =
    subst (λ (v : Watched). IfOk outcome (λ o. Serves (Rose failed v.faults) (Some []) v.trace o))
    after
    (subst (λ (v : Watched). IfOk outcome (λ o. Serves (Rose v.faults w'.faults) v.trace w'.trace o))
    before ran)
