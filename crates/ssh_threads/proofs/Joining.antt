-- What a session's seat knows once the writers' seats were joined into it.
use Rattle.std.proofs.Common.{◌≡◌, ◌≤◌, ℕ, List, [], ◌∷◌, ◌++◌, Option, Some, None, Result, Ok, Err, IfOk, length, ◌-◌, ◌^◌, arith, refl, sym, ◌∙◌, ap, subst, inl, inr, append-nil}
use Rattle.ssh_link.specs.declared.frame.InputKind.{InputKind}
use Rattle.ssh_link.specs.Told.{Adds}
use Rattle.ssh_link.specs.Faults.{Rose}
use Rattle.ssh_hub.specs.Does.{Does, entries}
use Rattle.ssh_hub.specs.History.{calls_by}
use Rattle.ssh_hub.specs.Words.{Meets, view_of}
use Rattle.ssh_hub.specs.declared.history.HubCall.{HubCall}
use Rattle.ssh_hub.specs.declared.history.HubReply.{HubReply}
use Rattle.ssh_hub.specs.declared.history.View.{View}
use Rattle.ssh_hub.specs.declared.lock.HubLock.{HubLock}
use Rattle.ssh_hub.proofs.Following.{did_then_none}
use Rattle.ssh_hub.proofs.OwnAfter.{met_none}
use Rattle.ssh_hub.proofs.SeatCalls.{own_takes}
use Rattle.ssh_hub.specs.Rule.{newcomer}
use Rattle.ssh_hub.specs.declared.answers.Config2.{Config2}
use Rattle.ssh_auth.specs.Publickey.{Acceptance}
use Rattle.ssh_rules.specs.Account.{Closes}
use Rattle.ssh_rules.specs.World.{World}
use Rattle.ssh_rules.specs.declared.error.RunError.TheVariants.{LinkFault}
use Rattle.ssh_script.specs.Transcript.{scene_accepts}
use Rattle.ssh_script.proofs.Faultless.{closes_by}
use Rattle.ssh_link.specs.Frames.{Frame}
use Rattle.ssh_link.specs.declared.frame.Input.{Input}
use Rattle.ssh_link.specs.declared.link.TraceEntry.{TraceEntry}
use Rattle.ssh_hub_link.specs.Given.{inputs_in, frames_in, of_feed, of_hub, taken_by, takes_in, TakesOf}
use Rattle.ssh_threads.specs.Runs.{IsRunOf, RanInThreads}
use Rattle.ssh_threads.specs.Sessions.{Outcome, FailureTurn, Serves, hall}
use Rattle.ssh_threads.specs.Served.{PeerTold, IsLeft}
use Rattle.ssh_threads.specs.Taken.{taken_in, taken_of}
use Rattle.ssh_threads.specs.declared.served.Served.{Served}
use Rattle.ssh_threads.proofs.Unfailing.{unfailed}

link_fault : (accepts : Acceptance) (w : World) (count max : ℕ) (last : Option FailureTurn)
    (rose : Type 0) → Closes accepts w count max last rose (Err LinkFault) → rose
link_fault accepts w count max (Some turn) rose c = c.2.2.0
link_fault accepts w count max None rose c = c.0

-- what the entries of these calls took is what the calls took
taken_so : (n : ℕ) (calls : List (HubCall × HubReply))
    → taken_in (entries n calls) ≡ takes_in calls
taken_so n [] = refl
taken_so n (one ∷ others) = ap (λ kinds. taken_by one.0 one.1 ++ kinds) (taken_so n others)

-- a seat that had made no call took what stands in its history
own_taken : (u w : View) (calls : List (HubCall × HubReply)) → calls_by u.number u.seen ≡ []
    → Does u calls w → taken_of w.number w.seen ≡ takes_in calls
own_taken u w calls none did =
    ap (λ n. taken_of n w.seen) did.same.0
    ∙ ap taken_in (did.own ∙ ap (λ log. log ++ entries u.number calls) none)
    ∙ taken_so u.number calls

-- so it is where it has met another since
met_taken : (u v x w : View) (kinds : List InputKind) → calls_by u.number u.seen ≡ []
    → TakesOf u v (Some kinds) → Meets v x w → kinds ≡ taken_of w.number w.seen
unfolding TakesOf
met_taken u v x w kinds none takes meets =
    let calls = takes.0 in
    takes.2 ∙ sym (own_taken u w calls none
    (did_then_none u calls v w takes.1 (met_none v x w meets)))

pub ran : (lock : HubLock) (knew v x w : View) (before after : PeerTold) (served : Served)
    → calls_by knew.number knew.seen ≡ [] → IsLeft lock knew before after served
    → view_of served.seat ≡ v → Meets v x w
    → RanInThreads (Rose before.faults after.faults) before.inputs after.inputs before.frames
    after.frames served.trace.items served.outcome w
ran lock knew v x w before after served none left is meets = record {
  run = inl left.run;
  unfailed = unfailed (Rose before.faults after.faults) served.trace.items served.outcome
      (inl left.run);
  inputs = left.inputs;
  frames = left.frames;
  legal = meets.legal;
  takes = met_taken knew v x w (of_hub (inputs_in served.trace.items)) none
      (subst (λ u. TakesOf knew u (Some (of_hub (inputs_in served.trace.items)))) is left.takes)
      meets;
  puts = own_takes w.config w.seen w.number meets.legal;
}

-- what is so from a moment on is so from one before it, where nothing was told between them
serves_since : (f g h : ℕ) (before after : Option (List TraceEntry)) (outcome : Outcome) → f ≤ g
    → Serves (Rose g h) before after outcome → Serves (Rose f h) before after outcome
serves_since f g h before after outcome later s = record {
  turns = s.turns;
  world = s.world;
  run = s.run;
  last = s.last;
  closes = closes_by (scene_accepts hall) s.world (length s.turns) (2 ^ 64 - 1) s.last (Rose g h)
      (Rose f h) outcome (λ rose. omega (arith, rose, later)) s.closes;
  answered = s.answered;
  exchanged = s.exchanged;
  told = s.told;
  fed = s.fed;
  held = s.held;
}

run_since : (f g h : ℕ) (trace : List TraceEntry) (outcome : Outcome) → f ≤ g
    → IsRunOf (Rose g h) trace outcome → IsRunOf (Rose f h) trace outcome
run_since f g h trace outcome later (inl s) =
    inl (serves_since f g h (Some []) (Some trace) outcome later s)
run_since f g h trace outcome later (inr s) = inr (omega (arith, s.0, later), s.1, s.2)

pub ran_since : (f g h : ℕ) (inputs inputs' given : Option (List Input))
    (frames frames' taken : Option (List Frame)) (trace : List TraceEntry) (outcome : Outcome)
    (seat : View) → f ≤ g → inputs' ≡ inputs → frames' ≡ frames
    → RanInThreads (Rose g h) inputs' given frames' taken trace outcome seat
    → RanInThreads (Rose f h) inputs given frames taken trace outcome seat
ran_since f g h inputs inputs' given frames frames' taken trace outcome seat later same_inputs
    same_frames r = record {
      run = run_since f g h trace outcome later r.run;
      unfailed = r.unfailed;
      inputs = subst (λ i. Adds i given (of_feed (inputs_in trace))) same_inputs r.inputs;
      frames = subst (λ i. Adds i taken (frames_in trace)) same_frames r.frames;
      legal = r.legal;
      takes = r.takes;
      puts = r.puts;
    }

pub nothing_more : {A : Type 0} (old new : Option (List A)) → new ≡ old → Adds old new []
nothing_more None new same = same
nothing_more (Some items) new same = same ∙ ap Some (sym (append-nil items))

-- where nothing was run, nothing happened
pub not_run : (rose : Type 0) (inputs inputs' : Option (List Input))
    (frames frames' : Option (List Frame)) (config : Config2) (seat : View) → rose
    → inputs' ≡ inputs → frames' ≡ frames → seat ≡ newcomer config 1 []
    → RanInThreads rose inputs inputs' frames frames' [] (Err LinkFault) seat
not_run rose inputs inputs' frames frames' config seat so same_inputs same_frames is =
    subst (RanInThreads rose inputs inputs' frames frames' [] (Err LinkFault)) (sym is) (record {
      run = inr (so, refl, refl);
      unfailed = unfailed rose [] (Err LinkFault) (inr (so, refl, refl));
      inputs = nothing_more inputs inputs' same_inputs;
      frames = nothing_more frames frames' same_frames;
      legal = tt;
      takes = refl;
      puts = refl;
    })

-- a run ends by a fault of the link only where the peer's faults rose
pub fault_rose : (rose : Type 0) (trace : List TraceEntry) (outcome : Outcome)
    → outcome ≡ Err LinkFault → IsRunOf rose trace outcome → rose
fault_rose rose trace outcome is (inr s) = s.0
fault_rose rose trace outcome is (inl s) =
    link_fault (scene_accepts hall) s.world (length s.turns) (2 ^ 64 - 1) s.last rose
    (subst (λ result. Closes (scene_accepts hall) s.world (length s.turns) (2 ^ 64 - 1) s.last rose
    result) is s.closes)

-- the same of the run that is answered
pub ran_so : (rose : Type 0) (given given' : Option (List Input)) (taken taken' : Option (List Frame))
    (trace trace' : List TraceEntry) (outcome outcome' : Outcome) (seat : View) → trace' ≡ trace
    → outcome' ≡ outcome → RanInThreads rose given given' taken taken' trace outcome seat
    → RanInThreads rose given given' taken taken' trace' outcome' seat
ran_so rose given given' taken taken' trace trace' outcome outcome' seat traces outcomes r =
    subst (λ (t : List TraceEntry). RanInThreads rose given given' taken taken' t outcome' seat)
    (sym traces)
    (subst (λ (o : Outcome). RanInThreads rose given given' taken taken' trace o seat)
    (sym outcomes) r)

-- what follows for each answer follows for the answer
pub if_ok : {T E : Type 0} (P Q : T → Type 0) (r : Result T E) → ((t : T) → P t → Q t) → IfOk r P
    → IfOk r Q
if_ok P Q (Ok t) f h = f t h
if_ok P Q (Err e) f h = tt
