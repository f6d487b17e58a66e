-- How the program ends.
use Rattle.std.proofs.Common.{◌≡◌, ◌<◌, ◌⊎◌, ℕ, List, [], ◌∷◌, Bool, true, false, Option, Some}
use Rattle.std.proofs.Common.{None, Ok, Err, arith, refl, sym, ◌∙◌, ap, subst, inl, inr, cond}
use Rattle.std.specs.Fmt.{decimal}
use Rattle.std.proofs.lemmas.Fmt.{decimal_injective}
use Rattle.ssh_link.specs.Frames.{Frame}
use Rattle.ssh_link.specs.Told.{Adds}
use Rattle.ssh_link.specs.declared.frame.Input.{Input}
use Rattle.ssh_link.specs.declared.link.TraceEntry.{TraceEntry}
use Rattle.ssh_hub.specs.declared.history.View.{View}
use Rattle.ssh_hub_link.specs.Given.{frames_in}
use Rattle.ssh_rules.specs.declared.error.RunError.TheVariants.{LinkFault}
use Rattle.ssh_script.specs.Transfer.{AddsPart}
use Rattle.ssh_script.specs.Transcript.{AskForScript, Ends, Shown, Unread, Unwritten, Starved}
use Rattle.ssh_threads_lines.specs.Lines.{are_whole, status_of, text_of, full_text}
use Rattle.ssh_threads.specs.Programs.{IsCount, threads_words, IsAsked, NoThreads, ShowsThreads}
use Rattle.ssh_threads.specs.Runs.{RanInThreads}
use Rattle.ssh_threads.specs.Sessions.{Outcome}
use Rattle.ssh_threads_lines.proofs.Counting.{text_full}
use Rattle.ssh_threads.proofs.Joining.{nothing_more}

verdict_small : (b : Bool) → cond b 0 1 < 3
verdict_small true = omega arith
verdict_small false = omega arith

status_small : (n : ℕ) (frames : List Frame) (outcome : Outcome) → status_of n frames outcome < 3
status_small n frames (Ok done) = verdict_small (are_whole n frames)
status_small n frames (Err e) = omega arith

module _ (n : ℕ) (rose : Type 0) (given given' : Option (List Input))
    (taken taken' : Option (List Frame)) (trace : List TraceEntry) (outcome : Outcome) (seat : View)
    (status : ℕ) (text slice : List ℕ) (sink_failed : Type 0) (held held' : Option (List ℕ))
    (ran : RanInThreads rose given given' taken taken' trace outcome seat)
    (cause : outcome ≡ Err LinkFault → rose)
    (lent : List TraceEntry) (whole : lent ≡ trace)
    (status_is : status ≡ status_of n (frames_in lent) outcome)
    (text_is : text ≡ text_of n (frames_in lent) outcome) (same : slice ≡ text) where
  shows : ShowsThreads n rose given given' taken taken' status text
  shows = record {
    trace = trace;
    outcome = outcome;
    seat = seat;
    ran = ran;
    cause = cause;
    status_is = status_is ∙ ap (λ t. status_of n (frames_in t) outcome) whole;
    text_is = text_is ∙ ap (λ t. text_of n (frames_in t) outcome) whole;
  }

  pub shown : Adds held held' slice
      → Ends (ShowsThreads n rose given given' taken taken') ⊥ sink_failed held held' status
  shown added =
      Shown text (subst (λ s. s < 3) (sym status_is) (status_small n (frames_in lent) outcome))
      shows (subst (Adds held held') same added)

  pub cut_short : sink_failed → AddsPart held held' slice
      → Ends (ShowsThreads n rose given given' taken taken') ⊥ sink_failed held held' 4
  cut_short failed added =
      Unwritten refl failed text (inl (status, shows)) (subst (AddsPart held held') same added)

-- where there was no memory nothing is written
pub starved : (owed : ℕ → List ℕ → Type 0) (source_failed sink_failed : Type 0)
    (held held' : Option (List ℕ)) → held' ≡ held
    → Ends owed source_failed sink_failed held held' 5
starved owed source_failed sink_failed held held' same =
    Starved refl (nothing_more held held' same)

-- words ask for one number of channels
pub one_count : (n m : ℕ) (words : List (List ℕ)) → IsCount n → words ≡ threads_words n → IsCount m
    → words ≡ threads_words m → n ≡ m
one_count n m words few is few' is' =
    let z : threads_words n ≡ threads_words m = sym is ∙ is' in
    let same : decimal n ≡ decimal m = cc in
    decimal_injective n m (omega (arith, few.1)) (omega (arith, few'.1)) same

-- and not for what a script says
pub no_script : (n : ℕ) (words : List (List ℕ)) → words ≡ threads_words n → AskForScript words → ⊥
no_script n words is (inl asks) = absurd (cc)
no_script n words is (inr (inl asks)) = absurd (cc)
no_script n words is (inr (inr (inl asks))) = let same = asks.3 in absurd (cc)
no_script n words is (inr (inr (inr asks))) = absurd (cc)

ended_full : (n : ℕ) (frames : List Frame) (outcome : Outcome) → status_of n frames outcome ≡ 0
    → text_of n frames outcome ≡ full_text n
ended_full n frames (Ok done) is = text_full n frames (are_whole n frames) refl is
ended_full n frames (Err e) is = absurd (omega (arith, is))

-- where the status is 0 all bytes were sent, and their lines were written
pub full : (n : ℕ) (rose : Type 0) (given given' : Option (List Input))
    (taken taken' : Option (List Frame)) (sink_failed : Type 0) (held held' : Option (List ℕ))
    (status : ℕ) → status ≡ 0
    → Ends (ShowsThreads n rose given given' taken taken') ⊥ sink_failed held held' status
    → Adds held held' (full_text n)
full n rose given given' taken taken' sink_failed held held' status is
    (Shown text small owes added) =
    subst (Adds held held') (owes.text_is
    ∙ ended_full n (frames_in owes.trace) owes.outcome (sym owes.status_is ∙ is)) added
full n rose given given' taken taken' sink_failed held held' status is (Unread other never added) =
    absurd never
full n rose given given' taken taken' sink_failed held held' status is
    (Unwritten other failed text owed added) = absurd (omega (arith, is, other))
full n rose given given' taken taken' sink_failed held held' status is (Starved other added) =
    absurd (omega (arith, is, other))

-- so many channels are asked for
pub asked_for : (count : Option ℕ) (n : ℕ) (words : List (List ℕ)) → count ≡ Some n
    → IsAsked count words → IsCount n × (words ≡ threads_words n)
asked_for count n words is asked = subst (λ c. IsAsked c words) is asked

-- words ask for one number of channels alone
pub ends_for : (m n : ℕ) (words : List (List ℕ)) (rose : Type 0)
    (given given' : Option (List Input)) (taken taken' : Option (List Frame))
    (sink_failed : Type 0) (held held' : Option (List ℕ)) (status : ℕ) → IsCount m
    → words ≡ threads_words m
    → Ends (ShowsThreads m rose given given' taken taken') ⊥ sink_failed held held' status
    → IsCount n → words ≡ threads_words n
    → Ends (ShowsThreads n rose given given' taken taken') ⊥ sink_failed held held' status
ends_for m n words rose given given' taken taken' sink_failed held held' status few is ends
    few' is' =
    subst (λ count. Ends (ShowsThreads count rose given given' taken taken') ⊥ sink_failed held
    held' status) (one_count m n words few is few' is') ends
