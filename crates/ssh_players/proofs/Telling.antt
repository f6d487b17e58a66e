-- What a script's handler tells: no case is by a callback.
use Rattle.std.proofs.Common.{◌≡◌, ℕ, List, [], ◌∷◌, ◌++◌, Option, Some, None, Result, Ok, Err}
use Rattle.std.proofs.Common.{Bool, true, false, refl, sym, ◌∙◌, ap, append_assoc, subst, OnOk}
use Rattle.std.proofs.Common.{OnErr, IfOk}
use Rattle.std.proofs.lemmas.List.{append-nil}
use Rattle.ssh_wire.specs.declared.error.WireError.{WireError}
use Rattle.ssh_link.specs.Told.{Adds, AddsOrStops, Tells}
use Rattle.ssh_link.specs.declared.command.Command.{Command}
use Rattle.ssh_link.specs.declared.outcome.CommandOutcome.{CommandOutcome}
use Rattle.ssh_auth.specs.declared.call.Call.{Call}
use Rattle.ssh_auth.specs.declared.call.Call.TheVariants.{CommandDone}
use Rattle.ssh_auth.specs.declared.question.Lent.{Lent}
use Rattle.ssh_auth.specs.declared.question.Question.{Question}
use Rattle.ssh_auth.specs.declared.question.Question.TheVariants.{Lends, Done}
use Rattle.ssh_auth.specs.Calls.{lent_call}
use Rattle.ssh_scene.specs.Queues.{Queues}
use Rattle.ssh_players.specs.Played.{Failure, records, answered, after, played, left_after}
use Rattle.ssh_players.specs.Played.{heading, told_of}

-- one more question
played_more : (queues : Queues) (all : List Question) (one : Question)
    → played queues (all ++ one ∷ []) ≡ played queues all ++ answered (left_after queues all) one
played_more queues [] one = append-nil (answered queues one)
played_more queues (first ∷ all) one =
    ap (λ t. answered queues first ++ t) (played_more (after queues first) all one)
    ∙ sym (append_assoc (answered queues first) (played (after queues first) all)
    (answered (left_after (after queues first) all) one))

left_more : (queues : Queues) (all : List Question) (one : Question)
    → left_after queues (all ++ one ∷ []) ≡ after (left_after queues all) one
left_more queues [] one = refl
left_more queues (first ∷ all) one = left_more (after queues first) all one

pub left_next : (queues left left' : Queues) (all new : List Question) (one : Question)
    → left_after queues all ≡ left → new ≡ all ++ one ∷ [] → after left one ≡ left'
    → left_after queues new ≡ left'
left_next queues left left' all new one l n e = ap (left_after queues) n
    ∙ (left_more queues all one ∙ (ap (λ q. after q one) l ∙ e))

-- a question that leaves the answers as they are leaves them so whether it is kept or not
pub left_same : {T E : Type 0} (result : Result T E) (queues left : Queues)
    (all new : List Question) (one : Question) → left_after queues all ≡ left →
    OnOk result (new ≡ all ++ one ∷ []) → OnErr result (new ≡ all) → after left one ≡ left
    → left_after queues new ≡ left
left_same (Ok value) queues left all new one l n m e = left_next queues left left all new one l n e
left_same (Err error) queues left all new one l n m e = ap (left_after queues) m ∙ l

-- a handler that kept one more question tells its call
adds_call : (lost : Bool) (queues : Queues) (all : List Question) (one : Question) →
    Adds (told_of lost queues all) (told_of lost queues (all ++ one ∷ []))
    (answered (left_after queues all) one)
adds_call true queues all one = refl
adds_call false queues all one =
    ap (λ t. Some (heading queues ++ t)) (played_more queues all one)
    ∙ ap Some (sym (append_assoc (heading queues) (played queues all)
    (answered (left_after queues all) one)))

or_stops : {A : Type 0} (old new : Option (List A)) (more : List A) → Adds old new more
    → AddsOrStops old new more
or_stops None None more h = tt
or_stops None (Some new) more h = absurd (let z : Some new ≡ None = h in cc)
or_stops (Some old) None more h = tt
or_stops (Some old) (Some new) more h = let z : Some new ≡ Some (old ++ more) = h in cc

tells : {A T E : Type 0} (old new : Option (List A)) (result : Result T E) (call : A)
    → Adds old new (call ∷ []) → Tells old new result call
tells old new (Ok value) call h = h
tells old new (Err error) call h = or_stops old new (call ∷ []) h

pub tells_call : {T : Type 0} (lost lost' : Bool) (queues left : Queues) (all new : List Question)
    (one : Question) (result : Result T Failure) (call : Call Failure) →
    left_after queues all ≡ left → new ≡ all ++ one ∷ [] → lost' ≡ lost → answered left one ≡ call
    ∷ [] →
    Tells (told_of lost queues all) (told_of lost' queues new) result call
tells_call lost lost' queues left all new one result call l n k e =
    let c : answered (left_after queues all) one ≡ call ∷ [] = ap (λ q. answered q one) l ∙ e in
    let h : Adds (told_of lost queues all) (told_of lost queues (all ++ one ∷ [])) (call ∷ []) =
    subst (λ x. Adds (told_of lost queues all) (told_of lost queues (all ++ one ∷ [])) x) c
    (adds_call lost queues all one) in
    let i : Adds (told_of lost queues all) (told_of lost queues new) (call ∷ []) =
    subst (λ x. Adds (told_of lost queues all) (told_of lost queues x) (call ∷ [])) (sym n) h in
    tells (told_of lost queues all) (told_of lost' queues new) result call
    (subst (λ b. Adds (told_of lost queues all) (told_of b queues new) (call ∷ [])) (sym k) i)

-- one that lost a question tells nothing
lost_tells : (old : Option (List (Call Failure))) (lost : Bool) (queues : Queues)
    (all : List Question) (more : List (Call Failure)) → lost ≡ true →
    AddsOrStops old (told_of lost queues all) more
lost_tells old lost queues all more e = subst (λ b. AddsOrStops old (told_of b queues all) more)
    (sym e) tt

-- a callback that answers nothing, by what it recorded
pub tells_lent : (result : Result (Unit {0}) Failure) (lost lost' : Bool) (queues left : Queues)
    (all new : List Question) (lent : Lent) (recorded : List Command) → left_after queues all ≡ left
    →
    records left.standing lent ≡ recorded → OnOk result (new ≡ all ++ Lends lent ∷ []) →
    OnOk result (lost' ≡ lost) → OnErr result (lost' ≡ true) →
    Tells (told_of lost queues all) (told_of lost' queues new) result
    (lent_call lent result recorded)
tells_lent (Ok done) lost lost' queues left all new lent recorded l r n s f =
    tells_call lost lost' queues left all new (Lends lent) (Ok done)
    (lent_call lent (Ok done) recorded) l n s (ap (λ x. lent_call lent (Ok done) x ∷ []) r)
tells_lent (Err error) lost lost' queues left all new lent recorded l r n s f =
    lost_tells (told_of lost queues all) lost' queues new (lent_call lent (Err error) recorded ∷ [])
    f

-- what came of a command
pub tells_done : (result : Result (Unit {0}) Failure) (lost lost' : Bool) (queues left : Queues)
    (all new : List Question) (place : ℕ) (outcome : CommandOutcome) → left_after queues all ≡ left
    →
    OnOk result (new ≡ all ++ Done place outcome ∷ []) → OnOk result (lost' ≡ lost)
    → OnErr result (lost' ≡ true) →
    Tells (told_of lost queues all) (told_of lost' queues new) result
    (CommandDone place outcome result)
tells_done (Ok done) lost lost' queues left all new place outcome l n s f =
    tells_call lost lost' queues left all new (Done place outcome) (Ok done)
    (CommandDone place outcome (Ok done)) l n s refl
tells_done (Err error) lost lost' queues left all new place outcome l n s f =
    lost_tells (told_of lost queues all) lost' queues new (CommandDone place outcome (Err error)
    ∷ []) f

-- what was made for an answer is it
pub made_one : {T : Type 0} (made : Result T WireError) (value : T) (is : T → Type 0) → made
    ≡ Ok value → IfOk made is → is value
made_one made value is e h = subst (λ r. IfOk r is) e h
