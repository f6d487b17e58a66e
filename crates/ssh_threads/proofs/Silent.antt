-- A server that answers as in the beginning of a script records no data.
use Rattle.std.proofs.Common.{◌≡◌, ◌||◌, ℕ, List, [], ◌∷◌, ◌++◌, false, Ok, refl, ◌∙◌, ap}
use Rattle.std.specs.List.{list_any}
use Rattle.ssh_auth.specs.declared.call.Call.{Call}
use Rattle.ssh_auth.specs.declared.question.Admission.{Admission}
use Rattle.ssh_auth.specs.declared.question.Admission.TheVariants as by
use Rattle.ssh_auth.specs.declared.question.Happening.{Happening}
use Rattle.ssh_auth.specs.declared.question.Happening.TheVariants as what
use Rattle.ssh_auth.specs.declared.question.Lent.{Lent}
use Rattle.ssh_auth.specs.declared.question.Lent.TheVariants.{Succeeded, Opens, Happened}
use Rattle.ssh_auth.specs.declared.question.Question.{Question}
use Rattle.ssh_auth.specs.declared.question.Question.TheVariants as ask
use Rattle.ssh_auth.specs.Was.{Was, was, asked_of}
use Rattle.ssh_auth.proofs.Back.{admitted_back, lent_back, judged_back}
use Rattle.ssh_rules.specs.Valid.{recorded_so}
use Rattle.ssh_run_laws.specs.Channels.{sends_by}
use Rattle.ssh_run_laws.specs.Traces.{records_data}
use Rattle.ssh_scene.specs.Queues.{Queues}
use Rattle.ssh_scene.specs.declared.answers.Standing.{Standing}
use Rattle.ssh_scene.specs.declared.answers.OpenVerdict.TheVariants.{Accept}
use Rattle.ssh_scene.specs.declared.answers.DataVerdict.TheVariants.{Silent}
use Rattle.ssh_scene.specs.declared.answers.RequestVerdict.TheVariants.{Success}
use Rattle.ssh_scene.specs.declared.answers.ForwardVerdict.TheVariants.{No}
use Rattle.ssh_players.specs.Played.{Failure, interactive_answer, verdict_on}
use Rattle.ssh_players.specs.Played.{records, grants, answered, after, after_admission, IsAnswered}

-- the answers that stand for a whole run where no line of a script says otherwise
abbrev pub quiet : Standing
quiet = record { opens = Accept; incoming = Silent; requests = Success; forwards = No }

silent_happening : (number : ℕ) (channel : _) (happening : Happening)
    → list_any (sends_by number) (records quiet (Happened channel happening)) ≡ false
silent_happening number channel (what.Data bytes) = refl
silent_happening number channel happening = refl

silent_lent : (number : ℕ) (lent : Lent)
    → list_any (sends_by number) (records quiet lent) ≡ false
silent_lent number Succeeded = refl
silent_lent number (Opens channel type) = refl
silent_lent number (Happened channel happening) = silent_happening number channel happening

-- a call that was so sent what was recorded in it
sent_by : (number : ℕ) (call : Call Failure) (w : Was Failure) → was call ≡ w
    → records_data number call ≡ list_any (sends_by number) (recorded_so w)
sent_by number call w is = ap (λ v. list_any (sends_by number) (recorded_so v)) is

pub first_is : {A : Type 0} (a b : A) → a ∷ [] ≡ b ∷ [] → a ≡ b
first_is a b h = let z : a ∷ [] ≡ b ∷ [] = h in cc

silent_asked : (number : ℕ) (queues : Queues) (call : Call Failure) (one : Question)
    → queues.standing ≡ quiet → call ∷ [] ≡ answered queues one
    → records_data number call ≡ false
silent_asked number queues call ask.Banner s h =
    ap (records_data number) (first_is call _ h)
silent_asked number queues call (ask.Admits admission) s h =
    ap (records_data number) (first_is call _ h)
    ∙ sent_by number _ _ (admitted_back Failure admission (interactive_answer
    (verdict_on queues admission)))
silent_asked number queues call (ask.Lends lent) s h =
    ap (records_data number) (first_is call _ h)
    ∙ sent_by number _ _ (lent_back Failure lent (Ok tt) (records queues.standing lent))
    ∙ ap (λ standing. list_any (sends_by number) (records standing lent)) s
    ∙ silent_lent number lent
silent_asked number queues call (ask.Judges judged) s h =
    ap (records_data number) (first_is call _ h)
    ∙ sent_by number _ _ (judged_back Failure judged (Ok (grants queues.standing judged)) [])
silent_asked number queues call (ask.Listens address port) s h =
    ap (records_data number) (first_is call _ h)
silent_asked number queues call (ask.Adjusts channel current) s h =
    ap (records_data number) (first_is call _ h)
silent_asked number queues call (ask.Done place outcome) s h =
    ap (records_data number) (first_is call _ h)
silent_asked number queues call ask.Begins s h =
    absurd (let z : call ∷ [] ≡ [] = h in cc)
silent_asked number queues call (ask.Steps payload) s h =
    absurd (let z : call ∷ [] ≡ [] = h in cc)

stands_admitted : (queues : Queues) (admission : Admission)
    → (after_admission queues admission).standing ≡ queues.standing
stands_admitted queues (by.None user) = refl
stands_admitted queues admission = refl

stands : (queues : Queues) (one : Question) → (after queues one).standing ≡ queues.standing
stands queues ask.Banner = refl
stands queues (ask.Admits admission) = stands_admitted queues admission
stands queues one = refl

-- no call among these, which the server answered, recorded data
pub silent : (number : ℕ) (queues : Queues) (calls more : List (Call Failure))
    → queues.standing ≡ quiet → IsAnswered queues (calls ++ more)
    → list_any (records_data number) calls ≡ false
silent number queues [] more s h = refl
silent number queues (call ∷ calls) more s h =
    ap (λ b. b || list_any (records_data number) calls)
    (silent_asked number queues call (asked_of call) s h.0)
    ∙ silent number (after queues (asked_of call)) calls more (stands queues (asked_of call) ∙ s) h.1
