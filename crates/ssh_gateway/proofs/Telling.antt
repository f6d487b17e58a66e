-- What the gateway's handler tells.
use Rattle.std.proofs.Common.{◌≡◌, ℕ, List, [], ◌∷◌, ◌++◌, Option, Some, None, Result, Ok, Err}
use Rattle.std.proofs.Common.{Bool, true, false, not, refl, sym, ◌∙◌, ap, subst, append_assoc}
use Rattle.std.specs.Prelude.{flat_map, OnOk, OnErr, IfSome, IsErr}
use Rattle.std.proofs.lemmas.List.{append-nil}
use Rattle.std.proofs.lemmas.List.Concat.{flat_map-append}
use Rattle.ssh_link.specs.Told.{AddsOne, AddsOrStops, Tells, IsUntold}
use Rattle.ssh_link.proofs.Tellings.{adds_weak}
use Rattle.ssh_auth.specs.declared.call.Call.{Call}
use Rattle.ssh_link.specs.declared.command.Command.{Command}
use Rattle.ssh_auth.specs.declared.question.Lent.{Lent}
use Rattle.ssh_auth.specs.declared.question.Question.{Question}
use Rattle.ssh_auth.specs.declared.question.Question.TheVariants.{Lends}
use Rattle.ssh_auth.specs.Calls.{lent_call}
use Rattle.ssh_handler.specs.declared.recorded.RecordError.{RecordError}
use Rattle.ssh_handler.specs.Recording.{passed_on, told_while}
use Rattle.ssh_gateway.specs.Answering.{named, passed, lifted, of_authentication, answered, told_of, records}

-- ---- a question that is kept

adds_question : {E : Type 0} (name : ℕ) (auth : Option (List (Call E)))
    (old new : Option (List Question)) (one : Question) (call : Call (RecordError E))
    → AddsOne old new one → answered one ≡ call ∷ []
    → AddsOne (told_of name auth old) (told_of name auth new) call
adds_question name None old new one call h is = refl
adds_question name (Some calls) None new one call h is = ap (told_of name (Some calls)) h
adds_question name (Some calls) (Some asked) new one call h is =
    let first = passed calls in
    let rest = flat_map answered asked in
    let more : flat_map answered (asked ++ one ∷ []) ≡ rest ++ call ∷ [] =
    flat_map-append answered asked (one ∷ [])
    ∙ ap (λ l. rest ++ l) (append-nil (answered one) ∙ is) in
    ap (told_of name (Some calls)) h
    ∙ ap (λ l. Some (named name ∷ l))
    (ap (λ l. first ++ l) more ∙ sym (append_assoc first rest (call ∷ [])))

told_none : {E : Type 0} (name : ℕ) (auth : Option (List (Call E))) → told_of name auth None ≡ None
told_none name None = refl
told_none name (Some calls) = refl

pub stops_telling : {E : Type 0} (name : ℕ) (auth : Option (List (Call E)))
    (old new : Option (List Question)) (more : List (Call (RecordError E))) → new ≡ None
    → AddsOrStops (told_of name auth old) (told_of name auth new) more
stops_telling name auth old new more lost =
    subst (λ l. AddsOrStops (told_of name auth old) l more)
    (sym (ap (told_of name auth) lost ∙ told_none name auth)) tt

-- a callback keeps its question, and answers by the rule; or it loses it
pub tells_kept : {T E : Type 0} (result : Result T (RecordError E)) (name : ℕ)
    (auth : Option (List (Call E))) (old new : Option (List Question)) (one : Question)
    (call : Call (RecordError E)) → OnOk result (AddsOne old new one)
    → OnErr result (new ≡ None) → OnOk result (answered one ≡ call ∷ [])
    → Tells (told_of name auth old) (told_of name auth new) result call
tells_kept (Ok value) name auth old new one call kept lost is =
    adds_question name auth old new one call kept is
tells_kept (Err e) name auth old new one call kept lost is =
    stops_telling name auth old new (call ∷ []) lost

-- ---- a call of authentication that is passed on

passed_more : {E : Type 0} (calls : List (Call E)) (call : Call E) (call' : Call (RecordError E))
    → of_authentication (lifted call ∷ []) ≡ call' ∷ []
    → passed (calls ++ call ∷ []) ≡ passed calls ++ call' ∷ []
passed_more calls call call' is =
    flat_map-append (λ one. of_authentication (lifted one ∷ [])) calls (call ∷ [])
    ∙ ap (λ l. passed calls ++ l) (append-nil (of_authentication (lifted call ∷ [])) ∙ is)

adds_passed : {E : Type 0} (name : ℕ) (auth auth' : Option (List (Call E)))
    (asked : Option (List Question)) (call : Call E) (call' : Call (RecordError E))
    → IfSome asked (λ questions. questions ≡ []) → AddsOne auth auth' call
    → of_authentication (lifted call ∷ []) ≡ call' ∷ []
    → AddsOne (told_of name auth asked) (told_of name auth' asked) call'
adds_passed name None auth' asked call call' none h is = ap (λ a. told_of name a asked) h
adds_passed name (Some calls) auth' None call call' none h is = ap (λ a. told_of name a None) h
adds_passed name (Some calls) auth' (Some []) call call' none h is =
    ap (λ a. told_of name a (Some [])) h
    ∙ ap (λ l. Some (named name ∷ l))
    (append-nil (passed (calls ++ call ∷ []))
    ∙ (passed_more calls call call' is
    ∙ ap (λ l. l ++ call' ∷ []) (sym (append-nil (passed calls)))))
adds_passed name (Some calls) auth' (Some (question ∷ questions)) call call' none h is =
    absurd (cc)

passed_or_stops : {E : Type 0} (name : ℕ) (auth auth' : Option (List (Call E)))
    (asked : Option (List Question)) (call : Call E) (call' : Call (RecordError E))
    → IfSome asked (λ questions. questions ≡ []) → AddsOrStops auth auth' (call ∷ [])
    → of_authentication (lifted call ∷ []) ≡ call' ∷ []
    → AddsOrStops (told_of name auth asked) (told_of name auth' asked) (call' ∷ [])
passed_or_stops name auth None asked call call' none h is = tt
passed_or_stops name None (Some calls') asked call call' none h is = absurd h
passed_or_stops name (Some calls) (Some calls') asked call call' none h is =
    adds_weak (told_of name (Some calls) asked) (told_of name (Some calls') asked) (call' ∷ [])
    (adds_passed name (Some calls) (Some calls') asked call call' none (ap Some h) is)

-- the handler of authentication was asked, where nothing else was asked yet, and its answer is
-- passed on
pub tells_passed : {T E : Type 0} (answer : Result T E) (name : ℕ)
    (auth auth' : Option (List (Call E))) (asked asked' : Option (List Question)) (call : Call E)
    (call' : Call (RecordError E)) → IfSome asked (λ questions. questions ≡ []) → asked' ≡ asked
    → Tells auth auth' answer call → of_authentication (lifted call ∷ []) ≡ call' ∷ []
    → Tells (told_of name auth asked) (told_of name auth' asked') (passed_on answer) call'
tells_passed (Ok value) name auth auth' asked asked' call call' none same h is =
    subst (λ a. AddsOne (told_of name auth asked) (told_of name auth' a) call') (sym same)
    (adds_passed name auth auth' asked call call' none h is)
tells_passed (Err e) name auth auth' asked asked' call call' none same h is =
    subst (λ a. AddsOrStops (told_of name auth asked) (told_of name auth' a) (call' ∷ []))
    (sym same) (passed_or_stops name auth auth' asked call call' none h is)

-- ---- what the answers of the functions say

-- the notebook has one more, as long as it has any
pub kept_more : (lost : Bool) (items new : List Question) (one : Question) → new ≡ items ++ one ∷ []
    → AddsOne (told_while (not lost) items) (told_while (not lost) new) one
kept_more true items new one is = refl
kept_more false items new one is = ap Some is

-- a callback that recorded what the rule says answers by the rule
pub lent_so : {E : Type 0} (result : Result (Unit {0}) (RecordError E)) (lent : Lent)
    (recorded : List Command) → records lent ≡ recorded
    → OnOk result (answered (Lends lent) ≡ lent_call lent result recorded ∷ [])
lent_so (Ok done) lent recorded is = ap (λ commands. lent_call lent (Ok tt) commands ∷ []) is
lent_so (Err e) lent recorded is = tt

untold_by : {T E A : Type 0} (old : Option (List A)) (result : Result T E) → IsErr result
    → IsUntold old None result
untold_by None result is = tt
untold_by (Some old) result is = is

-- nothing is told any more
pub untold_so : {T E : Type 0} (result : Result T (RecordError E)) (name : ℕ)
    (auth : Option (List (Call E))) (old new : Option (List Question)) → new ≡ None
    → IsErr result → IsUntold (told_of name auth old) (told_of name auth new) result
untold_so result name auth old new lost is =
    subst (λ l. IsUntold (told_of name auth old) l result)
    (sym (ap (told_of name auth) lost ∙ told_none name auth))
    (untold_by (told_of name auth old) result is)
