-- What a script's exchange and link told is what the script answers and gives.
use Rattle.std.proofs.Common.{◌≡◌, ℕ, List, [], ◌∷◌, ◌++◌, Some, refl, ◌∙◌, ap, subst, append-nil}
use Rattle.ssh_link.specs.declared.frame.Input.{Input}
use Rattle.ssh_link.specs.declared.kex.KexCall.{KexCall}
use Rattle.ssh_link.specs.declared.link.TraceEntry.{TraceEntry}
use Rattle.ssh_link.specs.declared.link.TraceEntry.TheVariants as entry
use Rattle.ssh_link.specs.declared.plain_kex.PlainKexError.{PlainKexError}
use Rattle.ssh_link.specs.Supply.{Supply, left_until, after_next}
use Rattle.ssh_link.specs.Told.{Adds}
use Rattle.ssh_players.specs.Given.{IsGiven, as_given, left_after, trace_of}
use Rattle.ssh_players.specs.Given.{heading as input_heading}
use Rattle.ssh_players.proofs.Heads.{input_heads}

-- what a supply gives is given by it
is_given : (supply : Supply) (all : List TraceEntry) → IsGiven supply (as_given supply all)
is_given supply [] = tt
is_given supply (entry.Took commands replies input ∷ all) =
    (refl, is_given (after_next commands replies supply) all)
is_given supply (entry.Sent frame ∷ all) = is_given supply all
is_given supply (entry.Noticed notice ∷ all) = is_given supply all
is_given supply (entry.Answered ticket outcome ∷ all) = is_given supply all

pub stepped_is : (old all calls : List (KexCall PlainKexError)) → old ≡ []
    → Adds (Some old) (Some all) calls → all ≡ calls
stepped_is old all calls o h =
    let z : Some all ≡ Some (old ++ calls) = h in
    let e : all ≡ old ++ calls = cc in
    e ∙ ap (λ x. x ++ calls) o

pub traced_is : (inputs inputs' : List Input) (moment moment' : ℕ) (old all entries : List TraceEntry)
    → old ≡ [] →
    trace_of inputs' moment' all ≡ Some ((input_heading inputs moment ++ old) ++ entries)
    → (inputs' ≡ inputs) × (moment' ≡ moment) × (all ≡ entries)
traced_is inputs inputs' moment moment' old all entries o h =
    let z : Some (input_heading inputs' moment' ++ all) ≡ Some ((input_heading inputs moment ++ old)
    ++ entries) = h in
    let e : input_heading inputs' moment' ++ all ≡ (input_heading inputs moment ++ old) ++ entries =
    cc in
    let f : input_heading inputs moment ++ old ≡ input_heading inputs moment =
    ap (λ x. input_heading inputs moment ++ x) o ∙ append-nil (input_heading inputs moment) in
    input_heads inputs' inputs moment' moment all entries (e ∙ ap (λ x. x ++ entries) f)

-- the trace of a link that gives these inputs is given by the script that has them
pub given_same : (inputs inputs' : List Input) (moment moment' : ℕ) (all entries : List TraceEntry)
    → inputs' ≡ inputs → moment' ≡ moment → all ≡ entries →
    as_given (left_until moment' inputs') all ≡ all → IsGiven (left_until moment inputs) entries
given_same inputs inputs' moment moment' all entries e f g h =
    let supply : left_until moment' inputs' ≡ left_until moment inputs =
    ap (λ m. left_until m inputs') f ∙ ap (left_until moment) e in
    subst (λ s. IsGiven s entries) supply (subst (IsGiven (left_until moment' inputs')) (h ∙ g)
    (is_given (left_until moment' inputs') all))

-- what comes later is given by what is left
pub given_later : (supply : Supply) (xs ys : List TraceEntry) → IsGiven supply (xs ++ ys)
    → IsGiven (left_after supply xs) ys
given_later supply [] ys h = h
given_later supply (entry.Took commands replies input ∷ xs) ys h =
    given_later (after_next commands replies supply) xs ys h.1
given_later supply (entry.Sent frame ∷ xs) ys h = given_later supply xs ys h
given_later supply (entry.Noticed notice ∷ xs) ys h = given_later supply xs ys h
given_later supply (entry.Answered ticket outcome ∷ xs) ys h = given_later supply xs ys h
