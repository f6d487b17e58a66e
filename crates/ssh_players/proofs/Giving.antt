-- What a script's link gives and tells.
use Rattle.std.proofs.Common.{◌≡◌, ℕ, List, [], ◌∷◌, ◌++◌, Some, Result, Ok, Err, Bool, true, false}
use Rattle.std.proofs.Common.{refl, sym, ◌∙◌, ap, append_assoc}
use Rattle.std.specs.Prelude.{IfErr, IfOk, OnOk, OnErr, ◌↔◌, IsErrOf, IsTrue, ◌&&◌, ◌<◌}
use Rattle.std.specs.List.{list_any}
use Rattle.ssh_link.specs.declared.frame.Input.{Input}
use Rattle.ssh_link.specs.declared.link.LinkFault.{LinkFault}
use Rattle.ssh_link.specs.declared.link.LinkFault.TheVariants.{Failed}
use Rattle.ssh_link.specs.declared.link.TraceEntry.{TraceEntry}
use Rattle.ssh_link.specs.declared.link.TraceEntry.TheVariants.{Took}
use Rattle.ssh_link.specs.Told.{Adds, AddsOne, AddsNothing}
use Rattle.ssh_link.specs.Supply.{Supply, next_input}
use Rattle.ssh_link.specs.Memory.{Failures, Remembered, is_numbered, fails_next, called, failed}
use Rattle.ssh_link.specs.Memory.{finished, gave}
use Rattle.ssh_link.proofs.Tellings.{adds_told}
use Rattle.ssh_players.specs.Given.{given_as, after, as_given, left_after, heading, trace_of}

-- one more entry
as_given_more : (supply : Supply) (all : List TraceEntry) (one : TraceEntry) →
    as_given supply (all ++ one ∷ []) ≡ as_given supply all ++ given_as (left_after supply all) one
    ∷ []
as_given_more supply [] one = refl
as_given_more supply (first ∷ all) one = ap (λ t. given_as supply first ∷ t)
    (as_given_more (after supply first) all one)

left_more : (supply : Supply) (all : List TraceEntry) (one : TraceEntry)
    → left_after supply (all ++ one ∷ []) ≡ after (left_after supply all) one
left_more supply [] one = refl
left_more supply (first ∷ all) one = left_more (after supply first) all one

-- the calls of a link in memory were given by this supply, what is left of it is left, and no call
-- fails
pub record Serves (supply : Supply) (link : Remembered) : Type 0 where
  pub given : as_given supply link.trace ≡ link.trace
  pub left : left_after supply link.trace ≡ link.supply
  pub sound : link.failures.fails ≡ []

-- whether the next call has a number or not
same_fails : (numbered : Bool) (f : Failures) → numbered ≡ is_numbered f → (called f).fails
    ≡ f.fails
same_fails true f e = rw (sym e) refl
same_fails false f e = rw (sym e) refl

serves_failed : (supply : Supply) (link new : Remembered) (fault : LinkFault) → Serves supply link
    → new ≡ failed fault link → Serves supply new
serves_failed supply link new fault s e = record {
  given = ap (λ l. as_given supply l.trace) e ∙ (s.given ∙ ap (λ l. l.trace) (sym e));
  left = ap (λ l. left_after supply l.trace) e ∙ (s.left ∙ ap (λ l. l.supply) (sym e));
  sound = ap (λ l. l.failures.fails) e ∙ (same_fails (is_numbered link.failures) link.failures refl
      ∙ s.sound);
}

serves_more : (supply : Supply) (link new : Remembered) (entry : TraceEntry) → Serves supply link
    → given_as link.supply entry ≡ entry →
    new ≡ record (finished link entry) { supply = after link.supply entry } → Serves supply new
serves_more supply link new entry s g e =
    let t : new.trace ≡ link.trace ++ entry ∷ [] = ap (λ l. l.trace) e in
    let one : given_as (left_after supply link.trace) entry ≡ entry = ap (λ x. given_as x entry)
    s.left ∙ g in record {
      given = ap (as_given supply) t ∙ (as_given_more supply link.trace entry
          ∙ (ap (λ x. x ++ given_as (left_after supply link.trace) entry ∷ []) s.given
          ∙ (ap (λ x. link.trace ++ x ∷ []) one ∙ sym t)));
      left = ap (left_after supply) t ∙ (left_more supply link.trace entry
          ∙ (ap (λ x. after x entry) s.left ∙ ap (λ l. l.supply) (sym e)));
      sound = ap (λ l. l.failures.fails) e
          ∙ (same_fails (is_numbered link.failures) link.failures refl ∙ s.sound);
    }

-- after a call that gives no input
pub serves_call : {T : Type 0} (result : Result T LinkFault) (supply : Supply) (link new : Remembered)
    (entry : TraceEntry) → Serves supply link →
    given_as link.supply entry ≡ entry → after link.supply entry ≡ link.supply
    → OnOk result (new ≡ finished link entry) → IfErr result (λ fault. new ≡ failed fault link)
    → Serves supply new
serves_call (Ok value) supply link new entry s g a e f =
    serves_more supply link new entry s g (e ∙ ap (λ x. record (finished link entry) { supply = x })
    (sym a))
serves_call (Err error) supply link new entry s g a e f =
    serves_failed supply link new error s f

-- after one that gives one
pub serves_next : (result : Result Input LinkFault) (supply : Supply) (link new : Remembered)
    (commands replies : Bool) → Serves supply link →
    IfOk result (λ input. (input ≡ next_input commands replies link.supply)
    × (new ≡ gave commands replies link)) → IfErr result (λ fault. new ≡ failed fault link)
    → Serves supply new
serves_next (Ok input) supply link new commands replies s e f =
    serves_more supply link new (Took commands replies (next_input commands replies link.supply)) s
    refl e.1
serves_next (Err error) supply link new commands replies s e f =
    serves_failed supply link new error s f

-- what stands behind the heading is told behind it
adds_behind : (inputs : List Input) (moment : ℕ) (old new more : List TraceEntry)
    → Adds (Some old) (Some new) more → Adds (trace_of inputs moment old)
    (trace_of inputs moment new) more
adds_behind inputs moment old new more h =
    ap (trace_of inputs moment) (adds_told old new more h)
    ∙ ap Some (sym (append_assoc (heading inputs moment) old more))

pub adds_one : {T E : Type 0} (result : Result T E) (inputs : List Input) (moment : ℕ)
    (old new : List TraceEntry) (entry : TraceEntry) →
    OnOk result (AddsOne (Some old) (Some new) entry)
    → OnOk result (AddsOne (trace_of inputs moment old) (trace_of inputs moment new) entry)
adds_one (Ok value) inputs moment old new entry h = adds_behind inputs moment old new (entry ∷ []) h
adds_one (Err error) inputs moment old new entry h = tt

pub adds_input : {E : Type 0} (result : Result Input E) (inputs : List Input) (moment : ℕ)
    (old new : List TraceEntry) (commands replies : Bool) →
    IfOk result (λ input. AddsOne (Some old) (Some new) (Took commands replies input)) →
    IfOk result (λ input. AddsOne (trace_of inputs moment old) (trace_of inputs moment new)
    (Took commands replies input))
adds_input (Ok input) inputs moment old new commands replies h = adds_behind inputs moment old new
    (Took commands replies input ∷ []) h
adds_input (Err error) inputs moment old new commands replies h = tt

pub adds_no_entry : {T E : Type 0} (result : Result T E) (inputs : List Input) (moment : ℕ)
    (old new : List TraceEntry) →
    OnErr result (AddsNothing (Some old) (Some new))
    → OnErr result (AddsNothing (trace_of inputs moment old) (trace_of inputs moment new))
adds_no_entry (Ok value) inputs moment old new h = tt
adds_no_entry (Err error) inputs moment old new h = adds_behind inputs moment old new [] h

none_fails : (numbered : Bool) (fails : List ℕ) (is : ℕ → Bool) → fails ≡ []
    → IsTrue (numbered && list_any is fails) → ⊥
none_fails true fails is e h = let z = rw e at h in absurd (cc)
none_fails false fails is e h = absurd (cc)

-- a link of which no call fails has no fault
pub never_fails : {T : Type 0} (result : Result T LinkFault) (supply : Supply) (link : Remembered)
    → Serves supply link →
    IsErrOf result Failed ↔ IsTrue (fails_next link.failures) → IsErrOf result Failed → 0 < 0
never_fails result supply link s p h =
    absurd (none_fails (is_numbered link.failures) link.failures.fails _ s.sound (p.0 h))
