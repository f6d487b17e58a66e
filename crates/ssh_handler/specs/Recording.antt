-- What a handler tells that records the calls it passes on.
use Rattle.std.specs.Prelude.{◌≡◌, ◌⊎◌, Bool, true, false, List, Option, Some, None}
use Rattle.std.specs.Prelude.{Result, Ok, Err}
use Rattle.ssh_link.specs.Told.{AddsOne, Tells}
use Rattle.ssh_auth.specs.declared.call.Call.{Call}
use Rattle.ssh_handler.specs.declared.recorded.RecordError.{RecordError}
use Rattle.ssh_handler.specs.declared.recorded.RecordError.TheVariants.{NoMemory, Inner}

-- these calls, as long as calls are told
abbrev pub told_while : {A : Type 0} → Bool → List A → Option (List A)
told_while true calls = Some calls
told_while false calls = None

-- a call that answered this is told; where memory was wanting no call is told any more
abbrev pub Records : {T E : Type 0} → Option (List (Call (RecordError E)))
    → Option (List (Call (RecordError E))) → Result T (RecordError E) → Call (RecordError E)
    → Type 0
Records old new (Err NoMemory) call = new ≡ None
Records old new _ call = AddsOne old new call

-- the answer of the inner handler as it is passed on
abbrev pub passed_on : {T E : Type 0} → Result T E → Result T (RecordError E)
passed_on (Ok value) = Ok value
passed_on (Err error) = Err (Inner error)

-- a call that was made is told; where it was not, or memory was wanting, no call is told any more
abbrev pub Keeps : {T E F : Type 0} → Option (List (Call (RecordError E)))
    → Option (List (Call (RecordError E))) → Result T (RecordError E)
    → Result (Call (RecordError E)) F → Type 0
Keeps old new (Err NoMemory) made = new ≡ None
Keeps old new _ (Ok call) = AddsOne old new call
Keeps old new _ (Err error) = ⊥

-- the answer of the inner handler was passed on unless memory was wanting
pub record IsPassed {T E : Type 0} (answer : Result T E) (result : Result T (RecordError E))
    : Type 0 where
  pub is : (result ≡ Err NoMemory) ⊎ (result ≡ passed_on answer)

-- the inner handler, which tells its calls so, was called, and its answer was passed on unless
-- memory was wanting
pub record Passes {H T E : Type 0} (told_by : H → Option (List (Call E))) (old new : H)
    (result : Result T (RecordError E)) (call : Result T E → Call E) : Type 0 where
  -- what it answered
  pub answer : Result T E
  pub tells : Tells (told_by old) (told_by new) answer (call answer)
  pub passed : IsPassed answer result
