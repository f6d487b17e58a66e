-- What is told of a call, by cases on whether there was memory.
use Rattle.std.proofs.Common.{◌≡◌, Bool, true, false, List, Option, IfSome, IfOk, IsOk}
use Rattle.std.proofs.Common.{Result, Ok, Err}
use Rattle.ssh_handler.specs.Recording.{told_while}

-- the calls that are told are all that are kept
pub told_items : {A : Type 0} (goes_on : Bool) (calls shown : List A) (told : Option (List A)) →
    told_while goes_on calls ≡ told → shown ≡ calls → IfSome told (λ t. shown ≡ t)
told_items true calls shown told is same = rw (← is) same
told_items false calls shown told is same = rw (← is) tt

-- a call that is made of a copy is made of what was copied
pub made_of : {A C E F : Type 0} (call : A → C) (copy : Result A E) (item : A) (made : Result C F) →
    IfOk copy (λ copied. copied ≡ item) → IfOk made (λ m. IfOk copy (λ copied. m ≡ call copied)) →
    IfOk made (λ m. IsOk copy) → IfOk made (λ m. m ≡ call item)
made_of call (Ok copied) item (Ok m) is made whole = rw (← is) made
made_of call (Err e) item (Ok m) is made whole = cc
made_of call copy item (Err e) is made whole = tt
