-- What a key exchange tells of its calls, what it may hand out, and one without cryptography (RFC
-- 4253 section 7).
use Rattle.std.specs.Prelude.{◌≡◌, ◌≤◌, ◌==◌, ◌&&◌, ℕ, List, [], ◌∷◌, Bool, true, false, not}
use Rattle.std.specs.Prelude.{Option, Some, None, Result, Ok, Err, if◌then◌else◌}
use Rattle.ssh_link.specs.Told.{AddsOne, AddsNothing}
use Rattle.ssh_link.specs.declared.kex.KexFault.{KexFault}
use Rattle.ssh_link.specs.declared.kex.KexFault.TheVariants.{Refused, NoMemory}
use Rattle.ssh_link.specs.declared.kex.KexStep.{KexStep}
use Rattle.ssh_link.specs.declared.kex.KexCall.{KexCall}
use Rattle.ssh_link.specs.declared.plain_kex.PlainKexError.{PlainKexError}
use Rattle.ssh_link.specs.declared.plain_kex.PlainKexError.TheVariants.{Unexpected}

-- a call is told with its answer, a refusal too; one for which there was no memory is not told
abbrev pub TellsStep : {T E : Type 0} → Option (List (KexCall E)) → Option (List (KexCall E))
    → (Result T E → KexCall E) → Result T (KexFault E) → Type 0
TellsStep old new call (Ok answer) = AddsOne old new (call (Ok answer))
TellsStep old new call (Err (Refused error)) = AddsOne old new (call (Err error))
TellsStep old new call (Err NoMemory) = AddsNothing old new

-- an exchange begins with a KEXINIT, whose number is 20 (section 7.1)
abbrev pub IsKexinit : List ℕ → Type 0
IsKexinit payload = (fields : List ℕ) × (payload ≡ 20 ∷ fields)

-- a message of the transport layer has a number from 1 to 49 (RFC 4250 section 4.1.1)
abbrev pub IsOfTransport : List ℕ → Type 0
IsOfTransport payload =
    (number : ℕ) × (fields : List ℕ) × (payload ≡ number ∷ fields) × (1 ≤ number) × (number ≤ 49)

-- an exchange without cryptography: whether it can begin by itself, whether the peer's KEXINIT
-- came, and the calls that were made
pub record Plain : Type 0 where
  pub repeatable : Bool
  pub both : Bool
  pub calls : List (KexCall PlainKexError)

-- whether a payload of the peer's ends the exchange, where it is its turn: KEXINIT is, and after it
-- NEWKEYS, whose number is 21 (section 7.3)
abbrev pub plain_turn : (both : Bool) → List ℕ → Option Bool
plain_turn both [] = None
plain_turn both (number ∷ fields) =
    if number == 20 then Some false else (if (number == 21) && both then Some true else None)

-- NEWKEYS is answered by another, KEXINIT by nothing, and what is out of turn is refused
abbrev pub plain_answer : Option Bool → Result KexStep PlainKexError
plain_answer (Some done) = Ok (record { frames = if done then (21 ∷ []) ∷ [] else []; done = done })
plain_answer None = Err Unexpected

-- whether the peer's KEXINIT came in the exchange that runs after this
abbrev pub plain_both : (both : Bool) → Option Bool → Bool
plain_both both (Some done) = not done
plain_both both None = both

-- this is what was owed, or there was no memory for it
abbrev pub IsOwed : {T E : Type 0} → Result T E → Result T (KexFault E) → Type 0
IsOwed owed (Ok answer) = owed ≡ Ok answer
IsOwed owed (Err (Refused error)) = owed ≡ Err error
IsOwed owed (Err NoMemory) = Unit {0}
