-- What the handler of authentication is asked in the turns of a gateway.
use Rattle.std.specs.Prelude.{◌≡◌, List, [], ◌∷◌, ◌++◌, flat_map, Option, Some, Result, Ok, Err}
use Rattle.ssh_auth.specs.declared.call.Call.{Call}
use Rattle.ssh_auth.specs.declared.call.Call.TheVariants as call
use Rattle.ssh_auth.specs.Plan.{Event, calls_in}
use Rattle.ssh_handler.specs.declared.recorded.RecordError.{RecordError}
use Rattle.ssh_handler.specs.declared.recorded.RecordError.TheVariants as error
use Rattle.ssh_gateway.specs.Answering.{of_authentication}

-- a call with the answer of that handler itself; none where it was not asked
abbrev pub if_asked : {T E : Type 0} → (Result T E → Call E) → Result T (RecordError E)
    → List (Call E)
if_asked made (Ok value) = made (Ok value) ∷ []
if_asked made (Err (error.Inner e)) = made (Err e) ∷ []
if_asked made (Err error.NoMemory) = []
if_asked made (Err error.Untold) = []

-- a call of authentication (RFC 4252), as that handler was asked; any other call is none
abbrev pub admission : {E : Type 0} → Call (RecordError E) → List (Call E)
admission (call.AuthenticationBanner answer) = if_asked call.AuthenticationBanner answer
admission (call.AuthNone user answer) = if_asked (call.AuthNone user) answer
admission (call.AuthPassword user password answer) =
    if_asked (call.AuthPassword user password) answer
admission (call.AuthPublickeyOffered user key algorithm answer) =
    if_asked (call.AuthPublickeyOffered user key algorithm) answer
admission (call.AuthPublickey user key algorithm answer) =
    if_asked (call.AuthPublickey user key algorithm) answer
admission (call.AuthOpensshCertificate user certificate answer) =
    if_asked (call.AuthOpensshCertificate user certificate) answer
admission (call.AuthKeyboardInteractive user submethods response answer) =
    if_asked (call.AuthKeyboardInteractive user submethods response) answer
admission _ = []

-- those among these events, in order
abbrev pub admissions : {E F : Type 0} → List (Event (RecordError E) F) → List (Call E)
admissions events = flat_map admission (calls_in events)

-- of authentication it tells the calls that it told before, and then these
abbrev pub TellsAdmissions : {E : Type 0} → (before : List (Call E))
    → (told : Option (List (Call E))) → List (Call E) → Type 0
TellsAdmissions {E} before told made = (after : List (Call E)) × (told ≡ Some after)
    × (of_authentication after ≡ of_authentication before ++ made)
