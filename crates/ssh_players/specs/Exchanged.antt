-- How the exchange of keys of a script answers: without cryptography (RFC 4253 section 7).
use Rattle.std.specs.Prelude.{◌≡◌, List, [], ◌∷◌, Bool, Ok}
use Rattle.ssh_link.specs.declared.kex.KexCall.{KexCall}
use Rattle.ssh_link.specs.declared.kex.KexCall.TheVariants.{Begun, Stepped}
use Rattle.ssh_link.specs.declared.plain_kex.PlainKexError.{PlainKexError}
use Rattle.ssh_link.specs.Exchange.{plain_turn, plain_answer, plain_both}

-- the call as it is answered where the peer's KEXINIT came in the exchange that runs, or did not:
-- an exchange begins with a KEXINIT without fields (section 7.1), and a payload of the peer's is
-- answered by whether it ends the exchange (section 7.3)
abbrev pub answered_as : (both : Bool) → KexCall PlainKexError → KexCall PlainKexError
answered_as both (Begun answer) = Begun (Ok (20 ∷ []))
answered_as both (Stepped payload answer) = Stepped payload (plain_answer (plain_turn both payload))

-- whether the peer's KEXINIT came, after the call (section 7.3)
abbrev pub after : (both : Bool) → KexCall PlainKexError → Bool
after both (Begun answer) = both
after both (Stepped payload answer) = plain_both both (plain_turn both payload)

-- the calls as they are answered, in order (section 7)
abbrev pub as_answered : (both : Bool) → List (KexCall PlainKexError) → List (KexCall PlainKexError)
as_answered both [] = []
as_answered both (call ∷ calls) = answered_as both call ∷ as_answered (after both call) calls

-- whether the peer's KEXINIT came, after these (section 7.3)
abbrev pub left_after : (both : Bool) → List (KexCall PlainKexError) → Bool
left_after both [] = both
left_after both (call ∷ calls) = left_after (after both call) calls

-- each of these calls was answered without cryptography (section 7)
abbrev pub IsExchanged : (both : Bool) → List (KexCall PlainKexError) → Type 0
IsExchanged both calls = as_answered both calls ≡ calls
