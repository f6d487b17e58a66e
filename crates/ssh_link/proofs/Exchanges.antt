-- What the plain exchange hands out.
use Rattle.std.proofs.Common.{◌≡◌, [], ◌∷◌, Bool, true, false, Some, Ok, All, refl, arith, subst}
use Rattle.std.proofs.Common.{sym}
use Rattle.std.proofs.lemmas.List.Elements.{All-nil, All-cons}
use Rattle.ssh_link.specs.declared.kex.KexStep.{KexStep}
use Rattle.ssh_link.specs.Exchange.{IsOfTransport, plain_answer}

-- NEWKEYS is a message of the transport, and the answers hold nothing else
pub plain_frames : (done : Bool) (step : KexStep) → Ok step ≡ plain_answer (Some done)
    → All IsOfTransport step.frames
plain_frames true step is =
    let e : step.frames ≡ (21 ∷ []) ∷ [] = cc in
    subst (All IsOfTransport) (sym e) (All-cons IsOfTransport (21 ∷ []) []
    (21, [], refl, omega arith, omega arith) (All-nil IsOfTransport))
plain_frames false step is =
    let e : step.frames ≡ [] = cc in
    subst (All IsOfTransport) (sym e) (All-nil IsOfTransport)
