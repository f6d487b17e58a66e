-- What an end makes of the first frame of the other.
use Rattle.std.proofs.Common.{◌≡◌, ℕ, List, ◌∷◌, sym, subst, Option}
use Rattle.ssh_link.specs.Frames.{Frame}
use Rattle.ssh_ends.specs.End.{EndTable, Takes, TakesNot}
use Rattle.ssh_ends.specs.Ends.{Post, TookOf, Took, TakesNone, handed_on}
use Rattle.ssh_ends.specs.declared.end.Delivered.{Delivered}
use Rattle.ssh_ends.specs.declared.error.EndError.{EndError}

pub takes_first : (near far near' far' : Post) (payload : List ℕ) (end : EndTable)
    (d : Option Delivered) (frame : Frame) (rest : List Frame) → far.flight ≡ frame ∷ rest
    → payload ≡ frame.payload → Takes payload near.end end d → near' ≡ handed_on end near.flight
    → far' ≡ record far { flight = rest } → Took near far near' far' d
takes_first near far near' far' payload end d frame rest is same takes handed passed =
    subst (λ fs. TookOf fs near far near' far' d) (sym is)
    (end, subst (λ bytes. Takes bytes near.end end d) same takes, handed, passed)

pub takes_none : (flight : List Frame) (end : EndTable) (payload : List ℕ) (why : EndError)
    (frame : Frame) (rest : List Frame) → flight ≡ frame ∷ rest → payload ≡ frame.payload
    → TakesNot payload end why → TakesNone flight end why
takes_none flight end payload why frame rest is same h =
    subst (λ fs. TakesNone fs end why) (sym is) (subst (λ bytes. TakesNot bytes end why) same h)
