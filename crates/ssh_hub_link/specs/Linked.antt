-- A hub's link, as clauses see it, and what its calls leave.
use Rattle.std.specs.Prelude.{◌≡◌, Bool, List, Option, Some, None, Result, Ok, Err}
use Rattle.ssh_link.specs.declared.frame.Input.{Input}
use Rattle.ssh_link.specs.declared.link.LinkFault.{LinkFault}
use Rattle.ssh_link.specs.declared.link.TraceEntry.{TraceEntry}
use Rattle.ssh_link.specs.declared.link.TraceEntry.TheVariants.{Took}
use Rattle.ssh_link.specs.Told.{AddsOne}

pub record Linked (L S F : Type 0) : Type 0 where
  pub lock : L
  -- the seat that takes what the session asks for
  pub seat : S
  pub feed : F
  -- the seat and the feed that the link was made with
  pub seat_before : S
  pub feed_before : F
  -- what it tells, where it keeps a trace
  pub trace : Option (List TraceEntry)
  -- an input that came and is not told, since there was no memory
  pub lost : Option Input

-- it is the link that it was: of the same lock, and made with the same seat and feed
abbrev pub IsSameLink : {L S F : Type 0} → Linked L S F → Linked L S F → Type 0
IsSameLink l k = (k.lock ≡ l.lock)
    × (k.seat_before ≡ l.seat_before)
    × (k.feed_before ≡ l.feed_before)

-- an input that is given is told, and no input is lost; where none is given, nothing is told
abbrev pub IsTold : {L S F : Type 0} → Linked L S F → Linked L S F → Bool → Bool
    → Result (Option Input) LinkFault → Type 0
IsTold l k commands replies (Ok None) = (k.trace ≡ l.trace) × (k.lost ≡ None)
IsTold l k commands replies (Ok (Some input)) =
    AddsOne l.trace k.trace (Took commands replies input) × (k.lost ≡ None)
IsTold l k commands replies (Err e) = k.trace ≡ l.trace
