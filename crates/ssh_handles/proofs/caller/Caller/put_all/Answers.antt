use Rattle.std.proofs.Common.{
  ◌≡◌,
  ℕ,
  ◌<◌,
  ◌≤◌,
  [],
  min,
  List,
  Ok,
  Err,
  length,
  take,
  drop,
  refl,
  sym,
  ap,
  ◌∙◌,
  subst,
  arith,
  rules,
}
use Rattle.ssh_hub.proofs.Following.{acts_none, acts_to}
use Rattle.ssh_hub.proofs.Fitting.{got_within}
use Rattle.ssh_handles.specs.Writing.{writes, asking}
use Rattle.ssh_handles.proofs.Reserving.{roomy, reserved_first}
use Rattle.ssh_handles.proofs.Writes.{
  asks_reserve,
  goes_to,
  stops_after,
  piece_put,
  nothing_left,
  something_left,
  within_rest,
  piece_front,
}
use Rattle.ssh_handles.proofs.caller.Caller.put_all.Goals as goal

pub loop-init : goal.loop-init
loop-init g c = (
  refl,
  refl,
  c.requires.none,
  c.requires.some,
  acts_none (writes _ _) _ _ c.args.self.now.seat.legal,
)

pub reserve-requires-clause-room : goal.reserve-requires-clause-room
reserve-requires-clause-room g c = let inv = c.loop.invariant in
    let some : 0 < Rattle.ssh_hub.specs.Words.room_of c.loop.self.seat =
    subst (λ (n : ℕ). 0 < n) (sym inv.1) c.requires.room in
    roomy _ _ _ inv.2 some

pub put_piece-requires : goal.put_piece-requires
put_piece-requires g c = reserved_first _ _ _ _ _ _ c.in-Got.ensures.call refl c.loop.invariant.2

pub returns-in_default-clause-entries : goal.returns-in_default-clause-entries
returns-in_default-clause-entries g c = (c.args.packet, c.loop.rest, c.loop.invariant.4)

pub returns-in-Gone-clause-entries : goal.returns-in-Gone-clause-entries
returns-in-Gone-clause-entries g c = (
  c.args.packet,
  c.loop.rest,
  acts_to (writes _ _) _ _ _ _ _ _ _ _ c.loop.invariant.4
      (asks_reserve c.args.channel c.args.ext _ _ _ _ c.wanted-want.ensures c.len.ensures.value) c.in-Gone.ensures.call
      refl,
)

pub returns-in-Gone-clause-none : goal.returns-in-Gone-clause-none
returns-in-Gone-clause-none g c = reserved_first _ _ _ _ _ _ c.in-Gone.ensures.call refl
    c.loop.invariant.2

pub returns-in-Ended-clause-entries : goal.returns-in-Ended-clause-entries
returns-in-Ended-clause-entries g c = (
  c.args.packet,
  c.loop.rest,
  acts_to (writes _ _) _ _ _ _ _ _ _ _ c.loop.invariant.4
      (asks_reserve c.args.channel c.args.ext _ _ _ _ c.wanted-want.ensures c.len.ensures.value) c.in-Ended.ensures.call
      refl,
)

pub returns-in-Ended-clause-none : goal.returns-in-Ended-clause-none
returns-in-Ended-clause-none g c = reserved_first _ _ _ _ _ _ c.in-Ended.ensures.call refl
    c.loop.invariant.2

pub loop-preserved : goal.loop-preserved
loop-preserved g c = let inv = c.loop.invariant in (
  inv.0,
  c.in-Empty.ensures.room ∙ inv.1,
  reserved_first _ _ _ _ _ _ c.in-Empty.ensures.call refl inv.2,
  inv.3,
  acts_to (writes _ _) _ _ _ _ _ _ _ _ inv.4
      (asks_reserve c.args.channel c.args.ext _ _ _ _ c.wanted-want.ensures c.len.ensures.value) c.in-Empty.ensures.call
      refl,
)

pub loop-preserved-in-Empty : goal.loop-preserved-in-Empty
loop-preserved-in-Empty g c = let inv = c.loop.invariant in (
  inv.0,
  c.in-Empty.ensures.room ∙ inv.1,
  reserved_first _ _ _ _ _ _ c.in-Empty.ensures.call refl inv.2,
  inv.3,
  acts_to (writes _ _) _ _ _ _ _ _ _ _ inv.4
      (asks_reserve c.args.channel c.args.ext _ _ _ _ c.wanted-want.ensures c.len.ensures.value) c.in-Empty.ensures.call
      refl,
)

pub advance-requires : goal.advance-requires
advance-requires g c = within_rest _ _ _ _ _
    (got_within _ _ _ _ _ _ c.in-Got.ensures.call refl).0 c.wanted-want.ensures c.len.ensures.value

pub returns-in-Err-clause-entries : goal.returns-in-Err-clause-entries
returns-in-Err-clause-entries g c = stops_after c.args.channel c.args.ext _ _ _ _ _ _
    (acts_to (writes _ _) _ _ _ _ _ _ _ _ c.loop.invariant.4
    (asks_reserve c.args.channel c.args.ext _ _ _ _ c.wanted-want.ensures c.len.ensures.value)
    c.in-Got.ensures.call refl)
    (piece_put c.args.channel c.args.ext c.args.packet c.in-Got.count c.loop.rest _ _ (Err c.in-Err.e) _
    (piece_front _ _ _ _ _ c.in-Ok.ensures.ok
    (got_within _ _ _ _ _ _ c.in-Got.ensures.call refl).0 c.truncate.ensures)
    c.in-Err.ensures.entries)

pub returns-then-is_empty-clause-entries : goal.returns-then-is_empty-clause-entries
returns-then-is_empty-clause-entries g c =
    let none : length c.advance.new.self ≡ 0 = search rules in
    goes_to c.args.channel c.args.ext _ _ _ _ _ _ _
    (acts_to (writes _ _) _ _ _ _ _ _ _ _ c.loop.invariant.4
    (asks_reserve c.args.channel c.args.ext _ _ _ _ c.wanted-want.ensures c.len.ensures.value)
    c.in-Got.ensures.call refl)
    (piece_put c.args.channel c.args.ext c.args.packet c.in-Got.count c.loop.rest _ _
    (Ok c.in_default-put_piece.field-0) _
    (piece_front _ _ _ _ _ c.in-Ok.ensures.ok
    (got_within _ _ _ _ _ _ c.in-Got.ensures.call refl).0 c.truncate.ensures)
    c.in_default-put_piece.ensures.entries)
    (nothing_left _ _ (ap length (sym c.advance.ensures) ∙ none))

pub loop-preserved-else-is_empty : goal.loop-preserved-else-is_empty
loop-preserved-else-is_empty g c =
    let inv = c.loop.invariant in
    let some : 0 < length c.advance.new.self = search rules in (
      c.in_default-put_piece.ensures.hub ∙ inv.0,
      c.in_default-put_piece.ensures.room ∙ (c.in-Got.ensures.room ∙ inv.1),
      c.in_default-put_piece.ensures.none,
      some,
      goes_to c.args.channel c.args.ext _ _ _ _ _ _ _
          (acts_to (writes _ _) _ _ _ _ _ _ _ _ inv.4
          (asks_reserve c.args.channel c.args.ext _ _ _ _ c.wanted-want.ensures
          c.len.ensures.value) c.in-Got.ensures.call refl)
          (piece_put c.args.channel c.args.ext c.args.packet c.in-Got.count c.loop.rest _ _
          (Ok c.in_default-put_piece.field-0) _
          (piece_front _ _ _ _ _ c.in-Ok.ensures.ok
          (got_within _ _ _ _ _ _ c.in-Got.ensures.call refl).0 c.truncate.ensures)
          c.in_default-put_piece.ensures.entries)
          (something_left _ _ (subst (λ (l : List ℕ). 0 < length l) c.advance.ensures some)
          ∙ ap (λ (l : List ℕ). asking c.args.packet l) (sym c.advance.ensures)),
    )
