use Rattle.std.proofs.Common.{
  ap,
  sym,
  ◌∙◌,
  ◌+◌,
  List,
  [],
  ◌∷◌,
  ◌++◌,
  if◌then◌else◌,
  is_ok,
  length,
  slice_set,
  arith,
}
use Rattle.ssh_hub.specs.Reserved.{
  index_of,
  bytes_on,
  is_roomy,
  reservation,
  with_more,
  Reservations,
}
use Rattle.ssh_hub.specs.declared.reservations.Reservation.{Reservation}
use Rattle.ssh_hub.proofs.Indexes.{index_below, index_bytes, more_at, absent_more, room_left}
use Rattle.ssh_hub.proofs.reservations.Reservations.add.Goals as goal

pub index_mut-requires : goal.index_mut-requires
index_mut-requires c = let below = index_below c.args.channel c.deref.result.now c.in-Some.at
    (sym c.index_of.ensures ∙ c.in-Some.is) in let len = c.deref.ensures.len in omega arith

pub overflow_add-index_mut : goal.overflow_add-index_mut
overflow_add-index_mut c =
    let is = ap (index_of c.args.channel) (sym c.deref.ensures.value)
    ∙ (sym c.index_of.ensures ∙ c.in-Some.is) in
    let here = ap (λ (r : Reservation). r.bytes) c.index_mut.ensures.value
    ∙ (sym (index_bytes c.args.channel c.self.inside.list.items c.in-Some.at is
    c.index_mut.result.now) ∙ ap (λ (m : Reservations). bytes_on c.args.channel m.held)
    c.self.view_is) in
    let fits = c.requires.fits in omega arith

pub unwrap-requires : goal.unwrap-requires
unwrap-requires c =
    let is = ap (index_of c.args.channel) (sym c.deref.ensures.value)
    ∙ (sym c.index_of.ensures ∙ c.in-None.is) in
    let roomy = ap (λ (m : Reservations). is_roomy m.room m.held c.args.channel) c.self.view_is
    ∙ c.requires.room in
    let below = room_left c.args.channel c.self.inside.room c.self.inside.list.items roomy is in
    let len = c.deref.ensures.len in
    let same = ap (λ (xs : List Reservation). length xs) c.deref.ensures.value in
    let most = c.self.invariant in
    c.push.ensures.succeeds (omega arith)

pub returns-in-Some-clause-held : goal.returns-in-Some-clause-held
returns-in-Some-clause-held c =
    let is = ap (index_of c.args.channel) (sym c.deref.ensures.value)
    ∙ (sym c.index_of.ensures ∙ c.in-Some.is) in
    ap (λ (r : Reservation). slice_set c.self.inside.list.items c.in-Some.at
    (reservation r.channel (r.bytes + c.args.got))) c.index_mut.ensures.value
    ∙ (sym (more_at c.args.channel c.args.got c.self.inside.list.items c.in-Some.at is
    c.index_mut.result.now)
    ∙ ap (λ (m : Reservations). with_more c.args.channel c.args.got m.held) c.self.view_is)

pub returns-in-None-clause-held : goal.returns-in-None-clause-held
returns-in-None-clause-held c =
    let is = ap (index_of c.args.channel) (sym c.deref.ensures.value)
    ∙ (sym c.index_of.ensures ∙ c.in-None.is) in
    let items : List Reservation = c.self.inside.list.items in
    let one : Reservation = reservation c.args.channel c.args.got in
    c.push.ensures.items
    ∙ (ap (λ r. if is_ok r then (items ++ one ∷ []) else items) c.unwrap.ensures
    ∙ (sym (absent_more c.args.channel c.args.got items is)
    ∙ ap (λ (m : Reservations). with_more c.args.channel c.args.got m.held) c.self.view_is))
