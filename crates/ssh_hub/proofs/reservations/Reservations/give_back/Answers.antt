use Rattle.std.proofs.Common.{ap, sym, ◌∙◌, ◌-◌, slice_set, lt-ltb, le-ltb, arith}
use Rattle.ssh_hub.specs.Reserved.{index_of, reservation, with_less, Reservations}
use Rattle.ssh_hub.specs.declared.reservations.Reservation.{Reservation}
use Rattle.ssh_hub.proofs.Indexes.{index_below, index_bytes, less_at_place, gone_at, absent_less}
use Rattle.ssh_hub.proofs.reservations.Reservations.give_back.Goals as goal

pub returns-in_default-clause-held : goal.returns-in_default-clause-held
returns-in_default-clause-held c =
    let is = ap (index_of c.args.channel) (sym c.deref.ensures.value)
    ∙ (sym c.index_of.ensures ∙ c.in_default.is) in
    sym (ap (λ (m : Reservations). with_less c.args.channel c.args.amount m.held) (sym c.self.view_is)
    ∙ (absent_less c.args.channel c.args.amount c.self.inside.list.items is
    ∙ ap (λ (m : Reservations). m.held) c.self.view_is))

pub index-requires : goal.index-requires
index-requires c = let below = index_below c.args.channel c.deref.result.now c.in-Some.at
    (sym c.index_of.ensures ∙ c.in-Some.is) in let len = c.deref.ensures.len in omega arith

pub index_mut-requires : goal.index_mut-requires
index_mut-requires c = let below = index_below c.args.channel c.deref.result.now c.in-Some.at
    (sym c.index_of.ensures ∙ c.in-Some.is) in let len = c.deref.ensures.len in omega arith

pub overflow_sub-index_mut : goal.overflow_sub-index_mut
overflow_sub-index_mut c =
    let is = ap (index_of c.args.channel) (sym c.deref.ensures.value)
    ∙ (sym c.index_of.ensures ∙ c.in-Some.is) in
    let items = c.self.inside.list.items in
    let read = index_bytes c.args.channel items c.in-Some.at is c.index.result.now in
    let lent = index_bytes c.args.channel items c.in-Some.at is c.index_mut.result.now in
    let read_is = ap (λ (r : Reservation). r.bytes) c.index.ensures in
    let lent_is = ap (λ (r : Reservation). r.bytes) c.index_mut.ensures.value in
    let below = c.if-amount-index.true in
    omega arith

pub remove-requires : goal.remove-requires
remove-requires c = let below = index_below c.args.channel c.deref.result.now c.in-Some.at
    (sym c.index_of.ensures ∙ c.in-Some.is) in let len = c.deref.ensures.len in omega arith

pub returns-then-amount-index-clause-held : goal.returns-then-amount-index-clause-held
returns-then-amount-index-clause-held c =
    let is = ap (index_of c.args.channel) (sym c.deref.ensures.value)
    ∙ (sym c.index_of.ensures ∙ c.in-Some.is) in
    let items = c.self.inside.list.items in
    let read = index_bytes c.args.channel items c.in-Some.at is c.index.result.now in
    let lent = index_bytes c.args.channel items c.in-Some.at is c.index_mut.result.now in
    let read_is = ap (λ (r : Reservation). r.bytes) c.index.ensures in
    let below = c.if-amount-index.true in
    ap (λ (r : Reservation). slice_set items c.in-Some.at
    (reservation r.channel (r.bytes - c.args.amount))) c.index_mut.ensures.value
    ∙ (sym (less_at_place c.args.channel c.args.amount items c.in-Some.at is
    c.index_mut.result.now (lt-ltb _ _ (omega arith)))
    ∙ ap (λ (m : Reservations). with_less c.args.channel c.args.amount m.held) c.self.view_is)

pub returns-else-amount-index-clause-held : goal.returns-else-amount-index-clause-held
returns-else-amount-index-clause-held c =
    let is = ap (index_of c.args.channel) (sym c.deref.ensures.value)
    ∙ (sym c.index_of.ensures ∙ c.in-Some.is) in
    let items = c.self.inside.list.items in
    let read_is = ap (λ (r : Reservation). r.bytes) c.index.ensures in
    let most = c.if-amount-index.false in
    c.remove.ensures.items
    ∙ (sym (gone_at c.args.channel c.args.amount items c.in-Some.at is
    c.index.result.now (le-ltb _ _ (omega arith)))
    ∙ ap (λ (m : Reservations). with_less c.args.channel c.args.amount m.held) c.self.view_is)
