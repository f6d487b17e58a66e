use Rattle.std.proofs.Common.{ap, sym, ◌∙◌, Bool, ◌||◌, ltb, length, is_some}
use Rattle.ssh_hub.specs.Reserved.{index_of, is_roomy, Reservations}
use Rattle.ssh_hub.proofs.Indexes.{roomy_by}
use Rattle.ssh_hub.proofs.reservations.Reservations.has_room.Goals as goal

pub returns-then-is_some : goal.returns-then-is_some
returns-then-is_some c = let items = c.self.inside.list.items in
    let found = ap (λ xs. is_some (index_of c.args.channel xs)) (sym c.deref.ensures.value)
    ∙ (ap is_some (sym c.index_of.ensures) ∙ (sym c.is_some.ensures ∙ c.if-is_some.true)) in
    c.if-is_some.true
    ∙ sym (ap (λ (m : Reservations). is_roomy m.room m.held c.args.channel) (sym c.self.view_is)
    ∙ (roomy_by c.args.channel c.self.inside.room items
    ∙ ap (λ (b : Bool). b || ltb (length items) c.self.inside.room) found))

pub returns-else-is_some : goal.returns-else-is_some
returns-else-is_some c = let items = c.self.inside.list.items in
    let found = ap (λ xs. is_some (index_of c.args.channel xs)) (sym c.deref.ensures.value)
    ∙ (ap is_some (sym c.index_of.ensures) ∙ (sym c.is_some.ensures ∙ c.if-is_some.false)) in
    ap (λ n. ltb n c.self.inside.room)
    (c.len.ensures ∙ (sym c.deref.ensures.len ∙ ap (λ xs. length xs) c.deref.ensures.value))
    ∙ sym (ap (λ (m : Reservations). is_roomy m.room m.held c.args.channel) (sym c.self.view_is)
    ∙ (roomy_by c.args.channel c.self.inside.room items
    ∙ ap (λ (b : Bool). b || ltb (length items) c.self.inside.room) found))
