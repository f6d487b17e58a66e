use Rattle.std.proofs.Common.{ap, sym, ◌∙◌, arith}
use Rattle.ssh_hub.specs.Reserved.{index_of, bytes_on, Reservations}
use Rattle.ssh_hub.proofs.Indexes.{index_below, index_bytes, absent_bytes}
use Rattle.ssh_hub.proofs.reservations.Reservations.bytes.Goals as goal

pub index-requires : goal.index-requires
index-requires c = let below = index_below c.args.channel c.deref.result.now c.in-Some.at
    (sym c.index_of.ensures ∙ c.in-Some.is) in let len = c.deref.ensures.len in omega arith

pub returns-in-Some : goal.returns-in-Some
returns-in-Some c =
    let is = ap (index_of c.args.channel) (sym c.deref.ensures.value)
    ∙ (sym c.index_of.ensures ∙ c.in-Some.is) in
    ap (λ r. r.bytes) c.index.ensures
    ∙ (sym (index_bytes c.args.channel c.self.inside.list.items c.in-Some.at is c.index.result.now)
    ∙ ap (λ (m : Reservations). bytes_on c.args.channel m.held) c.self.view_is)

pub returns-in-None : goal.returns-in-None
returns-in-None c =
    let is = ap (index_of c.args.channel) (sym c.deref.ensures.value)
    ∙ (sym c.index_of.ensures ∙ c.in-None.is) in
    sym (absent_bytes c.args.channel c.self.inside.list.items is)
    ∙ ap (λ (m : Reservations). bytes_on c.args.channel m.held) c.self.view_is
