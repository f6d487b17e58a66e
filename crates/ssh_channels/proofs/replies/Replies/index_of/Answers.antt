use Rattle.std.proofs.Common.{◌≡◌, ◌<◌, ◌+◌, ◌-◌, length, Some, false, sym, ◌∙◌, ap, subst, arith}
use Rattle.ssh_channels.specs.Replies.{owes, first_place, StandsAt}
use Rattle.ssh_channels.proofs.Replying.{none_before, stands_at, stands_nowhere, some_so, none_so}
use Rattle.ssh_channels.proofs.replies.Replies.index_of.Goals as goal

pub returns-in-Some-clause-none : goal.returns-in-Some-clause-none
returns-in-Some-clause-none c =
    let count = c.self.inside.count in
    let unsent = c.self.inside.unsent.items in
    let long : c.len.result ≡ length unsent = c.len.ensures ∙ c.self.inside.unsent.ok.0 in
    let before : c.in-Some.place < count - length unsent =
    subst (λ n. c.in-Some.place < count - n) long c.if-place-first.true in
    ap (owes c.args.place) (sym c.self.view_is)
    ∙ ap (λ p. owes p (record { count = count; unsent = unsent })) c.in-Some.is
    ∙ none_before c.in-Some.place (count - length unsent) unsent before

pub returns-in-Some-2-clause-found : goal.returns-in-Some-2-clause-found
returns-in-Some-2-clause-found c =
    let w = c.args.self.now in
    let count = c.self.inside.count in
    let place = c.in-Some-2.place in
    let long : c.len.result ≡ length c.self.inside.unsent.items =
    c.len.ensures ∙ c.self.inside.unsent.ok.0 in
    let first : first_place w ≡ count - c.len.result =
    ap first_place (sym c.self.view_is) ∙ ap (λ n. count - n) (sym long) in
    let same : c.in-Some.place ≡ place = let i = c.in-Some.is in let j = c.in-Some-2.is in cc in
    let behind = c.if-place-first.false in
    let is : first_place w + (place - (count - c.len.result)) ≡ place =
    omega (arith, first, same, behind) in
    some_so _ (λ index. StandsAt c.args.place w index) c.owed_at-in-Some-2.result
    (λ index h. subst (λ p. StandsAt p w index) (sym c.in-Some-2.is)
    (subst (λ n. StandsAt (Some place) w n) (sym h.0) (stands_at w place _ is h.1 h.2)))
    c.owed_at-in-Some-2.ensures.found

pub returns-in-Some-2-clause-none : goal.returns-in-Some-2-clause-none
returns-in-Some-2-clause-none c =
    let w = c.args.self.now in
    let count = c.self.inside.count in
    let place = c.in-Some-2.place in
    let long : c.len.result ≡ length c.self.inside.unsent.items =
    c.len.ensures ∙ c.self.inside.unsent.ok.0 in
    let first : first_place w ≡ count - c.len.result =
    ap first_place (sym c.self.view_is) ∙ ap (λ n. count - n) (sym long) in
    let same : c.in-Some.place ≡ place = let i = c.in-Some.is in let j = c.in-Some-2.is in cc in
    let behind = c.if-place-first.false in
    let is : first_place w + (place - (count - c.len.result)) ≡ place =
    omega (arith, first, same, behind) in
    none_so _ (owes c.args.place w ≡ false) c.owed_at-in-Some-2.result
    (λ h. ap (λ p. owes p w) c.in-Some-2.is ∙ stands_nowhere w place _ h.0 is h.1)
    c.owed_at-in-Some-2.ensures.none
