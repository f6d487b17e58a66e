-- Several calls of one seat.
use Rattle.std.proofs.Common.{
  ◌≡◌,
  ℕ,
  List,
  [],
  ◌∷◌,
  ◌++◌,
  ap,
  sym,
  ◌∙◌,
  subst,
  append_assoc,
  append-nil,
}
use mathlib.Core.List.{IsPrefix, map-append}
use Rattle.ssh_hub.specs.Step.{opening}
use Rattle.ssh_hub.specs.History.{IsLegal, calls_by}
use Rattle.ssh_hub.specs.declared.history.HubCall.{HubCall}
use Rattle.ssh_hub.specs.declared.history.HubReply.{HubReply}
use Rattle.ssh_hub.specs.declared.history.View.{View}
use Rattle.ssh_hub.specs.Words.{entry, Learns, Makes}
use Rattle.ssh_hub.specs.Does.{Does, entries}
use Rattle.ssh_hub.proofs.Begins.{prefix_trans}
use Rattle.ssh_hub.proofs.Histories.{calls_by_mine, mine_on}

pub did_none : (v w : View) → Learns v w → Does v [] w
did_none v w l = record {
  same = l.same;
  legal = l.legal;
  goes_on = (l.grows.0, sym l.grows.1);
  own = mine_on v.number v.seen w.seen l.grows ∙ sym (append-nil (calls_by v.number v.seen));
}

pub did_one : (v : View) (c : HubCall) (r : HubReply) (w : View) → Makes v c r w
    → Does v ((c, r) ∷ []) w
did_one v c r w m =
    let e = entry v.number c r in
    let to_before : IsPrefix v.seen m.before = (m.grows.0, sym m.grows.1) in
    let to_w : IsPrefix m.before w.seen = (e ∷ [], sym m.ends) in
    record {
      same = m.same;
      legal = m.legal;
      goes_on = prefix_trans v.seen m.before w.seen to_before to_w;
      own = ap (calls_by v.number) m.ends ∙ (calls_by_mine v.number m.before e (λ i. v.number)
          ∙ ap (λ l. l ++ e ∷ []) (mine_on v.number v.seen m.before m.grows));
    }

pub did_both : (v : View) (xs : List (HubCall × HubReply)) (w : View)
    (ys : List (HubCall × HubReply)) (x : View) → Does v xs w → Does w ys x → Does v (xs ++ ys) x
did_both v xs w ys x a b = record {
  same = (b.same.0 ∙ a.same.0, b.same.1 ∙ a.same.1);
  legal = b.legal;
  goes_on = prefix_trans v.seen w.seen x.seen a.goes_on b.goes_on;
  own =
      let n : ℕ = v.number in
      let here : calls_by n x.seen ≡ calls_by n w.seen ++ entries n ys =
      subst (λ (k : ℕ). calls_by k x.seen ≡ calls_by k w.seen ++ entries k ys) a.same.0 b.own in
      here ∙ (ap (λ l. l ++ entries n ys) a.own
      ∙ (append_assoc (calls_by n v.seen) (entries n xs) (entries n ys)
      ∙ ap (λ l. calls_by n v.seen ++ l)
      (sym (map-append (λ (c : HubCall × HubReply). entry n c.0 c.1) xs ys))));
}

pub did_nothing : (v : View) → IsLegal (opening v.config) v.seen → Does v [] v
did_nothing v legal = record {
  same = (λ i. v.number, λ i. v.config);
  legal = legal;
  goes_on = ([], append-nil v.seen);
  own = sym (append-nil (calls_by v.number v.seen));
}
