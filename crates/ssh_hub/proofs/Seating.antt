-- Each kind of step keeps the rule: a seat is split, two are joined, and the first sits down.
use Rattle.std.proofs.Common.{◌≡◌, ℕ, zero, suc, ◌<◌, List, [], ◌∷◌, ◌++◌, length, set, Some, None, Option, ltb, refl, ap, sym, ◌∙◌, subst, inl, inr, ⊎_elim, arith, length-append, length-set}
use mathlib.Core.Option.{some, some-ne-none, some-injective}
use mathlib.Core.Logic.{dite}
use native.Mathlib.Decide.{ℕ_discrete}
use lib.ListN.{get_elem?}
use Rattle.atomic_table.specs.Table.{State, takes, Splits, Joins}
use Rattle.atomic_table.proofs.Lists.{set_here, set_else, at_longer}
use Rattle.ssh_hub.specs.World.{Held}
use Rattle.ssh_hub.specs.Step.{opening}
use Rattle.ssh_hub.specs.declared.answers.Config2.{Config2}
use Rattle.ssh_hub.specs.declared.history.Stage.TheVariants.{Idle}
use Rattle.ssh_hub.specs.declared.history.View.{View}
use Rattle.ssh_hub.specs.Rule.{
  HasTicket,
  HasTurn,
  tickets_at,
  tickets_of,
  spares_in,
  spares_of,
  Apart,
  Fits,
  Kept,
  newcomer,
  nobody,
  stays_seated,
  number_in,
  sits_down,
  meets,
}
use Rattle.ssh_hub.proofs.Histories.{none_of}
use Rattle.ssh_hub.proofs.Views.{
  total_set,
  total_snoc,
  each_set,
  each_snoc,
  less,
  apart_set,
  apart_snoc,
  at_within,
}
use Rattle.ssh_hub.proofs.Stages.{holder_stays, met_same, met_fits, nobody_fits}

-- the lock's table: its words, its slot, and the views of its seats
abbrev TableState : Type 0
TableState = State (Option Held) View

module _ (k : Config2) where
  -- a new seat takes the number that was drawn
  pub splits : (id n : ℕ) (v : View) → 0 < v.number → v.spare ≡ Some n → Splits (Kept k) id v
      (stays_seated v) (sits_down v)
  splits id n v real has s r at =
      let f = r.each id v at in
      let log = r.log in
      let w : View = stays_seated v in
      let x : View = newcomer v.config n v.seen in
      let vs : List View = set s.views id w in
      let x_is : x ≡ sits_down v = ap (λ (o : Option ℕ). newcomer v.config (number_in o) v.seen)
      (sym has) in
      let config : v.config ≡ k = f.config real in
      let spare = f.spare n has in
      let sum = total_set tickets_of s.views id v w at in
      let same = total_set spares_of s.views id v w at in
      let one_before : spares_of v ≡ 1 = ap spares_in has in
      let sum' = total_snoc tickets_of vs x in
      let same' = total_snoc spares_of vs x in
      let h = r.held in
      let b = r.seated in
      let idle_x : HasTurn x.stage → ⊥ = λ y. y in
      subst (λ (z : View). Kept k record { words = s.words; homes = s.homes; views = vs ++ z ∷ [] })
      x_is record {
        log = log;
        drawn = r.drawn;
        served = r.served;
        words = r.words;
        small = r.small;
        legal = r.legal;
        named = r.named;
        held = omega arith;
        seated = omega (arith, length-set s.views id w, length-append vs (x ∷ []));
        each = each_snoc (Fits k log r.drawn r.served) vs x
            record {
              config = λ _. config;
              seen = f.seen;
              told = (log, refl);
              mine = λ _. spare.2
                  ∙ sym (none_of n v.seen log f.seen spare.2);
              own = λ _. spare.2;
              known = spare.1;
              spare = λ m y. absurd (cc y);
              stage = tt;
            }
            (each_set (Fits k log r.drawn r.served) s.views id w
            record {
              config = f.config;
              seen = f.seen;
              told = f.told;
              mine = f.mine;
              own = f.own;
              known = f.known;
              spare = λ m y. absurd (cc y);
              stage = f.stage;
            }
            (λ j u _ y. r.each j u y));
        apart = apart_snoc vs x
            (each_set (Apart x) s.views id w (
              (λ t y z. absurd y),
              λ m y z. ⊎_elim (λ (a : (0 < m) × (n ≡ m)).
                  ⊎_elim (λ (c : (0 < m) × (v.number ≡ m)). spare.3 (a.1 ∙ sym c.1))
                  (λ c. absurd (cc c)) z) (λ a. absurd (cc a)) y,
            )
            (λ j u ne y. (
              (λ t p q. absurd p),
              λ m p q.
                  ⊎_elim (λ (a : (0 < m) × (n ≡ m)). (r.apart id j v u (λ e. ne (sym e)) at y).1 m
                  (inr (has ∙ ap Some a.1)) q) (λ a. absurd (cc a)) p,
            )))
            (apart_set s.views id w (λ j u ne y. less v w u (λ t p. p) (λ m p.
            ⊎_elim (λ (a : (0 < m) × (v.number ≡ m)). inl a) (λ a. absurd (cc a)) p)
            (r.apart id j v u (λ e. ne (sym e)) at y)) r.apart);
        holder = ⊎_elim
            (λ l. inl (
              each_snoc (λ u. HasTurn u.stage → ⊥) vs x idle_x
                  (each_set (λ u. HasTurn u.stage → ⊥) s.views id w (l.0 id v at)
                  (λ j u _ y. l.0 j u y)),
              l.1,
              l.2,
            ))
            (λ q. dite (ℕ_discrete q.0 id)
            (λ e. let is : q.1 ≡ v = some-injective q.1 v
            (sym q.2 ∙ (ap (get_elem? s.views) e ∙ at)) in
            inr (
              id,
              w,
              at_longer vs (x ∷ []) id w
                  (set_here s.views id w (at_within s.views id v at)),
              subst (λ u. HasTurn u.stage) is
                  q.3,
              q.4,
            ))
            (λ ne. inr (
              q.0,
              q.1,
              at_longer vs (x ∷ []) q.0 q.1 (set_else s.views id q.0 w ne
                  ∙ q.2),
              q.3,
              q.4,
            )))
            r.holder;
      }

  -- two seats meet
  pub joins : (id : ℕ) (v : View) (other : ℕ) (x : View) → v.stage ≡ Idle → x.stage ≡ Idle → x.spare
      ≡ None → Joins (Kept k) id v other x (meets v x) nobody
  joins id v other x idle idle_x unspared s r at apart there =
      let f = r.each id v at in
      let log = r.log in
      let w : View = meets v x in
      let vs : List View = set s.views id w in
      let at_x : get_elem? s.views other ≡ some x = sym (set_else s.views id other w apart)
      ∙ there in
      let g = r.each other x at_x in
      let e = met_same (ltb (length v.seen) (length x.seen)) v x in
      let sum = total_set tickets_of s.views id v w at in
      let same = total_set spares_of s.views id v w at in
      let sum' = total_set tickets_of vs other x nobody there in
      let same' = total_set spares_of vs other x nobody there in
      let no_ticket : tickets_of x ≡ 0 = ap tickets_at idle_x in
      let no_spare : spares_of x ≡ 0 = ap spares_in unspared in
      let t0 : tickets_of w ≡ tickets_of v = ap tickets_at e.0 in
      let s0 : spares_of w ≡ spares_of v = ap spares_in e.1 in
      let h = r.held in
      let b = r.seated in
      let w_idle : HasTurn w.stage → ⊥ = λ y. subst HasTurn (e.0 ∙ idle) y in
      let d = holder_stays k log r.served s.views s.homes id v w at (λ y. subst HasTurn idle y)
      w_idle r.holder in
      record {
        log = log;
        drawn = r.drawn;
        served = r.served;
        words = r.words;
        small = r.small;
        legal = r.legal;
        named = r.named;
        held = omega arith;
        seated = omega (arith, length-set s.views id w, length-set vs other nobody);
        each = each_set (Fits k log r.drawn r.served) vs other nobody
            (nobody_fits k log r.drawn r.served)
            (λ j u _ y. each_set (Fits k log r.drawn r.served) s.views id w
            (met_fits k log r.drawn r.served v x idle f g) (λ i z _ q. r.each i z q) j u y);
        apart = apart_set vs other nobody
            (λ j u _ y. (
              (λ t p q. absurd p),
              λ m p q.
                  ⊎_elim (λ (a : (0 < m) × (0 ≡ m)). let l = a.0 in let z = a.1 in omega arith)
                  (λ a. absurd (cc a)) p,
            ))
            (apart_set s.views id w
            (λ j u ne y. less v w u (λ t p. subst (λ st. HasTicket st t) e.0 p)
            (λ m p. ⊎_elim (λ (a : (0 < m) × (w.number ≡ m)). inl (a.0, sym e.2 ∙ a.1))
            (λ a. inr (sym e.1 ∙ a)) p)
            (r.apart id j v u (λ q. ne (sym q)) at y))
            r.apart);
        holder = holder_stays k log r.served vs s.homes other x nobody there
            (λ y. subst HasTurn idle_x y) (λ y. y) d;
      }

  -- the rule at the start
  pub begins : Kept k (Rattle.atomic_table.specs.Table.opening (0 ∷ 0 ∷ 0 ∷ []) (Some
      (opening k).hub ∷ []) (newcomer k 1 []))
  begins = record {
    log = [];
    drawn = 0;
    served = 0;
    words = refl;
    small = omega arith;
    legal = tt;
    named = λ n x. refl;
    held = refl;
    seated = refl;
    each = λ j v e. first_each j v e;
    apart = λ i j v w ne at_i at_j. absurd (ne (only i v at_i ∙ sym (only j w at_j)));
    holder = inl ((λ j v e x. first_idle j v e x), refl, omega arith);
  }
    where
      only : (j : ℕ) (v : View) → get_elem? (newcomer k 1 [] ∷ []) j ≡ some v → j ≡ 0
      only zero v e = refl
      only (suc j) v e = absurd (some-ne-none v (sym e))

      first_idle : (j : ℕ) (v : View) → get_elem? (newcomer k 1 [] ∷ []) j ≡ some v
          → HasTurn v.stage → ⊥
      first_idle zero v e x = subst (λ u. HasTurn u.stage) (sym (some-injective _ _ e)) x
      first_idle (suc j) v e x = absurd (some-ne-none v (sym e))

      first_each : (j : ℕ) (v : View) → get_elem? (newcomer k 1 [] ∷ []) j ≡ some v
          → Fits k [] 0 0 v
      first_each zero v e = subst (Fits k [] 0 0) (some-injective _ _ e) record {
        config = λ _. refl;
        seen = ([], refl);
        told = ([], refl);
        mine = λ _. refl;
        own = λ _. refl;
        known = omega arith;
        spare = λ n x. absurd (cc x);
        stage = tt;
      }
      first_each (suc j) v e = absurd (some-ne-none v (sym e))

pub begins_as : (k : Config2) (slots : List (Option Held)) (h : Held) → slots ≡ Some h ∷ [] → h
    ≡ (opening k).hub → Kept k (Rattle.atomic_table.specs.Table.opening (0 ∷ 0 ∷ 0 ∷ []) slots
    (newcomer k 1 []))
begins_as k slots h is new = subst (λ (x : List (Option Held)).
    Kept k (Rattle.atomic_table.specs.Table.opening (0 ∷ 0 ∷ 0 ∷ []) x (newcomer k 1 [])))
    (sym (is ∙ ap (λ (y : Held). Some y ∷ []) new)) (begins k)
