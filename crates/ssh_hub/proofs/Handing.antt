-- Each kind of step keeps the rule: an entry is written, and the hub is given back.
use Rattle.std.proofs.Common.{
  ◌≡◌,
  ◌≢◌,
  ℕ,
  ◌+◌,
  ◌%◌,
  ◌<◌,
  ◌≤◌,
  List,
  [],
  ◌∷◌,
  ◌++◌,
  length,
  get_or,
  set,
  Some,
  None,
  Option,
  refl,
  ap,
  ap₂,
  sym,
  ◌∙◌,
  subst,
  inl,
  inr,
  ⊎_elim,
  arith,
  length-append,
  length-set,
  mod-eq_of_lt,
}
use mathlib.Core.Option.{some, none}
use lib.ListN.{get_elem?}
use Rattle.atomic_table.specs.Table.{
  State,
  step,
  Act,
  keeps,
  gives,
  stepped,
  Allows,
  rest,
  Valid,
  carried_after,
}
use Rattle.atomic_table.proofs.Lists.{set_here}
use Rattle.ssh_hub.specs.World.{Held}
use Rattle.ssh_hub.specs.Step as hub
use Rattle.ssh_hub.specs.Step.{opening}
use Rattle.ssh_hub.specs.History.{calls_by}
use Rattle.ssh_hub.specs.declared.answers.Config2.{Config2}
use Rattle.ssh_hub.specs.declared.history.Entry.{Entry}
use Rattle.ssh_hub.specs.declared.history.Stage.{Stage}
use Rattle.ssh_hub.specs.declared.history.Stage.TheVariants.{Idle, Inside, Leaving}
use Rattle.ssh_hub.specs.declared.history.View.{View}
use Rattle.ssh_hub.specs.Rule.{
  HasTicket,
  HasTurn,
  tickets_at,
  tickets_of,
  spares_in,
  spares_of,
  IsNamed,
  world,
  InStage,
  Fits,
  Kept,
  Seated,
  leaving,
  drawn_by,
  written,
  committed,
  passed,
}
use Rattle.ssh_hub.proofs.Begins.{prefix_self, prefix_trans}
use Rattle.ssh_hub.proofs.Histories.{
  run_snoc,
  legal_snoc,
  calls_by_mine,
  calls_by_other,
  seats_more,
}
use Rattle.ssh_hub.proofs.Views.{total_set, each_set, less, apart_set, at_within}
use Rattle.ssh_hub.proofs.Stages.{ticket_in, turn_in, waits_on, spare_cases, new_number}

-- the lock's table: its words, its slot, and the views of its seats
abbrev TableState : Type 0
TableState = State (Option Held) View

module _ (k : Config2) where
  -- the entry is written
  pub commits : (slots id t : ℕ) (me : Seated) (e : Entry) → 0 < me.0.number → me.0.stage ≡ Inside t
      → me.0.spare ≡ None → e.by ≡ me.0.number → e.reply
      ≡ (hub.hub_step (world me.0.config me.0.seen) e.by e.call).1
      → Allows (Kept k) slots id me 2 (λ n. (n + 1) % 18446744073709551616)
      (committed e (step slots 2 1 0 none) me)
  commits slots id t me e real st unspared by legal s r _ at _ =
      let v = me.0 in
      let f = r.each id v at in
      let log = r.log in
      let log' : List Entry = log ++ e ∷ [] in
      let config : v.config ≡ k = f.config real in
      let in_stage : InStage log r.drawn r.served v.seen (Inside t) =
      subst (InStage log r.drawn r.served v.seen) st f.stage in
      let is : t ≡ r.served = in_stage.0 in
      let whole : v.seen ≡ log = in_stage.2 in
      let len : length log ≤ r.served = in_stage.3 in
      let room : r.served + 2 < 18446744073709551616 = in_stage.4 in
      let legal' : e.reply ≡ (hub.hub_step (world k log) e.by e.call).1 = legal
      ∙ ap₂ (λ (c : Config2) (l : List Entry). (hub.hub_step (world c l) e.by e.call).1) config
      whole in
      let next : world k log' ≡ (hub.hub_step (world k log) e.by e.call).0 = run_snoc (opening k)
      log e in
      let more = seats_more (world k log) e.by e.call in
      let up : (world k log).hub.seats ≤ (world k log').hub.seats =
      subst (λ x. (world k log).hub.seats ≤ x.hub.seats) (sym next) more.0 in
      let spare : Option ℕ = drawn_by e.call e.reply v.spare in
      let drew_one = spare_cases k log e v.spare unspared legal' in
      let w : View = record v {
        stage = Leaving t;
        spare = spare;
        seen = log';
        mine = v.mine ++ e
            ∷ [];
      } in
      let w_is : w ≡ written e v = λ i. record v {
        stage = leaving (sym st i);
        spare = spare;
        seen = sym whole i ++ e ∷ [];
        mine = v.mine ++ e ∷ [];
      } in
      let sum = total_set tickets_of s.views id v w at in
      let same = total_set spares_of s.views id v w at in
      let held_before : tickets_of v ≡ 1 = ap tickets_at st in
      let spared_before : spares_of v ≡ 0 = ap spares_in unspared in
      let h = r.held in
      let b = r.seated in
      let count : spares_of w + (world k log).hub.seats ≡ (world k log').hub.seats = drew_one.0 in
      let found : get_or s.words 2 0 ≡ length log = ap (λ ws. get_or ws 2 0) r.words in
      let here : HasTicket v.stage r.served = subst (λ x. HasTicket x r.served) (sym st) is in
      let longer : (length log + 1) % 18446744073709551616 ≡ length log' =
      mod-eq_of_lt (let g : length log + 1 < 18446744073709551616 = omega arith in g)
      ∙ sym (length-append log (e ∷ []) ∙ refl) in
      let not_theirs : (j : ℕ) (u : View) → j ≢ id → get_elem? s.views j ≡ some u → (n : ℕ)
      → IsNamed u n → e.by ≢ n = λ j u ne x n named is_n.
      (r.apart id j v u (λ y. ne (sym y)) at x).1 n
      (inl (subst (λ z. 0 < z) (sym by ∙ is_n) real, sym by ∙ is_n)) named in
      let not_turn : (j : ℕ) (u : View) → j ≢ id → get_elem? s.views j ≡ some u → HasTurn u.stage
      → ⊥ = λ j u ne x turn. (r.apart id j v u (λ y. ne (sym y)) at x).0 r.served here
      (turn_in log r.drawn r.served u.seen u.stage (r.each j u x).stage turn).0 in
      subst (λ (z : View). (y : View) × (a : Act (Option Held)) × Valid s.homes me.1 a
      × Kept k (stepped s 2 ((get_or s.words 2 0 + 1) % 18446744073709551616) id me.1 y a)
      × ((get_or s.words 2 0 ≡ length v.seen) × (let p : Seated = (y, carried_after me.1 a) in
      p ≡ (z, me.1)) × ((n : ℕ) → drawn_by e.call e.reply v.spare ≡ Some n → (0 < n)
      × (calls_by n (v.seen ++ e ∷ []) ≡ [])))) w_is (
        w,
        keeps,
        tt,
        record {
          log = log';
          drawn = r.drawn;
          served = r.served;
          words = ap (λ ws. set ws 2 ((get_or ws 2 0 + 1) % 18446744073709551616)) r.words
              ∙ ap (λ (x : ℕ). r.drawn % 18446744073709551616 ∷ r.served ∷ x ∷ []) longer;
          small = r.small;
          legal = legal_snoc (opening k) log e r.legal legal';
          named = λ n above. calls_by_other n log e (λ x. let y = f.known in omega arith)
              ∙ r.named n (omega arith);
          held = omega arith;
          seated = omega (arith, length-set s.views id w);
          each = each_set (Fits k log' r.drawn r.served) s.views id w
              record {
                config = f.config;
                seen = prefix_self log';
                told = prefix_trans v.told log log' f.told (e ∷ [], refl);
                mine = λ _. refl;
                own = λ pos. calls_by_mine v.number log e by ∙ ap (λ l. l ++ e ∷ []) (f.own pos);
                known = (let y = f.known in omega arith);
                spare = λ n x. let y = f.known in let z = drew_one.1 n x in let z0 = z.0 in
                    let z1 = z.1 in (
                      omega arith,
                      omega arith,
                      calls_by_other n log e (λ q. omega arith) ∙ r.named n (omega arith),
                      λ q. omega arith,
                    );
                stage = (is, in_stage.1, refl, omega (arith, length-append log (e ∷ [])), room);
              }
              (λ j u ne x. let g = r.each j u x in record {
                config = g.config;
                seen = prefix_trans u.seen log log' g.seen (e ∷ [], refl);
                told = prefix_trans u.told log log' g.told (e ∷ [], refl);
                mine = λ pos. calls_by_other u.number log e
                    (not_theirs j u ne x u.number (inl (pos, refl))) ∙ g.mine pos;
                own = λ pos. calls_by_other u.number log e
                    (not_theirs j u ne x u.number (inl (pos, refl))) ∙ g.own pos;
                known = (let y = g.known in omega arith);
                spare = λ n y. let z = g.spare n y in let z1 = z.1 in (
                  z.0,
                  omega arith,
                  calls_by_other n log e (not_theirs j u ne x n (inr y)) ∙ z.2,
                  z.3,
                );
                stage = waits_on log log' r.drawn r.drawn r.served r.served u.seen u.stage
                    (omega arith) (λ q there. (ticket_in log r.drawn r.served u.seen u.stage q
                    g.stage there).0) (not_turn j u ne x) g.stage;
              });
          apart = apart_set s.views id w
              (λ j u ne x. let a = r.apart id j v u (λ y. ne (sym y)) at x in (
                (λ q y z. a.0 q (subst (λ (st' : Stage). HasTicket st' q) (sym st) y) z),
                λ n y z. ⊎_elim (λ (old : (0 < n) × (v.number ≡ n)). a.1 n (inl old) z)
                    (λ new. let p = drew_one.1 n new in new_number k log r.drawn r.served u n
                    (r.each j u x) z (let p0 = p.0 in omega arith)) y,
              ))
              r.apart;
          holder = ⊎_elim
              (λ l. absurd (l.0 id v at (subst HasTurn (sym st) tt)))
              (λ q. inr (id, w, set_here s.views id w (at_within s.views id v at), tt, q.4))
              r.holder;
        },
        (
          found ∙ ap length (sym whole),
          refl,
          λ n x. let y = f.known in let z = drew_one.1 n x in
              let z0 = z.0 in (
                omega arith,
                subst (λ l. calls_by n (l ++ e ∷ []) ≡ []) (sym whole)
                    (calls_by_other n log e (λ q. omega arith) ∙ r.named n (omega arith)),
              ),
        ),
      )

  -- the hub is given back, and the next ticket is served
  pub passes : (slots id : ℕ) (me : Seated) → 0 < me.0.number → HasTurn me.0.stage → me.1
      ≡ (0, Some (world me.0.config me.0.seen).hub) ∷ [] → Allows (Kept k) slots id me 1
      (λ n. (n + 1) % 18446744073709551616) (passed (step slots 1 1 0 none) me)
  passes slots id me real turn carried s r _ at _ =
      let v = me.0 in
      let f = r.each id v at in
      let log = r.log in
      let config : v.config ≡ k = f.config real in
      let here = turn_in log r.drawn r.served v.seen v.stage f.stage turn in
      let below = here.1 in
      let len = here.3 in
      let room = here.4 in
      let w : View = record v { stage = Idle } in
      let home : Option Held = Some (world v.config v.seen).hub in
      let home_is : home ≡ Some (world k log).hub = ap₂ (λ (c : Config2) (l : List Entry).
      Some (world c l).hub) config here.2 in
      let sum = total_set tickets_of s.views id v w at in
      let same = total_set spares_of s.views id v w at in
      let held_before : tickets_of v ≡ 1 = here.5 in
      let h = r.held in
      let b = r.seated in
      let not_served : (j : ℕ) (u : View) → j ≢ id → get_elem? s.views j ≡ some u
      → HasTicket u.stage r.served → ⊥ = λ j u ne x there.
      (r.apart id j v u (λ y. ne (sym y)) at x).0 r.served here.0 there in
      let not_turn : (j : ℕ) (u : View) → j ≢ id → get_elem? s.views j ≡ some u → HasTurn u.stage
      → ⊥ = λ j u ne x there. not_served j u ne x (turn_in log r.drawn r.served u.seen u.stage
      (r.each j u x).stage there).0 in
      let out : s.homes ≡ none ∷ [] = ⊎_elim (λ l. absurd (l.0 id v at turn)) (λ q. q.4)
      r.holder in (
        w,
        gives,
        tt,
        subst (λ (c : List (ℕ × Option Held)).
            Kept k (stepped s 1 ((get_or s.words 1 0 + 1) % 18446744073709551616) id c w gives))
            (sym carried)
            record {
              log = log;
              drawn = r.drawn;
              served = r.served + 1;
              words = ap (λ ws. set ws 1 ((get_or ws 1 0 + 1) % 18446744073709551616)) r.words
                  ∙ ap (λ (x : ℕ). r.drawn % 18446744073709551616 ∷ x ∷ length log ∷ [])
                  (mod-eq_of_lt (let g : r.served + 1 < 18446744073709551616 = omega arith in g));
              small = omega arith;
              legal = r.legal;
              named = r.named;
              held = omega arith;
              seated = omega (arith, length-set s.views id w);
              each = each_set (Fits k log r.drawn (r.served + 1)) s.views id w
                  record {
                    config = f.config;
                    seen = f.seen;
                    told = f.told;
                    mine = f.mine;
                    own = f.own;
                    known = f.known;
                    spare = f.spare;
                    stage = tt;
                  }
                  (λ j u ne x. let g = r.each j u x in record {
                    config = g.config;
                    seen = g.seen;
                    told = g.told;
                    mine = g.mine;
                    own = g.own;
                    known = g.known;
                    spare = g.spare;
                    stage = waits_on log log r.drawn r.drawn r.served (r.served + 1) u.seen u.stage
                        (omega arith)
                        (λ q there. let p = (ticket_in log r.drawn r.served u.seen u.stage q g.stage
                        there).0 in let other : q ≢ r.served = λ y. not_served j u ne x
                        (subst (HasTicket u.stage) y there) in omega arith)
                        (not_turn j u ne x) g.stage;
                  });
              apart = apart_set s.views id w (λ j u ne x. less v w u (λ q y. absurd y) (λ n y. y)
                  (r.apart id j v u (λ y. ne (sym y)) at x)) r.apart;
              holder = inl (
                each_set (λ u. HasTurn u.stage → ⊥) s.views id w (λ x. x)
                    (λ j u ne x. not_turn j u ne x),
                ap (λ hs. set hs 0 (some home)) out
                    ∙ ap (λ (x : Option Held). some x ∷ []) home_is,
                len,
              );
            },
        refl,
      )

-- the same where the seat has just given the hub back
pub passes_as : (k : Config2) (slots id : ℕ) (me : Seated) (v : View) (w : Held)
    (old : List (ℕ × Option Held)) → me ≡ (v, (0, Some w) ∷ rest old) → old ≡ (0, None) ∷ []
    → 0 < v.number → HasTurn v.stage → w ≡ (world v.config v.seen).hub
    → Allows (Kept k) slots id me 1 (λ n. (n + 1) % 18446744073709551616)
    (passed (step slots 1 1 0 none) me)
passes_as k slots id me v w old is was real turn hub_is =
    subst (λ (m : Seated). Allows (Kept k) slots id m 1 (λ n. (n + 1) % 18446744073709551616)
    (passed (step slots 1 1 0 none) m)) (sym is)
    (passes k slots id (v, (0, Some w) ∷ rest old) real turn
    (ap₂ (λ (x : Held) (c : List (ℕ × Option Held)). (0, Some x) ∷ rest c) hub_is was))

pub carries : (cs old : List (ℕ × Option Held)) (x : Option Held) → cs ≡ (0, x) ∷ old → cs
    ≡ (0, x) ∷ rest cs
carries cs old x e = e ∙ ap (λ (l : List (ℕ × Option Held)). (0, x) ∷ rest l) (sym e)
