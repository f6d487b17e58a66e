-- Each kind of step keeps the rule: a ticket is drawn, looked at and taken.
use Rattle.std.proofs.Common.{
  ◌≡◌,
  ℕ,
  ◌+◌,
  ◌%◌,
  ◌<◌,
  ◌≤◌,
  List,
  [],
  ◌∷◌,
  length,
  get_or,
  set,
  Some,
  Option,
  ltb,
  refl,
  ap,
  sym,
  ◌∙◌,
  subst,
  inr,
  ⊎_elim,
  arith,
  length-set,
  mod-eq_of_lt,
}
use Rattle.std.proofs.Math.Nat.{mod-add-mod}
use mathlib.Core.Option.{some, none, some-injective}
use mathlib.Core.Logic.{dite}
use native.Mathlib.Decide.{ℕ_discrete}
use lib.ListN.{get_elem?}
use lib.Seq.{set-get_or}
use Rattle.atomic_table.specs.Table.{
  State,
  Step,
  step,
  Act,
  keeps,
  takes,
  stepped,
  Allows,
  Valid,
  carried_after,
}
use Rattle.atomic_table.proofs.Lists.{set_here, set_again, one_turn}
use Rattle.ssh_hub.specs.World.{Held, HasRoom}
use Rattle.ssh_hub.specs.Step.{opening}
use Rattle.ssh_hub.specs.History.{IsLegal}
use Rattle.ssh_hub.specs.declared.answers.Config2.{Config2}
use Rattle.ssh_hub.specs.declared.history.Stage.TheVariants.{Idle, Waiting, Inside}
use Rattle.ssh_hub.specs.declared.history.View.{View}
use Rattle.ssh_hub.specs.Rule.{
  HasTicket,
  HasTurn,
  tickets_at,
  tickets_of,
  spares_of,
  world,
  InStage,
  Fits,
  Kept,
  Seated,
  drew,
  Turned,
  looked,
  compared,
  meets,
}
use Rattle.ssh_hub.proofs.Begins.{prefix_self, prefix_shorter}
use Rattle.ssh_hub.proofs.Histories.{grows_of, seats_below, counts_below}
use Rattle.ssh_hub.proofs.Views.{total_set, total_below, each_set, less, apart_set, at_within}
use Rattle.ssh_hub.proofs.Stages.{
  ticket_in,
  turn_in,
  drawn_on,
  holder_stays,
  met_same,
  told_is_shorter,
}

-- the lock's table: its words, its slot, and the views of its seats
abbrev TableState : Type 0
TableState = State (Option Held) View

module _ (k : Config2) where
  -- no more tickets are out than the lock can tell apart
  window : (s : TableState) (r : Kept k s) (t : ℕ) → t < r.drawn
      → t < r.served + 18446744073709551616
  window s r t below =
      let h = r.held in
      let a = total_below s.views in
      let b = r.seated in
      let c = seats_below (opening k) r.log in
      let small = r.small in
      ⊎_elim
      (λ l. let d = l.2 in omega arith)
      (λ q. let u = turn_in r.log r.drawn r.served q.1.seen q.1.stage (r.each q.0 q.1 q.2).stage
      q.3 in let d = u.3 in let e = u.4 in omega arith)
      r.holder

  pub draws : (slots id : ℕ) (me : Seated) → me.0.stage ≡ Idle → Allows (Kept k) slots id me 0
      (λ n. (n + 1) % 18446744073709551616) (drew (step slots 0 1 0 none) me)
  draws slots id me idle s r _ at _ =
      let v = me.0 in
      let t : ℕ = r.drawn in
      let w : View = record v { stage = Waiting t } in
      let f = r.each id v at in
      let none_before : tickets_of v ≡ 0 = ap tickets_at idle in
      let sum = total_set tickets_of s.views id v w at in
      let same = total_set spares_of s.views id v w at in
      let h = r.held in
      let b = r.seated in
      let found : get_or s.words 0 0 ≡ t % 18446744073709551616 = ap (λ ws. get_or ws 0 0)
      r.words in (
        w,
        keeps,
        tt,
        record {
          log = r.log;
          drawn = t + 1;
          served = r.served;
          words = ap (λ ws. set ws 0 ((get_or ws 0 0 + 1) % 18446744073709551616)) r.words
              ∙ ap (λ (x : ℕ). x ∷ r.served ∷ length r.log ∷ []) (mod-add-mod t 18446744073709551616
              1);
          small = r.small;
          legal = r.legal;
          named = r.named;
          held = omega arith;
          seated = omega (arith, length-set s.views id w);
          each = each_set (Fits k r.log (t + 1) r.served) s.views id w
              record {
                config = f.config;
                seen = f.seen;
                told = f.told;
                mine = f.mine;
                own = f.own;
                known = f.known;
                spare = f.spare;
                stage = (omega arith, omega arith);
              }
              (λ j u _ e. let g = r.each j u e in record {
                config = g.config;
                seen = g.seen;
                told = g.told;
                mine = g.mine;
                own = g.own;
                known = g.known;
                spare = g.spare;
                stage = drawn_on r.log t (t + 1) r.served u.seen u.stage (omega arith) g.stage;
              });
          apart = apart_set s.views id w
              (λ j u ne e. let a = r.apart id j v u (λ x. ne (sym x)) at e in (
                (λ x here there. let p = ticket_in r.log t r.served u.seen u.stage x
                    (r.each j u e).stage there in let below = p.1 in omega arith),
                λ n x y. a.1 n x y,
              ))
              r.apart;
          holder = holder_stays k r.log r.served s.views s.homes id v w at
              (λ x. subst HasTurn idle x) (λ x. x) r.holder;
        },
        (t, found, refl),
      )

  -- a step that changes neither word nor view
  unmoved : (s : TableState) → Kept k s → (i id : ℕ) (me : Seated)
      → get_elem? s.views id ≡ some me.0
      → Kept k (stepped s i (get_or s.words i 0) id me.1 me.0 keeps)
  unmoved s r i id me at = subst (λ (p : List ℕ × List View). Kept k record {
    words = p.0;
    homes = s.homes;
    views = p.1;
  })
      (λ j. (sym (set-get_or s.words i 0) j, sym (set_again s.views id me.0 at) j)) r

  -- whoever holds the ticket that is served, while another has the turn, is that other
  one_turn_only : (s : TableState) (r : Kept k s) (id : ℕ) (v : View)
      → get_elem? s.views id ≡ some v
      → HasTicket v.stage r.served → (HasTurn v.stage → ⊥)
      → ((j : ℕ) (u : View) → get_elem? s.views j ≡ some u → HasTurn u.stage → ⊥)
      × (s.homes ≡ some (Some (world k r.log).hub) ∷ []) × (length r.log ≤ r.served)
  one_turn_only s r id v at mine idle =
      ⊎_elim
      (λ l. l)
      (λ q. absurd (dite (ℕ_discrete q.0 id)
      (λ same. idle (subst (λ u. HasTurn u.stage)
      (some-injective q.1 v (sym q.2 ∙ (ap (get_elem? s.views) same ∙ at))) q.3))
      (λ ne. (r.apart q.0 id q.1 v ne q.2 at).0 r.served (turn_in r.log r.drawn r.served q.1.seen
      q.1.stage (r.each q.0 q.1 q.2).stage q.3).0 mine)))
      r.holder

  enters : (s : TableState) (r : Kept k s) (id t : ℕ) (me : Seated)
      → get_elem? s.views id ≡ some me.0
      → 0 < me.0.number → me.0.stage ≡ Waiting t → t ≡ r.served
      → r.served + 2 < 18446744073709551616
      → (w : View) × (a : Act (Option Held)) × Valid s.homes me.1 a
      × Kept k (stepped s 1 (get_or s.words 1 0) id me.1 w a)
      × Turned t me (w, carried_after me.1 a)
  enters s r id t me at real st is room =
      let v = me.0 in
      let f = r.each id v at in
      let log = r.log in
      let w : View = record v { stage = Inside t; seen = log } in
      let config : v.config ≡ k = f.config real in
      let one = one_turn_only s r id v at (subst (λ x. HasTicket x r.served) (sym st) is)
      (λ x. subst HasTurn st x) in
      let homes : s.homes ≡ some (Some (world k log).hub) ∷ [] = one.1 in
      let home : s.homes ≡ some (Some (world v.config log).hub) ∷ [] = homes
      ∙ ap (λ c. some (Some (world c log).hub) ∷ []) (sym config) in
      let a : Act (Option Held) = takes 0 (Some (world v.config log).hub) in
      let sum = total_set tickets_of s.views id v w at in
      let same = total_set spares_of s.views id v w at in
      let held_before : tickets_of v ≡ 1 = ap tickets_at st in
      let h = r.held in
      let b = r.seated in
      let len = one.2 in
      let bound = counts_below (opening k) log in
      let in_stage : InStage log r.drawn r.served v.seen (Waiting t) =
      subst (InStage log r.drawn r.served v.seen) st f.stage in
      let below = in_stage.1 in
      let place = bound.place in
      let roomy : HasRoom (world v.config log).hub = subst (λ c. HasRoom (world c log).hub) (sym config)
      record {
        place = omega arith;
        seats = omega arith;
        tickets = omega arith;
        slots = omega arith;
      } in (
        w,
        a,
        ap (λ hs. get_elem? hs 0) home,
        record {
          log = log;
          drawn = r.drawn;
          served = r.served;
          words = set-get_or s.words 1 0 ∙ r.words;
          small = r.small;
          legal = r.legal;
          named = r.named;
          held = omega arith;
          seated = omega (arith, length-set s.views id w);
          each = each_set (Fits k log r.drawn r.served) s.views id w
              record {
                config = f.config;
                seen = prefix_self log;
                told = f.told;
                mine = λ _. refl;
                own = f.own;
                known = f.known;
                spare = f.spare;
                stage = (is, below, refl, len, room);
              }
              (λ j u _ e. r.each j u e);
          apart = apart_set s.views id w
              (λ j u ne e. less v w u (λ x y. subst (λ z. HasTicket z x) (sym st) y) (λ n y. y)
              (r.apart id j v u (λ x. ne (sym x)) at e))
              r.apart;
          holder = inr (
            id,
            w,
            set_here s.views id w (at_within s.views id v at),
            tt,
            ap (λ hs. set hs 0 none) home,
          );
        },
        (
          log,
          refl,
          grows_of v.number v.seen log f.seen (f.mine real),
          subst (λ c. IsLegal (opening c) log) (sym config) r.legal,
          roomy,
        ),
      )

  pub looks : (slots id t : ℕ) (me : Seated) → 0 < me.0.number → me.0.stage ≡ Waiting t
      → t % 18446744073709551616 + 2 < 18446744073709551616 → Allows (Kept k) slots id me 1 (λ n. n)
      (looked (step slots 1 0 0 none) me)
  looks slots id t me real st room s r _ at _ =
      let f = r.each id me.0 at in
      let found : get_or s.words 1 0 ≡ r.served = ap (λ ws. get_or ws 1 0) r.words in
      let in_stage : InStage r.log r.drawn r.served me.0.seen (Waiting t) =
      subst (InStage r.log r.drawn r.served me.0.seen) st f.stage in
      let mine : (u : ℕ) → me.0.stage ≡ Waiting u → t ≡ u = λ u e. cc (st, e) in
      dite (ℕ_discrete (get_or s.words 1 0) (t % 18446744073709551616))
      (λ hit.
      let small = r.small in
      let low : r.served % 18446744073709551616 ≡ r.served = mod-eq_of_lt small in
      let is : r.served ≡ t = one_turn r.served t 18446744073709551616 in_stage.0
      (window s r t in_stage.1) (low ∙ (sym found ∙ hit)) in
      let did = enters s r id t me at real st (sym is)
      (let g : r.served ≡ t % 18446744073709551616 = sym found ∙ hit in omega arith) in (
        did.0,
        did.1,
        did.2,
        did.3,
        λ u e. (
          (λ _. subst (λ x. Turned x me (did.0, carried_after me.1 did.1)) (mine u e) did.4),
          λ miss. absurd (miss (hit ∙ ap (λ (x : ℕ). x % 18446744073709551616) (mine u e))),
        ),
      ))
      (λ miss. (
        me.0,
        keeps,
        tt,
        unmoved s r 1 id me at,
        λ u e. (
          (λ hit. absurd (miss (hit ∙ ap (λ (x : ℕ). x % 18446744073709551616)
              (sym (mine u e))))),
          λ _. refl,
        ),
      ))

  -- two histories that met are compared
  pub compares : (slots id : ℕ) (me : Seated) → 0 < me.0.number → me.0.stage ≡ Idle
      → length me.0.told ≤ length me.0.seen → Allows (Kept k) slots id me 1 (λ n. n)
      (compared (step slots 1 0 0 none) me)
  compares slots id me real idle shorter s r _ at _ =
      let v = me.0 in
      let w : View = record v { told = [] } in
      let f = r.each id v at in
      let sum = total_set tickets_of s.views id v w at in
      let same = total_set spares_of s.views id v w at in
      let h = r.held in
      let b = r.seated in (
        w,
        keeps,
        tt,
        record {
          log = r.log;
          drawn = r.drawn;
          served = r.served;
          words = set-get_or s.words 1 0 ∙ r.words;
          small = r.small;
          legal = r.legal;
          named = r.named;
          held = omega arith;
          seated = omega (arith, length-set s.views id w);
          each = each_set (Fits k r.log r.drawn r.served) s.views id w
              record {
                config = f.config;
                seen = f.seen;
                told = (r.log, refl);
                mine = f.mine;
                own = f.own;
                known = f.known;
                spare = f.spare;
                stage = f.stage;
              }
              (λ j u _ e. r.each j u e);
          apart = apart_set s.views id w (λ j u ne e. r.apart id j v u (λ x. ne (sym x)) at e)
              r.apart;
          holder = holder_stays k r.log r.served s.views s.homes id v w at
              (λ x. subst HasTurn idle x) (λ x. subst HasTurn idle x) r.holder;
        },
        (
          refl,
          prefix_shorter v.told v.seen r.log f.told f.seen shorter,
          sym (f.own real)
              ∙ f.mine real,
        ),
      )

-- a seat that waits looks
pub looks_as : (k : Config2) (slots id t : ℕ) (me : Seated) (v : View)
    (carried : List (ℕ × Option Held)) → me ≡ (record v { stage = Waiting t }, carried)
    → 0 < v.number → t % 18446744073709551616 + 2 < 18446744073709551616
    → Allows (Kept k) slots id me 1 (λ n. n) (looked (step slots 1 0 0 none) me)
looks_as k slots id t me v carried is real room =
    subst (λ (m : Seated). Allows (Kept k) slots id m 1 (λ n. n) (looked (step slots 1 0 0 none) m))
    (sym is) (looks k slots id t (record v { stage = Waiting t }, carried) real refl room)

-- what the look tells that found the seat's ticket
pub took_turn : (st : Step (Option Held)) (t r : ℕ) (me me' : Seated) (v : View)
    (carried : List (ℕ × Option Held)) → me ≡ (record v { stage = Waiting t }, carried)
    → looked st me r me' → r ≡ t % 18446744073709551616 → Turned t (v, carried) me'
took_turn st t r me me' v carried is l hit =
    (subst (λ (m : Seated). looked st m r me') is l t refl).0
    hit

-- a seat that met another is compared
pub compares_as : (k : Config2) (slots id : ℕ) (me : Seated) (v x : View)
    (carried : List (ℕ × Option Held)) → me ≡ (meets v x, carried) → 0 < v.number → v.stage ≡ Idle
    → Allows (Kept k) slots id me 1 (λ n. n) (compared (step slots 1 0 0 none) me)
compares_as k slots id me v x carried is real idle =
    let e = met_same (ltb (length v.seen) (length x.seen)) v x in
    subst (λ (m : Seated). Allows (Kept k) slots id m 1 (λ n. n)
    (compared (step slots 1 0 0 none) m))
    (sym is)
    (compares k slots id (meets v x, carried) (subst (λ n. 0 < n) (sym e.2) real) (e.0 ∙ idle)
    (told_is_shorter v x))
