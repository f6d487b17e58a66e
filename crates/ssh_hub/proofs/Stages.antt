-- Where a seat stands, and what changes there.
use Rattle.std.proofs.Common.{
  ◌≡◌,
  ℕ,
  ◌+◌,
  ◌<◌,
  ◌≤◌,
  List,
  [],
  ◌∷◌,
  ◌++◌,
  length,
  set,
  Some,
  None,
  Option,
  cond,
  ltb,
  Bool,
  true,
  false,
  ltb-true,
  ltb-false,
  refl,
  ap,
  sym,
  ◌∙◌,
  subst,
  inl,
  inr,
  ⊎_elim,
  arith,
}
use mathlib.Core.Option.{some, none, some-ne-none, some-injective}
use mathlib.Core.Option as maybe
use lib.ListN.{get_elem?}
use Rattle.atomic_table.proofs.Lists.{set_else}
use Rattle.ssh_hub.specs.World.{Held, World}
use Rattle.ssh_hub.specs.Step as hub
use Rattle.ssh_hub.specs.Step.{opening}
use Rattle.ssh_hub.specs.declared.answers.Config2.{Config2}
use Rattle.ssh_hub.specs.declared.history.Entry.{Entry}
use Rattle.ssh_hub.specs.declared.history.Stage.{Stage}
use Rattle.ssh_hub.specs.declared.history.Stage.TheVariants.{Idle, Waiting, Inside, Leaving}
use Rattle.ssh_hub.specs.declared.history.View.{View}
use Rattle.ssh_hub.specs.Rule.{
  HasTicket,
  HasTurn,
  tickets_at,
  spares_in,
  IsNamed,
  world,
  InStage,
  Fits,
  OneHolder,
  nobody,
  drawn_by,
  meets,
}
use Rattle.ssh_hub.proofs.Begins.{prefix_shorter}
use Rattle.ssh_hub.proofs.Histories.{run_snoc, between_mine, numbers_drawn}
use Rattle.ssh_hub.proofs.Views.{each_set}

-- a seat's ticket is not served yet, and was drawn
pub ticket_in : (log : List Entry) (drawn served : ℕ) (seen : List Entry) (st : Stage) (t : ℕ)
    → InStage log drawn served seen st → HasTicket st t → (served ≤ t) × (t < drawn)
ticket_in log drawn served seen Idle t f h = absurd h
ticket_in log drawn served seen (Waiting u) t f h = let a = f.0 in let b = f.1 in
    (omega arith, omega arith)
ticket_in log drawn served seen (Inside u) t f h = let a = f.0 in let b = f.1 in
    (omega arith, omega arith)
ticket_in log drawn served seen (Leaving u) t f h = let a = f.0 in let b = f.1 in
    (omega arith, omega arith)

-- what is known where a seat has the turn
abbrev pub Turn : List Entry → ℕ → ℕ → List Entry → Stage → Type 0
Turn log drawn served seen st = HasTicket st served × (served < drawn) × (seen ≡ log)
    × (length log ≤ served + 1) × (served + 2 < 18446744073709551616) × (tickets_at st ≡ 1)

pub turn_in : (log : List Entry) (drawn served : ℕ) (seen : List Entry) (st : Stage)
    → InStage log drawn served seen st → HasTurn st → Turn log drawn served seen st
turn_in log drawn served seen Idle f h = absurd h
turn_in log drawn served seen (Waiting u) f h = absurd h
turn_in log drawn served seen (Inside u) f h = let a = f.0 in let b = f.1 in let l = f.3 in
    (f.0, omega arith, f.2, omega arith, f.4, refl)
turn_in log drawn served seen (Leaving u) f h = let a = f.0 in let b = f.1 in let l = f.3 in
    (f.0, omega arith, f.2, f.3, f.4, refl)

-- a seat without the turn stays as it is, where the history and the tickets go on
pub waits_on : (log log' : List Entry) (drawn drawn' served served' : ℕ) (seen : List Entry)
    (st : Stage) → drawn ≤ drawn' → ((t : ℕ) → HasTicket st t → served' ≤ t) → (HasTurn st → ⊥)
    → InStage log drawn served seen st → InStage log' drawn' served' seen st
waits_on log log' drawn drawn' served served' seen Idle more at idle f = tt
waits_on log log' drawn drawn' served served' seen (Waiting u) more at idle f = let b = f.1 in
    (at u refl, omega arith)
waits_on log log' drawn drawn' served served' seen (Inside u) more at idle f = absurd (idle tt)
waits_on log log' drawn drawn' served served' seen (Leaving u) more at idle f = absurd (idle tt)

-- more tickets were drawn
pub drawn_on : (log : List Entry) (drawn drawn' served : ℕ) (seen : List Entry) (st : Stage)
    → drawn ≤ drawn' → InStage log drawn served seen st → InStage log drawn' served seen st
drawn_on log drawn drawn' served seen Idle more f = tt
drawn_on log drawn drawn' served seen (Waiting u) more f = let b = f.1 in (f.0, omega arith)
drawn_on log drawn drawn' served seen (Inside u) more f = let b = f.1 in
    (f.0, omega arith, f.2, f.3, f.4)
drawn_on log drawn drawn' served seen (Leaving u) more f = let b = f.1 in
    (f.0, omega arith, f.2, f.3, f.4)

-- the hub still has one holder where the view of a seat changes that has not the turn before or
-- after
pub holder_stays : (k : Config2) (log : List Entry) (served : ℕ) (vs : List View)
    (homes : List (maybe.Option (Option Held))) (id : ℕ) (v w : View) → get_elem? vs id ≡ some v
    → (HasTurn v.stage → ⊥) → (HasTurn w.stage → ⊥) → OneHolder k log served vs homes
    → OneHolder k log served (set vs id w) homes
holder_stays k log served vs homes id v w at before after d =
    ⊎_elim
    (λ l. inl (each_set (λ u. HasTurn u.stage → ⊥) vs id w after (λ j u _ e. l.0 j u e), l.1, l.2))
    (λ r. inr (
      r.0,
      r.1,
      set_else vs id r.0 w
          (λ same. before (subst (λ u. HasTurn u.stage)
          (some-injective r.1 v (sym r.2 ∙ (ap (get_elem? vs) same ∙ at))) r.3)) ∙ r.2,
      r.3,
      r.4,
    ))
    d

-- the number that an entry draws
pub spare_cases : (k : Config2) (log : List Entry) (e : Entry) (before : Option ℕ) → before ≡ None
    → e.reply ≡ (hub.hub_step (world k log) e.by e.call).1
    → (spares_in (drawn_by e.call e.reply before) + (world k log).hub.seats
    ≡ (world k (log ++ e ∷ [])).hub.seats)
    × ((n : ℕ) → drawn_by e.call e.reply before ≡ Some n → (n ≡ (world k log).hub.seats + 1)
    × (n ≡ (world k (log ++ e ∷ [])).hub.seats))
spare_cases k log e before empty legal =
    let next : (world k (log ++ e ∷ [])).hub.seats ≡ (hub.hub_step (world k log) e.by e.call).0.hub.seats =
    ap (λ (x : World). x.hub.seats) (run_snoc (opening k) log e) in
    let S : Option ℕ → Type 0 = λ x. (spares_in x + (world k log).hub.seats
    ≡ (world k (log ++ e ∷ [])).hub.seats) × ((n : ℕ) → x ≡ Some n → (n ≡ (world k log).hub.seats + 1)
    × (n ≡ (world k (log ++ e ∷ [])).hub.seats)) in
    subst (λ (b : Option ℕ). S (drawn_by e.call e.reply b)) (sym empty)
    (⊎_elim
    (λ l. let a = l.1 in subst S (sym l.0) (omega arith, λ n x. absurd (cc x)))
    (λ q. let a = q.1 in subst S (sym q.0) (
      omega arith,
      λ n x. let y : (world k log).hub.seats + 1 ≡ n = cc x in (omega arith, omega arith),
    ))
    (numbers_drawn (world k log) e.by e.call e.reply legal))

-- a number above the last one is no one's
pub new_number : (k : Config2) (log : List Entry) (drawn served : ℕ) (u : View) (n : ℕ)
    → Fits k log drawn served u → IsNamed u n → (world k log).hub.seats < n → ⊥
new_number k log drawn served u n f named above =
    ⊎_elim (λ (a : (0 < n) × (u.number ≡ n)). let b = a.1 in let c = f.known in omega arith)
    (λ b. let c = (f.spare n b).1 in omega arith) named

-- of two seats that meet
abbrev pub met : Bool → View → View → View
met b v x = cond b (record v { seen = x.seen; told = v.seen }) (record v { told = x.seen })

pub met_same : (b : Bool) (v x : View) → ((met b v x).stage ≡ v.stage)
    × ((met b v x).spare ≡ v.spare) × ((met b v x).number ≡ v.number)
met_same true v x = (refl, refl, refl)
met_same false v x = (refl, refl, refl)

-- the shorter one is told
pub told_is_shorter : (v x : View) → length (meets v x).told ≤ length (meets v x).seen
told_is_shorter v x = go (ltb (length v.seen) (length x.seen)) refl
  where
    go : (b : Bool) → ltb (length v.seen) (length x.seen) ≡ b → length (met b v x).told ≤ length
        (met b v x).seen
    go true e = let h = ltb-true (length v.seen) (length x.seen) e in omega arith
    go false e = ltb-false (length v.seen) (length x.seen) e

pub met_fits : (k : Config2) (log : List Entry) (drawn served : ℕ) (v x : View) → v.stage ≡ Idle
    → Fits k log drawn served v → Fits k log drawn served x → Fits k log drawn served (meets v x)
met_fits k log drawn served v x idle f g = go (ltb (length v.seen) (length x.seen)) refl
  where
    go : (b : Bool) → ltb (length v.seen) (length x.seen) ≡ b → Fits k log drawn served (met b v x)
    go true e = record {
      config = f.config;
      seen = g.seen;
      told = f.seen;
      mine = λ real. between_mine v.number v.seen x.seen log
          (prefix_shorter v.seen x.seen log f.seen g.seen
          (let h = ltb-true (length v.seen) (length x.seen) e in omega arith)) g.seen (f.mine real);
      own = f.own;
      known = f.known;
      spare = f.spare;
      stage = subst (InStage log drawn served x.seen) (sym idle) tt;
    }
    go false e = record {
      config = f.config;
      seen = f.seen;
      told = g.seen;
      mine = f.mine;
      own = f.own;
      known = f.known;
      spare = f.spare;
      stage = f.stage;
    }

pub nobody_fits : (k : Config2) (log : List Entry) (drawn served : ℕ) → Fits k log drawn served
    nobody
nobody_fits k log drawn served = record {
  config = λ x. absurd (omega arith);
  seen = (log, refl);
  told = (log, refl);
  mine = λ x. absurd (omega arith);
  own = λ x. absurd (omega arith);
  known = omega arith;
  spare = λ n x. absurd (cc x);
  stage = tt;
}
