-- What a turn and a meeting have made.
use Rattle.std.proofs.Common.{
  ◌≡◌,
  ℕ,
  ◌<◌,
  ◌≤◌,
  Bool,
  true,
  false,
  ltb,
  List,
  [],
  ◌∷◌,
  ◌++◌,
  length,
  Option,
  Some,
  None,
  refl,
  ap,
  sym,
  ◌∙◌,
  subst,
  append-nil,
  append_assoc,
}
use mathlib.Core.List.{IsPrefix}
use Rattle.atomic_table.specs.Table.{Step, rest}
use Rattle.ssh_hub.specs.World.{Held, find}
use Rattle.ssh_hub.specs.Reserved.{
  at_hand,
  reserved_after,
  reserved_by,
  reservations,
  bytes_on,
  sum_on,
}
use Rattle.ssh_hub.specs.Views.{own_reservations}
use Rattle.ssh_hub.specs.Step.{opening, act, counted}
use Rattle.ssh_hub.specs.History.{IsLegal, calls_by, newest, Grows}
use Rattle.ssh_hub.specs.Rule.{
  Seated,
  world,
  written,
  ended,
  drawn_by,
  stays_seated,
  sits_down,
  newcomer,
  meets,
  compared,
  committed,
  Turned,
  AtRest,
  InsideAt,
}
use Rattle.ssh_hub.specs.declared.answers.Config2.{Config2}
use Rattle.ssh_hub.specs.declared.history.Entry.{Entry}
use Rattle.ssh_hub.specs.declared.history.Stage.TheVariants.{Idle, Inside}
use Rattle.ssh_hub.specs.declared.history.View.{View}
use Rattle.ssh_hub.specs.declared.history.HubCall.{HubCall}
use Rattle.ssh_hub.specs.declared.history.HubCall.TheVariants.{SplitSeat}
use Rattle.ssh_hub.specs.declared.history.HubReply.{HubReply}
use Rattle.ssh_hub.specs.declared.history.HubReply.TheVariants.{SeatIs}
use Rattle.ssh_hub.specs.Words.{entry, Learns, Makes, Stays, Meets, IsNew}
use Rattle.ssh_hub.proofs.Histories.{
  run_snoc,
  legal_snoc,
  calls_by_append,
  calls_by_mine,
  grows_of,
  newest_mine,
  newest_none,
  newest_on,
  mine_on,
}
use Rattle.ssh_hub.specs.declared.reservations.Reservation.{Reservation}
use Rattle.ssh_hub.proofs.Counts.{place_kept}
use Rattle.ssh_hub.proofs.Own.{by_own_calls, reserved_snoc}
use Rattle.ssh_hub.proofs.Bytes.{part_of_all}
use Rattle.ssh_hub.proofs.Stages.{met, met_same}

-- the seat that has taken the hub out
pub inside_after : (t : ℕ) (v : View) (carried : List (ℕ × Option Held)) (m n : Seated)
    → Turned t (v, carried) m → n ≡ (m.0, (0, None) ∷ rest m.1) → AtRest (v, carried) → InsideAt n
inside_after t v carried m n turned is at =
    let w : View = record v { stage = Inside t; seen = turned.0 } in
    let now : n ≡ (w, (0, None) ∷ []) = is
    ∙ (ap (λ (x : Seated). let p : Seated = (x.0, (0, None) ∷ rest x.1) in p) turned.1
    ∙ ap (λ (c : List (ℕ × Option Held)). let p : Seated = (w, (0, None) ∷ c) in p) at.4) in
    subst InsideAt (sym now) (
      at.0,
      (t, refl),
      at.2,
      at.3,
      refl,
      at.5 ∙ sym (mine_on v.number v.seen turned.0 turned.2),
    )

pub newest_entered : (t : ℕ) (v : View) (carried : List (ℕ × Option Held)) (m n : Seated)
    → Turned t (v, carried) m → n ≡ (m.0, (0, None) ∷ rest m.1) → newest n.0.number n.0.seen
    ≡ newest v.number v.seen
newest_entered t v carried m n turned is = ap (λ (x : Seated). newest x.0.number x.0.seen) is
    ∙ (ap (λ (x : Seated). newest x.0.number x.0.seen) turned.1 ∙ newest_on v.number v.seen turned.0
    turned.2)

pub held_entered : (t : ℕ) (v : View) (carried : List (ℕ × Option Held)) (m n : Seated)
    → Turned t (v, carried) m → n ≡ (m.0, (0, None) ∷ rest m.1)
    → own_reservations n.0 ≡ own_reservations v
held_entered t v carried m n turned is = ap (λ (x : Seated). own_reservations x.0) is
    ∙ (ap (λ (x : Seated). own_reservations x.0) turned.1 ∙ ap (λ es. reserved_by es [])
    (mine_on v.number v.seen turned.0 turned.2))

-- of no channel the seat has reserved more than the hub counts
pub owns_entered : (t : ℕ) (v : View) (carried : List (ℕ × Option Held)) (m n : Seated)
    → Turned t (v, carried) m → n ≡ (m.0, (0, None) ∷ rest m.1) → (c : ℕ)
    → bytes_on c (own_reservations n.0) ≤ sum_on (find c (world n.0.config n.0.seen).hub.channels)
owns_entered t v carried m n turned is c =
    subst (λ (x : Seated). bytes_on c (own_reservations x.0)
    ≤ sum_on (find c (world x.0.config x.0.seen).hub.channels)) (sym (is
    ∙ ap (λ (x : Seated). let p : Seated = (x.0, (0, None) ∷ rest x.1) in p) turned.1))
    (subst (λ (rs : List Reservation). bytes_on c rs
    ≤ sum_on (find c (world v.config turned.0).hub.channels))
    (by_own_calls v.config turned.0 v.number turned.3)
    (part_of_all v.config turned.0 v.number c))

-- the call of the seat is answered so by the hub that it has seen, which it leaves so
abbrev pub Acts : View → Entry → Held → Type 0
Acts w e h = act (world w.config w.seen).hub e.by (at_hand e.call (own_reservations w)) e.call
    ≡ (h, e.reply)

-- what the seat has at hand is what the hub of one thread knows of it
pub acts_as : (w : View) (e : Entry) (h : Held) → IsLegal (opening w.config) w.seen → e.by
    ≡ w.number → Acts w e h
    → act (world w.config w.seen).hub e.by (at_hand e.call (reservations e.by
    (world w.config w.seen))) e.call ≡ (h, e.reply)
acts_as w e h legal by is = ap (λ (rs : List Reservation).
    act (world w.config w.seen).hub e.by (at_hand e.call rs) e.call)
    (by_own_calls w.config w.seen e.by legal ∙ ap (λ (n : ℕ). reserved_by (calls_by n w.seen) []) by)
    ∙ is

-- the hub after an entry
pub hub_after : (w : View) (e : Entry) (h : Held) → IsLegal (opening w.config) w.seen → e.by
    ≡ w.number → Acts w e h → counted h ≡ (world w.config (w.seen ++ e ∷ [])).hub
hub_after w e h legal by is = sym (ap (λ x. x.hub) (run_snoc (opening w.config) w.seen e)
    ∙ ap (λ p. counted p.0) (acts_as w e h legal by is))

-- the hub's place before its entry is counted
pub place_before : (w : View) (e : Entry) (h : Held) → Acts w e h
    → h.place ≡ (world w.config w.seen).hub.place
place_before w e h is = sym (ap (λ p. p.0.place) is) ∙ place_kept (world w.config w.seen).hub e.by
    (at_hand e.call (own_reservations w)) e.call

pub ended_as : (m n o : Seated) (e : Entry) → n ≡ (written e m.0, m.1) → o
    ≡ (record n.0 { stage = Idle }, []) → m.0.spare ≡ None → o ≡ (ended e m.0, [])
ended_as m n o e wrote left none =
    left ∙ (ap (λ (x : Seated). let p : Seated = (record x.0 { stage = Idle }, []) in p) wrote
    ∙ ap (λ (s : Option ℕ). let p : Seated = (
      record m.0 {
        stage = Idle;
        spare = drawn_by e.call e.reply s;
        seen = m.0.seen ++ e ∷ [];
        mine = m.0.mine ++ e ∷ [];
      },
      [],
    ) in p) none)

pub made : (m o : Seated) (e : Entry) (h : Held) → IsLegal (opening m.0.config) m.0.seen → e.by
    ≡ m.0.number → Acts m.0 e h → o ≡ (ended e m.0, []) → Makes m.0 e.call e.reply o.0
made m o e h legal by answer is =
    subst (λ (x : Seated). Makes m.0 e.call e.reply x.0) (sym is) record {
      same = (refl, refl);
      legal = legal_snoc (opening m.0.config) m.0.seen e legal
          (sym (ap (λ p. p.1) (acts_as m.0 e h legal by answer)));
      before = m.0.seen;
      grows = ([], sym (append-nil m.0.seen), refl);
      ends = ap (λ (n : ℕ). m.0.seen ++ entry n e.call e.reply ∷ []) by;
    }

grows_on : (n : ℕ) (a b c : List Entry) → Grows n a b → Grows n b c → Grows n a c
grows_on n a b c p q = (
  p.0 ++ q.0,
  q.1 ∙ (ap (λ l. l ++ q.0) p.1 ∙ append_assoc a p.0 q.0),
  calls_by_append n p.0 q.0 ∙ (ap (λ l. l ++ calls_by n q.0) p.2 ∙ q.2),
)

pub makes_later : (v w : View) (c : HubCall) (r : HubReply) (x : View) → Learns v w → Makes w c r x
    → Makes v c r x
makes_later v w c r x l m = record {
  same = (m.same.0 ∙ l.same.0, m.same.1 ∙ l.same.1);
  legal = m.legal;
  before = m.before;
  grows = grows_on v.number v.seen w.seen m.before l.grows
      (subst (λ (n : ℕ). Grows n w.seen m.before) l.same.0 m.grows);
  ends = m.ends ∙ ap (λ (n : ℕ). m.before ++ entry n c r ∷ []) l.same.0;
}

pub learns_still : (v w x : View) → Learns v w → Stays w x → Learns v x
learns_still v w x l m = record {
  same = (m.same.0 ∙ l.same.0, m.same.1 ∙ l.same.1);
  legal = subst (λ (c : Config2). IsLegal (opening c) x.seen) (sym m.same.1)
      (subst (IsLegal (opening w.config)) (sym m.seen) l.legal);
  grows = (l.grows.0, m.seen ∙ l.grows.1, l.grows.2);
}

pub rests_after : (m o : Seated) (e : Entry) → InsideAt m → e.by ≡ m.0.number
    → o ≡ (ended e m.0, []) → AtRest (stays_seated o.0, o.1)
rests_after m o e at by is = subst (λ (x : Seated). AtRest (stays_seated x.0, x.1)) (sym is) (
  at.0,
  refl,
  refl,
  at.3,
  refl,
  ap (λ l. l ++ e ∷ []) at.5
      ∙ sym (calls_by_mine m.0.number m.0.seen e by),
)

pub newest_after : (m o : Seated) (e : Entry) (at : ℕ) → e.by ≡ m.0.number → at ≡ length m.0.seen
    → o ≡ (ended e m.0, []) → Some at ≡ newest o.0.number o.0.seen
newest_after m o e at by here is = ap (λ (k : ℕ). Some k) here
    ∙ sym (ap (λ (x : Seated). newest x.0.number x.0.seen) is
    ∙ newest_mine m.0.number m.0.seen e by)

-- the seat that has made no entry
pub stayed : (m o : Seated) → InsideAt m → o ≡ (record m.0 { stage = Idle }, []) → AtRest o
stayed m o at is = subst AtRest (sym is) (at.0, refl, at.2, at.3, refl, at.5)

pub stays_on : (m o : Seated) → o ≡ (record m.0 { stage = Idle }, []) → Stays m.0 o.0
stays_on m o is = subst (λ (x : Seated). Stays m.0 x.0) (sym is) record {
  same = (refl, refl);
  seen = refl;
}

-- what the seat has reserved

pub held_learned : (v w : View) → Learns v w → own_reservations w ≡ own_reservations v
held_learned v w l = ap (λ (n : ℕ). reserved_by (calls_by n w.seen) []) l.same.0
    ∙ ap (λ es. reserved_by es []) (mine_on v.number v.seen w.seen l.grows)

pub held_stayed : (v w : View) → Stays v w → own_reservations w ≡ own_reservations v
held_stayed v w s = ap (λ (n : ℕ). reserved_by (calls_by n w.seen) []) s.same.0
    ∙ ap (λ es. reserved_by (calls_by v.number es) []) s.seen

pub held_met : (v x w : View) → Meets v x w → own_reservations w ≡ own_reservations v
held_met v x w m = ap (λ (n : ℕ). reserved_by (calls_by n w.seen) []) m.same.0
    ∙ ap (λ es. reserved_by es []) (mine_on v.number v.seen w.seen m.mine)

pub held_new : (v w : View) → IsNew v w → own_reservations w ≡ []
held_new v w n = ap (λ es. reserved_by es []) n.none_made

pub held_after : (v : View) (c : HubCall) (r : HubReply) (w : View) → Makes v c r w
    → own_reservations w ≡ reserved_after c r (own_reservations v)
held_after v c r w m =
    let e : Entry = entry v.number c r in
    ap (λ (n : ℕ). reserved_by (calls_by n w.seen) []) m.same.0
    ∙ (ap (λ es. reserved_by (calls_by v.number es) []) m.ends
    ∙ (ap (λ es. reserved_by es []) (calls_by_mine v.number m.before e refl)
    ∙ (reserved_snoc (calls_by v.number m.before) e []
    ∙ ap (λ es. reserved_after c r (reserved_by es [])) (mine_on v.number v.seen m.before m.grows))))

pub newest_looked : (v w : View) → Learns v w → newest w.number w.seen ≡ newest v.number v.seen
newest_looked v w l = ap (λ (n : ℕ). newest n w.seen) l.same.0 ∙ newest_on v.number v.seen w.seen
    l.grows

-- two seats that met

grown : (b : Bool) (v x : View) → IsPrefix (met b v x).told (met b v x).seen → (met b v x).mine
    ≡ calls_by (met b v x).number (met b v x).seen → v.mine ≡ calls_by v.number v.seen
    → IsLegal (opening (met b v x).config) (met b v x).seen
    → Meets v x (record (met b v x) { told = [] })
grown true v x p mine own legal = record {
  same = (refl, refl);
  legal = legal;
  mine = grows_of v.number v.seen x.seen p
      (sym mine ∙ own);
  theirs = ([], append-nil x.seen);
}
grown false v x p mine own legal = record {
  same = (refl, refl);
  legal = legal;
  mine = (
    [],
    sym (append-nil v.seen),
    refl,
  );
  theirs = p;
}

met_legal : (b : Bool) (v x : View) → x.config ≡ v.config → IsLegal (opening v.config) v.seen
    → IsLegal (opening x.config) x.seen → IsLegal (opening (met b v x).config) (met b v x).seen
met_legal true v x same l r = subst (λ (c : Config2). IsLegal (opening c) x.seen) same r
met_legal false v x same l r = l

pub met_now : (st : Step (Option Held)) (r : ℕ) (v x : View) (carried : List (ℕ × Option Held))
    (m n : Seated) → m ≡ (meets v x, carried) → compared st m r n → AtRest (v, carried)
    → x.config ≡ v.config → IsLegal (opening v.config) v.seen
    → IsLegal (opening x.config) x.seen → Meets v x n.0
met_now st r v x carried m n is c at same mine theirs =
    let d = subst (λ (y : Seated). compared st y r n) is c in
    let b : Bool = ltb (length v.seen) (length x.seen) in
    subst (λ (y : Seated). Meets v x y.0) (sym d.0) (grown b v x d.1 d.2 at.5
    (met_legal b v x same mine theirs))

pub met_rests : (st : Step (Option Held)) (r : ℕ) (v x : View) (carried : List (ℕ × Option Held))
    (m n : Seated) → m ≡ (meets v x, carried) → compared st m r n → AtRest (v, carried) → AtRest n
met_rests st r v x carried m n is c at = let d = subst (λ (y : Seated). compared st y r n) is c in
    let e = met_same (ltb (length v.seen) (length x.seen)) v x in
    subst AtRest (sym d.0) (
      subst (λ (k : ℕ). 0 < k) (sym e.2) at.0,
      e.0 ∙ at.1,
      e.1 ∙ at.2,
      refl,
      at.4,
      d.2,
    )

pub newest_met : (v x w : View) → Meets v x w → newest w.number w.seen ≡ newest v.number v.seen
newest_met v x w m = ap (λ (n : ℕ). newest n w.seen) m.same.0 ∙ newest_on v.number v.seen w.seen
    m.mine

-- a new seat

pub new_rests : (v : View) (n : ℕ) (m : Seated) → v.spare ≡ Some n
    → (0 < n) × (calls_by n v.seen ≡ [])
    → m ≡ (sits_down v, []) → IsLegal (opening v.config) v.seen
    → (AtRest m × (n ≡ m.0.number) × (None ≡ newest m.0.number m.0.seen)) × IsNew v m.0
new_rests v n m has fresh is legal =
    let now : m ≡ (newcomer v.config n v.seen, []) = is
    ∙ ap (λ (s : Option ℕ). let p : Seated =
    (newcomer v.config (Rattle.ssh_hub.specs.Rule.number_in s) v.seen, []) in p) has in
    subst (λ (x : Seated). (AtRest x × (n ≡ x.0.number) × (None ≡ newest x.0.number x.0.seen))
    × IsNew v x.0) (sym now) (
      ((fresh.0, refl, refl, refl, refl, sym fresh.1), refl, sym (newest_none n v.seen fresh.1)),
      record { config = refl; legal = legal; seen = refl; none_made = fresh.1 },
    )

pub split_made : (v x y : View) (n k : ℕ) → Makes v SplitSeat (SeatIs n) x → y ≡ stays_seated x → n
    ≡ k → Makes v SplitSeat (SeatIs k) y
split_made v x y n k m is same = subst (λ (z : View). Makes v SplitSeat (SeatIs k) z) (sym is)
    (subst (λ (i : ℕ). Makes v SplitSeat (SeatIs i) (stays_seated x)) same record {
      same = m.same;
      legal = m.legal;
      before = m.before;
      grows = m.grows;
      ends = m.ends;
    })

-- the number that an entry drew is new
pub fresh_after : (st : Step (Option Held)) (r : ℕ) (m o : Seated) (e : Entry) → m.0.spare ≡ None
    → committed e st m r o → (n : ℕ) → drawn_by e.call e.reply None ≡ Some n → (0 < n)
    × (calls_by n o.0.seen ≡ [])
fresh_after st r m o e none c n x = let f = c.2 n (ap (λ (s : Option ℕ). drawn_by e.call e.reply s)
    none ∙ x) in (f.0, subst (λ (y : Seated). calls_by n y.0.seen ≡ []) (sym c.1) f.1)
