-- What a seat has reserved after its calls, and what it knows of seats that it met.
use Rattle.std.proofs.Common.{◌≡◌, ℕ, List, [], ◌∷◌, ◌++◌, ap, sym, ◌∙◌, append-nil}
use mathlib.Core.List.{IsPrefix}
use Rattle.ssh_hub.specs.Reserved.{reserved_after, reserved_by}
use Rattle.ssh_hub.specs.History.{calls_by}
use Rattle.ssh_hub.specs.Views.{own_reservations}
use Rattle.ssh_hub.specs.Words.{entry, Makes, Meets}
use Rattle.ssh_hub.specs.Does.{Does, entries}
use Rattle.ssh_hub.specs.declared.history.HubCall.{HubCall}
use Rattle.ssh_hub.specs.declared.history.HubReply.{HubReply}
use Rattle.ssh_hub.specs.declared.history.Entry.{Entry}
use Rattle.ssh_hub.specs.declared.history.View.{View}
use Rattle.ssh_hub.proofs.Histories.{calls_by_append}
use Rattle.ssh_hub.proofs.Own.{reserved_snoc}
use Rattle.ssh_hub.proofs.Did.{did_none, did_one}

pub reserved_by_call : (v : View) (c : HubCall) (r : HubReply) (w : View) → Makes v c r w
    → own_reservations w ≡ reserved_after c r (own_reservations v)
reserved_by_call v c r w made =
    ap (λ (n : ℕ). reserved_by (calls_by n w.seen) []) made.same.0
    ∙ (ap (λ (l : List Entry). reserved_by l []) (did_one v c r w made).own
    ∙ reserved_snoc (calls_by v.number v.seen) (entry v.number c r) [])

pub reserved_by_none : (v w : View) → Does v [] w → own_reservations w ≡ own_reservations v
reserved_by_none v w d =
    ap (λ (n : ℕ). reserved_by (calls_by n w.seen) []) d.same.0
    ∙ ap (λ (l : List Entry). reserved_by l []) (d.own ∙ append-nil (calls_by v.number v.seen))

-- meetings

pub met_none : (v x w : View) → Meets v x w → Does v [] w
met_none v x w m = did_none v w record { same = m.same; legal = m.legal; grows = m.mine }

pub others_stay : (u : View) (calls : List (HubCall × HubReply)) (x v w : View) → Does u calls x
    → Meets v x w
    → IsPrefix (calls_by u.number u.seen ++ entries u.number calls) (calls_by u.number w.seen)
others_stay u calls x v w d m = (
  calls_by u.number m.theirs.0,
  ap (λ (l : List Entry). l ++ calls_by u.number m.theirs.0) (sym d.own)
      ∙ (sym (calls_by_append u.number x.seen m.theirs.0) ∙ ap (calls_by u.number) m.theirs.1),
)
