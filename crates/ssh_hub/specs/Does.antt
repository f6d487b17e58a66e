-- What a caller of several calls says.
use Rattle.std.specs.Prelude.{◌≡◌, ℕ, List, [], ◌∷◌, ◌++◌, map}
use mathlib.Core.List.{IsPrefix}
use Rattle.ssh_hub.specs.Step.{opening}
use Rattle.ssh_hub.specs.History.{IsLegal, calls_by}
use Rattle.ssh_hub.specs.declared.history.HubCall.{HubCall}
use Rattle.ssh_hub.specs.declared.history.HubReply.{HubReply}
use Rattle.ssh_hub.specs.declared.history.Entry.{Entry}
use Rattle.ssh_hub.specs.declared.history.View.{View}
use Rattle.ssh_hub.specs.Words.{IsSameSeat, Makes, entry}

abbrev pub entries : ℕ → List (HubCall × HubReply) → List Entry
entries n calls = map (λ c. entry n c.0 c.1) calls

-- the seat made these calls, in this order, and no others
pub record Does (v : View) (calls : List (HubCall × HubReply)) (w : View) : Type 0 where
  pub same : IsSameSeat v w
  pub legal : IsLegal (opening w.config) w.seen
  pub goes_on : IsPrefix v.seen w.seen
  pub own : calls_by v.number w.seen ≡ calls_by v.number v.seen ++ entries v.number calls

-- who made one call did that call
abbrev pub OneCallDoes : Type 0
OneCallDoes = (v : View) (c : HubCall) (r : HubReply) (w : View) → Makes v c r w
    → Does v ((c, r) ∷ []) w

-- who did some calls and then others did all of them
abbrev pub CallsAddUp : Type 0
CallsAddUp =
    (v : View) (first : List (HubCall × HubReply)) (w : View) (later : List (HubCall × HubReply))
    (x : View)
    → Does v first w → Does w later x → Does v (first ++ later) x
