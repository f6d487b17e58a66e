-- What a call does that makes several entries: a small machine, which asks the hub something in each
-- of its states, and goes on to another state by what the hub answers.
use Rattle.std.specs.Prelude.{◌≡◌, List, [], ◌∷◌, Option, Some}
use Rattle.ssh_hub.specs.declared.history.HubCall.{HubCall}
use Rattle.ssh_hub.specs.declared.history.HubReply.{HubReply}
use Rattle.ssh_hub.specs.declared.history.View.{View}
use Rattle.ssh_hub.specs.Does.{Does}

pub record Machine (S : Type 0) : Type 0 where
  -- what it asks in a state; none where it is at its end
  pub asks : S → Option HubCall
  -- the state after an answer
  pub told : S → HubReply → S

-- these calls, with these answers, lead from the state s to the state t
abbrev pub Follows : {S : Type 0} → Machine S → S → List (HubCall × HubReply) → S → Type 0
Follows m s [] t = t ≡ s
Follows m s (one ∷ others) t = (m.asks s ≡ Some one.0) × Follows m (m.told s one.1) others t

-- the seat made just the calls that lead from the state s to the state t
unfoldable pub Acts : {S : Type 0} → Machine S → View → S → S → View → Type 0
Acts m v s t w = (calls : List (HubCall × HubReply)) × Does v calls w × Follows m s calls t
