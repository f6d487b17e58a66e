-- Calls that follow a machine.
use Rattle.std.proofs.Common.{
  ◌≡◌,
  List,
  [],
  ◌∷◌,
  ◌++◌,
  Option,
  Some,
  refl,
  ap,
  sym,
  subst,
  append-nil,
}
use Rattle.ssh_hub.specs.Step.{opening}
use Rattle.ssh_hub.specs.History.{IsLegal}
use Rattle.ssh_hub.specs.declared.history.HubCall.{HubCall}
use Rattle.ssh_hub.specs.declared.history.HubReply.{HubReply}
use Rattle.ssh_hub.specs.declared.history.View.{View}
use Rattle.ssh_hub.specs.Words.{Makes, Learns}
use Rattle.ssh_hub.specs.Does.{Does}
use Rattle.ssh_hub.specs.Follow.{Machine, Follows, Acts}
use Rattle.ssh_hub.proofs.Did.{did_none, did_one, did_both, did_nothing}

-- what follows no call is what follows the calls alone
pub did_then_none : (v : View) (calls : List (HubCall × HubReply)) (w x : View) → Does v calls w
    → Does w [] x → Does v calls x
did_then_none v calls w x d none = subst (λ (l : List (HubCall × HubReply)). Does v l x)
    (append-nil calls) (did_both v calls w [] x d none)

module _ {S : Type 0} (m : Machine S) where
  -- a way from s to t, and then one to u
  pub follows_on : (s : S) (first : List (HubCall × HubReply)) (t : S)
      (later : List (HubCall × HubReply)) (u : S) → Follows m s first t → Follows m t later u
      → Follows m s (first ++ later) u
  follows_on s [] t later u a b = subst (λ (x : S). Follows m x later u) a b
  follows_on s (one ∷ others) t later u a b = (
    a.0,
    follows_on (m.told s one.1) others t later u a.1 b,
  )

  -- no call was made yet
  pub acts_none : (v : View) (s : S) → IsLegal (opening v.config) v.seen → Acts m v s s v
  unfolding Acts
  acts_none v s legal = ([], did_nothing v legal, refl)

  -- one part, and then another
  pub acts_both : (v : View) (s : S) (w : View) (t : S) (x : View) (u : S) → Acts m v s t w
      → Acts m w t u x → Acts m v s u x
  unfolding Acts
  acts_both v s w t x u a b = (
    a.0 ++ b.0,
    did_both v a.0 w b.0 x a.1 b.1,
    follows_on s a.0 t b.0 u a.2 b.2,
  )

  -- one call, which leads to the state u
  pub acts_one : (v : View) (s : S) (c : HubCall) (r : HubReply) (w : View) (u : S)
      → m.asks s ≡ Some c → Makes v c r w → m.told s r ≡ u → Acts m v s u w
  unfolding Acts
  acts_one v s c r w u asks made is = ((c, r) ∷ [], did_one v c r w made, (asks, sym is))

  -- one call more, which leads to the state u
  pub acts_to : (v : View) (s : S) (w : View) (t : S) (c : HubCall) (r : HubReply) (x : View) (u : S)
      → Acts m v s t w → m.asks t ≡ Some c → Makes w c r x → m.told t r ≡ u → Acts m v s u x
  acts_to v s w t c r x u a asks made is = acts_both v s w t x u a
      (acts_one w t c r x u asks made is)

  -- no call more, but more was seen
  pub acts_stay : (v : View) (s : S) (w : View) (t : S) (x : View) → Acts m v s t w → Does w [] x
      → Acts m v s t x
  unfolding Acts
  acts_stay v s w t x a none = (a.0, did_then_none v a.0 w x a.1 none, a.2)

  pub acts_learned : (v : View) (s : S) (w : View) (t : S) (x : View) → Acts m v s t w
      → Learns w x → Acts m v s t x
  acts_learned v s w t x a more = acts_stay v s w t x a (did_none w x more)

-- A machine that runs as a part of another: its states are states of the whole, which asks the same
-- there and goes on as it does.
module _ {S T : Type 0} (part : Machine S) (whole : Machine T) (within : S → T)
    (asks : (s : S) (c : HubCall) → part.asks s ≡ Some c → whole.asks (within s) ≡ Some c)
    (told : (s : S) (c : HubCall) (r : HubReply) → part.asks s ≡ Some c
    → whole.told (within s) r ≡ within (part.told s r)) where
  follows_within : (s : S) (calls : List (HubCall × HubReply)) (t : S) → Follows part s calls t
      → Follows whole (within s) calls (within t)
  follows_within s [] t f = ap within f
  follows_within s (one ∷ others) t f = (
    asks s one.0 f.0,
    subst (λ (x : T). Follows whole x others (within t)) (sym (told s one.0 one.1 f.0))
        (follows_within (part.told s one.1) others t f.1),
  )

  pub acts_within : (v : View) (s t : S) (w : View) → Acts part v s t w
      → Acts whole v (within s) (within t) w
  unfolding Acts
  acts_within v s t w a = (a.0, a.1, follows_within s a.0 t a.2)
