-- What the rounds of a `next` give.
use Rattle.std.proofs.Common.{◌≡◌, ◌||◌, Bool, true, false, ℕ, suc, Option, Some, None, Result, Ok, Err, refl, ap, sym, ◌∙◌, subst}
use Rattle.ssh_link.specs.declared.frame.Input.{Input}
use Rattle.ssh_link.specs.declared.frame.InputKind.{InputKind}
use Rattle.ssh_link.specs.declared.frame.InputKind.TheVariants.{
  Payload,
  Command,
  OpenReply,
  KeepaliveTick,
  InactivityTick,
  RekeyTick,
  End,
}
use Rattle.ssh_link.specs.Asked.{is_asked, IsAsked}
use Rattle.ssh_hub.specs.declared.answers.Taken.{Taken}
use Rattle.ssh_hub.specs.declared.answers.Taken.TheVariants.{Reply, Command as TakenCommand}
use Rattle.ssh_hub.specs.declared.history.HubCall.TheVariants.{TakeNext}
use Rattle.ssh_hub.specs.declared.history.HubReply.TheVariants.{Took}
use Rattle.ssh_hub.specs.declared.history.View.{View}
use Rattle.ssh_hub.proofs.Fitting.{made_fits}
use Rattle.ssh_hub_link.specs.Feeds.{IsOfFeed}
use Rattle.ssh_hub_link.specs.Given.{kind_of}
use Rattle.ssh_link.specs.declared.link.LinkFault.{LinkFault}
use Rattle.ssh_hub_link.specs.Linked.{Linked, IsTold}
use Rattle.ssh_hub_link.specs.Rounds.{Takes, FindsNone, TakesFirst, Polled, Waited, EmptyRounds, LastRound, Round, reply, polled, taken, waited}

asked_taken : (v w : View) (replies commands : Bool) (t : Taken)
    → Takes replies commands v (Some t) w → is_asked commands replies (kind_of t) ≡ true
asked_taken v w replies commands (Reply ticket answer) made =
    made_fits v (TakeNext replies commands) (Took (Some (Reply ticket answer))) w made
asked_taken v w replies commands (TakenCommand ticket command) made =
    made_fits v (TakeNext replies commands) (Took (Some (TakenCommand ticket command))) w made

-- what a take for replies alone takes is asked for where replies are
asked_reply : (v w : View) (commands replies : Bool) (t : Taken) → Takes true false v (Some t) w
    → replies ≡ true → is_asked commands replies (kind_of t) ≡ true
asked_reply v w commands replies (Reply ticket answer) made asks = asks
asked_reply v w commands replies (TakenCommand ticket command) made asks =
    absurd (cc (made_fits v (TakeNext true false) (Took (Some (TakenCommand ticket command))) w made))

asked_fed : (commands replies : Bool) (kind : InputKind) → IsOfFeed kind
    → is_asked commands replies kind ≡ true
asked_fed commands replies (Payload b) fed = refl
asked_fed commands replies (Command t m) fed = absurd (cc fed)
asked_fed commands replies (OpenReply t a) fed = absurd (cc fed)
asked_fed commands replies KeepaliveTick fed = refl
asked_fed commands replies InactivityTick fed = refl
asked_fed commands replies RekeyTick fed = refl
asked_fed commands replies End fed = refl

-- what a round gives is asked for
pub asked_of : {F : Type 0} (polls : F → Option Input → F → Type 0) (waits : F → Input → F → Type 0)
    (commands replies : Bool) (v : View) (f : F) (input : Input) (w : View) (g : F)
    → LastRound polls waits commands replies v f input w g → IsAsked commands replies input.kind
asked_of polls waits commands replies v f input w g (reply t asks made same kind) =
    ap (is_asked commands replies) kind ∙ asked_reply v w commands replies t made asks
asked_of polls waits commands replies v f input w g (polled none gave fed) =
    asked_fed commands replies input.kind fed
asked_of polls waits commands replies v f input w g (taken x t asks none had made kind) =
    ap (is_asked commands replies) kind ∙ asked_taken x w replies commands t made
asked_of polls waits commands replies v f input w g (waited x h none had nothing gave fed) =
    asked_fed commands replies input.kind fed

-- what a step told, where it gave nothing
pub told_none : {L S F : Type 0} (l k : Linked L S F) (commands replies : Bool) (o : Option Input)
    → o ≡ None → IsTold l k commands replies (Ok o) → (k.trace ≡ l.trace) × (k.lost ≡ None)
told_none l k commands replies o is told =
    subst (λ (p : Option Input). IsTold l k commands replies (Ok p)) is told

found_none : (is_made replies commands : Bool) (v w : View) (o : Option Input) → o ≡ None
    → TakesFirst is_made replies commands v (Ok o) w → FindsNone is_made replies commands v w
found_none is_made replies commands v w o is took =
    subst (λ (p : Option Input). TakesFirst is_made replies commands v (Ok p) w) is took

module _ {F : Type 0} (polls : F → Option Input → F → Type 0) (waits : F → Input → F → Type 0)
    (commands replies : Bool) where
  -- a round that ended with a reply
  pub by_reply : (v w : View) (f g : F) (input : Input) (o : Option Input)
      → TakesFirst replies true false v (Ok o) w → o ≡ Some input → g ≡ f
      → LastRound polls waits commands replies v f input w g
  by_reply v w f g input o took is same =
      let t = subst (λ (p : Option Input). TakesFirst replies true false v (Ok p) w) is took in
      reply t.0 t.1 t.2 same t.3

  had_none : (f h k : F) (o : Option Input) → h ≡ f → Polled polls h (Ok o) k → o ≡ None
      → polls f None k
  had_none f h k o fed had is =
      subst (λ (j : F). polls j None k) fed
      (subst (λ (p : Option Input). Polled polls h (Ok p) k) is had)

  -- one that ended with a reply or a command, while the feed had nothing
  pub by_either : (v x y w : View) (f h k g : F) (input : Input) (o p q : Option Input)
      → TakesFirst replies true false v (Ok o) x → o ≡ None → h ≡ f
      → Polled polls h (Ok p) k → p ≡ None → y ≡ x
      → TakesFirst (commands || replies) replies commands y (Ok q) w → q ≡ Some input → g ≡ k
      → LastRound polls waits commands replies v f input w g
  by_either v x y w f h k g input o p q first first_is fed had had_is seen second second_is same =
      let t = subst (λ (r : Option Input). TakesFirst (commands || replies) replies commands y (Ok r) w)
      second_is second in
      taken x t.0 t.1 (found_none replies true false v x o first_is first)
      (subst (λ (j : F). polls f None j) (sym same) (had_none f h k p fed had had_is))
      (subst (λ (u : View). Takes replies commands u (Some t.0) w) seen t.2) t.3

  waited_at : (v x z w : View) (f k g : F) (result : Result (Option Input) LinkFault)
      → FindsNone replies true false v x → polls f None k
      → FindsNone (commands || replies) replies commands x z → Waited waits k result g → w ≡ z
      → Round polls waits commands replies v f result w g
  waited_at v x z w f k g (Ok None) none had nothing gave stays = absurd gave
  waited_at v x z w f k g (Ok (Some input)) none had nothing gave stays =
      subst (λ (u : View). LastRound polls waits commands replies v f input u g) (sym stays)
      (waited x k none had nothing gave.0 gave.1)
  waited_at v x z w f k g (Err e) none had nothing gave stays = tt

  -- one that waited for the feed
  pub by_wait : (v x y z w : View) (f h k j g : F) (o p q : Option Input)
      (result : Result (Option Input) LinkFault)
      → TakesFirst replies true false v (Ok o) x → o ≡ None → h ≡ f
      → Polled polls h (Ok p) k → p ≡ None → y ≡ x
      → TakesFirst (commands || replies) replies commands y (Ok q) z → q ≡ None → j ≡ k
      → Waited waits j result g → w ≡ z → Round polls waits commands replies v f result w g
  by_wait v x y z w f h k j g o p q result first first_is fed had had_is seen second second_is same gave
      stays =
      waited_at v x z w f k g result (found_none replies true false v x o first_is first)
      (had_none f h k p fed had had_is)
      (subst (λ (u : View). FindsNone (commands || replies) replies commands u z) seen
      (found_none (commands || replies) replies commands y z q second_is second))
      (subst (λ (i : F). Waited waits i result g) same gave) stays

  -- what a round gave, by its answer
  pub gave_some : (v w : View) (f g : F) (o : Option Input) (input : Input)
      → Round polls waits commands replies v f (Ok o) w g → o ≡ Some input
      → LastRound polls waits commands replies v f input w g
  gave_some v w f g o input round is =
      subst (λ (p : Option Input). Round polls waits commands replies v f (Ok p) w g) is round

  -- one round more that found nothing
  pub rounds_more : (v w x : View) (f g h : F) (n : ℕ) (o : Option Input)
      → EmptyRounds polls waits commands replies n v f w g
      → Round polls waits commands replies w g (Ok o) x h → o ≡ None
      → (m : ℕ) × EmptyRounds polls waits commands replies m v f x h
  rounds_more v w x f g h n o rounds round is = (
    suc n,
    (
      w,
      g,
      rounds,
      subst (λ (p : Option Input). Round polls waits commands replies w g (Ok p) x h) is round,
    ),
  )
