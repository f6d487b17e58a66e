-- What a `next` of a hub's link does: rounds, each of which asks the hub for a reply, then the feed,
-- then the hub for either, and at last waits.
use Rattle.std.specs.Prelude.{◌≡◌, ◌||◌, ℕ, zero, suc, Bool, true, false, Option, Some, None}
use Rattle.std.specs.Prelude.{Result, Ok, Err}
use Rattle.ssh_link.specs.declared.frame.Input.{Input}
use Rattle.ssh_link.specs.declared.link.LinkFault.{LinkFault}
use Rattle.ssh_hub.specs.declared.answers.Taken.{Taken}
use Rattle.ssh_hub.specs.declared.history.HubCall.TheVariants.{TakeNext}
use Rattle.ssh_hub.specs.declared.history.HubReply.TheVariants.{Took}
use Rattle.ssh_hub.specs.declared.history.View.{View}
use Rattle.ssh_hub.specs.Words.{Makes}
use Rattle.ssh_hub_link.specs.Feeds.{IsOfFeed}
use Rattle.ssh_hub_link.specs.Given.{kind_of}

-- a take with these flags, which took this
abbrev pub Takes : (replies commands : Bool) → View → Option Taken → View → Type 0
Takes replies commands v taken w = Makes v (TakeNext replies commands) (Took taken) w

-- a take with these flags that found nothing, where there is one to be made
abbrev pub FindsNone : (is_made : Bool) → (replies commands : Bool) → View → View → Type 0
FindsNone true replies commands v w = Takes replies commands v None w
FindsNone false replies commands v w = w ≡ v

-- what the take was to give
abbrev pub TakesFirst : (is_made : Bool) → (replies commands : Bool) → View
    → Result (Option Input) LinkFault → View → Type 0
TakesFirst is_made replies commands v (Ok None) w = FindsNone is_made replies commands v w
TakesFirst is_made replies commands v (Ok (Some input)) w = (taken : Taken) × (is_made ≡ true)
    × Takes replies commands v (Some taken) w
    × (input.kind ≡ kind_of taken)
TakesFirst is_made replies commands v (Err e) w = Unit {0}

-- what a feed had to give
abbrev pub Polled : {F : Type 0} → (polls : F → Option Input → F → Type 0) → F
    → Result (Option Input) LinkFault → F → Type 0
Polled polls f (Ok None) g = polls f None g
Polled polls f (Ok (Some input)) g = polls f (Some input) g × IsOfFeed input.kind
Polled polls f (Err e) g = Unit {0}

-- what was waited for
abbrev pub Waited : {F : Type 0} → (waits : F → Input → F → Type 0) → F
    → Result (Option Input) LinkFault → F → Type 0
Waited waits f (Ok None) g = ⊥
Waited waits f (Ok (Some input)) g = waits f input g × IsOfFeed input.kind
Waited waits f (Err e) g = Unit {0}

module _ {F : Type 0} (polls : F → Option Input → F → Type 0) (waits : F → Input → F → Type 0)
    (commands replies : Bool) where
  -- a round that found nothing: there was no reply, then no input of the feed, then neither a reply
  -- nor a command
  pub record EmptyRound (v : View) (f : F) (w : View) (g : F) : Type 0 where
    pub between : View
    pub no_reply : FindsNone replies true false v between
    pub no_input : polls f None g
    pub none_taken : FindsNone (commands || replies) replies commands between w

  -- so many rounds that found nothing, one after another
  abbrev pub EmptyRounds : ℕ → View → F → View → F → Type 0
  EmptyRounds zero v f w g = (w ≡ v) × (g ≡ f)
  EmptyRounds (suc n) v f w g = (x : View) × (h : F) × EmptyRounds n v f x h × EmptyRound x h w g

  -- a round that gave this input
  pub data LastRound (v : View) (f : F) (input : Input) (w : View) (g : F) : Type 0 where
    -- a reply, which was asked for before the feed was
    reply : (taken : Taken) → replies ≡ true → Takes true false v (Some taken) w → g ≡ f
        → input.kind ≡ kind_of taken → LastRound v f input w g
    -- what the feed had, while there was no reply
    polled : FindsNone replies true false v w → polls f (Some input) g → IsOfFeed input.kind
        → LastRound v f input w g
    -- a reply or a command, while the feed had nothing
    taken : (x : View) (taken : Taken) → (commands || replies) ≡ true
        → FindsNone replies true false v x → polls f None g
        → Takes replies commands x (Some taken) w → input.kind ≡ kind_of taken
        → LastRound v f input w g
    -- what was waited for, while there was nothing at all
    waited : (x : View) (h : F) → FindsNone replies true false v x → polls f None h
        → FindsNone (commands || replies) replies commands x w → waits h input g
        → IsOfFeed input.kind → LastRound v f input w g

  -- what came of a round
  abbrev pub Round : View → F → Result (Option Input) LinkFault → View → F → Type 0
  Round v f (Ok None) w g = EmptyRound v f w g
  Round v f (Ok (Some input)) w g = LastRound v f input w g
  Round v f (Err e) w g = Unit {0}

  -- after rounds that found nothing one gave this input
  pub record Gives (v : View) (f : F) (input : Input) (w : View) (g : F) : Type 0 where
    pub rounds : ℕ
    pub seen : View
    pub fed : F
    pub empty : EmptyRounds rounds v f seen fed
    pub last : LastRound seen fed input w g
