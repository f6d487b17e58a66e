-- One call that is made again while its answer says nothing.
use Rattle.std.specs.Prelude.{Option, Some, None}
use Rattle.ssh_hub.specs.declared.history.HubCall.{HubCall}
use Rattle.ssh_hub.specs.declared.history.HubReply.{HubReply}
use Rattle.ssh_hub.specs.declared.history.View.{View}
use Rattle.ssh_hub.specs.Follow.{Machine, Acts}

pub data Tried (A : Type 0) : Type 0 where
  -- no answer said anything yet
  trying : Tried A
  -- an answer said this
  got : A → Tried A

abbrev pub try_asks : {A : Type 0} → HubCall → Tried A → Option HubCall
try_asks call trying = Some call
try_asks call (got a) = None

abbrev pub after_try : {A : Type 0} → Option A → Tried A
after_try None = trying
after_try (Some a) = got a

abbrev pub try_told : {A : Type 0} → (HubReply → Option A) → Tried A → HubReply → Tried A
try_told said trying reply = after_try (said reply)
try_told said (got a) reply = got a

-- the call, until its answer says something
abbrev pub tries : {A : Type 0} → HubCall → (HubReply → Option A) → Machine (Tried A)
tries call said = record { asks = try_asks call; told = try_told said }

-- the seat made this call, again and again, until its answer said a
abbrev pub Tries : {A : Type 0} → HubCall → (HubReply → Option A) → View → A → View → Type 0
Tries call said v a w = Acts (tries call said) v trying (got a) w
