-- Something that comes of a command is waited for: it is asked for, and where it is not there,
-- whether the hub has ended.
use Rattle.std.specs.Prelude.{ℕ, Option, Some, None, Result, Ok, Err}
use Rattle.ssh_hub.specs.declared.answers.HandleError.{HandleError}
use Rattle.ssh_hub.specs.declared.answers.HandleError.TheVariants.{Ended}
use Rattle.ssh_hub.specs.declared.history.HubCall.{HubCall}
use Rattle.ssh_hub.specs.declared.history.HubCall.TheVariants.{AskEnded}
use Rattle.ssh_hub.specs.declared.history.HubReply.{HubReply}
use Rattle.ssh_hub.specs.declared.history.HubReply.TheVariants.{EndedAt}
use Rattle.ssh_hub.specs.declared.history.View.{View}
use Rattle.ssh_hub.specs.Follow.{Machine, Acts}

pub data Awaited (A : Type 0) : Type 0 where
  -- it is asked for
  asking : Awaited A
  -- it was not there
  missing : Awaited A
  -- it was there, or the hub has ended
  settled : Result A HandleError → Awaited A

abbrev pub await_asks : {A : Type 0} → HubCall → Awaited A → Option HubCall
await_asks call asking = Some call
await_asks call missing = Some AskEnded
await_asks call (settled a) = None

abbrev pub after_asking : {A : Type 0} → Option A → Awaited A
after_asking None = missing
after_asking (Some a) = settled (Ok a)

abbrev pub after_missing : {A : Type 0} → Option ℕ → Awaited A
after_missing None = asking
after_missing (Some at) = settled (Err (Ended at))

-- where the hub has ended, as an answer says it
abbrev pub end_said : HubReply → Option ℕ
end_said (EndedAt end) = end
end_said reply = None

abbrev pub await_told : {A : Type 0} → (HubReply → Option A) → Awaited A → HubReply → Awaited A
await_told said asking reply = after_asking (said reply)
await_told said missing reply = after_missing (end_said reply)
await_told said (settled a) reply = settled a

abbrev pub awaits : {A : Type 0} → HubCall → (HubReply → Option A) → Machine (Awaited A)
awaits call said = record { asks = await_asks call; told = await_told said }

-- the seat asked for it until it was there, or the hub had ended
abbrev pub Awaits : {A : Type 0} → HubCall → (HubReply → Option A) → View → Result A HandleError
    → View → Type 0
Awaits call said v a w = Acts (awaits call said) v asking (settled a) w
