-- What holds of each history of a hub.
use Rattle.std.specs.Prelude.{◌≡◌, ℕ, ◌+◌, ◌≤◌, ◌==◌, min, Bool, true, false, cond, ◌&&◌, ltb}
use Rattle.std.specs.Prelude.{List, [], ◌∷◌, ◌++◌, length, Option, Some, None, is_none}
use mathlib.Core.List.{IsPrefix}
use Rattle.ssh_link.specs.declared.command.Command.{Command}
use Rattle.ssh_link.specs.declared.open_answer.OpenAnswer.{OpenAnswer}
use Rattle.ssh_hub.specs.World.{World, Channel, Map, find}
use Rattle.ssh_hub.specs.Channels.{most_bytes, granted_to, left_in}
use Rattle.ssh_hub.specs.Lists.{data_channel}
use Rattle.ssh_hub.specs.Reserved.{bytes_on, sum_on, reservations, reserved_by}
use Rattle.ssh_hub.specs.Step.{opening, hub_step}
use Rattle.ssh_hub.specs.History.{run, IsLegal, calls_by}
use Rattle.ssh_hub.specs.declared.answers.Config2.{Config2}
use Rattle.ssh_hub.specs.declared.answers.Put.TheVariants.{Done as IsPut}
use Rattle.ssh_hub.specs.declared.answers.PutReply.TheVariants.{Done as ReplyIsPut}
use Rattle.ssh_hub.specs.declared.answers.Taken.TheVariants.{Reply, Command as TakenCommand}
use Rattle.ssh_hub.specs.declared.history.HubCall.{HubCall}
use Rattle.ssh_hub.specs.declared.history.HubCall.TheVariants.{PutCommand, PutAnswer, TakeNext}
use Rattle.ssh_hub.specs.declared.history.HubCall.TheVariants.{MakeReady, GrantBytes, EndHub}
use Rattle.ssh_hub.specs.declared.history.HubReply.{HubReply}
use Rattle.ssh_hub.specs.declared.history.HubReply.TheVariants.{WasPut, ReplyWasPut, Took}
use Rattle.ssh_hub.specs.declared.history.Entry.{Entry}
use Rattle.ssh_hub.specs.declared.reservations.Reservation.{Reservation}

-- the command that a call puts, with its ticket
abbrev pub put_command : HubCall → HubReply → List (ℕ × Command)
put_command (PutCommand command spend wanted) (WasPut (IsPut ticket)) = (ticket, command) ∷ []
put_command call reply = []

-- the command that is taken, with its ticket
abbrev pub taken_command : HubReply → List (ℕ × Command)
taken_command (Took (Some (TakenCommand ticket command))) = (ticket, command) ∷ []
taken_command reply = []

abbrev pub put_reply : HubCall → HubReply → List (ℕ × OpenAnswer)
put_reply (PutAnswer answer) (ReplyWasPut (ReplyIsPut ticket)) = (ticket, answer) ∷ []
put_reply call reply = []

abbrev pub taken_reply : HubReply → List (ℕ × OpenAnswer)
taken_reply (Took (Some (Reply ticket answer))) = (ticket, answer) ∷ []
taken_reply reply = []

-- the commands that were put, in order
abbrev pub commands_put : List Entry → List (ℕ × Command)
commands_put [] = []
commands_put (e ∷ es) = put_command e.call e.reply ++ commands_put es

-- the commands that were taken, in order
abbrev pub commands_taken : List Entry → List (ℕ × Command)
commands_taken [] = []
commands_taken (e ∷ es) = taken_command e.reply ++ commands_taken es

-- the answers to opens that were put, in order
abbrev pub replies_put : List Entry → List (ℕ × OpenAnswer)
replies_put [] = []
replies_put (e ∷ es) = put_reply e.call e.reply ++ replies_put es

-- the answers to opens that were taken, in order
abbrev pub replies_taken : List Entry → List (ℕ × OpenAnswer)
replies_taken [] = []
replies_taken (e ∷ es) = taken_reply e.reply ++ replies_taken es

-- whether the call ends the hub
abbrev pub is_end : HubCall → Bool
is_end EndHub = true
is_end call = false

abbrev pub or_later : Bool → ℕ → Option ℕ → Option ℕ
or_later true here later = Some here
or_later false here later = later

-- the place of the first end, where the first entry has the place `here`
abbrev pub first_end : ℕ → List Entry → Option ℕ
first_end here [] = None
first_end here (e ∷ es) = or_later (is_end e.call) here (first_end (here + 1) es)

-- the bytes of one channel: those that the peer takes, and those of them that puts spent
pub record Account : Type 0 where
  pub counted : ℕ
  pub spent : ℕ

abbrev pub no_bytes : Account
no_bytes = record { counted = 0; spent = 0 }

abbrev pub granted_in : ℕ → Option Channel → ℕ
granted_in amount None = 0
granted_in amount (Some ch) = granted_to ch amount ch.is_ready ch.is_closed

-- whether a command is data on the channel c
abbrev pub is_data_on : ℕ → Option ℕ → Bool
is_data_on c None = false
is_data_on c (Some d) = d == c

-- whether a put is taken in
abbrev pub takes_in : World → Bool
takes_in w = is_none w.hub.ended && ltb (length w.hub.commands) w.hub.command_size

-- the account begins with a window, by what is left of it and what is reserved then
abbrev pub account_from : ℕ → ℕ → Account
account_from window reserved = record {
  counted = left_in window reserved + reserved;
  spent = 0;
}

-- what a call adds to the account of the channel c
abbrev pub after_call : World → ℕ → ℕ → HubCall → Account → Account
after_call w c seat (MakeReady d window packet) a =
    cond (d.0 == c) (account_from window (sum_on (find c w.hub.channels))) a
after_call w c seat (GrantBytes d amount) a =
    cond (d.0 == c) (record a { counted = a.counted + granted_in amount (find c w.hub.channels) }) a
after_call w c seat (PutCommand command spend wanted) a =
    cond (takes_in w && is_data_on c (data_channel command))
    (record a { spent = a.spent + min spend (bytes_on c (reservations seat w)) })
    a
after_call w c seat call a = a

-- the account of the channel c after these calls
abbrev pub account : World → ℕ → List Entry → Account → Account
account w c [] a = a
account w c (e ∷ es) a = account (hub_step w e.by e.call).0 c es (after_call w c e.by e.call a)

-- what is left of a channel
abbrev pub left_of : Option Channel → ℕ
left_of None = 0
left_of (Some ch) = ch.left

-- how many bytes these seats have reserved of the channel c, each its own
abbrev pub total_on : ℕ → Map (List Reservation) → ℕ
total_on c [] = 0
total_on c (one ∷ others) = bytes_on c one.1 + total_on c others

-- what all seats have reserved of the channel c
abbrev pub reserved_of : ℕ → World → ℕ
reserved_of c w = total_on c w.reserved

-- the commands that were taken are the first of those that were put, in their order
abbrev pub CommandsInOrder : Type 0
CommandsInOrder =
    (k : Config2) (log : List Entry) → IsLegal (opening k) log → IsPrefix (commands_taken log)
    (commands_put log)

-- likewise the answers to opens
abbrev pub RepliesInOrder : Type 0
RepliesInOrder =
    (k : Config2) (log : List Entry) → IsLegal (opening k) log → IsPrefix (replies_taken log)
    (replies_put log)

-- where a take that asks for replies gives a command, every reply that was put before was taken
abbrev pub AnswersFirst : Type 0
AnswersFirst =
    (k : Config2) (before after : List Entry) (e : Entry) (commands : Bool) (t : ℕ) (m : Command)
    → IsLegal (opening k) (before ++ e ∷ after)
    → e.call ≡ TakeNext true commands
    → e.reply ≡ Took (Some (TakenCommand t m))
    → replies_taken before ≡ replies_put before

-- what was counted of a channel is left, or reserved by one seat, or spent by puts
abbrev pub BytesAreConserved : Type 0
BytesAreConserved =
    (k : Config2) (log : List Entry) (c : ℕ)
    → let w = run (opening k) log in
    let a = account (opening k) c log no_bytes in
    a.counted ≡ left_of (find c w.hub.channels) + reserved_of c w + a.spent

-- what is left of a channel and what is reserved of it stay below 2^32 together
abbrev pub BytesFit : Type 0
BytesFit =
    (k : Config2) (log : List Entry) (c : ℕ)
    → let w = run (opening k) log in
    left_of (find c w.hub.channels) + reserved_of c w ≤ most_bytes

-- the sum that the hub counts is that of what each seat has reserved
abbrev pub ReservedAddUp : Type 0
ReservedAddUp =
    (k : Config2) (log : List Entry) (c : ℕ)
    → let w = run (opening k) log in
    sum_on (find c w.hub.channels) ≡ reserved_of c w

-- what a seat has reserved is what its own calls make of it
abbrev pub ReservedByOwnCalls : Type 0
ReservedByOwnCalls =
    (k : Config2) (log : List Entry) (n : ℕ) → IsLegal (opening k) log
    → reservations n (run (opening k) log) ≡ reserved_by (calls_by n log) []

-- in each inbox may wait as many messages as the hub was made for
abbrev pub InboxesAreOfOneSize : Type 0
InboxesAreOfOneSize =
    (k : Config2) (log : List Entry) (c : ℕ) (ch : Channel)
    → find c (run (opening k) log).hub.channels ≡ Some ch → ch.room ≡ k.channel_buffer_size

-- a beginning of a legal history is legal
abbrev pub BeginningsAreLegal : Type 0
BeginningsAreLegal =
    (k : Config2) (before after : List Entry) → IsLegal (opening k) (before ++ after)
    → IsLegal (opening k) before

-- a hub has ended at the place of the first end in its history
abbrev pub EndsAtTheFirst : Type 0
EndsAtTheFirst = (k : Config2) (log : List Entry) → (run (opening k) log).hub.ended ≡ first_end 0 log
