-- The commands and replies that wait for the session.
use Rattle.std.specs.Prelude.{ℕ, ◌+◌, ltb, Bool, true, false}
use Rattle.std.specs.Prelude.{List, [], ◌∷◌, ◌++◌, length, Option, Some, None}
use Rattle.ssh_link.specs.declared.command.Command.{Command}
use Rattle.ssh_link.specs.declared.command.Command.TheVariants.{Data, ExtendedData, Close}
use Rattle.ssh_link.specs.declared.open_answer.OpenAnswer.{OpenAnswer}
use Rattle.ssh_hub.specs.declared.answers.Put.{Put}
use Rattle.ssh_hub.specs.declared.answers.Put.TheVariants.{
  Done as IsPut,
  Full as CommandsFull,
  Ended as PutEnded,
}
use Rattle.ssh_hub.specs.declared.answers.PutReply.{PutReply}
use Rattle.ssh_hub.specs.declared.answers.PutReply.TheVariants.{Done as ReplyIsPut}
use Rattle.ssh_hub.specs.declared.answers.PutReply.TheVariants.{
  Full as RepliesFull,
  Ended as ReplyEnded,
}
use Rattle.ssh_hub.specs.declared.answers.Taken.{Taken}
use Rattle.ssh_hub.specs.declared.answers.Taken.TheVariants.{Reply, Command as TakenCommand}
use Rattle.ssh_hub.specs.declared.queued.QueuedCommand.{QueuedCommand}
use Rattle.ssh_hub.specs.declared.queued.QueuedReply.{QueuedReply}
use Rattle.ssh_hub.specs.declared.queued.Due.{Due}
use Rattle.ssh_hub.specs.World.{Held, Channel, Map, find, with_changed}
use Rattle.ssh_hub.specs.Channels.{spending}

-- how many replies wait at most
abbrev pub reply_size : ℕ
reply_size = 64

-- the channel whose reservation a command spends
abbrev pub data_channel : Command → Option ℕ
data_channel (Data channel bytes) = Some channel.0
data_channel (ExtendedData channel ext bytes) = Some channel.0
data_channel command = None

-- the channel that a command closes
abbrev pub close_channel : Command → Option ℕ
close_channel (Close channel) = Some channel.0
close_channel command = None

abbrev pub spent_at : Map Channel → ℕ → ℕ → Option Channel → Map Channel
spent_at channels c n None = channels
spent_at channels c n (Some ch) = with_changed channels c (spending ch n)

-- what the channels are where a put of data on one of them spends n bytes
abbrev pub spent_on : Map Channel → ℕ → Option ℕ → Map Channel
spent_on channels n None = channels
spent_on channels n (Some c) = spent_at channels c n (find c channels)

-- the command waits under the next ticket, and spends n bytes
abbrev pub queued : Held → ℕ → ℕ → Command → Bool → Held
queued w seat n command wanted = record w {
  tickets = w.tickets + 1;
  commands = w.commands ++ record {
    ticket = w.tickets + 1;
    seat = seat;
    wanted = wanted;
    command = command;
  } ∷ [];
  channels = spent_on w.channels n (data_channel command);
}

abbrev pub put_open : Held → ℕ → ℕ → Command → Bool → Bool → Held × Put
put_open w seat n command wanted true = (queued w seat n command wanted, IsPut (w.tickets + 1))
put_open w seat n command wanted false = (w, CommandsFull command)

abbrev pub put_in : Held → ℕ → ℕ → Command → Bool → Option ℕ → Held × Put
put_in w seat n command wanted (Some at) = (w, PutEnded at command)
put_in w seat n command wanted None = put_open w seat n command wanted
    (ltb (length w.commands) w.command_size)

-- the reply waits under the next ticket
abbrev pub queued_reply : Held → ℕ → OpenAnswer → Held
queued_reply w seat answer = record w {
  tickets = w.tickets + 1;
  replies = w.replies ++ record { ticket = w.tickets + 1; seat = seat; answer = answer } ∷ [];
}

abbrev pub put_reply_open : Held → ℕ → OpenAnswer → Bool → Held × PutReply
put_reply_open w seat answer true = (queued_reply w seat answer, ReplyIsPut (w.tickets + 1))
put_reply_open w seat answer false = (w, RepliesFull answer)

abbrev pub put_reply_in : Held → ℕ → OpenAnswer → Option ℕ → Held × PutReply
put_reply_in w seat answer (Some at) = (w, ReplyEnded at answer)
put_reply_in w seat answer None = put_reply_open w seat answer (ltb (length w.replies) reply_size)

-- what is owed for a command
abbrev pub due_for : QueuedCommand → Due
due_for q = record {
  ticket = q.ticket;
  seat = q.seat;
  wanted = q.wanted;
  closes = close_channel q.command;
}

-- what is owed for a reply
abbrev pub due_for_reply : QueuedReply → Due
due_for_reply q = record { ticket = q.ticket; seat = q.seat; wanted = false; closes = None }

-- the first of these replies, or else the first of these commands, is taken
abbrev pub take_first : Held → List QueuedReply → List QueuedCommand → Held × Option Taken
take_first w (r ∷ rs) commands =
    (record w { replies = rs; due = Some (due_for_reply r) }, Some (Reply r.ticket r.answer))
take_first w [] (c ∷ cs) =
    (record w { commands = cs; due = Some (due_for c) }, Some (TakenCommand c.ticket c.command))
take_first w [] [] = (w, None)

-- those that are asked for
abbrev pub asked : {X : Type 0} → Bool → List X → List X
asked true items = items
asked false items = []
