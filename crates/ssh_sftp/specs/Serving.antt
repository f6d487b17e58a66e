-- A file server on a channel: what the seats of the two halves asked of the hub, and what that
-- brought and sent.
use Rattle.std.specs.Prelude.{◌≡◌, ◌⊎◌, ℕ, List, [], ◌∷◌, ◌++◌, map, drop, length, flat_map}
use Rattle.std.specs.Prelude.{true, false, Option, Some, None, Result, Ok, Err}
use Rattle.std.specs.List.{AllByRecursion}
use mathlib.Core.List.{IsPrefix}
use Rattle.ssh_wire.specs.declared.channel_id.ChannelId.{ChannelId}
use Rattle.ssh_link.specs.declared.command.Command.TheVariants.{Data}
use Rattle.ssh_link.specs.declared.notice.ChannelMsg.{ChannelMsg}
use Rattle.ssh_link.specs.declared.notice.ChannelMsg.TheVariants.{Data as DataMsg, Eof, Close}
use Rattle.ssh_hub.specs.History.{calls_by}
use Rattle.ssh_hub.specs.Does.{Does}
use Rattle.ssh_hub.specs.declared.history.HubCall.{HubCall}
use Rattle.ssh_hub.specs.declared.history.HubCall.TheVariants.{ReceiveMsg, LookAt, ReserveBytes}
use Rattle.ssh_hub.specs.declared.history.HubCall.TheVariants.{PutCommand, ReleaseBytes}
use Rattle.ssh_hub.specs.declared.history.HubReply.{HubReply}
use Rattle.ssh_hub.specs.declared.answers.HandleError.{HandleError}
use Rattle.ssh_hub.specs.declared.history.View.{View}
use Rattle.ssh_handles.specs.declared.channel.Channel.{Channel}
use Rattle.ssh_handles.specs.Handles.{reader_hub, reader_view, reader_id}
use Rattle.ssh_handles.specs.Handles.{writer_hub, writer_view, writer_id}
use Rattle.ssh_handles.specs.Said.{message_said}
use Rattle.ssh_handles.specs.Written.{bytes_put}
use Rattle.ssh_handles.specs.Writing.{Writes}
use Rattle.ssh_sftp.specs.declared.error.SftpError.{SftpError}
use Rattle.ssh_sftp.specs.declared.error.SftpError.TheVariants as error
use Rattle.ssh_sftp.specs.declared.serve.Heard.{Heard}
use Rattle.ssh_sftp.specs.declared.serve.Heard.TheVariants as heard
use Rattle.ssh_sftp.specs.Packets.{IsPartial}
use Rattle.ssh_sftp.specs.Replies.{Server, Serves, Refuses, HasFault, EndsInside, IsWhole}
use Rattle.ssh_sftp.specs.Replies.{stream_of, answers_of, after_all}

-- both halves are of the same hub and of the same channel as before
pub record IsSameChannel (old new : Channel) : Type 0 where
  pub read_hub : reader_hub new.read ≡ reader_hub old.read
  pub read_id : reader_id new.read ≡ reader_id old.read
  pub write_hub : writer_hub new.write ≡ writer_hub old.write
  pub write_id : writer_id new.write ≡ writer_id old.write

-- the calls that a seat made between two views of it, with their answers
abbrev pub calls_made : (v w : View) → List (HubCall × HubReply)
calls_made v w = map (λ e. (e.call, e.reply))
    (drop (length (calls_by v.number v.seen)) (calls_by v.number w.seen))

-- those of the half that reads, and of the half that writes
abbrev pub reader_calls : (old new : Channel) → List (HubCall × HubReply)
reader_calls old new = calls_made (reader_view old.read) (reader_view new.read)

abbrev pub writer_calls : (old new : Channel) → List (HubCall × HubReply)
writer_calls old new = calls_made (writer_view old.write) (writer_view new.write)

-- what a message is to a file server: data of its client, the end of them where the client sends
-- no more, the channel is closed or no message can come, or nothing
abbrev pub heard_in : Option ChannelMsg → Heard
heard_in (Some (DataMsg bytes)) = heard.Data bytes
heard_in (Some Eof) = heard.End
heard_in (Some Close) = heard.End
heard_in (Some msg) = heard.Nothing
heard_in None = heard.End

abbrev pub data_heard : Heard → List ℕ
data_heard (heard.Data bytes) = bytes
data_heard heard.End = []
data_heard heard.Nothing = []

-- the data in what an answer says
abbrev pub data_said : Option (Option ChannelMsg) → List ℕ
data_said None = []
data_said (Some msg) = data_heard (heard_in msg)

-- the data that these calls received
abbrev pub data_received : List (HubCall × HubReply) → List ℕ
data_received calls = flat_map (λ one. data_said (message_said one.1)) calls

-- the last of these calls brought the end of the data
pub record IsAtEnd (calls : List (HubCall × HubReply)) : Type 0 where
  pub before : List (HubCall × HubReply)
  pub last : HubCall × HubReply
  pub are : calls ≡ before ++ last ∷ []
  pub msg : Option ChannelMsg
  pub says : message_said last.1 ≡ Some msg
  pub ends : heard_in msg ≡ heard.End

-- the data that were received on a channel, and those that were put there
abbrev pub received : (old new : Channel) → List ℕ
received old new = data_received (reader_calls old new)

abbrev pub put : (old new : Channel) → List ℕ
put old new = bytes_put (writer_calls old new)

-- the seat made these calls alone, and each asks for a message of the channel
pub record Hears (c : ChannelId) (v : View) (calls : List (HubCall × HubReply)) (w : View)
    : Type 0 where
  pub does : Does v calls w
  pub each : AllByRecursion (λ one. one.0 ≡ ReceiveMsg c) calls

-- a call that sends data on the channel: it puts no command but data there
abbrev pub SendsData : ChannelId → HubCall → Type 0
SendsData c (LookAt d) = d ≡ c
SendsData c (ReserveBytes d n) = d ≡ c
SendsData c (PutCommand msg spend wanted) = (bytes : List ℕ) × (msg ≡ Data c bytes)
SendsData c (ReleaseBytes d n) = d ≡ c
SendsData c call = ⊥

-- the seat made these calls alone, and each sends data on the channel
pub record Says (c : ChannelId) (v : View) (calls : List (HubCall × HubReply)) (w : View)
    : Type 0 where
  pub does : Does v calls w
  pub each : AllByRecursion (λ one. SendsData c one.0) calls

-- the next data were waited for, or their end
abbrev pub HearsNext : ChannelId → View → Option (List ℕ) → View → Type 0
HearsNext c v (Some bytes) w = (calls : List (HubCall × HubReply)) × Hears c v calls w
    × (data_received calls ≡ bytes)
HearsNext c v None w = (calls : List (HubCall × HubReply)) × Hears c v calls w
    × (data_received calls ≡ []) × IsAtEnd calls

-- a call that sends data came to this error
abbrev pub HasFailed : ChannelId → HandleError → View → Type 0
HasFailed c e w = (bytes : List ℕ) × (x : View) × Writes c None bytes x (Err e) w

-- why bytes were not sent
abbrev pub IsUnsent : ChannelId → SftpError → View → Type 0
IsUnsent c error.NoMemory w = Unit {0}
IsUnsent c (error.Handle e) w = HasFailed c e w
IsUnsent c why w = ⊥

-- these bytes were sent, or the first of them
abbrev pub Sends : ChannelId → List ℕ → View → Result (Unit {0}) SftpError → View → Type 0
Sends c bytes v (Ok done) w = (calls : List (HubCall × HubReply)) × Says c v calls w
    × (bytes_put calls ≡ bytes)
Sends c bytes v (Err why) w = (calls : List (HubCall × HubReply)) × Says c v calls w
    × IsPrefix (bytes_put calls) bytes × IsUnsent c why w

-- a piece was taken, or refused, and these are the answers
abbrev pub IsTaken : Server → List ℕ → ChannelId → SftpError → Server → View → List ℕ → Type 0
IsTaken before piece c why after w out =
    Refuses before.files (stream_of before piece) why [] out
    ⊎ (Serves before.files (stream_of before piece) after.files after.rest [] out
    × IsUnsent c why w)

-- a piece was taken, and its answers were sent; or one or the other came to an error, and the first
-- of its answers were sent
abbrev pub Answers : Server → List ℕ → ChannelId → View → Result (Unit {0}) SftpError → Server → View
    → Type 0
Answers before piece c v (Ok done) after w = (calls : List (HubCall × HubReply)) × Says c v calls w
    × Serves before.files (stream_of before piece) after.files after.rest [] (bytes_put calls)
    × IsPartial after.rest × (after.failed ≡ false)
Answers before piece c v (Err why) after w = (calls : List (HubCall × HubReply)) × (out : List ℕ)
    × Says c v calls w × IsPrefix (bytes_put calls) out
    × IsTaken before piece c why after w out

-- why a channel is not served to its end
abbrev pub IsStoppedBy : SftpError → Server → (old new : Channel) → Type 0
IsStoppedBy error.NoMemory server old new = Unit {0}
IsStoppedBy (error.Cut left) server old new = IsAtEnd (reader_calls old new)
    × EndsInside (stream_of server (received old new)) left
IsStoppedBy (error.Handle e) server old new = HasFailed (writer_id old.write) e (writer_view new.write)
IsStoppedBy error.Failed server old new = server.failed ≡ true
IsStoppedBy why server old new = HasFault (stream_of server (received old new)) why

-- what the end of the data is answered, and by what serving stopped
abbrev pub EndsBy : Result (Unit {0}) SftpError → (before after : Server) → (old new : Channel)
    → (heard said : List (HubCall × HubReply)) → Type 0
EndsBy (Ok done) before after old new heard said = IsAtEnd heard
    × (after ≡ after_all before (data_received heard))
    × IsWhole (stream_of before (data_received heard))
    × (bytes_put said ≡ answers_of before (data_received heard))
EndsBy (Err (error.Cut left)) before after old new heard said = IsAtEnd heard
    × EndsInside (stream_of before (data_received heard)) left
EndsBy (Err error.NoMemory) before after old new heard said = Unit {0}
EndsBy (Err (error.Handle e)) before after old new heard said =
    HasFailed (writer_id old.write) e (writer_view new.write)
EndsBy (Err error.Failed) before after old new heard said = ⊥
EndsBy (Err why) before after old new heard said =
    HasFault (stream_of before (data_received heard)) why

-- a channel was served: what the seats of its halves asked of the hub, and how it ended
pub record IsServed (before : Server) (old : Channel) (result : Result (Unit {0}) SftpError)
    (after : Server) (new : Channel) : Type 0 where
  pub heard : List (HubCall × HubReply)
  pub said : List (HubCall × HubReply)
  pub hears : Hears (reader_id old.read) (reader_view old.read) heard (reader_view new.read)
  pub says : Says (writer_id old.write) (writer_view old.write) said (writer_view new.write)
  pub front : IsPrefix (bytes_put said) (answers_of before (data_received heard))
  pub ends : EndsBy result before after old new heard said
