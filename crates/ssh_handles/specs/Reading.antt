-- What a reader that does not wait finds, and hands out.
use Rattle.std.specs.Prelude.{◌≡◌, ℕ, ◌==◌, min, Bool, true, false, is_none}
use Rattle.std.specs.Prelude.{List, [], ◌∷◌, length, take, drop, Option, Some, None, Result, Ok, Err}
use Rattle.ssh_wire.specs.declared.channel_id.ChannelId.{ChannelId}
use Rattle.ssh_link.specs.declared.notice.ChannelMsg.{ChannelMsg}
use Rattle.ssh_link.specs.declared.notice.ChannelMsg.TheVariants.{
  Data as DataMsg,
  ExtendedData as ExtendedMsg,
  Eof,
  Close,
}
use Rattle.ssh_hub.specs.declared.answers.HandleError.{HandleError}
use Rattle.ssh_hub.specs.declared.answers.Received.TheVariants.{
  Msg,
  Nothing as InboxEmpty,
  Closed,
  Ended as InboxEnded,
}
use Rattle.ssh_hub.specs.declared.history.HubCall.TheVariants.{ReceiveMsg}
use Rattle.ssh_hub.specs.declared.history.HubReply.{HubReply}
use Rattle.ssh_hub.specs.declared.history.HubReply.TheVariants.{HasReceived}
use Rattle.ssh_hub.specs.declared.history.View.{View}
use Rattle.ssh_handles.specs.declared.poll.Poll.{Poll}
use Rattle.ssh_handles.specs.declared.poll.Poll.TheVariants.{Ready, Pending}
use Rattle.ssh_handles.specs.declared.poll.Why.TheVariants.{NothingThere}
use Rattle.ssh_handles.specs.declared.reader.Found.{Found}
use Rattle.ssh_handles.specs.declared.reader.Found.TheVariants.{Data, End, Nothing}
use Rattle.ssh_handles.specs.Tries.{Tries}

-- data of the kind that is read, where they are not empty
abbrev pub some_data : Bool → List ℕ → Option Found
some_data true (b ∷ bs) = Some (Data (b ∷ bs))
some_data true [] = None
some_data false bytes = None

-- whether data of this type are those that are read
abbrev pub is_kind : ℕ → Option ℕ → Bool
is_kind kind None = false
is_kind kind (Some ext) = ext == kind

-- what a message is to the reader; none where it is passed over
abbrev pub found_in : Option ℕ → ChannelMsg → Option Found
found_in ext (DataMsg bytes) = some_data (is_none ext) bytes
found_in ext (ExtendedMsg bytes kind) = some_data (is_kind kind ext) bytes
found_in ext Eof = Some End
found_in ext Close = Some End
found_in ext msg = None

abbrev pub found_said : Option ℕ → HubReply → Option Found
found_said ext (HasReceived (Msg msg)) = found_in ext msg
found_said ext (HasReceived InboxEmpty) = Some Nothing
found_said ext (HasReceived Closed) = Some End
found_said ext (HasReceived (InboxEnded at)) = Some End
found_said ext reply = None

-- what is there to be read: what was not used up; or else, where the data are not at their end, what
-- the inbox has
abbrev pub Finds : ChannelId → Option ℕ → List ℕ → Bool → View → Found → View → Type 0
Finds c ext (b ∷ bs) over v found w = (found ≡ Data (b ∷ bs)) × (w ≡ v)
Finds c ext [] true v found w = (found ≡ End) × (w ≡ v)
Finds c ext [] false v found w = Tries (ReceiveMsg c) (found_said ext) v found w

-- of what was found, this is handed out, and that is left
abbrev pub HandsOut : Found → List ℕ → Poll (Result ℕ HandleError) → List ℕ → Bool → List ℕ → Type 0
HandsOut (Data bytes) buf answer unread over buf' =
    let n = min (length bytes) (length buf) in
    (answer ≡ Ready (Ok n)) × (unread ≡ drop n bytes) × (take n buf' ≡ take n bytes)
HandsOut End buf answer unread over buf' = (answer ≡ Ready (Ok 0)) × (unread ≡ []) × (over ≡ true)
HandsOut Nothing buf answer unread over buf' =
    (answer ≡ Pending NothingThere) × (unread ≡ []) × (over ≡ false)

-- no error is answered
abbrev pub IsNoError : Poll (Result ℕ HandleError) → Type 0
IsNoError (Ready (Ok n)) = Unit {0}
IsNoError (Ready (Err e)) = ⊥
IsNoError (Pending why) = why ≡ NothingThere
