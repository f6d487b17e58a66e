-- What holds of all calls that write bytes.
use Rattle.std.specs.Prelude.{◌≡◌, ℕ, List, [], ◌∷◌, ◌++◌, length, Option, Some, None}
use Rattle.std.specs.Prelude.{Result, Ok, Err}
use Rattle.ssh_wire.specs.declared.channel_id.ChannelId.{ChannelId}
use Rattle.ssh_hub.specs.declared.answers.HandleError.{HandleError}
use Rattle.ssh_hub.specs.declared.history.HubCall.{HubCall}
use Rattle.ssh_hub.specs.declared.history.HubCall.TheVariants.{PutCommand}
use Rattle.ssh_hub.specs.declared.history.HubReply.{HubReply}
use Rattle.ssh_hub.specs.Follow.{Follows}
use Rattle.ssh_handles.specs.Said.{ticket_said}
use Rattle.ssh_handles.specs.DataCommands.{bytes_in}
use Rattle.ssh_handles.specs.Writing.{Writing, writes, to_write, rest_of}

-- these bytes, where they were put
abbrev pub if_put : List ℕ → Option (Result ℕ HandleError) → List ℕ
if_put bytes (Some (Ok ticket)) = bytes
if_put bytes (Some (Err e)) = []
if_put bytes None = []

-- the bytes that a call put
abbrev pub piece_put : HubCall → HubReply → List ℕ
piece_put (PutCommand msg spend wanted) reply = if_put (bytes_in msg) (ticket_said reply)
piece_put call reply = []

-- the bytes that these calls put, in order
abbrev pub bytes_put : List (HubCall × HubReply) → List ℕ
bytes_put [] = []
bytes_put (one ∷ others) = piece_put one.0 one.1 ++ bytes_put others

-- what was put is the first part of the bytes, and what is left is the rest
abbrev pub BytesInOrder : Type 0
BytesInOrder =
    (c : ChannelId) (ext : Option ℕ) (bytes : List ℕ) (calls : List (HubCall × HubReply))
    (t : Writing)
    → Follows (writes c ext) (to_write bytes) calls t → bytes_put calls ++ rest_of t ≡ bytes
