-- The peer gets no more replies to its requests on a channel than it wanted (RFC 4254 section 5.4).
use Rattle.std.specs.Prelude.{◌≡◌, ◌≤◌, ◌+◌, ◌==◌, ◌&&◌, ℕ, List, ◌∷◌, ◌++◌, length, flat_map}
use Rattle.std.specs.Prelude.{Bool, false, not, take, drop, get_or, Option, Some, None}
use Rattle.std.specs.Int.{w32, from_be_bytes}
use Rattle.ssh_wire.specs.Messages.{channel_request}
use Rattle.ssh_link.specs.Frames.{Frame}
use Rattle.ssh_link.specs.declared.frame.InputKind.{InputKind}
use Rattle.ssh_link.specs.declared.frame.InputKind.TheVariants.{Payload}
use Rattle.ssh_auth.specs.Plan.{Event}
use Rattle.ssh_auth.specs.Publickey.{Acceptance}
use Rattle.ssh_channels.specs.Entry.{Entry}
use Rattle.ssh_channels.specs.Lines.{find}
use Rattle.ssh_channels.specs.Replies.{held}
use Rattle.ssh_channels.specs.Sent.{is_reply, is_tagged, message_of}
use Rattle.ssh_rules.specs.Answered.{how_many, sends_answer}
use Rattle.ssh_rules.specs.Run.{Turn, Run}
use Rattle.ssh_rules.specs.World.{Settings, World, opening_world}

-- a frame that replies to a request on this side's number of the channel (section 5.4)
abbrev pub is_reply_on : (number : ℕ) → Frame → Bool
is_reply_on number frame = is_tagged number frame.channel && is_reply frame

-- of the bytes behind a request's number: uint32 recipient channel, string request type, boolean
-- want reply; a boolean is false exactly at 0 (RFC 4251 section 5), and one that is not there wants
-- none
abbrev pub recipient_of : (fields : List ℕ) → ℕ
recipient_of fields = from_be_bytes w32 (take 4 fields)

abbrev pub type_length_of : (fields : List ℕ) → ℕ
type_length_of fields = from_be_bytes w32 (take 4 (drop 4 fields))

abbrev pub wanted_of : (fields : List ℕ) → Bool
wanted_of fields = not (get_or (drop 8 fields) (type_length_of fields) 0 == 0)

-- a CHANNEL_REQUEST on the channel of this number that wants a reply: it is 98 (section 5.4)
abbrev pub wants_reply_on : (number : ℕ) → InputKind → Bool
wants_reply_on number (Payload payload) =
    (message_of payload == channel_request.number)
    && ((number == recipient_of (drop 1 payload)) && wanted_of (drop 1 payload))
wants_reply_on number _ = false

abbrev pub wants_on : {E F : Type 0} → (number : ℕ) → Turn E F → Bool
wants_on number turn = wants_reply_on number turn.input.kind

-- what happened in these inputs
abbrev pub events_of : {E F : Type 0} → List (Turn E F) → List (Event E F)
events_of turns = flat_map (λ turn. turn.events) turns

-- how many replies of a channel are owed, or settled behind one that is
abbrev pub unsent_of : Option Entry → ℕ
unsent_of None = 0
unsent_of (Some e) = length (held e.replies)

-- how many replies may go out on this side's number though no further request comes: those that are
-- written and wait for the end of an exchange of keys, and those of the channel that are not
abbrev pub replies_left : (number : ℕ) → World → ℕ
replies_left number w = how_many (is_reply_on number) w.channels.lines.written
    + unsent_of (find number w.channels.lines.entries)

-- in these inputs, taken one after another behind those before, no more replies are sent on a
-- number than were left there, and than requests on it have come in them that want one
pub record IsRepaid {E F : Type 0} (accepts : Acceptance) (settings : Settings)
    (before span : List (Turn E F)) : Type 0 where
  pub world : World
  pub run : Run accepts (opening_world settings) before world
  pub within : (number : ℕ) → how_many (sends_answer (is_reply_on number)) (events_of span)
      ≤ replies_left number world + how_many (wants_on number) span

pub record Replied {E F : Type 0} (accepts : Acceptance) (settings : Settings)
    (turns : List (Turn E F)) : Type 0 where
  -- after each input, and so at every moment, no more replies were sent on a number than requests
  -- on it have come that want one
  pub never_more : (past more : List (Turn E F)) → turns ≡ past ++ more → (number : ℕ)
      → how_many (sends_answer (is_reply_on number)) (events_of past) ≤ how_many (wants_on number) past
  -- and from each input on no more than were left before it, and than have come since
  pub since : (before span more : List (Turn E F)) (turn : Turn E F)
      → turns ≡ before ++ turn ∷ (span ++ more) → IsRepaid accepts settings before (turn ∷ span)
