-- The room that this side gives its peer on a channel (RFC 4254 section 5.2).
use Rattle.std.specs.Prelude.{ℕ, ◌-◌, ◌/◌, ◌&&◌, nat_le, nat_lt, Bool, cond, List, [], ◌∷◌}
use Rattle.ssh_link.specs.Frames.{Frame}
use Rattle.ssh_channels.specs.declared.params.ChannelParams.{ChannelParams}
use Rattle.ssh_channels.specs.declared.adjusted.Adjusted.{Adjusted}
use Rattle.ssh_channels.specs.declared.adjusted.Adjusted.TheVariants.{Dropped, Kept, Granted}
use Rattle.ssh_channels.specs.Layout.{adjust_frame}

-- so many bytes came in on a channel: it is established, and they are not more than the room
abbrev pub fits : (count : ℕ) → ChannelParams → Bool
fits count l = l.confirmed && nat_le count l.sender_window_size

-- the room is to be kept at target: where less than half of it, rounded down, is left, the rest of
-- it is granted
abbrev pub adjusting : (count target : ℕ) → ChannelParams → Adjusted
adjusting count target l = cond (fits count l)
    (cond (nat_lt (l.sender_window_size - count) (target / 2))
    (Granted (target - (l.sender_window_size - count))) Kept)
    Dropped

abbrev pub room_after : Adjusted → (count target : ℕ) → ChannelParams → ChannelParams
room_after Dropped count target l = l
room_after Kept count target l = record l { sender_window_size = l.sender_window_size - count }
room_after (Granted amount) count target l = record l { sender_window_size = target }

abbrev pub adjust_frames : Adjusted → (own : ℕ) → ChannelParams → List Frame
adjust_frames Dropped own l = []
adjust_frames Kept own l = []
adjust_frames (Granted amount) own l = adjust_frame own l.recipient_channel amount ∷ []

abbrev pub adjusted : (count target : ℕ) → ChannelParams → ChannelParams
adjusted count target l = room_after (adjusting count target l) count target l

abbrev pub adjusted_frames : (own count target : ℕ) → ChannelParams → List Frame
adjusted_frames own count target l = adjust_frames (adjusting count target l) own l

-- the room is filled up to so many bytes from now on
abbrev pub aimed : (target : ℕ) → ChannelParams → ChannelParams
aimed target l = record l { target = target }
