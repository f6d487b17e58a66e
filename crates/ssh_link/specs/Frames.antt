-- A frame as definitions see it, its head and its body, and the messages whose data it may share
-- (RFC 4254 section 5.2).
use Rattle.std.specs.Prelude.{◌≡◌, ◌⊎◌, ◌==◌, ◌&&◌, ◌++◌, ℕ, Bool, if◌then◌else◌, nat_eq, bytes_eq}
use Rattle.std.specs.Prelude.{Option, List, [], ◌∷◌, length, take, drop}
use Rattle.std.specs.Option.{option_eq}
use Rattle.std.specs.Cmp.{IsEquivalence, and_equiv, on_equiv, nat_eq_equiv}
use Rattle.std.specs.Cmp.Lexicographic.{options_equiv, nat_list_eq_equiv}
use Rattle.ssh_wire.specs.Messages.{written}
use Rattle.ssh_wire.specs.Messages as message
use Rattle.ssh_wire.specs.declared.channel_id.ChannelId.{ChannelId}

-- a payload for the peer, the moment before which it is not to go out, and this side's channel that
-- it was written for
pub record Frame : Type 0 where
  pub payload : List ℕ
  pub hold_until : Option ℕ
  pub channel : Option ChannelId

-- whether the two are one frame
abbrev pub are_same : Frame → Frame → Bool
are_same frame other =
    (bytes_eq frame.payload other.payload && option_eq nat_eq frame.hold_until other.hold_until)
    && option_eq (λ channel another. nat_eq channel.0 another.0) frame.channel other.channel

pub are_same-laws : IsEquivalence are_same
are_same-laws =
    and_equiv (and_equiv (on_equiv (λ frame. frame.payload) nat_list_eq_equiv)
    (on_equiv (λ frame. frame.hold_until) (options_equiv nat_eq_equiv)))
    (on_equiv (λ frame. frame.channel) (options_equiv
    (on_equiv (λ channel. channel.0) nat_eq_equiv)))

-- where a payload is cut into a head and a body: before the data of a CHANNEL_DATA, which has a
-- number, a recipient channel and the length of the data there, and of any other message behind its
-- first 13 bytes, as many as stand before the data of a CHANNEL_EXTENDED_DATA
abbrev pub cut : List ℕ → ℕ
cut [] = 13
cut (number ∷ fields) = if number == message.channel_data.number then 9 else 13

-- what stands before the cut: the whole payload where it has no more
abbrev pub head_of : List ℕ → List ℕ
head_of payload = take (cut payload) payload

-- what stands behind it
abbrev pub body_of : List ℕ → List ℕ
body_of payload = drop (cut payload) payload

-- the bytes in place and those that are shared: one of the two is empty, or they meet at the cut
abbrev pub IsParted : (in_place shared : List ℕ) → Type 0
IsParted in_place shared =
    (in_place ≡ []) ⊎ ((shared ≡ []) ⊎ (length in_place ≡ cut (in_place ++ shared)))

-- the data of a channel
abbrev pub channel_data : (recipient : ℕ) → (bytes : List ℕ) → List ℕ
channel_data recipient bytes = written message.channel_data (recipient, (bytes, tt))

-- its data of another type, as what a program writes to its standard error
abbrev pub channel_extended_data : (recipient code : ℕ) → (bytes : List ℕ) → List ℕ
channel_extended_data recipient code bytes =
    written message.channel_extended_data (recipient, (code, (bytes, tt)))
