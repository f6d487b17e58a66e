-- Which channel a call is about (RFC 4254 section 5).
use Rattle.std.specs.Prelude.{ℕ, ◌==◌, Bool, true, false, Option, Some, None}
use Rattle.ssh_channels.specs.Calls.{Op, Byte, Send, Eof, Close, Peer_close, Flush_line, Flush_all}
use Rattle.ssh_channels.specs.Calls.{Grant, Adjust, Draw}
use Rattle.ssh_channels.specs.Calls.{Open_next, Accept_next, Drop_pending, Insert, Confirm}
use Rattle.ssh_channels.specs.Calls.{Fail_open, Set_target, Request, Settle, Stage}

abbrev pub is_this : (n : ℕ) → Option ℕ → Bool
is_this n None = false
is_this n (Some m) = n == m

-- the channel n is the one that the call names, or that it brings under the next number
abbrev pub is_about : (n : ℕ) → (next : Option ℕ) → Op → Bool
is_about n next (Byte k message) = n == k
is_about n next (Send k chunk is_rekeying) = n == k
is_about n next (Eof k) = n == k
is_about n next (Close k) = n == k
is_about n next (Peer_close k) = n == k
is_about n next (Flush_line k is_rekeying) = n == k
is_about n next (Flush_all is_rekeying) = true
is_about n next (Grant k amount) = n == k
is_about n next (Adjust k count target) = n == k
is_about n next Draw = false
is_about n next (Open_next window packet) = is_this n next
is_about n next (Accept_next peer window room packet own_packet) = is_this n next
is_about n next (Drop_pending k) = false
is_about n next (Insert line) = n == line.sender_channel.0
is_about n next (Confirm msg) = n == msg.recipient_channel
is_about n next (Fail_open k) = n == k
is_about n next (Set_target k target) = n == k
is_about n next (Request k) = n == k
is_about n next (Settle k place success) = n == k
is_about n next (Stage frame) = false
