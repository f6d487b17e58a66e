-- The calls of a table as the standard sees them: what each makes of the channels, and what it
-- answers (RFC 4254 section 5).
use Rattle.std.specs.Prelude.{◌≡◌, ◌<◌, ◌-◌, ◌^◌, ◌==◌, ℕ, Bool, true, false, not, cond, [], ◌∷◌}
use Rattle.std.specs.Prelude.{length, Option, Some, None, is_some}
use Rattle.std.specs.List.{list_any}
use Rattle.std.specs.Ordering.{nat_cmp}
use Rattle.std.specs.BTreeMap.{is_at}
use Rattle.ssh_channels.specs.declared.params.ChannelParams.{ChannelParams}
use Rattle.ssh_channels.specs.declared.adjusted.Adjusted.{Adjusted}
use Rattle.ssh_channels.specs.declared.adjusted.Adjusted.TheVariants as adjusted
use Rattle.ssh_channels.specs.Line.{established}
use Rattle.ssh_channels.specs.Calls.{Op, Byte, Send, Eof, Close, Peer_close, Flush_line, Flush_all}
use Rattle.ssh_channels.specs.Calls.{Grant, Adjust, Draw}
use Rattle.ssh_channels.specs.Calls.{Open_next, Accept_next, Drop_pending, Insert, Confirm}
use Rattle.ssh_channels.specs.Calls.{Fail_open}
use Rattle.ssh_channels.specs.Calls.{Set_target, Request, Settle, Stage}
use Rattle.ssh_channels.specs.Paths.{Answer, Done, Accepts, Framed, Credit, Room, Number, Place}
use Rattle.ssh_channels.specs.Paths.{Refused}
use Rattle.ssh_channels.specs.Entry.{Entry, opened, more_may_come, close_may_come, flushed}
use Rattle.ssh_channels.specs.Entry.{granting, reply_may_come}
use Rattle.ssh_channels.specs.Room.{coming}
use Rattle.ssh_channels.specs.Lines.{Lines, find, write, takes_data, takes_eof, takes_close}
use Rattle.ssh_channels.specs.Lines.{peer_closes, goes_on}
use Rattle.ssh_channels.specs.Lines.{all_go_on, takes_grant, takes_in, says, aims}
use Rattle.ssh_channels.specs.Lines.{takes_request, takes_reply, confirms, fails}
use Rattle.ssh_channels.specs.Lines.{next_number, draws}
use Rattle.ssh_channels.specs.Lines.{drops_pending, asks_next, accepts_next, adds}
use Rattle.ssh_channels.specs.Layout.{bare_frame}
use Rattle.ssh_channels.specs.Sent.{is_beside, may_stage}

-- the channel that established params are
abbrev pub entry_of : ChannelParams → Entry
entry_of line =
    opened line.sender_channel.0 line.recipient_channel line.recipient_window_size
    line.sender_window_size
    line.recipient_maximum_packet_size line.sender_maximum_packet_size

-- a packet size of 0 is refused
abbrev pub unless_zero : (packet : ℕ) → (Lines → Lines) → Lines → Lines
unless_zero packet call l = cond (packet == 0) l (call l)

abbrev pub does : Op → Lines → Lines
does (Byte n message) = says n message
does (Send n chunk is_rekeying) = takes_data n chunk is_rekeying
does (Eof n) = takes_eof n
does (Close n) = takes_close n
does (Peer_close n) = peer_closes n
does (Flush_line n is_rekeying) = goes_on n
does (Flush_all is_rekeying) = all_go_on
does (Grant n amount) = takes_grant n amount
does (Adjust n count target) = takes_in n count target
does Draw = draws
does (Open_next window packet) = asks_next window packet
does (Accept_next peer window room packet own_packet) =
    unless_zero packet (accepts_next peer window room packet own_packet)
does (Drop_pending n) = drops_pending n
does (Insert line) = unless_zero line.recipient_maximum_packet_size (adds (entry_of line))
does (Confirm msg) = unless_zero msg.maximum_packet_size
    (confirms msg.recipient_channel msg.sender_channel msg.initial_window_size
    msg.maximum_packet_size)
does (Fail_open n) = fails n
does (Set_target n target) = aims n target
does (Request n) = takes_request n
does (Settle n place success) = takes_reply n place success
does (Stage frame) = write (frame ∷ [])

-- the channel of that number is there, and of this kind
abbrev pub is_one : (Entry → Bool) → Option Entry → Bool
is_one test None = false
is_one test (Some e) = test e

abbrev pub has : (Entry → Bool) → ℕ → Lines → Bool
has test n l = is_one test (find n l.entries)

-- how many bytes go out when it goes on
abbrev pub goes_out : Option Entry → ℕ
goes_out None = 0
goes_out (Some e) = (flushed e).framed - e.framed

-- what the peer has granted and not got, after one more grant
abbrev pub credit_after : (amount : ℕ) → Option Entry → Option ℕ
credit_after amount None = None
credit_after amount (Some e) = cond e.confirmed
    (Some ((flushed (granting amount e)).granted - (flushed (granting amount e)).framed))
    None

abbrev pub coming_of : (count target : ℕ) → Option Entry → Adjusted
coming_of count target None = adjusted.Dropped
coming_of count target (Some e) = coming count target e

-- the place of a reply that one more request wants
abbrev pub place_of : Option Entry → Option ℕ
place_of None = None
place_of (Some e) = cond e.confirmed (Some (length e.replies)) None

abbrev pub answers : Op → Lines → Answer
answers (Byte n message) l = Accepts (has (λ e. e.confirmed) n l)
answers (Send n chunk is_rekeying) l = Accepts (has more_may_come n l)
answers (Eof n) l = Accepts (has more_may_come n l)
answers (Close n) l = Accepts (has close_may_come n l)
answers (Peer_close n) l = Accepts (has (λ e. e.confirmed) n l)
answers (Flush_line n is_rekeying) l = Framed (goes_out (find n l.entries))
answers (Flush_all is_rekeying) l = Done
answers (Grant n amount) l = Credit (credit_after amount (find n l.entries))
answers (Adjust n count target) l = Room (coming_of count target (find n l.entries))
answers Draw l = Number (next_number l)
answers (Open_next window packet) l = Number (next_number l)
answers (Accept_next peer window room packet own_packet) l =
    cond (packet == 0) Refused (Number (next_number l))
answers (Drop_pending n) l = Accepts (list_any (is_at (nat_cmp n)) l.pending)
answers (Insert line) l = cond (line.recipient_maximum_packet_size == 0) Refused
    (Accepts (not (is_some (find line.sender_channel.0 l.entries))))
answers (Confirm msg) l = cond (msg.maximum_packet_size == 0) Refused
    (Accepts (has (λ e. not e.confirmed) msg.recipient_channel l))
answers (Fail_open n) l = Accepts (has (λ e. not e.confirmed) n l)
answers (Set_target n target) l = Accepts (is_some (find n l.entries))
answers (Request n) l = Place (place_of (find n l.entries))
answers (Settle n place success) l = Accepts (has (reply_may_come place) n l)
answers (Stage frame) l = Done

-- what a caller hands in: established params, and windows that are numbers of four bytes
abbrev pub IsMeant : Op → Type 0
IsMeant (Insert line) = (peer room packet own_packet window : ℕ) × (window < 2 ^ 32)
    × (line ≡ established peer line.sender_channel window room packet own_packet)
IsMeant (Accept_next peer window room packet own_packet) = window < 2 ^ 32
IsMeant (Confirm msg) = msg.initial_window_size < 2 ^ 32
IsMeant (Set_target n target) = target < 2 ^ 32
IsMeant _ = Unit {0}

-- calls after which what was sent is still what has to be; a channel comes together with the
-- message that opens it, so the three calls that bring one are not among them
abbrev pub IsFair : Op → Lines → Type 0
IsFair (Byte n message) l = is_beside (bare_frame message n 0) ≡ true
IsFair (Open_next window packet) l = ⊥
IsFair (Accept_next peer window room packet own_packet) l = ⊥
IsFair (Insert line) l = ⊥
IsFair (Confirm msg) l = msg.initial_window_size < 2 ^ 32
IsFair (Set_target n target) l = target < 2 ^ 32
IsFair (Stage frame) l = may_stage frame l ≡ true
IsFair _ l = Unit {0}

-- a call as it is made where no exchange runs
abbrev pub is_idle : Op → Bool
is_idle (Send n chunk is_rekeying) = not is_rekeying
is_idle o = true
