-- What one command does, or why it is refused (RFC 4254 section 5).
use Rattle.std.specs.Prelude.{◌^◌, ◌||◌, ℕ, List, [], ◌∷◌, length, nat_le, codes, true, false}
use Rattle.std.specs.Prelude.{if◌then◌else◌, Bool, Option, Some, None}
use Rattle.ssh_wire.specs.declared.channel_id.ChannelId.{ChannelId}
use Rattle.ssh_wire.specs.declared.open_failure.ChannelOpenFailure.{ChannelOpenFailure}
use Rattle.ssh_wire.specs.Open.{open_failure}
use Rattle.ssh_wire.specs.Messages.{written, request_success, request_failure}
use Rattle.ssh_wire.specs.OpenFailures.{open_failure_code, open_failure_text}
use Rattle.ssh_link.specs.declared.command.Command.{Command}
use Rattle.ssh_link.specs.declared.command.Command.TheVariants as command
use Rattle.ssh_link.specs.declared.notice.Notice.{Notice}
use Rattle.ssh_link.specs.declared.notice.Notice.TheVariants.{Ready}
use Rattle.ssh_link.specs.declared.open_answer.OpenAnswer.{OpenAnswer}
use Rattle.ssh_link.specs.declared.outcome.CommandOutcome.{CommandOutcome}
use Rattle.ssh_link.specs.declared.outcome.CommandOutcome.TheVariants.{Accepted, Opened, Refused}
use Rattle.ssh_link.specs.declared.outcome.Refusal.{Refusal}
use Rattle.ssh_link.specs.declared.outcome.Refusal.TheVariants.{UnknownChannel, UnknownOpen}
use Rattle.ssh_link.specs.declared.outcome.Refusal.TheVariants.{NotConfirmed, SendingEnded, TooLong}
use Rattle.ssh_link.specs.declared.outcome.Refusal.TheVariants.{NotAuthenticated, NumbersFull}
use Rattle.ssh_link.specs.declared.outcome.Refusal.TheVariants.{Disconnected, ClientOnly}
use Rattle.ssh_channels.specs.declared.chunk.DataKind.TheVariants.{Plain, Extended}
use Rattle.ssh_channels.specs.Entry.{Entry, opened}
use Rattle.ssh_channels.specs.Layout.{chunk, on_channel}
use Rattle.ssh_channels.specs.Lines.{find, takes_data, takes_eof, takes_close, adds_with}
use Rattle.ssh_channels.specs.Lines.{drops_pending}
use Rattle.ssh_channels.specs.Lines.{asks_next, next_number}
use Rattle.ssh_rules.specs.declared.state.EncryptedState.{EncryptedState}
use Rattle.ssh_rules.specs.declared.state.EncryptedState.TheVariants.{InitCompression}
use Rattle.ssh_rules.specs.declared.state.EncryptedState.TheVariants.{Authenticated}
use Rattle.ssh_rules.specs.OwnOpens.{OwnOpen, own_open_of, open_payload, open_frame}
use Rattle.ssh_rules.specs.Opening.{Opening}
use Rattle.ssh_rules.specs.Opens.{opening_of, decided, confirmation_frame, failure_frame}
use Rattle.ssh_rules.specs.OwnRequests.{OwnRequest, request_payload, xon_xoff, exit_status}
use Rattle.ssh_rules.specs.OwnRequests.{exit_signal}
use Rattle.ssh_rules.specs.Layout.{at_once}
use Rattle.ssh_rules.specs.OwnMessages.{OwnMessage, forward_request, cancel, keepalive, ping, debug}
use Rattle.ssh_rules.specs.OwnMessages.{disconnect_message}
use Rattle.ssh_rules.specs.World.{World, ChannelRequest, in_exchange, lined, writes, awaits}
use Rattle.ssh_rules.specs.World.{ends_by, settles_for, settles_global}

-- what a command needs, to be done
pub data Need : Type 0 where
  -- a channel on which more may be sent, or that may be closed (section 5.3)
  Sending : (channel : ChannelId) → Need
  Closing : (channel : ChannelId) → Need
  -- a channel that both sides agreed to (section 5.4)
  Established : (channel : ChannelId) → Need
  -- an open of the peer's that waits for its answer (section 5.1)
  Opening_of : (channel : ChannelId) → Need
  -- a user who was let in (RFC 4252 section 6)
  Needs_user : Need
  -- that this side is a client, which it is not
  Client : Need
  -- nothing
  Needs_nothing : Need

-- a command that opens a channel needs a user
abbrev pub opens_need : Option OwnOpen → Need
opens_need None = Needs_nothing
opens_need (Some asked) = Needs_user

-- a command that concerns no channel that is there: one line a command
abbrev pub apart_needs : Command → Need
apart_needs (command.TcpipForward address port reply) = Needs_user
apart_needs (command.CancelTcpipForward address port reply) = Needs_user
apart_needs (command.ClientOnly channel message) = Client
apart_needs other = opens_need (own_open_of other)

-- one line a command
abbrev pub needs : Command → Need
needs (command.Data channel bytes) = Sending channel
needs (command.ExtendedData channel code bytes) = Sending channel
needs (command.Eof channel) = Sending channel
needs (command.Close channel) = Closing channel
needs (command.ChannelSuccess channel) = Established channel
needs (command.ChannelFailure channel) = Established channel
needs (command.XonXoff channel client_can_do) = Established channel
needs (command.ExitStatus channel status) = Established channel
needs (command.ExitSignal channel signal core message language) = Established channel
needs (command.Answer answer) = Opening_of answer.channel
needs other = apart_needs other

-- what keeps a channel from being used: the peer has not confirmed it, or what is asked for was
-- ended
abbrev pub not_usable : (confirmed ended : Bool) → Option Refusal
not_usable false ended = Some NotConfirmed
not_usable true true = Some SendingEnded
not_usable true false = None

abbrev pub no_sending : Option Entry → Option Refusal
no_sending None = Some UnknownChannel
no_sending (Some e) = not_usable e.confirmed (e.eof || e.close)

abbrev pub no_closing : Option Entry → Option Refusal
no_closing None = Some UnknownChannel
no_closing (Some e) = not_usable e.confirmed e.close

abbrev pub no_established : Option Entry → Option Refusal
no_established None = Some UnknownChannel
no_established (Some e) = not_usable e.confirmed false

abbrev pub no_open : Option Opening → Option Refusal
no_open None = Some UnknownOpen
no_open (Some opening) = None

-- nobody was let in yet
abbrev pub no_user : EncryptedState → Option Refusal
no_user InitCompression = None
no_user Authenticated = None
no_user _ = Some NotAuthenticated

-- what is missing, where something is
abbrev pub lacks : World → Need → Option Refusal
lacks w (Sending channel) = no_sending (find channel.0 w.channels.lines.entries)
lacks w (Closing channel) = no_closing (find channel.0 w.channels.lines.entries)
lacks w (Established channel) = no_established (find channel.0 w.channels.lines.entries)
lacks w (Opening_of channel) = no_open (opening_of channel.0 w)
lacks w Needs_user = no_user w.user.state
lacks w Client = Some ClientOnly
lacks w Needs_nothing = None

-- the description of a refusal and its language: those of the answer, or that of its reason in
-- English
abbrev pub description_of : ChannelOpenFailure → Option (List ℕ × List ℕ) → List ℕ
description_of reason None = open_failure_text reason
description_of reason (Some texts) = texts.0

abbrev pub language_of : Option (List ℕ × List ℕ) → List ℕ
language_of None = codes "en"
language_of (Some texts) = texts.1

-- the payload of a refusal
abbrev pub failure_of : Opening → ChannelOpenFailure → Option (List ℕ × List ℕ) → List ℕ
failure_of opening reason texts =
    open_failure opening.peer (open_failure_code reason) (description_of reason texts)
    (language_of texts)

-- a payload has at most 2^32 - 1 bytes (RFC 4253 section 6)
abbrev pub is_too_long : List ℕ → Bool
is_too_long payload = nat_le (2 ^ 32) (length payload)

-- these notices are given, this is the answer, and this is the world from then on
pub data Effect : Type 0 where
  Brings : (notices : List Notice) → (outcome : CommandOutcome) → (world : World) → Effect

abbrev pub accepts : World → Effect
accepts w = Brings [] Accepted w

abbrev pub refuses : Refusal → World → Effect
refuses why w = Brings [] (Refused why) w

-- the open becomes a channel (section 5.1)
abbrev pub confirms : (number : ℕ) → Opening → World → Effect
confirms number opening w = Brings
    (Ready (record { 0 = number }) opening.window opening.packet ∷ [])
    Accepted
    (lined (adds_with (confirmation_frame number opening.peer w.settings.config.window_size
    w.settings.config.maximum_packet_size)
    (opened number opening.peer opening.window w.settings.config.window_size opening.packet
    w.settings.config.maximum_packet_size)) (decided number w))

-- the open is refused (section 5.1)
abbrev pub fails_open : (number : ℕ) → (payload : List ℕ) → World → Effect
fails_open number payload w = if is_too_long payload
    then refuses TooLong w
    else accepts (writes (failure_frame number payload ∷ [])
    (lined (drops_pending number) (decided number w)))

abbrev pub decides : (number : ℕ) → Opening → Option ChannelOpenFailure → Option (List ℕ × List ℕ)
    → World → Effect
decides number opening None texts w = confirms number opening w
decides number opening (Some reason) texts w = fails_open number (failure_of opening reason texts) w

abbrev pub decides_open : OpenAnswer → Option Opening → World → Effect
decides_open answer None w = accepts w
decides_open answer (Some opening) w = decides answer.channel.0 opening answer.rejection answer.texts w

-- this side's open draws the next number and is written (section 5.1)
abbrev pub opens_at : (number : Option ℕ) → OwnOpen → World → Effect
opens_at None asked w = refuses NumbersFull w
opens_at (Some number) asked w = Brings [] (Opened (record { 0 = number }))
    (writes (open_frame asked number w.settings.config.window_size
    w.settings.config.maximum_packet_size ∷ [])
    (lined (asks_next w.settings.config.window_size w.settings.config.maximum_packet_size) w))

abbrev pub opens : OwnOpen → World → Effect
opens asked w = if is_too_long (open_payload asked 0 w.settings.config.window_size
    w.settings.config.maximum_packet_size)
    then refuses TooLong w
    else opens_at (next_number w.channels.lines) asked w

abbrev pub opens_or_not : Option OwnOpen → World → Effect
opens_or_not None w = accepts w
opens_or_not (Some asked) w = opens asked w

-- a request of this side's goes to the peer, and wants no reply (section 5.4)
abbrev pub requests_on : Option Entry → (channel : ChannelId) → OwnRequest → World → Effect
requests_on None channel asked w = accepts w
requests_on (Some e) channel asked w =
    accepts (writes (on_channel channel.0 (request_payload e.peer asked) ∷ []) w)

abbrev pub requests : (channel : ChannelId) → OwnRequest → World → Effect
requests channel asked w = if is_too_long (request_payload 0 asked)
    then refuses TooLong w
    else requests_on (find channel.0 w.channels.lines.entries) channel asked w

-- a message of no channel is written; its reply is waited for, or the connection is over with it
abbrev pub said : OwnMessage → World → World
said message w =
    writes (at_once message.payload ∷ []) (ends_by message.ends (awaits message.awaited w))

abbrev pub sends : OwnMessage → World → Effect
sends message w = if is_too_long message.payload then refuses TooLong w else accepts
    (said message w)

-- a command that concerns no channel that is there, and lacks nothing: one line a command; what a
-- client alone may say is never done
abbrev pub done_apart : World → Command → Effect
done_apart w (command.TcpipForward address port reply) = sends (forward_request address port reply) w
done_apart w (command.CancelTcpipForward address port reply) = sends (cancel address port reply) w
done_apart w command.Keepalive = sends keepalive w
done_apart w (command.Ping slot) = sends (ping slot) w
done_apart w command.RequestSuccess = accepts (settles_global (written request_success tt) w)
done_apart w command.RequestFailure = accepts (settles_global (written request_failure tt) w)
done_apart w (command.Debug always message language) = sends (debug always message language) w
done_apart w (command.Disconnect reason description language) =
    sends (disconnect_message reason description language) w
done_apart w other = opens_or_not (own_open_of other) w

-- a command that lacks nothing is done: one line a command; it was recorded in the callback of the
-- request at, where there is one
abbrev pub done_by : (at : Option ChannelRequest) → World → Command → Effect
done_by at w (command.Data channel bytes) =
    accepts (lined (takes_data channel.0 (chunk Plain bytes) (in_exchange w)) w)
done_by at w (command.ExtendedData channel code bytes) =
    accepts (lined (takes_data channel.0 (chunk (Extended code) bytes) (in_exchange w)) w)
done_by at w (command.Eof channel) = accepts (lined (takes_eof channel.0) w)
done_by at w (command.Close channel) = accepts (lined (takes_close channel.0) w)
done_by at w (command.ChannelSuccess channel) =
    accepts (lined (settles_for at channel.0 true) w)
done_by at w (command.ChannelFailure channel) =
    accepts (lined (settles_for at channel.0 false) w)
done_by at w (command.XonXoff channel client_can_do) = requests channel (xon_xoff client_can_do) w
done_by at w (command.ExitStatus channel status) = requests channel (exit_status status) w
done_by at w (command.ExitSignal channel signal core message language) =
    requests channel (exit_signal signal core message language) w
done_by at w (command.Answer answer) = decides_open answer (opening_of answer.channel.0 w) w
done_by at w other = done_apart w other

-- a command that is refused does nothing
abbrev pub refused_or : Option Refusal → World → Effect → Effect
refused_or (Some why) w does = refuses why w
refused_or None w does = does

-- once the connection was ended, each command is refused (RFC 4253 section 11.1)
abbrev pub refused_for : (disconnected : Bool) → World → Command → Option Refusal
refused_for true w command = Some Disconnected
refused_for false w command = lacks w (needs command)

-- what a command does that was recorded in the callback of this request, where it was in one's
abbrev pub effect_at : (at : Option ChannelRequest) → World → Command → Effect
effect_at at w command =
    refused_or (refused_for w.disconnected w command) w (done_by at w command)

-- what one does that comes from outside, or from any other callback
abbrev pub effect : World → Command → Effect
effect w command = effect_at None w command
