-- How a run is printed.
use Rattle.std.specs.Prelude.{ℕ, ◌+◌, List, [], ◌∷◌, ◌++◌, codes, flat_map, Option, Some, None}
use Rattle.std.specs.Prelude.{Result, Ok, Err}
use Rattle.std.specs.Fmt.{decimal}
use Rattle.ssh_wire.specs.declared.channel_id.ChannelId.{ChannelId}
use Rattle.ssh_link.specs.declared.notice.ChannelMsg.{ChannelMsg}
use Rattle.ssh_link.specs.declared.notice.Notice.{Notice}
use Rattle.ssh_link.specs.declared.notice.Notice.TheVariants as notice
use Rattle.ssh_link.specs.declared.outcome.CommandOutcome.{CommandOutcome}
use Rattle.ssh_link.specs.Frames.{Frame}
use Rattle.ssh_link.specs.declared.link.TraceEntry.{TraceEntry}
use Rattle.ssh_link.specs.declared.link.TraceEntry.TheVariants as entry
use Rattle.ssh_auth.specs.declared.call.Call.{Call}
use Rattle.ssh_rules.specs.declared.error.RunError.{RunError}
use Rattle.ssh_rules.specs.declared.error.RunError.TheVariants as error
use Rattle.ssh_transcript.specs.Words.{hex_text, flag_text, outcome_text, named_text}
use Rattle.ssh_transcript.specs.Happenings.{msg_words}
use Rattle.ssh_transcript.specs.CallLines.{call_line}

-- the number of a channel, and - for none
abbrev pub channel_text : Option ChannelId → List ℕ
channel_text None = codes "-"
channel_text (Some channel) = decimal channel.0

-- the moment until which a frame is held
abbrev pub hold_text : Option ℕ → List ℕ
hold_text None = []
hold_text (Some moment) = codes " hold " ++ decimal moment

abbrev pub frame_line : Frame → List ℕ
frame_line frame =
    codes "send " ++ channel_text frame.channel ++ codes " " ++ hex_text frame.payload
    ++ hold_text frame.hold_until
    ++ codes "\n"

-- what happened on a channel
abbrev pub msg_text : ChannelMsg → List ℕ
msg_text happened = codes " " ++ named_text (msg_words happened)

-- the port that the peer listens at
abbrev pub port_text : Option ℕ → List ℕ
port_text None = codes " denied"
port_text (Some port) = codes " " ++ decimal port

-- a notice: its channel, or - where it is of none, its variant, and its fields
abbrev pub notice_text : Notice → List ℕ
notice_text (notice.Channel channel happened) = decimal channel.0 ++ msg_text happened
notice_text (notice.Granted channel amount) = decimal channel.0 ++ codes " Granted "
    ++ decimal amount
notice_text (notice.Ready channel window packet) =
    decimal channel.0 ++ codes " Ready " ++ decimal window ++ codes " " ++ decimal packet
notice_text (notice.Forwarded slot port) = codes "- Forwarded " ++ decimal slot ++ port_text port
notice_text (notice.Cancelled slot is_done) = codes "- Cancelled " ++ decimal slot ++ codes " "
    ++ flag_text is_done
notice_text (notice.Pong slot) = codes "- Pong " ++ decimal slot

abbrev pub notice_line : Notice → List ℕ
notice_line one = codes "notice " ++ notice_text one ++ codes "\n"

-- what came of the command or the answer to an open with this ticket
abbrev pub answer_line : ℕ → CommandOutcome → List ℕ
answer_line ticket result = codes "done " ++ decimal ticket ++ codes " " ++ outcome_text result
    ++ codes "\n"

abbrev pub input_line : ℕ → List ℕ
input_line number = codes "input " ++ decimal number ++ codes "\n"

-- the trace, after so many inputs
abbrev pub entry_lines : ℕ → List TraceEntry → List ℕ
entry_lines taken [] = []
entry_lines taken (entry.Took commands replies input ∷ entries) =
    input_line (taken + 1) ++ entry_lines (taken + 1) entries
entry_lines taken (entry.Sent frame ∷ entries) = frame_line frame ++ entry_lines taken entries
entry_lines taken (entry.Noticed one ∷ entries) = notice_line one ++ entry_lines taken entries
entry_lines taken (entry.Answered ticket result ∷ entries) = answer_line ticket result
    ++ entry_lines taken entries

-- how the error of a run is named
abbrev pub variant_name : {E F : Type 0} → RunError E F → List ℕ
variant_name error.NoMemory = codes "NoMemory"
variant_name error.LinkFault = codes "LinkFault"
variant_name error.InputLimit = codes "InputLimit"
variant_name (error.Encoding why) = codes "Encoding"
variant_name error.Inconsistent = codes "Inconsistent"
variant_name (error.Key why) = codes "Key"
variant_name error.UnsupportedAuthMethod = codes "UnsupportedAuthMethod"
variant_name (error.Handler e) = codes "Handler"
variant_name (error.Kex e) = codes "Kex"
variant_name error.ChannelsFull = codes "ChannelsFull"
variant_name error.KeepaliveTimeout = codes "KeepaliveTimeout"
variant_name error.InactivityTimeout = codes "InactivityTimeout"
variant_name error.Pending = codes "Pending"

-- how a run ended
abbrev pub last_line : {E F : Type 0} → Result (Unit {0}) (RunError E F) → List ℕ
last_line (Ok done) = codes "ok\n"
last_line (Err e) = codes "error " ++ variant_name e ++ codes "\n"

-- a run: its callbacks, its trace, and how it ended
abbrev pub printed : {E F : Type 0} → List (Call E) → List TraceEntry
    → Result (Unit {0}) (RunError E F) → List ℕ
printed calls trace result = flat_map call_line calls ++ entry_lines 0 trace ++ last_line result
