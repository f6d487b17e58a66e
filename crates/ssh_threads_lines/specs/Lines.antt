-- What is printed of a run in threads.
use Rattle.std.specs.Prelude.{ℕ, zero, suc, ◌+◌, ◌==◌, ◌&&◌, Bool, true, cond}
use Rattle.std.specs.Prelude.{List, [], ◌∷◌, ◌++◌, codes, length, Result, Ok, Err}
use Rattle.std.specs.Fmt.{decimal}
use Rattle.ssh_wire.specs.Messages.{channel_data}
use Rattle.ssh_link.specs.Frames.{Frame, body_of}
use Rattle.ssh_link.specs.declared.plain_kex.PlainKexError.{PlainKexError}
use Rattle.ssh_channels.specs.Sent.{is_tagged, message_of}
use Rattle.ssh_rules.specs.declared.error.RunError.{RunError}
use Rattle.ssh_players.specs.Played.{Failure}
use Rattle.ssh_transcript.specs.Print.{last_line}

-- how a session of a script's handler ends
abbrev pub Outcome : Type 0
Outcome = Result (Unit {0}) (RunError Failure PlainKexError)

-- how many bytes of data a frame brings on this side's channel of the number: those of a
-- CHANNEL_DATA (RFC 4254 section 5.2)
abbrev pub data_on : (number : ℕ) → Frame → ℕ
data_on number frame =
    cond (is_tagged number frame.channel && (message_of frame.payload == channel_data.number))
    (length (body_of frame.payload)) 0

abbrev pub total_on : (number : ℕ) → List Frame → ℕ
total_on number [] = 0
total_on number (frame ∷ frames) = data_on number frame + total_on number frames

abbrev pub total_line : (number total : ℕ) → List ℕ
total_line number total =
    codes "channel " ++ decimal number ++ codes " " ++ decimal total ++ codes "\n"

-- a line for each of so many channels, whose numbers begin at 2
abbrev pub total_lines : (count : ℕ) → List Frame → List ℕ
total_lines zero frames = []
total_lines (suc k) frames =
    total_lines k frames ++ total_line (k + 2) (total_on (k + 2) frames)

-- whether each of them has all bytes of its writer
abbrev pub are_whole : (count : ℕ) → List Frame → Bool
are_whole zero frames = true
are_whole (suc k) frames = are_whole k frames && (total_on (k + 2) frames == 100000)

-- the status and the text of a run of so many channels with these frames and this end
abbrev pub status_of : (count : ℕ) → List Frame → Outcome → ℕ
status_of count frames (Ok done) = cond (are_whole count frames) 0 1
status_of count frames (Err e) = 1

abbrev pub text_of : (count : ℕ) → List Frame → Outcome → List ℕ
text_of count frames (Ok done) =
    total_lines count frames
    ++ cond (are_whole count frames) (codes "ok\n") (codes "error Totals\n")
text_of count frames (Err e) = last_line (Err e)

-- the text of a run of so many channels on each of which all bytes of its writer were sent
abbrev pub full_lines : (count : ℕ) → List ℕ
full_lines zero = []
full_lines (suc k) = full_lines k ++ total_line (k + 2) 100000

abbrev pub full_text : (count : ℕ) → List ℕ
full_text count = full_lines count ++ codes "ok\n"
