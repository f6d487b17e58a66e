-- A file server that a script gives the pieces of its client's stream: what is written.
use Rattle.std.specs.Prelude.{◌≡◌, ℕ, List, [], ◌∷◌, ◌++◌, codes, length, drop, Option, Some, None}
use Rattle.std.specs.Prelude.{Bool, true, false, Result, Ok, Err}
use Rattle.ssh_sftp_core.specs.Files.{fresh}
use Rattle.ssh_sftp.specs.declared.error.SftpError.{SftpError}
use Rattle.ssh_sftp.specs.declared.error.SftpError.TheVariants as error
use Rattle.ssh_sftp.specs.Packets.{IsPartial, left_of, fault_of}
use Rattle.ssh_sftp.specs.Replies.{Server, Serves, replies}
use Rattle.ssh_transcript.specs.Words.{hex_text}

-- the answers that a longer stream brings: those to its packets that were not whole before
abbrev pub newly : (before now : List ℕ) → List ℕ
newly before now = drop (length (replies before)) (replies now)

-- answers as a line; none where there are none
abbrev pub sent_line : List ℕ → List ℕ
sent_line [] = []
sent_line (byte ∷ bytes) = codes "send " ++ hex_text (byte ∷ bytes) ++ codes "\n"

abbrev pub error_name : SftpError → List ℕ
error_name error.NoMemory = codes "NoMemory"
error_name (error.BadLength size) = codes "BadLength"
error_name error.NoId = codes "NoId"
error_name (error.Cut left) = codes "Cut"
error_name (error.Handle e) = codes "Handle"
error_name error.Failed = codes "Failed"

abbrev pub error_line : SftpError → List ℕ
error_line why = codes "error " ++ error_name why ++ codes "\n"

-- a status, and a text
abbrev pub Written : Type 0
Written = ℕ × List ℕ

-- an error ends the text
abbrev pub refused : SftpError → Written
refused why = (1, error_line why)

-- behind a line
abbrev pub behind : List ℕ → Written → Written
behind line rest = (rest.0, line ++ rest.1)

-- the end of a stream: this is left of it behind its packets
abbrev pub at_end : (left : List ℕ) → Written
at_end [] = (0, codes "ok\n")
at_end (byte ∷ bytes) = refused (error.Cut (length (byte ∷ bytes)))

-- a piece that is refused ends the text; else it goes on
abbrev pub unless_refused : Option SftpError → Written → Written
unless_refused None rest = rest
unless_refused (Some why) rest = refused why

-- after this much of the stream these pieces come, and then its end
abbrev pub served_on : (so_far : List ℕ) → (pieces : List (List ℕ)) → Written
served_on so_far [] = at_end (left_of so_far)
served_on so_far (piece ∷ pieces) =
    behind (sent_line (newly so_far (so_far ++ piece)))
    (unless_refused (fault_of (so_far ++ piece)) (served_on (so_far ++ piece) pieces))

-- whether memory was wanting, which has no transcript
abbrev pub is_starved : Result (Unit {0}) SftpError → Bool
is_starved (Err error.NoMemory) = true
is_starved (Err why) = false
is_starved (Ok done) = false

-- the server has taken this much of the stream of its client
pub record HasTaken (so_far : List ℕ) (server : Server) : Type 0 where
  pub serves : Serves fresh so_far server.files server.rest [] (replies so_far)
  pub partial : IsPartial server.rest
  pub fine : server.failed ≡ false

-- a piece is taken, or refused, and the answers that it brings are written
abbrev pub Takes : (so_far piece : List ℕ) → Result (Unit {0}) SftpError → Server
    → (old new : List ℕ) → Type 0
Takes so_far piece (Ok done) server old new = HasTaken (so_far ++ piece) server
    × (fault_of (so_far ++ piece) ≡ None)
    × (new ≡ old ++ sent_line (newly so_far (so_far ++ piece)))
Takes so_far piece (Err why) server old new = (fault_of (so_far ++ piece) ≡ Some why)
    × (new ≡ old ++ sent_line (newly so_far (so_far ++ piece)))

-- how the end of a stream is written
abbrev pub ending : Result (Unit {0}) SftpError → Written
ending (Ok done) = (0, codes "ok\n")
ending (Err why) = refused why

-- the lines of these pieces were written, but for the last, which says this
abbrev pub AreServed : List (List ℕ) → Result (Unit {0}) SftpError → (old new : List ℕ) → Type 0
AreServed pieces ended old new = (lines : List ℕ) × (new ≡ old ++ lines)
    × (served_on [] pieces ≡ behind lines (ending ended))

-- the status and the text of a file server whose client sends these pieces: a line for each piece
-- that completes packets, with the answers to them, and then how the stream ended
abbrev pub IsServed : List (List ℕ) → ℕ → List ℕ → Type 0
IsServed pieces status text = (status, text) ≡ served_on [] pieces
