-- What a file server of a handle does with what its client sends, and what it gives out.
use Prim.Native.Nat.{zero, suc}
use Rattle.std.specs.Prelude.{◌≡◌, ◌⊎◌, ◌<◌, ℕ, List, [], ◌++◌, Option, Some, None, Ok, Err}
use Rattle.std.specs.Prelude.{true, false, take, drop, length, min}
use Rattle.ssh_sftp.specs.Packets.{IsPartial}
use Rattle.ssh_sftp.specs.Replies.{Server, Serves, RefusesAt, begun, end_of}
use Rattle.ssh_c.specs.declared.sftp.server.FileServer.{FileServer}
use Rattle.ssh_c.specs.Codes.{Fared, piece_code}

-- the answers that were not taken out yet
abbrev pub waiting : FileServer → List ℕ
waiting files = drop files.taken files.answers.items

-- a piece came, and these answers were put out: those to the packets that are whole by now, or those
-- before the fault for which it is refused
abbrev pub Answers : Server → (piece : List ℕ) → Fared → Server → (out : List ℕ) → Type 0
Answers before piece (Ok done) after out =
    Serves before.files (before.rest ++ piece) after.files after.rest [] out
    × IsPartial after.rest × (after.failed ≡ false)
Answers before piece (Err why) after out =
    RefusesAt before.failed before.files (before.rest ++ piece) why [] out
    × (after.failed ≡ true)

-- answers wait, and nothing was done; or the piece came, and its answers wait
abbrev pub PieceFed : FileServer → (piece : List ℕ) → FileServer → (code : ℕ) → Type 0
PieceFed before piece after code =
    ((0 < length (waiting before)) × (after ≡ before) × (code ≡ 17))
    ⊎ ((waiting before ≡ []) × ((went : Fared) × (code ≡ piece_code went)
    × Answers before.server piece went after.server (waiting after)))

-- the first answers that waited stand at the start of these bytes, as many as they have room for, and
-- wait no more; where it is not 0, nothing has changed
abbrev pub AnswersTaken : FileServer → FileServer → (bytes : List ℕ) → (count code : ℕ) → Type 0
AnswersTaken before after bytes count zero =
    (waiting before ≡ take count bytes ++ waiting after)
    × (count ≡ min (length (waiting before)) (length bytes)) × (0 < count)
    × (after.server ≡ before.server)
AnswersTaken before after bytes count (suc code) = after ≡ before

-- ---- of what a handle holds

-- a file server without files, before the first byte of its client
abbrev pub HoldsBegun : Option FileServer → Type 0
HoldsBegun (Some files) = (files.server ≡ begun) × (waiting files ≡ [])
HoldsBegun None = ⊥

abbrev pub FilesFed : Option FileServer → (piece : List ℕ) → Option FileServer → (code : ℕ)
    → Type 0
FilesFed (Some before) piece (Some after) code = PieceFed before piece after code
FilesFed (Some before) piece None code = ⊥
FilesFed None piece after code = (after ≡ None) × (code ≡ 13)

abbrev pub FilesTold : Option FileServer → Option FileServer → (bytes : List ℕ) → (count code : ℕ)
    → Type 0
FilesTold (Some before) (Some after) bytes count code =
    AnswersTaken before after bytes count code × (code ≡ 2 → waiting before ≡ [])
FilesTold (Some before) None bytes count code = ⊥
FilesTold None after bytes count code = (after ≡ None) × (code ≡ 13)

-- how the stream ended, were nothing more to come
abbrev pub FilesEnd : Option FileServer → (code : ℕ) → Type 0
FilesEnd (Some files) code = code ≡ piece_code (end_of files.server.failed files.server.rest)
FilesEnd None code = code ≡ 13
