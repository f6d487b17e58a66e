-- The files of a server, the handles that it gave, and what each request does with them.
use Rattle.std.specs.Prelude.{◌≡◌, ◌+◌, ◌-◌, ◌^◌, ◌++◌, ◌&&◌, ◌||◌, ◌==◌, not, ℕ, Bool, true, false}
use Rattle.std.specs.Prelude.{List, [], ◌∷◌}
use Rattle.std.specs.Prelude.{Option, Some, None, Result, Ok, Err, length, take, drop, min}
use Rattle.std.specs.Prelude.{replicate}
use Rattle.std.specs.Prelude.{if◌then◌else◌, nat_le, nat_lt, nat_eq, codes, find, filter}
use Rattle.std.specs.Prelude.{slice_index}
use Rattle.std.specs.Int.{w32, from_be_bytes}
use Rattle.std.specs.List.{starts_with}
use Rattle.std.specs.Option.{option_and_then}
use Rattle.std.specs.Cmp.Lexicographic.{pointwise}
use Rattle.std.specs.FinMap as map
use Rattle.std.specs.Coded.{Coded, code_by, coded×, coded_ℕ, coded_list, coded_bool}
use Rattle.std.specs.Prelude.{refl}
use Rattle.ssh_wire.specs.Field.{string}
use Rattle.ssh_sftp_core.specs.declared.status.Status.{Status}
use Rattle.ssh_sftp_core.specs.declared.status.Status.TheVariants as status
use Rattle.ssh_sftp_core.specs.Layouts.{said, has}
use Rattle.ssh_sftp_core.specs.Requests.{Asked, asked_by}
use Rattle.ssh_sftp_core.specs.Requests as ask
use Rattle.ssh_sftp_core.specs.Trees.{Tree}
use Rattle.ssh_sftp_core.specs.Responses.{Told, spelled}
use Rattle.ssh_sftp_core.specs.Responses as tell

-- a handle that is open: its number, its path and the flags that it was asked for with
pub record Opened : Type 0 where
  pub number : ℕ
  pub path : List ℕ
  pub flags : ℕ

-- the handles that are open, in the order in which they were given, and how many were given so far
pub record Given : Type 0 where
  pub opened : List Opened
  pub count : ℕ

-- the files, the handles, and whether INIT came
pub record State : Type 0 where
  pub files : Tree
  pub handles : Given
  pub started : Bool

-- a state is told apart by its parts
abbrev pub opened_code : Coded Opened
opened_code = code_by (ℕ × (List ℕ × ℕ)) (coded× coded_ℕ (coded× (coded_list coded_ℕ) coded_ℕ))
    (λ one. (one.number, (one.path, one.flags)))
    (λ p. record { number = p.0; path = p.1.0; flags = p.1.1 }) (λ _. refl)

abbrev pub given_code : Coded Given
given_code = code_by (List Opened × ℕ) (coded× (coded_list opened_code) coded_ℕ)
    (λ given. (given.opened, given.count)) (λ p. record { opened = p.0; count = p.1 }) (λ _. refl)

abbrev pub tree_code : Coded Tree
tree_code = map.code (coded_list coded_ℕ) (coded_list coded_ℕ)

abbrev pub state_code : Coded State
state_code = code_by (Tree × (Given × Bool)) (coded× tree_code (coded× given_code coded_bool))
    (λ state. (state.files, (state.handles, state.started)))
    (λ p. record { files = p.0; handles = p.1.0; started = p.1.1 }) (λ _. refl)

-- no files, no handles, and no INIT
abbrev pub fresh : State
fresh = record { files = map.empty; handles = record { opened = []; count = 0 }; started = false }

-- what is told in answer to a request, and the state that it leaves
pub record Outcome : Type 0 where
  pub told : Told
  pub after : State

-- an answer that leaves all as it was
abbrev pub says : State → Told → Outcome
says state told = record { told = told; after = state }

abbrev pub refuses : State → Status → Outcome
refuses state why = says state (tell.Report why)

-- a request that was done, and these are the files now
abbrev pub changes : State → Tree → Outcome
changes state files =
    record { told = tell.Report status.Ok; after = record state { files = files } }

-- ---- paths

abbrev pub root : List ℕ
root = codes "/"

-- a path that does not begin with "/" gets one in front; "." is the root, as nothing is
abbrev pub rooted : List ℕ → List ℕ
rooted path =
    if pointwise nat_eq path (codes ".") then root
    else if starts_with nat_eq path root then path
    else root ++ path

-- ---- handles

-- the number that a handle spells
abbrev pub number_of : (handle : List ℕ) → Option ℕ
number_of handle = if length handle == 4 then Some (from_be_bytes w32 handle) else None

-- the open handle of this number
abbrev pub opened_at : Given → (number : ℕ) → Option Opened
opened_at given number = find (λ one. one.number == number) given.opened

-- the open handle that these bytes spell
abbrev pub opened_by : Given → (handle : List ℕ) → Option Opened
opened_by given handle = option_and_then (opened_at given) (number_of handle)

-- one handle more: the k-th has the number k
abbrev pub one_more : Given → (path : List ℕ) → (flags : ℕ) → Given
one_more given path flags = record {
  opened = given.opened
      ++ record { number = given.count + 1; path = path; flags = flags } ∷ [];
  count = given.count + 1;
}

-- without the handle of this number
abbrev pub closed : Given → (number : ℕ) → Given
closed given number =
    record given { opened = filter (λ one. not (one.number == number)) given.opened }

-- 256 handles are open, or as many were given as there are numbers
abbrev pub are_full : Given → Bool
are_full given = nat_le 256 (length given.opened) || nat_le (2 ^ 32 - 1) given.count

-- ---- the requests

-- OPEN of a path under which this stands: the files after it, or why it gives no handle. Flags: 1
-- to read, 2 to write, 4 to append, 8 to create, 16 to truncate, 32 to create and not to open
-- (section 6.3)
abbrev pub opened_file : Tree → (path : List ℕ) → (flags : ℕ) → Option (List ℕ)
    → Result Tree Status
opened_file files path flags None =
    if has flags 8 then Ok (map.insert files path []) else Err status.NoSuchFile
opened_file files path flags (Some file) =
    if has flags 8 && has flags 32 then Err status.Failure
    else if has flags 16 then Ok (map.insert files path [])
    else Ok files

-- a handle is given, and these are the files now
abbrev pub gives : State → (path : List ℕ) → (flags : ℕ) → Result Tree Status → Outcome
gives state path flags (Err why) = refuses state why
gives state path flags (Ok files) = record {
  told = tell.Handle (state.handles.count + 1);
  after = record state { files = files; handles = one_more state.handles path flags };
}

-- neither to read nor to write, or the root, or a handle too many
abbrev pub gives_none : State → (path : List ℕ) → (flags : ℕ) → Bool
gives_none state path flags =
    not (has flags 1 || has flags 2) || pointwise nat_eq path root || are_full state.handles

abbrev pub open_path : State → (path : List ℕ) → (flags : ℕ) → Outcome
open_path state path flags =
    if gives_none state path flags then refuses state status.Failure
    else gives state path flags (opened_file state.files path flags (map.get state.files path))

-- CLOSE does not ask for the file
abbrev pub close_one : State → Option Opened → Outcome
close_one state None = refuses state status.Failure
close_one state (Some one) = record {
  told = tell.Report status.Ok;
  after = record state { handles = closed state.handles one.number };
}

-- the file of a handle
abbrev pub file_under : Tree → Opened → Result (Opened × List ℕ) Status
file_under files one = elim (map.get files one.path) [
  | None ↦ Err status.NoSuchFile
  | Some file ↦ Ok (one, file)
]

-- the open handle that these bytes spell, with its file
abbrev pub file_of : Tree → Given → (handle : List ℕ) → Result (Opened × List ℕ) Status
file_of files given handle = elim (opened_by given handle) [
  | None ↦ Err status.Failure
  | Some one ↦ file_under files one
]

-- a request by a handle, which does this with the handle and its file
abbrev pub by_handle : State → (handle : List ℕ) → (Opened → (file : List ℕ) → Outcome) → Outcome
by_handle state handle does = elim (file_of state.files state.handles handle) [
  | Err why ↦ refuses state why
  | Ok found ↦ does found.0 found.1
]

-- READ by a handle with these flags: up to 65536 bytes
abbrev pub read_part : (flags : ℕ) → (file : List ℕ) → (offset most : ℕ) → Told
read_part flags file offset most =
    if not (has flags 1) then tell.Report status.Failure
    else if nat_le (length file) offset then tell.Report status.Eof
    else tell.Data (take (min most 65536) (drop offset file))

-- a file with these bytes at this offset: what stood before it, zeros up to it where the file was
-- shorter, the bytes, and what stood behind them
abbrev pub overwritten : (file : List ℕ) → (offset : ℕ) → (bytes : List ℕ) → List ℕ
overwritten file offset bytes =
    take offset file ++ replicate (offset - length file) 0 ++ bytes
    ++ drop (offset + length bytes) file

-- where a handle with these flags writes into a file of this size
abbrev pub place_of : (flags size offset : ℕ) → ℕ
place_of flags size offset = if has flags 4 then size else offset

-- WRITE at this place: no file is longer than 2^24 bytes
abbrev pub write_at : State → (place : ℕ) → (bytes : List ℕ) → Opened → (file : List ℕ) → Outcome
write_at state place bytes one file =
    if not (has one.flags 2) then refuses state status.Failure
    else if length bytes == 0 then says state (tell.Report status.Ok)
    else if nat_lt 16777216 (place + length bytes) then refuses state status.Failure
    else changes state (map.insert state.files one.path (overwritten file place bytes))

-- STAT of what stands under a path
abbrev pub stat_file : State → Option (List ℕ) → Outcome
stat_file state None = refuses state status.NoSuchFile
stat_file state (Some file) = says state (tell.Size (length file))

-- REMOVE of a path under which this stands
abbrev pub remove_file : State → (path : List ℕ) → Option (List ℕ) → Outcome
remove_file state path None = refuses state status.NoSuchFile
remove_file state path (Some file) = changes state (map.remove state.files path)

-- RENAME: what stands under the old path and under the new one
abbrev pub rename_file : State → (old new : List ℕ) → Option (List ℕ) → Option (List ℕ) → Outcome
rename_file state old new None _ = refuses state status.NoSuchFile
rename_file state old new (Some file) (Some _) = refuses state status.Failure
rename_file state old new (Some file) None =
    changes state (map.insert (map.remove state.files old) new file)

-- one line a request (draft-ietf-secsh-filexfer-02 sections 4 and 6)
abbrev pub outcome : State → Asked → Outcome
outcome state ask.Init = record { told = tell.Version; after = record state { started = true } }
outcome state (ask.Open path flags) = open_path state (rooted path) flags
outcome state (ask.Close handle) = close_one state (opened_by state.handles handle)
outcome state (ask.Read handle offset most) =
    by_handle state handle (λ one file. says state (read_part one.flags file offset most))
outcome state (ask.Write handle offset bytes) =
    by_handle state handle (λ one file.
    write_at state (place_of one.flags (length file) offset) bytes one file)
outcome state (ask.Stat path) = stat_file state (map.get state.files (rooted path))
outcome state (ask.Fstat handle) =
    by_handle state handle (λ one file. stat_file state (Some file))
outcome state (ask.Remove path) =
    remove_file state (rooted path) (map.get state.files (rooted path))
outcome state (ask.RealPath path) = says state (tell.Name (rooted path))
outcome state (ask.Rename old new) = rename_file state (rooted old) (rooted new)
    (map.get state.files (rooted old)) (map.get state.files (rooted new))

-- ---- packets

-- what a packet asks; before INIT nothing else is asked
abbrev pub heard : State → (kind : ℕ) → (body : List ℕ) → Result Asked Status
heard state kind body =
    if not state.started && not (kind == 1) then Err status.BadMessage else asked_by kind body

-- what comes of it
abbrev pub outcome_of : State → Result Asked Status → Outcome
outcome_of state (Ok asked) = outcome state asked
outcome_of state (Err why) = refuses state why

-- the answer to a packet, with its length in front, and the state that it leaves
pub record Answer : Type 0 where
  pub reply : List ℕ
  pub after : State

abbrev pub answer_with : (id : ℕ) → Outcome → Answer
answer_with id outcome =
    record { reply = string (spelled id outcome.told); after = outcome.after }

-- a packet is a byte of its type, the four bytes of an id or of the version of INIT, and a body
-- (section 3)
abbrev pub outcome_at : State → (packet : List ℕ) → Outcome
outcome_at state packet =
    outcome_of state (heard state (slice_index packet 0) (drop 5 packet))

unfoldable pub answer : State → (packet : List ℕ) → Answer
answer state packet = answer_with (said (drop 1 packet)) (outcome_at state packet)

-- the answer was put out, and this is the state after it
pub record Answers (answer : Answer) (after : State) (old new : List ℕ) : Type 0 where
  pub out : new ≡ old ++ answer.reply
  pub state : after ≡ answer.after
