-- What a client can go by, above the answers.
use Rattle.std.specs.Prelude.{◌≡◌, ◌+◌, ◌<◌, ◌≤◌, ◌++◌, ℕ, Bool, true, false, List, [], ◌∷◌}
use Rattle.std.specs.Prelude.{Option, Some, Result, Ok, length}
use Rattle.std.specs.FinMap as map
use Rattle.ssh_sftp_core.specs.declared.status.Status.{Status}
use Rattle.ssh_sftp_core.specs.declared.status.Status.TheVariants as status
use Rattle.ssh_sftp_core.specs.Files.{State, Opened, file_of, outcome, outcome_at}
use Rattle.ssh_sftp_core.specs.Layouts.{has}
use Rattle.ssh_sftp_core.specs.Requests.{Asked}
use Rattle.ssh_sftp_core.specs.Requests as ask
use Rattle.ssh_sftp_core.specs.Responses.{Told}
use Rattle.ssh_sftp_core.specs.Responses as tell

-- this handle is open, with these flags, and these are the bytes of its file
abbrev pub IsOpen : State → (handle : List ℕ) → Opened → (file : List ℕ) → Type 0
IsOpen state handle one file = file_of state.files state.handles handle ≡ Ok (one, file)

-- what was written is read: by one handle, up to as many bytes as one READ gives
abbrev pub ReadsBack : Type 0
ReadsBack =
    (state : State) (handle : List ℕ) (one : Opened) (file : List ℕ) (offset : ℕ) (bytes : List ℕ)
    → IsOpen state handle one file → has one.flags 1 ≡ true → has one.flags 4 ≡ false
    → 0 < length bytes → length bytes ≤ 65536
    → (outcome state (ask.Write handle offset bytes)).told ≡ tell.Report status.Ok
    → (outcome (outcome state (ask.Write handle offset bytes)).after
    (ask.Read handle offset (length bytes))).told ≡ tell.Data bytes

-- what a handle that appends writes comes to the end, whatever its offset
abbrev pub AddsToTheEnd : Type 0
AddsToTheEnd =
    (state : State) (handle : List ℕ) (one : Opened) (file : List ℕ) (offset : ℕ) (bytes : List ℕ)
    → IsOpen state handle one file → has one.flags 4 ≡ true → 0 < length bytes
    → (outcome state (ask.Write handle offset bytes)).told ≡ tell.Report status.Ok
    → map.get (outcome state (ask.Write handle offset bytes)).after.files one.path
    ≡ Some (file ++ bytes)

-- a request that is reported as anything but ok has changed nothing: no file, and no handle
abbrev pub ChangesNothing : Type 0
ChangesNothing =
    (state : State) (asked : Asked) (why : Status) → (outcome state asked).told ≡ tell.Report why
    → (why ≡ status.Ok → ⊥) → (outcome state asked).after ≡ state

-- what is told to packets, one after another
abbrev pub told_to : State → (packets : List (List ℕ)) → List Told
told_to state [] = []
told_to state (packet ∷ packets) =
    (outcome_at state packet).told ∷ told_to (outcome_at state packet).after packets

-- the handles that are given
abbrev pub given_by : List Told → List ℕ
given_by [] = []
given_by (tell.Handle number ∷ more) = number ∷ given_by more
given_by (_ ∷ more) = given_by more

-- each number is the one after the last
abbrev pub AreCounted : (last : ℕ) → List ℕ → Type 0
AreCounted last [] = Unit {0}
AreCounted last (number ∷ numbers) = (number ≡ last + 1) × AreCounted (last + 1) numbers

-- the handles that a client gets are counted up, so none is given twice
abbrev pub GivesEachOnce : Type 0
GivesEachOnce = (state : State) (packets : List (List ℕ))
    → AreCounted state.handles.count (given_by (told_to state packets))
