-- What targets are asked, and the bytes of a connection in it.
use mathlib.Core.List.{IsPrefix}
use Rattle.std.specs.Prelude.{◌≡◌, ◌≢◌, ◌≤◌, ◌⊎◌, ℕ, ◌==◌, cond, List, [], ◌∷◌, ◌++◌, length}
use Rattle.std.specs.Prelude.{flat_map}
use Rattle.std.specs.Prelude.{Result, Ok, Err, IfOk}
use Rattle.ssh_gateway.specs.declared.targets.Arrived.{Arrived}
use Rattle.ssh_gateway.specs.declared.targets.Arrived.TheVariants as arrived
use Rattle.ssh_gateway.specs.declared.targets.TargetCall.{TargetCall}
use Rattle.ssh_gateway.specs.declared.targets.TargetCall.TheVariants as call
use Rattle.ssh_gateway.specs.declared.targets.TargetFault.{TargetFault}
use Rattle.ssh_gateway.specs.declared.targets.TargetFault.TheVariants.{NoMemory}

-- bytes that were read are some, and no more than were asked for
abbrev pub IsFull : (most : ℕ) → Arrived → Type 0
IsFull most (arrived.Bytes bytes) = (bytes ≢ []) × (length bytes ≤ most)
IsFull most _ = Unit {0}

abbrev pub IsFilled : (most : ℕ) → Result Arrived TargetFault → Type 0
IsFilled most result = IfOk result (IsFull most)

-- the bytes that a call handed to the connection with this number, and those that it read there
abbrev pub written_by : (id : ℕ) → TargetCall → List ℕ
written_by id (call.Write other bytes (Ok done)) = cond (other == id) bytes []
written_by id _ = []

abbrev pub read_by : (id : ℕ) → TargetCall → List ℕ
read_by id (call.Read other most (Ok (arrived.Bytes bytes))) = cond (other == id) bytes []
read_by id _ = []

-- .. and those of all these calls, in order
abbrev pub written : (id : ℕ) → List TargetCall → List ℕ
written id calls = flat_map (written_by id) calls

abbrev pub read : (id : ℕ) → List TargetCall → List ℕ
read id calls = flat_map (read_by id) calls

-- the same call, which was not finished for this reason
abbrev pub failed : TargetFault → TargetCall → TargetCall
failed fault (call.Connect id host port answer) = call.Connect id host port (Err fault)
failed fault (call.Write id bytes answer) = call.Write id bytes (Err fault)
failed fault (call.Read id most answer) = call.Read id most (Err fault)
failed fault (call.Finish id answer) = call.Finish id (Err fault)
failed fault (call.Close id answer) = call.Close id (Err fault)

-- of the calls that were due these were made: all up to one that failed so
abbrev pub IsFailed : TargetFault → (due made : List TargetCall) → Type 0
IsFailed fault due made = (before after : List TargetCall) × (one : TargetCall)
    × (due ≡ before ++ one ∷ after) × (made ≡ before ++ failed fault one ∷ [])

-- or the gateway itself found no memory behind some of them, none of which failed
abbrev pub IsCutOff : TargetFault → (due made : List TargetCall) → Type 0
IsCutOff fault due made = IsFailed fault due made ⊎ ((fault ≡ NoMemory) × IsPrefix made due)
