-- What is written of a gateway.
use Rattle.std.specs.Prelude.{ℕ, List, [], ◌++◌, codes, flat_map, Result, Ok, Err}
use Rattle.std.specs.Prelude.{Bool, false, if◌then◌else◌}
use Rattle.std.specs.Fmt.{decimal}
use Rattle.ssh_link.specs.declared.link.TraceEntry.{TraceEntry}
use Rattle.ssh_gateway.specs.declared.error.GatewayError.{GatewayError}
use Rattle.ssh_gateway.specs.declared.error.GatewayError.TheVariants as error
use Rattle.ssh_gateway.specs.declared.targets.TargetCall.{TargetCall}
use Rattle.ssh_gateway.specs.declared.targets.TargetCall.TheVariants as call
use Rattle.ssh_gateway.specs.declared.targets.TargetFault.{TargetFault}
use Rattle.ssh_gateway.specs.Asked.{written}
use Rattle.ssh_transcript.specs.Print.{entry_lines}
use Rattle.ssh_transcript.specs.Words.{hex_text}

-- whether a connect made a connection
abbrev pub is_made : Result Bool TargetFault → Bool
is_made (Ok made) = made
is_made (Err fault) = false

-- a connection that was made: its number, its host and port, and the bytes that were written to it
-- in these calls
abbrev pub target_line : (calls : List TargetCall) → TargetCall → List ℕ
target_line calls (call.Connect id host port answer) = if is_made answer then
    codes "target " ++ decimal id ++ codes " " ++ hex_text host ++ codes " " ++ decimal port
    ++ codes " " ++ hex_text (written id calls) ++ codes "\n"
    else []
target_line calls _ = []

abbrev pub target_lines : List TargetCall → List ℕ
target_lines calls = flat_map (target_line calls) calls

-- how the error of a gateway is named
abbrev pub error_name : {E F : Type 0} → GatewayError E F → List ℕ
error_name error.NoMemory = codes "NoMemory"
error_name (error.Run why) = codes "Run"
error_name error.TargetFault = codes "TargetFault"
error_name error.TurnLimit = codes "TurnLimit"

-- how it ended
abbrev pub ending_line : {E F : Type 0} → Result (Unit {0}) (GatewayError E F) → List ℕ
ending_line (Ok done) = codes "ok\n"
ending_line (Err why) = codes "error " ++ error_name why ++ codes "\n"

-- what the link was told, the connections, and how it ended
abbrev pub told_text : {E F : Type 0} → List TraceEntry → List TargetCall
    → Result (Unit {0}) (GatewayError E F) → List ℕ
told_text trace calls result = entry_lines 0 trace ++ target_lines calls ++ ending_line result
