-- What the lines of a script say together.
use Rattle.std.specs.Prelude.{◌≡◌, ◌+◌, ◌^◌, ◌==◌, ℕ, List, [], ◌∷◌, ◌++◌, length, nat_lt, false}
use Rattle.std.specs.Prelude.{if◌then◌else◌, Option}
use Rattle.std.specs.Prelude.{Some, None, Result, Ok, Err, MatchOption}
use Rattle.ssh_link.specs.declared.frame.Input.{Input}
use Rattle.ssh_link.specs.declared.frame.InputKind.{InputKind}
use Rattle.ssh_link.specs.declared.frame.InputKind.TheVariants.{Payload, Command, OpenReply}
use Rattle.ssh_link.specs.declared.frame.InputKind.TheVariants.{KeepaliveTick, InactivityTick}
use Rattle.ssh_link.specs.declared.frame.InputKind.TheVariants.{RekeyTick}
use Rattle.ssh_wire.specs.declared.limits.Limits.{Limits}
use Rattle.ssh_handler.specs.declared.config.Config.{Config}
use Rattle.ssh_handler.specs.Settings.{standard_config}
use Rattle.ssh_keys.specs.declared.table_verifier.AcceptedSignature.{AcceptedSignature}
use Rattle.ssh_scene.specs.declared.answers.OpenVerdict.TheVariants.{Accept}
use Rattle.ssh_scene.specs.declared.answers.DataVerdict.TheVariants.{Silent}
use Rattle.ssh_scene.specs.declared.answers.RequestVerdict.TheVariants.{Success}
use Rattle.ssh_scene.specs.declared.answers.ForwardVerdict.TheVariants.{No}
use Rattle.ssh_scene.specs.declared.answers.Standing.{Standing}
use Rattle.ssh_scene.specs.declared.lines.Setting.{Setting}
use Rattle.ssh_scene.specs.declared.lines.Setting.TheVariants as setting
use Rattle.ssh_scene.specs.declared.lines.InputLine.{InputLine}
use Rattle.ssh_scene.specs.declared.lines.InputLine.TheVariants as input
use Rattle.ssh_scene.specs.declared.lines.Line.{Line}
use Rattle.ssh_scene.specs.declared.lines.Line.TheVariants as line
use Rattle.ssh_scene.specs.declared.script.Stage.{Stage}
use Rattle.ssh_scene.specs.declared.script.Stage.TheVariants as stage
use Rattle.ssh_scene.specs.declared.script.Script.{Script}
use Rattle.ssh_scene.specs.Grammar.{Reads}
use Rattle.ssh_scene.specs.Queues.{Queues, queues_in}

-- what a script says
pub record Scene : Type 0 where
  pub session_id : List ℕ
  -- after how many inputs the run stops
  pub max_inputs : ℕ
  pub config : Config
  -- the signatures that are accepted
  pub accepted : List AcceptedSignature
  -- what the callbacks answer
  pub queues : Queues
  -- how many of the inputs are commands and answers to opens
  pub tickets : ℕ
  pub inputs : List Input
  -- the moment in force
  pub moment : ℕ
  -- which lines may follow
  pub stage : Stage

-- what no line says
abbrev pub opening_scene : Scene
opening_scene = record {
  session_id = [];
  max_inputs = 1000000;
  config = standard_config;
  accepted = [];
  queues = record {
    none = [];
    password = [];
    offered = [];
    publickey = [];
    certificate = [];
    interactive = [];
    banners = 0;
    banner = None;
    standing = record { opens = Accept; incoming = Silent; requests = Success; forwards = No };
  };
  tickets = 0;
  inputs = [];
  moment = 0;
  stage = stage.Settings;
}

-- after a setting of the answers that stand for the whole run
abbrev pub with_standing : Standing → Scene → Scene
with_standing standing s = record s { queues = record s.queues { standing = standing } }

-- after a setting of when keys are exchanged again
abbrev pub limited : Limits → Scene → Scene
limited limits s = record s { config = record s.config { limits = limits } }

-- after a setting; None where it is out of range
abbrev pub set : Setting → Scene → Option Scene
set (setting.Session id) s = if nat_lt (length id) (2 ^ 32) then Some (record s { session_id = id })
    else None
set (setting.Inputs count) s = Some (record s { max_inputs = count })
set (setting.Window size) s = Some (record s { config = record s.config { window_size = size } })
set (setting.Packet size) s =
    Some (record s { config = record s.config { maximum_packet_size = size } })
set (setting.Reject time) s = Some
    (record s { config = record s.config { auth_rejection_time = time } })
set (setting.RejectInitial time) s =
    Some (record s { config = record s.config { auth_rejection_time_initial = Some time } })
set (setting.Attempts count) s = Some
    (record s { config = record s.config { max_auth_attempts = count } })
set (setting.Keepalive count) s = Some
    (record s { config = record s.config { keepalive_max = count } })
set (setting.RekeyWrite bytes) s =
    Some (limited (record s.config.limits { rekey_write_limit = bytes }) s)
set (setting.RekeyRead bytes) s =
    Some (limited (record s.config.limits { rekey_read_limit = bytes }) s)
set (setting.Sign signature) s = Some (record s { accepted = s.accepted ++ signature ∷ [] })
set (setting.AnswerNone verdict) s =
    Some (record s { queues = record s.queues { none = s.queues.none ++ verdict ∷ [] } })
set (setting.AnswerPassword verdict) s =
    Some (record s { queues = record s.queues { password = s.queues.password ++ verdict ∷ [] } })
set (setting.AnswerOffered verdict) s =
    Some (record s { queues = record s.queues { offered = s.queues.offered ++ verdict ∷ [] } })
set (setting.AnswerPublickey verdict) s =
    Some (record s { queues = record s.queues { publickey = s.queues.publickey ++ verdict ∷ [] } })
set (setting.AnswerCertificate verdict) s =
    Some (record s {
      queues = record s.queues { certificate = s.queues.certificate ++ verdict ∷ [] };
    })
set (setting.AnswerInteractive verdict) s =
    Some (record s {
      queues = record s.queues { interactive = s.queues.interactive ++ verdict ∷ [] };
    })
set setting.FailBanner s = Some (record s
    { queues = record s.queues { banners = s.queues.banners + 1 } })
set (setting.Banner text) s = Some (record s { queues = record s.queues { banner = Some text } })
set (setting.AnswerOpen verdict) s =
    Some (with_standing (record s.queues.standing { opens = verdict }) s)
set (setting.AnswerData verdict) s =
    Some (with_standing (record s.queues.standing { incoming = verdict }) s)
set (setting.AnswerRequest verdict) s =
    Some (with_standing (record s.queues.standing { requests = verdict }) s)
set (setting.AnswerForward verdict) s =
    Some (with_standing (record s.queues.standing { forwards = verdict }) s)

-- settings come before the first input line
abbrev pub set_in : Stage → Setting → Scene → Option Scene
set_in stage.Settings one s = set one s
set_in stage.Inputs one s = None
set_in stage.Ended one s = None

-- an input of this kind comes at the moment in force
abbrev pub with_input : InputKind → Scene → Scene
with_input kind s = record s {
  inputs = s.inputs ++ (record { moment = s.moment; kind = kind })
      ∷ [];
}

-- one more ticket is given
abbrev pub with_ticket : Scene → Scene
with_ticket s = record s { tickets = s.tickets + 1 }

-- there was an input line
abbrev pub begun : Scene → Scene
begun s = record s { stage = stage.Inputs }

-- after an input line
abbrev pub after_input : InputLine → Scene → Scene
after_input (input.At moment) s = record (begun s) { moment = moment }
after_input (input.Recv bytes) s = with_input (Payload bytes) (begun s)
after_input (input.Command command) s = with_input (Command (s.tickets + 1) command)
    (with_ticket (begun s))
after_input (input.Reply answer) s = with_input (OpenReply (s.tickets + 1) answer)
    (with_ticket (begun s))
after_input input.KeepaliveTick s = with_input KeepaliveTick (begun s)
after_input input.InactivityTick s = with_input InactivityTick (begun s)
after_input input.RekeyTick s = with_input RekeyTick (begun s)
after_input input.End s = record s { stage = stage.Ended }

-- once the peer is gone, input lines are not taken
abbrev pub taken : Stage → InputLine → Scene → Scene
taken stage.Settings one s = after_input one s
taken stage.Inputs one s = after_input one s
taken stage.Ended one s = s

-- after one more line; None where it is bad, or may not stand here
abbrev pub with_line : Scene → Option Line → Option Scene
with_line s None = None
with_line s (Some line.Passed) = Some s
with_line s (Some (line.Setting one)) = set_in s.stage one s
with_line s (Some (line.Input one)) = Some (taken s.stage one s)

-- this line makes this of the scene; None where it is bad, or may not stand here
abbrev pub TakesIn : Scene → (text : List ℕ) → Option Scene → Type 0
TakesIn s text next = (said : Option Line) × Reads text said × (with_line s said ≡ next)

-- the lines of a text: each ends in a newline, which the last may lack
abbrev pub onto_first : ℕ → List (List ℕ) → List (List ℕ)
onto_first byte [] = (byte ∷ []) ∷ []
onto_first byte (line ∷ lines) = (byte ∷ line) ∷ lines

abbrev pub lines_of : List ℕ → List (List ℕ)
lines_of [] = []
lines_of (byte ∷ bytes) = if byte == 10 then [] ∷ lines_of bytes else onto_first byte
    (lines_of bytes)

-- what a line makes of what the lines before it give; None where it is bad, or may not stand here
abbrev pub Taking : Type 0 → Type 0
Taking S = S → Option Line → Option S

-- after so many lines, these give this, or this is the number of the first bad one
abbrev pub GivesBy : {S : Type 0} → Taking S → ℕ → S → List (List ℕ) → Result S ℕ → Type 0
GivesBy takes done so_far [] read = read ≡ Ok so_far
GivesBy takes done so_far (text ∷ lines) read = (said : Option Line) × Reads text said ×
    MatchOption (takes so_far said) (read ≡ Err (done + 1)) (λ next. GivesBy takes (done + 1) next
    lines read)

-- the same of a scene
abbrev pub Gives : ℕ → Scene → List (List ℕ) → Result Scene ℕ → Type 0
Gives done scene lines read = GivesBy with_line done scene lines read

-- no newline is among them
abbrev pub IsOneLine : List ℕ → Type 0
IsOneLine [] = Unit {0}
IsOneLine (byte ∷ bytes) = ((byte == 10) ≡ false) × IsOneLine bytes

-- what a script says, as the code holds it
abbrev pub scene_of : Script → Scene
scene_of script = record {
  session_id = script.session_id;
  max_inputs = script.max_inputs;
  config = script.config;
  accepted = script.verifier;
  queues = queues_in script.answers;
  tickets = script.tickets;
  inputs = script.inputs.items;
  moment = script.moment;
  stage = script.stage;
}

abbrev pub seen : Result Script ℕ → Result Scene ℕ
seen (Ok script) = Ok (scene_of script)
seen (Err number) = Err number
