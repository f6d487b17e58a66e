-- What the program owes: its status, and the text that it writes.
use Rattle.std.specs.Prelude.{◌≡◌, ◌≢◌, ◌<◌, ◌≤◌, ◌^◌, ◌⊎◌, ℕ, List, [], ◌∷◌, ◌++◌, codes, flat_map}
use Rattle.std.specs.Prelude.{length, true, false, Option, Some}
use Rattle.std.specs.Prelude.{None, option_to_list, Result, Ok, Err}
use Rattle.std.specs.Fmt.{decimal}
use Rattle.ssh_link.specs.Told.{Adds}
use Rattle.ssh_link.specs.Faults.{RoseOrFull}
use Rattle.ssh_keys.specs.Tables.{IsListed}
use Rattle.ssh_link.specs.declared.plain_kex.PlainKexError.{PlainKexError}
use Rattle.ssh_link.specs.Supply.{Supply, left_until}
use Rattle.ssh_auth.specs.Publickey.{Acceptance}
use Rattle.ssh_handler.specs.declared.recorded.RecordError.TheVariants as record_error
use Rattle.ssh_rules.specs.declared.error.RunError.{RunError}
use Rattle.ssh_rules.specs.declared.error.RunError.TheVariants as error
use Rattle.ssh_rules.specs.World.{Settings, settings_of, World, opening_world}
use Rattle.ssh_rules.specs.Run.{Turn, Run, calls_of, steps_of, entries}
use Rattle.ssh_rules.specs.Account.{Closes}
use Rattle.ssh_script.specs.declared.task.Task.{Task}
use Rattle.ssh_script.specs.declared.task.Task.TheVariants as task
use Rattle.ssh_script.specs.Transfer.{IsAll, AddsPart}
use Rattle.ssh_scene.specs.Scene.{Scene, opening_scene, lines_of, Gives}
use Rattle.ssh_players.specs.Played.{Failure, IsAnswered}
use Rattle.ssh_players.specs.Exchanged.{IsExchanged}
use Rattle.ssh_players.specs.Given.{IsGiven}
use Rattle.ssh_transcript.specs.Print.{printed}
use Rattle.ssh_transcript.specs.Summary.{summary}
use Rattle.ssh_scene.specs.Generated.{generated}
use Rattle.ssh_scene.specs.Pieces.{BringsPieces}
use Rattle.ssh_script.specs.Files.{IsServed}
use Rattle.ssh_ends.specs.declared.event.EndEvent.{EndEvent}
use Rattle.ssh_scene_ends.specs.EventLines.{BringsEvents}
use Rattle.ssh_scene_ends.specs.Telling.{told_text}
use Rattle.ssh_scene_gateway.specs.Forwarding.{IsForwarded}
use Rattle.ssh_scene_gateway.specs.GatewayScene.{GatewayScene, BringsGateway}
use Rattle.ssh_auth.specs.declared.call.Call.{Call}
use Rattle.ssh_link.specs.declared.link.TraceEntry.{TraceEntry}

-- the status of a run: 0 where it is Ok, 1 where it ended by an error; want of memory has none
abbrev pub status_of : Result (Unit {0}) (RunError Failure PlainKexError) → Option ℕ
status_of (Ok done) = Some 0
status_of (Err error.NoMemory) = None
status_of (Err (error.Handler record_error.NoMemory)) = None
status_of (Err e) = Some 1

-- a script does not name the software of its peer, and its exchange of keys can be begun by this
-- side
abbrev pub scene_settings : Scene → Settings
scene_settings scene = settings_of scene.config scene.session_id [] true

-- the signatures that are accepted are those of the scene
abbrev pub scene_accepts : Scene → Acceptance
scene_accepts scene = IsListed scene.accepted

-- its inputs, of which none was given yet, and the end at its last moment
abbrev pub scene_supply : Scene → Supply
scene_supply scene = left_until scene.moment scene.inputs

-- what is written of a run: of its callbacks, of the calls of its link, and of how it ended
abbrev pub Writing : Type 0
Writing = List (Call Failure) → List TraceEntry → Result (Unit {0}) (RunError Failure PlainKexError)
    → List ℕ

-- this is the status and the text of a run of the scene, in which each callback is answered by the
-- scene, the keys are exchanged without cryptography, and each input is the scene's
pub record IsRun (writing : Writing) (scene : Scene) (status : ℕ) (text : List ℕ) : Type 0 where
  pub turns : List (Turn Failure PlainKexError)
  pub world : World
  pub run : Run (scene_accepts scene) (opening_world (scene_settings scene)) turns world
  pub last : Option (Turn Failure PlainKexError)
  pub result : Result (Unit {0}) (RunError Failure PlainKexError)
  -- a script's link has no faults
  pub closes : Closes (scene_accepts scene) world (length turns) scene.max_inputs last ⊥ result
  pub answered : IsAnswered scene.queues (flat_map calls_of (turns ++ option_to_list last))
  pub exchanged : IsExchanged false (flat_map steps_of (turns ++ option_to_list last))
  pub given : IsGiven (scene_supply scene) (flat_map entries (turns ++ option_to_list last))
  pub status_is : status_of result ≡ Some status
  pub text_is : text ≡ writing (flat_map calls_of (turns ++ option_to_list last))
      (flat_map entries (turns ++ option_to_list last)) result

-- the run is written line by line
abbrev pub line_by_line : Writing
line_by_line calls trace result = printed calls trace result

-- the run is written in numbers
abbrev pub in_numbers : Writing
in_numbers calls trace result = summary trace result

-- the status and the text of a script of which this was read, or which has this first bad line
abbrev pub ShowsBy : {A : Type 0} → (A → ℕ → List ℕ → Type 0) → Result A ℕ → ℕ → List ℕ → Type 0
ShowsBy shows (Ok one) status text = shows one status text
ShowsBy shows (Err number) status text = (status ≡ 2) × (text ≡ codes "bad line " ++ decimal number
    ++ codes "\n")

-- likewise where it has this scene
abbrev pub Shows : Result Scene ℕ → ℕ → List ℕ → Type 0
Shows read status text = ShowsBy (IsRun line_by_line) read status text

-- likewise where its lines bring a file server these pieces
abbrev pub ShowsFiles : Result (List (List ℕ)) ℕ → ℕ → List ℕ → Type 0
ShowsFiles read status text = ShowsBy IsServed read status text

-- likewise where its lines bring two ends these events
abbrev pub IsTold : (window packet : ℕ) → List EndEvent → ℕ → List ℕ → Type 0
IsTold window packet events status text = (status ≡ 0) × (text ≡ told_text window packet events)

abbrev pub ShowsEnds : (window packet : ℕ) → Result (List EndEvent) ℕ → ℕ → List ℕ → Type 0
ShowsEnds window packet read status text = ShowsBy (IsTold window packet) read status text

-- likewise where its lines bring a gateway this scene
abbrev pub ShowsGateway : Result GatewayScene ℕ → ℕ → List ℕ → Type 0
ShowsGateway read status text = ShowsBy IsForwarded read status text

-- the longest script
abbrev pub longest : ℕ
longest = 16777216

abbrev pub IsTooLong : List ℕ → Type 0
IsTooLong bytes = longest < length bytes

-- the status and the text of this script: it is too long, or its lines give this, or have a first
-- bad one
abbrev pub ScriptedBy : {A : Type 0} → (List (List ℕ) → Result A ℕ → Type 0)
    → (Result A ℕ → ℕ → List ℕ → Type 0) → List ℕ → ℕ → List ℕ → Type 0
ScriptedBy {A} gives shows bytes status text =
    (IsTooLong bytes × (status ≡ 2) × (text ≡ codes "script too long\n"))
    ⊎ ((length bytes ≤ longest)
    × (read : Result A ℕ) × gives (lines_of bytes) read
    × shows read status text)

-- the status and the text of this script, where it is run
abbrev pub Scripted : List ℕ → ℕ → List ℕ → Type 0
Scripted bytes status text = ScriptedBy (Gives 0 opening_scene) Shows bytes status text

-- the same where a file server is given it
abbrev pub FilesScripted : List ℕ → ℕ → List ℕ → Type 0
FilesScripted bytes status text = ScriptedBy BringsPieces ShowsFiles bytes status text

-- the same where it tells of two ends
abbrev pub EndsScripted : (window packet : ℕ) → List ℕ → ℕ → List ℕ → Type 0
EndsScripted window packet bytes status text =
    ScriptedBy BringsEvents (ShowsEnds window packet) bytes status text

-- the same where a gateway is given it
abbrev pub GatewayScripted : List ℕ → ℕ → List ℕ → Type 0
GatewayScripted bytes status text = ScriptedBy BringsGateway ShowsGateway bytes status text

-- the words that ask for a run, for a file server, for a gateway, for the usage line, and for the
-- version
abbrev pub run_words : List (List ℕ)
run_words = codes "run" ∷ []

abbrev pub sftp_words : List (List ℕ)
sftp_words = codes "sftp" ∷ []

abbrev pub gateway_words : List (List ℕ)
gateway_words = codes "gateway" ∷ []

abbrev pub help_words : List (List ℕ)
help_words = codes "--help" ∷ []

abbrev pub version_words : List (List ℕ)
version_words = codes "--version" ∷ []

-- the words that ask for a session of so many channels
abbrev pub generate_words : ℕ → List (List ℕ)
generate_words channels = codes "generate" ∷ decimal channels ∷ []

-- so many may be asked for
abbrev pub IsSize : ℕ → Type 0
IsSize channels = (0 < channels) × (channels ≤ 1000)

-- the words that ask for two ends, which give this window and take this packet size
abbrev pub ends_words : (window packet : ℕ) → List (List ℕ)
ends_words window packet = codes "ends" ∷ decimal window ∷ decimal packet ∷ []

abbrev pub AreWide : (window packet : ℕ) → Type 0
AreWide window packet = (window < 2 ^ 32) × (0 < packet) × (packet < 2 ^ 32)

-- words that ask for nothing
abbrev pub IsUnknown : List (List ℕ) → Type 0
IsUnknown words = (words ≢ run_words) × (words ≢ help_words) × (words ≢ version_words)
    × ((channels : ℕ) → IsSize channels → words ≢ generate_words channels)
    × (words ≢ sftp_words)
    × ((window packet : ℕ) → AreWide window packet → words ≢ ends_words window packet)
    × (words ≢ gateway_words)

-- these words ask for this
abbrev pub IsTask : Task → List (List ℕ) → Type 0
IsTask task.Run words = words ≡ run_words
IsTask task.ServeFiles words = words ≡ sftp_words
IsTask (task.Generate channels) words = IsSize channels × (words ≡ generate_words channels)
IsTask (task.JoinEnds window packet) words =
    AreWide window packet × (words ≡ ends_words window packet)
IsTask task.Forward words = words ≡ gateway_words
IsTask task.ShowUsage words = words ≡ help_words
IsTask task.ShowVersion words = words ≡ version_words
IsTask task.Refuse words = IsUnknown words

abbrev pub usage : List ℕ
usage = codes "usage: ssh_script run | generate <n> | threads <n> | sftp | ends <window> <packet> | gateway\n"

abbrev pub version : List ℕ
version = codes "ssh_script 0.1.0\n"

-- the status and the text of what was asked for, with this script
abbrev pub Does : Task → List ℕ → ℕ → List ℕ → Type 0
Does task.Run bytes status text = Scripted bytes status text
Does task.ServeFiles bytes status text = FilesScripted bytes status text
Does (task.Generate channels) bytes status text =
    IsRun in_numbers (generated channels) status text
Does (task.JoinEnds window packet) bytes status text =
    EndsScripted window packet bytes status text
Does task.Forward bytes status text = GatewayScripted bytes status text
Does task.ShowUsage bytes status text = (status ≡ 0) × (text ≡ usage)
Does task.ShowVersion bytes status text = (status ≡ 0) × (text ≡ version)
Does task.Refuse bytes status text = (status ≡ 2) × (text ≡ usage)

-- the status and the text of these words and this script
abbrev pub Transcript : List (List ℕ) → List ℕ → ℕ → List ℕ → Type 0
Transcript words bytes status text = (asked : Task) × IsTask asked words
    × Does asked bytes status text

-- a script that gives nothing: it is too long, or has a bad line
abbrev pub IsBadBy : {A : Type 0} → (List (List ℕ) → Result A ℕ → Type 0) → List ℕ → Type 0
IsBadBy gives bytes = IsTooLong bytes
    ⊎ ((number : ℕ) × gives (lines_of bytes) (Err number))

-- a script that is not run, one that no file server is given, one that tells of no two ends, and one
-- that no gateway is given
abbrev pub IsBadScript : List ℕ → Type 0
IsBadScript bytes = IsBadBy (Gives 0 opening_scene) bytes

abbrev pub IsBadStream : List ℕ → Type 0
IsBadStream bytes = IsBadBy BringsPieces bytes

abbrev pub IsBadTale : List ℕ → Type 0
IsBadTale bytes = IsBadBy BringsEvents bytes

abbrev pub IsBadGateway : List ℕ → Type 0
IsBadGateway bytes = IsBadBy BringsGateway bytes

-- words that ask for two ends
abbrev pub AskForEnds : List (List ℕ) → Type 0
AskForEnds words = (window packet : ℕ) × AreWide window packet × (words ≡ ends_words window packet)

-- words that ask for something, and a script that does not give it
abbrev pub IsMisused : List (List ℕ) → List ℕ → Type 0
IsMisused words bytes = ((words ≡ run_words) × IsBadScript bytes)
    ⊎ ((words ≡ sftp_words) × IsBadStream bytes)
    ⊎ (AskForEnds words × IsBadTale bytes)
    ⊎ ((words ≡ gateway_words) × IsBadGateway bytes)

-- the same of the bytes that are left in a source, where it tells them
abbrev pub Owed : List (List ℕ) → Option (List ℕ) → ℕ → List ℕ → Type 0
Owed words left status text = (bytes : List ℕ) × IsAll left bytes × Transcript words bytes status
    text

-- words that ask for what a script says
abbrev pub AskForScript : List (List ℕ) → Type 0
AskForScript words = (words ≡ run_words) ⊎ (words ≡ sftp_words) ⊎ AskForEnds words
    ⊎ (words ≡ gateway_words)

-- and words that do not
abbrev pub NoScript : List (List ℕ) → Type 0
NoScript words = (words ≢ run_words) × (words ≢ sftp_words) × (AskForEnds words → ⊥)
    × (words ≢ gateway_words)

-- a script was asked for, and its source failed
abbrev pub IsUnread : List (List ℕ) → ℕ → ℕ → Type 0
IsUnread words faults faults' = AskForScript words × RoseOrFull faults faults'

abbrev pub read_fault : List ℕ
read_fault = codes "read fault\n"

-- the reading was cut short: the source failed, or memory was wanting
abbrev pub IsCutShort : ℕ → ℕ → ℕ → Type 0
IsCutShort faults faults' status = ((2 < status) × RoseOrFull faults faults') ⊎ (status ≡ 5)

-- how the program ends, by its status: what is owed, that the source failed and that the sink did,
-- and what the sink
-- held before and after
pub data Ends (owed : ℕ → List ℕ → Type 0) (source_failed sink_failed : Type 0)
    (held held' : Option (List ℕ))
    (status : ℕ) : Type 0 where
  -- the whole text was written
  Shown : (text : List ℕ) → status < 3 → owed status text → Adds held held' text →
      Ends owed source_failed sink_failed held held' status
  -- the source failed
  Unread : status ≡ 3 → source_failed → Adds held held' read_fault →
      Ends owed source_failed sink_failed held held' status
  -- the sink failed, and a front of the text was written
  Unwritten : status ≡ 4 → sink_failed → (text : List ℕ) →
      (((s : ℕ) × owed s text) ⊎ (source_failed × (text ≡ read_fault))) → AddsPart held held' text →
      Ends owed source_failed sink_failed held held' status
  -- there was no memory, and nothing was written
  Starved : status ≡ 5 → Adds held held' [] → Ends owed source_failed sink_failed held held' status
