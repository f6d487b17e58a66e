-- What the lines of a gateway's script say together.
use Rattle.std.specs.Prelude.{◌≡◌, ◌+◌, ◌⊎◌, ℕ, List, [], ◌∷◌, ◌++◌, Option, Some, None}
use Rattle.std.specs.Prelude.{Result, Ok, Err, IsUtf8, MatchOption}
use Rattle.ssh_gateway.specs.declared.policy.Reachable.{Reachable}
use Rattle.ssh_scene.specs.Grammar.{cut}
use Rattle.ssh_scene.specs.Scene.{Scene, opening_scene, scene_of, TakesIn}
use Rattle.ssh_scene.specs.declared.script.Stage.{Stage}
use Rattle.ssh_scene.specs.declared.script.Stage.TheVariants as stage
use Rattle.ssh_scene_gateway.specs.declared.hosts.HostLine.{HostLine}
use Rattle.ssh_scene_gateway.specs.declared.hosts.HostLine.TheVariants as says
use Rattle.ssh_scene_gateway.specs.declared.hosts.HostWord.{HostWord}
use Rattle.ssh_scene_gateway.specs.declared.reading.GatewayScript.{GatewayScript}
use Rattle.ssh_scene_gateway.specs.declared.targets.ScriptHost.{ScriptHost}
use Rattle.ssh_scene_gateway.specs.HostLines.{host_form, host_word, FitsHost}

-- what a script of a gateway says
pub record GatewayScene : Type 0 where
  -- what its other lines say, as those of a session
  pub session : Scene
  -- which hosts may be reached
  pub allowed : List Reachable
  -- the hosts that can be reached, with what each gives
  pub hosts : List ScriptHost

-- what no line says
abbrev pub opening_gateway : GatewayScene
opening_gateway = record { session = opening_scene; allowed = []; hosts = [] }

-- after what is said of a host
abbrev pub with_host : HostLine → GatewayScene → GatewayScene
with_host (says.Allow host port) s =
    record s { allowed = s.allowed ++ record { host = host; port = port } ∷ [] }
with_host (says.Target one) s = record s { hosts = s.hosts ++ one ∷ [] }

-- it stands before the first input; None where the line is bad
abbrev pub host_in : Stage → Option HostLine → GatewayScene → Option GatewayScene
host_in stage.Settings (Some said) s = Some (with_host said s)
host_in _ _ s = None

-- a line of a session
abbrev pub in_session : Option Scene → GatewayScene → Option GatewayScene
in_session None s = None
in_session (Some session) s = Some (record s { session = session })

abbrev pub TakesSession : GatewayScene → (text : List ℕ) → Option GatewayScene → Type 0
TakesSession s text next = (session : Option Scene) × TakesIn s.session text session
    × (next ≡ in_session session s)

-- the first word of a line that names a host, and what stands behind it
abbrev pub with_rest : Option HostWord → (rest : List ℕ) → Option (HostWord × List ℕ)
with_rest None rest = None
with_rest (Some word) rest = Some (word, rest)

abbrev pub host_words : Option (List ℕ × List ℕ) → Option (HostWord × List ℕ)
host_words None = None
host_words (Some parts) = with_rest (host_word parts.0) parts.1

-- none where it names none, or is no text in UTF-8
abbrev pub IsHostLine : (text : List ℕ) → Option (HostWord × List ℕ) → Type 0
IsHostLine text words = (IsUtf8 text × (words ≡ host_words (cut text)))
    ⊎ ((IsUtf8 text → ⊥) × (words ≡ None))

abbrev pub TakesWords : Option (HostWord × List ℕ) → GatewayScene → (text : List ℕ)
    → Option GatewayScene → Type 0
TakesWords None s text next = TakesSession s text next
TakesWords (Some (word, rest)) s text next = (said : Option HostLine)
    × FitsHost (host_form word rest) said × (next ≡ host_in s.session.stage said s)

-- the scene after one more line; None where it is bad, or may not stand here
abbrev pub TakesLine : GatewayScene → (text : List ℕ) → Option GatewayScene → Type 0
TakesLine s text next = (words : Option (HostWord × List ℕ)) × IsHostLine text words
    × TakesWords words s text next

-- behind so many lines, these bring this scene, or this is the number of the first bad one
abbrev pub BringsFrom : ℕ → GatewayScene → List (List ℕ) → Result GatewayScene ℕ → Type 0
BringsFrom done s [] read = read ≡ Ok s
BringsFrom done s (text ∷ lines) read = (next : Option GatewayScene) × TakesLine s text next
    × MatchOption next (read ≡ Err (done + 1)) (λ later. BringsFrom (done + 1) later lines read)

abbrev pub BringsGateway : List (List ℕ) → Result GatewayScene ℕ → Type 0
BringsGateway lines read = BringsFrom 0 opening_gateway lines read

-- as the code holds it
abbrev pub gateway_of : GatewayScript → GatewayScene
gateway_of script = record {
  session = scene_of script.session;
  allowed = script.policy;
  hosts = script.hosts.items;
}

abbrev pub gateway_seen : Result GatewayScript ℕ → Result GatewayScene ℕ
gateway_seen (Ok script) = Ok (gateway_of script)
gateway_seen (Err number) = Err number
