-- The lines of a gateway's script that name hosts: how they are written, and what they say.
use Rattle.std.specs.Prelude.{◌≡◌, ◌⊎◌, ℕ, List, codes, bytes_eq, if◌then◌else◌}
use Rattle.std.specs.Prelude.{Option, Some, None}
use Rattle.ssh_scene.specs.Grammar.{IsSmall, IsHex, IsTextHex, cut}
use Rattle.ssh_scene_gateway.specs.declared.hosts.HostLine.{HostLine}
use Rattle.ssh_scene_gateway.specs.declared.hosts.HostLine.TheVariants as says
use Rattle.ssh_scene_gateway.specs.declared.hosts.HostWord.{HostWord}
use Rattle.ssh_scene_gateway.specs.declared.hosts.HostWord.TheVariants as word

-- what a line is by its words
pub data HostForm : Type 0 where
  -- no line has these words
  No_form : HostForm
  -- its words say this
  Just : HostLine → HostForm
  -- these digits write a text, and by it this is what the line is
  By_text : (next : List ℕ → HostForm) → (digits : List ℕ) → HostForm
  -- these digits write a number below 2^32, and by it this is what the line is
  By_small : (next : ℕ → HostForm) → (digits : List ℕ) → HostForm
  -- these digits write the bytes of which it speaks
  By_bytes : (says : List ℕ → HostLine) → (digits : List ℕ) → HostForm

-- allow, a host and a port
abbrev pub allow_words : Option (List ℕ × List ℕ) → HostForm
allow_words None = No_form
allow_words (Some parts) =
    By_text (λ host. By_small (λ port. Just (says.Allow host port)) parts.1) parts.0

-- target, a host, a port and bytes
abbrev pub target_words : (host : List ℕ) → Option (List ℕ × List ℕ) → HostForm
target_words host None = No_form
target_words host (Some parts) = By_small (λ port. By_bytes (λ bytes.
    says.Target (record { host = host; port = port; bytes = bytes })) parts.1) parts.0

abbrev pub target_form : Option (List ℕ × List ℕ) → HostForm
target_form None = No_form
target_form (Some parts) = By_text (λ host. target_words host (cut parts.1)) parts.0

-- by its first word
abbrev pub host_form : HostWord → (rest : List ℕ) → HostForm
host_form word.Allow rest = allow_words (cut rest)
host_form word.Target rest = target_form (cut rest)

-- the first words of such lines
abbrev pub host_word : List ℕ → Option HostWord
host_word first =
    if bytes_eq first (codes "allow") then Some word.Allow
    else if bytes_eq first (codes "target") then Some word.Target
    else None

-- a line of this form says this; None says that it is bad
abbrev pub FitsHost : HostForm → Option HostLine → Type 0
FitsHost No_form said = said ≡ None
FitsHost (Just one) said = said ≡ Some one
FitsHost (By_text next digits) said =
    ((text : List ℕ) × IsTextHex digits text × FitsHost (next text) said)
    ⊎ (((text : List ℕ) → IsTextHex digits text → ⊥) × (said ≡ None))
FitsHost (By_small next digits) said =
    ((n : ℕ) × IsSmall digits n × FitsHost (next n) said)
    ⊎ (((n : ℕ) → IsSmall digits n → ⊥) × (said ≡ None))
FitsHost (By_bytes says digits) (Some said) =
    (bytes : List ℕ) × IsHex digits bytes × (said ≡ says bytes)
FitsHost (By_bytes says digits) None = (bytes : List ℕ) → IsHex digits bytes → ⊥
