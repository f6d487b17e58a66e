-- The large session that the word `generate` asks for: a user, channels, and data on each of them.
use Rattle.std.specs.Prelude.{ℕ, zero, suc, ◌+◌, ◌%◌, List, [], ◌∷◌, codes, replicate}
use Rattle.ssh_wire.specs.Messages.{written}
use Rattle.ssh_wire.specs.Messages as message
use Rattle.ssh_link.specs.declared.command.Command.TheVariants.{Data}
use Rattle.ssh_scene.specs.declared.answers.Verdict.TheVariants.{Accept}
use Rattle.ssh_scene.specs.declared.lines.InputLine.{InputLine}
use Rattle.ssh_scene.specs.declared.lines.InputLine.TheVariants.{Recv, Command}
use Rattle.ssh_scene.specs.Scene.{Scene, opening_scene, after_input}

-- a first request of method none is accepted
abbrev pub letting_in : Scene
letting_in = record opening_scene {
  queues = record opening_scene.queues { none = Accept ∷ [] };
}

-- the peer asks for authentication (RFC 4253 section 10)
abbrev pub service_line : InputLine
service_line = Recv (written message.service_request (codes "ssh-userauth", tt))

-- alice asks to be let in by the method none (RFC 4252 section 5)
abbrev pub none_line : InputLine
none_line = Recv (written message.userauth_request (
  codes "alice",
  (
    codes "ssh-connection",
    (codes "none", tt),
  ),
))

-- the peer opens a session of this number, takes 1048576 bytes on it, and 32768 in one message
-- (RFC 4254 section 5.1)
abbrev pub open_line : ℕ → InputLine
open_line peer = Recv (written message.channel_open (
  codes "session",
  (
    peer,
    (
      1048576,
      (32768, tt),
    ),
  ),
))

-- how many bytes are sent on each channel
unfoldable pub bytes_each : ℕ
bytes_each = 65536

-- bytes that tell the channels apart
abbrev pub data_for : ℕ → List ℕ
data_for peer = replicate bytes_each (peer % 251)

-- they are to be sent on the channel that the peer calls so; this side's numbers begin at 2
abbrev pub data_line : ℕ → InputLine
data_line peer = Command (Data (record { 0 = peer + 2 }) (data_for peer))

-- after a line for each of the numbers below this one
abbrev pub each_peer : (ℕ → InputLine) → ℕ → Scene → Scene
each_peer line zero scene = scene
each_peer line (suc peer) scene = after_input (line peer) (each_peer line peer scene)

-- so many channels are opened, and then data are sent on each
abbrev pub generated : ℕ → Scene
generated channels = each_peer data_line channels (each_peer open_line channels
    (after_input none_line (after_input service_line letting_in)))
