-- What is written of two ends.
use Rattle.std.specs.Prelude.{ℕ, List, ◌++◌, codes, flat_map}
use Rattle.std.specs.Fmt.{decimal}
use Rattle.ssh_ends.specs.Story.{told}
use Rattle.ssh_ends.specs.declared.end.Delivered.{Delivered}
use Rattle.ssh_ends.specs.declared.event.EndEvent.{EndEvent}
use Rattle.ssh_ends.specs.declared.event.Side.{Side}
use Rattle.ssh_ends.specs.declared.event.Side.TheVariants.{A, B}
use Rattle.ssh_transcript.specs.Words.{hex_text}

abbrev pub side_name : Side → List ℕ
side_name A = codes "a"
side_name B = codes "b"

-- the side that delivers, its channel, and the bytes
abbrev pub delivery_line : Side × Delivered → List ℕ
delivery_line delivery = side_name delivery.0 ++ codes " " ++ decimal delivery.1.channel.0
    ++ codes " " ++ hex_text delivery.1.bytes ++ codes "\n"

-- a line for each delivery of these events, in order, and that all is well
abbrev pub told_text : (window packet : ℕ) → List EndEvent → List ℕ
told_text window packet events = flat_map delivery_line (told window packet events) ++ codes "ok\n"
