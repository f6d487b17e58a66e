-- The laws of every run, as statements.
use Rattle.std.specs.Prelude.{◌≡◌, List, ◌++◌}
use Rattle.ssh_auth.specs.Publickey.{Acceptance}
use Rattle.ssh_rules.specs.Run.{Turn, Run}
use Rattle.ssh_rules.specs.World.{Settings, World, opening_world}
use Rattle.ssh_run_laws.specs.Accepted.{IsAccepted, IsNextAccepted}

-- after each input of a run the channels accepted the data of the commands that were accepted on
-- them, and no others
abbrev pub ChannelsAccept : (E F : Type 0) → Acceptance → Type 0
ChannelsAccept E F accepts = (settings : Settings) (turns : List (Turn E F)) (world : World)
    → Run accepts (opening_world settings) turns world → (earlier later : List (Turn E F))
    → turns ≡ earlier ++ later → IsAccepted accepts settings earlier

-- and so at each moment of one more input, as far as it came
abbrev pub NextAccepts : (E F : Type 0) → Acceptance → Type 0
NextAccepts E F accepts = (settings : Settings) (turns : List (Turn E F)) (world : World)
    → Run accepts (opening_world settings) turns world → (turn : Turn E F)
    → IsNextAccepted accepts world turns turn
