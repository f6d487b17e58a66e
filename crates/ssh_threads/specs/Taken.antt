-- What a seat took out of the hub, in a history.
use Rattle.std.specs.Prelude.{ℕ, List, [], ◌∷◌, ◌++◌}
use Rattle.ssh_link.specs.declared.frame.InputKind.{InputKind}
use Rattle.ssh_hub.specs.History.{calls_by}
use Rattle.ssh_hub.specs.declared.history.Entry.{Entry}
use Rattle.ssh_hub_link.specs.Given.{taken_by}

-- what these calls took, in order
abbrev pub taken_in : List Entry → List InputKind
taken_in [] = []
taken_in (entry ∷ log) = taken_by entry.call entry.reply ++ taken_in log

-- what the seat of this number took
abbrev pub taken_of : ℕ → List Entry → List InputKind
taken_of number log = taken_in (calls_by number log)
