-- A link while a session runs over it.
use Rattle.std.specs.Prelude.{ℕ, List, Option}
use Rattle.ssh_link.specs.declared.link.TraceEntry.{TraceEntry}

-- what it tells, and how often its peer has failed
pub record Watched : Type 0 where
  pub trace : Option (List TraceEntry)
  pub faults : ℕ
