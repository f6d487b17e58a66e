-- What a session lends to a callback.
use Rattle.std.specs.Prelude.{◌≡◌, ℕ, Bool, Option, List, [], ◌∷◌, ◌++◌, Result, Ok, Err}
use Rattle.ssh_link.specs.declared.command.Command.{Command}
use Rattle.ssh_channels.specs.Table.{Table}
use Rattle.ssh_handler.specs.declared.config.Config.{Config}

pub record Loan : Type 0 where
  -- the commands that were recorded so far, in order
  pub recorded : List Command
  -- the channels of the connection (RFC 4254 section 5)
  pub table : Table
  -- how the server is set up
  pub config : Config
  -- the line by which the peer's software named itself (RFC 4253 section 4.2)
  pub remote_sshid : List ℕ
  -- commands, and answers to opens, are taken from outside
  pub commands_wanted : Bool
  pub replies_wanted : Bool
  -- the name of the user who was let in (RFC 4252 section 5), where it is told
  pub user : Option (List ℕ)

-- a callback may be lent it: nothing is recorded yet, and the server and the peer suit
abbrev pub IsLent : (suits : Config → List ℕ → Type 0) → Loan → Type 0
IsLent suits loan = (loan.recorded ≡ []) × suits loan.config loan.remote_sshid

-- the command was recorded, behind the others; or it came back, for want of memory, and nothing
-- changed
abbrev pub TakesDown : Loan → Loan → Result (Unit {0}) Command → Command → Type 0
TakesDown old new (Ok done) command = new ≡ record old { recorded = old.recorded ++ command ∷ [] }
TakesDown old new (Err back) command = (back ≡ command) × (new ≡ old)
