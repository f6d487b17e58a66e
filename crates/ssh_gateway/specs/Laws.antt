-- What the laws of every run say of the turns of a gateway.
use Rattle.std.specs.Prelude.{◌≡◌, not, ℕ, List, [], ◌∷◌, ◌++◌, flat_map, Option, None, true}
use Rattle.std.specs.Prelude.{false}
use Rattle.ssh_auth.specs.Publickey.{Acceptance}
use Rattle.ssh_link.specs.declared.command.Command.TheVariants.{Answer}
use Rattle.ssh_link.specs.declared.frame.InputKind.TheVariants.{OpenReply}
use Rattle.ssh_link.specs.declared.open_answer.OpenAnswer.{OpenAnswer}
use Rattle.ssh_link.specs.declared.outcome.CommandOutcome.TheVariants.{Accepted}
use Rattle.ssh_channels.specs.declared.chunk.DataKind.TheVariants.{Plain}
use Rattle.ssh_channels.specs.Entry.{tagged}
use Rattle.ssh_channels.specs.Layout.{chunk}
use Rattle.ssh_rules.specs.Run.{calls_of, who}
use Rattle.ssh_rules.specs.World.{Settings, World, opening_world}
use Rattle.ssh_run_laws.specs.Channels.{Stands, Waits, accepted_on, bytes_on, waits_on}
use Rattle.ssh_run_laws.specs.Deeds.{Commanded, Deed, deeds}
use Rattle.ssh_run_laws.specs.Users.{first_user}
use Rattle.ssh_gateway.specs.declared.deciding.Verdict.{Verdict}
use Rattle.ssh_gateway.specs.declared.deciding.Verdict.TheVariants.{Granted}
use Rattle.ssh_gateway.specs.declared.switchboard.Asking.{Asking}
use Rattle.ssh_gateway.specs.declared.switchboard.Connection.{Connection}
use Rattle.ssh_gateway.specs.declared.targets.TargetCall.{TargetCall}
use Rattle.ssh_gateway.specs.declared.targets.TargetCall.TheVariants as call
use Rattle.ssh_gateway.specs.Asked.{read}
use Rattle.ssh_gateway.specs.Board.{Board, opening_board}
use Rattle.ssh_gateway.specs.Choosing.{Permits, Source, Decides, allows, connects, is_prohibited}
use Rattle.ssh_gateway.specs.Choosing.{rejection}
use Rattle.ssh_gateway.specs.Turns.{Round, Rounds, target_calls}

-- ---- all that was done in these turns

-- the user of the first call that let one in (RFC 4252 section 5.1)
abbrev pub first_let_in : {E F : Type 0} → List (Round E F) → Option (List ℕ)
first_let_in rounds = first_user (flat_map (λ round. calls_of round.turn) rounds)

-- what was done that concerns channels, in order (RFC 4254 section 5)
abbrev pub all_deeds : {E F : Type 0} → List (Round E F) → List Deed
all_deeds rounds = flat_map (λ round. deeds round.turn) rounds

-- ---- the decision on an open

abbrev pub connect_of : TargetCall → List TargetCall
connect_of (call.Connect id host port answer) = call.Connect id host port answer ∷ []
connect_of _ = []

-- the connects among these calls
abbrev pub connects_made : List TargetCall → List TargetCall
connects_made calls = flat_map connect_of calls

-- the answer to an open (section 5.1)
abbrev pub answer_to : Asking → Verdict → OpenAnswer
answer_to asked verdict =
    record { channel = asked.channel; rejection = rejection verdict; texts = None }

-- it has one connect, with its host and its port, exactly where the policy allows that to this user,
-- and it is accepted exactly where the connect answered true
pub record IsDecidedBy {E F : Type 0} (permits : Permits) (user : Option (List ℕ)) (asked : Asking)
    (verdict : Verdict) (round : Round E F) : Type 0 where
  pub allowed : is_prohibited verdict ≡ not (allows permits user asked)
  pub id : ℕ
  pub connected : connects_made (target_calls round) ≡ connects id asked verdict
  pub ticket : ℕ
  pub replied : round.turn.input.kind ≡ OpenReply ticket (answer_to asked verdict)

-- a turn that decides no open connects to nothing
abbrev pub DecidesBy : {E F : Type 0} → Permits → (user : Option (List ℕ)) → Source → Round E F
    → Type 0
DecidesBy permits user (Decides asked verdict) round =
    IsDecidedBy permits user asked verdict round
DecidesBy permits user _ round = connects_made (target_calls round) ≡ []

-- ---- the channels

-- the session has each of these opens, and waits for its answer
abbrev pub AllWait : World → List Asking → Type 0
AllWait w [] = Unit {0}
AllWait w (asked ∷ more) = Waits asked.channel.0 w × AllWait w more

-- a connection stands as a channel: both sides agreed to it, no CLOSE of it was accepted, and an EOF
-- was exactly where its target has ended (section 5.3); and this channel accepted just these bytes,
-- as data (section 5.2)
abbrev pub Carries : World → (bytes : List ℕ) → Connection → Type 0
Carries w bytes one = Stands one.channel.0 one.target_ended w.channels.lines
    × (bytes_on one.channel.0 w.channels.lines ≡ tagged (chunk Plain bytes))

-- each of these does, with the bytes of its number
abbrev pub AllCarry : World → (bytes_of : ℕ → List ℕ) → List Connection → Type 0
AllCarry w bytes_of [] = Unit {0}
AllCarry w bytes_of (one ∷ more) = Carries w (bytes_of one.id) one × AllCarry w bytes_of more

-- after these turns
pub record ComesTo {E F : Type 0} (accepts : Acceptance) (permits : Permits) (settings : Settings)
    (rounds : List (Round E F)) : Type 0 where
  pub board : Board
  pub world : World
  pub run : Rounds accepts permits opening_board (opening_world settings) rounds board world
  -- the user who was let in is the one of the first call that let one in
  pub user : who world.user ≡ first_let_in rounds
  -- each open that is still to be decided waits for its answer
  pub undecided : AllWait world board.undecided
  -- any open that the handler was asked about waits until an answer of it is accepted
  pub waits : (number : ℕ) → waits_on number (all_deeds rounds) ≡ true → Waits number world
  -- the channel of each number, or the last one that had it, accepted the data of the commands that
  -- were accepted there since it was opened, one after another
  pub bytes : (number : ℕ)
      → bytes_on number world.channels.lines ≡ accepted_on number (all_deeds rounds)
  -- each connection of the board stands as a channel, which accepted just the bytes that were read
  -- from the target of that connection
  pub connections : AllCarry world (λ id. read id (flat_map target_calls rounds)) board.connections

-- behind these turns one accepts an open: its answer is accepted, and the channel stands
pub record IsOpened {E F : Type 0} (accepts : Acceptance) (permits : Permits) (settings : Settings)
    (rounds : List (Round E F)) (round : Round E F) (asked : Asking) : Type 0 where
  pub done : deeds round.turn ≡ Commanded (Answer (answer_to asked Granted)) Accepted ∷ []
  pub board : Board
  pub world : World
  pub run : Rounds accepts permits opening_board (opening_world settings) (rounds ++ round ∷ [])
      board world
  pub stands : Stands asked.channel.0 false world.channels.lines
