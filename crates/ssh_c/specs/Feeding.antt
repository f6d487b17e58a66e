-- What a handle does with an input, and what it tells.
use Prim.Native.Nat.{zero, suc}
use Rattle.std.specs.Prelude.{◌≡◌, ◌⊎◌, ◌<◌, ℕ, List, ◌∷◌, Option, Some, None, Err}
use Rattle.ssh_link.specs.declared.frame.Input.{Input}
use Rattle.ssh_link.specs.declared.frame.InputKind.{InputKind}
use Rattle.ssh_link.specs.declared.frame.InputKind.TheVariants as kind
use Rattle.ssh_link.specs.declared.open_answer.OpenAnswer.{OpenAnswer}
use Rattle.ssh_link.specs.declared.command.Command.{Command}
use Rattle.ssh_link.specs.declared.link.TraceEntry.{TraceEntry}
use Rattle.ssh_rules.specs.declared.error.RunError.TheVariants as error
use Rattle.ssh_rules.specs.World.{Settings}
use Rattle.ssh_embed.specs.declared.connection.Connection.{Connection}
use Rattle.ssh_embed.specs.Asking.{VouchesForOne}
use Rattle.ssh_embed.specs.Story.{Came, Adds, Round}
use Rattle.ssh_embed.specs.Taking.{Went, IsOpened, Takes}
use Rattle.ssh_c.specs.declared.held.Held.{Held}
use Rattle.ssh_c.specs.Codes.{code_of, IsUndone}
use Rattle.ssh_c.specs.Telling.{Carries}

-- a payload that comes at this moment
abbrev pub payload_at : (moment : ℕ) → (payload : List ℕ) → Input
payload_at moment payload = record { moment = moment; kind = kind.Payload payload }

-- a command that comes at this moment under this ticket
abbrev pub command_at : (moment ticket : ℕ) → Command → Input
command_at moment ticket command = record { moment = moment; kind = kind.Command ticket command }

-- an answer to an open that comes at this moment under this ticket
abbrev pub reply_at : (moment ticket : ℕ) → OpenAnswer → Input
reply_at moment ticket answer = record { moment = moment; kind = kind.OpenReply ticket answer }

-- what comes at this moment
abbrev pub input_at : (moment : ℕ) → InputKind → Input
input_at moment what = record { moment = moment; kind = what }

-- the signature that this payload shows is vouched for
abbrev pub VouchedBy : Input → Connection → Connection → Type 0
VouchedBy input before after = (payload : List ℕ) × (input.kind ≡ kind.Payload payload)
    × VouchesForOne input.moment payload before after

-- whatever became of the connection by its inputs so far, this one adds to it: what it calls and
-- tells is there to be taken out, and nothing of it is served before an accepted authentication (RFC
-- 4252 section 6)
abbrev pub AddsTo : Connection → Connection → Input → Connection → Went → Type 0
AddsTo before mid input after went = (settings : Settings) (rounds : List Round)
    → Came settings rounds before → Adds settings rounds mid input after went

-- the input was taken, with a signature vouched for or without; or there was no memory, and nothing
-- happened
abbrev pub Feeds : Held → Input → Held → Went → Type 0
Feeds before input after went = ((after ≡ before) × (went ≡ Err error.NoMemory))
    ⊎ ((mid : Connection)
    × ((mid ≡ before.connection) ⊎ VouchedBy input before.connection mid)
    × Takes mid input after.connection went
    × AddsTo before.connection mid input after.connection went)

-- the same for callers that are told a number
abbrev pub FedNow : Held → Input → Held → (code : ℕ) → Type 0
FedNow before input after code = ((after ≡ before) × IsUndone code)
    ⊎ ((went : Went) × (code ≡ code_of went) × Feeds before input after went)

-- the same of a handle; one without a connection is as it was
abbrev pub Fed : Option Held → Input → Option Held → (code : ℕ) → Type 0
Fed (Some before) input (Some after) code = FedNow before input after code
Fed (Some before) input None code = ⊥
Fed None input after code = (after ≡ None) × (code ≡ 13)

-- where this is something, what it is comes as an input; else nothing is done
abbrev pub DoesWhere : {A : Type 0} → Option A → (A → Input) → Option Held → Option Held
    → (code : ℕ) → Type 0
DoesWhere (Some thing) input before after code = Fed before (input thing) after code
DoesWhere None input before after code = (after ≡ before) × (code ≡ 15)

-- some command comes, or nothing is done
abbrev pub SaysNow : (moment ticket : ℕ) → Held → Held → (code : ℕ) → Type 0
SaysNow moment ticket before after code = ((after ≡ before) × IsUndone code)
    ⊎ ((command : Command) × FedNow before (command_at moment ticket command) after code)

-- the same of a handle
abbrev pub DoesSome : (moment ticket : ℕ) → Option Held → Option Held → (code : ℕ) → Type 0
DoesSome moment ticket (Some before) (Some after) code = SaysNow moment ticket before after code
DoesSome moment ticket (Some before) None code = ⊥
DoesSome moment ticket None after code = (after ≡ None) × (code ≡ 13)

-- a connection before its first input
abbrev pub HoldsOpened : Settings → Option Held → Type 0
HoldsOpened settings (Some held) = IsOpened settings held.connection
HoldsOpened settings None = ⊥

-- the first entry of the outbox was taken out, and what it carries stands at the start of these bytes
abbrev pub TakesOut : Connection → Connection → (bytes : List ℕ) → (length : ℕ) → Type 0
TakesOut before after bytes length = (entry : TraceEntry)
    × (before.outbox ≡ entry ∷ after.outbox)
    × (before ≡ record after { outbox = before.outbox }) × Carries entry bytes length

-- one more callback, or more, of the last input counts as told, and nothing else has changed
abbrev pub TellsCall : Held → Held → Type 0
TellsCall before after = (after.connection ≡ before.connection) × (before.told < after.told)

-- something was told where this is 0, and else nothing has changed
abbrev pub Tells : Held → Held → (bytes : List ℕ) → (length code : ℕ) → Type 0
Tells before after bytes length zero =
    TellsCall before after ⊎ TakesOut before.connection after.connection bytes length
Tells before after bytes length (suc code) = after ≡ before

-- the same of a handle
abbrev pub Told : Option Held → Option Held → (bytes : List ℕ) → (length code : ℕ) → Type 0
Told (Some before) (Some after) bytes length code = Tells before after bytes length code
Told (Some before) None bytes length code = ⊥
Told None after bytes length code = (after ≡ None) × (code ≡ 13)
