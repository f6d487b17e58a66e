-- What a connection is, and what it does with an input.
use Rattle.std.specs.Prelude.{◌≡◌, [], List, Option, Some, Result}
use Rattle.ssh_keys.specs.Tables.{IsListed}
use Rattle.ssh_link.specs.declared.frame.Input.{Input}
use Rattle.ssh_auth.specs.declared.call.Call.{Call}
use Rattle.ssh_auth.specs.Publickey.{Acceptance}
use Rattle.ssh_handler.specs.declared.recorded.RecordError.{RecordError}
use Rattle.ssh_rules.specs.declared.error.Flow.{Flow}
use Rattle.ssh_rules.specs.declared.error.RunError.{RunError}
use Rattle.ssh_rules.specs.Account.{Told}
use Rattle.ssh_rules.specs.World.{Settings, World, opening_world}
use Rattle.ssh_session.specs.Between.{StepsAfter, untold}
use Rattle.ssh_session.specs.Serve.{Refines}
use Rattle.ssh_embed.specs.declared.connection.Connection.{Connection}
use Rattle.ssh_embed.specs.declared.policy.NoMemory.{NoMemory}

-- the callbacks of the last input, where they are told
abbrev pub called : Connection → Option (List (Call (RecordError NoMemory)))
called connection = connection.handler.told

-- the signatures that are accepted: those that its owner vouches for
abbrev pub accepted : Connection → Acceptance
accepted connection = IsListed connection.verifier

-- how an input went
abbrev pub Went : Type 0
Went = Result Flow (RunError (RecordError NoMemory) (Unit {0}))

-- the session is in this world, and the transport can begin an exchange of keys where that says so
abbrev pub IsIn : Connection → World → Type 0
IsIn connection w = Refines connection.session w
    × (w.settings.repeatable ≡ connection.kex.repeatable)

-- before the first input: nothing was told, and nobody is vouched for
abbrev pub IsOpened : Settings → Connection → Type 0
IsOpened settings connection = IsIn connection (opening_world settings)
    × (untold connection.session ≡ []) × (connection.outbox ≡ []) × (connection.verifier ≡ [])

-- before an input no callback of it was made and the exchange was asked nothing; what was told and
-- not taken out stands before what the input tells
abbrev pub told_before : Connection → Told (RecordError NoMemory) (Unit {0})
told_before connection = record {
  calls = Some [];
  steps = Some [];
  trace = Some connection.outbox;
  faults = 0;
}

abbrev pub told_after : Connection → Told (RecordError NoMemory) (Unit {0})
told_after connection = record {
  calls = called connection;
  steps = Some connection.kex.calls.items;
  trace = Some connection.outbox;
  faults = 0;
}

-- in each world that the session stands for, the input was taken as `Session::step` says, with
-- these callbacks, steps of the exchange, frames, notices and answers
abbrev pub Takes : Connection → Input → Connection → Went → Type 0
Takes before input after went = (w : World) → IsIn before w →
    StepsAfter (untold before.session) (accepted before) w input (told_before before)
    (told_after after) after.session went
