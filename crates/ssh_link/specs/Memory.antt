-- The outsides in memory: what they still have, and which of their calls fail.
use Rattle.std.specs.Prelude.{◌+◌, ◌^◌, ◌==◌, ◌&&◌, ℕ, Bool, nat_lt, if◌then◌else◌, List, [], ◌∷◌}
use Rattle.std.specs.Prelude.{◌++◌}
use Rattle.std.specs.List.{list_any}
use Rattle.ssh_link.specs.declared.frame.Input.{Input}
use Rattle.ssh_link.specs.declared.link.LinkFault.{LinkFault}
use Rattle.ssh_link.specs.declared.link.LinkFault.TheVariants.{Failed, NoMemory}
use Rattle.ssh_link.specs.declared.link.TraceEntry.{TraceEntry}
use Rattle.ssh_link.specs.declared.link.TraceEntry.TheVariants.{Took}
use Rattle.ssh_link.specs.Faults.{one_more}
use Rattle.ssh_link.specs.Supply.{Supply, left_until, last_moment, next_input, after_next}

pub record Failures : Type 0 where
  -- the numbers of the calls that are to fail; the first call is number 1
  pub fails : List ℕ
  -- how many calls were made
  pub calls : ℕ
  -- how many of them failed
  pub faults : ℕ

-- before the first call
abbrev pub no_calls : List ℕ → Failures
no_calls fails = record { fails = fails; calls = 0; faults = 0 }

-- whether one more call still has a number
abbrev pub is_numbered : Failures → Bool
is_numbered f = nat_lt (f.calls + 1) (2 ^ 64)

-- whether the next call fails: its number is among those that are to fail
abbrev pub fails_next : Failures → Bool
fails_next f = is_numbered f && list_any (λ call. call == f.calls + 1) f.fails

-- after one more call, which failed where its number says so
abbrev pub called : Failures → Failures
called f =
    if is_numbered f
    then record f { calls = f.calls + 1; faults = if fails_next f then f.faults + 1 else f.faults }
    else f

-- what a link in memory has
pub record Remembered : Type 0 where
  -- the inputs that are left
  pub supply : Supply
  -- its calls that fail
  pub failures : Failures
  -- how many of its other calls found no memory
  pub starved : ℕ
  -- its finished calls in order
  pub trace : List TraceEntry

-- a link that has these inputs, and the end at this moment, and was not called yet
abbrev pub unused_until : ℕ → List Input → List ℕ → Remembered
unused_until moment inputs fails =
    record {
      supply = left_until moment inputs;
      failures = no_calls fails;
      starved = 0;
      trace = [];
    }

-- with the end at the moment of the last of them
abbrev pub unused : List Input → List ℕ → Remembered
unused inputs fails = unused_until (last_moment inputs) inputs fails

-- after a call that was not finished: it failed as planned, or found no memory
abbrev pub starved_by : LinkFault → ℕ → ℕ
starved_by Failed count = count
starved_by NoMemory count = one_more count

abbrev pub failed : LinkFault → Remembered → Remembered
failed fault link = record link {
  failures = called link.failures;
  starved = starved_by fault link.starved;
}

-- after a call that was finished, and told so
abbrev pub finished : Remembered → TraceEntry → Remembered
finished link entry =
    record link { failures = called link.failures; trace = link.trace ++ entry ∷ [] }

-- after the next input was given
abbrev pub gave : Bool → Bool → Remembered → Remembered
gave commands replies link =
    record (finished link (Took commands replies (next_input commands replies link.supply))) {
      supply = after_next commands replies link.supply;
    }

-- what a source in memory has
pub record Readable : Type 0 where
  -- the bytes that were not read yet
  pub left : List ℕ
  -- its calls that fail
  pub failures : Failures

-- what a sink in memory has
pub record Written : Type 0 where
  -- the bytes that were written
  pub held : List ℕ
  -- its calls that fail
  pub failures : Failures
  -- how many of its other calls found no memory
  pub starved : ℕ

-- after a call that failed as planned
abbrev pub refused : Written → Written
refused sink = record sink { failures = called sink.failures }

-- after a call for whose piece there was no memory
abbrev pub starved : Written → Written
starved sink = record sink { failures = called sink.failures; starved = one_more sink.starved }

-- after the whole piece was written
abbrev pub wrote : Written → List ℕ → Written
wrote sink piece = record sink { held = sink.held ++ piece; failures = called sink.failures }
