use Rattle.std.proofs.Common.{◌≡◌, true, Some, inl, inr, sym, drop}
use Rattle.ssh_auth.specs.declared.asked.AskedMethod.TheVariants as told
use Rattle.ssh_auth.proofs.AsTold.{response_asked}
use Rattle.ssh_wire.specs.declared.error.WireError.TheVariants.{NoMemory}
use Rattle.ssh_auth.proofs.Telling.{unfit_response}
use Rattle.ssh_auth.proofs.asked.asked_by_response.Goals as goal

pub returns-else-is_memory-clause-asked : goal.returns-else-is_memory-clause-asked
returns-else-is_memory-clause-asked c =
    let why = c.in-Err.e in
    let other : why ≡ NoMemory → ⊥ = λ is. let yes : c.is_memory.result ≡ true = c.is_memory.ensures.1
    is in cc in
    let misfit = rw c.fields_of.ensures at c.in-Err.ensures in
    elim misfit [
      | inl memory ↦ absurd (other memory)
      | inr unfit ↦ unfit_response c.args.auth.now _
          (c.in-Some.user.now, c.in-Some.submethods.now) why c.in-Some.ensures unfit
    ]

pub returns-else-is_memory-clause-serving : goal.returns-else-is_memory-clause-serving
returns-else-is_memory-clause-serving c = returns-else-is_memory-clause-asked c

pub returns-in-Ok-clause-serving : goal.returns-in-Ok-clause-serving
returns-in-Ok-clause-serving c =
    response_asked c.args.auth.now (drop 1 c.args.payload.now) c.in-Some.user.now
    (told.KeyboardInteractive c.in-Some.submethods (Some c.in-Ok.responses))
    (sym c.in-Some.ensures, rw c.fields_of.ensures at c.in-Ok.ensures)
