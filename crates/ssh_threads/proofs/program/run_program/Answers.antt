use Rattle.ssh_threads.proofs.Showing.{asked_for, ends_for, full, no_script}
use Rattle.ssh_threads.proofs.program.run_program.Goals as goal

pub returns-in-Ok-Some-clause-threads : goal.returns-in-Ok-Some-clause-threads
returns-in-Ok-Some-clause-threads g c = λ n few is.
    let asked = asked_for c.in-Ok-Some.field-0 c.in-Ok-Some.n _ c.in-Ok-Some.field-0-is
    c.in-Ok-Some.ensures in
    ends_for c.in-Ok-Some.n n _ _ _ _ _ _ _ _ _ _ asked.0 asked.1 c.threads.ensures few is

pub returns-in-Ok-Some-clause-full : goal.returns-in-Ok-Some-clause-full
returns-in-Ok-Some-clause-full g c = λ n few is done.
    let asked = asked_for c.in-Ok-Some.field-0 c.in-Ok-Some.n _ c.in-Ok-Some.field-0-is
    c.in-Ok-Some.ensures in
    full n _ _ _ _ _ _ _ _ _ done
    (ends_for c.in-Ok-Some.n n _ _ _ _ _ _ _ _ _ _ asked.0 asked.1 c.threads.ensures few is)

pub returns-in-Ok-Some-clause-whole : goal.returns-in-Ok-Some-clause-whole
returns-in-Ok-Some-clause-whole g c = λ asks.
    let asked = asked_for c.in-Ok-Some.field-0 c.in-Ok-Some.n _ c.in-Ok-Some.field-0-is
    c.in-Ok-Some.ensures in
    absurd (no_script c.in-Ok-Some.n _ asked.1 asks)
