use Rattle.std.proofs.Common.{rules, refl, inl, inr}
use Rattle.std.specs.String.{string_bytes}
use Rattle.ssh_script.specs.Transcript.{Unread, Unwritten, read_fault}
use Rattle.ssh_script.proofs.Endings.{shown, unwritten}
use Rattle.ssh_script.proofs.run.run_script.Goals as goal

pub returns-in-Ok-write_all-clause-ends : goal.returns-in-Ok-write_all-clause-ends
returns-in-Ok-write_all-clause-ends g c = shown _ _ _ _ _ _ c.in-Ok.report.status
    (string_bytes c.in-Ok.report.text) c.as_bytes.result.now c.in-Ok.ensures.owed
    c.as_bytes.ensures.value
    c.in-Ok-write_all.ensures.ok

pub returns-in-Ok-clause-ends : goal.returns-in-Ok-clause-ends
returns-in-Ok-clause-ends g c = unwritten _ _ _ _ _ _ c.in-Ok.report.status
    (string_bytes c.in-Ok.report.text) c.as_bytes.result.now c.in-Ok.ensures.owed
    c.as_bytes.ensures.value
    c.in-Err.ensures.cause c.in-Err.ensures.part

pub returns-in-Ok-write_all-2-clause-ends : goal.returns-in-Ok-write_all-2-clause-ends
returns-in-Ok-write_all-2-clause-ends g c = Unread refl (search rules)
    c.in-Ok-write_all-2.ensures.ok

pub returns-clause-ends : goal.returns-clause-ends
returns-clause-ends g c = Unwritten refl c.in-Err-write_all.ensures.cause read_fault
    (inr (search rules, refl)) c.in-Err-write_all.ensures.part

pub returns-in-Ok-clause-whole : goal.returns-in-Ok-clause-whole
returns-in-Ok-clause-whole g c = λ asks. inl (c.in-Ok.ensures.whole asks)

pub returns-in-Ok-write_all-clause-whole : goal.returns-in-Ok-write_all-clause-whole
returns-in-Ok-write_all-clause-whole g c = λ asks. inl (c.in-Ok.ensures.whole asks)
