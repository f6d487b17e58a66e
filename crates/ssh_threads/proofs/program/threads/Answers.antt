use Rattle.std.proofs.Common.{◌≡◌, rules}
use Rattle.std.specs.String.{string_bytes}
use Rattle.ssh_threads.proofs.Showing.{shown, cut_short}
use Rattle.ssh_threads.proofs.program.threads.Goals as goal

pub returns-in-Ok-write_all : goal.returns-in-Ok-write_all
returns-in-Ok-write_all g c =
    let same : c.as_bytes.result.now ≡ string_bytes c.in-Ok-report.field-0.text = search rules in
    shown c.args.n _ _ _ _ _ c.in-Ok.run'.trace.items c.in-Ok.run'.outcome _
    c.in-Ok-report.field-0.status (string_bytes c.in-Ok-report.field-0.text) c.as_bytes.result.now
    _ _ _ c.in-Ok.ensures.ran c.in-Ok.ensures.cause c.deref.result.now c.deref.ensures.value
    c.in-Ok-report.ensures.status c.in-Ok-report.ensures.text same c.in-Ok-write_all.ensures.ok

pub returns : goal.returns
returns g c =
    let same : c.as_bytes.result.now ≡ string_bytes c.in-Ok-report.field-0.text = search rules in
    cut_short c.args.n _ _ _ _ _ c.in-Ok.run'.trace.items c.in-Ok.run'.outcome _
    c.in-Ok-report.field-0.status (string_bytes c.in-Ok-report.field-0.text) c.as_bytes.result.now
    _ _ _ c.in-Ok.ensures.ran c.in-Ok.ensures.cause c.deref.result.now c.deref.ensures.value
    c.in-Ok-report.ensures.status c.in-Ok-report.ensures.text same
    c.in-Err.ensures.cause c.in-Err.ensures.part
