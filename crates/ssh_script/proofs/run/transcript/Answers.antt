use Rattle.std.proofs.Common.{rules, map, refl}
use Rattle.ssh_script.specs.declared.task.Task.TheVariants as task
use Rattle.ssh_script.proofs.Endings.{owed_read, owed_served, owed_told, owed_forwarded}
use Rattle.ssh_script.proofs.Endings.{owed_alone}
use Rattle.ssh_script.proofs.TranscriptsOnce.{ask_for_none}
use Rattle.ssh_script.proofs.run.transcript.Goals as goal

pub returns-in_ok-show-in-Run-clause-owed : goal.returns-in_ok-show-in-Run-clause-owed
returns-in_ok-show-in-Run-clause-owed g c =
    owed_read _ _ c.in_ok-bytes-in-Run.bytes.items _ _ (search rules)
    c.in_ok-bytes-in-Run.ensures.front
    (rw c.as_slice.ensures.value at c.in_ok-show-in-Run.ensures)

pub returns-in_ok-show_files-in-ServeFiles-clause-owed :
    goal.returns-in_ok-show_files-in-ServeFiles-clause-owed
returns-in_ok-show_files-in-ServeFiles-clause-owed g c =
    owed_served _ _ c.in_ok-bytes-in-ServeFiles.bytes.items _ _ (search rules)
    c.in_ok-bytes-in-ServeFiles.ensures.front
    (rw c.deref.ensures.value at c.in_ok-show_files-in-ServeFiles.ensures)

pub returns-in_ok-show_ends-in-JoinEnds-clause-owed :
    goal.returns-in_ok-show_ends-in-JoinEnds-clause-owed
returns-in_ok-show_ends-in-JoinEnds-clause-owed g c =
    owed_told c.in-JoinEnds.window c.in-JoinEnds.packet _ _
    c.in_ok-bytes-in-JoinEnds.bytes.items _ _ (search rules)
    c.in_ok-bytes-in-JoinEnds.ensures.front
    (rw c.deref-in-JoinEnds.ensures.value at c.in_ok-show_ends-in-JoinEnds.ensures)

pub returns-in_ok-show_gateway-in-Forward-clause-owed :
    goal.returns-in_ok-show_gateway-in-Forward-clause-owed
returns-in_ok-show_gateway-in-Forward-clause-owed g c =
    owed_forwarded _ _ c.in_ok-bytes-in-Forward.bytes.items _ _ (search rules)
    c.in_ok-bytes-in-Forward.ensures.front
    (rw c.deref-in-Forward.ensures.value at c.in_ok-show_gateway-in-Forward.ensures)

pub returns-in_ok-generate-in-Generate-clause-owed :
    goal.returns-in_ok-generate-in-Generate-clause-owed
returns-in_ok-generate-in-Generate-clause-owed g c =
    owed_alone (task.Generate c.in-Generate.channels) _ _ _ _ (search rules)
    (λ bytes. c.in_ok-generate-in-Generate.ensures)

pub returns-in_ok-one_line-in-ShowUsage-clause-owed :
    goal.returns-in_ok-one_line-in-ShowUsage-clause-owed
returns-in_ok-one_line-in-ShowUsage-clause-owed g c =
    owed_alone task.ShowUsage _ _ _ _ (search rules)
    (λ bytes. (
      c.in_ok-one_line-in-ShowUsage.ensures.status,
      c.in_ok-one_line-in-ShowUsage.ensures.text,
    ))

pub returns-in_ok-one_line-in-ShowVersion-clause-owed :
    goal.returns-in_ok-one_line-in-ShowVersion-clause-owed
returns-in_ok-one_line-in-ShowVersion-clause-owed g c =
    owed_alone task.ShowVersion _ _ _ _ (search rules)
    (λ bytes. (
      c.in_ok-one_line-in-ShowVersion.ensures.status,
      c.in_ok-one_line-in-ShowVersion.ensures.text,
    ))

pub returns-in_ok-one_line-in-Refuse-clause-owed : goal.returns-in_ok-one_line-in-Refuse-clause-owed
returns-in_ok-one_line-in-Refuse-clause-owed g c =
    owed_alone task.Refuse _ _ _ _ (search rules)
    (λ bytes. (
      c.in_ok-one_line-in-Refuse.ensures.status,
      c.in_ok-one_line-in-Refuse.ensures.text,
    ))

pub returns-in_ok-generate-in-Generate-clause-whole :
    goal.returns-in_ok-generate-in-Generate-clause-whole
returns-in_ok-generate-in-Generate-clause-whole g c = λ asks. absurd
    (ask_for_none (task.Generate c.in-Generate.channels) (map (λ word. word.now) c.args.words.now)
    (search rules) refl asks)

pub returns-in_ok-one_line-in-ShowUsage-clause-whole :
    goal.returns-in_ok-one_line-in-ShowUsage-clause-whole
returns-in_ok-one_line-in-ShowUsage-clause-whole g c = λ asks. absurd
    (ask_for_none task.ShowUsage (map (λ word. word.now) c.args.words.now)
    (search rules) refl asks)

pub returns-in_ok-one_line-in-ShowVersion-clause-whole :
    goal.returns-in_ok-one_line-in-ShowVersion-clause-whole
returns-in_ok-one_line-in-ShowVersion-clause-whole g c = λ asks. absurd
    (ask_for_none task.ShowVersion (map (λ word. word.now) c.args.words.now)
    (search rules) refl asks)

pub returns-in_ok-one_line-in-Refuse-clause-whole :
    goal.returns-in_ok-one_line-in-Refuse-clause-whole
returns-in_ok-one_line-in-Refuse-clause-whole g c = λ asks. absurd
    (ask_for_none task.Refuse (map (λ word. word.now) c.args.words.now)
    (search rules) refl asks)
