use Rattle.std.proofs.Common.{Option, Ok, subst}
use Rattle.ssh_handles.specs.declared.channel.Channel.{Channel}
use Rattle.ssh_handles.specs.Handles.{handle_hub, handle_view, GivesChannel}
use Rattle.ssh_writers.proofs.writer.Writer.run.Goals as goal

pub write_on-requires-clause-new : goal.write_on-requires-clause-new
write_on-requires-clause-new g c =
    let given = subst (λ (o : Option Channel). GivesChannel (handle_hub c.new-handle.result)
    c.args.self.channel (handle_view c.new-handle.result) (Ok o) (handle_view c.channel.new.self))
    c.in-Ok-Some.field-0-is c.in-Ok-Some.ensures.entries in
    given.1.2.1.none_made
