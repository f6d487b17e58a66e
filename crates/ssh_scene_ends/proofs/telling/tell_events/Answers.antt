use Rattle.std.proofs.Common.{rules}
use Rattle.std.specs.String.{string_bytes}
use Rattle.ssh_scene_ends.proofs.Counting.{told_whole}
use Rattle.ssh_scene_ends.proofs.telling.tell_events.Goals as goal

pub returns : goal.returns
returns c =
    told_whole c.args.window c.args.packet c.args.events c.in-Ok.deliveries c.as_slice.result.now
    (string_bytes c.new-text.result) (string_bytes c.print_deliveries.new.text)
    (string_bytes c.push_str.new.self) c.requires.few c.in-Ok.ensures.ran (search rules)
    (search rules) (search rules) (search rules)
