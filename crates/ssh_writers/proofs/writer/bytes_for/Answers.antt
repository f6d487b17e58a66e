use Rattle.std.proofs.Common.{◌∙◌}
use Rattle.ssh_writers.specs.Writers.{bytes_each}
use Rattle.ssh_writers.proofs.writer.bytes_for.Goals as goal

pub returns : goal.returns
unfolding bytes_each
returns c = c.in_ok-from_vec.ensures.ok ∙ c.in_ok-bytes.ensures.items_if_clones_equal (λ y h. h)
