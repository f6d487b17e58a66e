use Rattle.ssh_handles.proofs.Ordered.{in_order}
use Rattle.ssh_handles.proofs.laws.bytes_in_order.Goals as goal

pub returns : goal.returns
returns c = in_order
