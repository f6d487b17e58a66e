use Rattle.ssh_players.proofs.Queues.{rest_drop, rest_beyond}
use Rattle.ssh_players.proofs.queue.place_after.Goals as goal
use Rattle.std.proofs.Common.{arith}

pub returns-then-next-len : goal.returns-then-next-len
returns-then-next-len g c = rest_drop c.args.next c.args.items.now.items

pub returns-else-next-len : goal.returns-else-next-len
returns-else-next-len g c = rest_beyond c.args.next c.args.items.now.items (omega arith)
