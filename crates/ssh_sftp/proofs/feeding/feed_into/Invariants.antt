use Rattle.std.proofs.Common.{◌++◌, length}
use Rattle.ssh_sftp.specs.Packets.{IsPartial}
use Rattle.ssh_sftp.specs.Replies.{Serves}
use Rattle.ssh_sftp.proofs.feeding.feed_into.Given as goal

-- what came was answered up to what is kept and what is left of the piece
abbrev pub invariant-loop-left : goal.invariant-loop-left
invariant-loop-left l =
    Serves l.fn.files (l.fn.rest.items ++ l.fn.piece) l.files (l.rest.items ++ l.left)
    l.fn.out.items l.out.items
    × IsPartial l.rest.items

abbrev pub decreases-loop-left : goal.decreases-loop-left
decreases-loop-left l = length l.left
