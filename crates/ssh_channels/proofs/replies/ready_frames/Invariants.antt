use Rattle.std.proofs.Common.{◌≡◌, ◌++◌, map}
use Rattle.std.specs.VecDeque.Iter.{deque_iter_rest}
use Rattle.ssh_channels.specs.Layout.{reply_frame}
use Rattle.ssh_channels.specs.Replies.{ready}
use Rattle.ssh_channels.proofs.replies.ready_frames.Given as goal

abbrev pub invariant-loop-reply : goal.invariant-loop-reply
invariant-loop-reply l =
    l.frames.items ++ map (reply_frame l.to.own.0 l.to.peer)
    (ready (deque_iter_rest l.reply-iterator))
    ≡ map (reply_frame l.to.own.0 l.to.peer) (ready l.unsent.items)
