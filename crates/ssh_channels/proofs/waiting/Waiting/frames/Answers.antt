use Rattle.std.proofs.Common.{◌≡◌, ◌++◌, ◌≤◌, ◌-◌, length, map, ap, sym, ◌∙◌, rules, arith}
use Rattle.std.specs.VecDeque.Iter.{deque_iter_rest}
use Rattle.ssh_channels.specs.Layout.{data_frame}
use Rattle.ssh_channels.specs.Cut.{piece_limit, cut}
use Rattle.ssh_channels.proofs.Cuts.{cut_step}
use Rattle.ssh_channels.proofs.waiting.Waiting.frames.Goals as goal

pub loop-chunk-preserved : goal.loop-chunk-preserved
loop-chunk-preserved c =
    let f = data_frame c.args.to.own.0 c.args.to.peer in
    let limit = piece_limit c.args.packet in
    let covered = c.loop-chunk.covered in
    let x = c.in-Some.chunk.now in
    let cs = deque_iter_rest c.next.new.self in
    let b : c.in_ok-bytes.bytes ≡ x.bytes = search rules in
    let n : length c.in_ok-bytes.bytes ≡ length x.bytes = ap length b in
    let h : length x.bytes ≤ covered = omega (
      arith,
      n,
      c.len.ensures.value,
      c.if-covered-len.false,
    ) in
    let e : covered - c.len-covered.result ≡ covered - length x.bytes =
    omega (arith, n, c.len-covered.ensures.value) in
    cut_step f limit covered (covered - c.len-covered.result) x cs c.loop-chunk.frames.items
    c.push_pieces-in-loop-chunk.new.frames.items _ h e
    (search (rules, b, c.in_ok-push_pieces-2.ensures.ok))
    (ap (λ k. c.loop-chunk.frames.items ++ map f (cut limit covered k))
    (sym c.in-Some.ensures.steps)
    ∙ c.loop-chunk.invariant)
