use Rattle.std.proofs.Common.{rules, ◌≡◌, ◌+◌, ◌<◌, ◌++◌, List, ℕ, [], length, get_or, drop, Vec}
use Rattle.std.proofs.Common.{Global, ap, sym, subst, ◌∙◌}
use Rattle.std.specs.Prelude.{flat_map}
use Rattle.std.proofs.lemmas.Result.{err_from_is_err_and}
use Rattle.std.proofs.lemmas.List.{drop_more, drop_all}
use Rattle.ssh_sftp_core.specs.Files.{fresh}
use Rattle.ssh_sftp.specs.Replies.{Serves, RefusesAt}
use Rattle.ssh_sftp.proofs.First.{answered_is, refused_is}
use Rattle.ssh_sftp.proofs.Joined.{piece_served, piece_refused}
use Rattle.ssh_sftp.proofs.server.feed_all.Goals as goal

-- all bytes of these pieces
joined : List (Vec ℕ Global) → List ℕ
joined pieces = flat_map (λ piece. piece.items) pieces

-- the next piece stands in front of those that are left
next_piece : (pieces : List (Vec ℕ Global)) (i : ℕ) (next : Vec ℕ Global) (piece : List ℕ)
    → i < length pieces → next ≡ get_or pieces i next → piece ≡ next.items
    → joined (drop i pieces) ≡ piece ++ joined (drop (i + 1) pieces)
unfolding joined
next_piece pieces i next piece there is items =
    ap joined (drop_more pieces i next there)
    ∙ ap (λ z. z.items ++ joined (drop (i + 1) pieces)) (sym is)
    ∙ ap (λ z. z ++ joined (drop (i + 1) pieces)) (sym items)

pub returns-in_err-feed-clause-err : goal.returns-in_err-feed-clause-err
unfolding joined
returns-in_err-feed-clause-err c =
    let stream = joined c.args.pieces.now in
    let left = joined (drop (c.loop-piece.piece-index + 1) c.args.pieces.now) in
    let next = next_piece c.args.pieces.now c.loop-piece.piece-index c.piece-item.result
    c.deref.result.now c.loop-piece-test.true c.piece-item.is c.deref.ensures.value in
    let before = subst (λ z. Serves fresh stream c.loop-piece.server.files
    (c.loop-piece.server.rest ++ z) c.args.out.now.items c.loop-piece.out.items)
    next c.loop-piece.invariant.0 in
    let why = c.in_err-feed.field-0.0 in
    let refused = subst (λ z. RefusesAt z c.loop-piece.server.files
    (c.loop-piece.server.rest ++ c.deref.result.now) why c.loop-piece.out.items
    c.feed.new.out.items) c.loop-piece.invariant.2 c.in_err-feed.ensures.err in
    let p = err_from_is_err_and c.from_residual.result c.from_residual.ensures.1 in
    rw (p.1, p.2) (refused_is why stream c.args.out.now.items c.feed.new.out.items
    (piece_refused fresh c.loop-piece.server.files why stream c.loop-piece.server.rest
    c.deref.result.now left c.args.out.now.items c.loop-piece.out.items c.feed.new.out.items
    before refused))

pub loop-piece-preserved : goal.loop-piece-preserved
unfolding joined
loop-piece-preserved c =
    let stream = joined c.args.pieces.now in
    let left = joined (drop (c.loop-piece.piece-index + 1) c.args.pieces.now) in
    let next = next_piece c.args.pieces.now c.loop-piece.piece-index c.piece-item.result
    c.deref.result.now c.loop-piece-test.true c.piece-item.is c.deref.ensures.value in
    let before = subst (λ z. Serves fresh stream c.loop-piece.server.files
    (c.loop-piece.server.rest ++ z) c.args.out.now.items c.loop-piece.out.items)
    next c.loop-piece.invariant.0 in (
      piece_served fresh c.loop-piece.server.files c.feed.new.self.files stream
          c.loop-piece.server.rest c.deref.result.now left c.feed.new.self.rest
          c.args.out.now.items c.loop-piece.out.items c.feed.new.out.items before
          c.in_ok-feed.ensures.ok,
      c.in_ok-feed.ensures.partial,
      search rules,
    )

pub returns-clause-ok : goal.returns-clause-ok
unfolding joined
returns-clause-ok c =
    let stream = joined c.args.pieces.now in
    let done : drop c.loop-piece.piece-index c.args.pieces.now ≡ [] = search (rules, drop_all) in
    answered_is c.loop-piece.server.files stream c.loop-piece.server.rest c.args.out.now.items
    c.loop-piece.out.items
    (subst (λ z. Serves fresh stream c.loop-piece.server.files
    (c.loop-piece.server.rest ++ joined z) c.args.out.now.items c.loop-piece.out.items)
    done c.loop-piece.invariant.0) c.loop-piece.invariant.1
