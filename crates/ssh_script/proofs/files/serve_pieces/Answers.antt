use Rattle.std.proofs.Common.{rules, ◌≡◌, ◌∙◌, ◌+◌, [], sym, subst, drop}
use Rattle.std.specs.String.{string_bytes}
use Rattle.std.proofs.lemmas.List.{drop_all}
use Rattle.ssh_script.specs.Files.{AreServed}
use Rattle.ssh_script.proofs.FilesServed.{IsWrittenTo, next_left, piece_written, piece_ended}
use Rattle.ssh_script.proofs.FilesServed.{all_written}
use Rattle.ssh_script.proofs.files.serve_pieces.Goals as goal

pub returns-then-is_err : goal.returns-then-is_err
returns-then-is_err c =
    let next = next_left c.args.pieces.now c.loop-piece.piece-index c.piece-item.result
    c.as_slice.result.now c.loop-piece-test.true c.piece-item.is c.as_slice.ensures in
    let before = subst (λ z. IsWrittenTo c.args.pieces.now z c.loop-piece.server
    (string_bytes c.args.text.now) (string_bytes c.loop-piece.text)) next c.loop-piece.invariant in
    piece_ended c.args.pieces.now (drop (c.loop-piece.piece-index + 1) c.args.pieces.now)
    c.as_slice.result.now c.loop-piece.server c.serve_piece.new.server
    (string_bytes c.args.text.now) (string_bytes c.loop-piece.text)
    (string_bytes c.serve_piece.new.text) before c.in_ok-fed.fed
    (sym c.is_err.ensures.value ∙ c.if-is_err.true)
    (c.in_ok-fed.ensures before.so_far before.taken)

pub loop-piece-preserved : goal.loop-piece-preserved
loop-piece-preserved c =
    let next = next_left c.args.pieces.now c.loop-piece.piece-index c.piece-item.result
    c.as_slice.result.now c.loop-piece-test.true c.piece-item.is c.as_slice.ensures in
    let before = subst (λ z. IsWrittenTo c.args.pieces.now z c.loop-piece.server
    (string_bytes c.args.text.now) (string_bytes c.loop-piece.text)) next c.loop-piece.invariant in
    piece_written c.args.pieces.now (drop (c.loop-piece.piece-index + 1) c.args.pieces.now)
    c.as_slice.result.now c.loop-piece.server c.serve_piece.new.server
    (string_bytes c.args.text.now) (string_bytes c.loop-piece.text)
    (string_bytes c.serve_piece.new.text) before c.in_ok-fed.fed
    (sym c.is_err.ensures.value ∙ c.if-is_err.false)
    (c.in_ok-fed.ensures before.so_far before.taken)

pub returns : goal.returns
returns c =
    let done : drop c.loop-piece.piece-index c.args.pieces.now ≡ [] = search (rules, drop_all) in
    subst (λ ended. AreServed c.args.pieces.now ended (string_bytes c.args.text.now)
    (string_bytes c.loop-piece.text)) (sym c.end.ensures)
    (all_written c.args.pieces.now c.loop-piece.server (string_bytes c.args.text.now)
    (string_bytes c.loop-piece.text)
    (subst (λ z. IsWrittenTo c.args.pieces.now z c.loop-piece.server
    (string_bytes c.args.text.now) (string_bytes c.loop-piece.text)) done c.loop-piece.invariant))
