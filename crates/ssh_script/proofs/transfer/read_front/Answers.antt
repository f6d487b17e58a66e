use Rattle.std.proofs.Common.{rules, inl}
use Rattle.ssh_script.proofs.Reading.{read_more, within_more, within_read, whole, front}
use Rattle.ssh_script.proofs.transfer.read_front.Goals as goal

pub returns-in_err-read_piece-clause-no_further : goal.returns-in_err-read_piece-clause-no_further
returns-in_err-read_piece-clause-no_further g c = within_more _ _ _ _ _ c.loop-source.invariant.read
    c.loop-source.invariant.within c.read_piece.ensures.no_further

pub returns-then-branch-eq0-clause-front : goal.returns-then-branch-eq0-clause-front
returns-then-branch-eq0-clause-front g c =
    front _ _ _ _ (read_more _ _ _ _ _ c.loop-source.invariant.read c.in_ok-read_piece.ensures.read)
    c.in_ok-read_piece.ensures.within (inl (c.in_ok-read_piece.ensures.end (search rules)))

pub returns-then-branch-eq0-clause-whole : goal.returns-then-branch-eq0-clause-whole
returns-then-branch-eq0-clause-whole g c =
    whole _ _ _ _ (read_more _ _ _ _ _ c.loop-source.invariant.read c.in_ok-read_piece.ensures.read)
    c.in_ok-read_piece.ensures.within (inl (c.in_ok-read_piece.ensures.end (search rules)))

pub returns-then-branch-eq0-clause-no_further : goal.returns-then-branch-eq0-clause-no_further
returns-then-branch-eq0-clause-no_further g c =
    within_read _ _ _ _ (read_more _ _ _ _ _ c.loop-source.invariant.read
    c.in_ok-read_piece.ensures.read) c.in_ok-read_piece.ensures.within
