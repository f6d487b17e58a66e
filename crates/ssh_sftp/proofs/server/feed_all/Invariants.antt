use Rattle.std.proofs.Common.{◌≡◌, ◌++◌, drop, false}
use Rattle.std.specs.Prelude.{flat_map}
use Rattle.ssh_sftp_core.specs.Files.{fresh}
use Rattle.ssh_sftp.specs.Packets.{IsPartial}
use Rattle.ssh_sftp.specs.Replies.{Serves}
use Rattle.ssh_sftp.proofs.server.feed_all.Given as goal

-- all pieces were answered up to what is kept and the pieces that are left
abbrev pub invariant-loop-piece : goal.invariant-loop-piece
invariant-loop-piece l =
    Serves fresh (flat_map (λ piece. piece.items) l.pieces) l.server.files
    (l.server.rest ++ flat_map (λ piece. piece.items) (drop l.piece-index l.pieces))
    l.fn.out.items l.out.items
    × IsPartial l.server.rest × (l.server.failed ≡ false)
