use Rattle.std.proofs.Common.{◌≡◌, ◌++◌, bytes_eq, ap, ◌∙◌}
use Rattle.ssh_link.proofs.Parted.{either_way}
use Rattle.ssh_link.proofs.frame.have_same_payload.Goals as goal

pub returns-else-head-other_head : goal.returns-else-head-other_head
returns-else-head-other_head c =
    let payload = c.args.frame.now.payload in let other = c.args.other.now.payload in
    c.are_same_joined-else-head-other_head.ensures
    ∙ ap (λ l. bytes_eq l (c.parts.result.0.now ++ c.parts.result.1.now)) c.parts-2.ensures.payload
    ∙ ap (bytes_eq other) c.parts.ensures.payload ∙ either_way other payload
