use Rattle.ssh_messages.proofs.Heads.{head_items}
use Rattle.ssh_messages.proofs.own_open_frames.open_head.Goals as goal

pub returns-clause-ok : goal.returns-clause-ok
returns-clause-ok c =
    head_items c.new-payload.result.items c.put_u8.new.out.items c.put_text.new.out.items
    c.put_u32.new.out.items c.put_u32-2.new.out.items c.put_u32-3.new.out.items _ _ _ _
    c.new-payload.ensures.items c.in_ok-put_u8.ensures.ok c.in_ok-put_text.ensures.ok
    c.in_ok-put_u32.ensures.ok c.in_ok-put_u32-2.ensures.ok
    c.in_ok-put_u32-3.ensures.ok
