use Rattle.std.proofs.Common.{Some, rules, ap, sym, ◌∙◌}
use Rattle.std.specs.Map.{set_value}
use Rattle.std.specs.BTreeMap.{is_at}
use Rattle.std.specs.Ordering.{nat_cmp}
use Rattle.ssh_channels.specs.Line as line
use Rattle.ssh_channels.specs.Calls as calls
use Rattle.ssh_channels.proofs.Lines.{passed, same_table}
use Rattle.ssh_channels.proofs.Noting.{same_waiting, other_waiting}
use Rattle.ssh_channels.proofs.table.Encrypted.settle.Goals as goal

pub invariant_of-self-then-not-owes_reply : goal.invariant_of-self-then-not-owes_reply
invariant_of-self-then-not-owes_reply c =
    same_waiting c.args.channel.0 c.self.inside.lines.entries _ c.in-Some.line.now _
    c.in-Some.ensures.value
    (c.get_mut.follows.holds c.in-Some.line.now).0 c.self.invariant

pub returns-then-not-owes_reply-clause-table : goal.returns-then-not-owes_reply-clause-table
returns-then-not-owes_reply-clause-table c =
    let n = c.args.channel.0 in
    let place = c.args.place in
    let success = c.args.success in
    passed (line.owes_reply place) (line.reply_frames n place success)
    (λ l. Some (line.replied place success l)) n _ c.in-Some.line.now _ c.in-Some.ensures.value
    (sym c.if-not-owes_reply.ensures) (c.get_mut.follows.holds c.in-Some.line.now).0
    ∙ ap (calls.settle n place success) c.self.view_is

pub invariant_of-self-in_err-settle_reply : goal.invariant_of-self-in_err-settle_reply
invariant_of-self-in_err-settle_reply c =
    same_waiting c.args.channel.0 c.self.inside.lines.entries _ c.in-Some.line.now _
    c.in-Some.ensures.value
    ((c.get_mut.follows.holds c.settle_reply.new.self).0
    ∙ ap (set_value (is_at (nat_cmp c.args.channel.0)) c.self.inside.lines.entries)
    c.in_err-settle_reply.ensures.unchanged)
    c.self.invariant

pub returns-in_err-settle_reply-clause-unchanged : goal.returns-in_err-settle_reply-clause-unchanged
returns-in_err-settle_reply-clause-unchanged c =
    let e = same_table c.args.channel.0 _ _ _ c.in-Some.line.now c.in-Some.ensures.value
    ((c.get_mut.follows.holds c.settle_reply.new.self).0
    ∙ ap (set_value (is_at (nat_cmp c.args.channel.0)) c.self.inside.lines.entries)
    c.in_err-settle_reply.ensures.unchanged)
    c.in_err-settle_reply.ensures.kept ∙ c.self.view_is in
    search (rules, e)

pub invariant_of-self-2 : goal.invariant_of-self-2
invariant_of-self-2 c =
    let l = c.in-Some.line.now in
    other_waiting c.args.channel.0 c.self.inside.lines.entries _ l c.settle_reply.new.self
    c.self.inside.waiting.keys
    c.in-Some.ensures.value
    (c.get_mut.follows.holds c.settle_reply.new.self).0 c.self.invariant
    (sym (ap line.something_waits c.in_ok-settle_reply.ensures.line))
