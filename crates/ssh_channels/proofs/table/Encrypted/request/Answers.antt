use Rattle.std.proofs.Common.{◌≡◌, [], Some, false, rules, refl, ap, sym, ◌∙◌}
use Rattle.std.specs.Map.{set_value}
use Rattle.std.specs.BTreeMap.{is_at}
use Rattle.std.specs.Ordering.{nat_cmp}
use Rattle.ssh_channels.specs.Line as line
use Rattle.ssh_channels.specs.Calls as calls
use Rattle.ssh_channels.proofs.Lines.{passed, same_table}
use Rattle.ssh_channels.proofs.Noting.{same_waiting, other_waiting}
use Rattle.ssh_channels.proofs.table.Encrypted.request.Goals as goal

pub invariant_of-self-then-not-line : goal.invariant_of-self-then-not-line
invariant_of-self-then-not-line c =
    same_waiting c.args.channel.0 c.self.inside.lines.entries _ c.in-Some.line.now _
    c.in-Some.ensures.value
    (c.get_mut.follows.holds c.in-Some.line.now).0 c.self.invariant

pub returns-then-not-line-clause-table : goal.returns-then-not-line-clause-table
returns-then-not-line-clause-table c =
    let l = c.in-Some.line.now in
    let e : line.is_established l ≡ false = search rules in
    passed line.is_established (λ k. []) (λ k. Some (line.requested k)) c.args.channel.0 _ l _
    c.in-Some.ensures.value e (c.get_mut.follows.holds l).0
    ∙ ap (calls.request c.args.channel.0) c.self.view_is

pub invariant_of-self-in_err-place : goal.invariant_of-self-in_err-place
invariant_of-self-in_err-place c =
    same_waiting c.args.channel.0 c.self.inside.lines.entries _ c.in-Some.line.now _
    c.in-Some.ensures.value
    ((c.get_mut.follows.holds c.want_reply.new.self).0
    ∙ ap (set_value (is_at (nat_cmp c.args.channel.0)) c.self.inside.lines.entries)
    c.in_err-place.ensures.unchanged)
    c.self.invariant

pub returns-in_err-place-clause-unchanged : goal.returns-in_err-place-clause-unchanged
returns-in_err-place-clause-unchanged c =
    let e = same_table c.args.channel.0 _ _ c.self.inside.staged.items c.in-Some.line.now
    c.in-Some.ensures.value
    ((c.get_mut.follows.holds c.want_reply.new.self).0
    ∙ ap (set_value (is_at (nat_cmp c.args.channel.0)) c.self.inside.lines.entries)
    c.in_err-place.ensures.unchanged)
    refl ∙ c.self.view_is in
    search (rules, e)

pub invariant_of-self-2 : goal.invariant_of-self-2
invariant_of-self-2 c =
    let l = c.in-Some.line.now in
    other_waiting c.args.channel.0 c.self.inside.lines.entries _ l c.want_reply.new.self
    c.self.inside.waiting.keys
    c.in-Some.ensures.value
    (c.get_mut.follows.holds c.want_reply.new.self).0 c.self.invariant
    (sym (ap line.something_waits c.in_ok-place.ensures.line))
