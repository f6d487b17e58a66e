use Rattle.std.proofs.Common.{◌≡◌, [], None, ◌∙◌, sym, ap, rules}
use Rattle.std.specs.List.{slice_get}
use Rattle.ssh_link.specs.Supply.{input_or_end}
use Rattle.ssh_link.proofs.Turns.{no_reply, no_command, command_next, command_taken, seen}
use Rattle.ssh_link.proofs.Turns.{left_given, end_given}
use Rattle.ssh_link.proofs.input_queue.InputQueue.give_next.Goals as goal

pub returns-in-Some-take_asked-clause-input : goal.returns-in-Some-take_asked-clause-input
returns-in-Some-take_asked-clause-input c =
    let none = no_reply c.args.commands c.args.replies c.self.inside.replies.items
    c.self.invariant.0 c.in_default.ensures.taken.0 in
    rw (sym c.self.view_is) (command_next c.args.commands c.args.replies c.self.inside.replies.items
    c.self.inside.commands.items c.self.inside.left.items c.self.inside.end_moment _ none
    c.self.invariant.1 c.in-Some-take_asked.ensures.taken.0
    (ap (λ l. slice_get l 0) c.in-Some-take_asked.ensures.taken.1))

pub returns-in-Some-take_asked-clause-after : goal.returns-in-Some-take_asked-clause-after
returns-in-Some-take_asked-clause-after c =
    let none = no_reply c.args.commands c.args.replies c.self.inside.replies.items
    c.self.invariant.0 c.in_default.ensures.taken.0 in
    rw (sym c.self.view_is, c.in_default.ensures.taken.1)
    (command_taken c.args.commands c.args.replies c.self.inside.replies.items
    c.self.inside.commands.items _ c.self.inside.left.items c.self.inside.end_moment
    c.in-Some-take_asked.command none c.self.invariant.1 c.in-Some-take_asked.ensures.taken.0
    c.in-Some-take_asked.ensures.taken.1)

pub returns-clause-input : goal.returns-clause-input
returns-clause-input c =
    let none = no_reply c.args.commands c.args.replies c.self.inside.replies.items
    c.self.invariant.0 c.in_default.ensures.taken.0 in
    let none' = no_command c.args.commands c.args.replies c.self.inside.commands.items
    c.self.invariant.1 c.in_default-take_asked.ensures.taken.0 in
    let passed = rw (c.in_default.ensures.taken.1, c.in_default-take_asked.ensures.taken.1) at
    (c.self-2.view_is ∙ c.pass_over.ensures) in
    rw (sym c.self.view_is) (left_given c.args.commands c.args.replies
    (seen c.self.inside.replies.items c.self.inside.commands.items c.self.inside.left.items
    c.self.inside.end_moment) (seen c.self-2.inside.replies.items c.self-2.inside.commands.items
    c.self-2.inside.left.items c.self-2.inside.end_moment) _ _ none none' passed
    c.in-Some-pop_front.ensures.items).0

pub returns-clause-after : goal.returns-clause-after
returns-clause-after c =
    let none = no_reply c.args.commands c.args.replies c.self.inside.replies.items
    c.self.invariant.0 c.in_default.ensures.taken.0 in
    let none' = no_command c.args.commands c.args.replies c.self.inside.commands.items
    c.self.invariant.1 c.in_default-take_asked.ensures.taken.0 in
    let passed = rw (c.in_default.ensures.taken.1, c.in_default-take_asked.ensures.taken.1) at
    (c.self-2.view_is ∙ c.pass_over.ensures) in
    rw (sym c.self.view_is) (left_given c.args.commands c.args.replies
    (seen c.self.inside.replies.items c.self.inside.commands.items c.self.inside.left.items
    c.self.inside.end_moment) (seen c.self-2.inside.replies.items c.self-2.inside.commands.items
    c.self-2.inside.left.items c.self-2.inside.end_moment) _ _ none none' passed
    c.in-Some-pop_front.ensures.items).1

pub returns-in_default-pop_front-clause-input : goal.returns-in_default-pop_front-clause-input
returns-in_default-pop_front-clause-input c =
    let none = no_reply c.args.commands c.args.replies c.self.inside.replies.items
    c.self.invariant.0 c.in_default.ensures.taken.0 in
    let none' = no_command c.args.commands c.args.replies c.self.inside.commands.items
    c.self.invariant.1 c.in_default-take_asked.ensures.taken.0 in
    let passed = rw (c.in_default.ensures.taken.1, c.in_default-take_asked.ensures.taken.1) at
    (c.self-2.view_is ∙ c.pass_over.ensures) in
    let empty : c.self-2.inside.left.items ≡ [] = search rules in
    rw (sym c.self.view_is) (c.end_at.ensures ∙ ap (λ s. input_or_end None s.end_moment) passed
    ∙ (end_given c.args.commands c.args.replies
    (seen c.self.inside.replies.items c.self.inside.commands.items c.self.inside.left.items
    c.self.inside.end_moment) (seen c.self-2.inside.replies.items c.self-2.inside.commands.items
    c.self-2.inside.left.items c.self-2.inside.end_moment) none none' passed empty).0)

pub returns-in_default-pop_front-clause-after : goal.returns-in_default-pop_front-clause-after
returns-in_default-pop_front-clause-after c =
    let none = no_reply c.args.commands c.args.replies c.self.inside.replies.items
    c.self.invariant.0 c.in_default.ensures.taken.0 in
    let none' = no_command c.args.commands c.args.replies c.self.inside.commands.items
    c.self.invariant.1 c.in_default-take_asked.ensures.taken.0 in
    let passed = rw (c.in_default.ensures.taken.1, c.in_default-take_asked.ensures.taken.1) at
    (c.self-2.view_is ∙ c.pass_over.ensures) in
    let empty : c.self-2.inside.left.items ≡ [] = search rules in
    rw (sym c.self.view_is, sym c.in_default-pop_front.ensures.items)
    (end_given c.args.commands c.args.replies (seen c.self.inside.replies.items
    c.self.inside.commands.items c.self.inside.left.items c.self.inside.end_moment)
    (seen c.self-2.inside.replies.items c.self-2.inside.commands.items
    c.self-2.inside.left.items c.self-2.inside.end_moment) none none' passed empty).1
