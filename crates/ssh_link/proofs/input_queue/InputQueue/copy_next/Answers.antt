use Rattle.std.proofs.Common.{◌∙◌, refl, sym, ap}
use Rattle.std.proofs.lemmas.Option.{slice_get_read}
use Rattle.std.proofs.lemmas.Result.{IfOk-weaker}
use Rattle.ssh_link.specs.Supply.{input_or_end}
use Rattle.ssh_link.proofs.Places.{found_at, found_nowhere, placed_within}
use Rattle.ssh_link.proofs.Turns.{asked, no_reply, no_command, reply_next, command_next, left_next}
use Rattle.ssh_link.proofs.input_queue.InputQueue.copy_next.Goals as goal

pub returns-in-Some-clause-ok : goal.returns-in-Some-clause-ok
returns-in-Some-clause-ok c =
    let copied = rw c.in-Some.is at c.in_ok-reply.ensures.ok in
    rw (sym c.self.view_is) (reply_next c.args.commands c.args.replies c.self.inside.replies.items
    c.self.inside.commands.items c.self.inside.left.items c.self.inside.end_moment _
    c.self.invariant.0 copied.0 copied.1)

pub returns-in-Some-2-clause-ok : goal.returns-in-Some-2-clause-ok
returns-in-Some-2-clause-ok c =
    let none = no_reply c.args.commands c.args.replies c.self.inside.replies.items
    c.self.invariant.0 (rw c.in_default.is at c.in_ok-reply.ensures.ok) in
    let copied = rw c.in-Some-2.is at c.in_ok-command.ensures.ok in
    rw (sym c.self.view_is) (command_next c.args.commands c.args.replies c.self.inside.replies.items
    c.self.inside.commands.items c.self.inside.left.items c.self.inside.end_moment _ none
    c.self.invariant.1 copied.0 copied.1)

pub returns-in-Some-asked_place-clause-ok : goal.returns-in-Some-asked_place-clause-ok
returns-in-Some-asked_place-clause-ok c =
    let none = no_reply c.args.commands c.args.replies c.self.inside.replies.items
    c.self.invariant.0 (rw c.in_default.is at c.in_ok-reply.ensures.ok) in
    let none' = no_command c.args.commands c.args.replies c.self.inside.commands.items
    c.self.invariant.1 (rw c.in_default-2.is at c.in_ok-command.ensures.ok) in
    let next = left_next c.args.commands c.args.replies c.self.inside.replies.items
    c.self.inside.commands.items c.self.inside.left.items c.self.inside.end_moment none none' in
    let found = found_at (asked c.args.commands c.args.replies) c.self.inside.left.items
    c.in-Some-asked_place.place (sym c.in-Some-asked_place.ensures) in
    let within = placed_within (asked c.args.commands c.args.replies) c.self.inside.left.items
    c.in-Some-asked_place.place (sym c.in-Some-asked_place.ensures) in
    let read = slice_get_read c.self.inside.left.items _ c.in-Some-asked_place.place _ refl within
    c.index.ensures in
    rw (sym c.self.view_is) (IfOk-weaker c.copy.result _ _
    (λ input e. e ∙ sym (next ∙ ap (λ one. input_or_end one c.self.inside.end_moment)
    (found ∙ read))) c.copy.ensures.ok)

pub returns-in-None-clause-ok : goal.returns-in-None-clause-ok
returns-in-None-clause-ok c =
    let none = no_reply c.args.commands c.args.replies c.self.inside.replies.items
    c.self.invariant.0 (rw c.in_default.is at c.in_ok-reply.ensures.ok) in
    let none' = no_command c.args.commands c.args.replies c.self.inside.commands.items
    c.self.invariant.1 (rw c.in_default-2.is at c.in_ok-command.ensures.ok) in
    let next = left_next c.args.commands c.args.replies c.self.inside.replies.items
    c.self.inside.commands.items c.self.inside.left.items c.self.inside.end_moment none none' in
    let found = found_nowhere (asked c.args.commands c.args.replies) c.self.inside.left.items
    (sym c.in-None.ensures) in
    rw (sym c.self.view_is) (c.end_at.ensures ∙ sym
    (next ∙ ap (λ one. input_or_end one c.self.inside.end_moment) found))
