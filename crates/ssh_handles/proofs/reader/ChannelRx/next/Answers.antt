use Rattle.std.proofs.Common.{◌≡◌, ◌<◌, ◌∙◌, length, rules}
use Rattle.ssh_handles.proofs.Finds.{finds_unread, finds_end, finds_inbox, none_unread}
use Rattle.ssh_handles.proofs.reader.ChannelRx.next.Goals as goal

pub returns-then-self-clause-entries : goal.returns-then-self-clause-entries
returns-then-self-clause-entries g c =
    let none : length c.args.self.now.unread ≡ 0 = search rules in
    finds_end _ _ _ _ _ none c.if-self.true

pub returns-then-self-clause-unread : goal.returns-then-self-clause-unread
returns-then-self-clause-unread g c =
    let none : length c.args.self.now.unread ≡ 0 = search rules in none_unread _ none

pub returns-then-is_empty-clause-entries : goal.returns-then-is_empty-clause-entries
returns-then-is_empty-clause-entries g c =
    let none : length c.args.self.now.unread ≡ 0 = search rules in
    finds_inbox _ _ _ _ _ _ _ none c.if-self.false c.find.ensures.entries

pub returns-then-is_empty-clause-unread : goal.returns-then-is_empty-clause-unread
returns-then-is_empty-clause-unread g c =
    let none : length c.args.self.now.unread ≡ 0 = search rules in
    c.find.ensures.unread ∙ none_unread _ none

pub returns-clause-entries : goal.returns-clause-entries
returns-clause-entries g c =
    let some : 0 < length c.args.self.now.unread = search rules in
    finds_unread _ _ _ _ _ _ some c.replace.ensures.value
