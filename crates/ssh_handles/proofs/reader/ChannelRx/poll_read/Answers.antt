use Rattle.std.proofs.Common.{◌≡◌, ◌<◌, length, refl, ◌∙◌, arith, rules}
use Rattle.ssh_handles.specs.declared.reader.Found.TheVariants.{Data, End, Nothing}
use Rattle.ssh_handles.proofs.Finds.{finds_nothing, handed}
use Rattle.ssh_handles.proofs.reader.ChannelRx.poll_read.Goals as goal

pub returns-then-is_empty-clause-empty : goal.returns-then-is_empty-clause-empty
returns-then-is_empty-clause-empty g c = λ none. (refl, refl)

pub returns-then-is_empty-clause-entries : goal.returns-then-is_empty-clause-entries
returns-then-is_empty-clause-entries g c =
    let none : length c.args.buf.now ≡ 0 = search rules in λ some. absurd (omega arith)

pub returns-in-Data-clause-empty : goal.returns-in-Data-clause-empty
returns-in-Data-clause-empty g c =
    let some : 0 < length c.args.buf.now = search rules in λ none. absurd (omega arith)

pub returns-in-Data-clause-entries : goal.returns-in-Data-clause-entries
returns-in-Data-clause-entries g c = λ some. (
  Data c.in-Data.bytes,
  c.in-Data.ensures.entries,
  handed _ _ _ _ c.args.self.now.is_over _ c.hand_out.ensures.count c.hand_out.ensures.rest c.hand_out.ensures.front,
)

pub returns-in-End-clause-empty : goal.returns-in-End-clause-empty
returns-in-End-clause-empty g c =
    let some : 0 < length c.args.buf.now = search rules in λ none. absurd (omega arith)

pub returns-in-End-clause-entries : goal.returns-in-End-clause-entries
returns-in-End-clause-entries g c = λ some. (
  End,
  c.in-End.ensures.entries,
  (refl, c.in-End.ensures.unread, refl),
)

pub returns-in-Nothing-clause-empty : goal.returns-in-Nothing-clause-empty
returns-in-Nothing-clause-empty g c =
    let some : 0 < length c.args.buf.now = search rules in λ none. absurd (omega arith)

pub returns-in-Nothing-clause-entries : goal.returns-in-Nothing-clause-entries
returns-in-Nothing-clause-entries g c = λ some. (
  Nothing,
  c.in-Nothing.ensures.entries,
  (
    refl,
    c.in-Nothing.ensures.unread,
    c.in-Nothing.ensures.over
        ∙ finds_nothing _ _ _ _ _ _ c.in-Nothing.ensures.entries,
  ),
)
