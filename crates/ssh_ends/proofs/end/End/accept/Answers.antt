use Rattle.std.proofs.Common.{◌≡◌, ◌∙◌, ap, sym, subst}
use Rattle.ssh_link.specs.Frames.{Frame}
use Rattle.ssh_channels.specs.Numbers.{next_number, accept_next}
use Rattle.ssh_channels.specs.Table.{Table}
use Rattle.ssh_channels.specs.Calls.{stage}
use Rattle.ssh_ends.specs.End.{EndTable, accepts_under, confirmation_frame_of, with_table}
use Rattle.ssh_ends.proofs.Numbering.{one_number}
use Rattle.ssh_ends.proofs.end.End.accept.Goals as goal

pub returns-clause-accepted : goal.returns-clause-accepted
returns-clause-accepted c =
    let e = c.self.inside in
    let n = c.in_ok-accept.field-0.0 in
    let sender = c.args.sender in
    let come = accept_next sender c.args.window e.window c.args.packet e.packet e.table in
    let side : Table → EndTable =
    λ t. record { table = t; window = e.window; packet = e.packet } in
    let own : c.in-Some.own.0 ≡ n =
    one_number (next_number e.table) _ _ c.in-Some.ensures.number c.in_ok-accept.ensures.number in
    let frame : c.in_ok-frame.frame ≡ confirmation_frame_of n sender e.window e.packet =
    c.in_ok-frame.ensures.ok ∙ ap (λ m. confirmation_frame_of m sender e.window e.packet) own in
    subst (λ (s : EndTable). record {
      table = c.accept.new.self;
      window = e.window;
      packet = e.packet;
    } ≡ with_table (accepts_under (next_number s.table) sender c.args.window c.args.packet s) s)
    c.self.view_is
    (ap side
    (c.in_ok-accept.ensures.table
    ∙ (ap (λ (f : Frame). stage f come) frame
    ∙ ap (λ next. accepts_under next sender c.args.window c.args.packet (side e.table))
    (sym c.in_ok-accept.ensures.number))))
