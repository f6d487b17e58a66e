use Rattle.std.proofs.Common.{◌≡◌, ◌∙◌, ap, subst}
use Rattle.ssh_link.specs.Frames.{Frame}
use Rattle.ssh_channels.specs.Numbers.{next_number, open_next}
use Rattle.ssh_channels.specs.Table.{Table}
use Rattle.ssh_channels.specs.Calls.{stage}
use Rattle.ssh_ends.specs.End.{EndTable, open_frame_of, opens, with_table}
use Rattle.ssh_ends.proofs.Numbering.{one_number}
use Rattle.ssh_ends.proofs.end.End.open.Goals as goal

pub returns-clause-opened : goal.returns-clause-opened
returns-clause-opened c =
    let e = c.self.inside in
    let own : c.in-Some.own.0 ≡ c.in_ok-new_channel_with.field-0.0 =
    one_number (next_number e.table) _ _ c.in-Some.ensures.number
    c.in_ok-new_channel_with.ensures.number in
    let frame : c.in_ok-frame.frame
    ≡ open_frame_of c.in_ok-new_channel_with.field-0.0 e.window e.packet =
    c.in_ok-frame.ensures.ok ∙ ap (λ n. open_frame_of n e.window e.packet) own in
    subst (λ (s : EndTable). record {
      table = c.new_channel_with.new.self;
      window = e.window;
      packet = e.packet;
    } ≡ with_table (opens c.in_ok-new_channel_with.field-0.0 s) s) c.self.view_is
    (ap (λ (t : Table). record { table = t; window = e.window; packet = e.packet })
    (c.in_ok-new_channel_with.ensures.table
    ∙ ap (λ (f : Frame). stage f (open_next e.window e.packet e.table)) frame))
