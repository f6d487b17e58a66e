-- What bytes that came in make of a table (RFC 4254 section 5.2).
use Rattle.std.proofs.Common.{◌≡◌, ◌-◌, ◌/◌, ◌++◌, ℕ, List, true, false, Some, nat_lt}
use Rattle.std.proofs.Common.{refl, sym, ◌∙◌, ap}
use Rattle.std.specs.Map.{set_value}
use Rattle.std.specs.BTreeMap.{is_at}
use Rattle.std.specs.Ordering.{nat_cmp}
use Rattle.ssh_link.specs.Frames.{Frame}
use Rattle.ssh_channels.specs.declared.params.ChannelParams.{ChannelParams}
use Rattle.ssh_channels.specs.declared.adjusted.Adjusted.{Adjusted}
use Rattle.ssh_channels.specs.declared.adjusted.Adjusted.TheVariants.{Dropped, Kept, Granted}
use Rattle.ssh_channels.specs.Window as window
use Rattle.ssh_channels.specs.Table.{Table, line_at}
use Rattle.ssh_channels.specs.Calls.{adjust}
use Rattle.ssh_channels.proofs.Lines.{acted}

pub dropped : (count target : ℕ) (l : ChannelParams) → window.fits count l ≡ false →
    window.adjusting count target l ≡ Dropped
dropped count target l f = rw f refl

pub kept : (count target : ℕ) (l : ChannelParams) → window.fits count l ≡ true →
    nat_lt (l.sender_window_size - count) (target / 2) ≡ false →
    window.adjusting count target l ≡ Kept
kept count target l f h = rw f (rw h refl)

pub granted : (count target : ℕ) (l : ChannelParams) → window.fits count l ≡ true →
    nat_lt (l.sender_window_size - count) (target / 2) ≡ true →
    window.adjusting count target l ≡ Granted (target - (l.sender_window_size - count))
granted count target l f h = rw f (rw h refl)

-- where this is the answer, the channel is now that one
pub adjusted_to : (n count target : ℕ) (t : Table) (l l' : ChannelParams) (a : Adjusted)
    (lines : List (ℕ × ChannelParams)) (staged : List Frame) → Some l ≡ line_at n t →
    window.adjusting count target l ≡ a → l' ≡ window.room_after a count target l →
    lines ≡ set_value (is_at (nat_cmp n)) t.lines l' →
    staged ≡ t.staged ++ window.adjust_frames a n l →
    record { lines = lines; pending = t.pending; last = t.last; staged = staged }
    ≡ adjust n count target t
adjusted_to n count target t l l' a lines staged h e k s f =
    acted (λ x. true) (window.adjusted_frames n count target)
    (λ x. Some (window.adjusted count target x)) n t l l' lines staged h refl
    (ap (λ x. Some (window.room_after x count target l)) e ∙ ap (λ x. Some x) (sym k))
    s (f ∙ ap (λ x. t.staged ++ window.adjust_frames x n l) (sym e))
