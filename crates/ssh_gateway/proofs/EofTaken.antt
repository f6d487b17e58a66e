-- A channel that may send stands on when its EOF is accepted (RFC 4254 section 5.3).
use Rattle.std.proofs.Common.{◌≡◌, ◌&&◌, ◌||◌, ◌∙◌, ℕ, List, [], ◌++◌, Bool, true, false, cond}
use Rattle.std.proofs.Common.{Option, Some, None, refl, sym, ap, subst}
use Rattle.ssh_link.specs.Frames.{Frame}
use Rattle.ssh_channels.specs.Entry.{Entry, after_eof, all_framed, closes_now, eof_out, more_may_come}
use Rattle.ssh_channels.specs.Lines.{Lines, closes, find, put, settles, takes_eof, turns, where_found}
use Rattle.ssh_channels.proofs.Listed.{find_again, found_number, found_put}
use Rattle.ssh_run_laws.specs.Channels.{Stands, StandsSo}

abbrev Ending : Entry → Entry
Ending e = record e { eof = true }

now_step : (now : Bool) (n : ℕ) (e : Entry) (l : Lines) (frames : List Frame) → now ≡ false
    → find n l.entries ≡ Some e → e.confirmed ≡ true → e.close ≡ false
    → Stands n true (cond now (closes (after_eof (Ending e)) false frames l)
    (turns (after_eof (Ending e)) frames l))
now_step true n e l frames is at confirmed close = absurd (cc)
now_step false n e l frames is at confirmed close = (
  after_eof (Ending e),
  subst (λ k. find k (put (after_eof (Ending e)) l.entries) ≡ Some (after_eof (Ending e)))
      (found_number n l.entries e at)
      (found_put (after_eof (Ending e)) l.entries e (find_again n l.entries e at)),
  (confirmed, close, refl),
)

may_step : (may : Bool) (n : ℕ) (e : Entry) (l : Lines) → may ≡ true → find n l.entries ≡ Some e
    → e.confirmed ≡ true → e.close ≡ false
    → Stands n true (cond may (settles (Ending e) [] l) l)
may_step true n e l is at confirmed close =
    now_step (closes_now (Ending e)) n e l (eof_out (Ending e))
    (ap (λ b. b && all_framed (Ending e)) close) at confirmed close
may_step false n e l is at confirmed close = absurd (cc)

found_step : (o : Option Entry) (n : ℕ) (e : Entry) (l : Lines) → o ≡ Some e
    → find n l.entries ≡ Some e → more_may_come e ≡ true → e.confirmed ≡ true → e.close ≡ false
    → Stands n true
    (where_found o (λ f m. cond (more_may_come f) (settles (Ending f) [] m) m) l)
found_step None n e l is at may confirmed close = absurd (cc)
found_step (Some f) n e l is at may confirmed close =
    let same : f ≡ e = cc in
    subst (λ x. Stands n true (cond (more_may_come x) (settles (Ending x) [] l) l)) (sym same)
    (may_step (more_may_come e) n e l may at confirmed close)

same_entry : (o : Option Entry) (e f : Entry) → o ≡ Some e → o ≡ Some f → f ≡ e
same_entry o e f is other = let same : Some f ≡ Some e = sym other ∙ is in cc

pub eof_stands : (n : ℕ) (e : Entry) (l : Lines) (ended : Bool) → find n l.entries ≡ Some e
    → more_may_come e ≡ true → Stands n ended l → Stands n true (takes_eof n l)
eof_stands n e l ended at may s =
    let same = same_entry (find n l.entries) e s.0 at s.1 in
    let stands : StandsSo ended e = subst (StandsSo ended) same s.2 in
    found_step (find n l.entries) n e l at at may stands.0 stands.1
