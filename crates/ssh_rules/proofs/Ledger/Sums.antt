-- What the ledger of the channels says of the frames that were sent (RFC 4254 section 5).
use Rattle.std.proofs.Common.{◌≡◌, ◌≤◌, List, [], ◌∷◌, ◌++◌, map, Option, Some, None}
use Rattle.std.proofs.Common.{refl, sym, subst, inl, inr}
use Rattle.std.specs.Prelude.{flat_map, IfSome}
use Rattle.std.proofs.lemmas.List.{append-nil}
use Rattle.ssh_link.specs.declared.link.TraceEntry.{TraceEntry}
use Rattle.ssh_link.specs.declared.link.TraceEntry.TheVariants.{Sent}
use Rattle.ssh_auth.specs.Publickey.{Acceptance}
use Rattle.ssh_channels.specs.Entry.{Entry, IsDue, Sound, due}
use Rattle.ssh_channels.specs.Lines.{Lines, find}
use Rattle.ssh_channels.specs.Sent.{Each, Ledgered, RepliesInOrder, Sends, since}
use Rattle.ssh_channels.proofs.Closed.{closed, all_before, due_paid}
use Rattle.ssh_channels.proofs.Dues.{all_sound}
use Rattle.ssh_channels.proofs.InOrder.{replied_so, replied_then, replied_before}
use Rattle.ssh_channels.proofs.Moments.{at_moment}
use Rattle.ssh_rules.specs.Ledger.{Ledgered_after, SentSo, SentAll, IsOut}
use Rattle.ssh_rules.specs.Run.{Turn, Run, entries}
use Rattle.ssh_rules.specs.World.{Settings, World, opening_world}
use Rattle.ssh_rules.proofs.Ledger.Inputs.{run_kept, run_front, nothing_kept}
use Rattle.ssh_rules.proofs.Plans.Emptied.{IsUnheld, owed_emptied}
use Rattle.ssh_rules.proofs.Ledger.Commands.{Kept}
use Rattle.ssh_rules.proofs.Ledger.Idling.{IsSettled, last_settled}

-- no more is framed than was granted
low : (o : Option Entry) → IfSome o Sound → IfSome o (λ e. e.framed ≤ e.granted)
low None h = tt
low (Some e) h = h.within

pub sent_so : (past : List TraceEntry) (l : Lines) → Ledgered l past → SentSo past l
sent_so past l h = record {
  starts = λ n e seen rest is found quiet.
      at_moment n l e seen rest found quiet (subst (Ledgered l) is h);
  replied = λ n e seen rest is found quiet.
      replied_then n l e seen rest found quiet (subst (Ledgered l) is h);
  replied_before = λ n gone none left. replied_before n l past gone h none left;
  within = λ n. low (find n l.entries) (all_sound l past h n);
  last = λ n front back close closes is. closed n l past front back close h closes is;
  whole = λ n gone none left itself. all_before n l past gone h none left itself;
}

-- what is due
found_due : (o : Option Entry) (e : Entry) → o ≡ Some e → IfSome o IsDue → IsDue e
found_due o e is h = subst (λ x. IfSome x IsDue) is h

-- where nothing that was written waits, all went out
nothing_written : (P : List TraceEntry → Type 0) (past : List TraceEntry) (l : Lines)
    → l.written ≡ [] → P (past ++ map Sent l.written) → P past
nothing_written P past l none h =
    subst P (append-nil past) (subst (λ frames. P (past ++ map Sent frames)) none h)

pub sent_all : (past : List TraceEntry) (l : Lines) → l.written ≡ [] → Each IsDue l
    → Ledgered l past → SentAll past l
sent_all past l none all h = λ n e found. (
  nothing_written (λ t. Sends e (due e) (since n t)) past l none
      (due_paid n l e past found (found_due (find n l.entries) e found (all n)) h),
  nothing_written (λ t. RepliesInOrder e (since n t)) past l none (replied_so n l e past found h),
)

-- outside an exchange of keys nothing that was written waits
pub run_emptied : {E F : Type 0} (accepts : Acceptance) (w : World) (turns : List (Turn E F))
    (world : World) → Run accepts w turns world → IsUnheld w → IsUnheld world
run_emptied accepts w [] world run h = subst IsUnheld (sym run) h
run_emptied accepts w (turn ∷ turns) world run h =
    let first = run.1 in
    run_emptied accepts run.0 turns world run.2
    (owed_emptied accepts w turn first.0 run.0 first.1 first.2)

-- where no exchange of keys holds frames
out_settled : {E F : Type 0} (accepts : Acceptance) (settings : Settings) (turns : List (Turn E F))
    (world : World) → Run accepts (opening_world settings) turns world
    → Kept (flat_map entries turns) world → IsOut turns world → IsSettled world
out_settled accepts settings turns world run kept (inl idle) =
    (run_emptied accepts (opening_world settings) turns world run (λ _. refl) idle, kept.due idle)
out_settled accepts settings turns world run kept (inr last) =
    last_settled accepts (opening_world settings) turns world run (nothing_kept settings) last

-- after each input of a run
pub ledgered : {E F : Type 0} (accepts : Acceptance) (settings : Settings) (turns : List (Turn E F))
    (world : World) →
    Run accepts (opening_world settings) turns world → (earlier later : List (Turn E F)) → turns
    ≡ earlier ++ later →
    Ledgered_after accepts settings earlier
ledgered accepts settings turns world run earlier later is =
    let front = run_front accepts (opening_world settings) earlier later world
    (subst (λ ts. Run accepts (opening_world settings) ts world) is run) in
    let kept = run_kept accepts [] (opening_world settings) earlier front.0 front.1
    (nothing_kept settings) in
    let past = flat_map entries earlier in
    let lines = front.0.channels.lines in
    record {
      world = front.0;
      run = front.1;
      kept = kept.ledger;
      due = λ out. (out_settled accepts settings earlier front.0 front.1 kept out).1;
      sent = sent_so past lines kept.ledger;
      sent_all = λ out.
          let settled = out_settled accepts settings earlier front.0 front.1 kept out in
          sent_all past lines settled.0 settled.1 kept.ledger;
    }
