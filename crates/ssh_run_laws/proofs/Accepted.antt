-- After each input of a run each channel accepted the data of the commands that were accepted on it
-- (RFC 4254 section 5.2).
use Rattle.std.proofs.Common.{◌≡◌, ◌⊎◌, ◌∙◌, ℕ, List, [], ◌∷◌, ◌++◌, refl, sym, ap, subst, inl, inr}
use Rattle.std.specs.Prelude.{flat_map}
use Rattle.ssh_link.specs.declared.link.TraceEntry.{TraceEntry}
use Rattle.ssh_auth.specs.Plan.{Plan, Event, Follows}
use Rattle.ssh_auth.specs.Publickey.{Acceptance}
use Rattle.ssh_channels.specs.declared.chunk.DataKind.{DataKind}
use Rattle.ssh_channels.specs.Lines.{Lines}
use Rattle.ssh_channels.specs.Sent.{IsUnopened, Ledgered, since}
use Rattle.ssh_rules.specs.declared.error.Flow.{Flow}
use Rattle.ssh_rules.specs.declared.error.Flow.TheVariants.{Continue, Ended}
use Rattle.ssh_rules.specs.Cause.{comes}
use Rattle.ssh_rules.specs.Ledger.{IsLedgered, outgoing, told_with}
use Rattle.ssh_rules.specs.Outcome.{Outcome}
use Rattle.ssh_rules.specs.Run.{Turn, Run, entries}
use Rattle.ssh_rules.specs.World.{Settings, World, opening_world}
use Rattle.ssh_rules.proofs.Ledger.Inputs.{nothing_kept, run_front, run_kept}
use Rattle.ssh_rules.proofs.Ledger.LastInput.{next_ledgered}
use Rattle.ssh_run_laws.specs.Accepted.{HoldFirst, IsAccepted, IsNextAccepted}
use Rattle.ssh_run_laws.specs.Channels.{accepted_from, accepted_on, after_deed, bytes_on}
use Rattle.ssh_run_laws.specs.Deeds.{Deed, deeds}
use Rattle.ssh_run_laws.proofs.Calms.{ComesBy}
use Rattle.ssh_run_laws.proofs.Chains.{Chain, chain_bytes}
use Rattle.ssh_run_laws.proofs.Holding.{moment_holds}
use Rattle.ssh_run_laws.proofs.RunDeeds.{run_chain, turn_comes}

holds_so : (n : ℕ) (l : Lines) (bytes : List (DataKind × ℕ)) (told : List TraceEntry)
    → bytes_on n l ≡ bytes → Ledgered l told → (seen later : List TraceEntry)
    → told ≡ seen ++ later → IsUnopened n (outgoing later l) → HoldFirst n bytes (since n seen)
holds_so n l bytes told is ledger seen later at quiet =
    subst (λ b. HoldFirst n b (since n seen)) is
    (moment_holds n l seen later quiet (subst (Ledgered l) at ledger))

run_bytes : {E F : Type 0} (accepts : Acceptance) (settings : Settings) (turns : List (Turn E F))
    (world : World) → Run accepts (opening_world settings) turns world → (n : ℕ)
    → bytes_on n world.channels.lines ≡ accepted_on n (flat_map deeds turns)
run_bytes accepts settings turns world run n =
    let w = opening_world settings in
    chain_bytes n w (flat_map deeds turns) world
    (run_chain n accepts [] w turns world run (nothing_kept settings))

pub run_holds : {E F : Type 0} (accepts : Acceptance) (settings : Settings)
    (turns : List (Turn E F)) (world : World) → Run accepts (opening_world settings) turns world
    → (n : ℕ) (seen rest : List TraceEntry) → flat_map entries turns ≡ seen ++ rest
    → IsUnopened n (outgoing rest world.channels.lines)
    → HoldFirst n (accepted_on n (flat_map deeds turns)) (since n seen)
run_holds accepts settings turns world run n seen rest is quiet =
    let kept = run_kept accepts [] (opening_world settings) turns world run
    (nothing_kept settings) in
    holds_so n world.channels.lines (accepted_on n (flat_map deeds turns))
    (flat_map entries turns) (run_bytes accepts settings turns world run n) kept.ledger seen rest is
    quiet

run_accepted : {E F : Type 0} (accepts : Acceptance) (settings : Settings)
    (turns : List (Turn E F)) (world : World) → Run accepts (opening_world settings) turns world
    → IsAccepted accepts settings turns
run_accepted accepts settings turns world run = record {
  world = world;
  run = run;
  bytes = λ n. run_bytes accepts settings turns world run n;
  sent = λ n seen rest is quiet.
      run_holds accepts settings turns world run n seen rest is quiet;
}

pub accepted : {E F : Type 0} (accepts : Acceptance) (settings : Settings)
    (turns : List (Turn E F)) (world : World) → Run accepts (opening_world settings) turns world
    → (earlier later : List (Turn E F)) → turns ≡ earlier ++ later
    → IsAccepted accepts settings earlier
accepted accepts settings turns world run earlier later is =
    let front = run_front accepts (opening_world settings) earlier later world
    (subst (λ ts. Run accepts (opening_world settings) ts world) is run) in
    run_accepted accepts settings earlier front.0 front.1

-- ---- one more input

both_from : (n : ℕ) (held : List (DataKind × ℕ)) (xs ys : List Deed)
    → accepted_from n held (xs ++ ys) ≡ accepted_from n (accepted_from n held xs) ys
both_from n held [] ys = refl
both_from n held (x ∷ xs) ys = both_from n (after_deed n held x) xs ys

-- the run goes on or is over
chain_by : (n : ℕ) (w : World) (ds : List Deed) (flow : Flow) (world : World)
    → ComesBy n w ds (comes flow world) → Chain n w ds world
chain_by n w ds Continue world c = c
chain_by n w ds Ended world c = c

before_or_ends : {E F : Type 0} (accepts : Acceptance) (w : World) (turns : List (Turn E F))
    (turn : Turn E F) (plan : Plan Outcome) (past : List (Event E F))
    → ((n : ℕ) → bytes_on n w.channels.lines ≡ accepted_on n (flat_map deeds turns))
    → IsLedgered (told_with turns turn past) w.channels.lines
    ⊎ ((more : List (Event E F)) × (flow : Flow) × (world : World)
    × Follows plan (past ++ more) (comes flow world))
    → ((n : ℕ) (seen later : List TraceEntry) → told_with turns turn past ≡ seen ++ later
    → IsUnopened n (outgoing later w.channels.lines)
    → HoldFirst n (accepted_on n (flat_map deeds turns)) (since n seen))
    ⊎ ((more : List (Event E F)) × (flow : Flow) × (world : World)
    × Follows plan (past ++ more) (comes flow world))
before_or_ends accepts w turns turn plan past bytes (inl ledgered) =
    inl (λ n seen later at quiet. holds_so n w.channels.lines
    (accepted_on n (flat_map deeds turns)) (told_with turns turn past) (bytes n) ledgered.0 seen
    later at quiet)
before_or_ends accepts w turns turn plan past bytes (inr all) = inr all

pub next_accepted : {E F : Type 0} (accepts : Acceptance) (settings : Settings)
    (turns : List (Turn E F)) (world : World) → Run accepts (opening_world settings) turns world
    → (turn : Turn E F) → IsNextAccepted accepts world turns turn
next_accepted {E} {F} accepts settings turns w run turn =
    let start = opening_world settings in
    let kept = run_kept accepts [] start turns w run (nothing_kept settings) in
    let bytes : (n : ℕ) → bytes_on n w.channels.lines ≡ accepted_on n (flat_map deeds turns) =
    λ n. run_bytes accepts settings turns w run n in
    let next = next_ledgered accepts w turns turn kept in
    record {
      underway = λ plan past rest o is b. before_or_ends accepts w turns turn plan past bytes
          (next.underway plan past rest o is b);
      sent = λ plan past rest more flow world o is f n seen later at quiet.
          let one : Turn E F = record turn { events = past ++ more } in
          let chain = chain_by n w (deeds one) flow world
          (turn_comes n accepts (flat_map entries turns) w one plan (comes flow world) o f kept) in
          holds_so n world.channels.lines (accepted_on n (flat_map deeds turns ++ deeds one))
          (told_with turns turn (past ++ more))
          (chain_bytes n w (deeds one) world chain
          ∙ ap (λ held. accepted_from n held (deeds one)) (bytes n)
          ∙ sym (both_from n [] (flat_map deeds turns) (deeds one)))
          (next.sent plan past rest more flow world o is f).0 seen later at quiet;
    }
