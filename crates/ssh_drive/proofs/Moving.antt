-- What each call of a session promises, as a move.
use Rattle.std.proofs.Common.{◌≡◌, ℕ, List, [], ◌++◌, Option, Some, None, Result, Ok, Err, Bool}
use Rattle.std.proofs.Common.{false, refl, sym, subst, arith, inl, inr}
use Rattle.std.specs.Prelude.{IfOk, OnOk}
use Rattle.std.proofs.lemmas.List.{append-nil}
use Rattle.ssh_wire.specs.declared.channel_id.ChannelId.{ChannelId}
use Rattle.ssh_wire.specs.declared.error.WireError.{WireError}
use Rattle.ssh_channels.specs.declared.error.TableError.{TableError}
use Rattle.ssh_channels.specs.Lines.{goes_on}
use Rattle.ssh_link.specs.Told.{ToldBy}
use Rattle.ssh_link.proofs.Tellings.{adds_nil}
use Rattle.ssh_link.specs.declared.command.Command.{Command}
use Rattle.ssh_link.specs.declared.notice.Notice.{Notice}
use Rattle.ssh_link.specs.declared.outcome.CommandOutcome.{CommandOutcome}
use Rattle.ssh_auth.specs.declared.call.Call.{Call}
use Rattle.ssh_auth.specs.Plan.{Plan, Event}
use Rattle.ssh_auth.specs.Publickey.{Acceptance}
use Rattle.ssh_rules.specs.declared.error.FlushError.{FlushError}
use Rattle.ssh_rules.specs.declared.error.FlushError.TheVariants as flush
use Rattle.ssh_rules.specs.declared.error.Flow.{Flow}
use Rattle.ssh_rules.specs.declared.error.Flow.TheVariants.{Continue, Ended}
use Rattle.ssh_rules.specs.declared.error.RunError.{RunError}
use Rattle.ssh_session.specs.declared.session.Session.{Session}
use Rattle.ssh_rules.specs.Account.{Told}
use Rattle.ssh_session.specs.Between.{Applies, ComesFlushed, Flushes, StepsAfter, untold}
use Rattle.ssh_session.specs.Between.{goes_out_unless_ended}
use Rattle.ssh_rules.specs.Outcome.{Outcome}
use Rattle.ssh_rules.specs.Cause.{IsCaused}
use Rattle.ssh_session.specs.Serve.{Refines}
use Rattle.ssh_rules.specs.World.{World, lined, unless_ended}
use Rattle.ssh_serving.proofs.Serving.{told_none}
use Rattle.ssh_drive.specs.declared.moves.Move.TheVariants.{Payload, Say, LetOut, HandOn}
use Rattle.ssh_drive.specs.declared.moves.MoveError.{MoveError}
use Rattle.ssh_drive.specs.declared.moves.MoveError.TheVariants as error
use Rattle.ssh_drive.specs.Driven.{Makes}
use Rattle.ssh_drive.specs.Moves.{Served, Said, Let_out, Handed_on, coming, flush_cause}
use Rattle.ssh_drive.specs.Moves.{placed}

-- these alone
told_alone : {A : Type 0} (stops : Bool) (a b : Option (List A)) (xs : List A) → ToldBy stops a b xs
    → ToldBy stops a b (xs ++ [])
told_alone stops a b xs h = subst (ToldBy stops a b) (sym (append-nil xs)) h

-- ---- a payload

abbrev pub step_result : {E F : Type 0} → Result Flow (RunError E F) → Result Flow (MoveError E F)
step_result (Ok flow) = Ok flow
step_result (Err e) = Err (error.Payload e)

pub payload_made : {E F : Type 0} (accepts : Acceptance) (moment : ℕ) (w : World)
    (notices : List Notice) (payload : List ℕ) (a b : Told E F) (session : Session)
    (result : Result Flow (RunError E F))
    → StepsAfter notices accepts w (coming moment payload) a b session result
    → OnOk result (untold session ≡ [])
    → Makes accepts moment (placed w notices) (Payload payload) a b session (step_result result)
payload_made accepts moment w notices payload a b session (Ok Continue) (inl step) told = record {
  made = Some (Served payload step.events);
  given = refl;
  later = step.later;
  called = told_alone false a.calls b.calls _ step.called;
  stepped = told_alone false a.steps b.steps _ step.stepped;
  told = told_alone false a.trace b.trace _ step.told;
  comes = (
    placed step.comes.0 [],
    (step.plan, step.owes, step.comes.1, refl),
    step.comes.2,
    told,
  );
}
payload_made accepts moment w notices payload a b session (Ok Ended) (inl step) told = record {
  made = Some (Served payload step.events);
  given = refl;
  later = step.later;
  called = told_alone false a.calls b.calls _ step.called;
  stepped = told_alone false a.steps b.steps _ step.stepped;
  told = told_alone false a.trace b.trace _ step.told;
  comes = (step.plan, step.owes, step.comes);
}
payload_made accepts moment w notices payload a b session (Ok flow) (inr (e, is, step)) told =
    absurd (cc)
payload_made accepts moment w notices payload a b session (Err e) (inl step) told = record {
  made = Some (Served payload step.events);
  given = refl;
  later = step.later;
  called = told_alone _ a.calls b.calls _ step.called;
  stepped = told_alone false a.steps b.steps _ step.stepped;
  told = told_alone false a.trace b.trace _ step.told;
  comes = (step.plan, inl step.owes, step.comes);
}
payload_made accepts moment w notices payload a b session (Err e) (inr (other, is, step)) told =
    record {
      made = Some (Served payload step.events);
      given = refl;
      later = step.later;
      called = told_alone _ a.calls b.calls _ step.called;
      stepped = told_alone false a.steps b.steps _ step.stepped;
      told = told_alone false a.trace b.trace _ step.told;
      comes = (step.plan, inr step.owes, step.comes);
    }

-- ---- a command

abbrev pub said_result : {E F : Type 0} → Result CommandOutcome WireError
    → Result Flow (MoveError E F)
said_result (Ok outcome) = Ok Continue
said_result (Err e) = Err error.NoMemory

pub command_made : (E F : Type 0) (accepts : Acceptance) (moment : ℕ) (w : World)
    (command : Command) (a : Told E F) (before session : Session)
    (result : Result CommandOutcome WireError) → Applies command before session result
    → Refines before w
    → Makes accepts moment (placed w (untold before)) (Say command) a a session (said_result result)
command_made E F accepts moment w command a before session (Ok outcome) applies refines =
    let done = applies.does w refines in
    record {
      made = Some (Said command outcome);
      given = refl;
      later = omega arith;
      called = told_none false a.calls;
      stepped = adds_nil a.steps;
      told = adds_nil a.trace;
      comes = (placed done.1 (untold session), (done.0, done.2, done.4), done.3, refl);
    }
command_made E F accepts moment w command a before session (Err e) applies refines = record {
  made = None;
  given = tt;
  later = omega arith;
  called = told_none false a.calls;
  stepped = adds_nil a.steps;
  told = adds_nil a.trace;
  comes = tt;
}

-- ---- what a channel lets out

abbrev pub let_out_result : {E F : Type 0} → Result ℕ TableError → Result Flow (MoveError E F)
let_out_result (Ok count) = Ok Continue
let_out_result (Err e) = Err error.NoMemory

pub let_out_made : (E F : Type 0) (accepts : Acceptance) (moment : ℕ) (w : World)
    (channel : ChannelId) (a : Told E F) (before session : Session) (result : Result ℕ TableError)
    → IfOk result (λ count. count ≡ goes_out_unless_ended w channel.0)
    → OnOk result (Refines session (unless_ended (lined (goes_on channel.0)) w))
    → untold session ≡ untold before
    → Makes accepts moment (placed w (untold before)) (LetOut channel) a a session
    (let_out_result result)
let_out_made E F accepts moment w channel a before session (Ok count) out refines told = record {
  made = Some (Let_out channel count);
  given = refl;
  later = omega arith;
  called = told_none false a.calls;
  stepped = adds_nil a.steps;
  told = adds_nil a.trace;
  comes = (
    placed (unless_ended (lined (goes_on channel.0)) w) (untold before),
    (out, refl),
    refines,
    told,
  );
}
let_out_made E F accepts moment w channel a before session (Err e) out refines told = record {
  made = None;
  given = tt;
  later = omega arith;
  called = told_none false a.calls;
  stepped = adds_nil a.steps;
  told = adds_nil a.trace;
  comes = tt;
}

-- ---- what is handed on

abbrev pub flush_result : {E F : Type 0} → Result (Unit {0}) (FlushError F)
    → Result Flow (MoveError E F)
flush_result (Ok done) = Ok Continue
flush_result (Err e) = Err (error.HandOn e)

-- beside a handler that is not called
abbrev pub beside_calls : {E F : Type 0} → Option (List (Call E)) → Told (Unit {0}) F → Told E F
beside_calls calls told = record {
  calls = calls;
  steps = told.steps;
  trace = told.trace;
  faults = told.faults;
}

flush_caused : {F : Type 0} (e : FlushError F) (plan : Plan Outcome)
    (events : List (Event (Unit {0}) F)) (rose : Type 0) (session : Session)
    → ComesFlushed plan events rose session (Err e)
    → IsCaused (flush_cause e) plan rose events
flush_caused flush.NoMemory plan events rose session h = h
flush_caused flush.LinkFault plan events rose session h = h
flush_caused (flush.Kex e) plan events rose session h = h

pub flush_made : {E F : Type 0} (accepts : Acceptance) (moment : ℕ) (w : World)
    (notices : List Notice) (calls : Option (List (Call E))) (a b : Told (Unit {0}) F)
    (session : Session) (result : Result (Unit {0}) (FlushError F))
    → Flushes notices w a b session result → OnOk result (untold session ≡ [])
    → Makes accepts moment (placed w notices) HandOn (beside_calls calls a) (beside_calls calls b)
    session (flush_result result)
flush_made accepts moment w notices calls a b session (Ok done) step told = record {
  made = Some (Handed_on step.events);
  given = refl;
  later = step.later;
  called = told_none false calls;
  stepped = told_alone false a.steps b.steps _ step.stepped;
  told = told_alone false a.trace b.trace _ step.told;
  comes = (
    placed step.comes.0 [],
    (step.plan, step.owes, step.comes.1, refl),
    step.comes.2,
    told,
  );
}
flush_made accepts moment w notices calls a b session (Err e) step told = record {
  made = Some (Handed_on step.events);
  given = refl;
  later = step.later;
  called = told_none false calls;
  stepped = told_alone false a.steps b.steps _ step.stepped;
  told = told_alone false a.trace b.trace _ step.told;
  comes = (step.plan, step.owes, flush_caused e step.plan step.events _ session step.comes);
}
