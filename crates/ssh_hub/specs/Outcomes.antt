-- What came of what was taken.
use Rattle.std.specs.Prelude.{ℕ, Bool, true, false, Option, Some, None, eqb}
use Rattle.ssh_link.specs.declared.outcome.CommandOutcome.{CommandOutcome}
use Rattle.ssh_link.specs.declared.outcome.CommandOutcome.TheVariants.{Accepted, Opened, Refused}
use Rattle.ssh_link.specs.declared.outcome.Refusal.{Refusal}
use Rattle.ssh_hub.specs.declared.queued.Due.{Due}
use Rattle.ssh_hub.specs.World.{Held, Channel, Map, find, with_new, with_changed, without}
use Rattle.ssh_hub.specs.Channels.{waiting, closed}

abbrev pub opened_at : ℕ → Map Channel → ℕ → Option Channel → Map Channel
opened_at size channels c None = with_new channels c (waiting size)
opened_at size channels c (Some ch) = channels

abbrev pub closed_at : Map Channel → ℕ → Option Channel → Map Channel
closed_at channels c None = channels
closed_at channels c (Some ch) = with_changed channels c (closed ch)

-- an accepted close closes its channel
abbrev pub closed_by : Map Channel → Option ℕ → Map Channel
closed_by channels None = channels
closed_by channels (Some c) = closed_at channels c (find c channels)

-- an opened channel is there, and one that an accepted command closes is closed
abbrev pub channels_after : ℕ → Map Channel → Due → CommandOutcome → Map Channel
channels_after size channels due (Opened c) = opened_at size channels c.0 (find c.0 channels)
channels_after size channels due Accepted = closed_by channels due.closes
channels_after size channels due (Refused why) = channels

abbrev pub put_at : {X : Type 0} → Map X → ℕ → X → Option X → Map X
put_at entries k v None = with_new entries k v
put_at entries k v (Some old) = with_changed entries k v

-- a refusal is its seat's newest
abbrev pub refusals_after : Map (ℕ × Refusal) → Due → CommandOutcome → Map (ℕ × Refusal)
refusals_after refusals due (Refused why) = put_at refusals due.seat (due.ticket, why)
    (find due.seat refusals)
refusals_after refusals due (Opened c) = refusals
refusals_after refusals due Accepted = refusals

abbrev pub kept_if : Map CommandOutcome → ℕ → CommandOutcome → Bool → Map CommandOutcome
kept_if outcomes ticket outcome true = with_new outcomes ticket outcome
kept_if outcomes ticket outcome false = outcomes

-- an outcome is kept where it is wanted
abbrev pub outcomes_after : Map CommandOutcome → Due → CommandOutcome → Map CommandOutcome
outcomes_after outcomes due outcome = kept_if outcomes due.ticket outcome due.wanted

abbrev pub settled : Held → Due → CommandOutcome → Held
settled w due outcome = record w {
  due = None;
  outcomes = outcomes_after w.outcomes due outcome;
  refusals = refusals_after w.refusals due outcome;
  channels = channels_after w.inbox_size w.channels due outcome;
}

abbrev pub settled_if : Held → Due → CommandOutcome → Bool → Held
settled_if w due outcome true = settled w due outcome
settled_if w due outcome false = w

-- an outcome of another ticket than that of what was taken last does nothing
abbrev pub answered : Held → ℕ → CommandOutcome → Option Due → Held
answered w ticket outcome None = w
answered w ticket outcome (Some due) = settled_if w due outcome (eqb due.ticket ticket)

-- the kept outcomes without the one that was found
abbrev pub without_found : {X : Type 0} → Map X → ℕ → Option X → Map X
without_found entries k None = entries
without_found entries k (Some x) = without k entries
