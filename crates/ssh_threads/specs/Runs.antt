-- What a run in threads leaves.
use Rattle.std.specs.Prelude.{◌≡◌, ◌≢◌, ◌⊎◌, List, [], Option, Some, Err}
use Rattle.ssh_link.specs.Frames.{Frame}
use Rattle.ssh_link.specs.declared.frame.Input.{Input}
use Rattle.ssh_link.specs.declared.link.TraceEntry.{TraceEntry}
use Rattle.ssh_link.specs.Told.{Adds}
use Rattle.ssh_hub.specs.Laws.{commands_put, commands_taken}
use Rattle.ssh_hub.specs.History.{IsLegal, calls_by}
use Rattle.ssh_hub.specs.SeatLaws.{IsAmong}
use Rattle.ssh_hub.specs.Step.{opening}
use Rattle.ssh_hub.specs.declared.history.View.{View}
use Rattle.ssh_hub_link.specs.Given.{inputs_in, frames_in, of_feed, of_hub}
use Rattle.ssh_rules.specs.declared.error.RunError.TheVariants.{LinkFault, Handler}
use Rattle.ssh_players.specs.Played.{Failure}
use Rattle.ssh_threads.specs.Sessions.{Outcome, Serves}
use Rattle.ssh_threads.specs.Taken.{taken_of}

-- one run of a session, or none, where the peer failed before it
abbrev pub IsRunOf : (rose : Type 0) → List TraceEntry → Outcome → Type 0
IsRunOf rose trace outcome = Serves rose (Some []) (Some trace) outcome
    ⊎ (rose × (trace ≡ []) × (outcome ≡ Err LinkFault))

-- it did not end by an error of the server's handler
abbrev pub IsUnfailed : Outcome → Type 0
IsUnfailed outcome = (e : Failure) → outcome ≢ Err (Handler e)

-- with the inputs and frames that the peer told before and after it, and the history that the
-- session's seat has seen
pub record RanInThreads (rose : Type 0) (given given_after : Option (List Input))
    (taken taken_after : Option (List Frame)) (trace : List TraceEntry) (outcome : Outcome)
    (seat : View) : Type 0 where
  pub run : IsRunOf rose trace outcome
  -- the server's handler never answers an error
  pub unfailed : IsUnfailed outcome
  -- the inputs of the trace that are neither commands nor replies are those that the peer gave
  pub inputs : Adds given given_after (of_feed (inputs_in trace))
  -- and its frames those that the peer took
  pub frames : Adds taken taken_after (frames_in trace)
  -- there is one legal history of all seats
  pub legal : IsLegal (opening seat.config) seat.seen
  -- the commands and replies of the trace are what the session's seat took in it
  pub takes : of_hub (inputs_in trace) ≡ taken_of seat.number seat.seen
  -- and these commands are, in their order, among those that were put in it
  pub puts : IsAmong (commands_taken (calls_by seat.number seat.seen)) (commands_put seat.seen)
