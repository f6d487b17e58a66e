-- What a session over a hub and a peer leaves.
use Rattle.std.specs.Prelude.{ℕ, List, [], Option, Some}
use Rattle.ssh_link.specs.Frames.{Frame}
use Rattle.ssh_link.specs.declared.frame.Input.{Input}
use Rattle.ssh_link.specs.Told.{Adds}
use Rattle.ssh_link.specs.Faults.{Rose}
use Rattle.ssh_hub.specs.declared.history.View.{View}
use Rattle.ssh_hub.specs.declared.lock.HubLock.{HubLock}
use Rattle.ssh_hub.specs.Words.{view_of, IsSeatOf}
use Rattle.ssh_hub_link.specs.Given.{inputs_in, frames_in, of_feed, of_hub, TakesOf}
use Rattle.ssh_threads.specs.declared.served.Served.{Served}
use Rattle.ssh_threads.specs.Sessions.{Serves}

-- what a peer has told, and how often it has failed
pub record PeerTold : Type 0 where
  pub inputs : Option (List Input)
  pub frames : Option (List Frame)
  pub faults : ℕ

abbrev pub peer_told : {P : Type 0} → (P → Option (List Input)) → (P → Option (List Frame))
    → (P → ℕ) → P → PeerTold
peer_told inputs frames faults peer =
    record { inputs = inputs peer; frames = frames peer; faults = faults peer }

-- the seat is one of this hub, which knew this before; and its takes, and the peer's inputs and
-- frames, are those of the trace
pub record IsLeft (lock : HubLock) (knew : View) (before after : PeerTold) (served : Served)
    : Type 0 where
  pub seat : IsSeatOf lock served.seat
  pub takes : TakesOf knew (view_of served.seat) (Some (of_hub (inputs_in served.trace.items)))
  pub inputs : Adds before.inputs after.inputs (of_feed (inputs_in served.trace.items))
  pub frames : Adds before.frames after.frames (frames_in served.trace.items)
  pub run : Serves (Rose before.faults after.faults) (Some []) (Some served.trace.items)
      served.outcome
