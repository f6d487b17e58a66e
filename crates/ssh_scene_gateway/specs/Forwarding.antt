-- A gateway that serves a scene: its turns, and what is written of them.
use Rattle.std.specs.Prelude.{◌≡◌, ◌<◌, ℕ, List, [], ◌++◌, length, flat_map, Option, Some, None}
use Rattle.std.specs.Prelude.{option_to_list, Result, Ok, Err, true, false}
use Rattle.ssh_keys.specs.Tables.{IsListed}
use Rattle.ssh_link.specs.Supply.{Supply, left_until}
use Rattle.ssh_link.specs.declared.plain_kex.PlainKexError.{PlainKexError}
use Rattle.ssh_auth.specs.Plan.{Plan}
use Rattle.ssh_auth.specs.Publickey.{Acceptance}
use Rattle.ssh_handler.specs.OwnCalls.{own_calls}
use Rattle.ssh_handler.specs.declared.recorded.RecordError.{RecordError}
use Rattle.ssh_rules.specs.Cause.{IsCaused, cause_of}
use Rattle.ssh_rules.specs.Outcome.{Outcome, Ends}
use Rattle.ssh_rules.specs.Run.{Owes, calls_of, steps_of}
use Rattle.ssh_rules.specs.World.{Settings, settings_of, World, opening_world}
use Rattle.ssh_rules.specs.declared.error.RunError.{RunError}
use Rattle.ssh_gateway.specs.declared.error.GatewayError.{GatewayError}
use Rattle.ssh_gateway.specs.declared.error.GatewayError.TheVariants as error
use Rattle.ssh_gateway.specs.Admitting.{admissions}
use Rattle.ssh_gateway.specs.Allowed.{is_listed}
use Rattle.ssh_gateway.specs.Answering.{answered}
use Rattle.ssh_gateway.specs.Board.{Board, opening_board}
use Rattle.ssh_gateway.specs.Choosing.{Permits}
use Rattle.ssh_gateway.specs.Raised.{lowered}
use Rattle.ssh_gateway.specs.Turns.{Round, Rounds, IsRound, Begins, link_entries, target_calls}
use Rattle.ssh_players.specs.Exchanged.{IsExchanged}
use Rattle.ssh_players.specs.Given.{IsGiven}
use Rattle.ssh_players.specs.Played.{Failure, IsAnswered}
use Rattle.ssh_scene_gateway.specs.GatewayScene.{GatewayScene}
use Rattle.ssh_scene_gateway.specs.Reaching.{untouched, AreReached}
use Rattle.ssh_scene_gateway.specs.Telling.{told_text}

-- a turn of a gateway that a script plays, and how it ends
abbrev pub ScriptRound : Type 0
ScriptRound = Round Failure PlainKexError

abbrev pub Ending : Type 0
Ending = Result (Unit {0}) (GatewayError Failure PlainKexError)

-- the status: 0 where it is Ok, 1 where an error ended it; want of memory has none
abbrev pub status_of : Ending → Option ℕ
status_of (Ok done) = Some 0
status_of (Err error.NoMemory) = None
status_of (Err (error.Run why)) = Some 1
status_of (Err error.TargetFault) = Some 1
status_of (Err error.TurnLimit) = Some 1

-- ---- by the scene

-- a script does not name the software of its peer, and its exchange of keys can be begun by this
-- side
abbrev pub gateway_settings : GatewayScene → Settings
gateway_settings scene = settings_of scene.session.config scene.session.session_id [] true

abbrev pub gateway_accepts : GatewayScene → Acceptance
gateway_accepts scene = IsListed scene.session.accepted

-- every user may reach the same hosts
abbrev pub gateway_permits : GatewayScene → Permits
gateway_permits scene user host port = is_listed host port scene.allowed

abbrev pub gateway_supply : GatewayScene → Supply
gateway_supply scene = left_until scene.session.moment scene.session.inputs

-- ---- how it ends

-- a turn was not finished, by the cause that the error names: neither the link nor a target fails
pub record Stops (accepts : Acceptance) (permits : Permits) (board : Board) (w : World)
    (round : ScriptRound) (e : GatewayError Failure PlainKexError) : Type 0 where
  pub begins : Begins permits board w round
  pub nothing : round.after ≡ []
  pub plan : Plan Outcome
  pub owes : Owes accepts w round.turn.input plan
  pub why : RunError (RecordError Failure) PlainKexError
  pub is : e ≡ lowered why
  pub caused : IsCaused (cause_of why) plan ⊥ round.turn.events
  pub answered : own_calls (calls_of round.turn) ≡ flat_map answered round.asked

-- with so many turns finished: one more turn ended it, or was not finished; or these are as many as
-- there may be
abbrev pub Closes : Acceptance → Permits → Board → World → (count max : ℕ) → Option ScriptRound
    → Ending → Type 0
Closes accepts permits board w count max (Some round) (Ok done) = (count < max)
    × ((world : World) × IsRound accepts permits board w round (Ends world))
Closes accepts permits board w count max (Some round) (Err (error.Run why)) = (count < max)
    × Stops accepts permits board w round (error.Run why)
Closes accepts permits board w count max None (Err error.TurnLimit) = count ≡ max
Closes accepts permits board w count max last result = ⊥

-- ---- the whole

-- this is the status and the text of a gateway that serves the scene: who is let in is answered by
-- the scene, and every other callback by the gateway's rule; keys are exchanged without
-- cryptography; what the link gives, and what the targets answer, is the scene's
pub record IsForwarded (scene : GatewayScene) (status : ℕ) (text : List ℕ) : Type 0 where
  pub rounds : List ScriptRound
  pub board : Board
  pub world : World
  pub run : Rounds (gateway_accepts scene) (gateway_permits scene) opening_board
      (opening_world (gateway_settings scene)) rounds board world
  pub last : Option ScriptRound
  pub result : Ending
  pub closes : Closes (gateway_accepts scene) (gateway_permits scene) board world (length rounds)
      scene.session.max_inputs last result
  pub answered : IsAnswered scene.session.queues
      (flat_map (λ round. admissions round.turn.events) (rounds ++ option_to_list last))
  pub exchanged : IsExchanged false
      (flat_map (λ round. steps_of round.turn) (rounds ++ option_to_list last))
  pub given : IsGiven (gateway_supply scene)
      (flat_map link_entries (rounds ++ option_to_list last))
  pub reached : AreReached (untouched scene.hosts)
      (flat_map target_calls (rounds ++ option_to_list last))
  pub status_is : status_of result ≡ Some status
  pub text_is : text ≡ told_text (flat_map link_entries (rounds ++ option_to_list last))
      (flat_map target_calls (rounds ++ option_to_list last)) result
