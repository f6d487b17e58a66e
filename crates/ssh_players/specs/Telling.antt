-- What the handler of a script tells.
use Rattle.std.specs.Prelude.{List, Option}
use Rattle.ssh_auth.specs.declared.call.Call.{Call}
use Rattle.ssh_players.specs.declared.script_handler.ScriptHandler.{ScriptHandler}
use Rattle.ssh_scene.specs.Queues.{queues_in}
use Rattle.ssh_players.specs.Played.{Failure, told_of}

-- its answers, and then its calls
abbrev pub told_by : ScriptHandler → Option (List (Call Failure))
told_by handler = told_of handler.lost (queues_in handler.answers) handler.asked.items
