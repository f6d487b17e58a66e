-- A line of a gateway's script that was taken in, from what its words were.
use Rattle.std.proofs.Common.{ℕ, List, Bool, true, false, Option, Some, None, Result, Ok, Err, refl}
use Rattle.std.specs.Prelude.{IfOk, if◌then◌else◌}
use Rattle.ssh_scene.specs.Scene.{Scene, TakesIn}
use Rattle.ssh_scene_gateway.specs.declared.hosts.HostWord.{HostWord}
use Rattle.ssh_scene_gateway.specs.GatewayScene.{GatewayScene, IsHostLine, TakesLine, TakesWords}

-- it names a host
pub takes_host : {E : Type 0} (s after : GatewayScene) (text : List ℕ) (word : HostWord)
    (rest : List ℕ) (result : Result Bool E) → IsHostLine text (Some (word, rest)) →
    IfOk result (λ done. (text : List ℕ) → TakesWords (Some (word, rest)) s text
    (if done then Some after else None)) →
    IfOk result (λ done. TakesLine s text (if done then Some after else None))
takes_host s after text word rest (Ok done) line taken = (Some (word, rest), line, taken text)
takes_host s after text word rest (Err e) line taken = tt

-- it is one of a session
pub takes_session : {E : Type 0} (s : GatewayScene) (after : Scene) (text : List ℕ)
    (result : Result Bool E) → IsHostLine text None →
    IfOk result (λ done. TakesIn s.session text (if done then Some after else None)) →
    IfOk result (λ done. TakesLine s text
    (if done then Some (record s { session = after }) else None))
takes_session s after text (Ok true) line taken = (None, line, (Some after, taken, refl))
takes_session s after text (Ok false) line taken = (None, line, (None, taken, refl))
takes_session s after text (Err e) line taken = tt
