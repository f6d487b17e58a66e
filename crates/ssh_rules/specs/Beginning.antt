-- When an exchange of keys begins: the peer asks for it by its KEXINIT, or this side does behind
-- all frames of an input (RFC 4253 sections 7.1 and 9).
use Rattle.std.specs.Prelude.{◌≡◌, ◌⊎◌, List, [], ◌∷◌, ◌++◌, map, Bool, true, false}
use Rattle.ssh_link.specs.declared.frame.Input.{Input}
use Rattle.ssh_link.specs.declared.frame.InputKind.{InputKind}
use Rattle.ssh_link.specs.declared.kex.KexCall.TheVariants as kex
use Rattle.ssh_link.specs.declared.link.TraceEntry.TheVariants.{Sent}
use Rattle.ssh_auth.specs.Plan.{Plan, Event, Stepped, Told, Follows}
use Rattle.ssh_auth.specs.Publickey.{Acceptance}
use Rattle.ssh_rules.specs.Ledger.{is_kexinit}
use Rattle.ssh_rules.specs.Outcome.{Outcome, Goes}
use Rattle.ssh_rules.specs.Run.{Turn, Run, OwesKind, asks_for_keys, going_out, handed_on, is_due}
use Rattle.ssh_rules.specs.World.{Settings, World, in_exchange, opening_world}

-- the exchange was asked to begin, and may have refused
abbrev pub is_beginning : {E F : Type 0} → Event E F → Bool
is_beginning (Stepped (kex.Begun answer)) = true
is_beginning _ = false

-- a KEXINIT of the peer's comes while none runs, and this side begins before anything else happens
abbrev pub IsForPeer : {E F : Type 0} → World → InputKind → (past : List (Event E F)) → Type 0
IsForPeer w kind past = (is_kexinit kind ≡ true) × (in_exchange w ≡ false) × (past ≡ [])

-- what the input owed was done, all its frames were handed on, and in the world behind them an
-- exchange is due: none runs, a user was let in, this side can begin one, and a count stands at its
-- limit or the input was the tick that asks for new keys
abbrev pub IsForItself : {E F : Type 0} → Acceptance → World → Input → (past : List (Event E F))
    → Type 0
IsForItself {E} {F} accepts w input past = (row : Plan Outcome) × (world : World)
    × (done : List (Event E F)) × OwesKind accepts w input.moment input.kind row
    × Follows row done (Goes world)
    × (past ≡ done ++ map Told (map Sent (going_out world)))
    × (is_due (asks_for_keys input.kind) (handed_on world) ≡ true)

-- in these inputs an exchange begins for the one reason or the other
abbrev pub BeginsByRule : {E F : Type 0} → Acceptance → Settings → List (Turn E F) → Type 0
BeginsByRule {E} {F} accepts settings turns = (before after : List (Turn E F))
    → (turn : Turn E F) → (past more : List (Event E F)) → (event : Event E F)
    → turns ≡ before ++ turn ∷ after → turn.events ≡ past ++ event ∷ more
    → is_beginning event ≡ true
    → (w : World) × Run accepts (opening_world settings) before w
    × (IsForPeer w turn.input.kind past ⊎ IsForItself accepts w turn.input past)
