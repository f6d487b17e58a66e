-- What a call leaves of a script's targets.
use Rattle.std.proofs.Common.{◌≡◌, ◌⊎◌, List, [], ◌∷◌, ◌++◌, Result, Ok, Err, Bool, true, false}
use Rattle.std.proofs.Common.{sym, ◌∙◌, ap, inl, inr}
use Rattle.std.specs.Prelude.{IfOk, IsOkAnd}
use Rattle.ssh_gateway.specs.declared.targets.TargetCall.{TargetCall}
use Rattle.ssh_gateway.specs.declared.targets.TargetFault.{TargetFault}
use Rattle.ssh_gateway.specs.declared.targets.TargetFault.TheVariants.{NoMemory}
use Rattle.ssh_scene_gateway.specs.declared.targets.ScriptHost.{ScriptHost}
use Rattle.ssh_scene_gateway.specs.declared.targets.Stream.{Stream}
use Rattle.ssh_scene_gateway.specs.Reaching.{untouched, given_as, after, as_given, left_after}
use Rattle.ssh_scene_gateway.proofs.Reached.{Kept, kept_more}

-- a call was not kept, or is the last of those that are
abbrev pub IsKept : {T E : Type 0} → (calls calls' : List TargetCall) → (lost lost' : Bool)
    → Result TargetCall E → (answer : T) → Result T TargetFault → Type 0
IsKept calls calls' lost lost' call answer result =
    ((lost' ≡ true) × (result ≡ Err NoMemory))
    ⊎ (IsOkAnd call (λ one. calls' ≡ calls ++ one ∷ []) × (lost' ≡ lost) × (result ≡ Ok answer))

-- what targets keep that are not lost
abbrev pub HaveKept : (hosts : List ScriptHost) → (streams : List Stream) → List TargetCall → Bool
    → Type 0
HaveKept hosts streams calls lost = lost ≡ false
    → Kept (untouched hosts) (record { hosts = hosts; streams = streams }) calls

pub have_kept : (hosts : List ScriptHost) (streams : List Stream) (calls : List TargetCall)
    (lost : Bool) → (lost ≡ false → as_given (untouched hosts) calls ≡ calls)
    → (lost ≡ false → left_after (untouched hosts) calls
    ≡ record { hosts = hosts; streams = streams }) → HaveKept hosts streams calls lost
have_kept hosts streams calls lost given left fine = record {
  given = given fine;
  left_is = left fine;
}

pub kept_on : {T E : Type 0} (hosts : List ScriptHost) (streams streams' : List Stream)
    (calls calls' : List TargetCall) (lost lost' : Bool) (call : Result TargetCall E)
    (due : TargetCall) (answer : T) (result : Result T TargetFault)
    → HaveKept hosts streams calls lost → IsKept calls calls' lost lost' call answer result
    → IfOk call (λ one. one ≡ due)
    → given_as (record { hosts = hosts; streams = streams }) due ≡ due
    → after (record { hosts = hosts; streams = streams }) due
    ≡ record { hosts = hosts; streams = streams' } → HaveKept hosts streams' calls' lost'
kept_on hosts streams streams' calls calls' lost lost' call due answer result old (inl h) is given
    later fine =
    absurd (let z : true ≡ false = sym h.0 ∙ fine in cc)
kept_on hosts streams streams' calls calls' lost lost' (Ok one) due answer result old (inr h) is
    given later fine =
    kept_more _ _ _ calls calls' due (old (sym h.1 ∙ fine))
    (h.0 ∙ ap (λ x. calls ++ x ∷ []) is) given later
kept_on hosts streams streams' calls calls' lost lost' (Err why) due answer result old (inr h) is
    given later fine = absurd h.0
