use Rattle.std.proofs.Common.{◌≡◌, Ok, Err, Result, refl, subst}
use Rattle.ssh_wire.specs.declared.channel_id.ChannelId.{ChannelId}
use Rattle.ssh_hub.specs.declared.answers.HandleError.{HandleError}
use Rattle.ssh_hub.specs.declared.history.View.{View}
use Rattle.ssh_handles.specs.Parts.{ClaimsIn}
use Rattle.ssh_handles.proofs.caller.Caller.claimed_in.Goals as goal

claims_as : (a b : Result ChannelId HandleError) (v : View) (r : Result ChannelId HandleError)
    (w : View) → a ≡ b → ClaimsIn a v r w → ClaimsIn b v r w
claims_as a b v r w is claims =
    subst (λ (x : Result ChannelId HandleError). ClaimsIn x v r w) is claims

pub returns-in-Ok-clause-entries : goal.returns-in-Ok-clause-entries
returns-in-Ok-clause-entries g c =
    claims_as (Ok c.in-Ok.id) _ _ _ _ c.in-Ok.ensures c.claimed.ensures.entries

pub returns-in-Err-clause-entries : goal.returns-in-Err-clause-entries
returns-in-Err-clause-entries g c = claims_as (Err c.in-Err.e) _ _ _ _ c.in-Err.ensures (refl, refl)
