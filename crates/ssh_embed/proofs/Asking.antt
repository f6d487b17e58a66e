-- What is told of a request is what taking it asks.
use Rattle.std.proofs.Common.{◌≡◌, ℕ, List, [], ◌∷◌, drop, Option, Some, Result, Ok, Err, IfOk}
use Rattle.std.specs.List.{slice_get}
use Rattle.std.proofs.Common.{sym, ◌∙◌, ap, subst}
use Rattle.ssh_wire.specs.declared.error.WireError.{WireError}
use Rattle.ssh_keys.specs.Tables.{IsListed}
use Rattle.ssh_keys.specs.declared.table_verifier.AcceptedSignature.{AcceptedSignature}
use Rattle.ssh_auth.specs.declared.asked.Asked.{Asked}
use Rattle.ssh_auth.specs.declared.auth_request.AuthRequest.{AuthRequest}
use Rattle.ssh_auth.specs.Asked.{RequestAsksAsTold}
use Rattle.ssh_auth.specs.Serve.{IsNumbered}
use Rattle.ssh_rules.specs.declared.state.EncryptedState.TheVariants.{WaitingAuthRequest}
use Rattle.ssh_rules.specs.World.{World, circumstances}
use Rattle.ssh_embed.specs.Asking.{AsksAsTold}

-- a payload begins with its first byte
pub begins_with : (number : ℕ) (payload : List ℕ) → Some number ≡ slice_get payload 0
    → IsNumbered number payload
begins_with number [] is = absurd (cc)
begins_with number (first ∷ rest) is =
    let same : number ≡ first = cc in (rest, ap (λ n. n ∷ rest) (sym same))

-- what serving a request of these fields asks, under this session id
abbrev AsksUnder : (id : List ℕ) (moment : ℕ) → AuthRequest → (fields : List ℕ) → Option Asked
    → Type 0
AsksUnder id moment auth fields asked = (vouched : List AcceptedSignature) → RequestAsksAsTold
    (record { accepts = IsListed vouched; session_id = id; moment = moment }) auth fields asked

same_auth : (auth other : AuthRequest) → WaitingAuthRequest auth ≡ WaitingAuthRequest other
    → auth ≡ other
same_auth auth other is = cc

other_number : (payload rest fields : List ℕ) → payload ≡ 50 ∷ rest → payload ≡ 61 ∷ fields → ⊥
other_number payload rest fields is was =
    let both : 50 ∷ rest ≡ 61 ∷ fields = sym is ∙ was in cc

pub asks_request : (w : World) (moment : ℕ) (payload id : List ℕ) (auth : AuthRequest)
    (result : Result (Option Asked) WireError) → w.user.state ≡ WaitingAuthRequest auth
    → id ≡ w.settings.session_id → IsNumbered 50 payload
    → IfOk result (AsksUnder id moment auth (drop 1 payload))
    → IfOk result (AsksAsTold w moment payload)
asks_request w moment payload id auth (Err e) state same numbered h = tt
asks_request w moment payload id auth (Ok asked) state same numbered h = record {
  request =
      λ other fields vouched was is.
      subst (λ a. RequestAsksAsTold (circumstances (IsListed vouched) w.settings moment) a fields
      asked) (same_auth auth other (sym state ∙ was))
      (subst (λ f. RequestAsksAsTold (circumstances (IsListed vouched) w.settings moment) auth f
      asked) (ap (drop 1) is)
      (subst (λ i. RequestAsksAsTold
      (record { accepts = IsListed vouched; session_id = i; moment = moment }) auth (drop 1 payload)
      asked) same (h vouched)));
  response = λ other fields was is. absurd (other_number payload numbered.0 fields numbered.1 is);
}
