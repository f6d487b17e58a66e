-- What a payload asks of a user is told before it is taken.
use Rattle.std.specs.Prelude.{◌≡◌, ℕ, List, [], ◌∷◌, ◌++◌, Bool, true, Option, Some}
use Rattle.std.specs.Prelude.{Result, Ok}
use Rattle.ssh_keys.specs.Offers.{offered_key}
use Rattle.ssh_keys.specs.Tables.{IsListed}
use Rattle.ssh_keys.specs.declared.table_verifier.AcceptedSignature.{AcceptedSignature}
use Rattle.ssh_auth.specs.declared.asked.Asked.{Asked}
use Rattle.ssh_auth.specs.declared.asked.AskedMethod.{AskedMethod}
use Rattle.ssh_auth.specs.declared.asked.AskedMethod.TheVariants as told
use Rattle.ssh_auth.specs.declared.auth_request.AuthRequest.{AuthRequest}
use Rattle.ssh_auth.specs.Asked.{RequestAsksAsTold, ResponseAsksAsTold}
use Rattle.ssh_rules.specs.declared.state.EncryptedState.TheVariants.{WaitingAuthRequest}
use Rattle.ssh_rules.specs.World.{World, circumstances}
use Rattle.ssh_session.specs.Serve.{Refines}
use Rattle.ssh_embed.specs.declared.connection.Connection.{Connection}
use Rattle.ssh_wire.specs.declared.error.WireError.{WireError}

-- what is told is what taking the payload in this world asks, whichever signatures are vouched for:
-- of a USERAUTH_REQUEST, whose number is 50, and a USERAUTH_INFO_RESPONSE, whose number is 61
pub record AsksAsTold (w : World) (moment : ℕ) (payload : List ℕ) (asked : Option Asked)
    : Type 0 where
  pub request : (auth : AuthRequest) (fields : List ℕ) (vouched : List AcceptedSignature)
      → w.user.state ≡ WaitingAuthRequest auth → payload ≡ 50 ∷ fields
      → RequestAsksAsTold (circumstances (IsListed vouched) w.settings moment) auth fields asked
  pub response : (auth : AuthRequest) (fields : List ℕ) → w.user.state ≡ WaitingAuthRequest auth
      → payload ≡ 61 ∷ fields → ResponseAsksAsTold auth fields asked

-- a request by this method shows this signature, of what it is to be a signature of
abbrev pub ShownBy : AskedMethod → AcceptedSignature → Type 0
ShownBy (told.Signed offer probed message signature) one = one ≡ record {
  key = offered_key offer.key;
  algorithm = offer.algorithm;
  message = message;
  signature = signature;
}
ShownBy method one = ⊥

-- the question of this payload tells this signature, in each world that the session stands for
abbrev pub Shows : Connection → (moment : ℕ) → (payload : List ℕ) → AcceptedSignature → Type 0
Shows connection moment payload one = (asked : Asked) × ShownBy asked.method one
    × ((w : World) → Refines connection.session w → AsksAsTold w moment payload (Some asked))

-- the signature that this payload shows is vouched for, and nothing else has changed
abbrev pub VouchesForOne : (moment : ℕ) → (payload : List ℕ) → Connection → Connection → Type 0
VouchesForOne moment payload before after = (one : AcceptedSignature)
    × Shows before moment payload one
    × (after ≡ record before { verifier = before.verifier ++ one ∷ [] })

-- the owner vouches for what the payload shows, if it shows anything
abbrev pub Vouches : (moment : ℕ) → (payload : List ℕ) → Connection → Connection
    → Result Bool WireError → Type 0
Vouches moment payload before after (Ok true) = VouchesForOne moment payload before after
Vouches moment payload before after _ = after ≡ before
