-- The state of authentication between requests (RFC 4252 section 5).
use Rattle.std.specs.Prelude.{ℕ, ◌+◌, ◌-◌, ◌^◌, ◌&&◌, min, List, Bool, false, Option, Some, None}
use Rattle.std.specs.Prelude.{option_map, bytes_eq, if◌then◌else◌}
use Rattle.std.specs.Borrow.{Bor}
use Rattle.ssh_wire.specs.declared.method.MethodKind.{MethodKind}
use Rattle.ssh_wire.specs.Methods.{all_methods}
use Rattle.ssh_auth.specs.declared.method.Method.{Method}
use Rattle.ssh_auth.specs.declared.method.Method.TheVariants as asked
use Rattle.ssh_auth.specs.declared.auth_request.CurrentRequest.{CurrentRequest}
use Rattle.ssh_auth.specs.declared.auth_request.CurrentRequest.TheVariants as round
use Rattle.ssh_auth.specs.declared.auth_request.Principal.{Principal}
use Rattle.ssh_auth.specs.declared.auth_request.AuthRequest.{AuthRequest}

-- before the first request of a server with these methods
abbrev pub server_request : List MethodKind → AuthRequest
server_request methods = record {
  methods = methods;
  partial_success = false;
  current = None;
  rejection_count = 0;
  bound = None;
  initial = methods;
}

-- what a client's method begins with: prompts, or GSS-API
abbrev pub round_of : Method → Option CurrentRequest
round_of (asked.KeyboardInteractive submethods) = Some (round.KeyboardInteractive submethods)
round_of (asked.GssapiWithMic _) = Some round.GssapiWithMic
round_of _ = None

-- before the first request of a client that would go on with this method
abbrev pub client_request : Method → AuthRequest
client_request method = record (server_request all_methods) { current = round_of method }

-- whether this user and service are the bound pair
abbrev pub is_bound : Option Principal → List ℕ → List ℕ → Bool
is_bound None user service = false
is_bound (Some principal) user service = bytes_eq principal.user user && bytes_eq principal.service
    service

-- another user or service is bound in place of the old one: the initial methods come back, the
-- partial flag and the round are cleared, and the count of rejections stays
abbrev pub bound_anew : AuthRequest → List ℕ → List ℕ → AuthRequest
bound_anew auth user service = record auth {
  bound = Some (record { user = user; service = service });
  methods = auth.initial;
  partial_success = false;
  current = None;
}

-- after a request named this user and service
abbrev pub bound_to : AuthRequest → List ℕ → List ℕ → AuthRequest
bound_to auth user service = if is_bound auth.bound user service then auth else bound_anew auth user
    service

-- a request begins with no partial success
abbrev pub begun : AuthRequest → List ℕ → List ℕ → AuthRequest
begun auth user service = record (bound_to auth user service) { partial_success = false }

-- whether the round is the accepted probe of this blob under this name of an algorithm
abbrev pub is_probed : Option CurrentRequest → (name blob : List ℕ) → Bool
is_probed (Some (round.PublicKey key algo sent_pk_ok)) name blob =
    sent_pk_ok && (bytes_eq key blob && bytes_eq algo name)
is_probed _ name blob = false

-- the user whom prompts wait for, who is the bound one, and the submethods of their round
abbrev pub prompt_in : Option CurrentRequest → Option Principal → Option (List ℕ × List ℕ)
prompt_in (Some (round.KeyboardInteractive submethods)) (Some principal) =
    Some (principal.user, submethods)
prompt_in _ _ = None

abbrev pub prompt_of : AuthRequest → Option (List ℕ × List ℕ)
prompt_of auth = prompt_in auth.current auth.bound

-- the count of rejections after one more: a partial success is none
abbrev pub count_after : Bool → ℕ → ℕ
count_after partial count = if partial then count else min (count + 1) (2 ^ 64 - 1)

-- what a caller sees of it
abbrev pub principal_of : AuthRequest → Option (List ℕ × List ℕ)
principal_of auth = option_map (λ principal. (principal.user, principal.service)) auth.bound

abbrev pub pair_of : Option (Bor (List ℕ) × Bor (List ℕ)) → Option (List ℕ × List ℕ)
pair_of pair = option_map (λ p. (p.0.now, p.1.now)) pair

abbrev pub initial_of : AuthRequest → List MethodKind
initial_of auth = auth.initial
