-- What a USERAUTH_REQUEST says, after its number (RFC 4252 section 5).
use Rattle.std.specs.Prelude.{◌≡◌, ◌≢◌, ◌⊎◌, ℕ, List, [], ◌++◌, Bool, true, false, Option}
use Rattle.std.specs.Prelude.{bytes_eq, codes, take, drop, if◌then◌else◌}
use Rattle.ssh_wire.specs.declared.error.WireError.{WireError}
use Rattle.ssh_wire.specs.Field.{Field, SpellsAll, SpellsWhole, MisfitsAll}
use Rattle.ssh_wire.specs.Field.{MisfitsWhole}
use Rattle.ssh_wire.specs.Messages as message
use Rattle.ssh_keys.specs.declared.error.KeyError.TheVariants.{Blob}
use Rattle.ssh_keys.specs.declared.signature.Signature.{Signature}
use Rattle.ssh_keys.specs.Algorithms.{algorithm_name}
use Rattle.ssh_keys.specs.Offers.{FailsOffer, offered_key}
use Rattle.ssh_keys.specs.Signatures.{EndsInSignature}
use Rattle.ssh_auth.specs.Publickey.{Circumstances, Offer, OffersNothing, offer_fields, Offers}
use Rattle.ssh_auth.specs.Publickey.{question, IsAnswer, MisfitsSignature, HoldsNoSignature}

-- string user name, string service name, string method name
abbrev pub head_fields : List Field
head_fields = message.userauth_request.fields

-- what is asked for, by the method's name and the fields after it
pub data Method : Type 0 where
  None_method : Method
  Password_method : (password : List ℕ) → Method
  -- a password and a new one
  Change_method : (password new_password : List ℕ) → Method
  -- a key or a certificate that cannot be used, whose request is read no further
  Unusable_method : Method
  -- the blob of a key or a certificate, or a signature, that does not fit its layout
  Broken_method : Method
  -- a question whether a key may sign
  Probe_method : (offer : Offer) → Method
  -- a signature by another algorithm than the one that the request names
  Misnamed_method : Method
  -- a signature by that algorithm, and whether the verifier accepts it, where it was asked
  Signed_method : (offer : Offer) → (accepted : Option Bool) → Method
  -- prompts, by one of these submethods (RFC 4256 section 3.1)
  Interactive_method : (submethods : List ℕ) → Method
  -- a method that the server does not have
  Other_method : Method
  -- its fields do not fit
  Unfit_method : (why : WireError) → Method

pub data Requested : Type 0 where
  -- a request for the service ssh-connection
  Request : (user : List ℕ) → (method : Method) → Requested
  -- a request for another service, whose method's fields are not read
  Other_service : Requested
  -- the head does not fit
  Unfit : (why : WireError) → Requested
  -- memory was wanting to read it: whatever it says
  Unread : Requested

-- the method none has no fields (RFC 4252 section 5.2)
abbrev pub SaysNone : List ℕ → Method → Type 0
SaysNone fields None_method = fields ≡ []
SaysNone fields (Unfit_method why) = MisfitsWhole [] fields why
SaysNone fields _ = ⊥

-- the flag of method password, and what follows it by the flag: a password, or a change of it
abbrev pub change_flag : List Field
change_flag = take 1 message.password_fields

abbrev pub after_no_change : List Field
after_no_change = drop 1 message.password_fields

abbrev pub after_change : List Field
after_change = drop 1 message.password_change_fields

-- boolean change, string password, and where it is a change, string new password (RFC 4252 section
-- 8)
abbrev pub SaysPassword : List ℕ → Method → Type 0
SaysPassword fields (Password_method password) = SpellsWhole message.password_fields (
  false,
  (password, tt),
) fields
SaysPassword fields (Change_method password new_password) =
    SpellsWhole message.password_change_fields
    (true, (password, (new_password, tt))) fields
SaysPassword fields (Unfit_method why) =
    MisfitsAll change_flag fields why
    ⊎ ((rest : List ℕ) × SpellsAll change_flag (false, tt) fields rest
    × MisfitsWhole after_no_change rest why)
    ⊎ ((rest : List ℕ) × SpellsAll change_flag (true, tt) fields rest
    × MisfitsWhole after_change rest why)
SaysPassword fields _ = ⊥

-- boolean signed, string algorithm name, string blob, and where it is signed, string signature,
-- which holds string algorithm name and string signature (RFC 4252 section 7): these fields end all
-- fields of the request
abbrev pub SaysPublickey : Circumstances → (all fields : List ℕ) → Method → Type 0
SaysPublickey given all fields Unusable_method =
    (signed : Bool) × (name blob rest : List ℕ) × SpellsAll offer_fields (
      signed,
      (name, (blob, tt)),
    ) fields rest × OffersNothing given.accepts given.moment name blob
SaysPublickey given all fields Broken_method =
    ((signed : Bool) × (name blob rest : List ℕ) × SpellsAll offer_fields (
      signed,
      (name, (blob, tt)),
    ) fields rest × FailsOffer name blob Blob)
    ⊎ ((offer : Offer) × (rest : List ℕ) × Offers given true offer fields rest
    × HoldsNoSignature rest)
SaysPublickey given all fields (Probe_method offer) = Offers given false offer fields []
SaysPublickey given all fields Misnamed_method =
    (offer : Offer) × (rest : List ℕ) × (signature : Signature) × Offers given true offer fields
    rest × EndsInSignature signature rest
    × (signature.name ≢ algorithm_name offer.algorithm)
SaysPublickey given all fields (Signed_method offer accepted) =
    (rest unsigned : List ℕ) × (signature : Signature) × Offers given true offer fields rest
    × EndsInSignature signature rest
    × (signature.name ≡ algorithm_name offer.algorithm) × (all ≡ unsigned ++ rest)
    × IsAnswer given.accepts (offered_key offer.key) offer.algorithm
    (question given.session_id unsigned) signature.blob accepted
SaysPublickey given all fields (Unfit_method why) =
    MisfitsAll offer_fields fields why
    ⊎ ((offer : Offer) × (rest : List ℕ) × Offers given false offer fields rest
    × MisfitsWhole [] rest why)
    ⊎ ((offer : Offer) × (rest : List ℕ) × Offers given true offer fields rest
    × MisfitsSignature rest why)
SaysPublickey given all fields _ = ⊥

-- string language tag, string submethods (RFC 4256 section 3.1)
abbrev pub SaysInteractive : List ℕ → Method → Type 0
SaysInteractive fields (Interactive_method submethods) = (language : List ℕ)
    × SpellsWhole message.keyboard_interactive_fields (language, (submethods, tt)) fields
SaysInteractive fields (Unfit_method why) = MisfitsWhole message.keyboard_interactive_fields fields
    why
SaysInteractive fields _ = ⊥

-- the methods whose fields are read, and the others, whose fields stay unread
pub data Named : Type 0 where
  Is_none : Named
  Is_password : Named
  Is_publickey : Named
  Is_interactive : Named
  Is_other : Named

abbrev pub named_by : List ℕ → Named
named_by name =
    if bytes_eq name (codes "none") then Is_none
    else (if bytes_eq name (codes "password") then Is_password
    else (if bytes_eq name (codes "publickey") then Is_publickey
    else (if bytes_eq name (codes "keyboard-interactive") then Is_interactive else Is_other)))

abbrev pub SaysMethod : Circumstances → (all : List ℕ) → Named → (fields : List ℕ) → Method → Type 0
SaysMethod given all Is_none fields method = SaysNone fields method
SaysMethod given all Is_password fields method = SaysPassword fields method
SaysMethod given all Is_publickey fields method = SaysPublickey given all fields method
SaysMethod given all Is_interactive fields method = SaysInteractive fields method
SaysMethod given all Is_other fields method = method ≡ Other_method

-- under these circumstances the fields after the number say this
abbrev pub SaysRequest : Circumstances → List ℕ → Requested → Type 0
SaysRequest given fields (Request user method) =
    (name rest : List ℕ) × SpellsAll head_fields (user, (codes "ssh-connection", (name, tt))) fields
    rest
    × SaysMethod given fields (named_by name) rest method
SaysRequest given fields Other_service =
    (user service name rest : List ℕ) × SpellsAll head_fields (user, (service, (name, tt))) fields
    rest × (service ≢ codes "ssh-connection")
SaysRequest given fields (Unfit why) = MisfitsAll head_fields fields why
SaysRequest given fields Unread = Unit {0}
