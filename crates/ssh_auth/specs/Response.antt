-- What a USERAUTH_INFO_RESPONSE says, after its number (RFC 4256 section 3.4).
use Rattle.std.specs.Prelude.{◌⊎◌, ℕ, List, [], ◌∷◌, ◌++◌, length, replicate}
use Rattle.ssh_wire.specs.declared.error.WireError.{WireError}
use Rattle.ssh_wire.specs.Field.{Field, Values, SpellsAll, SpellsWhole, MisfitsAll}
use Rattle.ssh_wire.specs.Field.{MisfitsWhole}
use Rattle.ssh_wire.specs.Messages.{userauth_info_response, response_field}

pub data Responded : Type 0 where
  -- these responses, as many as it announces
  Responses : (responses : List (List ℕ)) → Responded
  -- a field does not fit, or bytes follow the last response
  Unfit_responses : (why : WireError) → Responded
  -- it is not read, or memory was wanting to read it: whatever it says
  Unread_responses : Responded

-- a string for each of these
abbrev pub strings : List (List ℕ) → List Field
strings [] = []
strings (text ∷ texts) = response_field ∷ strings texts

-- and what they say
abbrev pub values : (texts : List (List ℕ)) → Values (strings texts)
values [] = tt
values (text ∷ texts) = (text, values texts)

-- uint32 count, and as many strings
abbrev pub SaysResponses : List ℕ → Responded → Type 0
SaysResponses fields (Responses responses) = SpellsWhole
    (userauth_info_response.fields ++ strings responses)
    (length responses, values responses) fields
SaysResponses fields (Unfit_responses why) =
    MisfitsAll userauth_info_response.fields fields why
    ⊎ ((count : ℕ) × (rest : List ℕ) × SpellsAll userauth_info_response.fields
    (count, tt) fields rest
    × MisfitsWhole (replicate count response_field) rest why)
SaysResponses fields Unread_responses = Unit {0}
