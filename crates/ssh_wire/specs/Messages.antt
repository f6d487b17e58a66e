-- The messages of SSH, each with its number and the fields after it (RFC 4250 section 4.1.2). A
-- message that its reader does not read to the end has the fields here that come first.
use Rattle.std.specs.Prelude.{◌<◌, ◌^◌, ℕ, List, [], ◌∷◌, ◌++◌, length, if◌then◌else◌, IsUtf8}
use Rattle.std.specs.Int.{w64, to_be_bytes}
use Rattle.ssh_wire.specs.Field.{Field, Byte, Flag, Number, Long, Bytes, Text, Value, Values}
use Rattle.ssh_wire.specs.Field.{number, string}

pub record Message : Type 0 where
  pub number : ℕ
  pub fields : List Field

-- how a value is written; a flag is 0 or 1 (RFC 4251 section 5)
abbrev pub spelling : (field : Field) → Value field → List ℕ
spelling Byte n = n ∷ []
spelling Flag value = (if value then 1 else 0) ∷ []
spelling Number n = number n
spelling Long n = to_be_bytes w64 n
spelling Bytes bytes = string bytes
spelling Text text = string text

-- fields one after another, as they are written
abbrev pub spellings : (fields : List Field) → Values fields → List ℕ
spellings [] values = []
spellings (field ∷ []) values = spelling field values.0
spellings (field ∷ next ∷ fields) values =
    spelling field values.0 ++ spellings (next ∷ fields) values.1

-- the payload of a message that says this
abbrev pub written : (message : Message) → Values message.fields → List ℕ
written message values = message.number ∷ spellings message.fields values

-- the same, and then this rest
abbrev pub spellings_before : (fields : List Field) → Values fields → (rest : List ℕ) → List ℕ
spellings_before [] values rest = rest
spellings_before (field ∷ fields) values rest =
    spelling field values.0 ++ spellings_before fields values.1 rest

-- the payload of a message that says this in the fields that come first, and this after them
abbrev pub written_before : (message : Message) → Values message.fields → (rest : List ℕ) → List ℕ
written_before message values rest =
    message.number ∷ spellings_before message.fields values rest

-- a value that its field can carry
abbrev pub IsCarried : (field : Field) → Value field → Type 0
IsCarried Byte n = n < 256
IsCarried Flag value = Unit {0}
IsCarried Number n = n < 2 ^ 32
IsCarried Long n = n < 2 ^ 64
IsCarried Bytes bytes = length bytes < 2 ^ 32
IsCarried Text text = (length text < 2 ^ 32) × IsUtf8 text

abbrev pub AreCarried : (fields : List Field) → Values fields → Type 0
AreCarried [] values = Unit {0}
AreCarried (field ∷ fields) values = IsCarried field values.0 × AreCarried fields values.1

-- ---- the transport (RFC 4253)

-- uint32 reason, string description, string language (section 11.1)
abbrev pub disconnect : Message
disconnect = record { number = 1; fields = Number ∷ Text ∷ Text ∷ [] }

-- boolean whether it is always to be shown, string message, string language (section 11.3)
abbrev pub debug : Message
debug = record { number = 4; fields = Flag ∷ Text ∷ Text ∷ [] }

-- string service (section 10)
abbrev pub service_request : Message
service_request = record { number = 5; fields = Text ∷ [] }

abbrev pub service_accept : Message
service_accept = record { number = 6; fields = Text ∷ [] }

-- an exchange of keys begins with this number; the numbers 20 to 49 are the exchange's own (section
-- 7)
abbrev pub kexinit : ℕ
kexinit = 20

-- ---- authentication (RFC 4252, RFC 4256)

-- string user, string service, string method, and then the method's own fields (RFC 4252 section 5)
abbrev pub userauth_request : Message
userauth_request = record { number = 50; fields = Text ∷ Text ∷ Text ∷ [] }

-- the own fields of method password: boolean change, which is false, string password (RFC 4252
-- section 8)
abbrev pub password_fields : List Field
password_fields = Flag ∷ Text ∷ []

-- where it is true: string password, string new password (RFC 4252 section 8)
abbrev pub password_change_fields : List Field
password_change_fields = Flag ∷ Text ∷ Text ∷ []

-- those of method publickey: boolean signed, string algorithm, string blob, and where it is signed
-- string signature after them (RFC 4252 section 7)
abbrev pub publickey_fields : List Field
publickey_fields = Flag ∷ Text ∷ Bytes ∷ []

-- string signature, which holds string algorithm and string signature (RFC 4252 section 7)
abbrev pub publickey_signature_fields : List Field
publickey_signature_fields = Bytes ∷ []

-- those of method keyboard-interactive: string language, string submethods (RFC 4256 section 3.1)
abbrev pub keyboard_interactive_fields : List Field
keyboard_interactive_fields = Text ∷ Text ∷ []

-- name-list of the methods that can continue, boolean partial success (RFC 4252 section 5.1)
abbrev pub userauth_failure : Message
userauth_failure = record { number = 51; fields = Text ∷ Flag ∷ [] }

-- nothing (RFC 4252 section 5.1)
abbrev pub userauth_success : Message
userauth_success = record { number = 52; fields = [] }

-- string message, string language (RFC 4252 section 5.4)
abbrev pub userauth_banner : Message
userauth_banner = record { number = 53; fields = Text ∷ Text ∷ [] }

-- string algorithm, string blob (RFC 4252 section 7)
abbrev pub userauth_pk_ok : Message
userauth_pk_ok = record { number = 60; fields = Text ∷ Bytes ∷ [] }

-- string name, string instruction, string language, uint32 count of prompts, and then the prompts
-- (RFC 4256 section 3.2)
abbrev pub userauth_info_request : Message
userauth_info_request = record { number = 60; fields = Text ∷ Text ∷ Text ∷ Number ∷ [] }

-- a prompt: string prompt, boolean echo (RFC 4256 section 3.2)
abbrev pub prompt_fields : List Field
prompt_fields = Text ∷ Flag ∷ []

-- uint32 count of responses, and then the responses, a string each (RFC 4256 section 3.4)
abbrev pub userauth_info_response : Message
userauth_info_response = record { number = 61; fields = Number ∷ [] }

-- a response (RFC 4256 section 3.4)
abbrev pub response_field : Field
response_field = Bytes

-- ---- the connection (RFC 4254)

-- string type, boolean want reply, and then the type's own fields (section 4)
abbrev pub global_request : Message
global_request = record { number = 80; fields = Text ∷ Flag ∷ [] }

-- nothing, where no port is told (section 4)
abbrev pub request_success : Message
request_success = record { number = 81; fields = [] }

-- uint32 port that was bound, where the request asked for port 0 (section 7.1)
abbrev pub forward_success : Message
forward_success = record { number = 81; fields = Number ∷ [] }

-- nothing (section 4)
abbrev pub request_failure : Message
request_failure = record { number = 82; fields = [] }

-- string type, uint32 sender channel, uint32 initial window size, uint32 maximum packet size, and
-- then the type's own fields (section 5.1)
abbrev pub channel_open : Message
channel_open = record { number = 90; fields = Text ∷ Number ∷ Number ∷ Number ∷ [] }

-- uint32 recipient channel, uint32 sender channel, uint32 initial window size, uint32 maximum
-- packet size (section 5.1)
abbrev pub channel_open_confirmation : Message
channel_open_confirmation = record { number = 91; fields = Number ∷ Number ∷ Number ∷ Number ∷ [] }

-- uint32 recipient channel, uint32 reason, string description, string language (section 5.1)
abbrev pub channel_open_failure : Message
channel_open_failure = record { number = 92; fields = Number ∷ Number ∷ Text ∷ Text ∷ [] }

-- uint32 recipient channel, uint32 bytes to add (section 5.2)
abbrev pub channel_window_adjust : Message
channel_window_adjust = record { number = 93; fields = Number ∷ Number ∷ [] }

-- uint32 recipient channel, string data (section 5.2)
abbrev pub channel_data : Message
channel_data = record { number = 94; fields = Number ∷ Bytes ∷ [] }

-- uint32 recipient channel, uint32 data type code, string data (section 5.2)
abbrev pub channel_extended_data : Message
channel_extended_data = record { number = 95; fields = Number ∷ Number ∷ Bytes ∷ [] }

-- uint32 recipient channel (section 5.3)
abbrev pub channel_eof : Message
channel_eof = record { number = 96; fields = Number ∷ [] }

abbrev pub channel_close : Message
channel_close = record { number = 97; fields = Number ∷ [] }

-- uint32 recipient channel, string type, boolean want reply, and then the type's own fields
-- (section 5.4)
abbrev pub channel_request : Message
channel_request = record { number = 98; fields = Number ∷ Text ∷ Flag ∷ [] }

-- uint32 recipient channel (section 5.4)
abbrev pub channel_success : Message
channel_success = record { number = 99; fields = Number ∷ [] }

abbrev pub channel_failure : Message
channel_failure = record { number = 100; fields = Number ∷ [] }
