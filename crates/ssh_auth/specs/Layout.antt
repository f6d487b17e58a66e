-- The answers to a request of authentication (RFC 4252 section 5.1), each by its layout.
use Rattle.std.specs.Prelude.{ℕ, List, [], ◌++◌, length, flat_map, Bool, if◌then◌else◌}
use Rattle.ssh_wire.specs.declared.method.MethodKind.{MethodKind}
use Rattle.ssh_wire.specs.Field.{Number}
use Rattle.ssh_wire.specs.Messages as message
use Rattle.ssh_wire.specs.Messages.{spelling, spellings, written, written_before}
use Rattle.ssh_wire.specs.Methods.{names_text}
use Rattle.ssh_auth.specs.Prompts.{Prompt}

-- a boolean as it is written
abbrev pub flag : Bool → ℕ
flag value = if value then 1 else 0

-- USERAUTH_FAILURE: the names of the methods that can continue, and whether it is a partial success
abbrev pub failure_naming : (names : List ℕ) → Bool → List ℕ
failure_naming names partial = written message.userauth_failure (names, (partial, tt))

-- the same of these methods
abbrev pub failure : List MethodKind → Bool → List ℕ
failure methods partial = failure_naming (names_text methods) partial

-- USERAUTH_SUCCESS
abbrev pub success : List ℕ
success = written message.userauth_success tt

-- PK_OK: the name of the algorithm and the blob, as they were offered (RFC 4252 section 7)
abbrev pub pk_ok : (name blob : List ℕ) → List ℕ
pk_ok name blob = written message.userauth_pk_ok (name, (blob, tt))

-- the text of a prompt, and whether what is typed is shown
abbrev pub prompt_fields : Prompt → List ℕ
prompt_fields prompt = spellings message.prompt_fields (prompt.0, (prompt.1, tt))

-- how many prompts there are, and the prompts
abbrev pub prompts_fields : List Prompt → List ℕ
prompts_fields prompts = spelling Number (length prompts) ++ flat_map prompt_fields prompts

-- USERAUTH_INFO_REQUEST: the language tag is empty (RFC 4256 section 3.2)
abbrev pub info_request : (name instructions : List ℕ) → List Prompt → List ℕ
info_request name instructions prompts = written_before message.userauth_info_request
    (name, (instructions, ([], (length prompts, tt)))) (flat_map prompt_fields prompts)
