-- The error of a request that a field's error, or a key's, is.
use Rattle.ssh_wire.specs.declared.error.WireError.{WireError}
use Rattle.ssh_wire.specs.declared.error.WireError.TheVariants as wire
use Rattle.ssh_keys.specs.declared.error.KeyError.{KeyError}
use Rattle.ssh_keys.specs.declared.error.KeyError.TheVariants as key
use Rattle.ssh_auth.specs.declared.error.AuthError.{AuthError}
use Rattle.ssh_auth.specs.declared.error.AuthError.TheVariants as error

abbrev pub auth_error_of : {E : Type 0} → WireError → AuthError E
auth_error_of wire.NoMemory = error.NoMemory
auth_error_of why = error.Encoding why

abbrev pub auth_error_of_key : {E : Type 0} → KeyError → AuthError E
auth_error_of_key key.NoMemory = error.NoMemory
auth_error_of_key why = error.Key why
