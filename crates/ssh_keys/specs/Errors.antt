-- Why a blob is refused, where one of its fields is.
use Rattle.ssh_wire.specs.declared.error.WireError.{WireError}
use Rattle.ssh_wire.specs.declared.error.WireError.TheVariants as wire
use Rattle.ssh_keys.specs.declared.error.KeyError.{KeyError}
use Rattle.ssh_keys.specs.declared.error.KeyError.TheVariants.{Blob, NoMemory}

abbrev pub key_error : WireError → KeyError
key_error wire.Short = Blob
key_error wire.NotUtf8 = Blob
key_error (wire.Trailing _) = Blob
key_error wire.TooLong = Blob
key_error wire.NoMemory = NoMemory
