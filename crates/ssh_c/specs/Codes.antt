-- How an input went, as callers that are not Rattle are told: the numbers of include/gidzork.h.
use Rattle.std.specs.Prelude.{◌≡◌, ◌⊎◌, ◌≤◌, ℕ, Result, Ok, Err}
use Rattle.ssh_embed.specs.Taking.{Went}
use Rattle.ssh_rules.specs.declared.error.Flow.TheVariants.{Continue, Ended}
use Rattle.ssh_rules.specs.declared.error.RunError.TheVariants as error
use Rattle.ssh_sftp.specs.declared.error.SftpError.{SftpError}
use Rattle.ssh_sftp.specs.declared.error.SftpError.TheVariants as sftp

abbrev pub code_of : Went → ℕ
code_of (Ok Continue) = 0
code_of (Ok Ended) = 1
code_of (Err error.NoMemory) = 3
code_of (Err (error.Handler why)) = 3
code_of (Err (error.Encoding why)) = 4
code_of (Err error.Inconsistent) = 5
code_of (Err error.Pending) = 6
code_of (Err (error.Key why)) = 7
code_of (Err error.UnsupportedAuthMethod) = 8
code_of (Err error.ChannelsFull) = 9
code_of (Err error.KeepaliveTimeout) = 10
code_of (Err error.InactivityTimeout) = 11
code_of (Err error.LinkFault) = 12
code_of (Err (error.Kex why)) = 12
code_of (Err error.InputLimit) = 12

-- how a piece of a stream of files went, or its end
abbrev pub Fared : Type 0
Fared = Result (Unit {0}) SftpError

-- the same as a number of include/gidzork.h
abbrev pub piece_code : Fared → ℕ
piece_code (Ok done) = 0
piece_code (Err sftp.NoMemory) = 3
piece_code (Err (sftp.BadLength length)) = 4
piece_code (Err sftp.NoId) = 4
piece_code (Err (sftp.Cut left)) = 4
piece_code (Err sftp.Failed) = 5
piece_code (Err (sftp.Handle why)) = 12

-- nothing was done: for want of memory, or as the call was out of turn
abbrev pub IsUndone : (code : ℕ) → Type 0
IsUndone code = (code ≡ 3) ⊎ (13 ≤ code)
