-- The codes of how a request came out (draft-ietf-secsh-filexfer-02 section 7), and the messages
-- that this server gives.
use Rattle.std.specs.Prelude.{ℕ, List, codes}
use Rattle.ssh_sftp_core.specs.declared.status.Status.{Status}
use Rattle.ssh_sftp_core.specs.declared.status.Status.TheVariants as status

abbrev pub status_code : Status → ℕ
status_code status.Ok = 0
status_code status.Eof = 1
status_code status.NoSuchFile = 2
status_code status.Failure = 4
status_code status.BadMessage = 5
status_code status.Unsupported = 8

abbrev pub status_message : Status → List ℕ
status_message status.Ok = codes "ok"
status_message status.Eof = codes "eof"
status_message status.NoSuchFile = codes "no such file"
status_message status.Failure = codes "failure"
status_message status.BadMessage = codes "bad message"
status_message status.Unsupported = codes "unsupported"
