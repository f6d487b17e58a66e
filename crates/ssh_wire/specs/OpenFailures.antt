-- The codes of the reasons not to open a channel (RFC 4254 section 5.1), and the descriptions that
-- this server gives.
use Rattle.std.specs.Prelude.{ℕ, List, codes}
use Rattle.ssh_wire.specs.declared.open_failure.ChannelOpenFailure.{ChannelOpenFailure}
use Rattle.ssh_wire.specs.declared.open_failure.ChannelOpenFailure.TheVariants as reason

abbrev pub open_failure_code : ChannelOpenFailure → ℕ
open_failure_code reason.AdministrativelyProhibited = 1
open_failure_code reason.ConnectFailed = 2
open_failure_code reason.UnknownChannelType = 3
open_failure_code reason.ResourceShortage = 4

abbrev pub open_failure_text : ChannelOpenFailure → List ℕ
open_failure_text reason.AdministrativelyProhibited = codes "administratively prohibited"
open_failure_text reason.ConnectFailed = codes "connect failed"
open_failure_text reason.UnknownChannelType = codes "unknown channel type"
open_failure_text reason.ResourceShortage = codes "resource shortage"
