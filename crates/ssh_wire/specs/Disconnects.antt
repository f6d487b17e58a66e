-- The codes of the reasons to end a connection (RFC 4250 section 4.2.2).
use Rattle.std.specs.Prelude.{ℕ}
use Rattle.ssh_wire.specs.declared.disconnect.Disconnect.{Disconnect}
use Rattle.ssh_wire.specs.declared.disconnect.Disconnect.TheVariants as reason

abbrev pub disconnect_code : Disconnect → ℕ
disconnect_code reason.HostNotAllowedToConnect = 1
disconnect_code reason.ProtocolError = 2
disconnect_code reason.KeyExchangeFailed = 3
disconnect_code reason.Reserved = 4
disconnect_code reason.MACError = 5
disconnect_code reason.CompressionError = 6
disconnect_code reason.ServiceNotAvailable = 7
disconnect_code reason.ProtocolVersionNotSupported = 8
disconnect_code reason.HostKeyNotVerifiable = 9
disconnect_code reason.ConnectionLost = 10
disconnect_code reason.ByApplication = 11
disconnect_code reason.TooManyConnections = 12
disconnect_code reason.AuthCancelledByUser = 13
disconnect_code reason.NoMoreAuthMethodsAvailable = 14
disconnect_code reason.IllegalUserName = 15
