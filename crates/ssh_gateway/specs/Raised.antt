-- The errors of a gateway.
use Rattle.ssh_handler.specs.declared.recorded.RecordError.{RecordError}
use Rattle.ssh_handler.specs.declared.recorded.RecordError.TheVariants.{Inner}
use Rattle.ssh_link.specs.declared.link.LinkFault.{LinkFault}
use Rattle.ssh_link.specs.declared.link.LinkFault.TheVariants as link
use Rattle.ssh_rules.specs.declared.error.RunError.{RunError}
use Rattle.ssh_rules.specs.declared.error.RunError.TheVariants as run
use Rattle.ssh_gateway.specs.declared.error.GatewayError.{GatewayError}
use Rattle.ssh_gateway.specs.declared.error.GatewayError.TheVariants as error
use Rattle.ssh_gateway.specs.declared.targets.TargetFault.{TargetFault}
use Rattle.ssh_gateway.specs.declared.targets.TargetFault.TheVariants as target

-- the error of an input: that of the handler of authentication is handed on, and where the gateway's
-- own handler cannot go on, memory was wanting
abbrev pub lowered : {E F : Type 0} → RunError (RecordError E) F → GatewayError E F
lowered run.NoMemory = error.NoMemory
lowered run.LinkFault = error.Run run.LinkFault
lowered run.InputLimit = error.Run run.InputLimit
lowered (run.Encoding why) = error.Run (run.Encoding why)
lowered run.Inconsistent = error.Run run.Inconsistent
lowered run.Pending = error.Run run.Pending
lowered (run.Key why) = error.Run (run.Key why)
lowered run.UnsupportedAuthMethod = error.Run run.UnsupportedAuthMethod
lowered (run.Handler (Inner e)) = error.Run (run.Handler e)
lowered (run.Handler _) = error.NoMemory
lowered (run.Kex e) = error.Run (run.Kex e)
lowered run.ChannelsFull = error.Run run.ChannelsFull
lowered run.KeepaliveTimeout = error.Run run.KeepaliveTimeout
lowered run.InactivityTimeout = error.Run run.InactivityTimeout

abbrev pub link_error : {E F : Type 0} → LinkFault → GatewayError E F
link_error link.Failed = error.Run run.LinkFault
link_error link.NoMemory = error.NoMemory

abbrev pub target_error : {E F : Type 0} → TargetFault → GatewayError E F
target_error target.Failed = error.TargetFault
target_error target.NoMemory = error.NoMemory
