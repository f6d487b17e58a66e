-- An exchange of keys that the transport makes by itself (RFC 4253 section 7).
use Rattle.std.specs.Prelude.{Bool, []}
use Rattle.ssh_link.specs.declared.kex.KexStep.{KexStep}

-- the transport sends its payloads itself; behind this one the new keys are in use, or not yet
abbrev pub ends_so : (ends : Bool) → KexStep
ends_so ends = record { frames = []; done = ends }
