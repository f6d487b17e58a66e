-- The names of signals (RFC 4254 section 6.10).
use Rattle.std.specs.Prelude.{ℕ, List, codes}
use Rattle.ssh_wire.specs.declared.sig.Sig.{Sig}
use Rattle.ssh_wire.specs.declared.sig.Sig.TheVariants as sig

abbrev pub signal_name : Sig → List ℕ
signal_name sig.ABRT = codes "ABRT"
signal_name sig.ALRM = codes "ALRM"
signal_name sig.FPE = codes "FPE"
signal_name sig.HUP = codes "HUP"
signal_name sig.ILL = codes "ILL"
signal_name sig.INT = codes "INT"
signal_name sig.KILL = codes "KILL"
signal_name sig.PIPE = codes "PIPE"
signal_name sig.QUIT = codes "QUIT"
signal_name sig.SEGV = codes "SEGV"
signal_name sig.TERM = codes "TERM"
signal_name sig.USR1 = codes "USR1"
signal_name sig.USR2 = codes "USR2"
signal_name (sig.Custom name) = name

-- a signal of the standard's list
abbrev pub IsStandard : Sig → Type 0
IsStandard (sig.Custom _) = ⊥
IsStandard _ = Unit {0}
