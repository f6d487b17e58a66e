use Rattle.std.proofs.Common.{◌≡◌, take, string_bytes}
use Rattle.ssh_wire.specs.Names.{joined}
use Rattle.ssh_wire.proofs.name_list.NameList.to_text.Given as goal

abbrev pub invariant-loop-place : goal.invariant-loop-place
invariant-loop-place l = string_bytes l.text ≡ joined (take l.place l.name-items)
