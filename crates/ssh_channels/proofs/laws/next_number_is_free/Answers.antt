use Rattle.std.proofs.Common.{◌^◌}
use Rattle.ssh_channels.specs.Numbers as numbers
use Rattle.ssh_channels.specs.Lines as lines
use Rattle.ssh_channels.proofs.Frees.{found_free, found_small}
use Rattle.ssh_channels.proofs.laws.next_number_is_free.Goals as goal

pub returns-clause-table : goal.returns-clause-table
returns-clause-table c t n is = found_free (2 ^ 32) t.last n (numbers.is_taken t) is

pub returns-clause-channels : goal.returns-clause-channels
returns-clause-channels c l n is = found_free (2 ^ 32) l.last n (lines.is_taken l) is

pub returns-clause-small : goal.returns-clause-small
returns-clause-small c t n is = found_small (2 ^ 32) t.last n (numbers.is_taken t) is
