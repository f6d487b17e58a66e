use Rattle.std.proofs.Common.{◌≡◌, ◌∙◌, [], ap, drop, arith, rules}
use Rattle.std.proofs.lemmas.List.{drop_all}
use Rattle.ssh_transcript.specs.Summary.{in_all}
use Rattle.ssh_threads_lines.specs.Lines.{data_on}
use Rattle.ssh_threads_lines.proofs.Counting.{total_is}
use Rattle.ssh_threads_lines.proofs.lines.total_on.Goals as goal

pub returns : goal.returns
returns c =
    let done : drop c.loop-entry.entry-index c.args.trace.now ≡ [] = search (rules, drop_all) in
    let none : in_all (data_on c.args.channel.0) (drop c.loop-entry.entry-index c.args.trace.now)
    ≡ 0 = ap (in_all (data_on c.args.channel.0)) done in
    let all : c.loop-entry.total ≡ in_all (data_on c.args.channel.0) c.args.trace.now =
    omega (arith, c.loop-entry.invariant, none) in
    all ∙ total_is c.args.channel.0 c.args.trace.now
