use Rattle.std.proofs.Common.{rules, arith, ◌≤◌, ◌^◌}
use Rattle.ssh_scene.specs.Grammar.{IsNumber}
use Rattle.ssh_scene.proofs.Digits.{too_large}
use Rattle.ssh_scene.proofs.command_lines.small_in.Goals as goal

pub returns-in-Err : goal.returns-in-Err
returns-in-Err c =
    let number : IsNumber c.args.digits.now c.in-Some.number = search rules in
    let large : 2 ^ 32 ≤ c.in-Some.number = search (rules, arith) in
    too_large c.args.digits.now c.in-Some.number number large
