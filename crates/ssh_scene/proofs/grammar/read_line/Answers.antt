use Rattle.std.proofs.Common.{rules, ◌≡◌, Some, IsUtf8, false}
use Rattle.ssh_scene.specs.Grammar.{cut, is_passed}
use Rattle.ssh_scene.proofs.Texts.{words_read}
use Rattle.ssh_scene.proofs.grammar.read_line.Goals as goal

pub returns-in-Some : goal.returns-in-Some
returns-in-Some c =
    let passed : is_passed c.args.line.now ≡ false = search rules in
    let utf8 : IsUtf8 c.args.line.now = search rules in
    let parts : cut c.args.line.now ≡ Some (c.in-Some.word.now, c.in-Some.rest.now) =
    search rules in
    words_read c.args.line.now c.in-Some.word.now c.in-Some.rest.now c.word_line.result passed utf8
    parts c.word_line.ensures
