use Rattle.std.proofs.Common.{◌≡◌, rules, Some, None}
use Rattle.ssh_scene.specs.Grammar.{cut, Of_signature, Fits}
use Rattle.ssh_scene.proofs.Signatures.{four_words, three_words}
use Rattle.ssh_scene.proofs.grammar.sign_line.Goals as goal

pub returns : goal.returns
returns c =
    let a : cut c.args.rest.now ≡ Some (c.in-Some.key.now, c.in-Some.rest.now) = search rules in
    let b : cut c.in-Some.rest.now ≡ Some (
      c.in-Some-split_once.algorithm.now,
      c.in-Some-split_once.rest.now,
    ) = search rules in
    let d : cut c.in-Some-split_once.rest.now ≡ Some (
      c.in-Some-split_once-2.message.now,
      c.in-Some-split_once-2.signature.now,
    ) = search rules in
    let fits : Fits (Of_signature c.in-Some.key.now c.in-Some-split_once.algorithm.now
    c.in-Some-split_once-2.message.now c.in-Some-split_once-2.signature.now) c.map.result =
    search rules in
    four_words c.args.rest.now c.in-Some.key.now c.in-Some.rest.now
    c.in-Some-split_once.algorithm.now c.in-Some-split_once.rest.now
    c.in-Some-split_once-2.message.now
    c.in-Some-split_once-2.signature.now c.map.result a b d fits

pub returns-in_default-split_once-2 : goal.returns-in_default-split_once-2
returns-in_default-split_once-2 c =
    let a : cut c.args.rest.now ≡ Some (c.in-Some.key.now, c.in-Some.rest.now) = search rules in
    let b : cut c.in-Some.rest.now ≡ Some (
      c.in-Some-split_once.algorithm.now,
      c.in-Some-split_once.rest.now,
    ) = search rules in
    let d : cut c.in-Some-split_once.rest.now ≡ None = search rules in
    three_words c.args.rest.now c.in-Some.key.now c.in-Some.rest.now
    c.in-Some-split_once.algorithm.now c.in-Some-split_once.rest.now a b d
