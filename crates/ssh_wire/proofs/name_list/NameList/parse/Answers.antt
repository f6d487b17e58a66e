use Rattle.std.proofs.Common.{◌≡◌, ◌∙◌, sym, subst, lit<, eqb}
use Rattle.std.specs.List.{slice_split, All}
use Rattle.std.proofs.lemmas.Iterator.Consumers.{YieldsList-end}
use Rattle.std.proofs.lemmas.Iterator.Splits.{YieldsList-from_str_split}
use Rattle.ssh_wire.specs.Names.{comma, HasNoComma}
use Rattle.ssh_wire.proofs.Names.{All-HasNoComma, joined-slice_split, none_listed}
use Rattle.ssh_wire.proofs.name_list.NameList.parse.Goals as goal

pub returns : goal.returns
returns c =
    let begun = c.split-name-items.ensures in
    let same = c.into_iter-name-iterator.ensures.into_iter_gives in
    let pieces = YieldsList-from_str_split comma c.args.text.now (lit< tt) (rw same begun.text)
    (rw same begun.has_more) (rw same begun.pattern) in
    let ended = YieldsList-end pieces c.loop-name.yielded _ c.loop-name.yielded_by _ _ c.in-None.is
    c.next.ensures.steps in
    let names : c.loop-name.names ≡ slice_split (λ byte. eqb byte comma) c.args.text.now =
    c.loop-name.invariant ∙ ended.0 in
    record {
      joined = rw names (joined-slice_split c.args.text.now);
      apart = subst (All HasNoComma) (sym names) (All-HasNoComma c.args.text.now);
      none = none_listed c.args.text.now c.loop-name.names c.is_empty.result names
          c.is_empty.ensures c.if-is_empty.false;
      memory = tt;
    }
