use Rattle.std.proofs.Common.{◌≡◌, ◌++◌, bytes_eq, length, subst, sym, ◌∙◌}
use Rattle.std.specs.Cmp.{unsigned_Decides}
use Rattle.std.proofs.lemmas.Slice.Eq.{strip_prefix_is}
use Rattle.ssh_link.proofs.Parted.{parted, fronts_differ, backs_compare}
use Rattle.ssh_link.proofs.frame.are_same_joined.Goals as goal

pub returns-then-eq : goal.returns-then-eq
returns-then-eq c =
    let whole = parted (length c.args.front.now) c.args.other_front.now _ _ c.split_at.ensures.front
    c.split_at.ensures.back in
    subst (λ l. c.eq-then-eq.result ≡ bytes_eq (c.args.front.now ++ c.args.back.now)
    (l ++ c.args.other_back.now)) whole
    (backs_compare c.args.front.now c.args.back.now c.split_at.result.0.now c.split_at.result.1.now
    c.args.other_back c.strip_prefix.result c.eq-then-eq.result
    (sym c.eq.ensures ∙ c.if-eq.true)
    (strip_prefix_is unsigned_Decides c.args.back.now c.split_at.result.1.now c.strip_prefix.result
    c.strip_prefix.ensures.cases) c.eq-then-eq.ensures)

pub returns-else-eq : goal.returns-else-eq
returns-else-eq c =
    let whole = parted (length c.args.front.now) c.args.other_front.now _ _ c.split_at.ensures.front
    c.split_at.ensures.back in
    subst (λ l. c.eq.result ≡ bytes_eq (c.args.front.now ++ c.args.back.now)
    (l ++ c.args.other_back.now)) whole
    (fronts_differ c.args.front.now c.args.back.now c.split_at.result.0.now c.split_at.result.1.now
    c.args.other_back.now c.eq.result
    c.split_at.ensures.front_len c.eq.ensures c.if-eq.false)
