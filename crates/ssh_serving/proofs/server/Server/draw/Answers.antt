use Rattle.std.proofs.Common.{◌∙◌, refl, sym, ap, Some, Err}
use Rattle.std.proofs.lemmas.Result.{err_from_is_err_and}
use Rattle.std.specs.Ordering.{nat_cmp}
use Rattle.std.specs.BTreeMap.{insert_entry}
use Rattle.ssh_channels.specs.Lines.{drawn}
use Rattle.ssh_serving.proofs.Opened.{changed, draws_stands}
use Rattle.ssh_serving.proofs.Refining.{next_same}
use Rattle.ssh_serving.proofs.server.Server.draw.Goals as goal

pub returns-clause-number : goal.returns-clause-number
returns-clause-number c = λ w r. sym (next_same c.args.self.now w r) ∙ c.in_ok-number.ensures.number

pub returns-clause-world : goal.returns-clause-world
returns-clause-world c = λ w r.
    let n = c.in_ok-number.number.0 in
    let old = c.args.self.now in
    changed old _ w (insert_entry nat_cmp w.channels.opens n c.args.said)
    (drawn (Some n) w.channels.lines) refl refl refl refl
    refl refl refl refl
    (c.in_ok-insert.ensures.entries ∙ ap (λ l. insert_entry nat_cmp l n c.args.said) r.opens)
    (draws_stands c.new_channel_id.new.self old w n c.in_ok-number.ensures.table
    (sym (next_same old w r) ∙ c.in_ok-number.ensures.number) r) r

pub returns-in_err-number-clause-full : goal.returns-in_err-number-clause-full
returns-in_err-number-clause-full c = λ w r h.
    let p = err_from_is_err_and c.from_residual.result c.from_residual.ensures.1 in
    sym (next_same c.args.self.now w r) ∙ c.in_err-number.ensures.full.0 (sym (p.1 ∙ ap Err p.2)
    ∙ h)
