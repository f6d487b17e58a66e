use Rattle.std.proofs.Common.{List, [], ◌∷◌, ◌++◌, Err, refl, sym, subst}
use Rattle.ssh_link.specs.declared.link.TraceEntry.TheVariants.{Noticed}
use Rattle.ssh_link.specs.declared.notice.Notice.TheVariants.{Channel}
use Rattle.ssh_auth.specs.declared.question.Lent.TheVariants.{Happened}
use Rattle.ssh_auth.specs.Plan.{Tell}
use Rattle.ssh_rules.specs.Acts.{Act, acts, Calls}
use Rattle.ssh_rules.specs.Failure.{error_of_link}
use Rattle.ssh_rules.specs.Rows.{aims_if}
use Rattle.ssh_serving.specs.Serve.{Serves}
use Rattle.ssh_serving.proofs.Replying.{aims_then}
use Rattle.ssh_serving.proofs.Serving.{given, not_given, passed, passed_later}
use Rattle.ssh_serving.proofs.Serving.{served_both}
use Rattle.ssh_serving.proofs.server.Server.tell.Goals as goal

pub returns-in-Err-clause-does : goal.returns-in-Err-clause-does
returns-in-Err-clause-does g c = λ w r later.
    let n = c.args.channel in
    let now = Calls c.args.at (Happened n c.args.happening) in
    let rest = acts ((aims_if n c.args.filled ++ now ∷ []) ++ later) w in
    let plan = Tell (Noticed (Channel n c.args.message)) rest in
    passed plan (λ (_ : Unit {0}) _. rest) (λ (_ : Unit {0}). acts later) _ _ c.args.self.now
    c.args.self.now (error_of_link c.in-Err.e) (Err c.from.result) c.from.ensures
    (not_given (Noticed (Channel n c.args.message)) plan (λ (_ : Unit {0}) _. rest) _ _
    c.args.self.now c.in-Err.e c.in-Err.ensures)

pub returns-in-Err-aim-clause-does : goal.returns-in-Err-aim-clause-does
returns-in-Err-aim-clause-does g c = λ w r later.
    let n = c.args.channel in
    let now = Calls c.args.at (Happened n c.args.happening) in
    let rest = acts (aims_if n c.args.filled ++ now ∷ later) w in
    subst (λ l. Serves (Tell (Noticed (Channel n c.args.message)) (acts l w)) (λ (_ : Unit {0}).
    acts later) (g.O.Transport.heard c.args.outside.now) (g.O.Transport.heard c.aim.new.outside)
    c.aim.new.self (Err c.in-Err-aim.e))
    (sym (aims_then n c.args.filled now later))
    (passed_later tt (Tell (Noticed (Channel n c.args.message)) rest) (λ (_ : Unit {0}) _. rest)
    (λ (_ : Unit {0}). acts later) (λ _ (_ : Unit {0}). acts (now ∷ later)) _ _ _ c.args.self.now
    c.aim.new.self c.aim.new.self c.in-Err-aim.e (Err c.in-Err-aim.e) refl
    (given (Noticed (Channel n c.args.message)) rest _ _ w c.args.self.now r
    c.in-Ok.ensures) (λ _ _. c.in-Err-aim.ensures.does w r (now ∷ later)))

pub returns-in-Ok-aim-clause-does : goal.returns-in-Ok-aim-clause-does
returns-in-Ok-aim-clause-does g c = λ w r later.
    let n = c.args.channel in
    let now = Calls c.args.at (Happened n c.args.happening) in
    let rest = acts (aims_if n c.args.filled ++ now ∷ later) w in
    subst (λ l. Serves (Tell (Noticed (Channel n c.args.message)) (acts l w)) (λ (_ : Unit {0}).
    acts later) (g.O.Transport.heard c.args.outside.now) (g.O.Transport.heard c.call.new.outside)
    c.call.new.self c.call.result)
    (sym (aims_then n c.args.filled now later))
    (served_both tt (Tell (Noticed (Channel n c.args.message)) rest) (λ (_ : Unit {0}) _. rest)
    (λ (_ : Unit {0}). acts later) _ _ _ c.args.self.now c.call.new.self c.call.result
    (given (Noticed (Channel n c.args.message)) rest _ _ w c.args.self.now r
    c.in-Ok.ensures)
    (λ _ _. served_both tt rest (λ (_ : Unit {0}). acts (now ∷ later)) (λ (_ : Unit {0}).
    acts later) _ _ _ c.aim.new.self c.call.new.self c.call.result
    (c.in-Ok-aim.ensures.does w r (now ∷ later)) (λ v q. c.call.ensures.does v q later)))
