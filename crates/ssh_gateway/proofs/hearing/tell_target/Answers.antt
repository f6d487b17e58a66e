use Rattle.std.proofs.Common.{rules, [], ◌∷◌, Ok, refl, sym, ap, ◌∙◌}
use Rattle.std.specs.Option.{option_map}
use Rattle.ssh_auth.specs.declared.question.Happening.TheVariants as what
use Rattle.ssh_gateway.specs.declared.targets.TargetCall.TheVariants.{Write, Finish, Close}
use Rattle.ssh_gateway.proofs.Cutting.{due_as, fails_alone}
use Rattle.ssh_gateway.proofs.hearing.tell_target.Goals as goal

pub returns-in-Data-clause-failed : goal.returns-in-Data-clause-failed
returns-in-Data-clause-failed g c = fails_alone c.write.result _ _ _
    (λ r. Write c.in-Some.one.now.id c.as_slice.result.now r)
    (due_as c.args.question.now c.in-Lends-Happened.channel c.in-Lends-Happened.happening
    (what.Data c.in-Data.bytes) c.args.connections.now c.in-Some.one.now
    (Write c.in-Some.one.now.id c.as_slice.result.now (Ok tt)) (search rules) c.in-Data.is
    (sym c.connection_on.ensures ∙ ap (option_map (λ b. b.now)) c.in-Some.is)
    (ap (λ bytes. Write c.in-Some.one.now.id bytes (Ok tt) ∷ []) (sym c.as_slice.ensures)))
    (λ fault. refl) c.write.ensures.told

pub returns-in-Eof-clause-failed : goal.returns-in-Eof-clause-failed
returns-in-Eof-clause-failed g c = fails_alone c.finish.result _ _ _
    (λ r. Finish c.in-Some.one.now.id r)
    (due_as c.args.question.now c.in-Lends-Happened.channel c.in-Lends-Happened.happening what.Eof
    c.args.connections.now c.in-Some.one.now (Finish c.in-Some.one.now.id (Ok tt)) (search rules)
    c.in-Eof.is (sym c.connection_on.ensures ∙ ap (option_map (λ b. b.now)) c.in-Some.is) refl)
    (λ fault. refl) c.finish.ensures.told

pub returns-in-Close-clause-failed : goal.returns-in-Close-clause-failed
returns-in-Close-clause-failed g c = fails_alone c.close.result _ _ _
    (λ r. Close c.in-Some.one.now.id r)
    (due_as c.args.question.now c.in-Lends-Happened.channel c.in-Lends-Happened.happening what.Close
    c.args.connections.now c.in-Some.one.now (Close c.in-Some.one.now.id (Ok tt)) (search rules)
    c.in-Close.is (sym c.connection_on.ensures ∙ ap (option_map (λ b. b.now)) c.in-Some.is) refl)
    (λ fault. refl) c.close.ensures.told
