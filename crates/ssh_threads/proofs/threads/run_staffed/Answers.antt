use Rattle.std.proofs.Common.{refl, ap}
use Rattle.ssh_threads.proofs.Joining.{ran, ran_so, fault_rose}
use Rattle.ssh_threads.proofs.threads.run_staffed.Goals as goal

pub returns-clause-ran : goal.returns-clause-ran
returns-clause-ran g c = ran_so _ _ _ _ _ _ _ _ _ _ (ap (λ v. v.items) c.joined.ensures.trace)
    c.joined.ensures.outcome
    (ran _ _ _ _ _ _ _ _ c.in_ok-server.ensures.new c.in-Some.ensures.served refl
    c.joined.ensures.meets)

pub returns-clause-cause : goal.returns-clause-cause
returns-clause-cause g c is = let ended = returns-clause-ran g c in
    fault_rose _ _ _ is ended.run
