use Rattle.std.proofs.Common.{refl, rules}
use Rattle.ssh_threads.proofs.Joining.{if_ok, ran_since, ran_so, not_run}
use Rattle.ssh_threads.proofs.threads.run_threads.Goals as goal

pub returns-in-Ok-channels-clause-ran : goal.returns-in-Ok-channels-clause-ran
returns-in-Ok-channels-clause-ran g c = let told = c.channels.ensures in
    if_ok _ _ _ (λ run ran. ran_since _ _ _ _ _ _ _ _ _ _ _ _ told.later told.inputs told.frames
    ran) c.run_staffed.ensures.ran

pub returns-in-Err-Failed-clause-ran : goal.returns-in-Err-Failed-clause-ran
returns-in-Err-Failed-clause-ran g c = let told = c.channels.ensures in
    ran_so _ _ _ _ _ _ _ _ _ _ (search rules) refl
    (not_run _ _ _ _ _ _ _ (told.cause (search rules)) told.inputs told.frames
    c.in-Ok.ensures.first)
