use Rattle.ssh_auth.proofs.Telling.{unfit_prompts}
use Rattle.ssh_auth.proofs.asked.asked_by_prompts.Goals as goal

pub returns-in-Err : goal.returns-in-Err
returns-in-Err c = unfit_prompts c.args.fields.now c.in-Err.field-0 c.in-Err.ensures
