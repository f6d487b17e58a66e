use Rattle.std.proofs.Common.{◌≡◌, Ok, Err, ℕ, Result, false, refl, ◌∙◌, subst}
use Rattle.ssh_link.specs.declared.command.Command.{Command}
use Rattle.ssh_hub.specs.declared.answers.HandleError.{HandleError}
use Rattle.ssh_hub.specs.declared.history.View.{View}
use Rattle.ssh_handles.specs.Callers.{IsPut}
use Rattle.ssh_handles.proofs.Reserving.{spent_msg, released_all}
use Rattle.ssh_handles.proofs.caller.Caller.put_piece.Goals as goal

-- the put of a command, as the put of an equal one
put_as : (msg same : Command) (n : ℕ) (v : View) (a : Result ℕ HandleError) (w : View) → msg ≡ same
    → IsPut msg n false v a w → IsPut same n false v a w
put_as msg same n v a w is put = subst (λ (m : Command). IsPut m n false v a w) is put

pub returns-in-Ok-clause-none : goal.returns-in-Ok-clause-none
returns-in-Ok-clause-none g c = c.in-Ok.ensures.reserved
    ∙ spent_msg _ _ _ _ _ _ c.data_command-msg.ensures c.requires

pub returns-in-Ok-clause-entries : goal.returns-in-Ok-clause-entries
returns-in-Ok-clause-entries g c =
    (_, put_as _ _ _ _ _ _ c.data_command-msg.ensures c.in-Ok.ensures.entries)

pub returns-in-Err-clause-none : goal.returns-in-Err-clause-none
returns-in-Err-clause-none g c = released_all _ _ _ _ c.release.ensures.call
    (c.in-Err.ensures.reserved ∙ c.requires)

pub returns-in-Err-clause-entries : goal.returns-in-Err-clause-entries
returns-in-Err-clause-entries g c = (
  _,
  _,
  refl,
  put_as _ _ _ _ _ _ c.data_command-msg.ensures c.in-Err.ensures.entries,
  c.release.ensures.call,
)
