use Rattle.std.proofs.Common.{◌≡◌, Some, refl, ap, sym, ◌∙◌}
use Rattle.ssh_link.specs.declared.open_answer.OpenAnswer.{OpenAnswer}
use Rattle.ssh_hub.specs.declared.answers.PutReply.{PutReply}
use Rattle.ssh_hub.specs.declared.history.HubCall.TheVariants.{PutAnswer}
use Rattle.ssh_hub.specs.declared.history.HubReply.TheVariants.{ReplyWasPut}
use Rattle.ssh_hub.proofs.Following.{acts_none}
use Rattle.ssh_hub.proofs.Fitting.{reply_full_back}
use Rattle.ssh_handles.specs.Said.{reply_said}
use Rattle.ssh_handles.specs.Tries.{tries}
use Rattle.ssh_handles.proofs.Trying.{tried_in_vain, tried_well}
use Rattle.ssh_handles.proofs.caller.Caller.reply.Goals as goal

-- the call of the answer in hand is that of the answer that was handed in
same_call : {answer said : OpenAnswer} → answer ≡ said → PutAnswer said ≡ PutAnswer answer
same_call e = ap (λ (a : OpenAnswer). PutAnswer a) (sym e)

pub loop-init : goal.loop-init
loop-init g c = (refl, refl, acts_none (tries _ reply_said) _ _ c.args.self.now.seat.legal)

pub returns-in-Done-clause-entries : goal.returns-in-Done-clause-entries
returns-in-Done-clause-entries g c = let now = c.in-Done in let inv = c.loop.invariant in
    tried_well _ reply_said _ _ _ _ _ _ inv.2 (same_call inv.1) now.ensures.call refl

pub returns-in-Ended-clause-entries : goal.returns-in-Ended-clause-entries
returns-in-Ended-clause-entries g c = let now = c.in-Ended in let inv = c.loop.invariant in
    tried_well _ reply_said _ _ _ _ _ _ inv.2 (same_call inv.1) now.ensures.call refl

pub loop-preserved : goal.loop-preserved
loop-preserved g c = let now = c.in-Full in let inv = c.loop.invariant in (
  inv.0,
  reply_full_back _ _ _ _ _ now.ensures.call refl ∙ inv.1,
  tried_in_vain _ reply_said _ _ _ _ _ inv.2 (same_call inv.1) now.ensures.call refl,
)
