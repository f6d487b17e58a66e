use Rattle.std.proofs.Common.{refl}
use Rattle.ssh_link.specs.declared.notice.Notice.TheVariants.{
  Granted,
  Ready,
  Forwarded,
  Cancelled,
  Pong,
}
use Rattle.ssh_hub_link.proofs.Noticing.{told_as}
use Rattle.ssh_hub_link.proofs.notices.tell.Goals as goal

pub returns-in-Granted-clause-ok : goal.returns-in-Granted-clause-ok
returns-in-Granted-clause-ok g c = let n = c.in-Granted in
    told_as _ (Granted n.channel n.amount) _ _ _ n.is refl c.grant.ensures.call

pub returns-in-Ok-clause-ok : goal.returns-in-Ok-clause-ok
returns-in-Ok-clause-ok g c = let n = c.in-Ready in
    told_as _ (Ready n.channel n.window n.packet) _ _ _ n.is refl c.in-Ok.ensures.call

pub returns-in-Forwarded-clause-ok : goal.returns-in-Forwarded-clause-ok
returns-in-Forwarded-clause-ok g c = let n = c.in-Forwarded in
    told_as _ (Forwarded n.slot n.port) _ _ _ n.is refl c.slot_answer.ensures.call

pub returns-in-Cancelled-clause-ok : goal.returns-in-Cancelled-clause-ok
returns-in-Cancelled-clause-ok g c = let n = c.in-Cancelled in
    told_as _ (Cancelled n.slot n.ok) _ _ _ n.is refl c.slot_answer-in-Cancelled.ensures.call

pub returns-in-Pong-clause-ok : goal.returns-in-Pong-clause-ok
returns-in-Pong-clause-ok g c = let n = c.in-Pong in
    told_as _ (Pong n.slot) _ _ _ n.is refl c.slot_answer-in-Pong.ensures.call
