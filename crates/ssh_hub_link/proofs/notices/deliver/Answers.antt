use Rattle.std.proofs.Common.{◌∙◌, not, refl, ap, sym}
use Rattle.ssh_link.specs.declared.notice.Notice.TheVariants.{Channel}
use Rattle.ssh_hub.specs.Words.{view_of}
use Rattle.ssh_hub.proofs.Following.{acts_none}
use Rattle.ssh_hub.proofs.Fitting.{made_fits}
use Rattle.ssh_hub_link.specs.Notices.{notices, to_tell}
use Rattle.ssh_hub_link.proofs.Noticing.{delivered}
use Rattle.ssh_hub_link.proofs.notices.deliver.Goals as goal

pub loop-init : goal.loop-init
loop-init g c = (
  c.requires,
  refl,
  acts_none (notices (Channel c.args.channel c.args.msg)) (view_of c.args.seat.now) to_tell
      c.args.seat.now.legal,
)

pub returns-in-Done-clause-calls : goal.returns-in-Done-clause-calls
returns-in-Done-clause-calls g c = let inv = c.loop.invariant in
    delivered _ _ _ _ _ _ _ _ inv.2 inv.1 c.in-Done.ensures.call refl

pub returns-in-Gone-clause-calls : goal.returns-in-Gone-clause-calls
returns-in-Gone-clause-calls g c = let inv = c.loop.invariant in
    delivered _ _ _ _ _ _ _ _ inv.2 inv.1 c.in-Gone.ensures.call refl

pub returns-then-may_be_dropped-clause-calls : goal.returns-then-may_be_dropped-clause-calls
returns-then-may_be_dropped-clause-calls g c = let inv = c.loop.invariant in
    delivered _ _ _ _ _ _ _ _ inv.2 inv.1 c.in-Full.ensures.call
    (ap not (sym c.may_be_dropped-may_be_dropped.ensures ∙ c.if-may_be_dropped.true))

pub loop-preserved : goal.loop-preserved
loop-preserved g c = let inv = c.loop.invariant in (
  c.in-Full.ensures.seat,
  made_fits _ _ _ _ c.in-Full.ensures.call ∙ inv.1,
  delivered _ _ _ _ _ _ _ _ inv.2 inv.1 c.in-Full.ensures.call
      (ap not (sym c.may_be_dropped-may_be_dropped.ensures ∙ c.if-may_be_dropped.false)),
)
