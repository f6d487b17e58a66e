use Rattle.std.proofs.Common.{sym}
use Rattle.ssh_embed.proofs.connection.Connection.new.Goals as goal

pub returns-clause-opens : goal.returns-clause-opens
returns-clause-opens c = (
  (c.in_ok-session.ensures.opens c.args.repeatable, sym c.new-5.ensures.repeatable),
  c.in_ok-session.ensures.told,
  c.new-6.ensures,
  c.new-2.ensures,
)
