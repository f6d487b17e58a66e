use Rattle.std.proofs.Common.{rules, refl}
use Rattle.ssh_serving.proofs.server.Server.new.Goals as goal

pub returns-clause-opens : goal.returns-clause-opens
returns-clause-opens c = λ repeatable. record {
  config = refl;
  session_id = search rules;
  remote_sshid = search rules;
  state = refl;
  requested = refl;
  name = search rules;
  table = search rules;
  opens = search rules;
  no_more_sessions = refl;
  wanted = refl;
  outstanding = search rules;
  keepalives = refl;
  disconnected = refl;
  keys = search rules;
}
