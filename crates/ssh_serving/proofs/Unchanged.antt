-- Sessions that stand for one world as for another.
use Rattle.std.proofs.Common.{◌≡◌, ◌<◌, ◌∙◌, Global, false, cond, sym, subst}
use Rattle.std.specs.declared.collections.VecDeque.{VecDeque}
use Rattle.std.specs.Prelude.{◌^◌, length}
use Rattle.ssh_rules.specs.declared.outstanding.Outstanding.{Outstanding}
use Rattle.ssh_serving.specs.declared.server.Server.{Server}
use Rattle.ssh_serving.specs.Serve.{Refines}
use Rattle.ssh_rules.specs.World.{World, unless_ended}

-- the room for requests that wait for a reply is no part of a world
pub made_room : (session : Server) (outstanding : VecDeque Outstanding Global)
    (fits : length session.session_id < 2 ^ 32) (w : World) →
    outstanding.items ≡ session.outstanding.items → Refines session w → Refines (record session {
      outstanding = outstanding;
      session_id_fits = fits;
    }) w
made_room session outstanding fits w items r = record {
  config = r.config;
  session_id = r.session_id;
  remote_sshid = r.remote_sshid;
  state = r.state;
  requested = r.requested;
  name = r.name;
  table = r.table;
  opens = r.opens;
  no_more_sessions = r.no_more_sessions;
  wanted = r.wanted;
  outstanding = items ∙ r.outstanding;
  keepalives = r.keepalives;
  disconnected = r.disconnected;
  keys = r.keys;
}

-- where the connection was not ended, what changes changes
pub not_ended : (session : Server) (w : World) (change : World → World) →
    w.disconnected ≡ false → Refines session (change w) →
    Refines session (unless_ended change w)
not_ended session w change stands r =
    subst (λ b. Refines session (cond b w (change w))) (sym stands) r
