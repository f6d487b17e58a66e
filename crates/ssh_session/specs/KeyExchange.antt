-- What an exchange hash is made of (RFC 4253 section 8).
use Rattle.std.specs.Prelude.{ℕ, List, []}
use Rattle.ssh_session.specs.declared.exchange_data.Exchange.{Exchange}

-- an exchange between these two, of which no message came yet
abbrev pub between : (client_id server_id : List ℕ) → Exchange
between client_id server_id = record {
  client_id = client_id;
  server_id = server_id;
  client_kex_init = [];
  server_kex_init = [];
  client_ephemeral = [];
  server_ephemeral = [];
}
