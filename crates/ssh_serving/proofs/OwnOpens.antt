-- Opens of this side's: their messages, and what they leave.
use Rattle.std.proofs.Common.{◌≡◌, ◌<◌, ◌≤◌, ◌+◌, ◌∷◌, ◌++◌, ℕ, [], Option, false}
use Rattle.std.proofs.Common.{length, rules, refl, sym, subst, arith}
use Rattle.std.specs.Prelude.{◌^◌}
use Rattle.std.proofs.lemmas.List.{length-append}
use Rattle.ssh_wire.specs.Field.{Number}
use Rattle.ssh_wire.specs.Messages.{spellings}
use Rattle.ssh_link.specs.Frames.{Frame}
use Rattle.ssh_handler.specs.declared.config.Config.{Config}
use Rattle.ssh_channels.specs.Calls.{Open_next, Stage}
use Rattle.ssh_channels.specs.Does.{does}
use Rattle.ssh_channels.specs.Lines.{next_number, asks_next}
use Rattle.ssh_channels.specs.Stands.{Stands}
use Rattle.ssh_channels.specs.Table.{Table}
use Rattle.ssh_serving.specs.declared.server.Server.{Server}
use Rattle.ssh_rules.specs.Effect.{opens, opens_at, is_too_long}
use Rattle.ssh_rules.specs.OwnOpens.{OwnOpen, open_payload, open_frame}
use Rattle.ssh_serving.specs.Serve.{Refines}
use Rattle.ssh_rules.specs.World.{World, lined, writes}

-- an open whose parts are short enough draws the next number
pub opens_short : (asked : OwnOpen) (w : World) (number : Option ℕ)
    → length asked.name + length asked.fields ≤ 4294967278 → next_number w.channels.lines ≡ number
    → opens asked w ≡ opens_at number asked w
opens_short asked w number h is =
    let window = w.settings.config.window_size in
    let packet = w.settings.config.maximum_packet_size in
    let payload = open_payload asked 0 window packet in
    let sizes = spellings (Number ∷ Number ∷ Number ∷ []) (0, (window, (packet, tt))) in
    let all = length-append (asked.name ++ sizes) asked.fields in
    let head = length-append asked.name sizes in
    let few : length payload < 2 ^ 32 = omega (arith, h, all, head) in
    let t : is_too_long payload ≡ false = search (rules, few) in
    rw (t, is) refl

-- it was written
pub opened_own : (asked : OwnOpen) (session : Server) (old : Server) (w : World) (number : ℕ)
    (frame : Frame) → Refines old w
    → frame ≡ open_frame asked number old.common.config.window_size
    old.common.config.maximum_packet_size
    → Refines session (lined (does (Stage frame)) (lined (does (Open_next
    old.common.config.window_size old.common.config.maximum_packet_size)) w))
    → Refines session (writes (open_frame asked number w.settings.config.window_size
    w.settings.config.maximum_packet_size ∷ [])
    (lined (asks_next w.settings.config.window_size w.settings.config.maximum_packet_size) w))
opened_own asked session old w number frame r is h =
    subst (λ (k : Config). Refines session (writes (open_frame asked number k.window_size
    k.maximum_packet_size ∷ []) (lined (asks_next k.window_size k.maximum_packet_size) w))) r.config
    (subst (λ (f : Frame). Refines session (writes (f ∷ [])
    (lined (asks_next old.common.config.window_size old.common.config.maximum_packet_size) w))) is
    h)

-- the table is as it was
pub untouched : (session : Server) (table : Table)
    (fits : length session.session_id < 2 ^ 32) (w : World) → table ≡ session.table
    → Refines session w → Refines (record session { table = table; session_id_fits = fits }) w
untouched session table fits w e r = record {
  config = r.config;
  session_id = r.session_id;
  remote_sshid = r.remote_sshid;
  state = r.state;
  requested = r.requested;
  name = r.name;
  table = subst (λ t. Stands t w.channels.lines) (sym e) r.table;
  opens = r.opens;
  no_more_sessions = r.no_more_sessions;
  wanted = r.wanted;
  outstanding = r.outstanding;
  keepalives = r.keepalives;
  disconnected = r.disconnected;
  keys = r.keys;
}
