-- Opens of the peer: their numbers, and the channels that they become.
use Rattle.std.proofs.Common.{◌≡◌, ◌<◌, ◌∷◌, ◌++◌, ℕ, List, [], Some, sym, ◌∙◌, ap, subst}
use Rattle.std.specs.Prelude.{◌^◌, length, cond}
use Rattle.ssh_link.specs.Frames.{Frame}
use Rattle.ssh_wire.specs.declared.channel_id.ChannelId.{ChannelId}
use Rattle.ssh_wire.specs.declared.open.ChannelOpenConfirmation.{ChannelOpenConfirmation}
use Rattle.ssh_channels.specs.Calls.{stage, insert_with, Draw, Drop_pending, Stage, Confirm}
use Rattle.ssh_channels.specs.Calls.{confirm}
use Rattle.ssh_channels.specs.Does.{does}
use Rattle.ssh_channels.specs.Entry.{opened}
use Rattle.ssh_channels.specs.Line.{established}
use Rattle.ssh_channels.specs.Lines.{Lines, drawn, next_number, adds_with, drops_pending, write}
use Rattle.ssh_channels.specs.Lines.{confirms}
use Rattle.ssh_channels.specs.Numbers as numbers
use Rattle.ssh_channels.specs.Stands.{Stands}
use Rattle.ssh_channels.specs.Table.{Table}
use Rattle.ssh_channels.proofs.Opening.{add_with_stands, draw_stands, drop_stands}
use Rattle.ssh_serving.specs.declared.server.Server.{Server}
use Rattle.ssh_rules.specs.Opening.{Opening}
use Rattle.ssh_serving.specs.Serve.{Refines}
use Rattle.ssh_rules.specs.Opens.{failure_frame}
use Rattle.ssh_rules.specs.Rows.{turns_away}
use Rattle.ssh_rules.specs.World.{World, lined}
use Rattle.ssh_serving.proofs.Refining.{called}
use Rattle.ssh_rules.proofs.Read.Misread.{full_packet}
use Rattle.ssh_serving.proofs.Rows.{confirms_as}

-- the table and the opens that wait changed alone
pub changed : (old new : Server) (w : World) (waiting : List (ℕ × Opening)) (lines : Lines)
    → new.common ≡ old.common → new.session_id ≡ old.session_id → new.state ≡ old.state →
    new.requested ≡ old.requested → new.no_more_sessions ≡ old.no_more_sessions →
    new.outstanding ≡ old.outstanding → new.keepalives ≡ old.keepalives → new.keys ≡ old.keys →
    new.opens.entries ≡ waiting →
    Stands new.table lines → Refines old w →
    Refines new (record w { channels = record w.channels { lines = lines; opens = waiting } })
changed old new w waiting lines common id state requested no_more outstanding keepalives keys opens
    stands r =
    record {
      config = ap (λ c. c.config) common ∙ r.config;
      session_id = id ∙ r.session_id;
      remote_sshid = ap (λ c. c.remote_sshid) common ∙ r.remote_sshid;
      state = state ∙ r.state;
      requested = requested ∙ r.requested;
      name = ap (λ c. c.auth_user) common ∙ r.name;
      table = stands;
      opens = opens;
      no_more_sessions = no_more ∙ r.no_more_sessions;
      wanted = ap (λ c. c.wants_reply) common ∙ r.wanted;
      outstanding = ap (λ q. q.items) outstanding ∙ r.outstanding;
      keepalives = keepalives ∙ r.keepalives;
      disconnected = ap (λ c. c.disconnected) common ∙ r.disconnected;
      keys = keys ∙ r.keys;
    }

-- a number was drawn
pub draws_stands : (table : Table) (old : Server) (w : World) (n : ℕ) → table
    ≡ numbers.draw old.table →
    next_number w.channels.lines ≡ Some n → Refines old w
    → Stands table (drawn (Some n) w.channels.lines)
draws_stands table old w n e d r =
    subst (λ o. Stands table (drawn o w.channels.lines)) d
    (subst (λ t. Stands t (drawn (next_number w.channels.lines) w.channels.lines)) (sym e)
    (draw_stands old.table w.channels.lines r.table))

-- a channel was added, and its confirmation written
pub confirms_stands : (table : Table) (old : Server) (w : World) (peer : ℕ) (own : ChannelId)
    (window room packet own_packet : ℕ)
    (frame : Frame) → 0 < packet → window < 2 ^ 32 →
    table ≡ insert_with frame (established peer own window room packet own_packet) old.table →
    Refines old w →
    Stands table (adds_with frame (opened own.0 peer window room packet own_packet)
    w.channels.lines)
confirms_stands table old w peer own window room packet own_packet frame k small e r =
    subst (λ t. Stands t (adds_with frame (opened own.0 peer window room packet own_packet)
    w.channels.lines)) (sym e)
    (add_with_stands old.table w.channels.lines r.table peer own window room packet own_packet k
    small frame)

-- a refusal was written, and its number is free
pub fails_stands : (table : Table) (old : Server) (w : World) (n : ℕ) (frame : Frame) →
    table ≡ numbers.drop_pending n (stage frame old.table) → Refines old w →
    Stands table (write (frame ∷ []) (drops_pending n w.channels.lines))
fails_stands table old w n frame e r =
    let s = drop_stands old.table w.channels.lines r.table n in
    subst (λ t. Stands t (write (frame ∷ []) (drops_pending n w.channels.lines))) (sym e)
    (record {
      entries = s.entries;
      pending = s.pending;
      last = s.last;
      written = ap (λ fs. fs ++ frame ∷ []) s.written;
    })

-- an open was refused by its type
pub went_away : (session : Server) (w : World) (n : ℕ) (frame : Frame) (payload : List ℕ) →
    Refines session (lined (does (Stage frame)) (lined (does (Drop_pending n)) (lined (does Draw)
    w))) → next_number w.channels.lines ≡ Some n → frame ≡ failure_frame n payload
    → Refines session (turns_away n payload w)
went_away session w n frame payload r next is =
    subst (λ f. Refines session (lined (λ l. write (f ∷ []) (drops_pending n (drawn (Some n) l)))
    w)) is
    (subst (λ o. Refines session (lined (λ l. write (frame ∷ []) (drops_pending n (drawn o l))) w))
    next r)

-- an open of this side's was agreed to
pub confirmed_as : (message : ChannelOpenConfirmation) (session : Server) (table : Table)
    (fits : length session.session_id < 2 ^ 32) (w : World)
    → (message.maximum_packet_size ≡ 0 → ⊥) → message.initial_window_size < 2 ^ 32
    → table ≡ confirm message session.table → Refines session w →
    Refines (record session { table = table; session_id_fits = fits })
    (lined (confirms message.recipient_channel message.sender_channel message.initial_window_size
    message.maximum_packet_size) w)
confirmed_as message session table fits w packets small e r =
    subst (λ l. Refines (record session { table = table; session_id_fits = fits })
    (lined (λ _. l) w)) (confirms_as message w.channels.lines packets)
    (called (Confirm message) session table fits w small
    (e ∙ sym (ap (λ b. cond b session.table (confirm message session.table))
    (full_packet message.maximum_packet_size packets))) r)
