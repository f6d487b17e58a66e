-- How a session that changed stands for a world that changed.
use Rattle.std.proofs.Common.{◌≡◌, ◌<◌, ◌+◌, ◌||◌, ◌&&◌, ℕ, List, [], ◌∷◌, Bool, true, false}
use Rattle.std.proofs.Common.{not, Option, Some, None}
use Rattle.std.proofs.Common.{refl, sym, ◌∙◌, ap, subst}
use Rattle.std.specs.Prelude.{◌^◌, length, cond}
use Rattle.std.specs.List.{list_any, list_all}
use Rattle.std.specs.Map.{values_of}
use Rattle.ssh_link.specs.Frames.{Frame}
use Rattle.ssh_link.specs.declared.outcome.Refusal.{Refusal}
use Rattle.ssh_link.specs.declared.outcome.Refusal.TheVariants.{UnknownChannel}
use Rattle.ssh_channels.specs.declared.params.ChannelParams.{ChannelParams}
use Rattle.ssh_channels.specs.Line.{is_established, data_waits, may_send}
use Rattle.ssh_channels.specs.Table.{Table, line_at, has, some_wait}
use Rattle.ssh_channels.specs.Numbers as numbers
use Rattle.ssh_channels.specs.declared.adjusted.Adjusted.{Adjusted}
use Rattle.ssh_channels.specs.declared.chunk.Chunk.{Chunk}
use Rattle.ssh_channels.specs.Calls.{Send, Stage}
use Rattle.ssh_channels.specs.Calls.{Op, Eof, Request, Byte, Flush_all, Flush_line, Grant, Adjust, Draw, op, adjust}
use Rattle.ssh_channels.specs.Calls.{credit_after, adjusting_at, framed_at}
use Rattle.ssh_channels.specs.Calls as calls
use Rattle.ssh_channels.specs.Entry.{Entry, all_framed, more_may_come}
use Rattle.ssh_channels.specs.Lines.{Lines, find, next_number, takes_in, hands_on}
use Rattle.ssh_channels.specs.Lines.{all_go_on, takes_data, handed as handed_of}
use Rattle.ssh_channels.specs.Stands.{Stands, AllHold}
use Rattle.ssh_channels.specs.Does as standard
use Rattle.ssh_channels.specs.Does.{IsMeant, does}
use Rattle.ssh_channels.proofs.Keeping.{op_stands, op_answers}
use Rattle.ssh_channels.proofs.Opening.{hands_on_stands, handed_same}
use Rattle.ssh_channels.proofs.Holding as holding
use Rattle.ssh_channels.proofs.Standing.{Found, found}
use Rattle.ssh_serving.specs.declared.server.Server.{Server}
use Rattle.ssh_rules.specs.Effect.{not_usable, no_sending, no_closing}
use Rattle.ssh_rules.specs.declared.exchange.Keys.{Keys}
use Rattle.ssh_rules.specs.Acts.{gives, steps_on}
use Rattle.ssh_rules.specs.declared.exchange.Passage.{Passage}
use Rattle.ssh_rules.specs.declared.gate.Gate.{Gate}
use Rattle.ssh_rules.specs.Exchange.{given, heard, is_running, passage_of}
use Rattle.ssh_rules.specs.Gate.{gate_of, payload_gate}
use Rattle.ssh_rules.specs.Run.{nothing_waits, going_out, handed_on, passage}
use Rattle.ssh_serving.specs.Handing.{lets_out, turns_keys}
use Rattle.ssh_serving.specs.Serve.{Refines}
use Rattle.ssh_rules.specs.World.{World, hears, in_exchange, is_empty, is_held, keyed, lined}
use Rattle.ssh_rules.specs.World.{is_there, next_place, room_of, room_on, target_of, target_on}
use Rattle.ssh_rules.specs.World.{packet_of, packet_on, writes}
use Rattle.ssh_handler.specs.Receiving as receiving

-- ---- the table

-- it changed alone
pub tabled : (session : Server) (table : Table) (fits : length session.session_id < 2 ^ 32)
    (w : World) (change : Lines → Lines) →
    Refines session w → Stands table (change w.channels.lines) →
    Refines (record session { table = table; session_id_fits = fits }) (lined change w)
tabled session table fits w change r s = record {
  config = r.config;
  session_id = r.session_id;
  remote_sshid = r.remote_sshid;
  state = r.state;
  requested = r.requested;
  name = r.name;
  table = s;
  opens = r.opens;
  no_more_sessions = r.no_more_sessions;
  wanted = r.wanted;
  outstanding = r.outstanding;
  keepalives = r.keepalives;
  disconnected = r.disconnected;
  keys = r.keys;
}

-- .. by one call
pub called : (o : Op) (session : Server) (table : Table) (fits : length session.session_id < 2 ^
    32) (w : World) → IsMeant o →
    table ≡ op o session.table → Refines session w →
    Refines (record session { table = table; session_id_fits = fits }) (lined (does o) w)
called o session table fits w m e r =
    tabled session table fits w (does o) r
    (subst (λ t. Stands t (does o w.channels.lines)) (sym e)
    (op_stands o session.table w.channels.lines m r.table))

-- a frame was written
pub staged : (frame other : Frame) (session : Server) (table : Table)
    (fits : length session.session_id < 2 ^ 32) (w : World) → frame ≡ other →
    table ≡ calls.stage frame session.table → Refines session w →
    Refines (record session { table = table; session_id_fits = fits }) (writes (other ∷ []) w)
staged frame other session table fits w is e r =
    subst (λ f. Refines (record session { table = table; session_id_fits = fits })
    (writes (f ∷ []) w)) is (called (Stage frame) session table fits w tt e r)

-- data were accepted, which wait in an exchange of keys
pub data_taken : (n : ℕ) (piece : Chunk) (rekeying : Bool) (session : Server) (table : Table)
    (fits : length session.session_id < 2 ^ 32) (w : World) → rekeying ≡ in_exchange w →
    table ≡ calls.send n piece rekeying session.table → Refines session w →
    Refines (record session { table = table; session_id_fits = fits })
    (lined (takes_data n piece (in_exchange w)) w)
data_taken n piece rekeying session table fits w is e r =
    subst (λ b. Refines (record session { table = table; session_id_fits = fits })
    (lined (takes_data n piece b) w)) is
    (called (Send n piece rekeying) session table fits w tt e r)

-- what a call answers
pub credit_same : (n amount : ℕ) (session : Server) (w : World) → Refines session w →
    credit_after n amount session.table ≡ standard.credit_after amount
    (find n w.channels.lines.entries)
credit_same n amount session w r = let e = op_answers session.table w.channels.lines r.table
    (Grant n amount) in cc

pub framed_same : (n : ℕ) (session : Server) (w : World) → Refines session w →
    framed_at n session.table ≡ standard.goes_out (find n w.channels.lines.entries)
framed_same n session w r = let e = op_answers session.table w.channels.lines r.table
    (Flush_line n false) in cc

pub coming_same : (n count target : ℕ) (session : Server) (w : World) → Refines session w →
    adjusting_at n count target session.table ≡ standard.coming_of count target
    (find n w.channels.lines.entries)
coming_same n count target session w r =
    let e = op_answers session.table w.channels.lines r.table (Adjust n count target) in cc

pub next_same : (session : Server) (w : World) → Refines session w →
    numbers.next_number session.table ≡ next_number w.channels.lines
next_same session w r = let e = op_answers session.table w.channels.lines r.table Draw in cc

pub there_same : (n : ℕ) (session : Server) (w : World) → Refines session w → has is_established n
    session.table ≡ is_there w n
there_same n session w r = let e = op_answers session.table w.channels.lines r.table (Byte n 0) in
    cc

-- ---- why a channel cannot be used

abbrev refused_by : (ChannelParams → Option Refusal) → Option ChannelParams → Option Refusal
refused_by why None = Some UnknownChannel
refused_by why (Some line) = why line

sending_at : (n : ℕ) (line : Option ChannelParams) (e : Option Entry) → Found n line e →
    refused_by (λ line. not_usable line.confirmed line.ended) line ≡ no_sending e
sending_at n None None f = refl
sending_at n None (Some e) f = absurd f
sending_at n (Some line) None f = absurd f
sending_at n (Some line) (Some e) f =
    ap (λ b. not_usable b line.ended) f.0.confirmed ∙ ap (not_usable e.confirmed) f.0.ended

closing_at : (n : ℕ) (line : Option ChannelParams) (e : Option Entry) → Found n line e →
    refused_by (λ line. not_usable line.confirmed line.pending_close) line ≡ no_closing e
closing_at n None None f = refl
closing_at n None (Some e) f = absurd f
closing_at n (Some line) None f = absurd f
closing_at n (Some line) (Some e) f =
    ap (λ b. not_usable b line.pending_close) f.0.confirmed ∙ ap (not_usable e.confirmed)
    f.0.pending_close

pub sending : (n : ℕ) (session : Server) (w : World) (line : Option ChannelParams)
    → Refines session w →
    line ≡ line_at n session.table →
    refused_by (λ line. not_usable line.confirmed line.ended) line
    ≡ no_sending (find n w.channels.lines.entries)
sending n session w line r e =
    ap (refused_by (λ line. not_usable line.confirmed line.ended)) e
    ∙ sending_at n _ _ (found 0 n session.table.lines w.channels.lines.entries r.table.entries)

pub closing : (n : ℕ) (session : Server) (w : World) (line : Option ChannelParams)
    → Refines session w →
    line ≡ line_at n session.table →
    refused_by (λ line. not_usable line.confirmed line.pending_close) line
    ≡ no_closing (find n w.channels.lines.entries)
closing n session w line r e =
    ap (refused_by (λ line. not_usable line.confirmed line.pending_close)) e
    ∙ closing_at n _ _ (found 0 n session.table.lines w.channels.lines.entries r.table.entries)

-- ---- whether data wait

or_not : (a b c : Bool) → c ≡ not b → not a || c ≡ not (a && b)
or_not true b c h = h
or_not false b c h = refl

waiting_at : (from : ℕ) (ps : List (ℕ × ChannelParams)) (es : List Entry) → AllHold from ps es →
    list_any data_waits (values_of ps) ≡ not (list_all all_framed es)
waiting_at from [] [] h = refl
waiting_at from [] (e ∷ es) h = absurd h
waiting_at from (p ∷ ps) [] h = absurd h
waiting_at from (p ∷ ps) (e ∷ es) h =
    ap (λ b. not b || list_any data_waits (values_of ps)) (holding.waits_same p.0 p.1 e h.1)
    ∙ or_not (all_framed e) (list_all all_framed es) (list_any data_waits (values_of ps))
    (waiting_at (p.0 + 1) ps es h.3)

not_not : (b : Bool) → not (not b) ≡ b
not_not true = refl
not_not false = refl

-- an exchange of keys runs in both or in neither
pub runs : (session : Server) (w : World) → Refines session w →
    is_running session.keys.exchange ≡ in_exchange w
runs session w r = ap (λ keys. is_running keys.exchange) r.keys

pub asks : (session : Server) (w : World) → Refines session w → not (some_wait session.table)
    ≡ nothing_waits w
asks session w r =
    ap not (waiting_at 0 session.table.lines w.channels.lines.entries r.table.entries)
    ∙ not_not (nothing_waits w)

-- up to how many bytes the room of a channel is filled
target_of_same : (n : ℕ) (line : Option ChannelParams) (e : Option Entry) → Found n line e →
    calls.target_of line ≡ target_of e
target_of_same n None None f = refl
target_of_same n None (Some e) f = absurd f
target_of_same n (Some line) None f = absurd f
target_of_same n (Some line) (Some e) f = f.0.target

pub target_same : (n : ℕ) (session : Server) (w : World) → Refines session w →
    calls.target_at n session.table ≡ target_on n w
target_same n session w r =
    target_of_same n _ _ (found 0 n session.table.lines w.channels.lines.entries r.table.entries)

-- how many bytes the peer may still send on a channel
room_of_same : (n : ℕ) (line : Option ChannelParams) (e : Option Entry) → Found n line e →
    calls.room_of line ≡ room_of e
room_of_same n None None f = refl
room_of_same n None (Some e) f = absurd f
room_of_same n (Some line) None f = absurd f
room_of_same n (Some line) (Some e) f = f.0.room

packet_of_same : (n : ℕ) (line : Option ChannelParams) (e : Option Entry) → Found n line e →
    receiving.packet_of line ≡ packet_of e
packet_of_same n None None f = refl
packet_of_same n None (Some e) f = absurd f
packet_of_same n (Some line) None f = absurd f
packet_of_same n (Some line) (Some e) f = f.0.packet

pub packet_same : (n : ℕ) (session : Server) (w : World) → Refines session w →
    receiving.packet_at n session.table ≡ packet_on n w
packet_same n session w r =
    packet_of_same n _ _ (found 0 n session.table.lines w.channels.lines.entries r.table.entries)

pub room_same : (n : ℕ) (session : Server) (w : World) → Refines session w →
    calls.room_at n session.table ≡ room_on n w
room_same n session w r =
    room_of_same n _ _ (found 0 n session.table.lines w.channels.lines.entries r.table.entries)

-- whether data would be accepted on it
pub may_send_same : (n : ℕ) (session : Server) (w : World) → Refines session w →
    has may_send n session.table ≡ standard.has more_may_come n w.channels.lines
may_send_same n session w r =
    let e = op_answers session.table w.channels.lines r.table (Eof n) in cc

-- data came in, up to the channel's target: what the table answers ..
pub came_in : (n target : ℕ) (sent bytes : List ℕ) (adjusted : Adjusted) (session : Server)
    (w : World) → target ≡ calls.target_at n session.table → sent ≡ bytes →
    adjusted ≡ adjusting_at n (length sent) target session.table → Refines session w →
    adjusted ≡ standard.coming_of (length bytes) (target_on n w)
    (find n w.channels.lines.entries)
came_in n target sent bytes adjusted session w is same e r =
    e ∙ ap (λ l. adjusting_at n (length l) target session.table) same
    ∙ ap (λ k. adjusting_at n (length bytes) k session.table) (is ∙ target_same n session w r)
    ∙ coming_same n (length bytes) (target_on n w) session w r

-- .. and the world behind them
pub taken_in : (n target : ℕ) (sent bytes : List ℕ) (session : Server) (table : Table)
    (fits : length session.session_id < 2 ^ 32) (w : World) →
    target ≡ calls.target_at n session.table → sent ≡ bytes →
    table ≡ adjust n (length sent) target session.table → Refines session w →
    Refines (record session { table = table; session_id_fits = fits })
    (lined (takes_in n (length bytes) (target_on n w)) w)
taken_in n target sent bytes session table fits w is same e r =
    let count = length bytes in
    subst (λ k. Refines (record session { table = table; session_id_fits = fits })
    (lined (takes_in n count k) w)) (is ∙ target_same n session w r)
    (called (Adjust n count target) session table fits w tt
    (e ∙ ap (λ l. adjust n (length l) target session.table) same) r)

-- the place that the next reply has that is wanted on a channel
pub place_same : (n : ℕ) (session : Server) (w : World) → Refines session w →
    calls.place_at n session.table ≡ next_place n w
place_same n session w r =
    let e = op_answers session.table w.channels.lines r.table (Request n) in cc

-- ---- the exchange of keys

-- its keys changed alone
pub rekeyed : (session : Server) (keys : Keys) (fits : length session.session_id < 2 ^ 32)
    (w : World) (to : Keys) → keys ≡ to → Refines session w →
    Refines (record session { keys = keys; session_id_fits = fits }) (keyed to w)
rekeyed session keys fits w to is r = record {
  config = r.config;
  session_id = r.session_id;
  remote_sshid = r.remote_sshid;
  state = r.state;
  requested = r.requested;
  name = r.name;
  table = r.table;
  opens = r.opens;
  no_more_sessions = r.no_more_sessions;
  wanted = r.wanted;
  outstanding = r.outstanding;
  keepalives = r.keepalives;
  disconnected = r.disconnected;
  keys = is;
}

-- the peer was heard
pub heard_by : (session : Server) (keepalives : ℕ) (keys : Keys)
    (fits : length session.session_id < 2 ^ 32) (w : World) (payload : List ℕ) →
    keepalives ≡ cond (is_empty payload) session.keepalives 0 →
    keys ≡ heard payload session.keys → Refines session w →
    Refines (record session { keepalives = keepalives; keys = keys; session_id_fits = fits })
    (hears payload w)
heard_by session keepalives keys fits w payload ticks is r = record {
  config = r.config;
  session_id = r.session_id;
  remote_sshid = r.remote_sshid;
  state = r.state;
  requested = r.requested;
  name = r.name;
  table = r.table;
  opens = r.opens;
  no_more_sessions = r.no_more_sessions;
  wanted = r.wanted;
  outstanding = r.outstanding;
  keepalives = ticks ∙ ap (λ n. cond (is_empty payload) n 0) r.keepalives;
  disconnected = r.disconnected;
  keys = is ∙ ap (heard payload) r.keys;
}

-- where a payload goes
pub passage_same : (session : Server) (w : World) (payload : List ℕ) (at : Passage) →
    Refines session w →
    at ≡ passage_of session.keys.exchange session.common.config.window_size payload →
    at ≡ passage w payload
passage_same session w payload at r is =
    is ∙ (ap (λ keys. passage_of keys.exchange session.common.config.window_size payload) r.keys
    ∙ ap (λ config. passage_of w.keys.exchange config.window_size payload) r.config)

-- .. and what it is to the session
pub gate_same : (session : Server) (w : World) (payload : List ℕ) (gate : Gate) →
    Refines session w → gate ≡ payload_gate session.common.config session.state payload →
    gate ≡ gate_of w payload
gate_same session w payload gate r is =
    is ∙ (ap (λ config. payload_gate config session.state payload) r.config
    ∙ ap (λ state. payload_gate w.settings.config state payload) r.state)

-- what waited goes on
pub let_out_to : (session : Server) (table : Table) (fits : length session.session_id < 2 ^ 32)
    (w : World) → table ≡ calls.flush_all session.table → Refines session w →
    Refines (record session { table = table; session_id_fits = fits }) (lined all_go_on w)
let_out_to session table fits w gone_on r =
    called (Flush_all false) session table fits w tt gone_on r

-- .. before the frames of the exchange or behind them, which is the same
pub moved_so : (payload : List ℕ) (frames : List Frame) (done : Bool) (w : World) →
    turns_keys payload done (gives frames (lets_out done w)) ≡ steps_on payload done (gives frames w)
moved_so payload frames true w = refl
moved_so payload frames false w = refl

-- ---- the end of an input

-- the frames that are handed on
pub handed_out : (held : Bool) (session : Server) (w : World) (frames : List Frame) →
    Refines session w → held ≡ is_held w → frames ≡ calls.handed held session.table →
    frames ≡ going_out w
handed_out held session w frames r is f =
    f ∙ (handed_same held session.table w.channels.lines r.table
    ∙ ap (λ b. handed_of b w.channels.lines) is)

-- they are handed on, or held
pub handed_to : (held : Bool) (session : Server) (table : Table) (keys : Keys)
    (fits : length session.session_id < 2 ^ 32) (w : World) (frames : List Frame) →
    Refines session w → held ≡ is_held w → table ≡ calls.hand_on held session.table →
    frames ≡ calls.handed held session.table → keys ≡ given frames session.keys →
    Refines (record session { table = table; keys = keys; session_id_fits = fits }) (handed_on w)
handed_to held session table keys fits w frames r is e f k =
    let all = w.channels.lines in
    let s = subst (λ t. Stands t (hands_on (is_held w) all)) (sym (e ∙ ap (λ b.
    calls.hand_on b session.table) is))
    (hands_on_stands (is_held w) session.table all r.table) in
    let q = tabled session table fits w (hands_on (is_held w)) r s in
    let to : keys ≡ given (going_out w) w.keys =
    k ∙ (ap (λ l. given l session.keys) (handed_out held session w frames r is f)
    ∙ ap (given (going_out w)) r.keys) in
    rekeyed (record session { table = table; session_id_fits = fits }) keys fits
    (lined (hands_on (is_held w)) w) (given (going_out w) w.keys) to q
