-- What was sent on the channels stays what has to be sent, by calls of the table and by commands
-- (RFC
-- 4254 section 5).
use Rattle.std.proofs.Common.{◌≡◌, ◌==◌, ◌||◌, ℕ, List, [], ◌∷◌, Bool}
use Rattle.std.proofs.Common.{true, false, Option, Some, None}
use Rattle.std.proofs.Common.{refl, sym, ◌∙◌, ap, subst, arith, append_assoc}
use Rattle.std.specs.Prelude.{min, not, IfSome, if◌then◌else◌}
use Rattle.std.specs.List.{list_any}
use Rattle.std.specs.Ordering.{nat_cmp}
use Rattle.std.specs.BTreeMap.{is_at}
use Rattle.std.proofs.lemmas.List.{append-nil}
use Rattle.ssh_wire.specs.declared.open_failure.ChannelOpenFailure.{ChannelOpenFailure}
use Rattle.ssh_wire.specs.declared.channel_id.ChannelId.{ChannelId}
use Rattle.ssh_link.specs.Frames.{Frame}
use Rattle.ssh_link.specs.declared.command.Command.{Command}
use Rattle.ssh_link.specs.declared.command.Command.TheVariants as command
use Rattle.ssh_link.specs.declared.link.TraceEntry.{TraceEntry}
use Rattle.ssh_link.specs.declared.open_answer.OpenAnswer.{OpenAnswer}
use Rattle.ssh_channels.specs.declared.chunk.Chunk.{Chunk}
use Rattle.ssh_channels.specs.declared.chunk.DataKind.TheVariants.{Plain, Extended}
use Rattle.ssh_channels.specs.Calls.{Op, Send, Eof, Close, Drop_pending}
use Rattle.ssh_channels.specs.Calls.{Stage, Open_next, Settle, Flush_all}
use Rattle.ssh_channels.specs.Does.{IsFair, is_idle, does}
use Rattle.ssh_channels.specs.Entry.{Entry, IsDue, opened, asked}
use Rattle.ssh_channels.specs.Layout.{chunk, on_channel}
use Rattle.ssh_channels.specs.Lines.{Lines, find, added, next_number, drops_pending, takes_data}
use Rattle.ssh_channels.specs.Lines.{asks, asks_next, joins, takes_reply, all_go_on}
use Rattle.ssh_channels.specs.Sent.{Each, Ledgered, may_go}
use Rattle.ssh_channels.proofs.Booked.{op_kept, opens_kept, asks_kept}
use Rattle.ssh_channels.proofs.Dues.{all_sound, all_due, op_due}
use Rattle.ssh_channels.proofs.Listed.{one_number, find_new, find_beside}
use Rattle.ssh_rules.specs.Effect.{effect_at, refused_for, done_by, decides_open, said}
use Rattle.ssh_rules.specs.Effect.{decides, fails_open, failure_of, is_too_long, opens_at}
use Rattle.ssh_rules.specs.Effect.{opens, opens_or_not, requests_on, refuses}
use Rattle.ssh_rules.specs.OwnOpens.{OwnOpen, open_payload}
use Rattle.ssh_rules.specs.Opening.{Opening}
use Rattle.ssh_rules.specs.Opens.{own, opening_of, decided}
use Rattle.ssh_rules.specs.Outcome.{Outcome, Goes, Ends, Fails}
use Rattle.ssh_rules.specs.Layout.{at_once}
use Rattle.ssh_rules.specs.OwnMessages.{OwnMessage}
use Rattle.ssh_rules.specs.World.{World, ChannelRequest, lined, writes, settles_for, awaits}
use Rattle.ssh_rules.specs.World.{wants_global, settles_global, in_exchange, keyed}
use Rattle.ssh_rules.specs.declared.exchange.Keys.{Keys}
use Rattle.ssh_rules.proofs.Ledger.Absent.{IsAbsent, data_absent, eof_absent, close_absent}
use Rattle.ssh_rules.proofs.Ledger.Absent.{reply_absent, all_absent}
use Rattle.ssh_rules.proofs.Plans.Acting.{EffectComes}
use Rattle.ssh_rules.proofs.Plans.Apart.{either, refused_comes, apart_comes}
use Rattle.ssh_rules.proofs.Ledger.Pending.{IsReserved, data_pends, eof_pends, close_pends}
use Rattle.ssh_rules.proofs.Plans.Passing.{AreLater}
use Rattle.ssh_rules.proofs.Ledger.Pending.{dropped_pending, next_apart, reply_pends}
use Rattle.ssh_rules.proofs.Ledger.Pending.{all_pends}
use Rattle.ssh_rules.proofs.Ledger.Waiting.{AllWaiting, found_waiting, still_waiting}
use Rattle.ssh_rules.proofs.Ledger.Waiting.{removed_waiting}
use Rattle.ssh_rules.proofs.Plans.Requested.{for_kept}
use Rattle.ssh_rules.specs.OwnRequests.{OwnRequest, request_payload, xon_xoff, exit_status}
use Rattle.ssh_rules.specs.OwnRequests.{exit_signal}
use Rattle.ssh_link.specs.declared.outcome.Refusal.TheVariants.{TooLong}

-- after this trace the channels have sent what they have to, all that is due is framed where no
-- exchange of keys runs, and opens wait on free numbers
pub record Kept (past : List TraceEntry) (w : World) : Type 0 where
  pub ledger : Ledgered w.channels.lines past
  pub due : in_exchange w ≡ false → Each IsDue w.channels.lines
  pub waiting : AllWaiting 0 (IsReserved w.channels.lines) w.channels.opens

abbrev pub ComesKept : List TraceEntry → Outcome → Type 0
ComesKept past (Goes w) = Kept past w
ComesKept past (Ends w) = Kept past w
ComesKept past (Fails fault) = Unit {0}

-- ---- calls of the table

op_if : (past : List TraceEntry) (o : Op) (w : World) → IsFair o w.channels.lines
    → (in_exchange w ≡ false → is_idle o ≡ true)
    → ((k : ℕ) → IsReserved w.channels.lines k → IsReserved (does o w.channels.lines) k)
    → Kept past w → Kept past (lined (does o) w)
op_if past o w fair idle reserved k = record {
  ledger = op_kept o w.channels.lines past fair k.ledger;
  due = λ out. op_due o w.channels.lines (idle out)
      (all_sound w.channels.lines past k.ledger) (k.due out);
  waiting = still_waiting 0 (IsReserved w.channels.lines)
      (IsReserved (does o w.channels.lines)) w.channels.opens reserved k.waiting;
}

-- a call that is the same in an exchange of keys
pub op_on : (past : List TraceEntry) (o : Op) (w : World) → IsFair o w.channels.lines
    → is_idle o ≡ true
    → ((k : ℕ) → IsReserved w.channels.lines k → IsReserved (does o w.channels.lines) k)
    → Kept past w → Kept past (lined (does o) w)
op_on past o w fair idle reserved k = op_if past o w fair (λ out. idle) reserved k

-- a call that leaves the numbers of no channel, and those that are pending
call_if : (past : List TraceEntry) (o : Op) (w : World) → IsFair o w.channels.lines
    → (in_exchange w ≡ false → is_idle o ≡ true)
    → ((k : ℕ) → IsAbsent k w.channels.lines → IsAbsent k (does o w.channels.lines))
    → (does o w.channels.lines).pending ≡ w.channels.lines.pending → Kept past w
    → Kept past (lined (does o) w)
call_if past o w fair idle absent pends k =
    op_if past o w fair idle (λ n h. (
      absent n h.0,
      subst (λ ps. list_any (is_at (nat_cmp n)) ps ≡ true) (sym pends) h.1,
    )) k

pub call_on : (past : List TraceEntry) (o : Op) (w : World) → IsFair o w.channels.lines
    → is_idle o ≡ true
    → ((k : ℕ) → IsAbsent k w.channels.lines → IsAbsent k (does o w.channels.lines))
    → (does o w.channels.lines).pending ≡ w.channels.lines.pending → Kept past w
    → Kept past (lined (does o) w)
call_on past o w fair idle absent pends k = call_if past o w fair (λ out. idle) absent pends k

-- ---- the exchange of keys

-- it goes on
pub keyed_on : (past : List TraceEntry) (w : World) (keys : Keys) → AreLater keys w → Kept past w
    → Kept past (keyed keys w)
keyed_on past w keys later k = record {
  ledger = k.ledger;
  due = λ out. k.due (later out);
  waiting = k.waiting;
}

-- at its end what waits goes on, and all that is due is framed
pub renewed_on : (past : List TraceEntry) (w : World) (keys : Keys) → Kept past w
    → Kept past (keyed keys (lined all_go_on w))
renewed_on past w keys k =
    let lines = w.channels.lines in
    record {
      ledger = op_kept (Flush_all true) lines past tt k.ledger;
      due = λ out. all_due lines;
      waiting = still_waiting 0 (IsReserved lines) (IsReserved (all_go_on lines)) w.channels.opens
          (λ n h. (
            all_absent n lines h.0,
            subst (λ ps. list_any (is_at (nat_cmp n)) ps ≡ true) (sym (all_pends lines)) h.1,
          )) k.waiting;
    }

-- frames of no channel
abbrev pub ArePlain : List Frame → Type 0
ArePlain [] = Unit {0}
ArePlain (frame ∷ frames) = (frame.channel ≡ None) × ArePlain frames

plain_once : (past : List TraceEntry) (frame : Frame) (w : World) → frame.channel ≡ None
    → Kept past w →
    Kept past (writes (frame ∷ []) w)
plain_once past frame w is k = op_on past (Stage frame) w (rw is refl) refl (λ n h. h) k

written_both : (past : List TraceEntry) (frame : Frame) (frames : List Frame) (w : World) →
    Kept past (writes frames (writes (frame ∷ []) w)) → Kept past (writes (frame ∷ frames) w)
written_both past frame frames w k =
    let same = append_assoc w.channels.lines.written (frame ∷ []) frames in
    record {
      ledger = subst (λ fs. Ledgered (record w.channels.lines { written = fs }) past) same k.ledger;
      due = k.due;
      waiting = k.waiting;
    }

pub plain_kept : (past : List TraceEntry) (frames : List Frame) (w : World) → ArePlain frames
    → Kept past w →
    Kept past (writes frames w)
plain_kept past [] w p k = record {
  ledger = subst (λ fs. Ledgered (record w.channels.lines { written = fs }) past)
      (sym (append-nil w.channels.lines.written)) k.ledger;
  due = k.due;
  waiting = k.waiting;
}
plain_kept past (frame ∷ frames) w p k =
    written_both past frame frames w (plain_kept past frames (writes (frame ∷ []) w) p.1
    (plain_once past frame w p.0 k))

-- ---- commands

-- an open that is answered is of no channel any more
beside_added : (e : Entry) (entries : List Entry) (k : ℕ) → (k == e.number) ≡ false → find k entries
    ≡ None →
    find k (added e entries) ≡ None
beside_added e entries k apart h = find_beside k e entries apart ∙ h

added_due : (b : Bool) (m : ℕ) (e : Entry) (l : Lines) → (m == e.number) ≡ b
    → find e.number l.entries ≡ None → IsDue e →
    Each IsDue l → IfSome (find m (added e l.entries)) IsDue
added_due true m e l t is p h =
    let k : find m (added e l.entries) ≡ Some e =
    ap (λ n. find n (added e l.entries)) (one_number m e.number t) ∙ find_new e l.entries is in
    subst (λ o. IfSome o IsDue) (sym k) p
added_due false m e l t is p h = subst (λ o. IfSome o IsDue) (sym (find_beside m e l.entries t))
    (h m)

-- what is reserved stays so beside an open of this side's
asked_reserved : (n room packet : ℕ) (l : Lines) → next_number l ≡ Some n → (k : ℕ)
    → IsReserved l k → IsReserved (asks_next room packet l) k
asked_reserved n room packet l is k h =
    subst (λ o. IsReserved (asks room packet o l) k) (sym is)
    (beside_added (asked n room packet) l.entries k (next_apart k n l is h.1) h.0, h.1)

-- of nothing, nothing is due
none_due : (n : ℕ) → 0 ≡ min 0 n
none_due n = omega arith

confirmed_on : (past : List TraceEntry) (number : ℕ) (opening : Opening) (w : World)
    → opening_of number w ≡ Some opening →
    Kept past w → EffectComes (Kept past) (decides number opening None None w)
confirmed_on past number opening w is k =
    let lines = w.channels.lines in
    let waits = found_waiting 0 number (IsReserved lines) w.channels.opens opening k.waiting is in
    let free = waits.0.0 in
    let room = w.settings.config.window_size in
    let packet = w.settings.config.maximum_packet_size in
    let e = opened number opening.peer opening.window room opening.packet packet in
    let kept = opens_kept number opening.peer opening.window room opening.packet packet _ lines
    past waits.1 waits.2 refl k.ledger in
    record {
      ledger = kept;
      due = λ out. rw free (λ m. added_due (m == number) m e lines refl free
          (none_due opening.window) (k.due out));
      waiting = rw free (removed_waiting 0 number (IsReserved lines) (IsReserved (joins e lines))
          w.channels.opens
          (λ m apart h. (
            beside_added e lines.entries m apart h.0,
            dropped_pending m number lines.pending apart h.1,
          )) k.waiting);
    }

-- the frame by which an open is refused
abbrev pub refusal_frame : (number : ℕ) → (payload : List ℕ) → Frame
refusal_frame number payload = record {
  payload = payload;
  hold_until = None;
  channel = Some (own number);
}

failed_step : (past : List TraceEntry) (number : ℕ) (payload : List ℕ) (opening : Opening)
    (w : World) (long : Bool) →
    is_too_long payload ≡ long → may_go None (refusal_frame number payload) ≡ true
    → opening_of number w ≡ Some opening →
    Kept past w → EffectComes (Kept past) (fails_open number payload w)
failed_step past number payload opening w true is go o k = rw is k
failed_step past number payload opening w false is go o k =
    let lines = w.channels.lines in
    let waits = found_waiting 0 number (IsReserved lines) w.channels.opens opening k.waiting o in
    let v = lined (does (Drop_pending number)) (decided number w) in
    let dropped : Kept past v = record {
      ledger = op_kept (Drop_pending number) lines past tt k.ledger;
      due = λ out. op_due (Drop_pending number) lines refl (all_sound lines past k.ledger)
          (k.due out);
      waiting = removed_waiting 0 number (IsReserved lines) (IsReserved (drops_pending number
          lines)) w.channels.opens
          (λ m apart h. (h.0, dropped_pending m number lines.pending apart h.1)) k.waiting;
    } in
    rw is (op_on past (Stage (refusal_frame number payload)) v (rw waits.0.0 go) refl (λ m h. h)
    dropped)

decided_on : (past : List TraceEntry) (number : ℕ) (opening : Opening)
    (reason : Option ChannelOpenFailure)
    (texts : Option (List ℕ × List ℕ)) (w : World) → opening_of number w ≡ Some opening
    → Kept past w →
    EffectComes (Kept past) (decides number opening reason texts w)
decided_on past number opening None texts w is k = confirmed_on past number opening w is k
decided_on past number opening (Some reason) texts w is k =
    failed_step past number (failure_of opening reason texts) opening w
    (is_too_long (failure_of opening reason texts)) refl refl is k

answered_on : (past : List TraceEntry) (answer : OpenAnswer) (opening : Option Opening) (w : World)
    →
    opening_of answer.channel.0 w ≡ opening → Kept past w → EffectComes (Kept past)
    (decides_open answer opening w)
answered_on past answer None w is k = k
answered_on past answer (Some opening) w is k = decided_on past answer.channel.0 opening
    answer.rejection answer.texts w is k

-- this side's open draws the next number, which no open of the peer's waits on
opened_on : (past : List TraceEntry) (number : Option ℕ) (asked : OwnOpen) (w : World)
    → next_number w.channels.lines ≡ number → Kept past w
    → EffectComes (Kept past) (opens_at number asked w)
opened_on past None asked w is k = k
opened_on past (Some n) asked w is k =
    let lines = w.channels.lines in
    let room = w.settings.config.window_size in
    let packet = w.settings.config.maximum_packet_size in
    record {
      ledger = asks_kept n room packet (open_payload asked n room packet) lines past refl is
          k.ledger;
      due = λ out. op_due (Open_next room packet) lines refl (all_sound lines past k.ledger)
          (k.due out);
      waiting = still_waiting 0 (IsReserved lines) (IsReserved (asks_next room packet lines))
          w.channels.opens (asked_reserved n room packet lines is) k.waiting;
    }

opens_on : (past : List TraceEntry) (asked : OwnOpen) (w : World) (long : Bool)
    → is_too_long (open_payload asked 0 w.settings.config.window_size
    w.settings.config.maximum_packet_size) ≡ long → Kept past w
    → EffectComes (Kept past) (opens asked w)
opens_on past asked w true is k = rw is k
opens_on past asked w false is k =
    rw is (opened_on past (next_number w.channels.lines) asked w refl k)

opens_or_not_on : (past : List TraceEntry) (asked : Option OwnOpen) (w : World) → Kept past w
    → EffectComes (Kept past) (opens_or_not asked w)
opens_or_not_on past None w k = k
opens_or_not_on past (Some asked) w k = opens_on past asked w
    (is_too_long (open_payload asked 0 w.settings.config.window_size
    w.settings.config.maximum_packet_size)) refl k

-- a reply is settled, and those that are ready go out
pub replied_on : (past : List TraceEntry) (channel : ℕ) (success : Bool) (w : World)
    (place : Option ℕ) → Kept past w → Kept past (lined (takes_reply channel place success) w)
replied_on past channel success w place k =
    call_on past (Settle channel place success) w tt refl
    (λ n. reply_absent n channel place success w.channels.lines)
    (reply_pends channel place success w.channels.lines) k

-- .. as the callback of a request says, or another
settled_on : (at : Option ChannelRequest) (past : List TraceEntry) (channel : ℕ) (success : Bool)
    (w : World) → Kept past w → Kept past (lined (settles_for at channel success) w)
settled_on at past channel success w k =
    for_kept (λ l. Kept past (lined (λ _. l) w)) channel success w.channels.lines
    (replied_on past channel success w) at k

requested_on : (past : List TraceEntry) (long : Bool) (e : Option Entry) (channel : ChannelId)
    (asked : OwnRequest) (w : World) → find channel.0 w.channels.lines.entries ≡ e → Kept past w
    → EffectComes (Kept past)
    (if long then refuses TooLong w else requests_on e channel asked w)
requested_on past true e channel asked w is k = k
requested_on past false None channel asked w is k = k
requested_on past false (Some e) channel asked w is k =
    op_on past (Stage (on_channel channel.0 (request_payload e.peer asked))) w (rw is refl) refl
    (λ n h. h) k

-- nothing changes of the channels, and an exchange of keys that runs goes on
pub beside_on : (past : List TraceEntry) (w v : World) → v.channels ≡ w.channels
    → AreLater v.keys w → Kept past w → Kept past v
beside_on past w v is later k = record {
  ledger = subst (λ c. Ledgered c.lines past) (sym is) k.ledger;
  due = λ out. subst (λ c. Each IsDue c.lines) (sym is) (k.due (later out));
  waiting = subst (λ c. AllWaiting 0 (IsReserved c.lines) c.opens) (sym is) k.waiting;
}

-- a message of no channel is written
pub said_on : (past : List TraceEntry) (message : OwnMessage) (w : World) → Kept past w
    → Kept past (said message w)
said_on past message w k =
    let v : World = record (awaits message.awaited w) {
      disconnected = w.disconnected || message.ends;
    } in
    plain_kept past (at_once message.payload ∷ []) v (refl, tt)
    (beside_on past w v refl (λ out. out) k)

-- a global request has its reply
pub settles_on : (past : List TraceEntry) (payload : List ℕ) (w : World) → Kept past w
    → Kept past (settles_global payload w)
settles_on past payload w k =
    let v = wants_global false w in
    either (Kept past) w.globals.wanted (writes (at_once payload ∷ []) v) w
    (plain_kept past (at_once payload ∷ []) v (refl, tt) (beside_on past w v refl (λ out. out) k)) k

-- data wait in an exchange of keys, and go out as far as they may elsewhere
data_on : (past : List TraceEntry) (number : ℕ) (piece : Chunk) (w : World) → Kept past w
    → Kept past (lined (takes_data number piece (in_exchange w)) w)
data_on past number piece w k =
    call_if past (Send number piece (in_exchange w)) w tt (λ out. ap not out)
    (λ n. data_absent n number piece (in_exchange w) w.channels.lines)
    (data_pends number piece (in_exchange w) w.channels.lines) k

done_on : (at : Option ChannelRequest) (past : List TraceEntry) (w : World)
    (commanded : Command) → Kept past w → EffectComes (Kept past) (done_by at w commanded)
done_on at past w (command.Data channel bytes) k =
    data_on past channel.0 (chunk Plain bytes) w k
done_on at past w (command.ExtendedData channel code bytes) k =
    data_on past channel.0 (chunk (Extended code) bytes) w k
done_on at past w (command.Eof channel) k =
    call_on past (Eof channel.0) w tt refl (λ n. eof_absent n channel.0 w.channels.lines)
    (eof_pends channel.0 w.channels.lines) k
done_on at past w (command.Close channel) k =
    call_on past (Close channel.0) w tt refl (λ n. close_absent n channel.0 w.channels.lines)
    (close_pends channel.0 w.channels.lines) k
done_on at past w (command.ChannelSuccess channel) k =
    settled_on at past channel.0 true w k
done_on at past w (command.ChannelFailure channel) k =
    settled_on at past channel.0 false w k
done_on at past w (command.XonXoff channel client_can_do) k =
    requested_on past (is_too_long (request_payload 0 (xon_xoff client_can_do)))
    (find channel.0 w.channels.lines.entries) channel (xon_xoff client_can_do) w refl k
done_on at past w (command.ExitStatus channel status) k =
    requested_on past (is_too_long (request_payload 0 (exit_status status)))
    (find channel.0 w.channels.lines.entries) channel (exit_status status) w refl k
done_on at past w (command.ExitSignal channel signal core message language) k =
    let asked = exit_signal signal core message language in
    requested_on past (is_too_long (request_payload 0 asked))
    (find channel.0 w.channels.lines.entries) channel asked w refl k
done_on at past w (command.Answer answer) k =
    answered_on past answer (opening_of answer.channel.0 w) w refl k
done_on at past w other k =
    apart_comes (Kept past) (said_on past) (settles_on past) (opens_or_not_on past) w other k

pub effect_on : (at : Option ChannelRequest) (past : List TraceEntry) (w : World)
    (commanded : Command) → Kept past w → EffectComes (Kept past) (effect_at at w commanded)
effect_on at past w commanded k =
    refused_comes (Kept past) (refused_for w.disconnected w commanded) w (done_by at w commanded) k
    (done_on at past w commanded k)
