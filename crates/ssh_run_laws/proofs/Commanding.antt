-- What a command makes of the channel of a number and of the open that waits there (RFC 4254
-- section 5).
use Rattle.std.proofs.Common.{◌≡◌, ◌==◌, ◌&&◌, ◌||◌, ◌++◌, ◌∙◌, ℕ, List, [], ◌∷◌, Bool, true, false, not}
use Rattle.std.proofs.Common.{cond, Option, Some, None, refl, sym, ap, subst}
use Rattle.std.specs.Prelude.{if◌then◌else◌}
use Rattle.std.specs.Ordering.{nat_cmp}
use Rattle.std.specs.BTreeMap.{is_at}
use Rattle.std.specs.Map.{remove_entry}
use Rattle.ssh_wire.specs.declared.channel_id.ChannelId.{ChannelId}
use Rattle.ssh_wire.specs.declared.open_failure.ChannelOpenFailure.{ChannelOpenFailure}
use Rattle.ssh_wire.specs.Messages.{written, request_success, request_failure}
use Rattle.ssh_link.specs.declared.command.Command.{Command}
use Rattle.ssh_link.specs.declared.command.Command.TheVariants as command
use Rattle.ssh_link.specs.declared.link.TraceEntry.{TraceEntry}
use Rattle.ssh_link.specs.declared.notice.Notice.{Notice}
use Rattle.ssh_link.specs.declared.open_answer.OpenAnswer.{OpenAnswer}
use Rattle.ssh_link.specs.declared.outcome.CommandOutcome.TheVariants.{Accepted, Refused}
use Rattle.ssh_link.specs.declared.outcome.Refusal.{Refusal}
use Rattle.ssh_link.specs.declared.outcome.Refusal.TheVariants.{NumbersFull, TooLong}
use Rattle.ssh_channels.specs.declared.chunk.DataKind.{DataKind}
use Rattle.ssh_channels.specs.declared.chunk.DataKind.TheVariants.{Plain, Extended}
use Rattle.ssh_channels.specs.Entry.{Entry, asked, more_may_come, opened, tagged}
use Rattle.ssh_channels.specs.Layout.{chunk}
use Rattle.ssh_channels.specs.Lines.{added, asks, joins, find, next_number, takes_data}
use Rattle.ssh_channels.proofs.Booked.{next_absent}
use Rattle.ssh_channels.proofs.Listed.{find_new, one_number}
use Rattle.ssh_rules.specs.Effect.{Brings, Effect, accepts, decides_open, decides, done_apart, done_by}
use Rattle.ssh_rules.specs.Effect.{effect_at, failure_of, fails_open, is_too_long, lacks, needs}
use Rattle.ssh_rules.specs.Effect.{no_sending, no_open, not_usable, opens, opens_at, opens_or_not}
use Rattle.ssh_rules.specs.Effect.{refused_for, refused_or, refuses, requests_on, said}
use Rattle.ssh_rules.specs.Opening.{Opening}
use Rattle.ssh_rules.specs.Opens.{opening_of}
use Rattle.ssh_rules.specs.OwnMessages.{OwnMessage, cancel, debug, disconnect_message, forward_request, keepalive}
use Rattle.ssh_rules.specs.OwnMessages.{ping}
use Rattle.ssh_rules.specs.OwnOpens.{OwnOpen, own_open_of, open_payload}
use Rattle.ssh_rules.specs.OwnRequests.{OwnRequest, exit_signal, exit_status, request_payload}
use Rattle.ssh_rules.specs.OwnRequests.{xon_xoff}
use Rattle.ssh_rules.specs.declared.request.ChannelRequest.{ChannelRequest}
use Rattle.ssh_rules.specs.World.{World, in_exchange, lined, settles_for}
use Rattle.ssh_rules.specs.World.{settles_global, wants_global, writes}
use Rattle.ssh_rules.specs.Layout.{at_once}
use Rattle.ssh_rules.proofs.Ledger.Commands.{Kept}
use Rattle.ssh_rules.proofs.Ledger.Pending.{IsReserved}
use Rattle.ssh_rules.proofs.Plans.Requested.{for_kept}
use Rattle.ssh_rules.proofs.Ledger.Waiting.{found_waiting}
use Rattle.ssh_run_laws.specs.Channels.{Waits, after_accepted, after_deed, answers_by}
use Rattle.ssh_run_laws.specs.Channels.{after_answer, bytes_on, is_accepting, opens_by, touches}
use Rattle.ssh_run_laws.specs.Deeds.{Commanded, noted_by}
use Rattle.ssh_run_laws.proofs.Changing.{Keeps, close_keeps, data_bytes, data_stands, eof_keeps}
use Rattle.ssh_run_laws.proofs.Changing.{new_bytes, new_stands, new_still, reply_keeps, same_keeps}
use Rattle.ssh_run_laws.proofs.Leading.{Calm, IsNeutral, Leads, calm_leads, calm_lines}
use Rattle.ssh_run_laws.proofs.Leading.{calm_same}
use Rattle.ssh_run_laws.proofs.Openings.{removed_other, waiting_at}

-- none of these notices tells of a CLOSE of the peer's
abbrev pub AllNoted : List Notice → Type 0
AllNoted [] = Unit {0}
AllNoted (notice ∷ notices) = (noted_by notice ≡ []) × AllNoted notices

-- with such notices, and with what came of this command, it leads so
abbrev pub EffectLeads : (n : ℕ) → World → Command → Effect → Type 0
EffectLeads n w one (Brings notices outcome v) =
    AllNoted notices × Leads n (Commanded one outcome) w v

-- a refused one does nothing
pub refused_leads : (n : ℕ) (w : World) (one : Command) (why : Refusal)
    → Leads n (Commanded one (Refused why)) w w
refused_leads n w one why = record {
  bytes = refl;
  waits = λ waits h t. h t;
  stands = λ free ended s. s;
  still = λ free ended s. refl;
  opened = λ t. absurd (cc);
  fresh = λ t q. cc;
}

-- a command that changes neither the channel nor the open that waits, where it is accepted
abbrev IsBeside : (n : ℕ) → Command → Type 0
IsBeside n one = IsNeutral n (Commanded one Accepted)

-- ---- messages of no channel, and opens of this side's

sent_leads : (n : ℕ) (w : World) (one : Command) (message : OwnMessage) (long : Bool)
    → IsBeside n one
    → EffectLeads n w one (if long then refuses TooLong w else accepts (said message w))
sent_leads n w one message true beside = (tt, refused_leads n w one TooLong)
sent_leads n w one message false beside = (
  tt,
  calm_leads n (Commanded one Accepted) w (said message w) beside
      (record { bytes = refl; waits = λ h. h; stands = λ ended s. s }),
)

settled_step : (b : Bool) (n : ℕ) (w : World) (payload : List ℕ)
    → Calm n w (cond b (writes (at_once payload ∷ []) (wants_global false w)) w)
settled_step true n w payload = record { bytes = refl; waits = λ h. h; stands = λ ended s. s }
settled_step false n w payload = calm_same n w

pub settled_calm : (n : ℕ) (w : World) (payload : List ℕ) → Calm n w (settles_global payload w)
settled_calm n w payload = settled_step w.globals.wanted n w payload

-- the channel that this side asks for has a number that was free
opened_leads : (n : ℕ) (w : World) (one : Command) (number : Option ℕ) (open_asked : OwnOpen)
    → next_number w.channels.lines ≡ number
    → EffectLeads n w one (opens_at number open_asked w)
opened_leads n w one None open_asked is = (tt, refused_leads n w one NumbersFull)
opened_leads n w one (Some k) open_asked is =
    let lines = w.channels.lines in
    let room = w.settings.config.window_size in
    let packet = w.settings.config.maximum_packet_size in
    let e = asked k room packet in
    let free = next_absent k lines is in (
      tt,
      record {
        bytes = rw is (new_bytes (n == k) n e lines.entries lines.left refl free refl);
        waits = λ waits h t. h t;
        stands = λ ended_not ended s. rw is (new_stands (n == k) n e lines
            (asks room packet (Some k) lines) refl free refl ended s);
        still = λ none ended s. rw is (new_still (n == k) n e lines
            (asks room packet (Some k) lines) refl free refl refl refl ended s);
        opened = λ t. absurd (cc);
        fresh = λ t q. cc;
      },
    )

asked_leads : (n : ℕ) (w : World) (one : Command) (open_asked : OwnOpen) (long : Bool)
    → is_too_long (open_payload open_asked 0 w.settings.config.window_size
    w.settings.config.maximum_packet_size) ≡ long
    → EffectLeads n w one (opens open_asked w)
asked_leads n w one open_asked true is = rw is (tt, refused_leads n w one TooLong)
asked_leads n w one open_asked false is =
    rw is (opened_leads n w one (next_number w.channels.lines) open_asked refl)

or_not_leads : (n : ℕ) (w : World) (one : Command) (open_asked : Option OwnOpen) → IsBeside n one
    → EffectLeads n w one (opens_or_not open_asked w)
or_not_leads n w one None beside =
    (tt, calm_leads n (Commanded one Accepted) w w beside (calm_same n w))
or_not_leads n w one (Some open_asked) beside = asked_leads n w one open_asked
    (is_too_long (open_payload open_asked 0 w.settings.config.window_size
    w.settings.config.maximum_packet_size)) refl

apart_leads : (n : ℕ) (w : World) (one : Command) → IsBeside n one
    → EffectLeads n w one (done_apart w one)
apart_leads n w (command.TcpipForward address port reply) beside =
    sent_leads n w (command.TcpipForward address port reply) (forward_request address port reply)
    (is_too_long (forward_request address port reply).payload) beside
apart_leads n w (command.CancelTcpipForward address port reply) beside =
    sent_leads n w (command.CancelTcpipForward address port reply) (cancel address port reply)
    (is_too_long (cancel address port reply).payload) beside
apart_leads n w command.Keepalive beside =
    sent_leads n w command.Keepalive keepalive (is_too_long keepalive.payload) beside
apart_leads n w (command.Ping slot) beside =
    sent_leads n w (command.Ping slot) (ping slot) (is_too_long (ping slot).payload) beside
apart_leads n w command.RequestSuccess beside = (
  tt,
  calm_leads n (Commanded command.RequestSuccess Accepted) w _ beside
      (settled_calm n w (written request_success tt)),
)
apart_leads n w command.RequestFailure beside = (
  tt,
  calm_leads n (Commanded command.RequestFailure Accepted) w _ beside
      (settled_calm n w (written request_failure tt)),
)
apart_leads n w (command.Debug always message language) beside =
    sent_leads n w (command.Debug always message language) (debug always message language)
    (is_too_long (debug always message language).payload) beside
apart_leads n w (command.Disconnect reason description language) beside =
    sent_leads n w (command.Disconnect reason description language)
    (disconnect_message reason description language)
    (is_too_long (disconnect_message reason description language).payload) beside
apart_leads n w other beside = or_not_leads n w other (own_open_of other) beside

-- ---- commands of a channel

usable : (confirmed ended : Bool) → not_usable confirmed ended ≡ None
    → (confirmed && not ended) ≡ true
usable true false h = refl
usable true true h = absurd (cc)
usable false ended h = absurd (cc)

sending : (o : Option Entry) → no_sending o ≡ None
    → (e : Entry) × (o ≡ Some e) × (more_may_come e ≡ true)
sending None h = absurd (cc)
sending (Some e) h = (e, refl, usable e.confirmed (e.eof || e.close) h)

data_leads : (n : ℕ) (w : World) (one : Command) (channel : ChannelId) (kind : DataKind)
    (bytes : List ℕ) → no_sending (find channel.0 w.channels.lines.entries) ≡ None
    → (after_deed n (bytes_on n w.channels.lines) (Commanded one Accepted)
    ≡ cond (n == channel.0) (bytes_on n w.channels.lines ++ tagged (chunk kind bytes))
    (bytes_on n w.channels.lines)) → answers_by n one ≡ false
    → opens_by n one ≡ false
    → (touches n (Commanded one Accepted) ≡ false → (n == channel.0) ≡ false)
    → EffectLeads n w one
    (accepts (lined (takes_data channel.0 (chunk kind bytes) (in_exchange w)) w))
data_leads n w one channel kind bytes may is none opens apart =
    let lines = w.channels.lines in
    let at = sending (find channel.0 lines.entries) may in (
      tt,
      record {
        bytes = data_bytes n channel.0 kind bytes (in_exchange w) at.0 lines at.1 at.2 ∙ sym is;
        waits = λ waits h t. h (sym (ap (λ b. cond b false waits) none) ∙ t);
        stands = λ free ended s. data_stands n channel.0 (chunk kind bytes) (in_exchange w) lines
            ended s;
        still = λ free ended s. data_bytes n channel.0 kind bytes (in_exchange w) at.0 lines at.1 at.2
            ∙ ap (λ b. cond b (bytes_on n lines ++ tagged (chunk kind bytes)) (bytes_on n lines))
            (apart free);
        opened = λ t. absurd (let no : true ≡ false = sym t ∙ opens in cc);
        fresh = λ t q. cc;
      },
    )

requested_calm : (n : ℕ) (w : World) (one : Command) (long : Bool) (e : Option Entry)
    (channel : ChannelId) (asked : OwnRequest) → IsBeside n one
    → EffectLeads n w one (if long then refuses TooLong w else requests_on e channel asked w)
requested_calm n w one true e channel asked beside = (tt, refused_leads n w one TooLong)
requested_calm n w one false None channel asked beside =
    (tt, calm_leads n (Commanded one Accepted) w w beside (calm_same n w))
requested_calm n w one false (Some e) channel asked beside = (
  tt,
  calm_leads n (Commanded one Accepted) w _ beside
      (record { bytes = refl; waits = λ h. h; stands = λ ended s. s }),
)

settles_calm : (n : ℕ) (w : World) (at : Option ChannelRequest) (channel : ℕ) (success : Bool)
    → Calm n w (lined (settles_for at channel success) w)
settles_calm n w at channel success =
    let lines = w.channels.lines in
    calm_lines n w (settles_for at channel success lines)
    (for_kept (Keeps n false lines) channel success lines
    (λ place h. reply_keeps n false channel place success lines) at (same_keeps n false lines))

-- ---- answers to opens

cond_same : {A : Type 0} (b : Bool) (a : A) → cond b a a ≡ a
cond_same true a = refl
cond_same false a = refl

either_false : (b waits : Bool) → cond b false waits ≡ true → (b ≡ false) × (waits ≡ true)
either_false true waits h = absurd (cc)
either_false false waits h = (refl, h)

answered_waits : (n number : ℕ) (w : World) (waits : Bool) → (waits ≡ true → Waits n w)
    → cond (n == number) false waits ≡ true
    → (o : Opening) × (waiting_at n (remove_entry (is_at (nat_cmp number)) w.channels.opens)
    ≡ Some o)
answered_waits n number w waits h t =
    let so = either_false (n == number) waits t in
    let q = h so.1 in
    (q.0, removed_other n number w.channels.opens so.0 ∙ q.1)

opened_here : (b : Bool) (n : ℕ) (e : Entry) (entries : List Entry) → (n == e.number) ≡ b
    → find e.number entries ≡ None → e.confirmed ≡ true → e.close ≡ false → e.eof ≡ false
    → cond b true false ≡ true
    → (f : Entry) × (find n (added e entries) ≡ Some f)
    × ((f.confirmed ≡ true) × (f.close ≡ false) × (f.eof ≡ false))
opened_here true n e entries t free confirmed close eof is = (
  e,
  ap (λ m. find m (added e entries)) (one_number n e.number t) ∙ find_new e entries free,
  (confirmed, close, eof),
)
opened_here false n e entries t free confirmed close eof is = absurd (cc)

confirmed_leads : (n : ℕ) (past : List TraceEntry) (w : World) (answer : OpenAnswer)
    (opening : Opening) → Kept past w → opening_of answer.channel.0 w ≡ Some opening
    → answer.rejection ≡ None
    → EffectLeads n w (command.Answer answer)
    (decides answer.channel.0 opening None answer.texts w)
confirmed_leads n past w answer opening kept is accepting =
    let number = answer.channel.0 in
    let lines = w.channels.lines in
    let room = w.settings.config.window_size in
    let free = (found_waiting 0 number (IsReserved lines) w.channels.opens opening kept.waiting
    is).0.0 in
    let packet = w.settings.config.maximum_packet_size in
    let e = opened number opening.peer opening.window room opening.packet packet in (
      (refl, tt),
      record {
        bytes = rw (free, accepting)
            (new_bytes (n == number) n e lines.entries lines.left refl free refl);
        waits = λ waits h t. answered_waits n number w waits h t;
        stands = λ none ended s. rw free (new_stands (n == number) n e lines (joins e lines) refl
            free refl ended s);
        still = λ none ended s. rw free (new_still (n == number) n e lines (joins e lines) refl free
            refl refl refl ended s);
        opened = λ t. rw free (opened_here (n == number) n e lines.entries refl free refl refl refl
            (subst (λ r. cond (n == number) (is_accepting r) false ≡ true) accepting t));
        fresh = λ t q. cc;
      },
    )

failed_step : (n : ℕ) (w : World) (answer : OpenAnswer) (payload : List ℕ)
    (reason : ChannelOpenFailure) (long : Bool) → is_too_long payload ≡ long
    → answer.rejection ≡ Some reason
    → EffectLeads n w (command.Answer answer) (fails_open answer.channel.0 payload w)
failed_step n w answer payload reason true is rejects =
    rw is (tt, refused_leads n w (command.Answer answer) TooLong)
failed_step n w answer payload reason false is rejects =
    let number = answer.channel.0 in
    let held = bytes_on n w.channels.lines in
    rw is (
      tt,
      record {
        bytes = sym (ap (λ r. cond (n == number) (after_answer held r) held) rejects
            ∙ cond_same (n == number) held);
        waits = λ waits h t. answered_waits n number w waits h t;
        stands = λ none ended s. s;
        still = λ none ended s. refl;
        opened = λ t. absurd (let no : false ≡ true = sym (cond_same (n == number) false)
            ∙ ap (λ r. cond (n == number) (is_accepting r) false) (sym rejects) ∙ t in cc);
        fresh = λ t q. cc;
      },
    )

decided_leads : (n : ℕ) (past : List TraceEntry) (w : World) (answer : OpenAnswer)
    (opening : Opening) (reason : Option ChannelOpenFailure) → Kept past w
    → opening_of answer.channel.0 w ≡ Some opening → answer.rejection ≡ reason
    → EffectLeads n w (command.Answer answer)
    (decides answer.channel.0 opening reason answer.texts w)
decided_leads n past w answer opening None kept is rejects =
    confirmed_leads n past w answer opening kept is rejects
decided_leads n past w answer opening (Some reason) kept is rejects =
    let payload = failure_of opening reason answer.texts in
    failed_step n w answer payload reason (is_too_long payload) refl rejects

answered_leads : (n : ℕ) (past : List TraceEntry) (w : World) (answer : OpenAnswer)
    (opening : Option Opening) → Kept past w → opening_of answer.channel.0 w ≡ opening
    → no_open opening ≡ None → EffectLeads n w (command.Answer answer) (decides_open answer opening w)
answered_leads n past w answer None kept is none = absurd (cc)
answered_leads n past w answer (Some opening) kept is none =
    decided_leads n past w answer opening answer.rejection kept is refl

-- ---- any command

neutral : (n : ℕ) (one : Command)
    → ((held : List (DataKind × ℕ)) → after_accepted n held one ≡ held)
    → answers_by n one ≡ false → opens_by n one ≡ false → IsBeside n one
neutral n one bytes decides_open opens = record {
  bytes = bytes;
  waits = λ waits. ap (λ b. cond b false waits) decides_open;
  opens = opens;
  asks = refl;
}

done_leads : (n : ℕ) (at : Option ChannelRequest) (past : List TraceEntry) (w : World)
    (one : Command) → Kept past w → lacks w (needs one) ≡ None
    → EffectLeads n w one (done_by at w one)
done_leads n at past w (command.Data channel bytes) kept may =
    data_leads n w (command.Data channel bytes) channel Plain bytes may refl refl refl
    (λ t. t)
done_leads n at past w (command.ExtendedData channel code bytes) kept may =
    data_leads n w (command.ExtendedData channel code bytes) channel (Extended code) bytes may refl
    refl refl (λ t. t)
done_leads n at past w (command.Eof channel) kept may =
    let keeps = eof_keeps n channel.0 w.channels.lines in (
      tt,
      record {
        bytes = keeps.bytes;
        waits = λ waits h t. h t;
        stands = λ free ended s. keeps.stands free ended s;
        still = λ free ended s. keeps.bytes;
        opened = λ t. absurd (cc);
        fresh = λ t q. cc;
      },
    )
done_leads n at past w (command.Close channel) kept may =
    let keeps = close_keeps n channel.0 w.channels.lines in (
      tt,
      record {
        bytes = keeps.bytes;
        waits = λ waits h t. h t;
        stands = λ free ended s. keeps.stands free ended s;
        still = λ free ended s. keeps.bytes;
        opened = λ t. absurd (cc);
        fresh = λ t q. cc;
      },
    )
done_leads n at past w (command.ChannelSuccess channel) kept may = (
  tt,
  calm_leads n (Commanded (command.ChannelSuccess channel) Accepted) w _
      (neutral n (command.ChannelSuccess channel) (λ held. refl) refl refl)
      (settles_calm n w at channel.0 true),
)
done_leads n at past w (command.ChannelFailure channel) kept may = (
  tt,
  calm_leads n (Commanded (command.ChannelFailure channel) Accepted) w _
      (neutral n (command.ChannelFailure channel) (λ held. refl) refl refl)
      (settles_calm n w at channel.0 false),
)
done_leads n at past w (command.XonXoff channel client_can_do) kept may =
    requested_calm n w (command.XonXoff channel client_can_do)
    (is_too_long (request_payload 0 (xon_xoff client_can_do)))
    (find channel.0 w.channels.lines.entries) channel (xon_xoff client_can_do)
    (neutral n (command.XonXoff channel client_can_do) (λ held. refl) refl refl)
done_leads n at past w (command.ExitStatus channel status) kept may =
    requested_calm n w (command.ExitStatus channel status)
    (is_too_long (request_payload 0 (exit_status status)))
    (find channel.0 w.channels.lines.entries) channel (exit_status status)
    (neutral n (command.ExitStatus channel status) (λ held. refl) refl refl)
done_leads n at past w (command.ExitSignal channel signal core message language) kept may =
    requested_calm n w (command.ExitSignal channel signal core message language)
    (is_too_long (request_payload 0 (exit_signal signal core message language)))
    (find channel.0 w.channels.lines.entries) channel (exit_signal signal core message language)
    (neutral n (command.ExitSignal channel signal core message language) (λ held. refl) refl refl)
done_leads n at past w (command.Answer answer) kept may =
    answered_leads n past w answer (opening_of answer.channel.0 w) kept refl may
done_leads n at past w other kept may =
    apart_leads n w other (neutral n other (λ held. refl) refl refl)

unrefused : (ended : Bool) (w : World) (one : Command) → refused_for ended w one ≡ None
    → lacks w (needs one) ≡ None
unrefused true w one h = absurd (cc)
unrefused false w one h = h

either_leads : (n : ℕ) (at : Option ChannelRequest) (past : List TraceEntry) (w : World)
    (one : Command) (why : Option Refusal) → refused_for w.disconnected w one ≡ why → Kept past w
    → EffectLeads n w one (refused_or why w (done_by at w one))
either_leads n at past w one None is kept =
    done_leads n at past w one kept (unrefused w.disconnected w one is)
either_leads n at past w one (Some why) is kept = (tt, refused_leads n w one why)

pub effect_leads : (n : ℕ) (at : Option ChannelRequest) (past : List TraceEntry) (w : World)
    (one : Command) → Kept past w → EffectLeads n w one (effect_at at w one)
effect_leads n at past w one kept =
    either_leads n at past w one (refused_for w.disconnected w one) refl kept
