-- What each row leads to is what was done in it (RFC 4254 section 5).
use Rattle.std.proofs.Common.{◌≡◌, ◌==◌, ◌∙◌, ℕ, List, [], ◌∷◌, ◌++◌, Bool, true, false, Option, Some, None}
use Rattle.std.proofs.Common.{Ok, refl, sym, ap, subst}
use Rattle.std.specs.Prelude.{bytes_eq, codes, if◌then◌else◌}
use Rattle.ssh_wire.specs.declared.channel_id.ChannelId.{ChannelId}
use Rattle.ssh_wire.specs.declared.open.OpenChannelMessage.{OpenChannelMessage}
use Rattle.ssh_link.specs.declared.link.TraceEntry.{TraceEntry}
use Rattle.ssh_link.specs.declared.notice.ChannelMsg.TheVariants as msg
use Rattle.ssh_auth.specs.declared.auth_request.AuthRequest.{AuthRequest}
use Rattle.ssh_auth.specs.declared.auth_step.AuthVerdict.{AuthVerdict}
use Rattle.ssh_auth.specs.declared.auth_step.AuthVerdict.TheVariants as verdict
use Rattle.ssh_auth.specs.declared.question.Happening.TheVariants as what
use Rattle.ssh_auth.specs.declared.question.Lent.TheVariants.{Happened, Opens}
use Rattle.ssh_auth.specs.declared.question.OpenType.{OpenType}
use Rattle.ssh_auth.specs.declared.question.Question.TheVariants.{Banner, Admits}
use Rattle.ssh_auth.specs.Plan.{Plan, Finish, Ask, Tell, Event, Follows, after}
use Rattle.ssh_auth.specs.Verdict.{AuthOutcome, Replies, verdict as verdict_on, response_verdict}
use Rattle.ssh_auth.specs.Verdict as auth
use Rattle.ssh_auth.specs.Was.{Was, question_of}
use Rattle.ssh_auth.proofs.Back.{admitted_back}
use Rattle.ssh_channels.specs.Entry.{Entry}
use Rattle.ssh_channels.specs.Lines.{find, next_number, peer_closes}
use Rattle.ssh_rules.specs.declared.messages.Spoken.{Spoken}
use Rattle.ssh_rules.specs.declared.messages.Spoken.TheVariants as spoken
use Rattle.ssh_rules.specs.declared.handling.Handling.{Handling}
use Rattle.ssh_rules.specs.declared.handling.Handling.TheVariants.{Asks, GivenUp, Unsupported, Unknown}
use Rattle.ssh_rules.specs.declared.state.EncryptedState.{EncryptedState}
use Rattle.ssh_rules.specs.declared.state.EncryptedState.TheVariants.{WaitingAuthRequest}
use Rattle.ssh_rules.specs.Acts.{Act, Calls, Stops, Turns, acts}
use Rattle.ssh_rules.specs.Answered.{open_asked}
use Rattle.ssh_rules.specs.Layout.{at_once, held}
use Rattle.ssh_rules.specs.Opening.{Opening}
use Rattle.ssh_rules.specs.Opens.{own}
use Rattle.ssh_rules.specs.Outcome.{Outcome, Goes, Ends, Fails}
use Rattle.ssh_rules.specs.Reading.{Said, Service, Request, Response, Open}
use Rattle.ssh_rules.specs.Reading as read
use Rattle.ssh_rules.specs.Rows.{row, owed, greets, is_short, replied, concluded, where_waiting, told}
use Rattle.ssh_rules.specs.Rows.{on_entry, on_confirmed, open_acts, fault_of, waits}
use Rattle.ssh_rules.specs.Rows.{finishes, greeting, lets_in, moment_after, rejection_hold, served}
use Rattle.ssh_rules.specs.Rows.{turns_first}
use Rattle.ssh_rules.specs.Types.{handling, opening_by, given_up, unsupported, unknown}
use Rattle.ssh_rules.specs.Valid.{recorded_so}
use Rattle.ssh_rules.specs.World.{World, waits_for, lined}
use Rattle.ssh_rules.proofs.Plans.Acting.{ActsCome}
use Rattle.ssh_rules.proofs.Ledger.Commands.{ArePlain, Kept, beside_on, plain_kept}
use Rattle.ssh_rules.proofs.Ledger.Acts.{IsFairSaid, law, owed_on}
use Rattle.ssh_rules.proofs.Ledger.Pending.{IsReserved, next_apart}
use Rattle.ssh_rules.proofs.Plans.Verdicts.{EndsSo, IsBeside, verdict_beside, response_beside}
use Rattle.ssh_rules.proofs.Ledger.Waiting.{found_waiting}
use Rattle.ssh_run_laws.specs.Channels.{Waits}
use Rattle.ssh_run_laws.specs.Deeds.{Asked, Closed_by_peer, Deed, asked_by, deeds_from, deeds_in}
use Rattle.ssh_run_laws.specs.Deeds.{done_at}
use Rattle.ssh_run_laws.proofs.Calms.{ComesBy, acts_come_by, called_comes, comes_behind}
use Rattle.ssh_run_laws.proofs.Calms.{comes_more, lent_done}
use Rattle.ssh_run_laws.proofs.CalmRows.{SaysCalm, asked_leads, greets_calm, owed_calm, replied_calm}
use Rattle.ssh_run_laws.proofs.CalmRows.{written_calm}
use Rattle.ssh_run_laws.proofs.Chains.{chain_more}
use Rattle.ssh_run_laws.proofs.Changing.{peer_close_keeps}
use Rattle.ssh_run_laws.proofs.Leading.{Leads, calm_same}

-- one deed, and then those
comes_next : (n : ℕ) (deed : Deed) (w v : World) (deeds : List Deed) (outcome : Outcome)
    → Leads n deed w v → ComesBy n v deeds outcome → ComesBy n w (deed ∷ deeds) outcome
comes_next n deed w v deeds (Goes u) h c = chain_more n deed w v deeds u h c
comes_next n deed w v deeds (Ends u) h c = chain_more n deed w v deeds u h c
comes_next n deed w v deeds (Fails why) h c = tt

-- ---- what the channels have sent stays what they have to

replied_come : (past : List TraceEntry) (w : World) (moment : ℕ) (requested : Bool)
    (reply : List ℕ) (v : AuthVerdict) → Kept past w
    → ActsCome (law past) (replied w moment requested reply v) w
replied_come past w moment requested reply verdict.Accepted kept = (
  plain_kept past (at_once reply ∷ []) (lets_in (finishes requested w)) (refl, tt)
      (beside_on past w (lets_in (finishes requested w)) refl (λ out. out) kept),
  λ world k. tt,
)
replied_come past w moment requested reply (verdict.Rejected none_method) kept = (
  plain_kept past (held reply (moment_after moment (rejection_hold w.settings.config none_method
      w.user.requested)) ∷ []) (finishes requested w) (refl, tt)
      (beside_on past w (finishes requested w) refl (λ out. out) kept),
  tt,
)
replied_come past w moment requested reply verdict.Continued kept = (
  plain_kept past (at_once reply ∷ []) (finishes requested w) (refl, tt)
      (beside_on past w (finishes requested w) refl (λ out. out) kept),
  tt,
)

greeting_plain : (message : Option (List ℕ)) → ArePlain (greeting message)
greeting_plain None = (refl, tt)
greeting_plain (Some message) = (refl, (refl, tt))

greets_kept : (past : List TraceEntry) (message : Option (List ℕ)) (short : Bool) (w : World)
    → is_short message ≡ short → Kept past w → ActsCome (law past) (greets message) w
greets_kept past message true w is kept =
    rw is (
      plain_kept past (greeting message) (served w) (greeting_plain message)
          (beside_on past w (served w) refl (λ out. out) kept),
      tt,
    )
greets_kept past message false w is kept = rw is tt

-- ---- the peer's CLOSE

closed_leads : (n : ℕ) (channel : ChannelId) (w : World)
    → Leads n (Closed_by_peer channel) w (lined (peer_closes channel.0) w)
closed_leads n channel w =
    let keeps = peer_close_keeps n channel.0 w.channels.lines in
    record {
      bytes = keeps.bytes;
      waits = λ before h t. h t;
      stands = λ free ended s. keeps.stands free ended s;
      still = λ free ended s. keeps.bytes;
      opened = λ t. absurd (cc);
      fresh = λ t q. cc;
    }

abbrev close_acts : ChannelId → List Act
close_acts channel =
    Turns (lined (peer_closes channel.0)) ∷ told channel msg.Close what.Close

-- an open that waits has another number than the next one
next_is_new : (n : ℕ) (past : List TraceEntry) (number : ℕ) (w : World)
    → next_number w.channels.lines ≡ Some number → Kept past w → Waits n w → (n == number) ≡ false
next_is_new n past number w is kept (opening, there) = next_apart n number w.channels.lines is
    (found_waiting 0 n (IsReserved w.channels.lines) w.channels.opens opening kept.waiting there).0.1

module _ {E F : Type 0} (n : ℕ) (past : List TraceEntry)
  where
    there_comes : (channel : ChannelId) (w : World) (events : List (Event E F))
        (outcome : Outcome) → Kept past w → ActsCome (law past) (close_acts channel) w
        → Follows (acts (close_acts channel) w) events outcome
        → ComesBy n w (deeds_in None events) outcome
    there_comes channel w [] outcome kept come f = absurd (cc)
    there_comes channel w (event ∷ events) outcome kept come f =
        let v = lined (peer_closes channel.0) w in
        subst (λ x. ComesBy n w (done_at {E = E} {F = F} None x events ++ deeds_in None events)
        outcome) (sym f.0)
        (comes_next n (Closed_by_peer channel) w v (deeds_in None events) outcome
        (closed_leads n channel w)
        (acts_come_by n past (Calls None (Happened channel what.Close) ∷ []) v events outcome
        (refl, refl) come.0 come.1 f.1))

    agreed_comes : (confirmed : Bool) (channel : ChannelId) (w : World)
        (events : List (Event E F)) (outcome : Outcome) → Kept past w
        → ActsCome (law past) (on_confirmed confirmed (close_acts channel)) w
        → Follows (acts (on_confirmed confirmed (close_acts channel)) w) events outcome
        → ComesBy n w (deeds_in None events) outcome
    agreed_comes true channel w events outcome kept come f =
        there_comes channel w events outcome kept come f
    agreed_comes false channel w events outcome kept come f =
        acts_come_by n past [] w events outcome tt kept tt f

    close_comes : (o : Option Entry) (channel : ChannelId) (w : World)
        (events : List (Event E F)) (outcome : Outcome) → Kept past w
        → ActsCome (law past) (on_entry o (λ e. close_acts channel)) w
        → Follows (acts (on_entry o (λ e. close_acts channel)) w) events outcome
        → ComesBy n w (deeds_in None events) outcome
    close_comes None channel w events outcome kept come f =
        acts_come_by n past [] w events outcome tt kept tt f
    close_comes (Some e) channel w events outcome kept come f =
        agreed_comes e.confirmed channel w events outcome kept come f

    -- ---- an open of the peer's

    asking_comes : (number : ℕ) (opening : Opening) (type : OpenType) (w : World)
        (events : List (Event E F)) (outcome : Outcome) → (Waits n w → (n == number) ≡ false)
        → Kept past (waits number opening w)
        → Follows (acts (Turns (waits number opening) ∷ Calls None (Opens (own number) type) ∷ [])
        w) events outcome → ComesBy n w (deeds_in None events) outcome
    asking_comes number opening type w [] outcome apart kept f = absurd (cc)
    asking_comes number opening type w (event ∷ events) outcome apart kept f =
        let v = waits number opening w in
        let done : done_at None event events
        ≡ Asked (own number) ∷ deeds_from 0 f.0 events =
        ap (λ x. done_at None x events) f.1
        ∙ lent_done E F (Opens (own number) type) f.0 events in
        subst (λ l. ComesBy n w (l ++ deeds_in None events) outcome) (sym done)
        (comes_next n (Asked (own number)) w v (deeds_from 0 f.0 events ++ deeds_in None events)
        outcome (asked_leads n number opening w apart)
        (called_comes n past None f.0 v (λ u. u) events outcome kept (λ u. calm_same n u) f.2))

    away_comes : (number : Option ℕ) (payload : List ℕ) (w : World) (events : List (Event E F))
        (outcome : Outcome) → Kept past w → ActsCome (law past) (turns_first number payload) w
        → Follows (acts (turns_first number payload) w) events outcome
        → ComesBy n w (deeds_in None events) outcome
    away_comes None payload w events outcome kept come f =
        acts_come_by n past (turns_first None payload) w events outcome tt kept come f
    away_comes (Some number) payload w events outcome kept come f =
        acts_come_by n past (turns_first (Some number) payload) w events outcome
        (λ v. written_calm n v _ refl refl refl, tt) kept come f

    open_comes : (number : Option ℕ) (message : OpenChannelMessage) (does : Handling) (w : World)
        (events : List (Event E F)) (outcome : Outcome) → next_number w.channels.lines ≡ number
        → Kept past w → ActsCome (law past) (open_acts number message does) w
        → Follows (acts (open_acts number message does) w) events outcome
        → ComesBy n w (deeds_in None events) outcome
    open_comes None message (Asks type) w events outcome is kept come f =
        acts_come_by n past (open_acts None message (Asks type)) w events outcome tt kept come f
    open_comes (Some number) message (Asks type) w events outcome is kept come f =
        asking_comes number (opening_by message) type w events outcome
        (next_is_new n past number w is kept) come.0 f
    open_comes number message GivenUp w events outcome is kept come f =
        away_comes number (given_up message.recipient_channel) w events outcome kept come f
    open_comes number message Unsupported w events outcome is kept come f =
        away_comes number (unsupported message.recipient_channel) w events outcome kept come f
    open_comes number message Unknown w events outcome is kept come f =
        away_comes number (unknown message.recipient_channel) w events outcome kept come f

    -- ---- authentication

    -- a verdict asks for no commands, and then the reply is written
    verdict_comes : (w : World) (plan : Plan AuthOutcome) (later : AuthOutcome → Plan Outcome)
        (events : List (Event E F)) (outcome : Outcome) → EndsSo IsBeside plan
        → ((o : AuthOutcome) (rest : List (Event E F)) → Follows (later o) rest outcome
        → ComesBy n w (deeds_in None rest) outcome)
        → Follows (after plan later) events outcome → ComesBy n w (deeds_in None events) outcome
    verdict_comes w (Finish o) later events outcome e k f = k o events f
    verdict_comes w (Ask question next) later [] outcome e k f = absurd (cc)
    verdict_comes w (Ask (Admits admission) next) later (event ∷ events) outcome e k f =
        comes_more n None w event events outcome
        (ap (λ x. done_at None x events) f.1
        ∙ ap (λ (x : Was E). asked_by (open_asked (question_of x))
        ++ deeds_from 0 (recorded_so x) events) (admitted_back E admission (Ok f.0)))
        (verdict_comes w (next f.0) later events outcome (e.1 f.0) k f.2)
    verdict_comes w (Ask other next) later (event ∷ events) outcome e k f = absurd e.0
    verdict_comes w (Tell entry next) later events outcome e k f = absurd e

    concluded_comes : (w : World) (moment : ℕ) (requested : Bool) (o : AuthOutcome)
        (events : List (Event E F)) (outcome : Outcome) → Kept past w
        → Follows (concluded w moment requested o) events outcome
        → ComesBy n w (deeds_in None events) outcome
    concluded_comes w moment requested (Replies reply v state) events outcome kept f =
        let u = waits_for (WaitingAuthRequest state) w in
        let k = beside_on past w u refl (λ out. out) kept in
        comes_behind n w u (deeds_in None events) outcome (written_calm n w u refl refl refl)
        (acts_come_by n past (replied u moment requested reply v) u events outcome
        (replied_calm n u moment requested reply v) k
        (replied_come past u moment requested reply v k) f)
    concluded_comes w moment requested (auth.Fails fault) events outcome kept f =
        acts_come_by n past (Stops (fault_of fault) ∷ []) w events outcome tt kept tt f

    asked_comes : (state : EncryptedState) (next : AuthRequest → Plan AuthOutcome) (w : World)
        (moment : ℕ) (requested : Bool) (events : List (Event E F)) (outcome : Outcome)
        → ((auth : AuthRequest) → EndsSo IsBeside (next auth)) → Kept past w
        → Follows (where_waiting state (λ auth. after (next auth) (concluded w moment requested))
        (acts [] w)) events outcome → ComesBy n w (deeds_in None events) outcome
    asked_comes (WaitingAuthRequest auth) next w moment requested events outcome e kept f =
        verdict_comes w (next auth) (concluded w moment requested) events outcome (e auth)
        (λ o rest g. concluded_comes w moment requested o rest outcome kept g) f
    asked_comes _ next w moment requested events outcome e kept f =
        acts_come_by n past [] w events outcome tt kept tt f

    greets_come_by : (message : Option (List ℕ)) (short : Bool) (w : World)
        (events : List (Event E F)) (outcome : Outcome) → is_short message ≡ short → Kept past w
        → ActsCome (law past) (greets message) w
        → Follows (acts (greets message) w) events outcome
        → ComesBy n w (deeds_in None events) outcome
    greets_come_by message short w events outcome is kept come f =
        acts_come_by n past (greets message) w events outcome (greets_calm n message short is) kept
        come f

    service_comes : (w : World) (b : Bool) (events : List (Event E F)) (outcome : Outcome)
        → Kept past w
        → Follows (if b then Ask Banner (λ message. acts (greets message) w) else acts [] w) events
        outcome → ComesBy n w (deeds_in None events) outcome
    service_comes w true [] outcome kept f = absurd (cc)
    service_comes w true (event ∷ events) outcome kept f =
        comes_more n None w event events outcome (ap (λ x. done_at None x events) f.1)
        (greets_come_by f.0 (is_short f.0) w events outcome refl kept
        (greets_kept past f.0 (is_short f.0) w refl kept) f.2)
    service_comes w false events outcome kept f =
        acts_come_by n past [] w events outcome tt kept tt f

    -- ---- rows

    owed_comes : (w : World) (moment : ℕ) (said : Said) (events : List (Event E F))
        (outcome : Outcome) → SaysCalm said → IsFairSaid said → Kept past w
        → Follows (acts (owed w said) w) events outcome
        → ComesBy n w (deeds_in None events) outcome
    owed_comes w moment said events outcome is fair kept f =
        acts_come_by n past (owed w said) w events outcome (owed_calm n w said is) kept
        (owed_on past w said fair kept) f

    spoken_comes : (w : World) (moment : ℕ) (said : Spoken) (events : List (Event E F))
        (outcome : Outcome) → Kept past w
        → Follows (acts (owed w (read.Connection said)) w) events outcome
        → ComesBy n w (deeds_in None events) outcome
    spoken_comes w moment (spoken.Close channel) events outcome kept f =
        close_comes (find channel.0 w.channels.lines.entries) channel w events outcome kept
        (owed_on past w (read.Connection (spoken.Close channel)) tt kept) f
    spoken_comes w moment said events outcome kept f =
        owed_comes w moment (read.Connection said) events outcome tt tt kept f

    pub row_comes : (w : World) (moment : ℕ) (said : Said) (events : List (Event E F))
        (outcome : Outcome) → IsFairSaid said → Kept past w
        → Follows (row w moment said) events outcome → ComesBy n w (deeds_in None events) outcome
    row_comes w moment (Service name) events outcome fair kept f =
        service_comes w (bytes_eq name (codes "ssh-userauth")) events outcome kept f
    row_comes w moment (Request asked) events outcome fair kept f =
        asked_comes w.user.state (λ auth. verdict_on auth asked) w moment true events outcome
        (verdict_beside asked) kept f
    row_comes w moment (Response responded) events outcome fair kept f =
        asked_comes w.user.state (λ auth. response_verdict auth responded) w moment
        w.user.requested events outcome (response_beside responded) kept f
    row_comes w moment (Open message) events outcome fair kept f =
        open_comes (next_number w.channels.lines) message
        (handling w.channels.no_more_sessions message.typ) w events outcome refl kept
        (owed_on past w (Open message) fair kept) f
    row_comes w moment (read.Connection said) events outcome fair kept f =
        spoken_comes w moment said events outcome kept f
    row_comes w moment said events outcome fair kept f =
        owed_comes w moment said events outcome tt fair kept f
