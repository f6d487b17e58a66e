-- Data are passed where the room has them, and no other row passes any (RFC 4254 section 5.2).
use Rattle.std.proofs.Common.{◌≡◌, ◌==◌, ◌≤◌, ◌<◌, ◌+◌, ◌-◌, ◌^◌, ℕ, List, [], ◌∷◌, Bool, true, false}
use Rattle.std.proofs.Common.{cond, Option, Some, None, refl, sym, ◌∙◌, ap, subst, arith}
use Rattle.std.specs.Prelude.{length, bytes_eq, codes, IfSome, if◌then◌else◌}
use Rattle.ssh_wire.specs.declared.channel_id.ChannelId.{ChannelId}
use Rattle.ssh_link.specs.declared.link.TraceEntry.{TraceEntry}
use Rattle.ssh_auth.specs.declared.auth_request.AuthRequest.{AuthRequest}
use Rattle.ssh_auth.specs.declared.auth_step.AuthVerdict.{AuthVerdict}
use Rattle.ssh_auth.specs.declared.auth_step.AuthVerdict.TheVariants as verdict
use Rattle.ssh_auth.specs.declared.question.Lent.{Lent}
use Rattle.ssh_auth.specs.declared.question.Lent.TheVariants.{Happened}
use Rattle.ssh_auth.specs.declared.question.Question.TheVariants.{Banner, Admits}
use Rattle.ssh_auth.specs.Plan.{Plan, Finish, Ask, Tell, after}
use Rattle.ssh_auth.specs.Verdict.{AuthOutcome, Replies, verdict as verdict_on, response_verdict}
use Rattle.ssh_auth.specs.Verdict as auth
use Rattle.ssh_channels.specs.declared.adjusted.Adjusted.{Adjusted}
use Rattle.ssh_channels.specs.declared.adjusted.Adjusted.TheVariants.{Dropped, Kept as Within}
use Rattle.ssh_channels.specs.declared.adjusted.Adjusted.TheVariants.{Granted}
use Rattle.ssh_channels.specs.declared.chunk.Chunk.{Chunk}
use Rattle.ssh_channels.specs.declared.chunk.DataKind.{DataKind}
use Rattle.ssh_channels.specs.declared.chunk.DataKind.TheVariants.{Plain, Extended}
use Rattle.ssh_channels.specs.Does.{coming_of}
use Rattle.ssh_channels.specs.Entry.{Entry, Sound}
use Rattle.ssh_channels.specs.Lines.{Lines, find, turns, where_found, takes_in}
use Rattle.ssh_channels.specs.Room.{coming, having, adjust_out}
use Rattle.ssh_channels.proofs.Dues.{all_sound}
use Rattle.ssh_channels.proofs.Listed.{found_number, find_again}
use Rattle.ssh_rules.specs.declared.messages.Spoken.{Spoken}
use Rattle.ssh_rules.specs.declared.messages.Spoken.TheVariants as spoken
use Rattle.ssh_rules.specs.declared.state.EncryptedState.{EncryptedState}
use Rattle.ssh_rules.specs.declared.state.EncryptedState.TheVariants.{WaitingAuthRequest}
use Rattle.ssh_rules.specs.Acts.{Calls, acts, done_all}
use Rattle.ssh_rules.specs.Layout.{at_once, held}
use Rattle.ssh_rules.specs.Outcome.{Outcome}
use Rattle.ssh_rules.specs.Reading.{Said, Service, Request, Response, Connection}
use Rattle.ssh_rules.specs.Received.{data_length, passed_lent}
use Rattle.ssh_rules.specs.Rows.{row, owed, greets, greeting, is_short, replied, concluded}
use Rattle.ssh_rules.specs.Rows.{where_waiting, moment_after, rejection_hold, finishes, lets_in}
use Rattle.ssh_rules.specs.Rows.{spoken_acts, data_acts, data_happening, aims_at}
use Rattle.ssh_rules.specs.World.{World, lined, waits_for, target_of, target_on}
use Rattle.ssh_rules.proofs.Received.BareRows.{plain_silent, aims_keeps, BringsNoData, owed_bare}
use Rattle.ssh_rules.proofs.Received.Carried.{IsBareSpoken, IsBareSaid}
use Rattle.ssh_rules.proofs.Received.Filling.{kept_low, granted_low, kept_room, granted_room, passed_low}
use Rattle.ssh_rules.proofs.Received.Acts.{Fits, acts_fit, all_fit}
use Rattle.ssh_rules.proofs.Received.Granting.{Roomy, grown_by, turned, written_room}
use Rattle.ssh_rules.proofs.Ledger.Commands.{Kept, plain_kept, beside_on}
use Rattle.ssh_rules.proofs.Ledger.Acts.{IsFairSaid, aims_on, owed_on}
use Rattle.ssh_rules.proofs.Plans.Verdicts.{EndsSo, IsBeside, verdict_beside, response_beside}
use Rattle.ssh_rules.proofs.Received.Commands.{InRoom}

-- ---- data

carried : (kind : DataKind) (bytes : List ℕ) → data_length (data_happening kind bytes) ≡ bytes
carried Plain bytes = refl
carried (Extended code) bytes = refl

taken_is : (m count target : ℕ) (came : Adjusted) (e : Entry) (l : Lines) →
    find m l.entries ≡ Some e → coming count target e ≡ came →
    takes_in m count target l ≡ turns (having came count target e) (adjust_out came e) l
taken_is m count target came e l at is =
    ap (λ o. where_found o (λ f. turns (having (coming count target f) count target f)
    (adjust_out (coming count target f) f)) l) at
    ∙ ap (λ c. turns (having c count target e) (adjust_out c e) l) is

-- a room is filled up to a number of four bytes
aimed : (o : Option Entry) → IfSome o Sound → target_of o < 2 ^ 32
aimed None h = omega arith
aimed (Some e) h = h.aimed

module _ (n window top : ℕ) (past : List TraceEntry)
  where
    -- a callback that is the last act, and what it recorded
    call_fits : (passed grew j : ℕ) (lent : Lent) (w : World) → passed_lent n passed lent ≡ j
        → j ≤ top → InRoom n window j grew w → Kept past w
        → Fits n window top passed grew (acts (Calls None lent ∷ []) w)
    call_fits passed grew j lent w same low h kept = (
      omega (arith, same, low),
      λ commands. subst (λ p. Fits n window top p grew (done_all None 0 commands w (acts [])))
          (sym same)
          (all_fit n window top None past j grew 0 commands w (acts []) low h kept
          (λ k world l r q. r)),
    )

    came_fits : (came : Adjusted) (passed grew target : ℕ) (channel : ChannelId) (piece : Chunk)
        (e : Entry) (w : World) → find channel.0 w.channels.lines.entries ≡ Some e
        → coming (length piece.bytes) target e ≡ came → target < 2 ^ 32
        → passed ≤ top → grown_by n window grew w.channels.lines.written - 1 ≤ top
        → InRoom n window passed grew w
        → Kept past (lined (takes_in channel.0 (length piece.bytes) target) w)
        → Fits n window top passed grew (acts (data_acts came channel piece target) w)
    came_fits Dropped passed grew target channel piece e w at is small low high h kept =
        let lines = w.channels.lines in (
          h.0,
          subst (Roomy n passed window grew)
              (sym (taken_is channel.0 (length piece.bytes) target Dropped e lines at is))
              (turned n passed window grew e e [] lines (find_again channel.0 lines.entries e at)
              refl tt h.1),
        )
    came_fits Within passed grew target channel piece e w at is small low high h kept =
        let lines = w.channels.lines in
        let count = length piece.bytes in
        let b = n == channel.0 in
        let t : (n == e.number) ≡ (n == channel.0) =
        ap (λ m. n == m) (found_number channel.0 lines.entries e at) in
        let again = find_again channel.0 lines.entries e at in
        let few = kept_low count target e is in
        let less = passed_low b n passed window grew count e lines t again few h.1 in
        call_fits passed grew (cond b (passed + count) passed)
        (Happened channel (data_happening piece.kind piece.bytes))
        (lined (takes_in channel.0 count target) w)
        (ap (λ l. cond b (passed + length l) passed) (carried piece.kind piece.bytes))
        (omega (arith, less, high)) (
          h.0,
          subst (Roomy n (cond b (passed + count) passed) window grew)
              (sym (taken_is channel.0 count target Within e lines at is))
              (kept_room b n passed window grew count e lines t again few h.1),
        ) kept
    came_fits (Granted amount) passed grew target channel piece e w at is small low high h kept =
        let lines = w.channels.lines in
        let count = length piece.bytes in
        let b = n == channel.0 in
        let t : (n == e.number) ≡ (n == channel.0) =
        ap (λ m. n == m) (found_number channel.0 lines.entries e at) in
        let again = find_again channel.0 lines.entries e at in
        let few = granted_low count target amount e is in
        let less = passed_low b n passed window grew count e lines t again few.0 h.1 in
        let v = lined (takes_in channel.0 count target) w in
        let room : InRoom n window (cond b (passed + count) passed) grew v = (
          h.0,
          subst (Roomy n (cond b (passed + count) passed) window grew)
              (sym (taken_is channel.0 count target (Granted amount) e lines at is))
              (granted_room b n passed window grew count target amount e lines t again
              few.0 few.1 few.2 small h.1),
        ) in (
          low,
          λ aim. call_fits passed grew (cond b (passed + count) passed)
              (Happened channel (data_happening piece.kind piece.bytes)) (aims_at channel aim v)
              (ap (λ l. cond b (passed + length l) passed) (carried piece.kind piece.bytes))
              (omega (arith, less, high))
              (aims_keeps channel aim n window (cond b (passed + count) passed) grew v room)
              (aims_on past channel aim v kept),
        )

    data_fits : (o : Option Entry) (passed grew target : ℕ) (channel : ChannelId) (piece : Chunk)
        (w : World) → find channel.0 w.channels.lines.entries ≡ o → target < 2 ^ 32
        → passed ≤ top → grown_by n window grew w.channels.lines.written - 1 ≤ top
        → InRoom n window passed grew w
        → Kept past (lined (takes_in channel.0 (length piece.bytes) target) w)
        → Fits n window top passed grew
        (acts (data_acts (coming_of (length piece.bytes) target o) channel piece target) w)
    data_fits None passed grew target channel piece w is small low high h kept = (
      h.0,
      subst (λ o. Roomy n passed window grew (where_found o
          (λ f. turns (having (coming (length piece.bytes) target f) (length piece.bytes) target f)
          (adjust_out (coming (length piece.bytes) target f) f)) w.channels.lines))
          (sym is) h.1,
    )
    data_fits (Some e) passed grew target channel piece w is small low high h kept =
        came_fits (coming (length piece.bytes) target e) passed grew target channel piece e w
        is refl small low high h kept

    -- ---- what is owed

    said_fits : (passed grew : ℕ) (w : World) (said : Said) → IsFairSaid said → IsBareSaid said
        → BringsNoData said → passed ≤ top → InRoom n window passed grew w → Kept past w
        → Fits n window top passed grew (acts (owed w said) w)
    said_fits passed grew w said fair bare none low h kept =
        acts_fit n window top past passed grew (owed w said) w low h (owed_bare w said bare none)
        kept (owed_on past w said fair kept)

    spoken_fits : (passed grew : ℕ) (w : World) (said : Spoken) → IsBareSpoken said
        → passed ≤ top → grown_by n window grew w.channels.lines.written - 1 ≤ top
        → InRoom n window passed grew w → Kept past w
        → Fits n window top passed grew (acts (spoken_acts w said) w)
    spoken_fits passed grew w (spoken.Data channel piece) bare low high h kept =
        let o = find channel.0 w.channels.lines.entries in
        let small = aimed o (all_sound w.channels.lines past kept.ledger channel.0) in
        data_fits o passed grew (target_on channel.0 w) channel piece w refl small low high h
        (owed_on past w (Connection (spoken.Data channel piece)) tt kept).0
    spoken_fits passed grew w said bare low high h kept =
        said_fits passed grew w (Connection said) tt bare tt low h kept

    -- ---- authentication

    replied_fits : (passed grew : ℕ) (w : World) (moment : ℕ) (requested : Bool)
        (reply : List ℕ) (v : AuthVerdict) → passed ≤ top → InRoom n window passed grew w
        → Kept past w → Fits n window top passed grew (acts (replied w moment requested reply v) w)
    replied_fits passed grew w moment requested reply verdict.Accepted low h kept =
        acts_fit n window top past passed grew (replied w moment requested reply verdict.Accepted)
        w low h (
          λ m size p g v k. (
            k.0,
            written_room m p size g (at_once reply ∷ []) v.channels.lines (refl, tt) k.1,
          ),
          (tt, tt),
        ) kept (
          plain_kept past (at_once reply ∷ []) (lets_in (finishes requested w)) (refl, tt)
              (beside_on past w (lets_in (finishes requested w)) refl (λ out. out) kept),
          λ world k. tt,
        )
    replied_fits passed grew w moment requested reply (verdict.Rejected none_method) low h kept = (
      h.0,
      written_room n passed window grew (held reply (moment_after moment
          (rejection_hold w.settings.config none_method w.user.requested)) ∷ []) w.channels.lines
          (refl, tt) h.1,
    )
    replied_fits passed grew w moment requested reply verdict.Continued low h kept = (
      h.0,
      written_room n passed window grew (at_once reply ∷ []) w.channels.lines (refl, tt) h.1,
    )

    concluded_fits : (passed grew : ℕ) (w : World) (moment : ℕ) (requested : Bool)
        (o : AuthOutcome) → passed ≤ top → InRoom n window passed grew w → Kept past w
        → Fits n window top passed grew (concluded w moment requested o)
    concluded_fits passed grew w moment requested (Replies reply v state) low h kept =
        let u = waits_for (WaitingAuthRequest state) w in
        replied_fits passed grew u moment requested reply v low h
        (beside_on past w u refl (λ out. out) kept)
    concluded_fits passed grew w moment requested (auth.Fails fault) low h kept = tt

    -- a verdict asks whether a user is let in, and then the reply is written
    verdict_fits : (passed grew : ℕ) (plan : Plan AuthOutcome) (later : AuthOutcome → Plan Outcome)
        → EndsSo IsBeside plan → passed ≤ top
        → ((o : AuthOutcome) → Fits n window top passed grew (later o))
        → Fits n window top passed grew (after plan later)
    verdict_fits passed grew (Finish o) later e low k = k o
    verdict_fits passed grew (Ask (Admits admission) next) later e low k =
        (low, λ answer. verdict_fits passed grew (next answer) later (e.1 answer) low k)
    verdict_fits passed grew (Ask other next) later e low k = absurd e.0
    verdict_fits passed grew (Tell entry next) later e low k = absurd e

    asked_fits : (passed grew : ℕ) (state : EncryptedState)
        (next : AuthRequest → Plan AuthOutcome) (w : World) (moment : ℕ) (requested : Bool)
        → ((auth : AuthRequest) → EndsSo IsBeside (next auth)) → passed ≤ top
        → InRoom n window passed grew w → Kept past w
        → Fits n window top passed grew
        (where_waiting state (λ auth. after (next auth) (concluded w moment requested)) (acts [] w))
    asked_fits passed grew (WaitingAuthRequest auth) next w moment requested e low h kept =
        verdict_fits passed grew (next auth) (concluded w moment requested) (e auth) low
        (λ o. concluded_fits passed grew w moment requested o low h kept)
    asked_fits passed grew _ next w moment requested e low h kept = h

    greets_fit : (passed grew : ℕ) (w : World) (message : Option (List ℕ)) (short : Bool)
        → is_short message ≡ short → InRoom n window passed grew w
        → Fits n window top passed grew (acts (greets message) w)
    greets_fit passed grew w message true is h =
        rw is (
          h.0,
          written_room n passed window grew (greeting message) w.channels.lines
              (plain_silent n message) h.1,
        )
    greets_fit passed grew w message false is h = rw is tt

    service_fits : (passed grew : ℕ) (w : World) (b : Bool) → passed ≤ top
        → InRoom n window passed grew w
        → Fits n window top passed grew
        (if b then Ask Banner (λ message. acts (greets message) w) else acts [] w)
    service_fits passed grew w true low h =
        (low, λ message. greets_fit passed grew w message (is_short message) refl h)
    service_fits passed grew w false low h = h

    -- ---- rows

    pub row_fits : (passed grew : ℕ) (w : World) (moment : ℕ) (said : Said) → IsFairSaid said
        → IsBareSaid said → passed ≤ top → grown_by n window grew w.channels.lines.written - 1 ≤ top
        → InRoom n window passed grew w → Kept past w
        → Fits n window top passed grew (row w moment said)
    row_fits passed grew w moment (Service name) fair bare low high h kept =
        service_fits passed grew w (bytes_eq name (codes "ssh-userauth")) low h
    row_fits passed grew w moment (Request asked) fair bare low high h kept =
        asked_fits passed grew w.user.state (λ auth. verdict_on auth asked) w moment true
        (verdict_beside asked) low h kept
    row_fits passed grew w moment (Response responded) fair bare low high h kept =
        asked_fits passed grew w.user.state (λ auth. response_verdict auth responded) w moment
        w.user.requested (response_beside responded) low h kept
    row_fits passed grew w moment (Connection said) fair bare low high h kept =
        spoken_fits passed grew w said bare low high h kept
    row_fits passed grew w moment said fair bare low high h kept =
        said_fits passed grew w said fair bare tt low h kept
