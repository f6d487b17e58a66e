-- A channel that stands goes on standing with what it accepted, through every input in which its
-- close is not asked about and no command of it comes (RFC 4254 section 5).
use Rattle.std.proofs.Common.{◌≡◌, ◌==◌, ◌∙◌, ℕ, List, [], ◌∷◌, Bool, true, false, Option, Some, None}
use Rattle.std.proofs.Common.{Ok, refl, sym, subst}
use Rattle.std.specs.Prelude.{bytes_eq, codes, if◌then◌else◌}
use Rattle.ssh_wire.specs.declared.channel_id.ChannelId.{ChannelId}
use Rattle.ssh_wire.specs.declared.open.OpenChannelMessage.{OpenChannelMessage}
use Rattle.ssh_wire.specs.declared.open_failure.ChannelOpenFailure.{ChannelOpenFailure}
use Rattle.ssh_link.specs.Asked.{IsAsked}
use Rattle.ssh_link.specs.declared.command.Command.{Command}
use Rattle.ssh_link.specs.declared.command.Command.TheVariants as command
use Rattle.ssh_link.specs.declared.frame.InputKind.{InputKind}
use Rattle.ssh_link.specs.declared.frame.InputKind.TheVariants as input
use Rattle.ssh_link.specs.declared.link.TraceEntry.TheVariants.{Answered}
use Rattle.ssh_link.specs.declared.notice.ChannelMsg.TheVariants as msg
use Rattle.ssh_link.specs.declared.open_answer.OpenAnswer.{OpenAnswer}
use Rattle.ssh_auth.specs.declared.auth_request.AuthRequest.{AuthRequest}
use Rattle.ssh_auth.specs.declared.question.Happening.TheVariants as what
use Rattle.ssh_auth.specs.declared.question.Lent.TheVariants.{Happened}
use Rattle.ssh_auth.specs.declared.question.Question.{Question}
use Rattle.ssh_auth.specs.declared.question.Question.TheVariants as ask
use Rattle.ssh_auth.specs.Plan.{Plan, Finish, Ask, Tell, Answer, Event, Called, Follows, after}
use Rattle.ssh_auth.specs.Plan.{answered as event_of}
use Rattle.ssh_auth.specs.Publickey.{Acceptance}
use Rattle.ssh_auth.specs.Verdict.{AuthOutcome, Replies, verdict as verdict_on, response_verdict}
use Rattle.ssh_auth.specs.Verdict as verdicts
use Rattle.ssh_auth.specs.Was.{Was, Lent_so, Judged_so, Listened_so, was}
use Rattle.ssh_auth.proofs.Back.{lent_back, judged_back}
use Rattle.ssh_channels.specs.declared.chunk.DataKind.{DataKind}
use Rattle.ssh_channels.specs.Entry.{Entry}
use Rattle.ssh_channels.specs.Lines.{Lines, find, hands_on, next_number, peer_closes}
use Rattle.ssh_rules.specs.declared.messages.Spoken.{Spoken}
use Rattle.ssh_rules.specs.declared.messages.Spoken.TheVariants as spoken
use Rattle.ssh_rules.specs.declared.handling.Handling.{Handling}
use Rattle.ssh_rules.specs.declared.handling.Handling.TheVariants.{Asks, GivenUp, Unsupported, Unknown}
use Rattle.ssh_rules.specs.declared.request.ChannelRequest.{ChannelRequest}
use Rattle.ssh_rules.specs.declared.state.EncryptedState.{EncryptedState}
use Rattle.ssh_rules.specs.declared.state.EncryptedState.TheVariants.{WaitingAuthRequest}
use Rattle.ssh_rules.specs.Acts.{Act, Notes, Calls, Judges_by, Listens_by, Adjusts_by, Turns}
use Rattle.ssh_rules.specs.Acts.{Exchanges, Is_over, Stops, acts}
use Rattle.ssh_rules.specs.Effect.{decides_open, decides, done_by, effect, effect_at, failure_of}
use Rattle.ssh_rules.specs.Effect.{fails_open, is_too_long, refused_for}
use Rattle.ssh_rules.specs.Opening.{Opening}
use Rattle.ssh_rules.specs.Opens.{opening_of}
use Rattle.ssh_rules.specs.Outcome.{Outcome, Goes, Ends, Fails}
use Rattle.ssh_rules.specs.Reading.{Said, Service, Request, Response, Open}
use Rattle.ssh_rules.specs.Reading as read
use Rattle.ssh_rules.specs.Rows.{row, owed, greets, is_short, replied, concluded, where_waiting}
use Rattle.ssh_rules.specs.Rows.{on_entry, on_confirmed, open_acts, told}
use Rattle.ssh_rules.specs.Run.{OwesKind, finish_input}
use Rattle.ssh_rules.specs.Ticks.{keepalive_acts}
use Rattle.ssh_rules.specs.Types.{handling}
use Rattle.ssh_rules.specs.World.{World, hears, is_held, lined, settles_for, waits_for}
use Rattle.ssh_rules.proofs.Plans.Acting.{ActsCome, AllBuilt, EffectComes, IsPassedOn, Law, PlanComes}
use Rattle.ssh_rules.proofs.Plans.Acting.{acts_come, comes_then, exchange_comes, input_comes, one_comes}
use Rattle.ssh_rules.proofs.Plans.Apart.{refused_comes, tick_comes}
use Rattle.ssh_rules.proofs.Plans.Passing.{payload_so}
use Rattle.ssh_rules.proofs.Plans.Requested.{for_kept}
use Rattle.ssh_run_laws.specs.Channels.{Stands, bytes_on}
use Rattle.ssh_run_laws.specs.Deeds.{given_by}
use Rattle.ssh_run_laws.proofs.Calms.{AreCalm}
use Rattle.ssh_run_laws.proofs.CalmRows.{greets_calm, owed_calm, replied_calm, SaysCalm}
use Rattle.ssh_run_laws.proofs.Changing.{Keeps, all_keep, peer_close_keeps, reply_keeps, same_keeps}
use Rattle.ssh_run_laws.proofs.Leading.{Calm}

-- the channel of a number stands so, and has accepted these bytes
abbrev pub Carried : (n : ℕ) → (ended : Bool) → (held : List (DataKind × ℕ)) → Lines → Type 0
Carried n ended held l = Stands n ended l × (bytes_on n l ≡ held)

-- it is so where an input goes on
abbrev pub ComesCarried : (n : ℕ) → (ended : Bool) → (held : List (DataKind × ℕ)) → Outcome
    → Type 0
ComesCarried n ended held (Goes w) = Carried n ended held w.channels.lines
ComesCarried n ended held (Ends w) = Unit {0}
ComesCarried n ended held (Fails why) = Unit {0}

-- ---- questions and their answers

-- it is asked about the close of the number's channel
abbrev pub closes : (n : ℕ) → Question → Bool
closes n (ask.Lends (Happened channel what.Close)) = n == channel.0
closes n _ = false

-- an open is refused, or a request of a channel's fails
abbrev pub IsDenial : Command → Type 0
IsDenial (command.Answer answer) = (reason : ChannelOpenFailure) × (answer.rejection ≡ Some reason)
IsDenial (command.ChannelFailure channel) = Unit {0}
IsDenial _ = ⊥

abbrev pub Denies : (n : ℕ) → (question : Question) → Answer question → Type 0
Denies n (ask.Lends lent) commands = AllBuilt IsDenial commands × (closes n (ask.Lends lent) ≡ false)
Denies n (ask.Judges judged) answer = AllBuilt IsDenial answer.commands
Denies n (ask.Listens address port) answer = AllBuilt IsDenial answer.commands
Denies n _ answer = Unit {0}

-- the same of a call
abbrev pub DeniedSo : {E : Type 0} → (n : ℕ) → Was E → Type 0
DeniedSo n (Lent_so lent answer commands) =
    AllBuilt IsDenial commands × (closes n (ask.Lends lent) ≡ false)
DeniedSo n (Judged_so judged answer commands) = AllBuilt IsDenial commands
DeniedSo n (Listened_so address port port_after answer commands) = AllBuilt IsDenial commands
DeniedSo n _ = Unit {0}

abbrev pub IsDenied : {E F : Type 0} → (n : ℕ) → Event E F → Type 0
IsDenied n (Called call) = DeniedSo n (was call)
IsDenied n _ = Unit {0}

abbrev pub AreDenied : {E F : Type 0} → (n : ℕ) → List (Event E F) → Type 0
AreDenied n [] = Unit {0}
AreDenied n (event ∷ events) = IsDenied n event × AreDenied n events

denied_answer : {E F : Type 0} (n : ℕ) (question : Question) (answer : Answer question)
    (event : Event E F) → event ≡ event_of question answer → IsDenied n event
    → Denies n question answer
denied_answer {E} n (ask.Lends lent) answer event is h =
    subst (DeniedSo n) (lent_back E lent (Ok tt) answer) (subst (IsDenied n) is h)
denied_answer {E} n (ask.Judges judged) answer event is h =
    subst (DeniedSo n) (judged_back E judged (Ok answer.granted) answer.commands)
    (subst (IsDenied n) is h)
denied_answer n (ask.Listens address port) answer event is h = subst (IsDenied n) is h
denied_answer n question answer event is h = tt

module _ (n : ℕ) (ended : Bool) (held : List (DataKind × ℕ))
  where
    -- ---- what leaves it as it is

    pub keeps_carried : (touched : Bool) (l m : Lines) → Keeps n touched l m → touched ≡ false
        → Carried n ended held l → Carried n ended held m
    keeps_carried touched l m k free h = (k.stands free ended h.0, k.bytes ∙ h.1)

    calm_carried : (w v : World) → Calm n w v → Carried n ended held w.channels.lines
        → Carried n ended held v.channels.lines
    calm_carried w v c h = (c.stands ended h.0, c.bytes ∙ h.1)

    handed_carried : (is : Bool) (l : Lines) → Carried n ended held l
        → Carried n ended held (hands_on is l)
    handed_carried true l h = h
    handed_carried false l h = h

    -- ---- commands that refuse

    abbrev pub Holds : World → Type 0
    Holds w = Carried n ended held w.channels.lines

    failed_carried : (w : World) (number : ℕ) (payload : List ℕ) (long : Bool)
        → is_too_long payload ≡ long → Holds w → EffectComes Holds (fails_open number payload w)
    failed_carried w number payload true is h = rw is h
    failed_carried w number payload false is h = rw is h

    decided_carried : (w : World) (number : ℕ) (opening : Opening)
        (texts : Option (List ℕ × List ℕ)) (rejection : Option ChannelOpenFailure)
        (reason : ChannelOpenFailure) → rejection ≡ Some reason → Holds w
        → EffectComes Holds (decides number opening rejection texts w)
    decided_carried w number opening texts None reason is h = absurd (cc)
    decided_carried w number opening texts (Some why) reason is h =
        let payload = failure_of opening why texts in
        failed_carried w number payload (is_too_long payload) refl h

    answers_carried : (w : World) (answer : OpenAnswer) (opening : Option Opening)
        (reason : ChannelOpenFailure) → answer.rejection ≡ Some reason → Holds w
        → EffectComes Holds (decides_open answer opening w)
    answers_carried w answer None reason is h = h
    answers_carried w answer (Some opening) reason is h =
        decided_carried w answer.channel.0 opening answer.texts answer.rejection reason is h

    denied_by : (at : Option ChannelRequest) (w : World) (one : Command) → Holds w → IsDenial one
        → EffectComes Holds (done_by at w one)
    denied_by at w (command.Answer answer) h is =
        answers_carried w answer (opening_of answer.channel.0 w) is.0 is.1 h
    denied_by at w (command.ChannelFailure channel) h is =
        let lines = w.channels.lines in
        keeps_carried false lines (settles_for at channel.0 false lines)
        (for_kept (Keeps n false lines) channel.0 false lines
        (λ place k. reply_keeps n false channel.0 place false lines) at (same_keeps n false lines))
        refl h
    denied_by at w one h is = absurd is

    pub denial_carried : (at : Option ChannelRequest) (w : World) (one : Command) → Holds w
        → IsDenial one → EffectComes Holds (effect_at at w one)
    denial_carried at w one h is =
        refused_comes Holds (refused_for w.disconnected w one) w (done_by at w one) h
        (denied_by at w one h is)

    -- ---- acts

    abbrev by : Law
    by = record {
      such = Denies n;
      comes = ComesCarried n ended held;
      holds = Holds;
      built = IsDenial;
      goes = λ w h. h;
      lends = λ lent commands s. s.0;
      judges = λ judged answer s. s;
      listens = λ address port answer s. s;
      keeps = λ at w one h is. denial_carried at w one h is;
    }

    abbrev pub Comes : Plan Outcome → Type 0
    Comes plan = PlanComes (Denies n) (ComesCarried n ended held) plan

    calm_acts : (now : List Act) (w : World) → AreCalm n now → Holds w → ActsCome by now w
    calm_acts [] w a h = tt
    calm_acts (Notes notice ∷ later) w a h = calm_acts later w a h
    calm_acts (Calls at lent ∷ later) w a h =
        λ world k. subst (λ l. ActsCome by l world) (sym a.1) tt
    calm_acts (Judges_by at judged turn ∷ later) w a h = λ granted world k. (
      calm_carried world (turn granted world) (a.0 granted world) k,
      subst (λ l. ActsCome by l (turn granted world)) (sym a.1) tt,
    )
    calm_acts (Listens_by address port turn ∷ later) w a h = λ granted bound world k. (
      calm_carried world (turn granted bound world) (a.0 granted bound world) k,
      subst (λ l. ActsCome by l (turn granted bound world)) (sym a.1) tt,
    )
    calm_acts (Adjusts_by channel current turn ∷ later) w a h = λ window.
        let k = calm_carried w (turn window w) (a.0 window w) h in
        (k, calm_acts later (turn window w) a.1 k)
    calm_acts (Exchanges asked ∷ later) w a h = (
      (
        λ keys goes_on. h,
        λ keys. keeps_carried false w.channels.lines _ (all_keep n false w.channels.lines) refl h,
      ),
      λ world k. calm_acts later world a k,
    )
    calm_acts (Turns turn ∷ later) w a h =
        let k = calm_carried w (turn w) (a.0 w) h in (k, calm_acts later (turn w) a.1 k)
    calm_acts (Is_over ∷ later) w a h = tt
    calm_acts (Stops why ∷ later) w a h = tt

    calm_come : (now : List Act) (w : World) → AreCalm n now → Holds w → Comes (acts now w)
    calm_come now w a h = acts_come by now w h (calm_acts now w a h)

    -- ---- rows

    close_acts : (channel : ChannelId) (w : World) → Holds w
        → Comes (acts (Turns (lined (peer_closes channel.0)) ∷ told channel msg.Close what.Close) w)
    close_acts channel w h = λ commands s.
        let v = lined (peer_closes channel.0) w in
        acts_come by (Calls None (Happened channel what.Close) ∷ []) v
        (keeps_carried (n == channel.0) w.channels.lines v.channels.lines
        (peer_close_keeps n channel.0 w.channels.lines) s.1 h) (λ world k. tt) commands s

    agreed_come : (confirmed : Bool) (channel : ChannelId) (w : World) → Holds w
        → Comes (acts (on_confirmed confirmed (Turns (lined (peer_closes channel.0))
        ∷ told channel msg.Close what.Close)) w)
    agreed_come true channel w h = close_acts channel w h
    agreed_come false channel w h = h

    close_come : (o : Option Entry) (channel : ChannelId) (w : World) → Holds w
        → Comes (acts (on_entry o (λ e. Turns (lined (peer_closes channel.0))
        ∷ told channel msg.Close what.Close)) w)
    close_come None channel w h = h
    close_come (Some e) channel w h = agreed_come e.confirmed channel w h

    owed_come : (w : World) (said : Said) → SaysCalm said → Holds w → Comes (acts (owed w said) w)
    owed_come w said is h = calm_come (owed w said) w (owed_calm n w said is) h

    spoken_come : (w : World) (said : Spoken) → Holds w
        → Comes (acts (owed w (read.Connection said)) w)
    spoken_come w (spoken.Close channel) h =
        close_come (find channel.0 w.channels.lines.entries) channel w h
    spoken_come w said h = owed_come w (read.Connection said) tt h

    open_acts_come : (number : Option ℕ) (message : OpenChannelMessage) (does : Handling) (w : World)
        → Holds w → ActsCome by (open_acts number message does) w
    open_acts_come None message (Asks type) w h = tt
    open_acts_come None message GivenUp w h = tt
    open_acts_come None message Unsupported w h = tt
    open_acts_come None message Unknown w h = tt
    open_acts_come (Some number) message (Asks type) w h = (h, λ world k. tt)
    open_acts_come (Some number) message GivenUp w h = (h, tt)
    open_acts_come (Some number) message Unsupported w h = (h, tt)
    open_acts_come (Some number) message Unknown w h = (h, tt)

    service_come : (w : World) (b : Bool) → Holds w
        → Comes (if b then Ask ask.Banner (λ message. acts (greets message) w) else acts [] w)
    service_come w true h = λ message s.
        calm_come (greets message) w (greets_calm n message (is_short message) refl) h
    service_come w false h = h

    concluded_come : (w : World) (moment : ℕ) (requested : Bool) (o : AuthOutcome) → Holds w
        → Comes (concluded w moment requested o)
    concluded_come w moment requested (Replies reply v state) h =
        let u = waits_for (WaitingAuthRequest state) w in
        calm_come (replied u moment requested reply v) u (replied_calm n u moment requested reply v) h
    concluded_come w moment requested (verdicts.Fails fault) h = tt

    asked_come : (state : EncryptedState) (next : AuthRequest → Plan AuthOutcome) (w : World)
        (moment : ℕ) (requested : Bool) → Holds w
        → Comes (where_waiting state (λ auth. after (next auth) (concluded w moment requested))
        (acts [] w))
    asked_come (WaitingAuthRequest auth) next w moment requested h =
        comes_then (Denies n) (ComesCarried n ended held) (next auth) (concluded w moment requested)
        (λ o. concluded_come w moment requested o h)
    asked_come _ next w moment requested h = h

    row_come : (w : World) (moment : ℕ) (said : Said) → Holds w → Comes (row w moment said)
    row_come w moment (Service name) h = service_come w (bytes_eq name (codes "ssh-userauth")) h
    row_come w moment (Request asked) h =
        asked_come w.user.state (λ auth. verdict_on auth asked) w moment true h
    row_come w moment (Response said) h =
        asked_come w.user.state (λ auth. response_verdict auth said) w moment w.user.requested h
    row_come w moment (Open message) h = acts_come by (owed w (Open message)) w h
        (open_acts_come (next_number w.channels.lines) message
        (handling w.channels.no_more_sessions message.typ) w h)
    row_come w moment (read.Connection said) h = spoken_come w said h
    row_come w moment said h = owed_come w said tt h

    -- ---- inputs

    -- what the link gives, which is asked neither for commands nor for replies
    pub link_come : (accepts : Acceptance) (w : World) (moment : ℕ) (kind : InputKind)
        (plan : Plan Outcome) → IsAsked false false kind → OwesKind accepts w moment kind plan
        → Holds w → Comes plan
    link_come accepts w moment input.End plan is o h = rw o tt
    link_come accepts w moment (input.Payload payload) plan is o h =
        let v = hears payload w in
        payload_so accepts v moment payload plan Comes o (λ said says. row_come v moment said h)
        (λ passage. exchange_comes by (λ u k. (
          λ keys goes_on. k,
          λ keys.
              keeps_carried false u.channels.lines _ (all_keep n false u.channels.lines) refl k,
        )) payload
        passage v h tt tt)
    link_come accepts w moment (input.Command ticket one) plan is o h = absurd (cc)
    link_come accepts w moment (input.OpenReply ticket answer) plan is o h = absurd (cc)
    link_come accepts w moment input.KeepaliveTick plan is o h =
        rw o (acts_come by (keepalive_acts w) w h (tick_comes by w tt h))
    link_come accepts w moment input.InactivityTick plan is o h = rw o tt
    link_come accepts w moment input.RekeyTick plan is o h = rw o h

    -- a command from outside that leads to it
    pub command_come : (accepts : Acceptance) (w : World) (moment : ℕ) (kind : InputKind)
        (given : Command) (plan : Plan Outcome) → given_by kind ≡ Some given
        → OwesKind accepts w moment kind plan → EffectComes Holds (effect w given) → Comes plan
    command_come accepts w moment (input.Command ticket one) given plan is o h =
        let same : one ≡ given = cc in
        rw o (one_comes by (effect w one) (λ came v. Tell (Answered ticket came) (Finish (Goes v)))
        (subst (λ c. EffectComes Holds (effect w c)) (sym same) h) (λ came v k. k))
    command_come accepts w moment (input.OpenReply ticket answer) given plan is o h =
        let same : command.Answer answer ≡ given = cc in
        rw o (one_comes by (effect w (command.Answer answer))
        (λ came v. Tell (Answered ticket came) (Finish (Goes v)))
        (subst (λ c. EffectComes Holds (effect w c)) (sym same) h) (λ came v k. k))
    command_come accepts w moment kind given plan is o h = absurd (cc)

    passes : IsPassedOn (ComesCarried n ended held)
    passes w = (
      λ h. (handed_carried (is_held w) w.channels.lines h, tt),
      λ h. tt,
      λ keys h. h,
    )

    come_by : {E F : Type 0} (plan : Plan Outcome) (events : List (Event E F)) (outcome : Outcome)
        → Comes plan → Follows plan events outcome → AreDenied n events
        → ComesCarried n ended held outcome
    come_by plan [] outcome h f denied = subst Comes f h
    come_by (Finish other) (event ∷ events) outcome h f denied = absurd f
    come_by (Ask question next) (event ∷ events) outcome h f denied =
        come_by (next f.0) events outcome
        (h f.0 (denied_answer n question f.0 event f.1 denied.0)) f.2 denied.1
    come_by (Tell entry next) (event ∷ events) outcome h f denied =
        come_by next events outcome h f.1 denied.1

    -- an input that leads to it before its frames are handed on leads to it
    pub input_carried : {E F : Type 0} (ticked : Bool) (first plan : Plan Outcome)
        (events : List (Event E F)) (world : World) → plan ≡ after first (finish_input ticked)
        → Comes first → Follows plan events (Goes world) → AreDenied n events → Holds world
    input_carried ticked first plan events world is h f denied =
        come_by plan events (Goes world) (rw is (input_comes (Denies n) (ComesCarried n ended held)
        ticked first passes h)) f denied
