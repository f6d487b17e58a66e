-- Acts that leave the channel of a number and the open that waits there as they are, but for what
-- callbacks recorded: what they lead to is what was done.
use Rattle.std.proofs.Common.{◌≡◌, ◌∙◌, ℕ, List, [], ◌∷◌, ◌++◌, map, Bool, true, false, cond}
use Rattle.std.proofs.Common.{Option, None, Ok, refl, sym, ap, subst}
use Rattle.std.proofs.lemmas.List.{append-nil}
use Rattle.ssh_link.specs.Frames.{Frame}
use Rattle.ssh_link.specs.declared.command.Command.{Command}
use Rattle.ssh_link.specs.declared.kex.KexCall.TheVariants as kex
use Rattle.ssh_link.specs.declared.link.TraceEntry.{TraceEntry}
use Rattle.ssh_link.specs.declared.link.TraceEntry.TheVariants.{Sent}
use Rattle.ssh_link.specs.declared.notice.ChannelMsg.TheVariants as msg
use Rattle.ssh_link.specs.declared.notice.Notice.{Notice}
use Rattle.ssh_link.specs.declared.notice.Notice.TheVariants.{Channel}
use Rattle.ssh_auth.specs.declared.question.Lent.{Lent}
use Rattle.ssh_auth.specs.declared.question.Question.TheVariants.{Lends}
use Rattle.ssh_auth.specs.Plan.{Plan, Finish, Event, Told, Stepped, Follows, Answer, answered}
use Rattle.ssh_auth.specs.Was.{Was, question_of}
use Rattle.ssh_auth.proofs.Back.{lent_back, judged_back}
use Rattle.ssh_channels.specs.Lines.{Lines, hands_on}
use Rattle.ssh_rules.specs.Acts.{Act, Notes, Calls, Judges_by, Listens_by, Adjusts_by, Turns}
use Rattle.ssh_rules.specs.Acts.{Is_over, Stops, acts, done_all, Exchanges, Exchanging}
use Rattle.ssh_rules.specs.Acts.{Beginning, Stepping, exchange_question, payloads_given}
use Rattle.ssh_rules.specs.Acts.{frames_given, moved, tell_all}
use Rattle.ssh_rules.specs.Answered.{open_asked}
use Rattle.ssh_rules.specs.Outcome.{Outcome, Goes, Ends, Fails}
use Rattle.ssh_rules.specs.Run.{begins, finish_input, goes_unless_ended, going_out, handed_on}
use Rattle.ssh_rules.specs.Run.{is_due, is_over}
use Rattle.ssh_rules.specs.Valid.{recorded_so}
use Rattle.ssh_rules.specs.declared.request.ChannelRequest.{ChannelRequest}
use Rattle.ssh_rules.specs.World.{World, is_held}
use Rattle.ssh_rules.proofs.Plans.Acting.{ActsCome}
use Rattle.ssh_rules.proofs.Ledger.Commands.{Kept}
use Rattle.ssh_rules.proofs.Ledger.Acts.{law}
use Rattle.ssh_rules.proofs.Plans.Passing.{moved_on, moved_so}
use Rattle.ssh_run_laws.specs.Channels.{Stands, bytes_on}
use Rattle.ssh_run_laws.specs.Deeds.{Closed_by_peer, Deed, asked_by, deeds_from, deeds_in}
use Rattle.ssh_run_laws.specs.Deeds.{done_at, noted_by}
use Rattle.ssh_run_laws.proofs.Chains.{Chain, chain_before, chain_behind, chain_both, chain_more}
use Rattle.ssh_run_laws.proofs.Changing.{all_keep}
use Rattle.ssh_run_laws.proofs.Leading.{Calm, calm_beside, calm_both, calm_lines, calm_same}
use Rattle.ssh_run_laws.proofs.Openings.{waiting_at}
use Rattle.ssh_run_laws.proofs.Recorded.{AreBare, AreUntold, IsBare, IsUntold, all_did}
use Rattle.ssh_run_laws.proofs.Recorded.{bare_none}

-- these deeds lead to the world that it comes to
abbrev pub ComesBy : (n : ℕ) → World → List Deed → Outcome → Type 0
ComesBy n w deeds (Goes v) = Chain n w deeds v
ComesBy n w deeds (Ends v) = Chain n w deeds v
ComesBy n w deeds (Fails why) = Unit {0}

-- the world turns so
abbrev pub IsCalmTurn : (n : ℕ) → (World → World) → Type 0
IsCalmTurn n by = (w : World) → Calm n w (by w)

-- such acts, with one callback at most, which is the last of them and of no open
abbrev pub AreCalm : (n : ℕ) → List Act → Type 0
AreCalm n [] = Unit {0}
AreCalm n (Notes notice ∷ later) = AreCalm n later
AreCalm n (Calls at lent ∷ later) = (asked_by (open_asked (Lends lent)) ≡ []) × (later ≡ [])
AreCalm n (Judges_by at judged by ∷ later) = ((granted : Bool) → IsCalmTurn n (by granted))
    × (later ≡ [])
AreCalm n (Listens_by address port by ∷ later) =
    ((granted : Bool) (bound : ℕ) → IsCalmTurn n (by granted bound)) × (later ≡ [])
AreCalm n (Adjusts_by channel current by ∷ later) = ((window : ℕ) → IsCalmTurn n (by window))
    × AreCalm n later
AreCalm n (Exchanges asked ∷ later) = AreCalm n later
AreCalm n (Turns by ∷ later) = IsCalmTurn n by × AreCalm n later
AreCalm n (Is_over ∷ later) = Unit {0}
AreCalm n (Stops why ∷ later) = Unit {0}

pub comes_behind : (n : ℕ) (w u : World) (deeds : List Deed) (outcome : Outcome) → Calm n w u
    → ComesBy n u deeds outcome → ComesBy n w deeds outcome
comes_behind n w u deeds (Goes v) h c = chain_behind n w u deeds v h c
comes_behind n w u deeds (Ends v) h c = chain_behind n w u deeds v h c
comes_behind n w u deeds (Fails why) h c = tt

-- after these deeds, those
pub comes_after : (n : ℕ) (w : World) (deeds : List Deed) (u : World) (more : List Deed)
    (outcome : Outcome) → Chain n w deeds u → ComesBy n u more outcome
    → ComesBy n w (deeds ++ more) outcome
comes_after n w deeds u more (Goes v) c d = chain_both n w deeds more u v c d
comes_after n w deeds u more (Ends v) c d = chain_both n w deeds more u v c d
comes_after n w deeds u more (Fails why) c d = tt

-- what a notice tells was done may have been done to no channel
noted_chain : (n : ℕ) (w : World) (notice : Notice) → Chain n w (noted_by notice) w
noted_chain n w (Channel channel msg.Close) =
    chain_more n (Closed_by_peer channel) w w [] w (record {
      bytes = refl;
      waits = λ waits h t. h t;
      stands = λ free ended s. s;
      still = λ free ended s. refl;
      opened = λ t. absurd (cc);
      fresh = λ t q. cc;
    }) (calm_same n w)
noted_chain n w (Channel channel _) = calm_same n w
noted_chain n w _ = calm_same n w

-- an event in which nothing was done
pub comes_more : {E F : Type 0} (n : ℕ) (given : Option Command) (w : World) (event : Event E F)
    (events : List (Event E F)) (outcome : Outcome) → done_at given event events ≡ []
    → ComesBy n w (deeds_in given events) outcome
    → ComesBy n w (deeds_in given (event ∷ events)) outcome
comes_more n given w event events outcome none c =
    subst (λ l. ComesBy n w (l ++ deeds_in given events) outcome) (sym none) c

finished : {E F : Type 0} (n : ℕ) (w : World) (final outcome : Outcome)
    (events : List (Event E F)) → Follows (Finish final) events outcome
    → ComesBy n w [] final → (events ≡ []) × ComesBy n w [] outcome
finished n w final outcome [] f c =
    let same : final ≡ outcome = cc in (refl, subst (ComesBy n w []) same c)
finished n w final outcome (event ∷ events) f c = absurd f

-- ---- a callback

through : (n : ℕ) (w : World) (deeds : List Deed) (u : World) (outcome : Outcome)
    → Chain n w deeds u → ComesBy n u [] outcome → ComesBy n w deeds outcome
through n w deeds u (Goes v) c h = chain_before n w deeds u v c h
through n w deeds u (Ends v) c h = chain_before n w deeds u v c h
through n w deeds u (Fails why) c h = tt

-- what it recorded is done, and then nothing
pub called_comes : {E F : Type 0} (n : ℕ) (past : List TraceEntry) (at : Option ChannelRequest)
    (commands : List Command) (w : World) (by : World → World) (events : List (Event E F))
    (outcome : Outcome) → Kept past w → IsCalmTurn n by
    → Follows (done_all at 0 commands w (λ v. Finish (Goes (by v)))) events outcome
    → ComesBy n w (deeds_from 0 commands events ++ deeds_in None events) outcome
called_comes n past at commands w by events outcome kept calm f =
    let d = all_did n past (λ v. Finish (Goes (by v))) outcome at 0 commands w events kept f in
    let end = finished n d.world (Goes (by d.world)) outcome d.rest d.follows (calm d.world) in
    let is : events ≡ d.early = d.is ∙ ap (λ l. d.early ++ l) end.0 ∙ append-nil d.early in
    let none : deeds_in None events ≡ [] =
    ap (deeds_in None) d.is ∙ bare_none None d.early d.rest d.bare ∙ ap (deeds_in None) end.0 in
    let here : deeds_from 0 commands events ++ deeds_in None events
    ≡ deeds_from 0 commands d.early =
    ap (λ l. deeds_from 0 commands events ++ l) none
    ∙ append-nil (deeds_from 0 commands events) ∙ ap (deeds_from 0 commands) is in
    subst (λ l. ComesBy n w l outcome) (sym here)
    (through n w (deeds_from 0 commands d.early) d.world outcome d.chain end.1)

-- what was asked and recorded in a callback
pub lent_done : (E F : Type 0) (lent : Lent) (commands : List Command) (events : List (Event E F))
    → done_at None (answered (Lends lent) commands) events
    ≡ asked_by (open_asked (Lends lent)) ++ deeds_from 0 commands events
lent_done E F lent commands events =
    ap (λ (x : Was E). asked_by (open_asked (question_of x)) ++ deeds_from 0 (recorded_so x) events)
    (lent_back E lent (Ok tt) commands)

held_bytes : (n : ℕ) (held : Bool) (l : Lines) → bytes_on n (hands_on held l) ≡ bytes_on n l
held_bytes n true l = refl
held_bytes n false l = refl

held_stands : (n : ℕ) (held : Bool) (l : Lines) (ended : Bool) → Stands n ended l
    → Stands n ended (hands_on held l)
held_stands n true l ended s = s
held_stands n false l ended s = s

pub moved_calm : (n : ℕ) (asked : Exchanging) (answer : Answer (exchange_question asked)) (w : World)
    → Calm n w (moved asked answer w)
moved_calm n asked answer w =
    moved_so (Calm n w) asked answer w (λ keys. calm_beside n w _ refl)
    (λ keys. calm_both n w _ _ (calm_lines n w _ (all_keep n false w.channels.lines))
    (calm_beside n _ _ refl))

held_calm : (n : ℕ) (held : Bool) (w v : World) → v.channels.lines ≡ hands_on held w.channels.lines
    → v.channels.opens ≡ w.channels.opens → Calm n w v
held_calm n held w v is same = record {
  bytes = ap (bytes_on n) is ∙ held_bytes n held w.channels.lines;
  waits = λ q. (q.0, ap (waiting_at n) same ∙ q.1);
  stands = λ ended s. subst (Stands n ended) (sym is) (held_stands n held w.channels.lines ended
      s);
}

handed_calm : (n : ℕ) (w : World) → Calm n w (handed_on w)
handed_calm n w = held_calm n (is_held w) w (handed_on w) refl refl

module _ {E F : Type 0} (n : ℕ) (past : List TraceEntry)
  where
    lent_comes : (at : Option ChannelRequest) (lent : Lent) (event : Event E F)
        (commands : List Command) (w : World) (events : List (Event E F)) (outcome : Outcome)
        → asked_by (open_asked (Lends lent)) ≡ []
        → event ≡ answered (Lends lent) commands → Kept past w
        → Follows (done_all at 0 commands w (acts [])) events outcome
        → ComesBy n w (deeds_in None (event ∷ events)) outcome
    lent_comes at lent event commands w events outcome none is kept f =
        let done : done_at None event events ≡ deeds_from 0 commands events =
        ap (λ x. done_at None x events) is ∙ lent_done E F lent commands events
        ∙ ap (λ l. l ++ deeds_from 0 commands events) none in
        subst (λ l. ComesBy n w (l ++ deeds_in None events) outcome) (sym done)
        (called_comes n past at commands w (λ v. v) events outcome kept (λ v. calm_same n v) f)

    judged_comes : (at : Option ChannelRequest) (event : Event E F) (commands : List Command)
        (w : World) (by : World → World) (events : List (Event E F)) (outcome : Outcome)
        → done_at None event events ≡ deeds_from 0 commands events → Kept past w
        → IsCalmTurn n by
        → Follows (done_all at 0 commands w (λ v. acts [] (by v))) events outcome
        → ComesBy n w (deeds_in None (event ∷ events)) outcome
    judged_comes at event commands w by events outcome done kept calm f =
        subst (λ l. ComesBy n w (l ++ deeds_in None events) outcome) (sym done)
        (called_comes n past at commands w by events outcome kept calm f)

    -- ---- the exchange of keys

    step_bare : (asked : Exchanging) (answer : Answer (exchange_question asked))
        → IsBare (answered {E = E} {F = F} (exchange_question asked) answer)
    step_bare Beginning answer given rest = refl
    step_bare (Stepping payload) answer given rest = refl

    sent_comes : (given : Option Command) (w : World) (frames : List Frame) (next : Plan Outcome)
        (events : List (Event E F)) (outcome : Outcome)
        → Follows (tell_all (map Sent frames) next) events outcome
        → ((rest : List (Event E F)) → Follows next rest outcome
        → ComesBy n w (deeds_in given rest) outcome)
        → ComesBy n w (deeds_in given events) outcome
    sent_comes given w [] next events outcome f k = k events f
    sent_comes given w (frame ∷ frames) next [] outcome f k = absurd (cc)
    sent_comes given w (frame ∷ frames) next (event ∷ events) outcome f k =
        comes_more n given w event events outcome (ap (λ x. done_at given x events) f.0)
        (sent_comes given w frames next events outcome f.1 k)

    -- ---- acts

    end_comes : (w : World) (final outcome : Outcome) (events : List (Event E F))
        → ComesBy n w [] final → Follows (Finish final) events outcome
        → ComesBy n w (deeds_in None events) outcome
    end_comes w final outcome events c f =
        let end = finished n w final outcome events f c in
        subst (λ l. ComesBy n w (deeds_in {E = E} {F = F} None l) outcome) (sym end.0) end.1

    pub acts_come_by : (now : List Act) (w : World) (events : List (Event E F))
        (outcome : Outcome) → AreCalm n now → Kept past w → ActsCome (law past) now w
        → Follows (acts now w) events outcome → ComesBy n w (deeds_in None events) outcome
    acts_come_by [] w events outcome a kept come f =
        end_comes w (Goes w) outcome events (calm_same n w) f
    acts_come_by (Notes notice ∷ later) w [] outcome a kept come f = absurd (cc)
    acts_come_by (Notes notice ∷ later) w (event ∷ events) outcome a kept come f =
        subst (λ x. ComesBy n w (done_at None x events ++ deeds_in None events) outcome) (sym f.0)
        (comes_after n w (noted_by notice) w (deeds_in None events) outcome
        (noted_chain n w notice) (acts_come_by later w events outcome a kept come f.1))
    acts_come_by (Calls at lent ∷ later) w [] outcome a kept come f = absurd (cc)
    acts_come_by (Calls at lent ∷ later) w (event ∷ events) outcome a kept come f =
        lent_comes at lent event f.0 w events outcome a.0 f.1 kept
        (subst (λ l. Follows (done_all at 0 f.0 w (acts l)) events outcome) a.1 f.2)
    acts_come_by (Judges_by at judged by ∷ later) w [] outcome a kept come f = absurd (cc)
    acts_come_by (Judges_by at judged by ∷ later) w (event ∷ events) outcome a kept come f =
        let answer = f.0 in
        judged_comes at event answer.commands w (by answer.granted) events outcome
        (ap (λ x. done_at None x events) f.1
        ∙ ap (λ (x : Was E). asked_by (open_asked (question_of x))
        ++ deeds_from 0 (recorded_so x) events)
        (judged_back E judged (Ok answer.granted) answer.commands)) kept (a.0 answer.granted)
        (subst (λ l. Follows (done_all at 0 answer.commands w
        (λ v. acts l (by answer.granted v))) events outcome) a.1 f.2)
    acts_come_by (Listens_by address port by ∷ later) w [] outcome a kept come f = absurd (cc)
    acts_come_by (Listens_by address port by ∷ later) w (event ∷ events) outcome a kept come f =
        let answer = f.0 in
        judged_comes None event answer.commands w (by answer.granted answer.port) events outcome
        (ap (λ x. done_at None x events) f.1) kept (a.0 answer.granted answer.port)
        (subst (λ l. Follows (done_all None 0 answer.commands w
        (λ v. acts l (by answer.granted answer.port v))) events outcome) a.1 f.2)
    acts_come_by (Adjusts_by channel current by ∷ later) w [] outcome a kept come f = absurd (cc)
    acts_come_by (Adjusts_by channel current by ∷ later) w (event ∷ events) outcome a kept come f
        =
        comes_more n None w event events outcome (ap (λ x. done_at None x events) f.1)
        (comes_behind n w (by f.0 w) (deeds_in None events) outcome (a.0 f.0 w)
        (acts_come_by later (by f.0 w) events outcome a.1 (come f.0).0 (come f.0).1 f.2))
    acts_come_by (Exchanges asked ∷ later) w [] outcome a kept come f = absurd (cc)
    acts_come_by (Exchanges asked ∷ later) w (event ∷ events) outcome a kept come f =
        let v = moved asked f.0 w in
        let k = moved_on (Kept past) asked f.0 w come.0.0 come.0.1 in
        comes_more n None w event events outcome
        (ap (λ x. done_at None x events) f.1 ∙ step_bare asked f.0 None events)
        (sent_comes None w (frames_given (payloads_given asked f.0)) (acts later v) events outcome
        f.2 (λ rest g. comes_behind n w v (deeds_in None rest) outcome (moved_calm n asked f.0 w)
        (acts_come_by later v rest outcome a k (come.1 v k) g)))
    acts_come_by (Turns by ∷ later) w events outcome a kept come f =
        comes_behind n w (by w) (deeds_in None events) outcome (a.0 w)
        (acts_come_by later (by w) events outcome a.1 come.0 come.1 f)
    acts_come_by (Is_over ∷ later) w events outcome a kept come f =
        end_comes w (Ends w) outcome events (calm_same n w) f
    acts_come_by (Stops why ∷ later) w events outcome a kept come f =
        end_comes w (Fails why) outcome events tt f

    -- ---- the end of an input

    -- nothing is done in these events, and the channel is as it was
    pub record Handed (w : World) (events : List (Event E F)) (outcome : Outcome) : Type 0 where
      pub comes : ComesBy n w [] outcome
      pub bare : AreBare events
      pub untold : AreUntold events

    none_handed : (w : World) (final : Outcome) (events : List (Event E F)) (outcome : Outcome)
        → ComesBy n w [] final → Follows (Finish final) events outcome → Handed w events outcome
    none_handed w final [] outcome c f =
        let same : final ≡ outcome = cc in
        record { comes = subst (ComesBy n w []) same c; bare = tt; untold = tt }
    none_handed w final (event ∷ events) outcome c f = absurd f

    handed_more : (w : World) (event : Event E F) (events : List (Event E F)) (outcome : Outcome)
        → IsBare event → IsUntold event → Handed w events outcome
        → Handed w (event ∷ events) outcome
    handed_more w event events outcome bare untold h = record {
      comes = h.comes;
      bare = (bare, h.bare);
      untold = (untold, h.untold);
    }

    frames_handed : (w : World) (frames : List Frame) (next : Plan Outcome)
        (events : List (Event E F)) (outcome : Outcome)
        → Follows (tell_all (map Sent frames) next) events outcome
        → ((rest : List (Event E F)) → Follows next rest outcome → Handed w rest outcome)
        → Handed w events outcome
    frames_handed w [] next events outcome f k = k events f
    frames_handed w (frame ∷ frames) next [] outcome f k = absurd (cc)
    frames_handed w (frame ∷ frames) next (event ∷ events) outcome f k =
        subst (λ x. Handed w (x ∷ events) outcome) (sym f.0)
        (handed_more w (Told (Sent frame)) events outcome (λ given rest. refl) (λ place. refl)
        (frames_handed w frames next events outcome f.1 k))

    -- this side begins an exchange of keys, or does not
    begins_handed : (w v : World) (due : Bool) (events : List (Event E F)) (outcome : Outcome)
        → Calm n w v → Follows (acts (begins due) v) events outcome → Handed w events outcome
    begins_handed w v false events outcome c f = none_handed w (Goes v) events outcome c f
    begins_handed w v true [] outcome c f = absurd (cc)
    begins_handed w v true (event ∷ events) outcome c f =
        let u = moved Beginning f.0 v in
        subst (λ x. Handed w (x ∷ events) outcome) (sym f.1)
        (handed_more w (Stepped (kex.Begun (Ok f.0))) events outcome (λ given rest. refl)
        (λ place. refl)
        (frames_handed w (frames_given (f.0 ∷ [])) (Finish (Goes u)) events outcome f.2
        (λ rest g. none_handed w (Goes u) rest outcome
        (calm_both n w v u c (moved_calm n Beginning f.0 v)) g)))

    ends_handed : (w v : World) (ended due : Bool) (events : List (Event E F)) (outcome : Outcome)
        → Calm n w v → Follows (cond ended (Finish (Ends v)) (acts (begins due) v)) events outcome
        → Handed w events outcome
    ends_handed w v true due events outcome c f = none_handed w (Ends v) events outcome c f
    ends_handed w v false due events outcome c f = begins_handed w v due events outcome c f

    pub finish_handed : (w : World) (ticked : Bool) (between : Outcome) (events : List (Event E F))
        (outcome : Outcome) → ComesBy n w [] between
        → Follows (finish_input ticked between) events outcome → Handed w events outcome
    finish_handed w ticked (Goes v) events outcome c f =
        let u = handed_on v in
        frames_handed w (going_out v) (goes_unless_ended ticked u) events outcome f
        (λ rest g. ends_handed w u u.disconnected (is_due ticked u) rest outcome
        (calm_both n w v u c (handed_calm n v)) g)
    finish_handed w ticked (Ends v) events outcome c f =
        let u = handed_on v in
        frames_handed w (going_out v) (is_over u) events outcome f
        (λ rest g. none_handed w (Ends u) rest outcome (calm_both n w v u c (handed_calm n v)) g)
    finish_handed w ticked (Fails why) events outcome c f =
        none_handed w (Fails why) events outcome tt f

    -- after what was done
    pub finish_comes : (w : World) (deeds : List Deed) (ticked : Bool) (between : Outcome)
        (events : List (Event E F)) (outcome : Outcome) → ComesBy n w deeds between
        → Follows (finish_input ticked between) events outcome
        → ComesBy n w deeds outcome × AreBare events × AreUntold events
    finish_comes w deeds ticked (Goes v) events outcome c f =
        let h = finish_handed v ticked (Goes v) events outcome (calm_same n v) f in
        (through n w deeds v outcome c h.comes, h.bare, h.untold)
    finish_comes w deeds ticked (Ends v) events outcome c f =
        let h = finish_handed v ticked (Ends v) events outcome (calm_same n v) f in
        (through n w deeds v outcome c h.comes, h.bare, h.untold)
    finish_comes w deeds ticked (Fails why) [] outcome c f =
        let same : Fails why ≡ outcome = cc in
        (subst (ComesBy n w deeds) same tt, tt, tt)
    finish_comes w deeds ticked (Fails why) (event ∷ events) outcome c f = absurd f
