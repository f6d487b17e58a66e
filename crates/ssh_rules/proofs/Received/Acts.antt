-- At each moment of a plan no more was passed on a number than had been granted there before it
-- (RFC 4254 section 5.2).
use Rattle.std.proofs.Common.{◌≡◌, ◌==◌, ◌≤◌, ◌+◌, ℕ, List, [], ◌∷◌, map, Bool, true, false, cond}
use Rattle.std.proofs.Common.{Option, None, refl, sym, ap, subst, arith}
use Rattle.std.specs.Prelude.{length}
use Rattle.std.specs.List.{filter}
use Rattle.ssh_link.specs.Frames.{Frame}
use Rattle.ssh_link.specs.declared.command.Command.{Command}
use Rattle.ssh_link.specs.declared.link.TraceEntry.{TraceEntry}
use Rattle.ssh_link.specs.declared.link.TraceEntry.TheVariants.{Noticed, Sent, Answered}
use Rattle.ssh_link.specs.declared.notice.Notice.{Notice}
use Rattle.ssh_link.specs.declared.outcome.CommandOutcome.{CommandOutcome}
use Rattle.ssh_link.specs.declared.outcome.CommandOutcome.TheVariants.{Accepted, Opened, Refused}
use Rattle.ssh_auth.specs.declared.question.Lent.{Lent}
use Rattle.ssh_auth.specs.declared.question.Lent.TheVariants.{Succeeded, Opens, Happened}
use Rattle.ssh_auth.specs.Plan.{Plan, Finish, Ask, Tell, Answer, after}
use Rattle.ssh_channels.specs.Lines.{Lines, handed, hands_on}
use Rattle.ssh_rules.specs.Acts.{Act, Notes, Calls, Judges_by, Listens_by, Adjusts_by, Turns}
use Rattle.ssh_rules.specs.Acts.{Is_over, Stops, Exchanges, Exchanging, Beginning, Stepping}
use Rattle.ssh_rules.specs.Acts.{exchange_question, payloads_given, frames_given, moved, tell_all}
use Rattle.ssh_rules.specs.Acts.{tell_done, done, done_all, acts, exchanged}
use Rattle.ssh_rules.specs.Effect.{Effect, Brings, effect_at}
use Rattle.ssh_rules.specs.Exchange.{is_of_transport}
use Rattle.ssh_rules.specs.Layout.{at_once}
use Rattle.ssh_rules.specs.Outcome.{Outcome, Goes, Ends, Fails}
use Rattle.ssh_rules.specs.Received.{data_length, passed_lent, passed_done, passed_asked}
use Rattle.ssh_rules.specs.Received.{passed_noticed, passed_told}
use Rattle.ssh_rules.specs.Run.{finish_input, going_out, handed_on, goes_unless_ended, begins}
use Rattle.ssh_rules.specs.Run.{is_due, is_over}
use Rattle.ssh_rules.specs.World.{World, ChannelRequest, is_held}
use Rattle.ssh_rules.proofs.Plans.Acting.{ActsCome, EffectComes}
use Rattle.ssh_rules.proofs.Received.Granting.{Roomy, grown_by, grown_told, all_room}
use Rattle.ssh_rules.proofs.Ledger.Commands.{Kept, effect_on}
use Rattle.ssh_rules.proofs.Ledger.Acts.{law}
use Rattle.ssh_rules.proofs.Plans.Passing.{moved_on, moved_so}
use Rattle.ssh_rules.proofs.Received.Commands.{InRoom, less_room, EffectRooms, effect_room, passed_through}
use Rattle.ssh_rules.proofs.Received.Commands.{done_low, noticed_low, through_low}

-- in what is asked no more than top was passed, and at the end there is room
abbrev pub Fits : (number window top passed grew : ℕ) → Plan Outcome → Type 0
Fits number window top passed grew (Finish (Goes w)) = InRoom number window passed grew w
Fits number window top passed grew (Finish _) = Unit {0}
Fits number window top passed grew (Ask question next) =
    (passed_asked number passed question ≤ top)
    × ((answer : Answer question)
    → Fits number window top (passed_asked number passed question) grew (next answer))
Fits number window top passed grew (Tell entry next) =
    Fits number window top (passed_told number passed entry)
    (grown_told number window grew entry) next

-- a callback that no data come with
abbrev pub IsBare : Lent → Type 0
IsBare (Happened channel happening) = data_length happening ≡ []
IsBare _ = Unit {0}

-- the world turns so, and there is as much room
abbrev pub KeepsRoom : (World → World) → Type 0
KeepsRoom by = (n window passed grew : ℕ) (w : World) → InRoom n window passed grew w
    → InRoom n window passed grew (by w)

-- acts with which no data come
abbrev pub AreBare : List Act → Type 0
AreBare [] = Unit {0}
AreBare (Notes notice ∷ later) = AreBare later
AreBare (Calls at lent ∷ later) = IsBare lent × AreBare later
AreBare (Judges_by at judged by ∷ later) = ((granted : Bool) → KeepsRoom (by granted))
    × AreBare later
AreBare (Listens_by address port by ∷ later) =
    ((granted : Bool) (bound : ℕ) → KeepsRoom (by granted bound)) × AreBare later
AreBare (Adjusts_by channel current by ∷ later) = ((window : ℕ) → KeepsRoom (by window))
    × AreBare later
AreBare (Exchanges asked ∷ later) = AreBare later
AreBare (Turns by ∷ later) = KeepsRoom by × AreBare later
AreBare (Is_over ∷ later) = Unit {0}
AreBare (Stops why ∷ later) = Unit {0}

bare_step : (b : Bool) (passed : ℕ) (bytes : List ℕ) → bytes ≡ [] →
    cond b (passed + length bytes) passed ≡ passed
bare_step true passed bytes h =
    let none = ap (λ l. length l) h in omega (arith, none)
bare_step false passed bytes h = refl

bare_same : (n passed : ℕ) (lent : Lent) → IsBare lent → passed_lent n passed lent ≡ passed
bare_same n passed Succeeded h = refl
bare_same n passed (Opens channel type) h = refl
bare_same n passed (Happened channel happening) h =
    bare_step (n == channel.0) passed (data_length happening) h

given_same : (n window grew : ℕ) (payloads : List (List ℕ)) →
    grown_by n window grew (map at_once payloads) ≡ grew
given_same n window grew [] = refl
given_same n window grew (payload ∷ payloads) = given_same n window grew payloads

module _ (n window top : ℕ)
  where
    -- ---- what is told

    notices_fit : (passed grew : ℕ) (notices : List Notice) (next : Plan Outcome)
        → Fits n window top (passed_through n passed notices) grew next
        → Fits n window top passed grew (tell_all (map Noticed notices) next)
    notices_fit passed grew [] next h = h
    notices_fit passed grew (notice ∷ notices) next h =
        notices_fit (passed_noticed n passed notice) grew notices next h

    pub frames_fit : (passed grew : ℕ) (frames : List Frame) (next : Plan Outcome)
        → Fits n window top passed (grown_by n window grew frames) next
        → Fits n window top passed grew (tell_all (map Sent frames) next)
    frames_fit passed grew [] next h = h
    frames_fit passed grew (frame ∷ frames) next h =
        frames_fit passed (grown_told n window grew (Sent frame)) frames next h

    told_fits : (passed grew place : ℕ) (outcome : CommandOutcome) (next : Plan Outcome)
        → passed ≤ top → Fits n window top (passed_done n passed outcome) grew next
        → Fits n window top passed grew (tell_done place outcome next)
    told_fits passed grew place Accepted next low h = h
    told_fits passed grew place (Opened channel) next low h =
        let less = done_low n passed (Opened channel) in (omega (arith, low, less), λ _. h)
    told_fits passed grew place (Refused why) next low h = (low, λ _. h)

    -- ---- what a callback recorded

    -- one command, and then what follows
    pub one_fits : (past : List TraceEntry) (passed grew : ℕ) (does : Effect)
        (next : CommandOutcome → World → Plan Outcome) → passed ≤ top
        → EffectRooms n window passed grew does → EffectComes (Kept past) does
        → ((j : ℕ) (outcome : CommandOutcome) (world : World) → j ≤ top
        → InRoom n window (passed_done n j outcome) grew world → Kept past world
        → Fits n window top j grew (next outcome world))
        → Fits n window top passed grew (done does next)
    one_fits past passed grew (Brings notices outcome world) next low room kept later =
        let less = through_low n passed notices in
        notices_fit passed grew notices (next outcome world)
        (later (passed_through n passed notices) outcome world (omega (arith, low, less)) room
        kept)

    pub all_fit : (at : Option ChannelRequest) (past : List TraceEntry) (passed grew place : ℕ)
        (commands : List Command) (w : World) (next : World → Plan Outcome) → passed ≤ top
        → InRoom n window passed grew w → Kept past w
        → ((j : ℕ) (world : World) → j ≤ top → InRoom n window j grew world → Kept past world
        → Fits n window top j grew (next world))
        → Fits n window top passed grew (done_all at place commands w next)
    all_fit at past passed grew place [] w next low room kept later = later passed w low room kept
    all_fit at past passed grew place (one ∷ commands) w next low room kept later =
        one_fits past passed grew (effect_at at w one)
        (λ outcome world. tell_done place outcome (done_all at (place + 1) commands world next)) low
        (effect_room n window passed grew at past w one kept room) (effect_on at past w one kept)
        (λ j outcome world l r k.
        let less = done_low n j outcome in
        told_fits j grew place outcome (done_all at (place + 1) commands world next) l
        (all_fit at past (passed_done n j outcome) grew (place + 1) commands world next
        (omega (arith, l, less)) r k later))

    -- ---- the exchange of keys

    given_fits : (passed grew : ℕ) (payloads : List (List ℕ)) (next : Plan Outcome)
        → Fits n window top passed grew next
        → Fits n window top passed grew (tell_all (map Sent (frames_given payloads)) next)
    given_fits passed grew payloads next h =
        frames_fit passed grew (frames_given payloads) next
        (subst (λ g. Fits n window top passed g next)
        (sym (given_same n window grew (filter is_of_transport payloads))) h)

    moved_room : (passed grew : ℕ) (asked : Exchanging) (answer : Answer (exchange_question asked))
        (w : World) → InRoom n window passed grew w
        → InRoom n window passed grew (moved asked answer w)
    moved_room passed grew asked answer w h =
        moved_so (InRoom n window passed grew) asked answer w (λ keys. h)
        (λ keys. (h.0, all_room n passed window grew w.channels.lines h.1))

    exchange_fits : (passed grew : ℕ) (asked : Exchanging) (w : World)
        (next : World → Plan Outcome) → passed ≤ top → InRoom n window passed grew w
        → ((answer : Answer (exchange_question asked))
        → InRoom n window passed grew (moved asked answer w)
        → Fits n window top passed grew (next (moved asked answer w)))
        → Fits n window top passed grew
        (Ask (exchange_question asked) (λ answer. exchanged asked answer w next))
    exchange_fits passed grew Beginning w next low h later = (
      low,
      λ answer. given_fits passed grew (payloads_given Beginning answer)
          (next (moved Beginning answer w))
          (later answer (moved_room passed grew Beginning answer w h)),
    )
    exchange_fits passed grew (Stepping payload) w next low h later = (
      low,
      λ answer. given_fits passed grew (payloads_given (Stepping payload) answer)
          (next (moved (Stepping payload) answer w))
          (later answer (moved_room passed grew (Stepping payload) answer w h)),
    )

    -- ---- acts

    pub acts_fit : (past : List TraceEntry) (passed grew : ℕ) (now : List Act) (w : World)
        → passed ≤ top → InRoom n window passed grew w → AreBare now → Kept past w
        → ActsCome (law past) now w → Fits n window top passed grew (acts now w)
    acts_fit past passed grew [] w low h bare kept come = h
    acts_fit past passed grew (Notes notice ∷ later) w low h bare kept come =
        let less = noticed_low n passed notice in
        acts_fit past (passed_noticed n passed notice) grew later w (omega (arith, low, less))
        (less_room n window passed (passed_noticed n passed notice) grew w less h) bare kept come
    acts_fit past passed grew (Calls at lent ∷ later) w low h bare kept come =
        let same = bare_same n passed lent bare.0 in (
          omega (arith, same, low),
          λ commands. subst (λ p. Fits n window top p grew (done_all at 0 commands w (acts later)))
              (sym same)
              (all_fit at past passed grew 0 commands w (acts later) low h kept
              (λ j world l r k. acts_fit past j grew later world l r bare.1 k (come world k))),
        )
    acts_fit past passed grew (Judges_by at judged by ∷ later) w low h bare kept come = (
      low,
      λ answer. all_fit at past passed grew 0 answer.commands w
          (λ world. acts later (by answer.granted world)) low h kept
          (λ j world l r k.
          let c = come answer.granted world k in
          acts_fit past j grew later (by answer.granted world) l
          (bare.0 answer.granted n window j grew world r) bare.1 c.0 c.1),
    )
    acts_fit past passed grew (Listens_by address port by ∷ later) w low h bare kept come = (
      low,
      λ answer. all_fit None past passed grew 0 answer.commands w
          (λ world. acts later (by answer.granted answer.port world)) low h kept
          (λ j world l r k.
          let c = come answer.granted answer.port world k in
          acts_fit past j grew later (by answer.granted answer.port world) l
          (bare.0 answer.granted answer.port n window j grew world r) bare.1 c.0 c.1),
    )
    acts_fit past passed grew (Adjusts_by channel current by ∷ later) w low h bare kept come = (
      low,
      λ aim. acts_fit past passed grew later (by aim w) low
          (bare.0 aim n window passed grew w h) bare.1 (come aim).0 (come aim).1,
    )
    acts_fit past passed grew (Exchanges asked ∷ later) w low h bare kept come =
        exchange_fits passed grew asked w (acts later) low h
        (λ answer r.
        let k = moved_on (Kept past) asked answer w come.0.0 come.0.1 in
        acts_fit past passed grew later (moved asked answer w) low r bare k (come.1 _ k))
    acts_fit past passed grew (Turns by ∷ later) w low h bare kept come =
        acts_fit past passed grew later (by w) low (bare.0 n window passed grew w h) bare.1 come.0
        come.1
    acts_fit past passed grew (Is_over ∷ later) w low h bare kept come = tt
    acts_fit past passed grew (Stops why ∷ later) w low h bare kept come = tt

    -- ---- the end of an input

    handed_room : (held : Bool) (passed grew : ℕ) (l : Lines) → Roomy n passed window grew l
        → Roomy n passed window (grown_by n window grew (handed held l)) (hands_on held l)
    handed_room true passed grew l h = h
    handed_room false passed grew l h = h

    pub begins_fit : (passed grew : ℕ) (due : Bool) (w : World) → passed ≤ top
        → InRoom n window passed grew w
        → Fits n window top passed grew (acts (begins due) w)
    begins_fit passed grew true w low h =
        exchange_fits passed grew Beginning w (acts []) low h (λ answer r. r)
    begins_fit passed grew false w low h = h

    ended_fits : (passed grew : ℕ) (ended due : Bool) (w : World) → passed ≤ top
        → InRoom n window passed grew w
        → Fits n window top passed grew (cond ended (Finish (Ends w)) (acts (begins due) w))
    ended_fits passed grew true due w low h = tt
    ended_fits passed grew false due w low h = begins_fit passed grew due w low h

    finished_fits : (passed grew : ℕ) (ticked : Bool) (outcome : Outcome) → passed ≤ top
        → Fits n window top passed grew (Finish outcome)
        → Fits n window top passed grew (finish_input ticked outcome)
    finished_fits passed grew ticked (Goes w) low h =
        let v = handed_on w in
        frames_fit passed grew (going_out w) (goes_unless_ended ticked v)
        (ended_fits passed (grown_by n window grew (going_out w)) v.disconnected (is_due ticked v) v
        low (h.0, handed_room (is_held w) passed grew w.channels.lines h.1))
    finished_fits passed grew ticked (Ends w) low h =
        frames_fit passed grew (going_out w) (is_over (handed_on w)) tt
    finished_fits passed grew ticked (Fails why) low h = tt

    pub told_low : (passed : ℕ) (entry : TraceEntry) → passed_told n passed entry ≤ passed
    told_low passed (Noticed notice) = noticed_low n passed notice
    told_low passed (Answered ticket outcome) = done_low n passed outcome
    told_low passed _ = omega arith

    pub input_fits : (passed grew : ℕ) (ticked : Bool) (plan : Plan Outcome) → passed ≤ top
        → Fits n window top passed grew plan
        → Fits n window top passed grew (after plan (finish_input ticked))
    input_fits passed grew ticked (Finish outcome) low h =
        finished_fits passed grew ticked outcome low h
    input_fits passed grew ticked (Ask question next) low h = (
      h.0,
      λ answer. input_fits (passed_asked n passed question) grew ticked (next answer) h.0
          (h.1 answer),
    )
    input_fits passed grew ticked (Tell entry next) low h =
        let less = told_low passed entry in
        input_fits (passed_told n passed entry) (grown_told n window grew entry) ticked next
        (omega (arith, low, less)) h
