-- What a row asks waits for its reply behind what waited (RFC 4254 section 4).
use Rattle.std.proofs.Common.{◌≡◌, ◌||◌, ℕ, List, [], ◌∷◌, ◌++◌, map, Bool, false}
use Rattle.std.proofs.Common.{Option, None, Ok, refl, sym, ◌∙◌, ap, subst}
use Rattle.std.specs.List.{list_any}
use Rattle.std.proofs.lemmas.List.{append-nil}
use Rattle.std.proofs.lemmas.List.Folds.{list_any-append}
use Rattle.std.proofs.Math.Bool.{or-false}
use Rattle.ssh_link.specs.Frames.{Frame}
use Rattle.ssh_link.specs.declared.command.Command.{Command}
use Rattle.ssh_link.specs.declared.link.TraceEntry.TheVariants.{Noticed, Sent}
use Rattle.ssh_auth.specs.Plan.{Plan, Finish, Event, Told, Follows, Answer, answered}
use Rattle.ssh_auth.proofs.Back.{lent_back, judged_back}
use Rattle.ssh_rules.specs.declared.outstanding.Outstanding.{Outstanding}
use Rattle.ssh_rules.specs.Acts.{Act, Notes, Calls, Judges_by, Listens_by, Adjusts_by, Turns}
use Rattle.ssh_rules.specs.Acts.{Is_over, Stops, acts, done_all, Exchanges, Exchanging}
use Rattle.ssh_rules.specs.Acts.{Beginning, Stepping, exchange_question, payloads_given}
use Rattle.ssh_rules.specs.Acts.{frames_given, moved, tell_all}
use Rattle.ssh_rules.specs.InOrder.{recorded, refuses_at, awaits_from, awaits_within, replied_in}
use Rattle.ssh_rules.specs.Outcome.{Outcome, Goes, Ends, Fails}
use Rattle.ssh_rules.specs.Valid.{recorded_so}
use Rattle.ssh_rules.specs.World.{World, ChannelRequest}
use Rattle.ssh_rules.proofs.Plans.Passing.{moved_so}
use Rattle.ssh_rules.proofs.InOrder.Commands.{AreUnlent, all_done, asked_same}

-- ---- events

-- nothing was recorded in these, so nothing is asked
pub unlent_none : {E F : Type 0} (events : List (Event E F)) → AreUnlent events →
    awaits_within events ≡ []
unlent_none [] h = refl
unlent_none (event ∷ events) h =
    ap (λ l. awaits_from 0 l events ++ awaits_within events) h.0 ∙ unlent_none events h.1

pub unlent_both : {E F : Type 0} (xs ys : List (Event E F)) → AreUnlent xs → AreUnlent ys →
    AreUnlent (xs ++ ys)
unlent_both [] ys h k = k
unlent_both (x ∷ xs) ys h k = (h.0, unlent_both xs ys h.1 k)

-- none of these refuses a command
abbrev pub RefuseNone : {E F : Type 0} → List (Event E F) → Type 0
RefuseNone events = (place : ℕ) → list_any (refuses_at place) events ≡ false

-- events behind that refuse none change nothing
pub asked_front : {E F : Type 0} (place : ℕ) (commands : List Command) (xs ys : List (Event E F)) →
    RefuseNone ys → awaits_from place commands (xs ++ ys) ≡ awaits_from place commands xs
asked_front place commands xs ys none =
    asked_same place commands (xs ++ ys) xs
    (λ p l. list_any-append (refuses_at p) xs ys
    ∙ ap (λ b. list_any (refuses_at p) xs || b) (none p)
    ∙ or-false (list_any (refuses_at p) xs))

pub within_front : {E F : Type 0} (xs ys : List (Event E F)) → RefuseNone ys → AreUnlent ys →
    awaits_within (xs ++ ys) ≡ awaits_within xs
within_front [] ys none unlent = unlent_none ys unlent
within_front (x ∷ xs) ys none unlent =
    ap (λ l. l ++ awaits_within (xs ++ ys)) (asked_front 0 (recorded x) xs ys none)
    ∙ ap (λ l. awaits_from 0 (recorded x) xs ++ l) (within_front xs ys none unlent)

-- ---- acts without a callback

-- this waits in the world that it comes to
abbrev pub Waits : List Outstanding → Outcome → Type 0
Waits waiting (Goes w) = w.globals.outstanding ≡ waiting
Waits waiting _ = Unit {0}

-- the world turns so, and the same waits
abbrev pub KeepsQueue : (World → World) → Type 0
KeepsQueue by = (w : World) → (by w).globals.outstanding ≡ w.globals.outstanding

-- acts that tell of no reply, and by which the same waits
abbrev pub AreApart : List Act → Type 0
AreApart [] = Unit {0}
AreApart (Notes notice ∷ later) = (replied_in notice ≡ []) × AreApart later
AreApart (Adjusts_by channel current by ∷ later) = ((window : ℕ) → KeepsQueue (by window))
    × AreApart later
AreApart (Turns by ∷ later) = KeepsQueue by × AreApart later
AreApart (Is_over ∷ later) = Unit {0}
AreApart (Stops why ∷ later) = Unit {0}
AreApart (_ ∷ later) = ⊥

-- .. but for one callback, behind which there is none
abbrev pub AreCalling : List Act → Type 0
AreCalling [] = Unit {0}
AreCalling (Notes notice ∷ later) = (replied_in notice ≡ []) × AreCalling later
AreCalling (Calls at lent ∷ later) = AreApart later
AreCalling (Judges_by at judged by ∷ later) = ((granted : Bool) → KeepsQueue (by granted))
    × AreApart later
AreCalling (Listens_by address port by ∷ later) =
    ((granted : Bool) (bound : ℕ) → KeepsQueue (by granted bound)) × AreApart later
AreCalling (Adjusts_by channel current by ∷ later) = ((window : ℕ) → KeepsQueue (by window))
    × AreCalling later
AreCalling (Exchanges asked ∷ later) = AreCalling later
AreCalling (Turns by ∷ later) = KeepsQueue by × AreCalling later
AreCalling (Is_over ∷ later) = Unit {0}
AreCalling (Stops why ∷ later) = Unit {0}

pub record Stays {E F : Type 0} (waiting : List Outstanding) (outcome : Outcome)
    (events : List (Event E F)) : Type 0 where
  pub same : Waits waiting outcome
  pub unlent : AreUnlent events
  pub none : RefuseNone events

stays_more : {E F : Type 0} (waiting : List Outstanding) (outcome : Outcome) (event : Event E F)
    (events : List (Event E F)) → recorded event ≡ [] →
    ((place : ℕ) → refuses_at place event ≡ false) → Stays waiting outcome events →
    Stays waiting outcome (event ∷ events)
stays_more waiting outcome event events unlent none h = record {
  same = h.same;
  unlent = (unlent, h.unlent);
  none = λ place. ap (λ b. b || list_any (refuses_at place) events) (none place) ∙ h.none place;
}

stays_end : {E F : Type 0} (waiting : List Outstanding) (outcome other : Outcome) →
    Waits waiting outcome → Finish outcome ≡ Finish other → Stays {E = E} {F = F} waiting other []
stays_end waiting outcome other h is =
    let same : outcome ≡ other = cc in
    record { same = subst (Waits waiting) same h; unlent = tt; none = λ place. refl }

apart_stays : {E F : Type 0} (now : List Act) (w : World) (events : List (Event E F))
    (outcome : Outcome) → AreApart now → Follows (acts now w) events outcome →
    Stays w.globals.outstanding outcome events
apart_stays [] w [] outcome a f = stays_end w.globals.outstanding (Goes w) outcome refl f
apart_stays [] w (event ∷ events) outcome a f = absurd f
apart_stays (Notes notice ∷ later) w [] outcome a f = absurd (cc)
apart_stays (Notes notice ∷ later) w (event ∷ events) outcome a f =
    subst (λ x. Stays w.globals.outstanding outcome (x ∷ events)) (sym f.0)
    (stays_more w.globals.outstanding outcome (Told (Noticed notice)) events refl (λ p. refl)
    (apart_stays later w events outcome a.1 f.1))
apart_stays (Adjusts_by channel current by ∷ later) w [] outcome a f = absurd (cc)
apart_stays (Adjusts_by channel current by ∷ later) w (event ∷ events) outcome a f =
    subst (λ x. Stays w.globals.outstanding outcome (x ∷ events)) (sym f.1)
    (stays_more w.globals.outstanding outcome _ events refl (λ p. refl)
    (subst (λ l. Stays l outcome events) (a.0 f.0 w)
    (apart_stays later (by f.0 w) events outcome a.1 f.2)))
apart_stays (Turns by ∷ later) w events outcome a f =
    subst (λ l. Stays l outcome events) (a.0 w) (apart_stays later (by w) events outcome a.1 f)
apart_stays (Is_over ∷ later) w [] outcome a f =
    stays_end w.globals.outstanding (Ends w) outcome tt f
apart_stays (Is_over ∷ later) w (event ∷ events) outcome a f = absurd f
apart_stays (Stops why ∷ later) w [] outcome a f =
    stays_end w.globals.outstanding (Fails why) outcome tt f
apart_stays (Stops why ∷ later) w (event ∷ events) outcome a f = absurd f
apart_stays (Calls at lent ∷ later) w events outcome a f = absurd a
apart_stays (Judges_by at judged by ∷ later) w events outcome a f = absurd a
apart_stays (Listens_by address port by ∷ later) w events outcome a f = absurd a
apart_stays (Exchanges asked ∷ later) w events outcome a f = absurd a

-- ---- acts with a callback

-- what a callback recorded is asked, and then nothing is
called_waits : {E F : Type 0} (at : Option ChannelRequest) (event : Event E F)
    (commands : List Command) (w : World) (next : World → Plan Outcome)
    (events : List (Event E F)) (outcome : Outcome) →
    recorded event ≡ commands →
    ((v : World) (rest : List (Event E F)) → Follows (next v) rest outcome →
    Stays v.globals.outstanding outcome rest) →
    Follows (done_all at 0 commands w next) events outcome →
    Waits (w.globals.outstanding ++ awaits_within (event ∷ events)) outcome
called_waits at event commands w next events outcome is stays f =
    let d = all_done at next outcome 0 commands w events f in
    let s = stays d.world d.rest d.follows in
    let none : awaits_within events ≡ [] =
    ap awaits_within d.is
    ∙ unlent_none (d.early ++ d.rest) (unlent_both d.early d.rest d.unlent s.unlent) in
    let here : awaits_from 0 (recorded event) events ≡ awaits_from 0 commands d.early =
    ap (λ l. awaits_from 0 l events) is ∙ ap (awaits_from 0 commands) d.is
    ∙ asked_front 0 commands d.early d.rest s.none in
    let whole : awaits_within (event ∷ events) ≡ awaits_from 0 commands d.early =
    ap (λ l. awaits_from 0 (recorded event) events ++ l) none
    ∙ append-nil (awaits_from 0 (recorded event) events) ∙ here in
    subst (λ l. Waits l outcome) (d.grew ∙ ap (λ l. w.globals.outstanding ++ l) (sym whole)) s.same

-- a quiet event before it
pub waits_more : {E F : Type 0} (waiting : List Outstanding) (outcome : Outcome) (event : Event E F)
    (events : List (Event E F)) → recorded event ≡ [] →
    Waits (waiting ++ awaits_within events) outcome →
    Waits (waiting ++ awaits_within (event ∷ events)) outcome
waits_more waiting outcome event events unlent h =
    subst (λ l. Waits (waiting ++ (awaits_from 0 l events ++ awaits_within events)) outcome)
    (sym unlent) h

waits_end : (waiting : List Outstanding) (outcome other : Outcome) → Waits waiting outcome →
    Finish outcome ≡ Finish other → Waits (waiting ++ []) other
waits_end waiting outcome other h is =
    let same : outcome ≡ other = cc in
    subst (λ l. Waits l other) (sym (append-nil waiting)) (subst (Waits waiting) same h)

-- ---- the exchange of keys

-- an exchange takes nothing from what waits
pub moved_keeps : (asked : Exchanging) (answer : Answer (exchange_question asked)) (w : World) →
    (moved asked answer w).globals.outstanding ≡ w.globals.outstanding
moved_keeps asked answer w =
    moved_so (λ v. v.globals.outstanding ≡ w.globals.outstanding) asked answer w (λ keys. refl)
    (λ keys. refl)

-- .. and records no commands
step_unlent : (E F : Type 0) (asked : Exchanging) (answer : Answer (exchange_question asked)) →
    recorded (answered {E = E} {F = F} (exchange_question asked) answer) ≡ []
step_unlent E F Beginning answer = refl
step_unlent E F (Stepping payload) answer = refl

-- frames before it
sent_waits : {E F : Type 0} (waiting : List Outstanding) (frames : List Frame)
    (next : Plan Outcome) (events : List (Event E F)) (outcome : Outcome) →
    Follows (tell_all (map Sent frames) next) events outcome →
    ((rest : List (Event E F)) → Follows next rest outcome →
    Waits (waiting ++ awaits_within rest) outcome) →
    Waits (waiting ++ awaits_within events) outcome
sent_waits waiting [] next events outcome f k = k events f
sent_waits waiting (frame ∷ frames) next [] outcome f k = absurd (cc)
sent_waits waiting (frame ∷ frames) next (event ∷ events) outcome f k =
    waits_more waiting outcome event events (ap recorded f.0)
    (sent_waits waiting frames next events outcome f.1 k)

pub calling_waits : {E F : Type 0} (now : List Act) (w : World) (events : List (Event E F))
    (outcome : Outcome) → AreCalling now → Follows (acts now w) events outcome →
    Waits (w.globals.outstanding ++ awaits_within events) outcome
calling_waits [] w [] outcome a f = waits_end w.globals.outstanding (Goes w) outcome refl f
calling_waits [] w (event ∷ events) outcome a f = absurd f
calling_waits (Notes notice ∷ later) w [] outcome a f = absurd (cc)
calling_waits (Notes notice ∷ later) w (event ∷ events) outcome a f =
    waits_more w.globals.outstanding outcome event events (ap recorded f.0)
    (calling_waits later w events outcome a.1 f.1)
calling_waits (Calls at lent ∷ later) w [] outcome a f = absurd (cc)
calling_waits {E} {F} (Calls at lent ∷ later) w (event ∷ events) outcome a f =
    called_waits at event f.0 w (acts later) events outcome
    (ap recorded f.1 ∙ ap recorded_so (lent_back E lent (Ok tt) f.0))
    (λ v rest g. apart_stays later v rest outcome a g) f.2
calling_waits (Judges_by at judged by ∷ later) w [] outcome a f = absurd (cc)
calling_waits {E} {F} (Judges_by at judged by ∷ later) w (event ∷ events) outcome a f =
    let answer = f.0 in
    called_waits at event answer.commands w (λ v. acts later (by answer.granted v)) events outcome
    (ap recorded f.1 ∙ ap recorded_so (judged_back E judged (Ok answer.granted) answer.commands))
    (λ v rest g. subst (λ l. Stays l outcome rest) (a.0 answer.granted v)
    (apart_stays later (by answer.granted v) rest outcome a.1 g)) f.2
calling_waits (Listens_by address port by ∷ later) w [] outcome a f = absurd (cc)
calling_waits (Listens_by address port by ∷ later) w (event ∷ events) outcome a f =
    let answer = f.0 in
    called_waits None event answer.commands w
    (λ v. acts later (by answer.granted answer.port v)) events outcome (ap recorded f.1)
    (λ v rest g. subst (λ l. Stays l outcome rest) (a.0 answer.granted answer.port v)
    (apart_stays later (by answer.granted answer.port v) rest outcome a.1 g)) f.2
calling_waits (Adjusts_by channel current by ∷ later) w [] outcome a f = absurd (cc)
calling_waits (Adjusts_by channel current by ∷ later) w (event ∷ events) outcome a f =
    waits_more w.globals.outstanding outcome event events (ap recorded f.1)
    (subst (λ l. Waits (l ++ awaits_within events) outcome) (a.0 f.0 w)
    (calling_waits later (by f.0 w) events outcome a.1 f.2))
calling_waits (Exchanges asked ∷ later) w [] outcome a f = absurd (cc)
calling_waits {E} {F} (Exchanges asked ∷ later) w (event ∷ events) outcome a f =
    let v = moved asked f.0 w in
    waits_more w.globals.outstanding outcome event events
    (ap recorded f.1 ∙ step_unlent E F asked f.0)
    (sent_waits w.globals.outstanding (frames_given (payloads_given asked f.0)) (acts later v)
    events outcome f.2
    (λ rest g. subst (λ l. Waits (l ++ awaits_within rest) outcome) (moved_keeps asked f.0 w)
    (calling_waits later v rest outcome a g)))
calling_waits (Turns by ∷ later) w events outcome a f =
    subst (λ l. Waits (l ++ awaits_within events) outcome) (a.0 w)
    (calling_waits later (by w) events outcome a.1 f)
calling_waits (Is_over ∷ later) w [] outcome a f =
    waits_end w.globals.outstanding (Ends w) outcome tt f
calling_waits (Is_over ∷ later) w (event ∷ events) outcome a f = absurd f
calling_waits (Stops why ∷ later) w [] outcome a f =
    waits_end w.globals.outstanding (Fails why) outcome tt f
calling_waits (Stops why ∷ later) w (event ∷ events) outcome a f = absurd f
