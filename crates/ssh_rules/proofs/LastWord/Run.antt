-- A DISCONNECT of this side is the last that happens in a run, by induction over its inputs (RFC
-- 4253 section 11.1).
use Rattle.std.proofs.Common.{◌≡◌, ◌⊎◌, ℕ, List, [], ◌∷◌, ◌++◌, map, Bool, true, false, cond}
use Rattle.std.proofs.Common.{Option, Some, None, Result, refl, sym, ◌∙◌, ap, subst, inl, inr}
use Rattle.std.specs.Prelude.{option_to_list}
use Rattle.ssh_link.specs.Frames.{Frame}
use Rattle.ssh_link.specs.declared.link.TraceEntry.{TraceEntry}
use Rattle.ssh_link.specs.declared.link.TraceEntry.TheVariants.{Sent}
use Rattle.ssh_auth.specs.declared.question.Question.{Question}
use Rattle.ssh_auth.specs.Plan.{Plan, Finish, Ask, Tell, Answer, Event, Told}
use Rattle.ssh_auth.specs.Plan.{Follows, after, asked_in}
use Rattle.ssh_auth.specs.Publickey.{Acceptance}
use Rattle.ssh_auth.proofs.Back.{asked_so, refused_so, answered_once}
use Rattle.ssh_channels.specs.Lines.{Lines, handed, hands_on}
use Rattle.ssh_rules.specs.declared.error.RunError.{RunError}
use Rattle.ssh_rules.specs.Account.{Closes}
use Rattle.ssh_rules.specs.Acts.{acts, tell_all, frames_given}
use Rattle.ssh_rules.specs.Exchanged.{unsent_through, unsent_once}
use Rattle.ssh_rules.specs.Outcome.{Outcome, Goes, Ends, Fails}
use Rattle.ssh_rules.specs.Parting.{is_disconnect, IsLastWord}
use Rattle.ssh_rules.specs.Run.{Turn, Run, Owes, IsTaken, finish_input, handed_on, going_out}
use Rattle.ssh_rules.specs.Run.{begins, is_due, asks_for_keys}
use Rattle.ssh_rules.specs.World.{Settings, World, is_held, opening_world}
use Rattle.ssh_rules.proofs.Authorised.Run.{AllWalk, run_walks, last_walks}
use Rattle.ssh_rules.proofs.Plans.Acting.{PlanComes, IsPassedOn, input_comes}
use Rattle.ssh_rules.proofs.Exchanged.Alone.{event_unsent, entry_unsent}
use Rattle.ssh_rules.proofs.Plans.Emptied.{comes_of, nothing_left}
use Rattle.ssh_rules.proofs.Ended.Run.{run_live}
use Rattle.ssh_rules.proofs.Authorised.Guards.{Walks}
use Rattle.ssh_rules.proofs.LastWord.Rows.{IsLastOnly, AreClosing, ComesClosing, IsOpen}
use Rattle.ssh_rules.proofs.LastWord.Rows.{closing_last, closing_silent, kind_closing}
use Rattle.ssh_rules.proofs.Plans.Settled.{Anything}
use Rattle.ssh_rules.proofs.Plans.Telling.{IsToldInTurn, Sends, given_at, unsent_told, acts_given}
use Rattle.ssh_rules.proofs.Plans.Telling.{kind_given}
use Rattle.ssh_rules.proofs.LastWord.Commands.{NoneDisconnect}

-- ---- plans

-- nothing is left of the plan, and the run is over
abbrev IsOver : Plan Outcome → Type 0
IsOver (Finish (Ends w)) = Unit {0}
IsOver _ = ⊥

-- where it is a DISCONNECT, and no frame of the exchange of keys is left, nothing follows it
abbrev IsWord : (unsent : List Frame) → TraceEntry → Plan Outcome → Type 0
IsWord unsent (Sent frame) next = is_disconnect frame ≡ true → unsent ≡ [] → IsOver next
IsWord unsent _ next = Unit {0}

-- whatever is answered, each DISCONNECT that is told is such
abbrev AreWords : (unsent : List Frame) → Plan Outcome → Type 0
AreWords unsent (Finish outcome) = Unit {0}
AreWords unsent (Ask question next) = (unsent ≡ []) × ((answer : Answer question)
    → AreWords (frames_given (given_at question answer)) (next answer))
AreWords unsent (Tell entry next) = IsWord unsent entry next
    × AreWords (unsent_told unsent entry) next

-- a frame of the exchange is told while it is left
given_word : (unsent : List Frame) (entry : TraceEntry) (next : Plan Outcome)
    → IsToldInTurn true unsent entry → IsWord unsent entry next
given_word (first ∷ later) (Sent frame) next h = λ is none. absurd (cc)
given_word [] (Sent frame) next h = absurd (let no : true ≡ false = h in cc)
given_word unsent entry next h = tt

given_words : (unsent : List Frame) (plan : Plan Outcome) → Sends unsent plan
    → AreWords unsent plan
given_words unsent (Finish outcome) h = tt
given_words unsent (Ask question next) h = (
  h.0,
  λ answer. given_words (frames_given (given_at question answer)) (next answer) (h.1 answer),
)
given_words unsent (Tell entry next) h =
    (given_word unsent entry next h.0, given_words (unsent_told unsent entry) next h.1)

no_word : (frame : Frame) (next : Plan Outcome) → is_disconnect frame ≡ false
    → IsWord [] (Sent frame) next
no_word frame next other = λ is none. absurd (let no : false ≡ true = sym other ∙ is in cc)

-- frames of which none is one, and then this
none_words : (frames : List Frame) (next : Plan Outcome) → NoneDisconnect frames
    → AreWords [] next → AreWords [] (tell_all (map Sent frames) next)
none_words [] next h k = k
none_words (frame ∷ frames) next h k =
    (no_word frame (tell_all (map Sent frames) next) h.0, none_words frames next h.1 k)

-- frames of which the last may be one, and then nothing
last_words : (frames : List Frame) (w : World) → IsLastOnly frames
    → AreWords [] (tell_all (map Sent frames) (Finish (Ends w)))
last_words [] w h = tt
last_words (frame ∷ []) w h = (λ is none. tt, tt)
last_words (frame ∷ next ∷ frames) w h = (
  no_word frame (tell_all (map Sent (next ∷ frames)) (Finish (Ends w))) h.0,
  last_words (next ∷ frames) w h.1,
)

handed_last : (is_rekeying : Bool) (l : Lines) → IsLastOnly l.written
    → IsLastOnly (handed is_rekeying l)
handed_last true l h = tt
handed_last false l h = h

handed_none : (is_rekeying : Bool) (l : Lines) → NoneDisconnect l.written
    → NoneDisconnect (handed is_rekeying l)
handed_none true l h = tt
handed_none false l h = h

-- ---- the end of an input

over_words : (w : World) → IsLastOnly w.channels.lines.written
    → AreWords [] (tell_all (map Sent (going_out w)) (Finish (Ends (handed_on w))))
over_words w h =
    last_words (going_out w) (handed_on w) (handed_last (is_held w) w.channels.lines h)

goes_words : (ended due : Bool) (w : World) → AreClosing ended w.channels.lines.written
    → AreWords [] (tell_all (map Sent (going_out w))
    (cond ended (Finish (Ends (handed_on w))) (acts (begins due) (handed_on w))))
goes_words true due w h = over_words w h
goes_words false due w h =
    let plan = acts (begins due) (handed_on w) in
    none_words (going_out w) plan (handed_none (is_held w) w.channels.lines h)
    (given_words [] plan (acts_given (begins due) (handed_on w)))

finish_words : (ticked : Bool) (outcome : Outcome) → ComesClosing outcome
    → AreWords [] (finish_input ticked outcome)
finish_words ticked (Goes w) h = goes_words w.disconnected (is_due ticked (handed_on w)) w h
finish_words ticked (Ends w) h = over_words w h
finish_words ticked (Fails why) h = tt

input_words : (unsent : List Frame) (ticked : Bool) (plan : Plan Outcome) → Sends unsent plan
    → PlanComes Anything ComesClosing plan → AreWords unsent (after plan (finish_input ticked))
input_words unsent ticked (Finish outcome) s h =
    subst (λ l. AreWords l (finish_input ticked outcome)) (sym s) (finish_words ticked outcome h)
input_words unsent ticked (Ask question next) s h = (
  s.0,
  λ answer. input_words (frames_given (given_at question answer)) ticked (next answer)
      (s.1 answer) (h answer tt),
)
input_words unsent ticked (Tell entry next) s h = (
  given_word unsent entry (after next (finish_input ticked)) s.0,
  input_words (unsent_told unsent entry) ticked next s.1 h,
)

-- the world that an input leads to
passed_closing : (ended is_rekeying : Bool) (l : Lines) → AreClosing ended l.written
    → AreClosing ended (hands_on is_rekeying l).written
passed_closing ended true l h = h
passed_closing true false l h = tt
passed_closing false false l h = tt

passed_last : (is_rekeying : Bool) (l : Lines) → IsLastOnly l.written
    → IsLastOnly (hands_on is_rekeying l).written
passed_last true l h = h
passed_last false l h = tt

passed_on : IsPassedOn ComesClosing
passed_on w = (
  λ h. (
    passed_closing w.disconnected (is_held w) w.channels.lines h,
    passed_last (is_held w) w.channels.lines
        (closing_last w.disconnected w.channels.lines.written h),
  ),
  λ h. passed_last (is_held w) w.channels.lines h,
  λ keys h. h,
)

-- ---- events

-- nothing follows, and the run does not go on
abbrev IsEnd : {E F : Type 0} → Plan Outcome → (events more : List (Event E F)) → Type 0
IsEnd plan events more = (more ≡ []) × ((mid : World) → Follows plan events (Goes mid) → ⊥)

over_end : {E F : Type 0} (next : Plan Outcome) (more : List (Event E F)) → IsOver next
    → Walks next more → IsEnd next more more
over_end (Finish (Ends w)) [] over walks = (refl, λ mid f. absurd (cc))
over_end (Finish (Ends w)) (event ∷ more) over walks = absurd walks
over_end (Finish (Goes w)) more over walks = absurd over
over_end (Finish (Fails why)) more over walks = absurd over
over_end (Ask question next) more over walks = absurd over
over_end (Tell entry next) more over walks = absurd over

-- what is asked is no frame
not_asked : (E F : Type 0) (entry : TraceEntry) (question : Question)
    → asked_in {E = E} {F = F} (Told entry) ≡ Some question → ⊥
not_asked E F entry question is = let no : None ≡ Some question = is in cc

-- the frame itself
word_here : {E F : Type 0} (unsent : List Frame) (plan : Plan Outcome) (frame : Frame)
    (more : List (Event E F)) → AreWords unsent plan → Walks plan (Told (Sent frame) ∷ more)
    → is_disconnect frame ≡ true → unsent ≡ [] → IsEnd plan (Told (Sent frame) ∷ more) more
word_here unsent (Finish outcome) frame more h walks is none = absurd walks
word_here {E} {F} unsent (Ask question next) frame more h (inl walks) is none =
    absurd (not_asked E F (Sent frame) question
    (asked_so question walks.0 (Told (Sent frame)) walks.1))
word_here {E} {F} unsent (Ask question next) frame more h (inr walks) is none =
    absurd (not_asked E F (Sent frame) question
    (refused_so question walks.0 (Told (Sent frame)) walks.1))
word_here unsent (Tell entry next) frame more h walks is none =
    let same : entry ≡ Sent frame = let e = walks.0 in cc in
    let word : IsWord unsent (Sent frame) next =
    subst (λ e. IsWord unsent e next) same h.0 in
    let end = over_end next more (word is none) walks.1 in
    (end.0, λ mid f. end.1 mid f.1)

-- behind these events
word_at : {E F : Type 0} (unsent : List Frame) (plan : Plan Outcome)
    (past more : List (Event E F)) (frame : Frame) → AreWords unsent plan
    → Walks plan (past ++ Told (Sent frame) ∷ more) → is_disconnect frame ≡ true
    → unsent_through unsent past ≡ [] → IsEnd plan (past ++ Told (Sent frame) ∷ more) more
word_at unsent plan [] more frame h walks is none =
    word_here unsent plan frame more h walks is none
word_at unsent (Finish outcome) (event ∷ past) more frame h walks is none = absurd walks
word_at {E} {F} unsent (Ask question next) (event ∷ past) more frame h (inl walks) is none =
    let answer = walks.0 in
    let rest = past ++ Told (Sent frame) ∷ more in
    let end = word_at (frames_given (given_at question answer)) (next answer) past more frame
    (h.1 answer) walks.2 is (subst (λ l. unsent_through l past ≡ [])
    (event_unsent question answer event unsent walks.1 h.0) none) in (
      end.0,
      λ mid f. end.1 mid (subst (λ a. Follows {E = E} {F = F} (next a) rest (Goes mid))
          (answered_once question f.0 answer event f.1 walks.1) f.2),
    )
word_at unsent (Ask question next) (event ∷ past) more frame h (inr walks) is none =
    absurd (nothing_left past (Told (Sent frame)) more walks.2)
word_at unsent (Tell entry next) (event ∷ past) more frame h walks is none =
    let end = word_at (unsent_told unsent entry) next past more frame h.1 walks.1 is
    (subst (λ l. unsent_through l past ≡ []) (entry_unsent entry event unsent walks.0) none) in
    (end.0, λ mid f. end.1 mid f.1)

-- ---- inputs

-- each DISCONNECT of an input
turn_words : {E F : Type 0} (accepts : Acceptance) (w : World) (turn : Turn E F)
    (plan : Plan Outcome) → Owes accepts w turn.input plan → IsOpen w → AreWords [] plan
turn_words accepts w turn plan owes o =
    let kind = turn.input.kind in
    rw owes.2 (input_words [] (asks_for_keys kind) owes.0
    (kind_given accepts w turn.input.moment kind owes.0 owes.1)
    (kind_closing accepts w turn.input.moment kind owes.0 owes.1 o))

-- a world from which the run goes on
turn_open : {E F : Type 0} (accepts : Acceptance) (w : World) (turn : Turn E F)
    (plan : Plan Outcome) (mid : World) → Owes accepts w turn.input plan
    → Follows plan turn.events (Goes mid) → IsTaken w turn → IsOpen w → IsOpen mid
turn_open accepts w turn plan mid owes f taken o =
    let kind = turn.input.kind in
    let live = run_live accepts w (turn ∷ []) mid (mid, (plan, owes, f, taken), refl) o.0 in (
      live,
      closing_silent mid live (comes_of ComesClosing plan turn.events (Goes mid)
          (rw owes.2 (input_comes Anything ComesClosing (asks_for_keys kind) owes.0 passed_on
          (kind_closing accepts w turn.input.moment kind owes.0 owes.1 o))) f),
    )

-- behind the last input none follows, and behind another one the run goes on
abbrev Follow : {E F : Type 0} → Acceptance → Plan Outcome → Turn E F → List (Turn E F) → Type 0
Follow accepts plan turn turns = (turns ≡ [])
    ⊎ ((mid : World) × Follows plan turn.events (Goes mid) × AllWalk accepts mid turns)

turn_last : {E F : Type 0} (accepts : Acceptance) (plan : Plan Outcome) (turn : Turn E F)
    (turns : List (Turn E F)) (past more : List (Event E F)) (frame : Frame)
    → AreWords [] plan → Walks plan turn.events → Follow accepts plan turn turns
    → turn.events ≡ past ++ Told (Sent frame) ∷ more → is_disconnect frame ≡ true
    → unsent_once past ≡ [] → (more ≡ []) × (turns ≡ [])
turn_last {E} {F} accepts plan turn turns past more frame words walks follow splits is none =
    let end = word_at [] plan past more frame words
    (subst (λ l. Walks {E = E} {F = F} plan l) splits walks) is none in
    elim follow [
      | inl last ↦ (end.0, last)
      | inr next ↦ absurd (end.1 next.0
          (subst (λ l. Follows {E = E} {F = F} plan l (Goes next.0)) splits next.1))
    ]

all_last : {E F : Type 0} (accepts : Acceptance) (w : World) (turns : List (Turn E F))
    → AllWalk accepts w turns → IsOpen w → IsLastWord turns
all_last accepts w [] all o before later turn past more frame is splits word none =
    absurd (nothing_left before turn later (sym is))
all_last accepts w (t ∷ turns) (plan, owes, walks, next, taken) o [] later turn past more frame is
    splits word none =
    let same : t ≡ turn = cc in
    let rest : turns ≡ later = cc in
    subst (λ l. (more ≡ []) × (l ≡ [])) rest
    (turn_last accepts plan t turns past more frame (turn_words accepts w t plan owes o) walks next
    (ap (λ u. u.events) same ∙ splits) word none)
all_last accepts w (t ∷ turns) (plan, owes, walks, inl last, taken) o (p ∷ before) later turn past
    more frame is splits word none =
    let rest : turns ≡ before ++ turn ∷ later = cc in
    absurd (nothing_left before turn later (sym rest ∙ last))
all_last accepts w (t ∷ turns) (plan, owes, walks, inr next, taken) o (p ∷ before) later turn past
    more frame is splits word none =
    let rest : turns ≡ before ++ turn ∷ later = cc in
    all_last accepts next.0 turns next.2
    (turn_open accepts w t plan next.0 owes next.1 taken o) before later turn past more frame rest
    splits word none

-- ---- the run

pub last_word : {E F : Type 0} (accepts : Acceptance) (settings : Settings)
    (turns : List (Turn E F)) (world : World) (count max : ℕ) (last : Option (Turn E F))
    (rose : Type 0) (result : Result (Unit {0}) (RunError E F)) →
    Run accepts (opening_world settings) turns world →
    Closes accepts world count max last rose result →
    IsLastWord (turns ++ option_to_list last)
last_word accepts settings turns world count max last rose result run closes =
    all_last accepts (opening_world settings) (turns ++ option_to_list last)
    (run_walks accepts (opening_world settings) turns world (option_to_list last) run
    (last_walks accepts world count max last rose result closes)) (refl, tt)
