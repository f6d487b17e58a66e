-- A scene has one gateway: its turns, and what is written of them.
use Rattle.std.proofs.Common.{◌≡◌, ◌+◌, ◌<◌, ◌≤◌, ℕ, arith, List, [], ◌∷◌, ◌++◌, length, map, Bool}
use Rattle.std.proofs.Common.{false, Option, Some, None, Result, Ok, Err, refl, sym, ◌∙◌, ap, subst}
use Rattle.std.proofs.Common.{append_assoc, append-nil}
use Rattle.std.specs.Prelude.{flat_map, option_to_list}
use Rattle.ssh_link.specs.Supply.{Supply}
use Rattle.ssh_link.specs.declared.link.TraceEntry.{TraceEntry}
use Rattle.ssh_link.specs.declared.plain_kex.PlainKexError.{PlainKexError}
use Rattle.ssh_auth.specs.declared.question.Question.{Question}
use Rattle.ssh_auth.specs.declared.question.Question.TheVariants as ask
use Rattle.ssh_auth.specs.Calls.{lent_call, judged_call}
use Rattle.ssh_auth.specs.Plan.{Plan, Finish, OutsideError, calls_in, steps_in, told_in}
use Rattle.ssh_auth.specs.Publickey.{Acceptance}
use Rattle.ssh_auth.specs.Was.{question_of, asked_of}
use Rattle.ssh_auth.proofs.Back.{lent_back, judged_back}
use Rattle.ssh_auth.proofs.Plans.{calls_in_both, steps_in_both}
use Rattle.ssh_handler.specs.OwnCalls.{own_calls}
use Rattle.ssh_handler.specs.declared.recorded.RecordError.{RecordError}
use Rattle.ssh_rules.specs.Cause.{IsCaused, cause_of}
use Rattle.ssh_rules.specs.Outcome.{Outcome, Goes, Ends}
use Rattle.ssh_rules.specs.Run.{calls_of, steps_of}
use Rattle.ssh_rules.specs.World.{World, opening_world}
use Rattle.ssh_rules.specs.declared.error.RunError.{RunError}
use Rattle.ssh_rules.specs.declared.error.RunError.TheVariants as run
use Rattle.ssh_rules.proofs.Determined.Runs.{Ended, came, gone_not_last, last_once, turn_once}
use Rattle.ssh_gateway.specs.declared.error.GatewayError.TheVariants as error
use Rattle.ssh_gateway.specs.declared.targets.TargetCall.{TargetCall}
use Rattle.ssh_gateway.specs.Admitting.{admission, admissions}
use Rattle.ssh_gateway.specs.Answering.{answered, records}
use Rattle.ssh_gateway.specs.Board.{Board, opening_board, noted, all_noted, due_on, all_due}
use Rattle.ssh_gateway.specs.Choosing.{Permits, closed_by, settled, own_kind, took}
use Rattle.ssh_gateway.specs.Choosing.{IsGiven as IsOwn}
use Rattle.ssh_gateway.specs.Raised.{lowered}
use Rattle.ssh_gateway.specs.Turns.{Rounds, Begins, board_after, board_within}
use Rattle.ssh_gateway.specs.Turns.{due_after, link_entries, target_calls}
use Rattle.ssh_players.specs.Given.{IsGiven}
use Rattle.ssh_players.specs.Given.{left_after as supply_after}
use Rattle.ssh_players.specs.Exchanged.{IsExchanged}
use Rattle.ssh_players.specs.Exchanged.{left_after as both_after}
use Rattle.ssh_players.specs.Played.{Failure, IsAnswered}
use Rattle.ssh_players.proofs.Keeping.{given_later}
use Rattle.ssh_scene.specs.Queues.{Queues}
use Rattle.ssh_scene_gateway.specs.Forwarding.{ScriptRound, Ending, status_of, Closes}
use Rattle.ssh_scene_gateway.specs.Forwarding.{IsForwarded, gateway_accepts, gateway_permits}
use Rattle.ssh_scene_gateway.specs.Forwarding.{gateway_settings, gateway_supply}
use Rattle.ssh_scene_gateway.specs.GatewayScene.{GatewayScene}
use Rattle.ssh_scene_gateway.specs.Reaching.{Stock, untouched, as_given, left_after}
use Rattle.ssh_scene_gateway.specs.Telling.{told_text}
use Rattle.ssh_scene_gateway.proofs.Alike.{KeeperCall, KeeperEvent, OwnRuled, AreLifted, IsPlayed}
use Rattle.ssh_scene_gateway.proofs.Alike.{queues_after, played_later, answered_alike, ruled_by}
use Rattle.ssh_scene_gateway.proofs.Alike.{reaches_lifted, caused_lifted, lifted_both, ruled_both}
use Rattle.ssh_scene_gateway.proofs.Alike.{admissions_both, raised}
use Rattle.ssh_scene_gateway.proofs.ChosenOnce.{chosen_once, input_once, first_given, later_given}

-- ---- what was asked changes the board by its calls alone

-- what was asked in the calls by which these questions are answered
abbrev own_asked : List Question → List Question
own_asked asked = map asked_of (flat_map (answered {E = RecordError Failure}) asked)

noted_as : (one question : Question) (more : List Question) (board : Board) → one ≡ question
    → all_noted (one ∷ more) board ≡ all_noted (question ∷ more) board
noted_as one question more board e = ap (λ q. all_noted (q ∷ more) board) e

noted_by : (asked : List Question) (board : Board)
    → all_noted asked board ≡ all_noted (own_asked asked) board
noted_by [] board = refl
noted_by (ask.Banner ∷ asked) board = noted_by asked board
noted_by (ask.Admits admission ∷ asked) board = noted_by asked board
noted_by (ask.Lends lent ∷ asked) board = noted_by asked (noted (ask.Lends lent) board)
    ∙ noted_as (ask.Lends lent)
    (asked_of (lent_call {E = RecordError Failure} lent (Ok tt) (records lent)))
    (own_asked asked) board
    (sym (ap question_of (lent_back (RecordError Failure) lent (Ok tt) (records lent))))
noted_by (ask.Judges judged ∷ asked) board = noted_by asked board
    ∙ noted_as (ask.Judges judged)
    (asked_of (judged_call {E = RecordError Failure} judged (Ok false) []))
    (own_asked asked) board
    (sym (ap question_of (judged_back (RecordError Failure) judged (Ok false) [])))
noted_by (ask.Listens address port ∷ asked) board = noted_by asked board
noted_by (ask.Adjusts channel current ∷ asked) board = noted_by asked board
noted_by (ask.Done place outcome ∷ asked) board = noted_by asked board
noted_by (ask.Begins ∷ asked) board = noted_by asked board
noted_by (ask.Steps payload ∷ asked) board = noted_by asked board

due_as : (one question : Question) (more : List Question) (board : Board) → one ≡ question
    → all_due (one ∷ more) board ≡ all_due (question ∷ more) board
due_as one question more board e = ap (λ q. all_due (q ∷ more) board) e

due_by : (asked : List Question) (board : Board)
    → all_due asked board ≡ all_due (own_asked asked) board
due_by [] board = refl
due_by (ask.Banner ∷ asked) board = due_by asked board
due_by (ask.Admits admission ∷ asked) board = due_by asked board
due_by (ask.Lends lent ∷ asked) board =
    ap (λ l. due_on (ask.Lends lent) board.connections ++ l)
    (due_by asked (noted (ask.Lends lent) board))
    ∙ due_as (ask.Lends lent)
    (asked_of (lent_call {E = RecordError Failure} lent (Ok tt) (records lent)))
    (own_asked asked) board
    (sym (ap question_of (lent_back (RecordError Failure) lent (Ok tt) (records lent))))
due_by (ask.Judges judged ∷ asked) board = due_by asked board
    ∙ due_as (ask.Judges judged)
    (asked_of (judged_call {E = RecordError Failure} judged (Ok false) []))
    (own_asked asked) board
    (sym (ap question_of (judged_back (RecordError Failure) judged (Ok false) [])))
due_by (ask.Listens address port ∷ asked) board = due_by asked board
due_by (ask.Adjusts channel current ∷ asked) board = due_by asked board
due_by (ask.Done place outcome ∷ asked) board = due_by asked board
due_by (ask.Begins ∷ asked) board = due_by asked board
due_by (ask.Steps payload ∷ asked) board = due_by asked board

same_noted : (xs ys : List Question) (calls : List KeeperCall) (board : Board)
    → calls ≡ flat_map answered xs → calls ≡ flat_map answered ys
    → all_noted xs board ≡ all_noted ys board
same_noted xs ys calls board e f = noted_by xs board
    ∙ (ap (λ l. all_noted (map asked_of l) board) (sym e ∙ f) ∙ sym (noted_by ys board))

same_due : (xs ys : List Question) (calls : List KeeperCall) (board : Board)
    → calls ≡ flat_map answered xs → calls ≡ flat_map answered ys
    → all_due xs board ≡ all_due ys board
same_due xs ys calls board e f = due_by xs board
    ∙ (ap (λ l. all_due (map asked_of l) board) (sym e ∙ f) ∙ sym (due_by ys board))

-- ---- what the turns to come are made of

abbrev events_of : ScriptRound → List KeeperEvent
events_of round = round.turn.events

-- how a turn ended a gateway, as its session does
abbrev TurnEnd : Type 0
TurnEnd = Result (Unit {0}) (RunError (RecordError Failure) PlainKexError)

abbrev lower : TurnEnd → Ending
lower (Ok done) = Ok done
lower (Err why) = Err (lowered why)

-- what its targets were told behind it
abbrev told_behind : ScriptRound → Board → TurnEnd → List TargetCall
told_behind round board (Ok done) = due_after round board
told_behind round board (Err why) = []

-- the last turn, or none at the limit
record IsLast (scene : GatewayScene) (board : Board) (w : World) (round : ScriptRound)
    (result : Ending) : Type 0 where
  begins : Begins (gateway_permits scene) board w round
  answer : TurnEnd
  ended : Ended (gateway_accepts scene) w round.turn answer
  is : result ≡ lower answer
  own : own_calls (calls_of round.turn) ≡ flat_map answered round.asked
  behind : round.after ≡ told_behind round board answer

abbrev Finally : GatewayScene → Board → World → (count : ℕ) → Option ScriptRound → Ending → Type 0
Finally scene board w count None result =
    (count ≡ scene.session.max_inputs) × (result ≡ Err error.TurnLimit)
Finally scene board w count (Some round) result =
    (count < scene.session.max_inputs) × IsLast scene board w round result

abbrev stops_by : RunError (RecordError Failure) PlainKexError → TurnEnd
stops_by why = Err why

not_wanting : (why : RunError (RecordError Failure) PlainKexError)
    (e : RunError Failure PlainKexError) → error.Run e ≡ lowered why
    → stops_by why ≡ stops_by run.NoMemory → ⊥
not_wanting why e is same =
    let one : why ≡ run.NoMemory = cc in
    let z : raised e ≡ error.NoMemory = is ∙ ap lowered one in cc

not_failed : (why : RunError (RecordError Failure) PlainKexError) (plan : Plan Outcome)
    (events : List KeeperEvent) → IsCaused (cause_of why) plan ⊥ events
    → stops_by why ≡ stops_by run.LinkFault → ⊥
not_failed why plan events c same =
    let one : why ≡ run.LinkFault = cc in
    (subst (λ e. IsCaused (cause_of e) plan ⊥ events) one c).0

finally_so : (scene : GatewayScene) (board : Board) (w : World) (count : ℕ)
    (last : Option ScriptRound) (result : Ending)
    → Closes (gateway_accepts scene) (gateway_permits scene) board w count
    scene.session.max_inputs last result → Finally scene board w count last result
finally_so scene board w count (Some round) (Ok done) c =
    let is = c.1.1 in (
      c.0,
      record {
        begins = is.begins;
        answer = Ok done;
        ended = (
          is.comes.plan,
          is.comes.owes,
          (Ok (Ends c.1.0), is.comes.follows, refl),
          is.begins.taken,
        );
        is = refl;
        own = is.comes.answered;
        behind = is.told;
      },
    )
finally_so scene board w count (Some round) (Err (error.Run e)) c =
    let none = c.1 in (
      c.0,
      record {
        begins = none.begins;
        answer = Err none.why;
        ended = (
          none.plan,
          none.owes,
          came none.plan round.turn.events ⊥ (Err none.why) none.caused
              (not_wanting none.why e none.is, not_failed none.why none.plan round.turn.events none.caused),
          none.begins.taken,
        );
        is = ap Err none.is;
        own = none.answered;
        behind = none.nothing;
      },
    )
finally_so scene board w count None (Err error.TurnLimit) c = (c, refl)
finally_so scene board w count (Some round) (Err error.NoMemory) c = absurd c
finally_so scene board w count (Some round) (Err error.TargetFault) c = absurd c
finally_so scene board w count (Some round) (Err error.TurnLimit) c = absurd c
finally_so scene board w count None (Ok done) c = absurd c
finally_so scene board w count None (Err error.NoMemory) c = absurd c
finally_so scene board w count None (Err error.TargetFault) c = absurd c
finally_so scene board w count None (Err (error.Run e)) c = absurd c

-- the rest of a gateway, from this board and world on, after so many turns, where the link has this
-- left, the targets that, and the script these answers
record Rest (scene : GatewayScene) (board : Board) (w : World) (stock : Stock) (supply : Supply)
    (queues : Queues) (both : Bool) (count : ℕ) (rounds : List ScriptRound)
    (last : Option ScriptRound) (result : Ending) : Type 0 where
  board_then : Board
  world : World
  run : Rounds (gateway_accepts scene) (gateway_permits scene) board w rounds board_then world
  ends : Finally scene board_then world (count + length rounds) last result
  played : IsPlayed queues both (flat_map events_of (rounds ++ option_to_list last))
  given : IsGiven supply (flat_map link_entries (rounds ++ option_to_list last))
  reached : as_given stock (flat_map target_calls (rounds ++ option_to_list last))
      ≡ flat_map target_calls (rounds ++ option_to_list last)

-- both are written alike
abbrev IsSame : (xs ys : List ScriptRound) → (a b : Ending) → Type 0
IsSame xs ys a b = (flat_map link_entries xs ≡ flat_map link_entries ys)
    × (flat_map target_calls xs ≡ flat_map target_calls ys) × (a ≡ b)

-- ---- two turns from one place

record SameBegin (t u : ScriptRound) : Type 0 where
  source : t.source ≡ u.source
  before : t.before ≡ u.before
  input : t.turn.input ≡ u.turn.input

begins_once : (permits : Permits) (board : Board) (w : World) (stock : Stock) (supply : Supply)
    (t u : ScriptRound) (ts us : List TargetCall) (xs ys : List TraceEntry)
    → Begins permits board w t → Begins permits board w u
    → as_given stock (target_calls t ++ ts) ≡ target_calls t ++ ts
    → as_given stock (target_calls u ++ us) ≡ target_calls u ++ us
    → IsGiven supply (link_entries t ++ xs) → IsGiven supply (link_entries u ++ ys)
    → SameBegin t u
begins_once permits board w stock supply t u ts us xs ys h k e f g i =
    let first = first_given stock t.before (t.after ++ ts)
    (subst (λ l. as_given stock l ≡ l) (append_assoc t.before t.after ts) e) in
    let other = first_given stock u.before (u.after ++ us)
    (subst (λ l. as_given stock l ≡ l) (append_assoc u.before u.after us) f) in
    let one = chosen_once permits w board stock t.source u.source t.before u.before h.chosen k.chosen
    first other in
    let told = append_assoc (took t.source t.turn.input) (told_in t.turn.events) xs in
    let also = append_assoc (took u.source u.turn.input) (told_in u.turn.events) ys in
    record {
      source = one.0;
      before = one.1;
      input = input_once t.source (board.last_ticket + 1) board.moment supply t.turn.input
          u.turn.input (told_in t.turn.events ++ xs) (told_in u.turn.events ++ ys) h.given
          (subst (λ s. IsOwn (own_kind (board.last_ticket + 1) s) board.moment u.turn.input)
          (sym one.0) k.given)
          (subst (IsGiven supply) told g)
          (subst (λ s. IsGiven supply (took s u.turn.input ++ (told_in u.turn.events ++ ys)))
          (sym one.0) (subst (IsGiven supply) also i));
    }

abbrev first_begins : (scene : GatewayScene) (board : Board) (w : World) (stock : Stock)
    (supply : Supply) (t u : ScriptRound) (ts us : List ScriptRound)
    → Begins (gateway_permits scene) board w t → Begins (gateway_permits scene) board w u
    → as_given stock (flat_map target_calls (t ∷ ts)) ≡ flat_map target_calls (t ∷ ts)
    → as_given stock (flat_map target_calls (u ∷ us)) ≡ flat_map target_calls (u ∷ us)
    → IsGiven supply (flat_map link_entries (t ∷ ts))
    → IsGiven supply (flat_map link_entries (u ∷ us)) → SameBegin t u
first_begins scene board w stock supply t u ts us h k e f g i =
    begins_once (gateway_permits scene) board w stock supply t u (flat_map target_calls ts)
    (flat_map target_calls us) (flat_map link_entries ts) (flat_map link_entries us) h k e f g i

same_within : (board : Board) (t u : ScriptRound) → SameBegin t u
    → board_within t board ≡ board_within u board
same_within board t u b =
    ap (λ s. record (settled s board) { moment = t.turn.input.moment }) b.source
    ∙ ap (λ m. record (settled u.source board) { moment = m }) (ap (λ i. i.moment) b.input)

-- the same turn from the same place leaves the same board, and tells the targets the same
module _ (board : Board) (t u : ScriptRound) (b : SameBegin t u) (turn : t.turn ≡ u.turn)
    (h : own_calls (calls_of t.turn) ≡ flat_map answered t.asked)
    (k : own_calls (calls_of u.turn) ≡ flat_map answered u.asked) where
  also : own_calls (calls_of t.turn) ≡ flat_map answered u.asked
  also = ap (λ one. own_calls (calls_of one)) turn ∙ k

  same_board : board_after t board ≡ board_after u board
  same_board = same_noted t.asked u.asked (own_calls (calls_of t.turn)) (board_within t board) h also
      ∙ ap (all_noted u.asked) (same_within board t u b)

  same_due_after : due_after t board ≡ due_after u board
  same_due_after = ap (λ l. closed_by t.source ++ l) (same_due t.asked u.asked
      (own_calls (calls_of t.turn)) (board_within t board) h also
      ∙ ap (all_due u.asked) (same_within board t u b))
      ∙ ap (λ s. closed_by s ++ all_due u.asked (board_within u board)) b.source

same_entries : (t u : ScriptRound) → SameBegin t u → t.turn ≡ u.turn
    → link_entries t ≡ link_entries u
same_entries t u b turn =
    ap (λ s. took s t.turn.input ++ told_in t.turn.events) b.source
    ∙ ap (λ one. took u.source one.input ++ told_in one.events) turn

same_calls : (t u : ScriptRound) → SameBegin t u → t.after ≡ u.after
    → target_calls t ≡ target_calls u
same_calls t u b after =
    ap (λ l. l ++ t.after) b.before ∙ ap (λ l. u.before ++ l) after

-- ---- one turn, and then the rest

rest_next : (scene : GatewayScene) (board : Board) (w : World) (stock : Stock) (supply : Supply)
    (queues : Queues) (both : Bool) (count : ℕ) (t : ScriptRound) (ts : List ScriptRound)
    (last : Option ScriptRound) (result : Ending)
    (h : Rest scene board w stock supply queues both count (t ∷ ts) last result)
    → Rest scene (board_after t board) h.run.0 (left_after stock (target_calls t))
    (supply_after supply (link_entries t)) (queues_after queues (admissions t.turn.events))
    (both_after both (steps_in t.turn.events)) (count + 1) ts last result
rest_next scene board w stock supply queues both count t ts last result h =
    let e : count + length (t ∷ ts) ≡ (count + 1) + length ts = omega arith in
    let more = ts ++ option_to_list last in
    record {
      board_then = h.board_then;
      world = h.world;
      run = h.run.2;
      ends = subst (λ n. Finally scene h.board_then h.world n last result) e h.ends;
      played = played_later queues both t.turn.events (flat_map events_of more) h.played;
      given = given_later supply (link_entries t) (flat_map link_entries more) h.given;
      reached = later_given stock (target_calls t) (flat_map target_calls more) h.reached;
    }

rest_moved : (scene : GatewayScene) (a b : Board) (w v : World) (count : ℕ) (stock : Stock)
    (supply : Supply) (queues : Queues) (both : Bool) (t u : ScriptRound)
    (us : List ScriptRound) (last : Option ScriptRound) (result : Ending) → a ≡ b → w ≡ v
    → target_calls t ≡ target_calls u → link_entries t ≡ link_entries u → t.turn ≡ u.turn
    → Rest scene b v (left_after stock (target_calls u)) (supply_after supply (link_entries u))
    (queues_after queues (admissions u.turn.events)) (both_after both (steps_in u.turn.events))
    count us last result
    → Rest scene a w (left_after stock (target_calls t)) (supply_after supply (link_entries t))
    (queues_after queues (admissions t.turn.events)) (both_after both (steps_in t.turn.events))
    count us last result
rest_moved scene a b w v count stock supply queues both t u us last result e f g i j h = record {
  board_then = h.board_then;
  world = h.world;
  run = subst (λ one. Rounds (gateway_accepts scene) (gateway_permits scene) one w us h.board_then
      h.world) (sym e)
      (subst (λ one. Rounds (gateway_accepts scene) (gateway_permits scene) b one us h.board_then
      h.world) (sym f) h.run);
  ends = h.ends;
  played = subst (λ one. IsPlayed (queues_after queues (admissions one.events))
      (both_after both (steps_in one.events)) (flat_map events_of (us ++ option_to_list last)))
      (sym j) h.played;
  given = subst (λ l. IsGiven (supply_after supply l)
      (flat_map link_entries (us ++ option_to_list last))) (sym i) h.given;
  reached = subst (λ l. as_given (left_after stock l)
      (flat_map target_calls (us ++ option_to_list last))
      ≡ flat_map target_calls (us ++ option_to_list last)) (sym g) h.reached;
}

within : (scene : GatewayScene) (board : Board) (w : World) (count : ℕ)
    (last : Option ScriptRound) (result : Ending) → Finally scene board w count last result
    → count ≤ scene.session.max_inputs
within scene board w count (Some t) result c = omega (arith, c.0)
within scene board w count None result c = omega (arith, c.0)

-- one more turn does not fit where there are as many as may be
too_many : (scene : GatewayScene) (board other : Board) (w v : World) (count most : ℕ)
    (last : Option ScriptRound) (r s : Ending) → count < most
    → Finally scene board w count None r → Finally scene other v most last s → ⊥
too_many scene board other w v count most last r s few c d =
    let more = within scene other v most last s d in
    let all = c.0 in
    absurd (omega (arith, more, all, few))

-- nor one that ends it
one_too_many : (scene : GatewayScene) (board other : Board) (w v : World) (count : ℕ)
    (t : ScriptRound) (r s : Ending) → Finally scene board w count None r
    → Finally scene other v count (Some t) s → ⊥
one_too_many scene board other w v count t r s c d =
    let few = d.0 in let all = c.0 in absurd (omega (arith, few, all))

abbrev goes : World → Result Outcome (OutsideError (RecordError Failure) PlainKexError)
goes w = Ok (Goes w)

goes_once : (w v : World) → goes w ≡ goes v → w ≡ v
goes_once w v e = cc

-- a turn that goes on is none that is the last
not_both : (scene : GatewayScene) (board : Board) (w : World) (stock : Stock) (supply : Supply)
    (queues : Queues) (both : Bool) (count : ℕ) (t u : ScriptRound) (ts : List ScriptRound)
    (last : Option ScriptRound) (r s : Ending)
    → Rest scene board w stock supply queues both count (t ∷ ts) last r
    → Rest scene board w stock supply queues both count [] (Some u) s → ⊥
not_both scene board w stock supply queues both count t u ts last r s h k =
    let more = ts ++ option_to_list last in
    let is = h.run.1 in
    let ends : IsLast scene board w u s =
    subst (λ v. IsLast scene board v u s) k.run.1
    (subst (λ b. IsLast scene b k.world u s) k.run.0 k.ends.1) in
    let b = first_begins scene board w stock supply t u more [] is.begins ends.begins h.reached
    k.reached h.given k.given in
    gone_not_last (gateway_accepts scene) w h.run.0 t.turn u.turn (flat_map events_of more) []
    ends.answer (λ c r. b.input)
    (is.comes.plan, is.comes.owes, is.comes.follows, is.begins.taken) ends.ended
    (answered_alike queues both (t.turn.events ++ flat_map events_of more) (u.turn.events ++ [])
    h.played k.played)

behind_same : (board : Board) (t u : ScriptRound) (a : TurnEnd)
    → due_after t board ≡ due_after u board → told_behind t board a ≡ told_behind u board a
behind_same board t u (Ok done) due = due
behind_same board t u (Err why) due = refl

same_behind : (board : Board) (t u : ScriptRound) (a b : TurnEnd) → a ≡ b
    → due_after t board ≡ due_after u board → told_behind t board a ≡ told_behind u board b
same_behind board t u a b e due = behind_same board t u a due
    ∙ ap (told_behind u board) e

-- two last turns
last_same : (scene : GatewayScene) (board : Board) (w : World) (stock : Stock) (supply : Supply)
    (queues : Queues) (both : Bool) (t u : ScriptRound) (r s : Ending)
    → IsLast scene board w t r → IsLast scene board w u s
    → IsPlayed queues both (t.turn.events ++ []) → IsPlayed queues both (u.turn.events ++ [])
    → IsGiven supply (flat_map link_entries (t ∷ []))
    → IsGiven supply (flat_map link_entries (u ∷ []))
    → as_given stock (flat_map target_calls (t ∷ [])) ≡ flat_map target_calls (t ∷ [])
    → as_given stock (flat_map target_calls (u ∷ [])) ≡ flat_map target_calls (u ∷ [])
    → IsSame (t ∷ []) (u ∷ []) r s
last_same scene board w stock supply queues both t u r s h k p q g i e f =
    let b = first_begins scene board w stock supply t u [] [] h.begins k.begins e f g i in
    let m = last_once (gateway_accepts scene) w t.turn u.turn h.answer k.answer (λ c r. b.input)
    h.ended k.ended (answered_alike queues both (t.turn.events ++ []) (u.turn.events ++ []) p q) in
    let after : t.after ≡ u.after = h.behind ∙ (same_behind board t u h.answer k.answer m.1
    (same_due_after board t u b m.0 h.own k.own) ∙ sym k.behind) in (
      ap (λ l. l ++ []) (same_entries t u b m.0),
      ap (λ l. l ++ []) (same_calls t u b after),
      h.is ∙ (ap lower m.1 ∙ sym k.is),
    )

-- it is one
rest_once : (scene : GatewayScene) (board : Board) (w : World) (stock : Stock) (supply : Supply)
    (queues : Queues) (both : Bool) (count : ℕ) (ts us : List ScriptRound)
    (last most : Option ScriptRound) (r s : Ending)
    → Rest scene board w stock supply queues both count ts last r
    → Rest scene board w stock supply queues both count us most s
    → IsSame (ts ++ option_to_list last) (us ++ option_to_list most) r s
rest_once scene board w stock supply queues both count [] [] None None r s h k =
    (refl, refl, h.ends.1 ∙ sym k.ends.1)
rest_once scene board w stock supply queues both count [] [] None (Some u) r s h k =
    absurd (one_too_many scene h.board_then k.board_then h.world k.world (count + 0) u r s h.ends
    k.ends)
rest_once scene board w stock supply queues both count [] [] (Some t) None r s h k =
    absurd (one_too_many scene k.board_then h.board_then k.world h.world (count + 0) t s r k.ends
    h.ends)
rest_once scene board w stock supply queues both count [] [] (Some t) (Some u) r s h k =
    last_same scene board w stock supply queues both t u r s
    (subst (λ v. IsLast scene board v t r) h.run.1
    (subst (λ b. IsLast scene b h.world t r) h.run.0 h.ends.1))
    (subst (λ v. IsLast scene board v u s) k.run.1
    (subst (λ b. IsLast scene b k.world u s) k.run.0 k.ends.1))
    h.played k.played h.given k.given h.reached k.reached
rest_once scene board w stock supply queues both count (t ∷ ts) [] last None r s h k =
    absurd (too_many scene k.board_then h.board_then k.world h.world (count + 0)
    (count + length (t ∷ ts)) last s r (omega arith) k.ends h.ends)
rest_once scene board w stock supply queues both count (t ∷ ts) [] last (Some u) r s h k =
    absurd (not_both scene board w stock supply queues both count t u ts last r s h k)
rest_once scene board w stock supply queues both count [] (u ∷ us) None most r s h k =
    absurd (too_many scene h.board_then k.board_then h.world k.world (count + 0)
    (count + length (u ∷ us)) most r s (omega arith) h.ends k.ends)
rest_once scene board w stock supply queues both count [] (u ∷ us) (Some t) most r s h k =
    absurd (not_both scene board w stock supply queues both count u t us most s r k h)
rest_once scene board w stock supply queues both count (t ∷ ts) (u ∷ us) last most r s h k =
    let more = ts ++ option_to_list last in
    let others = us ++ option_to_list most in
    let one = h.run.1 in
    let two = k.run.1 in
    let b = first_begins scene board w stock supply t u more others one.begins two.begins h.reached
    k.reached h.given k.given in
    let m = turn_once (gateway_accepts scene) w t.turn u.turn one.comes.plan two.comes.plan
    (flat_map events_of more) (flat_map events_of others) (goes h.run.0) (goes k.run.0)
    (λ c r. b.input) one.begins.taken two.begins.taken one.comes.owes two.comes.owes tt tt
    one.comes.follows two.comes.follows
    (answered_alike queues both (t.turn.events ++ flat_map events_of more)
    (u.turn.events ++ flat_map events_of others) h.played k.played) in
    let world : h.run.0 ≡ k.run.0 = goes_once h.run.0 k.run.0 m.1 in
    let due = same_due_after board t u b m.0 one.comes.answered two.comes.answered in
    let after : t.after ≡ u.after = one.told ∙ (due ∙ sym two.told) in
    let calls = same_calls t u b after in
    let entries = same_entries t u b m.0 in
    let later = rest_once scene (board_after t board) h.run.0 (left_after stock (target_calls t))
    (supply_after supply (link_entries t)) (queues_after queues (admissions t.turn.events))
    (both_after both (steps_in t.turn.events)) (count + 1) ts us last most r s
    (rest_next scene board w stock supply queues both count t ts last r h)
    (rest_moved scene (board_after t board) (board_after u board) h.run.0 k.run.0 (count + 1) stock
    supply queues both t u us most s
    (same_board board t u b m.0 one.comes.answered two.comes.answered) world calls entries m.0
    (rest_next scene board w stock supply queues both count u us most s k)) in (
      ap (λ l. l ++ flat_map link_entries more) entries
          ∙ ap (λ l. link_entries u ++ l) later.0,
      ap (λ l. l ++ flat_map target_calls more) calls
          ∙ ap (λ l. target_calls u ++ l) later.1,
      later.2,
    )

-- ---- the whole

-- what happened in finished turns was answered by the rule and by the script
module _ (accepts : Acceptance) (permits : Permits) where
  rounds_lifted : (board : Board) (w : World) (rounds : List ScriptRound) (last : Option ScriptRound)
      (board_then : Board) (world : World)
      → Rounds accepts permits board w rounds board_then world
      → AreLifted (flat_map events_of (option_to_list last))
      → AreLifted (flat_map events_of (rounds ++ option_to_list last))
  rounds_lifted board w [] last board_then world run h = h
  rounds_lifted board w (t ∷ ts) last board_then world run h =
      lifted_both t.turn.events (flat_map events_of (ts ++ option_to_list last))
      (reaches_lifted run.1.comes.plan t.turn.events (Finish (Goes run.0)) run.1.comes.follows)
      (rounds_lifted (board_after t board) run.0 ts last board_then world run.2 h)

  rounds_ruled : (board : Board) (w : World) (rounds : List ScriptRound) (last : Option ScriptRound)
      (board_then : Board) (world : World)
      → Rounds accepts permits board w rounds board_then world
      → OwnRuled (calls_in (flat_map events_of (option_to_list last)))
      → OwnRuled (calls_in (flat_map events_of (rounds ++ option_to_list last)))
  rounds_ruled board w [] last board_then world run h = h
  rounds_ruled board w (t ∷ ts) last board_then world run h =
      let more = flat_map events_of (ts ++ option_to_list last) in
      subst OwnRuled (sym (calls_in_both t.turn.events more))
      (ruled_both (calls_in t.turn.events) (calls_in more)
      (ruled_by (calls_in t.turn.events) t.asked run.1.comes.answered)
      (rounds_ruled (board_after t board) run.0 ts last board_then world run.2 h))

last_lifted : (accepts : Acceptance) (permits : Permits) (board : Board) (w : World) (count max : ℕ)
    (last : Option ScriptRound) (result : Ending)
    → Closes accepts permits board w count max last result
    → AreLifted (flat_map events_of (option_to_list last))
last_lifted accepts permits board w count max (Some round) (Ok done) c =
    subst AreLifted (sym (append-nil round.turn.events)) (reaches_lifted c.1.1.comes.plan
    round.turn.events (Finish (Ends c.1.0)) c.1.1.comes.follows)
last_lifted accepts permits board w count max (Some round) (Err (error.Run e)) c =
    subst AreLifted (sym (append-nil round.turn.events)) (caused_lifted c.1.why e c.1.plan
    round.turn.events c.1.is c.1.caused)
last_lifted accepts permits board w count max (Some round) (Err error.NoMemory) c = absurd c
last_lifted accepts permits board w count max (Some round) (Err error.TargetFault) c = absurd c
last_lifted accepts permits board w count max (Some round) (Err error.TurnLimit) c = absurd c
last_lifted accepts permits board w count max None result c = tt

last_ruled : (accepts : Acceptance) (permits : Permits) (board : Board) (w : World) (count max : ℕ)
    (last : Option ScriptRound) (result : Ending)
    → Closes accepts permits board w count max last result
    → OwnRuled (calls_in (flat_map events_of (option_to_list last)))
last_ruled accepts permits board w count max (Some round) (Ok done) c =
    subst (λ l. OwnRuled (calls_in l)) (sym (append-nil round.turn.events))
    (ruled_by (calls_in round.turn.events) round.asked c.1.1.comes.answered)
last_ruled accepts permits board w count max (Some round) (Err (error.Run e)) c =
    subst (λ l. OwnRuled (calls_in l)) (sym (append-nil round.turn.events))
    (ruled_by (calls_in round.turn.events) round.asked c.1.answered)
last_ruled accepts permits board w count max (Some round) (Err error.NoMemory) c = absurd c
last_ruled accepts permits board w count max (Some round) (Err error.TargetFault) c = absurd c
last_ruled accepts permits board w count max (Some round) (Err error.TurnLimit) c = absurd c
last_ruled accepts permits board w count max None result c = tt

admissions_joined : (rounds : List ScriptRound)
    → flat_map (λ round. admissions round.turn.events) rounds
    ≡ admissions (flat_map events_of rounds)
admissions_joined [] = refl
admissions_joined (t ∷ ts) = ap (λ l. admissions t.turn.events ++ l) (admissions_joined ts)
    ∙ sym (admissions_both t.turn.events (flat_map events_of ts))

steps_joined : (rounds : List ScriptRound)
    → flat_map (λ round. steps_of round.turn) rounds ≡ steps_in (flat_map events_of rounds)
steps_joined [] = refl
steps_joined (t ∷ ts) = ap (λ l. steps_of t.turn ++ l) (steps_joined ts)
    ∙ sym (steps_in_both t.turn.events (flat_map events_of ts))

rest_of : (scene : GatewayScene) (status : ℕ) (text : List ℕ) (h : IsForwarded scene status text)
    → Rest scene opening_board (opening_world (gateway_settings scene)) (untouched scene.hosts)
    (gateway_supply scene) scene.session.queues false 0 h.rounds h.last h.result
rest_of scene status text h =
    let all = h.rounds ++ option_to_list h.last in
    let accepts = gateway_accepts scene in
    let permits = gateway_permits scene in
    let w = opening_world (gateway_settings scene) in
    let count = length h.rounds in
    let max = scene.session.max_inputs in
    let e : count ≡ 0 + count = omega arith in
    record {
      board_then = h.board;
      world = h.world;
      run = h.run;
      ends = subst (λ n. Finally scene h.board h.world n h.last h.result) e
          (finally_so scene h.board h.world count h.last h.result h.closes);
      played = record {
        own = rounds_ruled accepts permits opening_board w h.rounds h.last h.board h.world h.run
            (last_ruled accepts permits h.board h.world count max h.last h.result h.closes);
        lifted = rounds_lifted accepts permits opening_board w h.rounds h.last h.board h.world h.run
            (last_lifted accepts permits h.board h.world count max h.last h.result h.closes);
        admitted = subst (IsAnswered scene.session.queues) (admissions_joined all) h.answered;
        exchanged = subst (IsExchanged false) (steps_joined all) h.exchanged;
      };
      given = h.given;
      reached = h.reached;
    }

same_status : (m n : ℕ) → Some m ≡ Some n → m ≡ n
same_status m n e = cc

pub forwarded_once : (scene : GatewayScene) (m n : ℕ) (s t : List ℕ) → IsForwarded scene m s
    → IsForwarded scene n t → (m ≡ n) × (s ≡ t)
forwarded_once scene m n s t h k =
    let one = rest_once scene opening_board (opening_world (gateway_settings scene))
    (untouched scene.hosts) (gateway_supply scene) scene.session.queues false 0 h.rounds k.rounds
    h.last k.last h.result k.result (rest_of scene m s h) (rest_of scene n t k) in
    let calls = flat_map target_calls (h.rounds ++ option_to_list h.last) in
    let entries = flat_map link_entries (k.rounds ++ option_to_list k.last) in (
      same_status m n (sym h.status_is ∙ (ap status_of one.2 ∙ k.status_is)),
      h.text_is ∙ (ap (λ l. told_text l calls h.result) one.0
          ∙ (ap (λ l. told_text entries l h.result) one.1
          ∙ (ap (told_text entries (flat_map target_calls (k.rounds ++ option_to_list k.last))) one.2
          ∙ sym k.text_is))),
    )
