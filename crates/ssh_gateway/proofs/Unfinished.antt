-- A turn that was not finished, in short.
use mathlib.Core.List.{IsPrefix}
use Rattle.std.proofs.Common.{◌≡◌, ◌+◌, ◌⊎◌, ℕ, List, [], ◌∷◌, ◌++◌, Option, Some, None, Bool, true}
use Rattle.std.proofs.Common.{false, not, cond, Result, Ok, refl, sym, ◌∙◌, ap, subst, inl, inr}
use Rattle.std.proofs.Common.{append_assoc}
use Rattle.std.specs.Prelude.{flat_map}
use Rattle.std.specs.List.{find}
use Rattle.std.proofs.lemmas.List.{append-nil}
use Rattle.std.proofs.lemmas.List.Concat.{flat_map-append}
use Rattle.ssh_link.specs.Told.{Adds, ToldBy}
use Rattle.ssh_link.proofs.Tellings.{adds_weak}
use Rattle.ssh_auth.specs.declared.question.Happening.{Happening}
use Rattle.ssh_auth.specs.declared.question.Happening.TheVariants as what
use Rattle.ssh_auth.specs.declared.question.Lent.TheVariants.{Happened}
use Rattle.ssh_auth.specs.declared.question.Question.{Question}
use Rattle.ssh_auth.specs.declared.question.Question.TheVariants.{Lends}
use Rattle.ssh_auth.specs.Plan.{told_in}
use Rattle.ssh_auth.specs.Publickey.{Acceptance}
use Rattle.ssh_rules.specs.Outcome.{Goes}
use Rattle.ssh_rules.specs.Run.{who}
use Rattle.ssh_rules.specs.World.{World}
use Rattle.ssh_gateway.specs.declared.deciding.Verdict.TheVariants.{Prohibited, Unreachable, Granted}
use Rattle.ssh_gateway.specs.declared.error.GatewayError.{GatewayError}
use Rattle.ssh_gateway.specs.declared.switchboard.Connection.{Connection}
use Rattle.ssh_gateway.specs.declared.targets.Arrived.{Arrived}
use Rattle.ssh_gateway.specs.declared.targets.Arrived.TheVariants as arrived
use Rattle.ssh_gateway.specs.declared.targets.TargetCall.{TargetCall}
use Rattle.ssh_gateway.specs.declared.targets.TargetCall.TheVariants as call
use Rattle.ssh_gateway.specs.declared.targets.TargetFault.{TargetFault}
use Rattle.ssh_gateway.specs.declared.targets.TargetFault.TheVariants.{Failed, NoMemory}
use Rattle.ssh_gateway.specs.Asked.{IsFailed, IsCutOff, failed, written, written_by, read}
use Rattle.ssh_gateway.specs.Board.{Board, opening_board, is_on, noted, passed_to, due_on}
use Rattle.ssh_gateway.specs.Board.{all_due}
use Rattle.ssh_gateway.specs.Bytes.{came, incoming, sent_by, outgoing}
use Rattle.ssh_gateway.specs.Choosing.{Permits, Source, Decides, Sends, Ends, Closes, Waits}
use Rattle.ssh_gateway.specs.Choosing.{IsChosen, allows, silence, silences, may_send, closed_by}
use Rattle.ssh_gateway.specs.Serving.{Outside, IsBroken, IsShort, TellsPart, TellsRound}
use Rattle.ssh_gateway.specs.Turns.{Round, Rounds, Begins, board_within, board_after, due_after}
use Rattle.ssh_gateway.specs.Turns.{target_calls}
use Rattle.ssh_gateway.specs.Unfinished.{last_round, last_asked, short_round, short_asked}
use Rattle.ssh_gateway.specs.Unfinished.{connect_by, connects_in, ending_by}
use Rattle.ssh_gateway.specs.Unfinished.{endings_in, ConnectsAtMost, was_accepted}
use Rattle.ssh_gateway.specs.Unfinished.{last_sent, AtMostOne, IsUnfinished}
use Rattle.ssh_gateway.proofs.Bytes.{written_both, read_both, all_written, closed_quiet, before_bytes}
use Rattle.ssh_gateway.proofs.Bytes.{writes_so, reads_so}
use Rattle.ssh_gateway.proofs.Connecting.{ReadsNone, HandsOnNone, silences_none, read_last}
use Rattle.ssh_gateway.proofs.Connecting.{after_none}
use Rattle.ssh_gateway.proofs.EndingOnce.{one_ending}

-- ---- fronts of lists

none_first : {A : Type 0} (xs : List A) → IsPrefix [] xs
none_first xs = (xs, refl)

front_same : {A : Type 0} (xs ys : List A) → xs ≡ ys → IsPrefix xs ys
front_same xs ys is = ([], append-nil xs ∙ is)

front_behind : {A : Type 0} (first xs ys : List A) → IsPrefix xs ys
    → IsPrefix (first ++ xs) (first ++ ys)
front_behind first xs ys (rest, is) =
    (rest, append_assoc first xs rest ∙ ap (λ l. first ++ l) is)

front_none : {A : Type 0} (xs rest : List A) → xs ++ rest ≡ [] → xs ≡ []
front_none [] rest is = refl
front_none (x ∷ xs) rest is = absurd (cc)

front_one : {A : Type 0} (xs rest : List A) (y : A) → xs ++ rest ≡ y ∷ []
    → (xs ≡ []) ⊎ (xs ≡ y ∷ [])
front_one [] rest y is = inl refl
front_one (x ∷ xs) rest y is =
    let head : x ≡ y = cc in
    let tail : xs ++ rest ≡ [] = cc in
    inr (ap (λ z. z ∷ xs) head ∙ ap (λ l. y ∷ l) (front_none xs rest tail))

-- ---- calls up to one that failed

-- where a call that failed counts for no more than the call
abbrev FailsLess : {B : Type 0} → (TargetCall → List B) → Type 0
FailsLess {B} f = (fault : TargetFault) (one : TargetCall)
    → (rest : List B) × (f one ≡ f (failed fault one) ++ rest)

failed_front : {B : Type 0} (f : TargetCall → List B) (fault : TargetFault)
    (due made : List TargetCall) → FailsLess f → IsFailed fault due made
    → IsPrefix (flat_map f made) (flat_map f due)
failed_front {B} f fault due made less (before, after, one, is, was) =
    let last = failed fault one in
    let rest = (less fault one).0 in
    let kept : f one ≡ f last ++ rest = (less fault one).1 in
    let first : flat_map f made ≡ flat_map f before ++ f last =
    ap (λ l. flat_map f l) was ∙ (flat_map-append f before (last ∷ [])
    ∙ ap (λ l. flat_map f before ++ l) (append-nil (f last))) in
    let all : flat_map f due ≡ flat_map f before ++ (f one ++ flat_map f after) =
    ap (λ l. flat_map f l) is ∙ flat_map-append f before (one ∷ after) in (
      rest ++ flat_map f after,
      ap (λ l. l ++ (rest ++ flat_map f after)) first
          ∙ (append_assoc (flat_map f before) (f last) (rest ++ flat_map f after)
          ∙ (ap (λ l. flat_map f before ++ l)
          (sym (append_assoc (f last) rest (flat_map f after))
          ∙ ap (λ l. l ++ flat_map f after) (sym kept))
          ∙ sym all)),
    )

cut_front : {B : Type 0} (f : TargetCall → List B) (fault : TargetFault)
    (due made : List TargetCall) → FailsLess f → IsCutOff fault due made
    → IsPrefix (flat_map f made) (flat_map f due)
cut_front f fault due made less (inl cut) = failed_front f fault due made less cut
cut_front f fault due made less (inr (only, (rest, is))) =
    (flat_map f rest, sym (flat_map-append f made rest) ∙ ap (λ l. flat_map f l) is)

connects_less : FailsLess connect_by
connects_less fault (call.Connect id host port answer) = ([], refl)
connects_less fault (call.Write id bytes answer) = ([], refl)
connects_less fault (call.Read id most answer) = ([], refl)
connects_less fault (call.Finish id answer) = ([], refl)
connects_less fault (call.Close id answer) = ([], refl)

endings_less : FailsLess ending_by
endings_less fault (call.Connect id host port answer) = ([], refl)
endings_less fault (call.Write id bytes answer) = ([], refl)
endings_less fault (call.Read id most answer) = ([], refl)
endings_less fault (call.Finish id answer) = ([], refl)
endings_less fault (call.Close id answer) = ([], refl)

written_less : (id : ℕ) → FailsLess (written_by id)
written_less id fault (call.Connect other host port answer) = ([], refl)
written_less id fault (call.Write other bytes answer) =
    (written_by id (call.Write other bytes answer), refl)
written_less id fault (call.Read other most answer) = ([], refl)
written_less id fault (call.Finish other answer) = ([], refl)
written_less id fault (call.Close other answer) = ([], refl)

-- ---- the calls that choose an input

connects_unread : ReadsNone connect_by
connects_unread id most answer = refl

endings_unread : ReadsNone ending_by
endings_unread id most answer = refl

unprohibited : (b : Bool) → false ≡ not b → b ≡ true
unprohibited true is = refl
unprohibited false is = absurd (cc)

chosen_connects : (permits : Permits) (w : World) (board : Board) (source : Source)
    (calls : List TargetCall) → IsChosen permits w board source calls
    → ConnectsAtMost permits board w calls
chosen_connects permits w board (Decides asked Prohibited) calls chosen =
    inl (ap connects_in chosen.3)
chosen_connects permits w board (Decides asked Unreachable) calls chosen = inr (
  asked,
  chosen.0,
  chosen.1,
  unprohibited (allows permits (who w.user) asked) chosen.2,
  ap connects_in chosen.3,
)
chosen_connects permits w board (Decides asked Granted) calls chosen = inr (
  asked,
  chosen.0,
  chosen.1,
  unprohibited (allows permits (who w.user) asked) chosen.2,
  ap connects_in chosen.3,
)
chosen_connects permits w board (Sends earlier one later bytes) calls chosen =
    inl (ap connects_in chosen.2
    ∙ read_last connect_by connects_unread w earlier one.id (Ok (arrived.Bytes bytes)))
chosen_connects permits w board (Ends earlier one later) calls chosen = inl (ap connects_in chosen.2
    ∙ read_last connect_by connects_unread w earlier one.id (Ok arrived.End))
chosen_connects permits w board (Closes earlier one later) calls chosen =
    inl (ap connects_in chosen.3 ∙ silences_none connect_by connects_unread w earlier)
chosen_connects permits w board Waits calls chosen =
    inl (ap connects_in chosen.2 ∙ silences_none connect_by connects_unread w _)

chosen_endings : (permits : Permits) (w : World) (board : Board) (source : Source)
    (calls : List TargetCall) → IsChosen permits w board source calls → endings_in calls ≡ []
chosen_endings permits w board (Decides asked Prohibited) calls chosen = ap endings_in chosen.3
chosen_endings permits w board (Decides asked Unreachable) calls chosen = ap endings_in chosen.3
chosen_endings permits w board (Decides asked Granted) calls chosen = ap endings_in chosen.3
chosen_endings permits w board (Sends earlier one later bytes) calls chosen = ap endings_in chosen.2
    ∙ read_last ending_by endings_unread w earlier one.id (Ok (arrived.Bytes bytes))
chosen_endings permits w board (Ends earlier one later) calls chosen = ap endings_in chosen.2
    ∙ read_last ending_by endings_unread w earlier one.id (Ok arrived.End)
chosen_endings permits w board (Closes earlier one later) calls chosen =
    ap endings_in chosen.3 ∙ silences_none ending_by endings_unread w earlier
chosen_endings permits w board Waits calls chosen =
    ap endings_in chosen.2 ∙ silences_none ending_by endings_unread w _

-- ---- the calls behind an input connect to nothing

connects_behind : HandsOnNone connect_by
connects_behind id = ((λ bytes. refl), refl, refl)

after_connects : {E F : Type 0} (round : Round E F) (board : Board)
    → connects_in (due_after round board) ≡ []
after_connects round board = after_none connect_by connects_behind round board

-- ---- the connects of a turn

fewer_connects : (permits : Permits) (board : Board) (w : World) (due made : List TargetCall)
    → IsPrefix (connects_in made) (connects_in due) → ConnectsAtMost permits board w due
    → ConnectsAtMost permits board w made
fewer_connects permits board w due made (rest, is) (inl none) =
    inl (front_none (connects_in made) rest (is ∙ none))
fewer_connects permits board w due made (rest, is) (inr (asked, later, first, allowed, one)) =
    by (front_one (connects_in made) rest (board.last_id + 1, asked.host, asked.port) (is ∙ one))
  where
    by : (connects_in made ≡ [])
        ⊎ (connects_in made ≡ (board.last_id + 1, asked.host, asked.port) ∷ [])
        → ConnectsAtMost permits board w made
    by (inl none) = inl none
    by (inr same) = inr (asked, later, first, allowed, same)

-- calls of which the others connect to nothing
same_connects : (permits : Permits) (board : Board) (w : World) (calls more : List TargetCall)
    → connects_in more ≡ [] → ConnectsAtMost permits board w calls
    → ConnectsAtMost permits board w (calls ++ more)
same_connects permits board w calls more none most =
    fewer_connects permits board w calls (calls ++ more)
    (front_same (connects_in (calls ++ more)) (connects_in calls)
    (flat_map-append connect_by calls more
    ∙ (ap (λ l. connects_in calls ++ l) none ∙ append-nil (connects_in calls)))) most

-- ---- the bytes of a turn

written_front : {E F : Type 0} (id : ℕ) (accepts : Acceptance) (permits : Permits) (board : Board)
    (w first : World) (rounds : List (Round E F)) (calls : List TargetCall) (bytes : List ℕ)
    → Rounds accepts permits opening_board first rounds board w → IsPrefix (written id calls) bytes
    → IsPrefix (written id (flat_map target_calls rounds ++ calls))
    (incoming id opening_board rounds ++ bytes)
written_front {E} {F} id accepts permits board w first rounds calls bytes run front =
    let before : written id (flat_map target_calls rounds) ≡ incoming id opening_board rounds =
    writes_so id accepts permits opening_board first rounds [] board w
    (subst (λ (l : List (Round E F)). Rounds accepts permits opening_board first l board w)
    (sym (append-nil rounds)) run) in
    subst (λ l. IsPrefix l (incoming id opening_board rounds ++ bytes))
    (sym (written_both id (flat_map target_calls rounds) calls
    ∙ ap (λ l. l ++ written id calls) before))
    (front_behind (incoming id opening_board rounds) (written id calls) bytes front)

read_front : {E F : Type 0} (id : ℕ) (accepts : Acceptance) (permits : Permits) (board : Board)
    (w first : World) (rounds : List (Round E F)) (calls : List TargetCall) (bytes : List ℕ)
    → Rounds accepts permits opening_board first rounds board w → IsPrefix bytes (read id calls)
    → IsPrefix (outgoing id rounds ++ bytes) (read id (flat_map target_calls rounds ++ calls))
read_front {E} {F} id accepts permits board w first rounds calls bytes run front =
    let before : read id (flat_map target_calls rounds) ≡ outgoing id rounds =
    reads_so id accepts permits opening_board first rounds [] board w
    (subst (λ (l : List (Round E F)). Rounds accepts permits opening_board first l board w)
    (sym (append-nil rounds)) run) in
    subst (λ l. IsPrefix (outgoing id rounds ++ bytes) l)
    (sym (read_both id (flat_map target_calls rounds) calls
    ∙ ap (λ l. l ++ read id calls) before))
    (front_behind (outgoing id rounds) bytes (read id calls) front)

sent_front : (sent : Bool) (bytes rest all : List ℕ) → all ≡ bytes ++ rest
    → IsPrefix (cond sent bytes []) all
sent_front true bytes rest all is = (rest, sym is)
sent_front false bytes rest all is = none_first all

-- ---- finish and close

once_front : (made due : List TargetCall) → IsPrefix made due → AtMostOne due → AtMostOne made
once_front made due (rest, is) (inl none) = inl (front_none made rest (is ∙ none))
once_front made due (rest, is) (inr (one, single)) = by (front_one made rest one (is ∙ single))
  where
    by : (made ≡ []) ⊎ (made ≡ one ∷ []) → AtMostOne made
    by (inl none) = inl none
    by (inr same) = inr (one, same)

behind_choice : (permits : Permits) (w : World) (board : Board) (source : Source)
    (calls more : List TargetCall) → IsChosen permits w board source calls
    → endings_in (calls ++ more) ≡ endings_in more
behind_choice permits w board source calls more chosen = flat_map-append ending_by calls more
    ∙ ap (λ l. l ++ endings_in more) (chosen_endings permits w board source calls chosen)

pub once_in : {E F : Type 0} (accepts : Acceptance) (permits : Permits) (board : Board) (w : World)
    (earlier later : List (Round E F)) (round : Round E F) (board' : Board) (world : World)
    → Rounds accepts permits board w (earlier ++ round ∷ later) board' world
    → AtMostOne (endings_in (target_calls round))
once_in accepts permits board w [] later round board' world h =
    let is = h.1 in
    subst AtMostOne (sym (behind_choice permits w board round.source round.before round.after
    is.begins.chosen ∙ ap endings_in is.told))
    (one_ending accepts permits board w round (Goes h.0) is.begins is.comes)
once_in accepts permits board w (first ∷ earlier) later round board' world h =
    once_in accepts permits (board_after first board) h.0 earlier later round board' world h.2

-- ---- the four ways

unchosen : {E F : Type 0} (fault : TargetFault) (accepts : Acceptance) (permits : Permits)
    (board : Board) (w first : World) (rounds : List (Round E F)) (source : Source)
    (due made : List TargetCall) (told told' : Option (List TargetCall))
    → Rounds accepts permits opening_board first rounds board w
    → IsChosen permits w board source due → IsCutOff fault due made → ToldBy true told told' made
    → IsUnfinished permits board w rounds None made told told'
unchosen fault accepts permits board w first rounds source due made told told' run chosen cut tells =
    record {
      told = tells;
      connects = fewer_connects permits board w due made
          (cut_front connect_by fault due made connects_less cut)
          (chosen_connects permits w board source due chosen);
      once = once_front (endings_in made) (endings_in due)
          (cut_front ending_by fault due made endings_less cut)
          (inl (chosen_endings permits w board source due chosen));
      ends = subst (λ l. IsPrefix (endings_in made) l)
          (chosen_endings permits w board source due chosen)
          (cut_front ending_by fault due made endings_less cut);
      writes = λ id. written_front id accepts permits board w first rounds made [] run
          (subst (λ l. IsPrefix (written id made) l)
          ((before_bytes id permits w board source due chosen).0)
          (cut_front (written_by id) fault due made (written_less id) cut));
      reads = λ id. read_front id accepts permits board w first rounds made [] run
          (none_first (read id made));
    }

ungiven : {E F : Type 0} (accepts : Acceptance) (permits : Permits) (board : Board)
    (w first : World) (rounds : List (Round E F)) (source : Source) (calls : List TargetCall)
    (told told' : Option (List TargetCall))
    → Rounds accepts permits opening_board first rounds board w
    → IsChosen permits w board source calls → Adds told told' calls
    → IsUnfinished permits board w rounds None calls told told'
ungiven {E} {F} accepts permits board w first rounds source calls told told' run chosen adds = record {
  told = adds_weak told told' calls adds;
  connects = chosen_connects permits w board source calls chosen;
  once = inl (chosen_endings permits w board source calls chosen);
  ends = front_same (endings_in calls) [] (chosen_endings permits w board source calls chosen);
  writes = λ id. written_front id accepts permits board w first rounds calls [] run
      (front_same (written id calls) [] ((before_bytes id permits w board source calls chosen).0));
  reads = λ id. read_front id accepts permits board w first rounds calls [] run
      (none_first (read id calls));
}

-- an input was given, and these calls were made behind it
given_so : {E F : Type 0} (accepts : Acceptance) (permits : Permits) (board : Board)
    (w first : World) (rounds : List (Round E F)) (round : Round E F)
    (told told' : Option (List TargetCall))
    → Rounds accepts permits opening_board first rounds board w
    → IsChosen permits w board round.source round.before
    → connects_in round.after ≡ [] → AtMostOne (endings_in round.after)
    → IsPrefix (endings_in round.after) (endings_in (due_after round board))
    → ((id : ℕ) → IsPrefix (written id round.after) (came id round.asked (board_within round board)))
    → ToldBy true told told' (target_calls round)
    → IsUnfinished permits board w rounds (Some round) (target_calls round) told told'
given_so {E} {F} accepts permits board w first rounds round told told' run chosen connects once ends
    writes tells = record {
      told = tells;
      connects = same_connects permits board w round.before round.after connects
          (chosen_connects permits w board round.source round.before chosen);
      once = subst AtMostOne
          (sym (behind_choice permits w board round.source round.before round.after chosen)) once;
      ends = subst (λ l. IsPrefix l (endings_in (due_after round board)))
          (sym (behind_choice permits w board round.source round.before round.after chosen)) ends;
      writes = λ id. written_front id accepts permits board w first rounds (target_calls round)
          (came id round.asked (board_within round board)) run
          (subst (λ l. IsPrefix l (came id round.asked (board_within round board)))
          (sym (written_both id round.before round.after ∙ ap (λ l. l ++ written id round.after)
          ((before_bytes id permits w board round.source round.before chosen).0))) (writes id));
      reads = λ id. read_front id accepts permits board w first rounds (target_calls round)
          (last_sent id (Some round)) run
          (sent_front (was_accepted (told_in round.turn.events)) (sent_by id round.source)
          (read id round.after) (read id (target_calls round))
          (read_both id round.before round.after ∙ ap (λ l. l ++ read id round.after)
          ((before_bytes id permits w board round.source round.before chosen).1)));
    }

due_written : {E F : Type 0} (id : ℕ) (round : Round E F) (board : Board)
    → written id (due_after round board) ≡ came id round.asked (board_within round board)
due_written id round board =
    written_both id (closed_by round.source) (all_due round.asked (board_within round board))
    ∙ (ap (λ l. l ++ written id (all_due round.asked (board_within round board)))
    ((closed_quiet id round.source).0) ∙ all_written id round.asked (board_within round board))

-- .. or none were
served_part : {E F : Type 0} (accepts : Acceptance) (permits : Permits) (board : Board)
    (w first : World) (rounds : List (Round E F)) (round : Round E F) (between after : Outside F)
    → Rounds accepts permits opening_board first rounds board w → Begins permits board w round
    → round.after ≡ [] → TellsRound between after round
    → IsUnfinished permits board w rounds (Some round) (target_calls round) between.targets
    after.targets
served_part accepts permits board w first rounds round between after run begins nothing told =
    given_so accepts permits board w first rounds round between.targets after.targets run
    begins.chosen (ap connects_in nothing) (inl (ap endings_in nothing))
    (subst (λ l. IsPrefix (endings_in l) (endings_in (due_after round board))) (sym nothing)
    (none_first (endings_in (due_after round board))))
    (λ id. subst (λ l. IsPrefix (written id l) (came id round.asked (board_within round board)))
    (sym nothing) (none_first (came id round.asked (board_within round board))))
    (adds_weak between.targets after.targets (target_calls round) told.2)

-- .. or a part was told
told_part : {E F : Type 0} (fault : TargetFault) (accepts : Acceptance) (permits : Permits)
    (board : Board) (w first : World) (rounds : List (Round E F)) (between after : Outside F)
    → Rounds accepts permits opening_board first rounds board w
    → (part : TellsPart E fault accepts permits board w between after)
    → IsUnfinished permits board w rounds (Some part.round) (target_calls part.round)
    between.targets after.targets
told_part fault accepts permits board w first rounds between after run part =
    let round = part.round in
    let due = due_after round board in
    let front = cut_front connect_by fault due round.after connects_less part.cut in
    given_so accepts permits board w first rounds round between.targets after.targets run
    part.begins.chosen
    (front_none (connects_in round.after) front.0 (front.1 ∙ after_connects round board))
    (once_front (endings_in round.after) (endings_in due)
    (cut_front ending_by fault due round.after endings_less part.cut)
    (one_ending accepts permits board w round part.outcome part.begins part.comes))
    (cut_front ending_by fault due round.after endings_less part.cut)
    (λ id. subst (λ l. IsPrefix (written id round.after) l) (due_written id round board)
    (cut_front (written_by id) fault due round.after (written_less id) part.cut)) part.told

pub unfinished_so : {E F : Type 0} (accepts : Acceptance) (permits : Permits) (board : Board)
    (w first : World) (rounds : List (Round E F)) (between after : Outside F) (e : GatewayError E F)
    → Rounds accepts permits opening_board first rounds board w
    → (broken : IsBroken accepts permits board w between after e)
    → IsUnfinished permits board w rounds
    (last_round accepts permits board w between after e broken)
    (last_asked accepts permits board w between after e broken) between.targets after.targets
unfinished_so accepts permits board w first rounds between after e run (inl none) =
    unchosen Failed accepts permits board w first rounds none.3.0 none.3.1 none.3.2 between.targets
    after.targets run none.3.3 none.3.4 none.3.5
unfinished_so accepts permits board w first rounds between after e run (inr (inl none)) =
    ungiven accepts permits board w first rounds Waits none.4 between.targets after.targets run
    none.5 none.6
unfinished_so accepts permits board w first rounds between after e run (inr (inr (inl none))) =
    served_part accepts permits board w first rounds none.round between after run none.begins
    none.nothing none.told
unfinished_so accepts permits board w first rounds between after e run (inr (inr (inr none))) =
    told_part Failed accepts permits board w first rounds between after run none.2

pub short_so : {E F : Type 0} (accepts : Acceptance) (permits : Permits) (board : Board)
    (w first : World) (rounds : List (Round E F)) (between after : Outside F)
    → Rounds accepts permits opening_board first rounds board w
    → (short : IsShort E accepts permits board w between after)
    → IsUnfinished permits board w rounds
    (short_round accepts permits board w between after short)
    (short_asked accepts permits board w between after short) between.targets after.targets
short_so accepts permits board w first rounds between after run (inl none) =
    unchosen NoMemory accepts permits board w first rounds none.1.0 none.1.1 none.1.2
    between.targets after.targets run none.1.3 none.1.4 none.1.5
short_so accepts permits board w first rounds between after run (inr (inl none)) =
    ungiven accepts permits board w first rounds Waits none.2 between.targets after.targets run
    none.3 none.4
short_so accepts permits board w first rounds between after run (inr (inr (inl none))) =
    served_part accepts permits board w first rounds none.round between after run none.begins
    none.nothing none.told
short_so accepts permits board w first rounds between after run (inr (inr (inr none))) =
    told_part NoMemory accepts permits board w first rounds between after run none
