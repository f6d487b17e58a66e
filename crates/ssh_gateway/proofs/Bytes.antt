-- The bytes of a connection, both ways.
use Rattle.std.proofs.Common.{◌≡◌, ◌+◌, ℕ, List, [], ◌∷◌, ◌++◌, Option, Some, None, Bool, true, false, refl, Ok}
use Rattle.std.proofs.Common.{◌∙◌, ap, cond, ◌==◌}
use Rattle.std.specs.Prelude.{flat_map}
use Rattle.std.specs.List.{find}
use Rattle.std.proofs.lemmas.List.{append-nil}
use Rattle.std.proofs.lemmas.List.Concat.{flat_map-append}
use Rattle.ssh_auth.specs.declared.question.Happening.{Happening}
use Rattle.ssh_auth.specs.declared.question.Happening.TheVariants as what
use Rattle.ssh_auth.specs.declared.question.Lent.TheVariants.{Happened}
use Rattle.ssh_auth.specs.declared.question.Question.{Question}
use Rattle.ssh_auth.specs.declared.question.Question.TheVariants.{Lends}
use Rattle.ssh_auth.specs.Publickey.{Acceptance}
use Rattle.ssh_rules.specs.Outcome.{Outcome, Goes}
use Rattle.ssh_rules.specs.World.{World}
use Rattle.ssh_gateway.specs.declared.deciding.Verdict.{Verdict}
use Rattle.ssh_gateway.specs.declared.deciding.Verdict.TheVariants.{Prohibited, Unreachable, Granted}
use Rattle.ssh_gateway.specs.declared.switchboard.Asking.{Asking}
use Rattle.ssh_gateway.specs.declared.switchboard.Connection.{Connection}
use Rattle.ssh_gateway.specs.declared.targets.Arrived.TheVariants as arrived
use Rattle.ssh_gateway.specs.declared.targets.TargetCall.{TargetCall}
use Rattle.ssh_gateway.specs.declared.targets.TargetCall.TheVariants as call
use Rattle.ssh_gateway.specs.Asked.{written_by, read_by, written, read}
use Rattle.ssh_gateway.specs.Board.{Board, is_on, noted, passed_to, due_on, all_due}
use Rattle.ssh_gateway.specs.Choosing.{Permits, Source, Decides, Sends, Ends, Closes, Waits}
use Rattle.ssh_gateway.specs.Choosing.{IsChosen, connects, silence, silences, may_send, closed_by}
use Rattle.ssh_gateway.specs.Bytes.{if_of, came_by, came, incoming, sent_by, outgoing}
use Rattle.ssh_gateway.specs.Turns.{Round, Rounds, IsRound, board_within, board_after, target_calls}

pub written_both : (id : ℕ) (xs ys : List TargetCall) → written id (xs ++ ys)
    ≡ written id xs ++ written id ys
written_both id xs ys = flat_map-append (written_by id) xs ys

pub read_both : (id : ℕ) (xs ys : List TargetCall) → read id (xs ++ ys) ≡ read id xs ++ read id ys
read_both id xs ys = flat_map-append (read_by id) xs ys

-- ---- behind an input

-- what is told of something that happened on a channel is written where it is data, and read never
passed_written : (id : ℕ) (channel : ℕ) (happening : Happening) (one : Option Connection)
    → read id (passed_to happening one) ≡ []
passed_written id channel happening None = refl
passed_written id channel what.Eof (Some one) = refl
passed_written id channel what.Close (Some one) = refl
passed_written id channel happening (Some one) = refl

data_written : (id : ℕ) (bytes : List ℕ) (one : Option Connection)
    → written id (passed_to (what.Data bytes) one) ≡ if_of id one bytes
data_written id bytes None = refl
data_written id bytes (Some one) = append-nil (cond (one.id == id) bytes [])

other_written : (id : ℕ) (happening : Happening) (one : Option Connection)
    → ((bytes : List ℕ) → happening ≡ what.Data bytes → ⊥)
    → written id (passed_to happening one) ≡ []
other_written id happening None not = refl
other_written id (what.Data bytes) (Some one) not = absurd (not bytes refl)
other_written id what.Eof (Some one) not = refl
other_written id what.Close (Some one) not = refl
other_written id happening (Some one) not = refl

due_written : (id : ℕ) (question : Question) (board : Board)
    → written id (due_on question board.connections) ≡ came_by id question board
due_written id (Lends (Happened channel (what.Data bytes))) board =
    data_written id bytes (find (is_on channel) board.connections)
due_written id (Lends (Happened channel happening)) board =
    other_written id happening (find (is_on channel) board.connections) (λ bytes is. cc)
due_written id (Lends lent) board = refl
due_written id question board = refl

due_read : (id : ℕ) (question : Question) (board : Board)
    → read id (due_on question board.connections) ≡ []
due_read id (Lends (Happened channel happening)) board =
    passed_written id 0 happening (find (is_on channel) board.connections)
due_read id (Lends lent) board = refl
due_read id question board = refl

pub all_written : (id : ℕ) (questions : List Question) (board : Board)
    → written id (all_due questions board) ≡ came id questions board
all_written id [] board = refl
all_written id (question ∷ questions) board =
    written_both id (due_on question board.connections) (all_due questions (noted question board))
    ∙ (ap (λ l. l ++ written id (all_due questions (noted question board)))
    (due_written id question board)
    ∙ ap (λ l. came_by id question board ++ l) (all_written id questions (noted question board)))

all_read : (id : ℕ) (questions : List Question) (board : Board)
    → read id (all_due questions board) ≡ []
all_read id [] board = refl
all_read id (question ∷ questions) board =
    read_both id (due_on question board.connections) (all_due questions (noted question board))
    ∙ (ap (λ l. l ++ read id (all_due questions (noted question board))) (due_read id question board)
    ∙ all_read id questions (noted question board))

pub closed_quiet : (id : ℕ) (source : Source)
    → (written id (closed_by source) ≡ []) × (read id (closed_by source) ≡ [])
closed_quiet id (Decides asked verdict) = (refl, refl)
closed_quiet id (Sends earlier one later bytes) = (refl, refl)
closed_quiet id (Ends earlier one later) = (refl, refl)
closed_quiet id (Closes earlier one later) = (refl, refl)
closed_quiet id Waits = (refl, refl)

-- ---- before it

silence_quiet : (id : ℕ) (may : Bool) (one : ℕ)
    → (written id (cond may (call.Read one 32768 (Ok arrived.Nothing) ∷ []) []) ≡ [])
    × (read id (cond may (call.Read one 32768 (Ok arrived.Nothing) ∷ []) []) ≡ [])
silence_quiet id true one = (refl, refl)
silence_quiet id false one = (refl, refl)

silences_written : (id : ℕ) (w : World) (connections : List Connection)
    → written id (silences w connections) ≡ []
silences_written id w [] = refl
silences_written id w (one ∷ connections) = written_both id (silence w one) (silences w connections)
    ∙ (ap (λ l. l ++ written id (silences w connections))
    ((silence_quiet id (may_send w one) one.id).0) ∙ silences_written id w connections)

silences_read : (id : ℕ) (w : World) (connections : List Connection)
    → read id (silences w connections) ≡ []
silences_read id w [] = refl
silences_read id w (one ∷ connections) = read_both id (silence w one) (silences w connections)
    ∙ (ap (λ l. l ++ read id (silences w connections))
    ((silence_quiet id (may_send w one) one.id).1) ∙ silences_read id w connections)

-- reads in vain, and then these
silences_then : (id : ℕ) (w : World) (earlier : List Connection) (more : List TargetCall)
    → (written id (silences w earlier ++ more) ≡ written id more)
    × (read id (silences w earlier ++ more) ≡ read id more)
silences_then id w earlier more = (
  written_both id (silences w earlier) more
      ∙ ap (λ l. l ++ written id more) (silences_written id w earlier),
  read_both id (silences w earlier) more
      ∙ ap (λ l. l ++ read id more) (silences_read id w earlier),
)

connects_quiet : (id number : ℕ) (asked : Asking) (verdict : Verdict)
    → (written id (connects number asked verdict) ≡ [])
    × (read id (connects number asked verdict) ≡ [])
connects_quiet id number asked Prohibited = (refl, refl)
connects_quiet id number asked Unreachable = (refl, refl)
connects_quiet id number asked Granted = (refl, refl)

pub before_bytes : (id : ℕ) (permits : Permits) (w : World) (board : Board) (source : Source)
    (calls : List TargetCall) → IsChosen permits w board source calls
    → (written id calls ≡ []) × (read id calls ≡ sent_by id source)
before_bytes id permits w board (Decides asked verdict) calls chosen =
    let quiet = connects_quiet id (board.last_id + 1) asked verdict in
    (ap (written id) chosen.3 ∙ quiet.0, ap (read id) chosen.3 ∙ quiet.1)
before_bytes id permits w board (Sends earlier one later bytes) calls chosen =
    let then = silences_then id w earlier
    (call.Read one.id 32768 (Ok (arrived.Bytes bytes)) ∷ []) in (
      ap (written id) chosen.2 ∙ then.0,
      ap (read id) chosen.2 ∙ (then.1 ∙ append-nil (cond (one.id == id) bytes [])),
    )
before_bytes id permits w board (Ends earlier one later) calls chosen =
    let then = silences_then id w earlier (call.Read one.id 32768 (Ok arrived.End) ∷ []) in
    (ap (written id) chosen.2 ∙ then.0, ap (read id) chosen.2 ∙ then.1)
before_bytes id permits w board (Closes earlier one later) calls chosen = (
  ap (written id) chosen.3 ∙ silences_written id w earlier,
  ap (read id) chosen.3 ∙ silences_read id w earlier,
)
before_bytes id permits w board Waits calls chosen =
    (ap (written id) chosen.2 ∙ silences_written id w _, ap (read id) chosen.2 ∙ silences_read id w _)

-- ---- a turn

round_written : {E F : Type 0} (id : ℕ) (accepts : Acceptance) (permits : Permits) (board : Board)
    (w : World) (round : Round E F) (outcome : Outcome)
    → IsRound accepts permits board w round outcome
    → written id (target_calls round) ≡ came id round.asked (board_within round board)
round_written id accepts permits board w round outcome is =
    let due = all_due round.asked (board_within round board) in
    written_both id round.before round.after
    ∙ (ap (λ l. l ++ written id round.after)
    ((before_bytes id permits w board round.source round.before is.begins.chosen).0)
    ∙ (ap (written id) is.told
    ∙ (written_both id (closed_by round.source) due
    ∙ (ap (λ l. l ++ written id due) ((closed_quiet id round.source).0)
    ∙ all_written id round.asked (board_within round board)))))

round_read : {E F : Type 0} (id : ℕ) (accepts : Acceptance) (permits : Permits) (board : Board)
    (w : World) (round : Round E F) (outcome : Outcome)
    → IsRound accepts permits board w round outcome
    → read id (target_calls round) ≡ sent_by id round.source
round_read id accepts permits board w round outcome is =
    let due = all_due round.asked (board_within round board) in
    let after : read id round.after ≡ [] = ap (read id) is.told
    ∙ (read_both id (closed_by round.source) due
    ∙ (ap (λ l. l ++ read id due) ((closed_quiet id round.source).1)
    ∙ all_read id round.asked (board_within round board))) in
    read_both id round.before round.after
    ∙ (ap (λ l. l ++ read id round.after)
    ((before_bytes id permits w board round.source round.before is.begins.chosen).1)
    ∙ (ap (λ l. sent_by id round.source ++ l) after ∙ append-nil (sent_by id round.source)))

-- ---- turns, and those behind them

pub writes_so : {E F : Type 0} (id : ℕ) (accepts : Acceptance) (permits : Permits) (board : Board)
    (w : World) (earlier later : List (Round E F)) (board' : Board) (world : World)
    → Rounds accepts permits board w (earlier ++ later) board' world
    → written id (flat_map target_calls earlier) ≡ incoming id board earlier
writes_so id accepts permits board w [] later board' world h = refl
writes_so id accepts permits board w (round ∷ earlier) later board' world h =
    written_both id (target_calls round) (flat_map target_calls earlier)
    ∙ (ap (λ l. l ++ written id (flat_map target_calls earlier))
    (round_written id accepts permits board w round (Goes h.0) h.1)
    ∙ ap (λ l. came id round.asked (board_within round board) ++ l)
    (writes_so id accepts permits (board_after round board) h.0 earlier later board' world h.2))

pub reads_so : {E F : Type 0} (id : ℕ) (accepts : Acceptance) (permits : Permits) (board : Board)
    (w : World) (earlier later : List (Round E F)) (board' : Board) (world : World)
    → Rounds accepts permits board w (earlier ++ later) board' world
    → read id (flat_map target_calls earlier) ≡ outgoing id earlier
reads_so id accepts permits board w [] later board' world h = refl
reads_so id accepts permits board w (round ∷ earlier) later board' world h =
    read_both id (target_calls round) (flat_map target_calls earlier)
    ∙ (ap (λ l. l ++ read id (flat_map target_calls earlier))
    (round_read id accepts permits board w round (Goes h.0) h.1)
    ∙ ap (λ l. sent_by id round.source ++ l)
    (reads_so id accepts permits (board_after round board) h.0 earlier later board' world h.2))
