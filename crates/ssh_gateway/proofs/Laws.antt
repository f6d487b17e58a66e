-- What the laws of every run say of the turns of a gateway.
use Rattle.std.proofs.Common.{◌≡◌, ◌+◌, ℕ, List, [], ◌∷◌, ◌++◌, Option, None, not, true, false, map}
use Rattle.std.proofs.Common.{Result, Ok, refl, sym, ◌∙◌, ap, subst, append_assoc}
use Rattle.std.specs.Prelude.{flat_map}
use Rattle.std.proofs.lemmas.List.{append-nil}
use Rattle.std.proofs.lemmas.List.Concat.{flat_map-append}
use Rattle.std.proofs.lemmas.List.Folds.{flat_map-map}
use Rattle.ssh_auth.specs.Publickey.{Acceptance}
use Rattle.ssh_handler.specs.declared.recorded.RecordError.{RecordError}
use Rattle.ssh_link.specs.declared.frame.InputKind.TheVariants.{OpenReply}
use Rattle.ssh_rules.specs.Outcome.{Goes}
use Rattle.ssh_rules.specs.Run.{Run, Turns, calls_of, entries, who}
use Rattle.ssh_rules.specs.World.{Settings, World, opening_world}
use Rattle.ssh_rules.proofs.Ledger.Inputs.{nothing_kept, run_kept}
use Rattle.ssh_rules.proofs.Ended.Run.{run_live}
use Rattle.ssh_run_laws.specs.Channels.{Waits as StillWaits, accepted_on, waits_on}
use Rattle.ssh_run_laws.specs.Deeds.{deeds}
use Rattle.ssh_run_laws.specs.Users.{first_user}
use Rattle.ssh_run_laws.proofs.Chains.{chain_bytes}
use Rattle.ssh_run_laws.proofs.RunDeeds.{run_chain}
use Rattle.ssh_run_laws.proofs.Standing.{answered_opens_stand, opens_are_new, opens_wait}
use Rattle.ssh_run_laws.proofs.Users.{users_stay}
use Rattle.ssh_gateway.specs.declared.deciding.Verdict.{Verdict}
use Rattle.ssh_gateway.specs.declared.deciding.Verdict.TheVariants.{Prohibited, Unreachable, Granted}
use Rattle.ssh_gateway.specs.declared.switchboard.Asking.{Asking}
use Rattle.ssh_gateway.specs.declared.switchboard.Connection.{Connection}
use Rattle.ssh_gateway.specs.declared.targets.Arrived.{Arrived}
use Rattle.ssh_gateway.specs.declared.targets.Arrived.TheVariants as arrived
use Rattle.ssh_gateway.specs.declared.targets.TargetCall.{TargetCall}
use Rattle.ssh_gateway.specs.declared.targets.TargetFault.{TargetFault}
use Rattle.ssh_gateway.specs.Asked.{read}
use Rattle.ssh_gateway.specs.Board.{Board, opening_board}
use Rattle.ssh_gateway.specs.Bytes.{outgoing}
use Rattle.ssh_gateway.specs.Choosing.{Permits, Source, Decides, Sends, Ends, Closes, Waits, IsChosen}
use Rattle.ssh_gateway.specs.Choosing.{IsGiven, allows, connects, own_kind}
use Rattle.ssh_gateway.specs.Laws.{first_let_in, all_deeds, connect_of, connects_made, answer_to}
use Rattle.ssh_gateway.specs.Laws.{AllCarry, AllWait, Carries, DecidesBy, ComesTo, IsOpened}
use Rattle.ssh_gateway.specs.Turns.{Round, Rounds, IsRound, board_after, target_calls}
use Rattle.ssh_gateway.proofs.Bytes.{reads_so}
use Rattle.ssh_gateway.proofs.Distinct.{Each}
use Rattle.ssh_gateway.proofs.Tied.{OpenedSo, Tied, tied_more}
use Rattle.ssh_gateway.proofs.Undecided.{Hold}
use Rattle.ssh_gateway.proofs.Waiting.{oldest, undecided_hold}
use Rattle.ssh_gateway.proofs.Connecting.{ReadsNone, HandsOnNone, silences_none, read_last, after_none}

-- ---- turns as a run

pub one_run_of : {E F : Type 0} (accepts : Acceptance) (permits : Permits) (board : Board) (w : World)
    (rounds : List (Round E F)) (board' : Board) (world : World)
    → Rounds accepts permits board w rounds board' world
    → Run accepts w (map (λ round. round.turn) rounds) world
one_run_of accepts permits board w [] board' world h = h.1
one_run_of accepts permits board w (round ∷ rounds) board' world h =
    let is = h.1 in (
      h.0,
      (is.comes.plan, is.comes.owes, is.comes.follows, is.begins.taken),
      one_run_of accepts permits (board_after round board) h.0 rounds board' world h.2,
    )

-- one more
pub rounds_more : {E F : Type 0} (accepts : Acceptance) (permits : Permits) (board : Board) (w : World)
    (rounds : List (Round E F)) (mid_board : Board) (mid : World) (round : Round E F)
    (board' : Board) (world : World) → Rounds accepts permits board w rounds mid_board mid
    → IsRound accepts permits mid_board mid round (Goes world)
    → board' ≡ board_after round mid_board
    → Rounds accepts permits board w (rounds ++ round ∷ []) board' world
rounds_more accepts permits board w [] mid_board mid round board' world h is board_is = (
  world,
  subst (λ v. IsRound accepts permits board v round (Goes world)) h.1
      (subst (λ b. IsRound accepts permits b mid round (Goes world)) h.0 is),
  (board_is ∙ ap (board_after round) h.0, refl),
)
rounds_more accepts permits board w (first ∷ rounds) mid_board mid round board' world h is board_is = (
  h.0,
  h.1,
  rounds_more accepts permits (board_after first board) h.0 rounds mid_board mid round
      board' world h.2 is board_is,
)

-- the first of them, and the others behind these
parted : {E F : Type 0} (accepts : Acceptance) (permits : Permits) (board : Board) (w : World)
    (earlier later : List (Round E F)) (board' : Board) (world : World)
    → Rounds accepts permits board w (earlier ++ later) board' world
    → (mid_board : Board) × (mid : World) × Rounds accepts permits board w earlier mid_board mid
    × Rounds accepts permits mid_board mid later board' world
parted accepts permits board w [] later board' world h = (board, w, (refl, refl), h)
parted accepts permits board w (first ∷ earlier) later board' world h =
    let rest = parted accepts permits (board_after first board) h.0 earlier later board' world h.2 in
    (rest.0, rest.1, (h.0, h.1, rest.2), rest.3)

-- ---- the decision on an open

made_unread : ReadsNone connect_of
made_unread id most answer = refl

made_behind : HandsOnNone connect_of
made_behind id = ((λ bytes. refl), refl, refl)

made_both : (before after : List TargetCall) → connects_made after ≡ []
    → connects_made (before ++ after) ≡ connects_made before
made_both before after none = flat_map-append connect_of before after
    ∙ (ap (λ l. connects_made before ++ l) none ∙ append-nil (connects_made before))

made_same : (id : ℕ) (asked : Asking) (verdict : Verdict)
    → connects_made (connects id asked verdict) ≡ connects id asked verdict
made_same id asked Prohibited = refl
made_same id asked Unreachable = refl
made_same id asked Granted = refl

decides_by : {E F : Type 0} (permits : Permits) (w : World) (board : Board)
    (user : Option (List ℕ)) (round : Round E F) (source : Source) → who w.user ≡ user
    → IsChosen permits w board source round.before
    → IsGiven (own_kind (board.last_ticket + 1) source) board.moment round.turn.input
    → connects_made round.after ≡ [] → DecidesBy permits user source round
decides_by permits w board user round (Decides asked verdict) same chosen given none = record {
  allowed = chosen.2 ∙ ap (λ u. not (allows permits u asked)) same;
  id = board.last_id + 1;
  connected = made_both round.before round.after none
      ∙ (ap connects_made chosen.3 ∙ made_same (board.last_id + 1) asked verdict);
  ticket = board.last_ticket + 1;
  replied = ap (λ i. i.kind) given;
}
decides_by permits w board user round (Sends earlier one later bytes) same chosen given none =
    made_both round.before round.after none ∙ (ap connects_made chosen.2
    ∙ read_last connect_of made_unread w earlier one.id (Ok (arrived.Bytes bytes)))
decides_by permits w board user round (Ends earlier one later) same chosen given none =
    made_both round.before round.after none ∙ (ap connects_made chosen.2
    ∙ read_last connect_of made_unread w earlier one.id (Ok arrived.End))
decides_by permits w board user round (Closes earlier one later) same chosen given none =
    made_both round.before round.after none ∙ (ap connects_made chosen.3
    ∙ silences_none connect_of made_unread w earlier)
decides_by permits w board user round Waits same chosen given none =
    made_both round.before round.after none ∙ (ap connects_made chosen.2
    ∙ silences_none connect_of made_unread w _)

-- ---- the connections

all_carry : (w : World) (read_of sent_of : ℕ → List ℕ) (all : List Connection)
    → ((id : ℕ) → read_of id ≡ sent_of id)
    → Each (λ one. Carries w (sent_of one.id) one) all → AllCarry w read_of all
all_carry w read_of sent_of [] same h = tt
all_carry w read_of sent_of (one ∷ more) same h = (
  subst (λ bytes. Carries w bytes one) (sym (same one.id)) h.0,
  all_carry w read_of sent_of more same h.1,
)

-- ---- by the laws

module _ {E F : Type 0} (accepts : Acceptance) (permits : Permits) (settings : Settings)
  where
    -- the user who was let in is the one of the first call that let one in
    let_in : (rounds : List (Round E F)) (board : Board) (world : World)
        → Rounds accepts permits opening_board (opening_world settings) rounds board world
        → who world.user ≡ first_let_in rounds
    let_in rounds board world run =
        users_stay (RecordError E) F accepts settings (map (λ round. round.turn) rounds) world
        (one_run_of accepts permits opening_board (opening_world settings) rounds board world run)
        ∙ ap first_user (flat_map-map calls_of (λ (round : Round E F). round.turn) rounds)

    deeds_are : (rounds : List (Round E F))
        → flat_map deeds (map (λ round. round.turn) rounds) ≡ all_deeds rounds
    deeds_are rounds = flat_map-map deeds (λ (round : Round E F). round.turn) rounds

    -- an open waits until it is answered
    waits_so : (rounds : List (Round E F)) (board : Board) (world : World)
        → Rounds accepts permits opening_board (opening_world settings) rounds board world
        → (number : ℕ) → waits_on number (all_deeds rounds) ≡ true → StillWaits number world
    waits_so rounds board world run number waits =
        opens_wait (RecordError E) F accepts settings (map (λ round. round.turn) rounds) world
        (one_run_of accepts permits opening_board (opening_world settings) rounds board world run)
        number (ap (waits_on number) (deeds_are rounds) ∙ waits)

    -- each open that is to be decided waits
    new_ones : (rounds : List (Round E F)) (board : Board) (world : World)
        → Rounds accepts permits opening_board (opening_world settings) rounds board world
        → Hold (all_deeds rounds) board.undecided
    new_ones rounds board world run =
        undecided_hold accepts permits (opening_world settings) rounds board world run
        (λ before after channel is. opens_are_new (RecordError E) F accepts settings
        (map (λ round. round.turn) rounds) world
        (one_run_of accepts permits opening_board (opening_world settings) rounds board world run)
        before after channel (deeds_are rounds ∙ is))

    all_wait : (rounds : List (Round E F)) (board : Board) (world : World)
        → Rounds accepts permits opening_board (opening_world settings) rounds board world
        → (all : List Asking) → Hold (all_deeds rounds) all → AllWait world all
    all_wait rounds board world run [] hold = tt
    all_wait rounds board world run (asked ∷ more) hold = (
      waits_so rounds board world run asked.channel.0 hold.0,
      all_wait rounds board world run more hold.2,
    )

    pub decides_in : (earlier later : List (Round E F)) (round : Round E F) (board : Board)
        (world : World) → Rounds accepts permits opening_board (opening_world settings)
        (earlier ++ round ∷ later) board world
        → DecidesBy permits (first_let_in earlier) round.source round
    decides_in earlier later round board world run =
        let parts = parted accepts permits opening_board (opening_world settings) earlier
        (round ∷ later) board world run in
        let is = parts.3.1 in
        decides_by permits parts.1 parts.0 (first_let_in earlier) round round.source
        (let_in earlier parts.0 parts.1 parts.2) is.begins.chosen is.begins.given
        (ap connects_made is.told ∙ after_none connect_of made_behind round parts.0)

    -- where an open is granted, its answer is accepted, and the channel stands
    opened_so : (rounds : List (Round E F)) (round : Round E F) (board : Board) (w world : World)
        → Rounds accepts permits opening_board (opening_world settings) rounds board w
        → IsRound accepts permits board w round (Goes world) → (asked : Asking)
        → round.source ≡ Decides asked Granted → OpenedSo round w world asked
    opened_so rounds round board w world run is asked source =
        let given : round.turn.input ≡ record {
          moment = board.moment;
          kind = OpenReply (board.last_ticket + 1) (answer_to asked Granted);
        } = subst (λ s. IsGiven (own_kind (board.last_ticket + 1) s) board.moment round.turn.input)
        source is.begins.given in
        let chosen = subst (λ s. IsChosen permits w board s round.before) source is.begins.chosen in
        let holds = (subst (Hold (all_deeds rounds)) (oldest w board asked chosen.0 chosen.1)
        (new_ones rounds board w run)).0 in
        let waits = waits_so rounds board w run asked.channel.0 holds in
        let stands = answered_opens_stand (RecordError E) F accepts settings
        (map (λ one. one.turn) rounds) w round.turn world
        (one_run_of accepts permits opening_board (opening_world settings) rounds board w run)
        (is.comes.plan, is.comes.owes, is.comes.follows, is.begins.taken)
        (board.last_ticket + 1) (answer_to asked Granted) (ap (λ i. i.kind) given) refl waits in
        (stands.0, stands.1, waits)

    -- the connections stand as channels, and still do after these turns more
    tied_from : (done rest : List (Round E F)) (board : Board) (w : World) (board' : Board)
        (world : World)
        → Rounds accepts permits opening_board (opening_world settings) done board w
        → Tied done board w → Rounds accepts permits board w rest board' world
        → Tied (done ++ rest) board' world
    tied_from done [] board w board' world run tied h =
        subst (λ l. Tied l board' world) (sym (append-nil done))
        (subst (λ b. Tied done b world) (sym h.0) (subst (Tied done board) (sym h.1) tied))
    tied_from done (round ∷ rest) board w board' world run tied h =
        let start = opening_world settings in
        let turns = map (λ (one : Round E F). one.turn) done in
        let one_run = one_run_of accepts permits opening_board start done board w run in
        let after = board_after round board in
        subst (λ l. Tied l board' world) (append_assoc done (round ∷ []) rest)
        (tied_from (done ++ round ∷ []) rest after h.0 board' world
        (rounds_more accepts permits opening_board start done board w round after h.0 run h.1 refl)
        (tied_more accepts permits board w round h.0 h.1 done (flat_map entries turns)
        (run_kept accepts [] start turns w one_run (nothing_kept settings))
        (run_live accepts start turns w one_run refl) tied
        (opened_so done round board w h.0 run h.1)) h.2)

    opening_tied : Tied {E = E} {F = F} [] opening_board (opening_world settings)
    opening_tied = record { carry = tt; distinct = tt; numbered = tt; unused = λ id more. refl }

    pub comes_to : (earlier later : List (Round E F)) (board : Board) (world : World)
        → Rounds accepts permits opening_board (opening_world settings) (earlier ++ later) board
        world → ComesTo accepts permits settings earlier
    comes_to earlier later board world run =
        let w = opening_world settings in
        let parts = parted accepts permits opening_board w earlier later board world run in
        let one_run = one_run_of accepts permits opening_board w earlier parts.0 parts.1 parts.2 in
        let tied = tied_from [] earlier opening_board w parts.0 parts.1 (refl, refl) opening_tied
        parts.2 in
        record {
          board = parts.0;
          world = parts.1;
          run = parts.2;
          user = let_in earlier parts.0 parts.1 parts.2;
          undecided = all_wait earlier parts.0 parts.1 parts.2 parts.0.undecided
              (new_ones earlier parts.0 parts.1 parts.2);
          waits = waits_so earlier parts.0 parts.1 parts.2;
          bytes = λ number.
              chain_bytes number w (flat_map deeds (map (λ round. round.turn) earlier)) parts.1
              (run_chain number accepts [] w (map (λ round. round.turn) earlier) parts.1 one_run
              (nothing_kept settings)) ∙ ap (accepted_on number) (deeds_are earlier);
          connections = all_carry parts.1 (λ id. read id (flat_map target_calls earlier))
              (λ id. outgoing id earlier) parts.0.connections
              (λ id. reads_so id accepts permits opening_board w earlier later board world run)
              tied.carry;
        }

    pub opens_in : (earlier later : List (Round E F)) (round : Round E F) (asked : Asking)
        (board : Board) (world : World)
        → Rounds accepts permits opening_board (opening_world settings) (earlier ++ round ∷ later)
        board world → round.source ≡ Decides asked Granted
        → IsOpened accepts permits settings earlier round asked
    opens_in earlier later round asked board world run source =
        let w = opening_world settings in
        let parts = parted accepts permits opening_board w earlier (round ∷ later) board world run in
        let is = parts.3.1 in
        let so = opened_so earlier round parts.0 parts.1 parts.3.0 parts.2 is asked source in
        record {
          done = so.0;
          board = board_after round parts.0;
          world = parts.3.0;
          run = rounds_more accepts permits opening_board w earlier parts.0 parts.1 round
              (board_after round parts.0) parts.3.0 parts.2 is refl;
          stands = so.1;
        }
