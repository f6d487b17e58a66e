-- How the input of a turn is chosen.
use Rattle.std.proofs.Common.{◌≡◌, ◌+◌, ℕ, List, [], ◌∷◌, ◌++◌, Option, Some, None, Ok, Err, Bool}
use Rattle.std.proofs.Common.{true, false, not, cond, refl, sym, ◌∙◌, ap, subst, length}
use Rattle.std.specs.Prelude.{IsTrue}
use Rattle.std.specs.List.{slice_index_or, slice_set}
use Rattle.std.proofs.lemmas.List.{append-nil}
use Rattle.std.proofs.lemmas.List.Concat.{flat_map-append}
use Rattle.ssh_wire.specs.declared.channel_id.ChannelId.{ChannelId}
use Rattle.ssh_link.specs.Asked.{IsAsked}
use Rattle.ssh_link.specs.Told.{Adds, ToldBy}
use Rattle.ssh_link.proofs.Tellings.{adds_nil, adds_both, adds_weak}
use Rattle.ssh_serving.proofs.Serving.{told_then}
use Rattle.ssh_link.specs.declared.command.Command.TheVariants as command
use Rattle.ssh_link.specs.declared.frame.Input.{Input}
use Rattle.ssh_link.specs.declared.frame.InputKind.{InputKind}
use Rattle.ssh_link.specs.declared.frame.InputKind.TheVariants.{Command, OpenReply}
use Rattle.ssh_link.specs.declared.open_answer.OpenAnswer.{OpenAnswer}
use Rattle.ssh_rules.specs.Run.{wants_commands, who}
use Rattle.ssh_rules.specs.World.{World, in_exchange}
use Rattle.ssh_gateway.specs.declared.choosing.Chosen.{Chosen}
use Rattle.ssh_gateway.specs.declared.deciding.Verdict.{Verdict}
use Rattle.ssh_gateway.specs.declared.deciding.Verdict.TheVariants.{Prohibited, Unreachable, Granted}
use Rattle.ssh_gateway.specs.declared.looking.Found.{Found}
use Rattle.ssh_gateway.specs.declared.looking.Found.TheVariants as found
use Rattle.ssh_gateway.specs.declared.switchboard.Asking.{Asking}
use Rattle.ssh_gateway.specs.declared.switchboard.Connection.{Connection}
use Rattle.ssh_gateway.specs.declared.targets.Arrived.TheVariants as arrived
use Rattle.ssh_gateway.specs.declared.targets.TargetCall.{TargetCall}
use Rattle.ssh_gateway.specs.declared.targets.TargetCall.TheVariants as call
use Rattle.ssh_gateway.specs.declared.targets.TargetFault.{TargetFault}
use Rattle.ssh_gateway.specs.declared.targets.TargetFault.TheVariants.{Failed, NoMemory}
use Rattle.ssh_gateway.specs.Board.{Board}
use Rattle.ssh_gateway.specs.Choosing.{Permits, Source, Decides, Sends, Ends, Closes, Waits, IsChosen}
use Rattle.ssh_gateway.specs.Choosing.{IsIdle, AreIdle, IsGiven, allows, to_decide, heeded, most}
use Rattle.ssh_gateway.specs.Choosing.{may_send, silence, silences, own_kind, took, decided, settled}
use Rattle.ssh_gateway.specs.Choosing.{connects, is_prohibited, rejection}
use Rattle.ssh_gateway.specs.Choosing.{with_connections}
use Rattle.ssh_gateway.specs.Doing.{IsDecided, FailsChoosing, finds, IsTried, IsLooked}
use Rattle.ssh_gateway.specs.Doing.{FailsLooking, Chooses, Commands, source_of, closed_to, asks_link}
use Rattle.ssh_gateway.proofs.Cutting.{cut_at, cut_last, cut_none}
use Rattle.ssh_gateway.proofs.Lists.{index_here, set_here}

-- ---- an open

-- opens are decided where no exchange of keys runs
deciding : (w : World) (board : Board) (asked : Asking) (later : List Asking) (wanted : Bool)
    → wanted ≡ not (in_exchange w) → wanted ≡ true → board.undecided ≡ asked ∷ later
    → to_decide w board ≡ asked ∷ later
deciding w board asked later wanted is wants first =
    by (in_exchange w) (sym is ∙ wants)
  where
    by : (b : Bool) → not b ≡ true → cond b [] board.undecided ≡ asked ∷ later
    by true never = absurd (cc)
    by false never = first

decided_ticket : (channel : ChannelId) (verdict : Verdict) (board : Board)
    → (decided channel verdict board).last_ticket ≡ board.last_ticket + 1
decided_ticket channel Prohibited board = refl
decided_ticket channel Unreachable board = refl
decided_ticket channel Granted board = refl

-- the answer is numbered by the ticket that the decision took
pub decided_kind : (channel : ChannelId) (verdict : Verdict) (board board' : Board) (ticket : ℕ)
    (answer : OpenAnswer) (kind : InputKind) → board' ≡ decided channel verdict board
    → ticket ≡ board'.last_ticket → kind ≡ OpenReply ticket answer
    → answer ≡ record { channel = channel; rejection = rejection verdict; texts = None }
    → kind ≡ OpenReply (board.last_ticket + 1)
    (record { channel = channel; rejection = rejection verdict; texts = None })
decided_kind channel verdict board board' ticket answer kind is numbered kind_is answer_is =
    kind_is ∙ ap (λ n. OpenReply n answer)
    (numbered ∙ ap (λ b. b.last_ticket) is ∙ decided_ticket channel verdict board)
    ∙ ap (λ a. OpenReply (board.last_ticket + 1) a) answer_is

pub decided_so : (permits : Permits) (w : World) (board board' : Board) (asked : Asking)
    (later : List Asking) (verdict : Verdict) (told told' : Option (List TargetCall))
    (kind : InputKind) (wanted : Bool) → wanted ≡ not (in_exchange w) → wanted ≡ true
    → board.undecided ≡ asked ∷ later
    → is_prohibited verdict ≡ not (allows permits (who w.user) asked)
    → Adds told told' (connects (board.last_id + 1) asked verdict)
    → board' ≡ decided asked.channel verdict board
    → kind ≡ OpenReply (board.last_ticket + 1)
    (record { channel = asked.channel; rejection = rejection verdict; texts = None })
    → IsDecided permits w board board' told told' (Some kind)
decided_so permits w board board' asked later verdict told told' kind wanted is wants first judged adds
    board_is kind_is = (
      asked,
      later,
      verdict,
      deciding w board asked later wanted is wants first,
      judged,
      adds,
      board_is,
      kind_is,
    )

-- none waits, or opens are not decided now
pub undecided_empty : (w : World) (board : Board) → board.undecided ≡ [] → to_decide w board ≡ []
undecided_empty w board none = by (in_exchange w)
  where
    by : (b : Bool) → cond b [] board.undecided ≡ []
    by true = refl
    by false = none

pub undecided_later : (w : World) (board : Board) (wanted : Bool) → wanted ≡ not (in_exchange w)
    → wanted ≡ false → to_decide w board ≡ []
undecided_later w board wanted is unwanted_is = by (in_exchange w) (sym is ∙ unwanted_is)
  where
    by : (b : Bool) → not b ≡ false → cond b [] board.undecided ≡ []
    by true wants = refl
    by false wants = absurd (cc)

pub fails_deciding : (fault : TargetFault) (permits : Permits) (w : World) (board : Board)
    (asked : Asking) (later : List Asking) (told told' : Option (List TargetCall)) (wanted : Bool)
    → wanted ≡ not (in_exchange w) → wanted ≡ true → board.undecided ≡ asked ∷ later
    → allows permits (who w.user) asked ≡ true
    → ToldBy true told told'
    (call.Connect (board.last_id + 1) asked.host asked.port (Err fault) ∷ [])
    → FailsChoosing fault permits w board told told'
fails_deciding fault permits w board asked later told told' wanted is wants first allowed tells = (
  Decides asked Granted,
  connects (board.last_id + 1) asked Granted,
  call.Connect (board.last_id + 1) asked.host asked.port (Err fault) ∷ [],
  (later, deciding w board asked later wanted is wants first, sym (ap not allowed), refl),
  cut_at fault (call.Connect (board.last_id + 1) asked.host asked.port (Ok true)),
  tells,
)

-- it was decided, and there was no memory to note it
pub fails_settling : (fault : TargetFault) (permits : Permits) (w : World) (board : Board)
    (asked : Asking) (later : List Asking) (verdict : Verdict)
    (told told' : Option (List TargetCall)) (wanted : Bool) → (fault ≡ Failed → ⊥)
    → wanted ≡ not (in_exchange w) → wanted ≡ true → board.undecided ≡ asked ∷ later
    → is_prohibited verdict ≡ not (allows permits (who w.user) asked)
    → Adds told told' (connects (board.last_id + 1) asked verdict)
    → FailsChoosing fault permits w board told told'
fails_settling Failed permits w board asked later verdict told told' wanted other is wants first
    judged adds = absurd (other refl)
fails_settling NoMemory permits w board asked later verdict told told' wanted other is wants first
    judged adds =
    let calls = connects (board.last_id + 1) asked verdict in (
      Decides asked verdict,
      calls,
      calls,
      (later, deciding w board asked later wanted is wants first, judged, refl),
      cut_none calls,
      adds_weak told told' calls adds,
    )

-- ---- the connections

idle_more : (w : World) (earlier : List Connection) (one : Connection) → AreIdle w earlier
    → IsIdle w one → AreIdle w (earlier ++ one ∷ [])
idle_more w [] one idle is = (is, tt)
idle_more w (first ∷ earlier) one idle is = (idle.0, idle_more w earlier one idle.1 is)

-- one more has nothing
pub looked_more : (w : World) (earlier : List Connection) (one : Connection)
    (told mid told' : Option (List TargetCall)) → AreIdle w earlier
    → Adds told mid (silences w earlier) → IsTried w one mid told' None
    → AreIdle w (earlier ++ one ∷ []) × Adds told told' (silences w (earlier ++ one ∷ []))
looked_more w earlier one told mid told' idle adds tried = (
  idle_more w earlier one idle tried.0,
  subst (Adds told told') (sym (flat_map-append (silence w) earlier (one ∷ [])
      ∙ ap (λ l. silences w earlier ++ l) (append-nil (silence w one))))
      (adds_both told mid told' (silences w earlier) (silence w one) adds tried.1),
)

pub looked_here : (w : World) (all earlier later : List Connection) (one : Connection) (place : ℕ)
    (what : Found) (told mid told' : Option (List TargetCall)) → all ≡ earlier ++ one ∷ later
    → length earlier ≡ place → AreIdle w earlier → Adds told mid (silences w earlier)
    → IsTried w one mid told' (Some what) → IsLooked w all told told' (Some (place, what))
looked_here w all earlier later one place what told mid told' is long idle adds tried = (
  earlier,
  later,
  one,
  is,
  long,
  idle,
  tried.0,
  adds_both told mid told' (silences w earlier) (finds one what) adds tried.1,
)

pub fails_here : (fault : TargetFault) (w : World) (all earlier later : List Connection)
    (one : Connection) (told mid told' : Option (List TargetCall)) → all ≡ earlier ++ one ∷ later
    → AreIdle w earlier → Adds told mid (silences w earlier) → may_send w one ≡ true
    → ToldBy true mid told' (call.Read one.id most (Err fault) ∷ [])
    → FailsLooking fault w all told told'
fails_here fault w all earlier later one told mid told' is idle adds may tells = (
  earlier,
  later,
  one,
  is,
  idle,
  may,
  told_then true told mid told' (silences w earlier) (call.Read one.id most (Err fault) ∷ []) adds
      tells,
)

-- ---- the choice

heeded_all : (w : World) (board : Board) → wants_commands w ≡ true
    → heeded w board ≡ board.connections
heeded_all w board wanted = ap (λ b. cond b board.connections []) wanted

pub chooses_found : (permits : Permits) (w : World) (board board' : Board) (place : ℕ)
    (what : Found) (told told' : Option (List TargetCall)) (chosen : Chosen)
    → to_decide w board ≡ [] → wants_commands w ≡ true
    → (looked : IsLooked w board.connections told told' (Some (place, what)))
    → Commands (source_of looked.0 looked.2 looked.1 what) board board' chosen
    → Chooses permits w board board' told told' chosen
chooses_found permits w board board' place (found.Bytes bytes) told told' chosen none wanted looked
    commands = (
      Sends looked.0 looked.2 looked.1 bytes,
      silences w looked.0 ++ finds looked.2 (found.Bytes bytes),
      ((none, heeded_all w board wanted ∙ looked.3, looked.5), looked.6, refl),
      looked.7,
      commands,
    )
chooses_found permits w board board' place found.End told told' chosen none wanted looked commands = (
  Ends looked.0 looked.2 looked.1,
  silences w looked.0 ++ finds looked.2 found.End,
  ((none, heeded_all w board wanted ∙ looked.3, looked.5), looked.6, refl),
  looked.7,
  commands,
)
chooses_found permits w board board' place found.Over told told' chosen none wanted looked commands = (
  Closes looked.0 looked.2 looked.1,
  silences w looked.0 ++ [],
  (
    (none, heeded_all w board wanted ∙ looked.3, looked.5),
    looked.6.0,
    looked.6.1,
    append-nil (silences w looked.0),
  ),
  looked.7,
  commands,
)

-- the connection at its place is ended by its target
pub commands_end : (board : Board) (place : ℕ) (at here : Connection) (what : Found)
    (chosen : Chosen) (earlier later : List Connection) (one : Connection)
    → board.connections ≡ earlier ++ one ∷ later → length earlier ≡ place → what ≡ found.End
    → at ≡ slice_index_or board.connections place at
    → here ≡ slice_index_or board.connections place here
    → chosen ≡ record {
      kind = Some (Command (board.last_ticket + 1) (command.Eof at.channel));
      closes = None;
    }
    → Commands (source_of earlier one later what) board
    (with_connections (slice_set board.connections place (record here { target_ended = true })) board)
    chosen
commands_end board place at here what chosen earlier later one is long ends at_is here_is made =
    let it : (each : Connection) → each ≡ slice_index_or board.connections place each → each ≡ one =
    λ each each_is. each_is ∙ (ap (λ l. slice_index_or l place each) is
    ∙ (ap (λ p. slice_index_or (earlier ++ one ∷ later) p each) (sym long)
    ∙ index_here earlier one later each)) in
    let ended : Connection = record here { target_ended = true } in
    let all = ap (λ l. slice_set l place ended) is
    ∙ (ap (λ p. slice_set (earlier ++ one ∷ later) p ended) (sym long)
    ∙ (set_here earlier one later ended
    ∙ ap (λ each. earlier ++ record each { target_ended = true } ∷ later) (it here here_is))) in
    subst (λ f. Commands (source_of earlier one later f) board
    (with_connections (slice_set board.connections place ended) board) chosen) (sym ends) (
      ap (λ l. with_connections l board) all,
      ap (λ made. made.kind) made
          ∙ ap (λ each. Some (Command (board.last_ticket + 1) (command.Eof each.channel)))
          (it at at_is),
      ap (λ made. closed_to made.closes) made,
    )

-- the link is asked, behind reads in vain
pub chooses_link : (permits : Permits) (w : World) (board board' : Board)
    (told told' : Option (List TargetCall)) (chosen : Chosen) → to_decide w board ≡ []
    → wants_commands w ≡ true → IsLooked w board.connections told told' None
    → board' ≡ board → chosen ≡ record { kind = None; closes = None }
    → Chooses permits w board board' told told' chosen
chooses_link permits w board board' told told' chosen none wanted looked same is =
    let all = sym (heeded_all w board wanted) in (
      Waits,
      silences w board.connections,
      (none, subst (AreIdle w) all looked.0, ap (silences w) all),
      looked.1,
      (same, ap (λ one. one.kind) is, ap (λ one. closed_to one.closes) is),
    )

-- or where commands are not wanted
pub chooses_unheeded : (permits : Permits) (w : World) (board board' : Board)
    (told : Option (List TargetCall)) (chosen : Chosen) → to_decide w board ≡ []
    → wants_commands w ≡ false → board' ≡ board
    → chosen ≡ record { kind = None; closes = None }
    → Chooses permits w board board' told told chosen
chooses_unheeded permits w board board' told chosen none unwanted same is =
    let empty : heeded w board ≡ [] = ap (λ b. cond b board.connections []) unwanted in (
      Waits,
      [],
      (none, subst (AreIdle w) (sym empty) tt, ap (silences w) (sym empty)),
      adds_nil told,
      (same, ap (λ one. one.kind) is, ap (λ one. closed_to one.closes) is),
    )

pub chooses_decided : (permits : Permits) (w : World) (board board' : Board)
    (told told' : Option (List TargetCall)) (kind : InputKind)
    → IsDecided permits w board board' told told' (Some kind)
    → Chooses permits w board board' told told' (record { kind = Some kind; closes = None })
chooses_decided permits w board board' told told' kind decided = (
  Decides decided.0 decided.2,
  connects (board.last_id + 1) decided.0 decided.2,
  (decided.1, decided.3, decided.4, refl),
  decided.5,
  (decided.6, ap Some decided.7, refl),
)

pub fails_choosing : (fault : TargetFault) (permits : Permits) (w : World) (board : Board)
    (told told' : Option (List TargetCall)) → to_decide w board ≡ [] → wants_commands w ≡ true
    → FailsLooking fault w board.connections told told'
    → FailsChoosing fault permits w board told told'
fails_choosing fault permits w board told told' none wanted fails =
    let read = call.Read (fails.2).id most (Ok arrived.End) in (
      Ends fails.0 fails.2 fails.1,
      silences w fails.0 ++ read ∷ [],
      silences w fails.0 ++ call.Read (fails.2).id most (Err fault) ∷ [],
      ((none, heeded_all w board wanted ∙ fails.3, fails.4), fails.5, refl),
      cut_last fault (silences w fails.0) read,
      fails.6,
    )

-- ---- the input

-- the link is asked where the source is none of the gateway's own
pub took_is : (ticket : ℕ) (source : Source) (input : Input)
    → asks_link (own_kind ticket source) input ≡ took source input
took_is ticket (Decides asked verdict) input = refl
took_is ticket (Sends earlier one later bytes) input = refl
took_is ticket (Ends earlier one later) input = refl
took_is ticket (Closes earlier one later) input = refl
took_is ticket Waits input = refl

pub waits_only : (permits : Permits) (w : World) (board : Board) (ticket : ℕ) (source : Source)
    (calls : List TargetCall) → own_kind ticket source ≡ None
    → IsChosen permits w board source calls → IsChosen permits w board Waits calls
waits_only permits w board ticket (Decides asked verdict) calls none chosen = absurd (cc)
waits_only permits w board ticket (Sends earlier one later bytes) calls none chosen = absurd (cc)
waits_only permits w board ticket (Ends earlier one later) calls none chosen = absurd (cc)
waits_only permits w board ticket (Closes earlier one later) calls none chosen = absurd (cc)
waits_only permits w board ticket Waits calls none chosen = chosen

-- the moment stays until an input is given
pub settled_moment : (source : Source) (board : Board) → (settled source board).moment ≡ board.moment
settled_moment (Decides asked Prohibited) board = refl
settled_moment (Decides asked Unreachable) board = refl
settled_moment (Decides asked Granted) board = refl
settled_moment (Sends earlier one later bytes) board = refl
settled_moment (Ends earlier one later) board = refl
settled_moment (Closes earlier one later) board = refl
settled_moment Waits board = refl

-- where a connection is heeded, commands are wanted
wanted_by : (wanted : Bool) (all earlier later : List Connection) (one : Connection)
    → cond wanted all [] ≡ earlier ++ one ∷ later → IsTrue wanted
wanted_by true all earlier later one is = refl
wanted_by false all [] later one is = absurd (cc)
wanted_by false all (first ∷ earlier) later one is = absurd (cc)

decides_by : (running : Bool) (all later : List Asking) (asked : Asking)
    → cond running [] all ≡ asked ∷ later → IsTrue (not running)
decides_by true all later asked is = absurd (cc)
decides_by false all later asked is = refl

-- what is asked for without commands and replies may be asked for with them
asked_more : (commands replies : Bool) (kind : InputKind) → IsAsked false false kind
    → IsAsked commands replies kind
asked_more commands replies (Command ticket command) is = absurd (cc)
asked_more commands replies (OpenReply ticket answer) is = absurd (cc)
asked_more commands replies kind is = is

-- an input of the gateway's own comes only where it is asked for
pub is_asked : (permits : Permits) (w : World) (board : Board) (source : Source)
    (calls : List TargetCall) (ticket : ℕ) (input : Input)
    → IsChosen permits w board source calls → IsGiven (own_kind ticket source) board.moment input
    → IsAsked (wants_commands w) (not (in_exchange w)) input.kind
is_asked permits w board (Decides asked verdict) calls ticket input chosen given =
    subst (λ one. IsAsked (wants_commands w) (not (in_exchange w)) one.kind) (sym given)
    (decides_by (in_exchange w) board.undecided chosen.0 asked chosen.1)
is_asked permits w board (Sends earlier one later bytes) calls ticket input chosen given =
    subst (λ i. IsAsked (wants_commands w) (not (in_exchange w)) i.kind) (sym given)
    (wanted_by (wants_commands w) board.connections earlier later one chosen.0.1)
is_asked permits w board (Ends earlier one later) calls ticket input chosen given =
    subst (λ i. IsAsked (wants_commands w) (not (in_exchange w)) i.kind) (sym given)
    (wanted_by (wants_commands w) board.connections earlier later one chosen.0.1)
is_asked permits w board (Closes earlier one later) calls ticket input chosen given =
    subst (λ i. IsAsked (wants_commands w) (not (in_exchange w)) i.kind) (sym given)
    (wanted_by (wants_commands w) board.connections earlier later one chosen.0.1)
is_asked permits w board Waits calls ticket input chosen given =
    asked_more (wants_commands w) (not (in_exchange w)) input.kind given
