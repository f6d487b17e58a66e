-- What the parts of a turn do.
use Rattle.std.specs.Prelude.{◌≡◌, ◌≤◌, ◌+◌, ℕ, true, false, List, [], ◌∷◌, ◌++◌, length}
use Rattle.std.specs.Prelude.{not, Option, Some, None, Ok, Err}
use Rattle.ssh_link.specs.Told.{Adds, ToldBy}
use Rattle.ssh_link.specs.declared.frame.Input.{Input}
use Rattle.ssh_link.specs.declared.frame.InputKind.{InputKind}
use Rattle.ssh_link.specs.declared.frame.InputKind.TheVariants.{OpenReply}
use Rattle.ssh_link.specs.declared.link.TraceEntry.{TraceEntry}
use Rattle.ssh_link.specs.declared.link.TraceEntry.TheVariants.{Took}
use Rattle.ssh_rules.specs.World.{World}
use Rattle.ssh_rules.specs.Run.{who}
use Rattle.ssh_gateway.specs.declared.choosing.Chosen.{Chosen}
use Rattle.ssh_gateway.specs.declared.deciding.Verdict.{Verdict}
use Rattle.ssh_gateway.specs.declared.looking.Found.{Found}
use Rattle.ssh_gateway.specs.declared.looking.Found.TheVariants as found
use Rattle.ssh_gateway.specs.declared.switchboard.Asking.{Asking}
use Rattle.ssh_gateway.specs.declared.switchboard.Connection.{Connection}
use Rattle.ssh_gateway.specs.declared.targets.Arrived.TheVariants as arrived
use Rattle.ssh_gateway.specs.declared.targets.TargetCall.{TargetCall}
use Rattle.ssh_gateway.specs.declared.targets.TargetCall.TheVariants as call
use Rattle.ssh_gateway.specs.declared.targets.TargetFault.{TargetFault}
use Rattle.ssh_gateway.specs.Asked.{IsCutOff}
use Rattle.ssh_gateway.specs.Board.{Board}
use Rattle.ssh_gateway.specs.Choosing.{Permits, Source, Sends, Ends, Closes, IsChosen, IsIdle, AreIdle, allows, is_prohibited, connects}
use Rattle.ssh_gateway.specs.Choosing.{rejection, decided, to_decide, most, may_send, is_over}
use Rattle.ssh_gateway.specs.Choosing.{silence, silences, own_kind, settled, closed_by}

-- ---- an open

-- none is to be decided and nothing has changed, or the oldest one was decided
abbrev pub IsDecided : Permits → World → (board board' : Board)
    → (told told' : Option (List TargetCall)) → Option InputKind → Type 0
IsDecided permits w board board' told told' None = (to_decide w board ≡ []) × (board' ≡ board)
    × (told' ≡ told)
IsDecided permits w board board' told told' (Some kind) =
    (asked : Asking) × (later : List Asking) × (verdict : Verdict)
    × (to_decide w board ≡ asked ∷ later)
    × (is_prohibited verdict ≡ not (allows permits (who w.user) asked))
    × Adds told told' (connects (board.last_id + 1) asked verdict)
    × (board' ≡ decided asked.channel verdict board)
    × (kind ≡ OpenReply (board.last_ticket + 1)
    (record { channel = asked.channel; rejection = rejection verdict; texts = None }))

-- the choice of some source was not finished for this reason
abbrev pub FailsChoosing : TargetFault → Permits → World → Board
    → (told told' : Option (List TargetCall)) → Type 0
FailsChoosing fault permits w board told told' = (source : Source) × (due made : List TargetCall)
    × IsChosen permits w board source due × IsCutOff fault due made × ToldBy true told told' made

-- ---- one connection

-- it may send where its target was read, and is over else
abbrev pub IsFound : World → Connection → Found → Type 0
IsFound w one found.Over = (may_send w one ≡ false) × (is_over one ≡ true)
IsFound w one _ = may_send w one ≡ true

abbrev pub finds : Connection → Found → List TargetCall
finds one (found.Bytes bytes) = call.Read one.id most (Ok (arrived.Bytes bytes)) ∷ []
finds one found.End = call.Read one.id most (Ok arrived.End) ∷ []
finds one found.Over = []

abbrev pub IsTried : World → Connection → (told told' : Option (List TargetCall)) → Option Found
    → Type 0
IsTried w one told told' None = IsIdle w one × Adds told told' (silence w one)
IsTried w one told told' (Some what) = IsFound w one what × Adds told told' (finds one what)

-- ---- all of them

abbrev pub IsLooked : World → List Connection → (told told' : Option (List TargetCall))
    → Option (ℕ × Found) → Type 0
IsLooked w all told told' None = AreIdle w all × Adds told told' (silences w all)
IsLooked w all told told' (Some (place, what)) = (earlier later : List Connection)
    × (one : Connection) × (all ≡ earlier ++ one ∷ later) × (length earlier ≡ place)
    × AreIdle w earlier × IsFound w one what
    × Adds told told' (silences w earlier ++ finds one what)

-- a read failed so behind those before
abbrev pub FailsLooking : TargetFault → World → List Connection
    → (told told' : Option (List TargetCall)) → Type 0
FailsLooking fault w all told told' = (earlier later : List Connection) × (one : Connection)
    × (all ≡ earlier ++ one ∷ later) × AreIdle w earlier × (may_send w one ≡ true)
    × ToldBy true told told' (silences w earlier ++ call.Read one.id most (Err fault) ∷ [])

-- ---- the choice

abbrev pub source_of : (earlier : List Connection) → (one : Connection) → (later : List Connection)
    → Found → Source
source_of earlier one later (found.Bytes bytes) = Sends earlier one later bytes
source_of earlier one later found.End = Ends earlier one later
source_of earlier one later found.Over = Closes earlier one later

abbrev pub closed_to : Option ℕ → List TargetCall
closed_to None = []
closed_to (Some id) = call.Close id (Ok tt) ∷ []

-- it is noted on the board, and the input is made for it
abbrev pub Commands : Source → (board board' : Board) → Chosen → Type 0
Commands source board board' chosen = (board' ≡ settled source board)
    × (chosen.kind ≡ own_kind (board.last_ticket + 1) source)
    × (closed_to chosen.closes ≡ closed_by source)

-- the counts rise by one at most
abbrev pub IsNextCount : (board board' : Board) → Type 0
IsNextCount board board' = (board'.last_id ≤ board.last_id + 1)
    × (board'.last_ticket ≤ board.last_ticket + 1)

-- a source was chosen, and noted on the board
abbrev pub Chooses : Permits → World → (board board' : Board)
    → (told told' : Option (List TargetCall)) → Chosen → Type 0
Chooses permits w board board' told told' chosen = (source : Source) × (calls : List TargetCall)
    × IsChosen permits w board source calls × Adds told told' calls
    × Commands source board board' chosen

-- the link is asked where the input is none of the gateway's own
abbrev pub asks_link : Option InputKind → Input → List TraceEntry
asks_link None input = Took false false input ∷ []
asks_link (Some kind) input = []

-- of what was due to the targets a part was told, for this reason
abbrev pub FailsTelling : TargetFault → (due : List TargetCall)
    → (told told' : Option (List TargetCall)) → Type 0
FailsTelling fault due told told' = (made : List TargetCall) × IsCutOff fault due made
    × ToldBy true told told' made
