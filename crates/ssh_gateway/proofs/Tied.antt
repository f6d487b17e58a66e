-- From turn to turn each connection stands as a channel, which accepted what was read from its target.
use Rattle.std.proofs.Common.{◌≡◌, ◌==◌, ◌<◌, ◌≤◌, ◌+◌, ◌∙◌, ℕ, List, [], ◌∷◌, ◌++◌, Bool, true, false}
use Rattle.std.proofs.Common.{cond, Some, None, refl, sym, ap, subst, arith}
use Rattle.std.proofs.lemmas.List.{append-nil}
use Rattle.ssh_link.specs.declared.command.Command.{Command}
use Rattle.ssh_link.specs.declared.command.Command.TheVariants as command
use Rattle.ssh_link.specs.declared.link.TraceEntry.{TraceEntry}
use Rattle.ssh_link.specs.declared.outcome.CommandOutcome.TheVariants.{Accepted}
use Rattle.ssh_wire.specs.declared.open_failure.ChannelOpenFailure.{ChannelOpenFailure}
use Rattle.ssh_auth.specs.Publickey.{Acceptance}
use Rattle.ssh_channels.specs.declared.chunk.DataKind.{DataKind}
use Rattle.ssh_channels.specs.declared.chunk.DataKind.TheVariants.{Plain}
use Rattle.ssh_channels.specs.Entry.{tagged}
use Rattle.ssh_channels.specs.Layout.{chunk}
use Rattle.ssh_channels.specs.Lines.{find, takes_close, takes_data, takes_eof}
use Rattle.ssh_rules.specs.Effect.{accepts as does, done_by, effect, refused_for}
use Rattle.ssh_rules.specs.Outcome.{Goes}
use Rattle.ssh_rules.specs.Run.{asks_for_keys, wants_commands}
use Rattle.ssh_rules.specs.World.{World, in_exchange, lined}
use Rattle.ssh_rules.proofs.Plans.Acting.{EffectComes}
use Rattle.ssh_rules.proofs.Plans.Apart.{refused_comes}
use Rattle.ssh_rules.proofs.Ledger.Commands.{Kept}
use Rattle.ssh_run_laws.specs.Channels.{Stands, Waits as StillWaits, bytes_on}
use Rattle.ssh_run_laws.specs.Deeds.{Commanded, deeds, given_by}
use Rattle.ssh_run_laws.proofs.Chains.{Chain, chain_bytes, chain_stands}
use Rattle.ssh_run_laws.proofs.Changing.{close_keeps, data_bytes, data_stands, eof_keeps}
use Rattle.ssh_run_laws.proofs.RunDeeds.{turn_comes}
use Rattle.ssh_gateway.specs.declared.deciding.Verdict.{Verdict}
use Rattle.ssh_gateway.specs.declared.deciding.Verdict.TheVariants.{Prohibited, Unreachable, Granted}
use Rattle.ssh_gateway.specs.declared.switchboard.Asking.{Asking}
use Rattle.ssh_gateway.specs.declared.switchboard.Connection.{Connection}
use Rattle.ssh_gateway.specs.declared.targets.TargetCall.{TargetCall}
use Rattle.ssh_gateway.specs.Board.{Board, all_noted}
use Rattle.ssh_gateway.specs.Bytes.{sent_by, outgoing}
use Rattle.ssh_gateway.specs.Choosing.{Permits, Source, Decides, Sends, Ends, Closes, Waits, IsChosen}
use Rattle.ssh_gateway.specs.Choosing.{IsGiven, connected, may_send, own_kind, rejection, settled}
use Rattle.ssh_gateway.specs.Laws.{Carries, answer_to}
use Rattle.ssh_gateway.specs.Turns.{Round, IsRound, TakesData, board_after, board_within}
use Rattle.ssh_gateway.proofs.Accepting.{ends_taken}
use Rattle.ssh_gateway.proofs.Carrying.{Carried, Comes, Holds, closes, command_come, denial_carried}
use Rattle.ssh_gateway.proofs.Carrying.{input_carried, keeps_carried, link_come}
use Rattle.ssh_gateway.proofs.Denying.{events_denied}
use Rattle.ssh_gateway.proofs.Distinct.{Differ, Distinct, Each, Until, all_distinct, all_last}
use Rattle.ssh_gateway.proofs.Distinct.{all_until, distinct_ends, distinct_more, distinct_parts}
use Rattle.ssh_gateway.proofs.Distinct.{each_both, each_parts, each_so, each_with}
use Rattle.ssh_gateway.proofs.EofTaken.{eof_stands}
use Rattle.ssh_gateway.proofs.Numbers.{heeded_is, open_apart, other_way, outgoing_more, same_number}
use Rattle.ssh_gateway.proofs.Numbers.{sending, tagged_both, unlike}
use Rattle.ssh_gateway.proofs.Waiting.{AreFree}

-- after these turns, by this board and in this world
pub record Tied {E F : Type 0} (done : List (Round E F)) (board : Board) (w : World) : Type 0 where
  pub carry : Each (λ one. Carries w (outgoing one.id done) one) board.connections
  pub distinct : Distinct board.connections
  pub numbered : Each (λ one. one.id ≤ board.last_id) board.connections
  -- no connection had a higher number
  pub unused : (id : ℕ) → board.last_id < id → outgoing id done ≡ []

-- ---- a turn

-- where an open was granted: its answer was accepted, and the channel stands, of which the open
-- waited
abbrev pub OpenedSo : {E F : Type 0} → Round E F → (w world : World) → Asking → Type 0
OpenedSo round w world asked =
    (deeds round.turn ≡ Commanded (command.Answer (answer_to asked Granted)) Accepted ∷ [])
    × Stands asked.channel.0 false world.channels.lines × StillWaits asked.channel.0 w

module _ {E F : Type 0} (accepts : Acceptance) (permits : Permits) (board : Board) (w : World)
    (round : Round E F) (world : World) (is : IsRound accepts permits board w round (Goes world))
    (done : List (Round E F)) (past : List TraceEntry) (kept : Kept past w)
    (live : w.disconnected ≡ false) (was : Tied done board w)
    (opened : (asked : Asking) → round.source ≡ Decides asked Granted → OpenedSo round w world asked)
  where
    abbrev Now : Connection → Type 0
    Now one = Carries world (outgoing one.id (done ++ round ∷ [])) one

    abbrev Before : Connection → Type 0
    Before one = Carries w (outgoing one.id done) one

    carried : (n : ℕ) (ended : Bool) (held : List (DataKind × ℕ))
        → Comes n ended held is.comes.owes.0 → AreFree (closes n) round.asked
        → Carried n ended held world.channels.lines
    carried n ended held come free =
        input_carried n ended held (asks_for_keys round.turn.input.kind) is.comes.owes.0
        is.comes.plan round.turn.events world is.comes.owes.2 come is.comes.follows
        (events_denied n round.turn.events round.asked is.comes.answered free)

    -- a command from outside leads to it
    given_carried : (given : Command) (n : ℕ) (ended : Bool) (held : List (DataKind × ℕ))
        → given_by round.turn.input.kind ≡ Some given
        → EffectComes (Holds n ended held) (effect w given) → AreFree (closes n) round.asked
        → Carried n ended held world.channels.lines
    given_carried given n ended held gives come free =
        carried n ended held (command_come n ended held accepts w round.turn.input.moment
        round.turn.input.kind given is.comes.owes.0 gives is.comes.owes.1 come) free

    -- these bytes in all
    now_by : (one : Connection) (bytes : List ℕ)
        → outgoing one.id (done ++ round ∷ []) ≡ bytes
        → (AreFree (closes one.channel.0) round.asked
        → Carried one.channel.0 one.target_ended (tagged (chunk Plain bytes)) world.channels.lines)
        → Until round.asked Now one
    now_by one bytes same h = λ free. let k = h free in
        (k.0, k.1 ∙ ap (λ b. tagged (chunk Plain b)) (sym same))

    -- .. no more than before
    sent_none : (id : ℕ) → sent_by id round.source ≡ []
        → outgoing id (done ++ round ∷ []) ≡ outgoing id done
    sent_none id none = outgoing_more id done round
        ∙ (ap (λ l. outgoing id done ++ l) none ∙ append-nil (outgoing id done))

    -- ---- an open is answered

    refused_each : (asked : Asking) (verdict : Verdict) (reason : ChannelOpenFailure)
        → ((id : ℕ) → sent_by id round.source ≡ [])
        → given_by round.turn.input.kind ≡ Some (command.Answer (answer_to asked verdict))
        → rejection verdict ≡ Some reason → Each (Until round.asked Now) board.connections
    refused_each asked verdict reason none gives rejects =
        let given = command.Answer (answer_to asked verdict) in
        each_so Before (Until round.asked Now) board.connections
        (λ one h. now_by one (outgoing one.id done) (sent_none one.id (none one.id))
        (λ free. given_carried given one.channel.0 one.target_ended
        (tagged (chunk Plain (outgoing one.id done))) gives
        (denial_carried one.channel.0 one.target_ended
        (tagged (chunk Plain (outgoing one.id done))) None w given h (reason, rejects)) free))
        was.carry

    granted_chain : (asked : Asking) (n : ℕ) → OpenedSo round w world asked
        → Chain n w (Commanded (command.Answer (answer_to asked Granted)) Accepted ∷ []) world
    granted_chain asked n so = subst (λ l. Chain n w l world) so.0
        (turn_comes n accepts past w round.turn is.comes.plan (Goes world) is.comes.owes
        is.comes.follows kept)

    granted_bytes : (asked : Asking) (n : ℕ) (b : Bool) → OpenedSo round w world asked
        → (n == asked.channel.0) ≡ b
        → bytes_on n world.channels.lines ≡ cond b [] (bytes_on n w.channels.lines)
    granted_bytes asked n b so is_b =
        chain_bytes n w (Commanded (command.Answer (answer_to asked Granted)) Accepted ∷ []) world
        (granted_chain asked n so) ∙ ap (λ c. cond c [] (bytes_on n w.channels.lines)) is_b

    granted_other : (asked : Asking) (one : Connection) → OpenedSo round w world asked
        → ((id : ℕ) → sent_by id round.source ≡ []) → Before one → Until round.asked Now one
    granted_other asked one so none h =
        let n = one.channel.0 in
        now_by one (outgoing one.id done) (sent_none one.id (none one.id)) (λ free. (
          chain_stands n w (Commanded (command.Answer (answer_to asked Granted)) Accepted ∷ [])
              world one.target_ended (granted_chain asked n so) refl h.0,
          granted_bytes asked n false so
              (open_apart past w n asked.channel.0 one.target_ended kept h.0 so.2) ∙ h.1,
        ))

    granted_each : (asked : Asking) → OpenedSo round w world asked
        → ((id : ℕ) → sent_by id round.source ≡ [])
        → Each (Until round.asked Now)
        (board.connections ++ connected (board.last_id + 1) asked.channel ∷ [])
    granted_each asked so none =
        let id = board.last_id + 1 in
        let n = asked.channel.0 in
        let one = connected id asked.channel in
        each_both (Until round.asked Now) board.connections (one ∷ [])
        (each_so Before (Until round.asked Now) board.connections
        (λ other h. granted_other asked other so none h) was.carry) (
          now_by one [] (sent_none id (none id) ∙ was.unused id (omega arith))
              (λ free. (so.1, granted_bytes asked n true so (same_number n))),
          tt,
        )

    granted_differ : (asked : Asking) → OpenedSo round w world asked
        → Each (λ x. Differ x (connected (board.last_id + 1) asked.channel)) board.connections
    granted_differ asked so =
        each_so (λ x. Before x × (x.id ≤ board.last_id))
        (λ x. Differ x (connected (board.last_id + 1) asked.channel)) board.connections
        (λ x both. let few = both.1 in (
          unlike x.id (board.last_id + 1) (omega (arith, few)),
          open_apart past w x.channel.0 asked.channel.0 x.target_ended kept both.0.0 so.2,
        )) (each_with Before (λ x. x.id ≤ board.last_id) board.connections was.carry was.numbered)

    -- ---- data and ends of a target

    data_carried : (one other : Connection) (bytes : List ℕ) (b : Bool)
        → may_send w one ≡ true
        → effect w (command.Data one.channel bytes) ≡ does (lined (takes_data one.channel.0
        (chunk Plain bytes) (in_exchange w)) w)
        → (other.channel.0 == one.channel.0) ≡ b → Before other
        → EffectComes (Holds other.channel.0 other.target_ended
        (cond b (tagged (chunk Plain (outgoing other.id done)) ++ tagged (chunk Plain bytes))
        (tagged (chunk Plain (outgoing other.id done)))))
        (effect w (command.Data one.channel bytes))
    data_carried one other bytes b may takes is_b h =
        let n = other.channel.0 in
        let held = tagged (chunk Plain (outgoing other.id done)) in
        let lines = w.channels.lines in
        let at = sending (find one.channel.0 lines.entries) may in
        subst (EffectComes (Holds n other.target_ended
        (cond b (held ++ tagged (chunk Plain bytes)) held))) (sym takes) (
          data_stands n one.channel.0 (chunk Plain bytes) (in_exchange w) lines other.target_ended h.0,
          data_bytes n one.channel.0 Plain bytes (in_exchange w) at.0 lines at.1 at.2
              ∙ (ap (λ c. cond c (bytes_on n lines ++ tagged (chunk Plain bytes))
              (bytes_on n lines)) is_b
              ∙ ap (λ l. cond b (l ++ tagged (chunk Plain bytes)) l) h.1),
        )

    sender : (one other : Connection) (bytes : List ℕ) (b : Bool) → may_send w one ≡ true
        → TakesData w (Sends [] one [] bytes)
        → given_by round.turn.input.kind ≡ Some (command.Data one.channel bytes)
        → sent_by other.id round.source ≡ cond (one.id == other.id) bytes []
        → (one.id == other.id) ≡ b → (other.channel.0 == one.channel.0) ≡ b → Before other
        → Until round.asked Now other
    sender one other bytes true may takes gives sent same_id same_channel h =
        let before = outgoing other.id done in
        now_by other (before ++ bytes) (outgoing_more other.id done round
        ∙ ap (λ l. before ++ l) (sent ∙ ap (λ c. cond c bytes []) same_id))
        (λ free. subst (λ held. Carried other.channel.0 other.target_ended held world.channels.lines)
        (tagged_both before bytes)
        (given_carried (command.Data one.channel bytes) other.channel.0 other.target_ended
        (tagged (chunk Plain before) ++ tagged (chunk Plain bytes)) gives
        (data_carried one other bytes true may takes same_channel h) free))
    sender one other bytes false may takes gives sent same_id same_channel h =
        now_by other (outgoing other.id done) (sent_none other.id
        (sent ∙ ap (λ c. cond c bytes []) same_id))
        (λ free. given_carried (command.Data one.channel bytes) other.channel.0 other.target_ended
        (tagged (chunk Plain (outgoing other.id done))) gives
        (data_carried one other bytes false may takes same_channel h) free)

    sends_each : (earlier later : List Connection) (one : Connection) (bytes : List ℕ)
        → may_send w one ≡ true → TakesData w (Sends [] one [] bytes)
        → given_by round.turn.input.kind ≡ Some (command.Data one.channel bytes)
        → ((id : ℕ) → sent_by id round.source ≡ cond (one.id == id) bytes [])
        → Each Before (earlier ++ one ∷ later) → Distinct (earlier ++ one ∷ later)
        → Each (Until round.asked Now) (earlier ++ one ∷ later)
    sends_each earlier later one bytes may takes gives sent carry d =
        let parts = each_parts Before earlier (one ∷ later) carry in
        let apart = distinct_parts one earlier later d in
        each_both (Until round.asked Now) earlier (one ∷ later)
        (each_so (λ x. Differ x one × Before x) (Until round.asked Now) earlier
        (λ x both. sender one x bytes false may takes gives (sent x.id)
        (other_way x.id one.id both.0.0) both.0.1 both.1)
        (each_with (λ x. Differ x one) Before earlier apart.0 parts.0)) (
          sender one one bytes true may takes gives (sent one.id) (same_number one.id)
              (same_number one.channel.0) parts.1.0,
          each_so (λ x. Differ one x × Before x) (Until round.asked Now) later
              (λ x both. sender one x bytes false may takes gives (sent x.id) both.0.0
              (other_way one.channel.0 x.channel.0 both.0.1) both.1)
              (each_with (Differ one) Before later apart.1 parts.1.1),
        )

    -- the end of file of another one
    beside_end : (one other : Connection)
        → effect w (command.Eof one.channel) ≡ does (lined (takes_eof one.channel.0) w)
        → given_by round.turn.input.kind ≡ Some (command.Eof one.channel)
        → ((id : ℕ) → sent_by id round.source ≡ [])
        → (other.channel.0 == one.channel.0) ≡ false → Before other → Until round.asked Now other
    beside_end one other takes gives none apart h =
        let n = other.channel.0 in
        let held = tagged (chunk Plain (outgoing other.id done)) in
        let lines = w.channels.lines in
        now_by other (outgoing other.id done) (sent_none other.id (none other.id))
        (λ free. given_carried (command.Eof one.channel) n other.target_ended held gives
        (subst (EffectComes (Holds n other.target_ended held)) (sym takes)
        (keeps_carried n other.target_ended held (n == one.channel.0) lines
        (takes_eof one.channel.0 lines) (eof_keeps n one.channel.0 lines) apart h)) free)

    own_end : (one : Connection) → may_send w one ≡ true
        → effect w (command.Eof one.channel) ≡ does (lined (takes_eof one.channel.0) w)
        → given_by round.turn.input.kind ≡ Some (command.Eof one.channel)
        → ((id : ℕ) → sent_by id round.source ≡ []) → Before one
        → Until round.asked Now (record one { target_ended = true })
    own_end one may takes gives none h =
        let n = one.channel.0 in
        let held = tagged (chunk Plain (outgoing one.id done)) in
        let lines = w.channels.lines in
        let at = sending (find n lines.entries) may in
        now_by (record one { target_ended = true }) (outgoing one.id done)
        (sent_none one.id (none one.id))
        (λ free. given_carried (command.Eof one.channel) n true held gives
        (subst (EffectComes (Holds n true held)) (sym takes) (
          eof_stands n at.0 lines one.target_ended at.1 at.2 h.0,
          (eof_keeps n n lines).bytes ∙ h.1,
        )) free)

    ends_each : (earlier later : List Connection) (one : Connection) → may_send w one ≡ true
        → effect w (command.Eof one.channel) ≡ does (lined (takes_eof one.channel.0) w)
        → given_by round.turn.input.kind ≡ Some (command.Eof one.channel)
        → ((id : ℕ) → sent_by id round.source ≡ [])
        → Each Before (earlier ++ one ∷ later) → Distinct (earlier ++ one ∷ later)
        → Each (Until round.asked Now) (earlier ++ record one { target_ended = true } ∷ later)
    ends_each earlier later one may takes gives none carry d =
        let parts = each_parts Before earlier (one ∷ later) carry in
        let apart = distinct_parts one earlier later d in
        each_both (Until round.asked Now) earlier (record one { target_ended = true } ∷ later)
        (each_so (λ x. Differ x one × Before x) (Until round.asked Now) earlier
        (λ x both. beside_end one x takes gives none both.0.1 both.1)
        (each_with (λ x. Differ x one) Before earlier apart.0 parts.0)) (
          own_end one may takes gives none parts.1.0,
          each_so (λ x. Differ one x × Before x) (Until round.asked Now) later
              (λ x both. beside_end one x takes gives none
              (other_way one.channel.0 x.channel.0 both.0.1) both.1)
              (each_with (Differ one) Before later apart.1 parts.1.1),
        )

    -- ---- a close

    beside_close : (one other : Connection)
        → given_by round.turn.input.kind ≡ Some (command.Close one.channel)
        → ((id : ℕ) → sent_by id round.source ≡ [])
        → (other.channel.0 == one.channel.0) ≡ false → Before other → Until round.asked Now other
    beside_close one other gives none apart h =
        let n = other.channel.0 in
        let held = tagged (chunk Plain (outgoing other.id done)) in
        let lines = w.channels.lines in
        let given = command.Close one.channel in
        now_by other (outgoing other.id done) (sent_none other.id (none other.id))
        (λ free. given_carried given n other.target_ended held gives
        (refused_comes (Holds n other.target_ended held) (refused_for w.disconnected w given) w
        (done_by None w given) h (keeps_carried n other.target_ended held (n == one.channel.0) lines
        (takes_close one.channel.0 lines) (close_keeps n one.channel.0 lines) apart h)) free)

    closes_each : (earlier later : List Connection) (one : Connection)
        → given_by round.turn.input.kind ≡ Some (command.Close one.channel)
        → ((id : ℕ) → sent_by id round.source ≡ [])
        → Each Before (earlier ++ one ∷ later) → Distinct (earlier ++ one ∷ later)
        → Each (Until round.asked Now) (earlier ++ later)
    closes_each earlier later one gives none carry d =
        let parts = each_parts Before earlier (one ∷ later) carry in
        let apart = distinct_parts one earlier later d in
        each_both (Until round.asked Now) earlier later
        (each_so (λ x. Differ x one × Before x) (Until round.asked Now) earlier
        (λ x both. beside_close one x gives none both.0.1 both.1)
        (each_with (λ x. Differ x one) Before earlier apart.0 parts.0))
        (each_so (λ x. Differ one x × Before x) (Until round.asked Now) later
        (λ x both. beside_close one x gives none (other_way one.channel.0 x.channel.0 both.0.1)
        both.1) (each_with (Differ one) Before later apart.1 parts.1.1))

    -- ---- what the link gives

    linked_each : ((id : ℕ) → sent_by id round.source ≡ [])
        → IsGiven None board.moment round.turn.input → Each (Until round.asked Now) board.connections
    linked_each none given =
        each_so Before (Until round.asked Now) board.connections
        (λ one h. let held = tagged (chunk Plain (outgoing one.id done)) in
        now_by one (outgoing one.id done) (sent_none one.id (none one.id))
        (λ free. carried one.channel.0 one.target_ended held
        (link_come one.channel.0 one.target_ended held accepts w round.turn.input.moment
        round.turn.input.kind is.comes.owes.0 given is.comes.owes.1 h) free)) was.carry

    -- ---- the board behind its input

    pub record Behind (source : Source) : Type 0 where
      pub each : Each (Until round.asked Now) (settled source board).connections
      pub distinct : Distinct (settled source board).connections
      pub numbered : Each (λ one. one.id ≤ (settled source board).last_id)
          (settled source board).connections
      pub unused : (id : ℕ) → (settled source board).last_id < id
          → outgoing id (done ++ round ∷ []) ≡ []

    later_numbered : Each (λ one. one.id ≤ board.last_id + 1) board.connections
    later_numbered = each_so (λ one. one.id ≤ board.last_id) (λ one. one.id ≤ board.last_id + 1)
        board.connections (λ one few. omega (arith, few)) was.numbered

    still_unused : ((id : ℕ) → sent_by id round.source ≡ []) → (id : ℕ) → board.last_id < id
        → outgoing id (done ++ round ∷ []) ≡ []
    still_unused none id more = sent_none id (none id) ∙ was.unused id more

    next_unused : ((id : ℕ) → sent_by id round.source ≡ []) → (id : ℕ) → board.last_id + 1 < id
        → outgoing id (done ++ round ∷ []) ≡ []
    next_unused none id more = still_unused none id (omega (arith, more))

    behind_command : (source : Source) (earlier later : List Connection) (one : Connection)
        → board.connections ≡ earlier ++ one ∷ later
        → (Each Before (earlier ++ one ∷ later) → Distinct (earlier ++ one ∷ later)
        → Each (λ x. x.id ≤ board.last_id) (earlier ++ one ∷ later) → Behind source)
        → Behind source
    behind_command source earlier later one all k = k
        (subst (Each Before) all was.carry) (subst Distinct all was.distinct)
        (subst (Each (λ x. x.id ≤ board.last_id)) all was.numbered)

    decided_behind : (asked : Asking) (verdict : Verdict)
        → IsGiven (own_kind (board.last_ticket + 1) (Decides asked verdict)) board.moment
        round.turn.input → round.source ≡ Decides asked verdict → Behind (Decides asked verdict)
    decided_behind asked Prohibited given same =
        let none : (id : ℕ) → sent_by id round.source ≡ [] = λ id. ap (sent_by id) same in
        record {
          each = refused_each asked Prohibited _ none (ap (λ i. given_by i.kind) given) refl;
          distinct = was.distinct;
          numbered = was.numbered;
          unused = still_unused none;
        }
    decided_behind asked Unreachable given same =
        let none : (id : ℕ) → sent_by id round.source ≡ [] = λ id. ap (sent_by id) same in
        record {
          each = refused_each asked Unreachable _ none (ap (λ i. given_by i.kind) given) refl;
          distinct = was.distinct;
          numbered = later_numbered;
          unused = next_unused none;
        }
    decided_behind asked Granted given same =
        let none : (id : ℕ) → sent_by id round.source ≡ [] = λ id. ap (sent_by id) same in
        let so = opened asked same in
        let one = connected (board.last_id + 1) asked.channel in
        record {
          each = granted_each asked so none;
          distinct = distinct_more board.connections one (granted_differ asked so) was.distinct;
          numbered = each_both (λ x. x.id ≤ board.last_id + 1) board.connections (one ∷ [])
              later_numbered (omega arith, tt);
          unused = next_unused none;
        }

    behind_of : (source : Source) (calls : List TargetCall) → IsChosen permits w board source calls
        → IsGiven (own_kind (board.last_ticket + 1) source) board.moment round.turn.input
        → TakesData w source → round.source ≡ source → Behind source
    behind_of (Decides asked verdict) calls chosen given takes same =
        decided_behind asked verdict given same
    behind_of (Sends earlier one later bytes) calls chosen given takes same =
        let all = heeded_is (wants_commands w) board.connections earlier one later chosen.0.1 in
        behind_command (Sends earlier one later bytes) earlier later one all (λ carry d few. record {
          each = subst (Each (Until round.asked Now)) (sym all) (sends_each earlier later one bytes
              chosen.1 takes (ap (λ i. given_by i.kind) given) (λ id. ap (sent_by id) same) carry d);
          distinct = was.distinct;
          numbered = was.numbered;
          unused = λ id more.
              let low = (each_parts (λ x. x.id ≤ board.last_id) earlier (one ∷ later) few).1.0 in
              sent_none id (ap (sent_by id) same ∙ ap (λ c. cond c bytes [])
              (unlike one.id id (omega (arith, low, more)))) ∙ was.unused id more;
        })
    behind_of (Ends earlier one later) calls chosen given takes same =
        let all = heeded_is (wants_commands w) board.connections earlier one later chosen.0.1 in
        let none : (id : ℕ) → sent_by id round.source ≡ [] = λ id. ap (sent_by id) same in
        behind_command (Ends earlier one later) earlier later one all (λ carry d few.
        let parts = each_parts (λ x. x.id ≤ board.last_id) earlier (one ∷ later) few in
        record {
          each = ends_each earlier later one chosen.1 (ends_taken w one live chosen.1)
              (ap (λ i. given_by i.kind) given) none carry d;
          distinct = distinct_ends one earlier later d;
          numbered = each_both (λ x. x.id ≤ board.last_id) earlier
              (record one { target_ended = true } ∷ later) parts.0 parts.1;
          unused = still_unused none;
        })
    behind_of (Closes earlier one later) calls chosen given takes same =
        let all = heeded_is (wants_commands w) board.connections earlier one later chosen.0.1 in
        let none : (id : ℕ) → sent_by id round.source ≡ [] = λ id. ap (sent_by id) same in
        behind_command (Closes earlier one later) earlier later one all (λ carry d few.
        let parts = each_parts (λ x. x.id ≤ board.last_id) earlier (one ∷ later) few in
        record {
          each = closes_each earlier later one (ap (λ i. given_by i.kind) given) none carry d;
          distinct = (distinct_parts one earlier later d).2;
          numbered = each_both (λ x. x.id ≤ board.last_id) earlier later parts.0 parts.1.1;
          unused = still_unused none;
        })
    behind_of Waits calls chosen given takes same =
        let none : (id : ℕ) → sent_by id round.source ≡ [] = λ id. ap (sent_by id) same in
        record {
          each = linked_each none given;
          distinct = was.distinct;
          numbered = was.numbered;
          unused = still_unused none;
        }

    -- ---- the board behind all of it

    pub tied_more : Tied (done ++ round ∷ []) (board_after round board) world
    tied_more =
        let behind = behind_of round.source round.before is.begins.chosen is.begins.given is.accepted
        refl in
        let within = board_within round board in
        let last = all_last round.asked within in
        record {
          carry = all_until Now round.asked within (λ x h. h) behind.each;
          distinct = all_distinct round.asked within behind.distinct;
          numbered = subst (λ m. Each (λ one. one.id ≤ m) (all_noted round.asked within).connections)
              (sym last) (all_until (λ one. one.id ≤ within.last_id) round.asked within (λ x few. few)
              (each_so (λ one. one.id ≤ within.last_id)
              (Until round.asked (λ one. one.id ≤ within.last_id)) within.connections
              (λ x few free. few) behind.numbered));
          unused = λ id more. behind.unused id (subst (λ m. m < id) last more);
        }
