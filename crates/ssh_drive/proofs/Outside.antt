-- A move that hands on, and whose frames no exchange of keys holds, leaves nothing that is due.
use Rattle.std.proofs.Common.{◌≡◌, ℕ, List, [], ◌∷◌, map, true, false}
use Rattle.std.proofs.Common.{sym, subst, inl, inr}
use Rattle.ssh_link.specs.declared.frame.InputKind.TheVariants as input
use Rattle.ssh_link.specs.declared.link.TraceEntry.{TraceEntry}
use Rattle.ssh_link.specs.declared.link.TraceEntry.TheVariants.{Sent, Noticed}
use Rattle.ssh_auth.specs.Plan.{Plan, Finish, Ask, Tell, Event, Follows, after}
use Rattle.ssh_auth.specs.Publickey.{Acceptance}
use Rattle.ssh_rules.specs.declared.exchange.ExchangeState.TheVariants.{Idle}
use Rattle.ssh_rules.specs.Acts.{tell_all}
use Rattle.ssh_session.specs.Between.{flushed}
use Rattle.ssh_rules.specs.Exchange.{passage_of}
use Rattle.ssh_rules.specs.Exchanged.{ends_exchange}
use Rattle.ssh_rules.specs.Ledger.{is_kexinit}
use Rattle.ssh_rules.specs.Outcome.{Outcome, Goes, Ends, Fails}
use Rattle.ssh_rules.specs.Run.{Turn, Owes, OwesKind, OwesPassed, passage, finish_input}
use Rattle.ssh_rules.specs.Run.{going_out, goes_unless_ended, hand_on, handed_on, is_due, is_over}
use Rattle.ssh_rules.specs.World.{World, hears, in_exchange}
use Rattle.ssh_rules.proofs.Plans.Acting.{PlanComes}
use Rattle.ssh_rules.proofs.Ledger.Inputs.{kind_kept}
use Rattle.ssh_rules.proofs.Plans.Emptied.{IsUnheld, told_comes, comes_of, owed_emptied, unheld}
use Rattle.ssh_rules.proofs.Ledger.Idling.{ComesIdle, ComesSettled, IsSettled, row_idle, passes_of}
use Rattle.ssh_rules.proofs.Ledger.Idling.{still_idle, ended_settled, handed_settled, owed_renewed}
use Rattle.ssh_rules.proofs.Ledger.Commands.{Kept, ComesKept}
use Rattle.ssh_rules.proofs.Plans.Settled.{Anything}
use Rattle.ssh_drive.specs.Driven.{IsOutside, hands_on}
use Rattle.ssh_drive.specs.Moves.{Place, Made, Served, Said, Let_out, Handed_on, Leads, coming}
use Rattle.ssh_drive.proofs.Behind.{told_first, owes_live, flush_comes}

-- ---- where no exchange runs, all but a KEXINIT is read, as a payload is that has no number

payload_idle : (accepts : Acceptance) (w : World) (moment : ℕ) (payload : List ℕ)
    (plan : Plan Outcome) → OwesKind accepts w moment (input.Payload payload) plan
    → is_kexinit (input.Payload payload) ≡ false → in_exchange w ≡ false
    → PlanComes Anything ComesIdle plan
payload_idle accepts w moment payload plan o other h =
    let v = hears payload w in
    let still = still_idle payload w.keys.exchange h in
    let passes : passage v payload ≡ passage_of Idle 0 [] =
    passes_of v.keys.exchange v.settings.config.window_size payload still other in
    let read = subst (λ at. OwesPassed at accepts v moment payload plan) passes o in
    rw read.2 (row_idle v moment read.0 still)

-- ---- the end of a move

settled : (past : List TraceEntry) (plan : Plan Outcome) → PlanComes Anything ComesIdle plan
    → PlanComes Anything (ComesKept past) plan
    → PlanComes Anything ComesSettled (after plan (finish_input false))
settled past (Finish (Goes w)) h k =
    let v = handed_on w in
    told_comes ComesSettled (map Sent (going_out w)) (goes_unless_ended false v)
    (ended_settled v.disconnected (is_due false v) v (handed_settled past w h k))
settled past (Finish (Ends w)) h k =
    told_comes ComesSettled (map Sent (going_out w)) (is_over (handed_on w)) tt
settled past (Finish (Fails fault)) h k = tt
settled past (Ask question next) h k = λ answer s. settled past (next answer) (h answer s)
    (k answer s)
settled past (Tell entry next) h k = settled past next h k

-- ---- moves

-- a payload that came outside an exchange, and is no KEXINIT
served_settled : {E F : Type 0} (accepts : Acceptance) (past : List TraceEntry) (w : World)
    (moment : ℕ) (payload : List ℕ) (plan : Plan Outcome) (events : List (Event E F))
    (world : World) → Owes accepts w (coming moment payload) plan
    → Follows plan events (Goes world) → Kept past w → in_exchange w ≡ false
    → is_kexinit (input.Payload payload) ≡ false → IsSettled world
served_settled accepts past w moment payload plan events world owes follows k idle other =
    comes_of ComesSettled plan events (Goes world)
    (subst (PlanComes Anything ComesSettled) (sym owes.2)
    (settled past owes.0 (payload_idle accepts w moment payload owes.0 owes.1 other idle)
    (kind_kept accepts past w moment (input.Payload payload) owes.0 owes.1 k))) follows

-- where an exchange ended in these events, it did so behind what was told first
ends_behind : {E F : Type 0} (entries : List TraceEntry) (next : Plan Outcome)
    (events : List (Event E F)) (outcome : Outcome) → Follows (tell_all entries next) events outcome
    → ends_exchange events ≡ true
    → (rest : List (Event E F)) × (ends_exchange rest ≡ true) × Follows next rest outcome
ends_behind [] next events outcome h ends = (events, ends, h)
ends_behind (entry ∷ entries) next [] outcome h ends =
    absurd (let e : Tell entry (tell_all entries next) ≡ Finish outcome = h in cc)
ends_behind {E} {F} (entry ∷ entries) next (event ∷ events) outcome h ends =
    ends_behind entries next events outcome h.1
    (subst (λ first. ends_exchange {E = E} {F = F} (first ∷ events) ≡ true) h.0 ends)

-- nothing waits where no exchange runs behind a payload
served_unheld : {E F : Type 0} (accepts : Acceptance) (w : World) (moment : ℕ)
    (payload : List ℕ) (plan : Plan Outcome) (events : List (Event E F)) (world : World)
    → Owes accepts w (coming moment payload) plan → Follows plan events (Goes world)
    → IsUnheld world
served_unheld {E} {F} accepts w moment payload plan events world owes follows =
    let turn : Turn E F = record {
      input = coming moment payload;
      commands = false;
      replies = false;
      events = events;
    } in
    owed_emptied accepts w turn plan world owes follows

abbrev ComesUnheld : Outcome → Type 0
ComesUnheld (Goes w) = IsUnheld w
ComesUnheld _ = Unit {0}

-- or behind frames that were handed on
flush_unheld : {E F : Type 0} (w : World) (events : List (Event E F)) (world : World)
    → Follows (hand_on w flushed) events (Goes world) → IsUnheld world
flush_unheld w events world h =
    flush_comes ComesUnheld
    (λ v payload k idle. absurd (let e : true ≡ false = idle in cc)) w events world h
    (λ idle. unheld (in_exchange w) w.disconnected w.channels.lines idle)

flush_settled : {E F : Type 0} (past : List TraceEntry) (w : World) (events : List (Event E F))
    (world : World) → Follows (hand_on w flushed) events (Goes world) → Kept past w
    → in_exchange w ≡ false → IsSettled world
flush_settled past w events world h k idle =
    flush_comes ComesSettled (λ v payload settles. settles) w events world h
    (handed_settled past w idle k)

pub lead_settled : {E F : Type 0} (accepts : Acceptance) (moment : ℕ) (past : List TraceEntry)
    (more : List TraceEntry) (before : Place) (made : Made E F) (to : Place)
    → Leads accepts moment before made to → Kept past before.world → Kept more to.world
    → hands_on made ≡ true → IsOutside before made to → IsSettled to.world
lead_settled accepts moment past more before (Served payload events) to (plan, owes, follows, none)
    k later hands out =
    let w = before.world in
    let behind = owes.0 in
    let first = map Noticed before.untold in
    let whole = subst (λ p. Follows p events (Goes to.world)) owes.2 follows in
    let told = told_first first behind events (Goes to.world) whole in
    let live = owes_live w.disconnected accepts w (coming moment payload) behind told.0 to.world
    owes.1 told.2 in
    elim out [
      | inl idle ↦ (
        served_unheld accepts w moment payload behind told.0 to.world live told.2 idle,
        later.due idle,
      )
      | inr none_ran ↦ elim none_ran [
        | inl quiet ↦ served_settled accepts past w moment payload behind told.0 to.world live told.2
            k quiet.0 quiet.1
        | inr ends ↦
            let rest = ends_behind first behind events (Goes to.world) whole ends in
            owed_renewed accepts past w (coming moment payload) behind rest.0 to.world live rest.2 k
            rest.1
      ]
    ]
lead_settled accepts moment past more before (Said command outcome) to leads k later hands out =
    absurd (let e : false ≡ true = hands in cc)
lead_settled accepts moment past more before (Let_out channel count) to leads k later hands out =
    absurd (let e : false ≡ true = hands in cc)
lead_settled accepts moment past more before (Handed_on events) to (plan, owes, follows, none) k
    later hands out =
    let w = before.world in
    let told = told_first (map Noticed before.untold) (hand_on w flushed) events (Goes to.world)
    (subst (λ p. Follows p events (Goes to.world)) owes follows) in
    elim out [
      | inl idle ↦ (flush_unheld w told.0 to.world told.2 idle, later.due idle)
      | inr none_ran ↦ elim none_ran [
        | inl quiet ↦ flush_settled past w told.0 to.world told.2 k quiet.0
        | inr ends ↦ absurd (let e : false ≡ true = ends in cc)
      ]
    ]
