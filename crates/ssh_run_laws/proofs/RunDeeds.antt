-- What a run leads to is what was done in it, one deed after another.
use Rattle.std.proofs.Common.{◌≡◌, ◌∙◌, ℕ, List, [], ◌∷◌, ◌++◌, map, Bool, true, false, Option}
use Rattle.std.proofs.Common.{Some, None, refl, sym, ap, subst}
use Rattle.std.specs.Prelude.{drop, flat_map, if◌then◌else◌}
use Rattle.std.proofs.lemmas.List.{append-nil}
use Rattle.ssh_link.specs.declared.command.Command.{Command}
use Rattle.ssh_link.specs.declared.command.Command.TheVariants as command
use Rattle.ssh_link.specs.declared.frame.InputKind.{InputKind}
use Rattle.ssh_link.specs.declared.frame.InputKind.TheVariants as input
use Rattle.ssh_link.specs.declared.link.TraceEntry.{TraceEntry}
use Rattle.ssh_link.specs.declared.link.TraceEntry.TheVariants.{Noticed, Answered}
use Rattle.ssh_link.specs.declared.notice.Notice.{Notice}
use Rattle.ssh_link.specs.declared.outcome.CommandOutcome.{CommandOutcome}
use Rattle.ssh_auth.specs.Plan.{Plan, Finish, Tell, Event, Called, Stepped, Told, Follows}
use Rattle.ssh_auth.specs.Publickey.{Acceptance}
use Rattle.ssh_auth.specs.Was.{asked_of, was}
use Rattle.ssh_rules.specs.Acts.{Is_over, Stops, Turns, done, tell_all}
use Rattle.ssh_rules.specs.Answered.{open_asked}
use Rattle.ssh_rules.specs.Effect.{Brings, Effect, effect, said}
use Rattle.ssh_rules.specs.Gate.{gate_of}
use Rattle.ssh_rules.specs.Outcome.{Outcome, Goes, Keepalive_timeout}
use Rattle.ssh_rules.specs.OwnMessages.{keepalive}
use Rattle.ssh_rules.specs.Rows.{exchange_acts}
use Rattle.ssh_rules.specs.Run.{Owes, OwesKind, Run, Turn, asks_for_keys}
use Rattle.ssh_rules.specs.Run.{command_row, entries, finish_input}
use Rattle.ssh_rules.specs.Ticks.{inactivity_acts, is_too_many, keepalive_acts, one_more, ticked}
use Rattle.ssh_rules.specs.Valid.{recorded_so}
use Rattle.ssh_rules.specs.World.{World, circumstances, hears}
use Rattle.ssh_rules.proofs.Plans.Acting.{ActsCome}
use Rattle.ssh_rules.proofs.Plans.Apart.{tick_comes}
use Rattle.ssh_rules.proofs.Ledger.Inputs.{early_runs, fair_at, owed_kept}
use Rattle.ssh_rules.proofs.Ledger.Commands.{Kept, beside_on, said_on}
use Rattle.ssh_rules.proofs.Ledger.Acts.{exchanged_on, law}
use Rattle.ssh_rules.proofs.Plans.Passing.{payload_so}
use Rattle.ssh_rules.proofs.InOrder.Inputs.{parts_of}
use Rattle.ssh_rules.specs.declared.exchange.Passage.{Passage}
use Rattle.ssh_rules.specs.declared.exchange.Passage.TheVariants.{Begins, Steps, Barred, Late}
use Rattle.ssh_rules.specs.declared.exchange.Passage.TheVariants.{Passes}
use Rattle.ssh_run_laws.specs.Deeds.{Commanded, asked_by, deeds, deeds_in, done_at}
use Rattle.ssh_run_laws.specs.Deeds.{given_by}
use Rattle.ssh_run_laws.proofs.Calms.{AreCalm, ComesBy, acts_come_by, comes_behind, comes_more}
use Rattle.ssh_run_laws.proofs.Calms.{finish_comes}
use Rattle.ssh_run_laws.proofs.CalmRows.{exchange_calm, written_calm}
use Rattle.ssh_run_laws.proofs.Chains.{Chain, chain_both, chain_more}
use Rattle.ssh_run_laws.proofs.Commanding.{AllNoted, EffectLeads, effect_leads}
use Rattle.ssh_run_laws.proofs.Leading.{Leads, calm_beside, calm_same}
use Rattle.ssh_run_laws.proofs.Recorded.{AreBare, AreUntold, bare_none, deeds_front}
use Rattle.ssh_run_laws.proofs.RowDeeds.{row_comes}

-- ---- events behind in which nothing was done

bare_nothing : {E F : Type 0} (given : Option Command) (xs : List (Event E F)) → AreBare xs
    → deeds_in given xs ≡ []
bare_nothing given xs h =
    ap (deeds_in given) (sym (append-nil xs)) ∙ bare_none given xs [] h

done_front : {E F : Type 0} (given : Option Command) (event : Event E F)
    (xs ys : List (Event E F)) → AreUntold ys
    → done_at given event (xs ++ ys) ≡ done_at given event xs
done_front given (Called call) xs ys h =
    ap (λ l. asked_by (open_asked (asked_of call)) ++ l)
    (deeds_front 0 (recorded_so (was call)) xs ys h)
done_front given (Stepped step) xs ys h = refl
done_front given (Told entry) xs ys h = refl

pub deeds_behind : {E F : Type 0} (given : Option Command) (xs ys : List (Event E F)) → AreBare ys
    → AreUntold ys → deeds_in given (xs ++ ys) ≡ deeds_in given xs
deeds_behind given [] ys bare untold = bare_nothing given ys bare
deeds_behind given (x ∷ xs) ys bare untold =
    ap (λ l. l ++ deeds_in given (xs ++ ys)) (done_front given x xs ys untold)
    ∙ ap (λ l. done_at given x xs ++ l) (deeds_behind given xs ys bare untold)

-- ---- acts of inputs

exchange_come : (past : List TraceEntry) (payload : List ℕ) (at : Passage) (w : World) → Kept past w
    → ActsCome (law past) (exchange_acts payload at) w
exchange_come past payload Begins w kept =
    (exchanged_on past w kept, λ v k. (exchanged_on past v k, λ u j. tt))
exchange_come past payload Steps w kept = (exchanged_on past w kept, λ v k. tt)
exchange_come past payload Barred w kept = tt
exchange_come past payload Late w kept = tt
exchange_come past payload Passes w kept = tt

tick_calm : (n : ℕ) (w : World) (many : Bool)
    → AreCalm n (if many then Stops Keepalive_timeout ∷ []
    else Turns (λ v. said keepalive (ticked v)) ∷ [])
tick_calm n w true = tt
tick_calm n w false = (λ v. written_calm n v _ refl refl refl, tt)

module _ {E F : Type 0} (n : ℕ) (past : List TraceEntry)
  where
    -- ---- commands from outside

    answered_comes : (w v : World) (ticket : ℕ) (one : Command) (came : CommandOutcome)
        (events : List (Event E F)) (outcome : Outcome) → Leads n (Commanded one came) w v
        → Follows (Tell (Answered ticket came) (Finish (Goes v))) events outcome
        → ComesBy n w (deeds_in (Some one) events) outcome
    answered_comes w v ticket one came [] outcome leads f = absurd (cc)
    answered_comes w v ticket one came (event ∷ other ∷ events) outcome leads f = absurd f.1
    answered_comes w v ticket one came (event ∷ []) outcome leads f =
        let same : Goes v ≡ outcome = let e = f.1 in cc in
        subst (λ x. ComesBy n w (deeds_in {E = E} {F = F} (Some one) (x ∷ [])) outcome) (sym f.0)
        (subst (ComesBy n w (Commanded one came ∷ [])) same
        (chain_more n (Commanded one came) w v [] v leads (calm_same n v)))

    noticed_comes : (w : World) (one : Command) (notices : List Notice) (plan : Plan Outcome)
        (events : List (Event E F)) (outcome : Outcome) → AllNoted notices
        → Follows (tell_all (map Noticed notices) plan) events outcome
        → ((rest : List (Event E F)) → Follows plan rest outcome
        → ComesBy n w (deeds_in (Some one) rest) outcome)
        → ComesBy n w (deeds_in (Some one) events) outcome
    noticed_comes w one [] plan events outcome noted f k = k events f
    noticed_comes w one (notice ∷ notices) plan [] outcome noted f k = absurd (cc)
    noticed_comes w one (notice ∷ notices) plan (event ∷ events) outcome noted f k =
        comes_more n (Some one) w event events outcome
        (ap (λ x. done_at (Some one) x events) f.0 ∙ noted.0)
        (noticed_comes w one notices plan events outcome noted.1 f.1 k)

    effect_comes : (w : World) (ticket : ℕ) (one : Command) (does : Effect)
        (events : List (Event E F)) (outcome : Outcome) → EffectLeads n w one does
        → Follows (done does (λ came v. Tell (Answered ticket came) (Finish (Goes v)))) events
        outcome → ComesBy n w (deeds_in (Some one) events) outcome
    effect_comes w ticket one (Brings notices came v) events outcome leads f =
        noticed_comes w one notices (Tell (Answered ticket came) (Finish (Goes v))) events outcome
        leads.0 f (λ rest g. answered_comes w v ticket one came rest outcome leads.1 g)

    command_comes : (w : World) (ticket : ℕ) (one : Command) (events : List (Event E F))
        (outcome : Outcome) → Kept past w → Follows (command_row w ticket one) events outcome
        → ComesBy n w (deeds_in (Some one) events) outcome
    command_comes w ticket one events outcome kept f =
        effect_comes w ticket one (effect w one) events outcome
        (effect_leads n None past w one kept) f

    -- ---- inputs

    kind_comes : (accepts : Acceptance) (w : World) (moment : ℕ) (kind : InputKind)
        (plan : Plan Outcome) (events : List (Event E F)) (outcome : Outcome)
        → OwesKind accepts w moment kind plan → Kept past w → Follows plan events outcome
        → ComesBy n w (deeds_in (given_by kind) events) outcome
    kind_comes accepts w moment input.End plan events outcome o kept f =
        acts_come_by n past (Is_over ∷ []) w events outcome tt kept kept
        (subst (λ p. Follows p events outcome) o f)
    kind_comes accepts w moment (input.Payload payload) plan events outcome o kept f =
        let v = hears payload w in
        let heard = beside_on past w v refl (early_runs payload w.keys.exchange) kept in
        comes_behind n w v (deeds_in None events) outcome (calm_beside n w v refl)
        (payload_so accepts v moment payload plan
        (λ p. Follows p events outcome → ComesBy n v (deeds_in None events) outcome) o
        (λ said says g. row_comes n past v moment said events outcome
        (fair_at (circumstances accepts v.settings moment) v (gate_of v payload) (drop 1 payload)
        said says) heard g)
        (λ at g. acts_come_by n past (exchange_acts payload at) v events outcome
        (exchange_calm n payload at) heard (exchange_come past payload at v heard) g) f)
    kind_comes accepts w moment (input.Command ticket one) plan events outcome o kept f =
        command_comes w ticket one events outcome kept (subst (λ p. Follows p events outcome) o f)
    kind_comes accepts w moment (input.OpenReply ticket answer) plan events outcome o kept f =
        command_comes w ticket (command.Answer answer) events outcome kept
        (subst (λ p. Follows p events outcome) o f)
    kind_comes accepts w moment input.KeepaliveTick plan events outcome o kept f =
        acts_come_by n past (keepalive_acts w) w events outcome
        (tick_calm n w (is_too_many w.settings.config (one_more w.keepalives))) kept
        (tick_comes (law past) w tt
        (said_on past keepalive (ticked w) (beside_on past w (ticked w) refl (λ out. out) kept)))
        (subst (λ p. Follows p events outcome) o f)
    kind_comes accepts w moment input.InactivityTick plan events outcome o kept f =
        acts_come_by n past inactivity_acts w events outcome tt kept tt
        (subst (λ p. Follows p events outcome) o f)
    kind_comes accepts w moment input.RekeyTick plan events outcome o kept f =
        acts_come_by n past [] w events outcome tt kept tt
        (subst (λ p. Follows p events outcome) o f)

-- ---- an input whole, and a run

-- what was done in an input was done before its frames are handed on
pub record Parted {E F : Type 0} (n : ℕ) (w : World) (turn : Turn E F) (first : Plan Outcome)
    (outcome : Outcome) : Type 0 where
  pub early : List (Event E F)
  pub between : Outcome
  pub follows : Follows first early between
  pub is : deeds turn ≡ deeds_in (given_by turn.input.kind) early
  pub comes : ComesBy n w (deeds turn) outcome

pub turn_parted : {E F : Type 0} (n : ℕ) (accepts : Acceptance) (past : List TraceEntry)
    (w : World) (turn : Turn E F) (plan : Plan Outcome) (outcome : Outcome)
    → (owes : Owes accepts w turn.input plan) → Follows plan turn.events outcome → Kept past w
    → Parted n w turn owes.0 outcome
turn_parted {E} {F} n accepts past w turn plan outcome owes f kept =
    let kind = turn.input.kind in
    let ticked = asks_for_keys kind in
    let p = parts_of owes.0 (finish_input ticked) turn.events outcome
    (subst (λ q. Follows q turn.events outcome) owes.2 f) in
    let first = kind_comes n past accepts w turn.input.moment kind owes.0 p.early p.between owes.1
    kept p.first in
    let end = finish_comes {E = E} {F = F} n past w (deeds_in (given_by kind) p.early) ticked
    p.between p.rest outcome first p.second in
    let is : deeds turn ≡ deeds_in (given_by kind) p.early =
    ap (deeds_in (given_by kind)) p.is ∙ deeds_behind (given_by kind) p.early p.rest end.1 end.2 in
    record {
      early = p.early;
      between = p.between;
      follows = p.first;
      is = is;
      comes = subst (λ l. ComesBy n w l outcome) (sym is) end.0;
    }

pub turn_comes : {E F : Type 0} (n : ℕ) (accepts : Acceptance) (past : List TraceEntry) (w : World)
    (turn : Turn E F) (plan : Plan Outcome) (outcome : Outcome) → Owes accepts w turn.input plan
    → Follows plan turn.events outcome → Kept past w → ComesBy n w (deeds turn) outcome
turn_comes n accepts past w turn plan outcome owes f kept =
    (turn_parted n accepts past w turn plan outcome owes f kept).comes

pub run_chain : {E F : Type 0} (n : ℕ) (accepts : Acceptance) (past : List TraceEntry) (w : World)
    (turns : List (Turn E F)) (world : World) → Run accepts w turns world → Kept past w
    → Chain n w (flat_map deeds turns) world
run_chain n accepts past w [] world run kept = subst (Chain n w []) (sym run) (calm_same n w)
run_chain n accepts past w (turn ∷ turns) world run kept =
    let t = run.1 in
    chain_both n w (deeds turn) (flat_map deeds turns) run.0 world
    (turn_comes n accepts past w turn t.0 (Goes run.0) t.1 t.2 kept)
    (run_chain n accepts (past ++ entries turn) run.0 turns world run.2
    (owed_kept accepts past w turn t.0 run.0 t.1 t.2 kept))
