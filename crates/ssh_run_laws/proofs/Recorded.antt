-- What a callback recorded is done in order, and what the events behind it tell of each command is
-- what came of it.
use Rattle.std.proofs.Common.{◌≡◌, ◌≤◌, ◌<◌, ◌+◌, ◌==◌, ◌∙◌, ℕ, List, [], ◌∷◌, ◌++◌, map}
use Rattle.std.proofs.Common.{true, false, cond, Option, Some, None, refl, sym, ap, subst, arith}
use Rattle.std.proofs.Common.{rules}
use Rattle.std.specs.Prelude.{unwrap_or}
use Rattle.std.proofs.lemmas.Bool.{ne_eqb}
use Rattle.ssh_link.specs.declared.command.Command.{Command}
use Rattle.ssh_link.specs.declared.link.TraceEntry.{TraceEntry}
use Rattle.ssh_link.specs.declared.link.TraceEntry.TheVariants.{Noticed}
use Rattle.ssh_link.specs.declared.notice.Notice.{Notice}
use Rattle.ssh_link.specs.declared.outcome.CommandOutcome.{CommandOutcome}
use Rattle.ssh_link.specs.declared.outcome.CommandOutcome.TheVariants.{Accepted, Opened, Refused}
use Rattle.ssh_auth.specs.Plan.{Plan, Event, Told, Follows}
use Rattle.ssh_rules.specs.Acts.{tell_all, tell_done, done, done_all}
use Rattle.ssh_rules.specs.Effect.{Effect, Brings, effect_at}
use Rattle.ssh_rules.specs.Outcome.{Outcome}
use Rattle.ssh_rules.specs.declared.request.ChannelRequest.{ChannelRequest}
use Rattle.ssh_rules.specs.World.{World}
use Rattle.ssh_rules.proofs.Plans.Acting.{EffectComes}
use Rattle.ssh_rules.proofs.Ledger.Commands.{Kept, effect_on}
use Rattle.ssh_run_laws.specs.Deeds.{Commanded, deeds_from, deeds_in, done_at}
use Rattle.ssh_run_laws.specs.Deeds.{outcome_at, told_done_in}
use Rattle.ssh_run_laws.proofs.Chains.{Chain, chain_more}
use Rattle.ssh_run_laws.proofs.Commanding.{AllNoted, EffectLeads, effect_leads}
use Rattle.ssh_run_laws.proofs.Leading.{Leads, calm_same}

-- ---- events

-- nothing was done in this event that concerns a channel, but what it tells of recorded commands
abbrev pub IsBare : {E F : Type 0} → Event E F → Type 0
IsBare {E} {F} event = (given : Option Command) (rest : List (Event E F))
    → done_at given event rest ≡ []

abbrev pub AreBare : {E F : Type 0} → List (Event E F) → Type 0
AreBare [] = Unit {0}
AreBare (event ∷ events) = IsBare event × AreBare events

-- .. and it tells of no recorded command
abbrev pub IsUntold : {E F : Type 0} → Event E F → Type 0
IsUntold event = (place : ℕ) → told_done_in place event ≡ None

abbrev pub AreUntold : {E F : Type 0} → List (Event E F) → Type 0
AreUntold [] = Unit {0}
AreUntold (event ∷ events) = IsUntold event × AreUntold events

pub bare_none : {E F : Type 0} (given : Option Command) (xs ys : List (Event E F)) → AreBare xs
    → deeds_in given (xs ++ ys) ≡ deeds_in given ys
bare_none given [] ys h = refl
bare_none given (x ∷ xs) ys h =
    ap (λ l. l ++ deeds_in given (xs ++ ys)) (h.0 given (xs ++ ys)) ∙ bare_none given xs ys h.1

untold_accepted : {E F : Type 0} (place : ℕ) (xs : List (Event E F)) → AreUntold xs
    → outcome_at place xs ≡ Accepted
untold_accepted place [] h = refl
untold_accepted place (x ∷ xs) h =
    ap (λ o. unwrap_or o (outcome_at place xs)) (h.0 place) ∙ untold_accepted place xs h.1

-- events behind that tell of no recorded command change nothing
pub outcome_front : {E F : Type 0} (place : ℕ) (xs ys : List (Event E F)) → AreUntold ys
    → outcome_at place (xs ++ ys) ≡ outcome_at place xs
outcome_front place [] ys h = untold_accepted place ys h
outcome_front place (x ∷ xs) ys h =
    ap (λ o. unwrap_or (told_done_in place x) o) (outcome_front place xs ys h)

pub deeds_same : {E F : Type 0} (place : ℕ) (commands : List Command) (xs ys : List (Event E F))
    → ((p : ℕ) → place ≤ p → outcome_at p xs ≡ outcome_at p ys)
    → deeds_from place commands xs ≡ deeds_from place commands ys
deeds_same place [] xs ys h = refl
deeds_same place (one ∷ commands) xs ys h =
    ap (λ o. Commanded one o ∷ deeds_from (place + 1) commands xs) (h place (omega arith))
    ∙ ap (λ l. Commanded one (outcome_at place ys) ∷ l)
    (deeds_same (place + 1) commands xs ys (λ p low. h p (omega (arith, low))))

pub deeds_front : {E F : Type 0} (place : ℕ) (commands : List Command) (xs ys : List (Event E F))
    → AreUntold ys → deeds_from place commands (xs ++ ys) ≡ deeds_from place commands xs
deeds_front place commands xs ys h =
    deeds_same place commands (xs ++ ys) xs (λ p low. outcome_front p xs ys h)

-- ---- what was recorded

same_number : (k : ℕ) → (k == k) ≡ true
same_number k = search rules

other_number : (p place : ℕ) → place + 1 ≤ p → (p == place) ≡ false
other_number p place l = ne_eqb p place (λ same. omega (arith, l, same))

lower_number : (p place : ℕ) → p < place → (p == place) ≡ false
lower_number p place l = ne_eqb p place (λ same. omega (arith, l, same))

module _ {E F : Type 0} (n : ℕ) (past : List TraceEntry) (next : World → Plan Outcome)
    (outcome : Outcome)
  where
    -- what was recorded from this place on is done: these events are what is told of it, and the
    -- rest follows
    pub record Did (place : ℕ) (commands : List Command) (w : World) (events : List (Event E F))
        : Type 0 where
      pub world : World
      pub early : List (Event E F)
      pub rest : List (Event E F)
      pub is : events ≡ early ++ rest
      pub follows : Follows (next world) rest outcome
      pub kept : Kept past world
      pub chain : Chain n w (deeds_from place commands early) world
      pub bare : AreBare early
      pub low : (p : ℕ) → p < place → outcome_at p early ≡ Accepted

    -- a quiet event before it
    did_quiet : (place : ℕ) (commands : List Command) (w : World) (event : Event E F)
        (events : List (Event E F)) → IsBare event → IsUntold event
        → Did place commands w events → Did place commands w (event ∷ events)
    did_quiet place commands w event events bare untold a = record {
      world = a.world;
      early = event ∷ a.early;
      rest = a.rest;
      is = ap (λ l. event ∷ l) a.is;
      follows = a.follows;
      kept = a.kept;
      chain = subst (λ l. Chain n w l a.world)
          (sym (deeds_same place commands (event ∷ a.early) a.early
          (λ p l. ap (λ o. unwrap_or o (outcome_at p a.early)) (untold p)))) a.chain;
      bare = (bare, a.bare);
      low = λ p l. ap (λ o. unwrap_or o (outcome_at p a.early)) (untold p) ∙ a.low p l;
    }

    -- a command that is accepted, of which nothing is told
    did_accepted : (place : ℕ) (one : Command) (commands : List Command) (w v : World)
        (events : List (Event E F)) → Leads n (Commanded one Accepted) w v
        → Did (place + 1) commands v events → Did place (one ∷ commands) w events
    did_accepted place one commands w v events leads a = record {
      world = a.world;
      early = a.early;
      rest = a.rest;
      is = a.is;
      follows = a.follows;
      kept = a.kept;
      chain = subst (λ o. Chain n w (Commanded one o ∷ deeds_from (place + 1) commands a.early)
          a.world) (sym (a.low place (omega arith)))
          (chain_more n (Commanded one Accepted) w v (deeds_from (place + 1) commands a.early)
          a.world leads a.chain);
      bare = a.bare;
      low = λ p l. a.low p (omega (arith, l));
    }

    -- one of which the handler is told
    did_told : (place : ℕ) (one : Command) (commands : List Command) (w v : World)
        (came : CommandOutcome) (event : Event E F) (events : List (Event E F)) → IsBare event
        → ((p : ℕ) → told_done_in p event ≡ cond (p == place) (Some came) None)
        → Leads n (Commanded one came) w v → Did (place + 1) commands v events
        → Did place (one ∷ commands) w (event ∷ events)
    did_told place one commands w v came event events bare tells leads a =
        let here : outcome_at place (event ∷ a.early) ≡ came =
        ap (λ o. unwrap_or o (outcome_at place a.early))
        (tells place ∙ ap (λ b. cond b (Some came) None) (same_number place)) in
        let later = deeds_same (place + 1) commands (event ∷ a.early) a.early
        (λ p l. ap (λ o. unwrap_or o (outcome_at p a.early))
        (tells p ∙ ap (λ b. cond b (Some came) None) (other_number p place l))) in
        record {
          world = a.world;
          early = event ∷ a.early;
          rest = a.rest;
          is = ap (λ l. event ∷ l) a.is;
          follows = a.follows;
          kept = a.kept;
          chain = subst (λ o. Chain n w (Commanded one o
              ∷ deeds_from (place + 1) commands (event ∷ a.early)) a.world) (sym here)
              (subst (λ l. Chain n w (Commanded one came ∷ l) a.world) (sym later)
              (chain_more n (Commanded one came) w v
              (deeds_from (place + 1) commands a.early) a.world leads a.chain));
          bare = (bare, a.bare);
          low = λ p l. ap (λ o. unwrap_or o (outcome_at p a.early))
              (tells p ∙ ap (λ b. cond b (Some came) None)
              (lower_number p place (omega (arith, l)))) ∙ a.low p (omega (arith, l));
        }

    did_noticed : (place : ℕ) (commands : List Command) (w : World) (notices : List Notice)
        (plan : Plan Outcome) (events : List (Event E F)) → AllNoted notices
        → Follows (tell_all (map Noticed notices) plan) events outcome
        → ((rest : List (Event E F)) → Follows plan rest outcome → Did place commands w rest)
        → Did place commands w events
    did_noticed place commands w [] plan events noted f k = k events f
    did_noticed place commands w (notice ∷ notices) plan [] noted f k = absurd (cc)
    did_noticed place commands w (notice ∷ notices) plan (event ∷ events) noted f k =
        subst (λ x. Did place commands w (x ∷ events)) (sym f.0)
        (did_quiet place commands w (Told (Noticed notice)) events (λ given rest. noted.0)
        (λ p. refl) (did_noticed place commands w notices plan events noted.1 f.1 k))

    -- one command, of which the handler is told where it opens a channel or is refused
    told_did : (at : Option ChannelRequest) (place : ℕ) (one : Command) (commands : List Command)
        (w v : World) (came : CommandOutcome) (events : List (Event E F))
        → Leads n (Commanded one came) w v
        → Follows (tell_done place came (done_all at (place + 1) commands v next)) events outcome
        → ((rest : List (Event E F)) → Follows (done_all at (place + 1) commands v next) rest
        outcome → Did (place + 1) commands v rest)
        → Did place (one ∷ commands) w events
    told_did at place one commands w v Accepted events leads f k =
        did_accepted place one commands w v events leads (k events f)
    told_did at place one commands w v (Opened channel) [] leads f k = absurd (cc)
    told_did at place one commands w v (Opened channel) (event ∷ events) leads f k =
        subst (λ x. Did place (one ∷ commands) w (x ∷ events)) (sym f.1)
        (did_told place one commands w v (Opened channel) _ events (λ given rest. refl)
        (λ p. refl) leads (k events f.2))
    told_did at place one commands w v (Refused why) [] leads f k = absurd (cc)
    told_did at place one commands w v (Refused why) (event ∷ events) leads f k =
        subst (λ x. Did place (one ∷ commands) w (x ∷ events)) (sym f.1)
        (did_told place one commands w v (Refused why) _ events (λ given rest. refl)
        (λ p. refl) leads (k events f.2))

    effect_did : (at : Option ChannelRequest) (place : ℕ) (one : Command)
        (commands : List Command) (w : World) (does : Effect) (events : List (Event E F))
        → EffectLeads n w one does → EffectComes (Kept past) does
        → Follows (done does (λ came v. tell_done place came
        (done_all at (place + 1) commands v next))) events outcome
        → ((v : World) (rest : List (Event E F)) → Kept past v
        → Follows (done_all at (place + 1) commands v next) rest outcome
        → Did (place + 1) commands v rest)
        → Did place (one ∷ commands) w events
    effect_did at place one commands w (Brings notices came v) events leads kept f k =
        did_noticed place (one ∷ commands) w notices
        (tell_done place came (done_all at (place + 1) commands v next)) events leads.0 f
        (λ rest g. told_did at place one commands w v came rest leads.1 g (λ more h. k v more kept h))

    -- all that was recorded
    pub all_did : (at : Option ChannelRequest) (place : ℕ) (commands : List Command) (w : World)
        (events : List (Event E F)) → Kept past w
        → Follows (done_all at place commands w next) events outcome
        → Did place commands w events
    all_did at place [] w events kept f = record {
      world = w;
      early = [];
      rest = events;
      is = refl;
      follows = f;
      kept = kept;
      chain = calm_same n w;
      bare = tt;
      low = λ p l. refl;
    }
    all_did at place (one ∷ commands) w events kept f =
        effect_did at place one commands w (effect_at at w one) events
        (effect_leads n at past w one kept) (effect_on at past w one kept)
        f (λ v rest k g. all_did at (place + 1) commands v rest k g)
