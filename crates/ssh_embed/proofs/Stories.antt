-- Nothing of a connection is served before an accepted authentication: round by round.
use Rattle.std.proofs.Common.{◌≡◌, ◌⊎◌, ℕ, List, [], ◌∷◌, ◌++◌, map, Bool, true, false}
use Rattle.std.proofs.Common.{refl, sym, ◌∙◌, ap, subst, inl, inr, append_assoc}
use Rattle.std.proofs.lemmas.List.{append-nil}
use Rattle.ssh_keys.specs.Tables.{IsListed}
use Rattle.ssh_link.specs.declared.frame.Input.{Input}
use Rattle.ssh_link.specs.declared.link.TraceEntry.TheVariants.{Sent}
use Rattle.ssh_auth.specs.Plan.{Plan, Finish, Follows}
use Rattle.ssh_auth.specs.Publickey.{Acceptance, Circumstances}
use Rattle.ssh_rules.specs.Authorised.{LastNamed}
use Rattle.ssh_rules.specs.Outcome.{Outcome, Goes, Ends, Fails}
use Rattle.ssh_rules.specs.Run.{going_out, hand_on, handed_on, is_over, asks_for_keys}
use Rattle.ssh_rules.specs.World.{Settings, World, circumstances, opening_world}
use Rattle.ssh_rules.proofs.Authorised.Run.{clear_more, some_split}
use Rattle.ssh_rules.proofs.Authorised.Commands.{owed_guarded}
use Rattle.ssh_rules.proofs.Plans.Emptied.{told_comes, comes_of}
use Rattle.ssh_rules.proofs.Authorised.Guards.{IsClear, NamesLast, Guarded, SomeAccepts, Walks}
use Rattle.ssh_rules.proofs.Authorised.Guards.{plan_accepted, input_guarded, walks_guarded, follows_guarded}
use Rattle.ssh_rules.proofs.Plans.Settled.{stays_set}
use Rattle.ssh_session.specs.Between.{OwesUnlessEnded}
use Rattle.ssh_embed.specs.Story.{Happening, Round, turns_of, cut, Leads, SomeoneIsIn}
use Rattle.ssh_embed.specs.Story.{IsAuthorised}

-- ---- a connection that a command ended

abbrev IsNoGoing : Outcome → Type 0
IsNoGoing (Goes w) = ⊥
IsNoGoing (Ends w) = Unit {0}
IsNoGoing (Fails why) = Unit {0}

ends_for_good : (w world : World) (events : List Happening)
    → Follows (hand_on w is_over) events (Goes world) → ⊥
ends_for_good w world events h =
    comes_of IsNoGoing (hand_on w is_over) events (Goes world)
    (told_comes IsNoGoing (map Sent (going_out w)) (is_over (handed_on w)) tt) h

-- what is fixed in a connection stays so
round_set : (ended : Bool) (accepts : Acceptance) (settings : Settings) (w : World)
    (input : Input) (plan : Plan Outcome) (events : List Happening) (world : World)
    → OwesUnlessEnded ended accepts w input plan → Follows plan events (Goes world)
    → w.settings ≡ settings → world.settings ≡ settings
round_set false accepts settings w input plan events world owes follows set =
    stays_set accepts settings w input plan events world owes follows set
round_set true accepts settings w input plan events world owes follows set =
    absurd (ends_for_good w world events
    (subst (λ p. Follows p events (Goes world)) owes follows))

-- ---- what an input owes

owed_so : (ended : Bool) (accepts : Acceptance) (named : List ℕ → Type 0) (a : Type 0)
    (w : World) (input : Input) (plan : Plan Outcome) → OwesUnlessEnded ended accepts w input plan
    → a ⊎ IsClear named w
    → Guarded (circumstances accepts w.settings input.moment) named a input.kind plan
owed_so false accepts named a w input plan owes h =
    let given = circumstances accepts w.settings input.moment in
    subst (Guarded given named a input.kind) (sym owes.2)
    (input_guarded given named a input.kind (asks_for_keys input.kind) owes.0
    (owed_guarded accepts named a w input.moment input.kind owes.0 owes.1 h))
owed_so true accepts named a w input plan owes (inl x) =
    plan_accepted (circumstances accepts w.settings input.moment) named a input.kind plan x
owed_so true accepts named a w input plan owes (inr clear) =
    let given = circumstances accepts w.settings input.moment in
    subst (Guarded given named a input.kind) (sym owes)
    (input_guarded given named a input.kind false (Finish (Ends w)) (inr clear.3))

-- ---- rounds

turns_both : (xs ys : List Round) → turns_of (xs ++ ys) ≡ turns_of xs ++ turns_of ys
turns_both [] ys = refl
turns_both (x ∷ xs) ys = ap (λ ts. x.turn ∷ ts) (turns_both xs ys)

-- somebody is in, or the world is one before that
abbrev IsGuarded : Settings → List Round → World → Type 0
IsGuarded settings rounds w = SomeoneIsIn settings rounds ⊎ IsClear (LastNamed (turns_of rounds)) w

abbrev given_in : Settings → Round → Circumstances
given_in settings round =
    circumstances (IsListed round.vouched) settings round.turn.input.moment

someone_stays : (settings : Settings) (before more : List Round) → SomeoneIsIn settings before
    → SomeoneIsIn settings (before ++ more)
someone_stays settings before more s = (
  s.0,
  s.1 ++ more,
  s.2,
  ap (λ rs. rs ++ more) s.3 ∙ append_assoc s.0 (s.2 ∷ s.1) more,
  s.4,
  s.5,
  s.6,
  s.7,
  s.8,
)

someone_comes : (settings : Settings) (before : List Round) (round : Round)
    (past : List Happening) → SomeoneIsIn settings before
    ⊎ SomeAccepts (given_in settings round) (LastNamed (turns_of before)) round.turn.input.kind past
    → SomeoneIsIn settings (before ++ cut round past ∷ [])
someone_comes settings before round past (inl s) =
    someone_stays settings before (cut round past ∷ []) s
someone_comes settings before round past (inr h) =
    let s = some_split (given_in settings round) (LastNamed (turns_of before))
    round.turn.input.kind past h in
    (before, [], cut round past, refl, s.0, s.1, s.2, s.3, s.4)

-- the plan of a round is one in which nothing that needs a user comes before an accepting answer
round_guarded : (settings : Settings) (before : List Round) (round : Round) (w : World)
    (plan : Plan Outcome) → w.settings ≡ settings → IsGuarded settings before w
    → OwesUnlessEnded w.disconnected (IsListed round.vouched) w round.turn.input plan
    → Guarded (given_in settings round) (LastNamed (turns_of before)) (SomeoneIsIn settings before)
    round.turn.input.kind plan
round_guarded settings before round w plan set h owes =
    let accepts = IsListed round.vouched in
    let named = LastNamed (turns_of before) in
    let a = SomeoneIsIn settings before in
    let kind = round.turn.input.kind in
    subst (λ s. Guarded (circumstances accepts s round.turn.input.moment) named a kind plan) set
    (owed_so w.disconnected accepts named a w round.turn.input plan owes h)

-- so it is behind the round
goes_guarded : (settings : Settings) (before : List Round) (round : Round) (mid : World)
    → (SomeoneIsIn settings before ⊎ SomeAccepts (given_in settings round)
    (LastNamed (turns_of before)) round.turn.input.kind round.turn.events)
    ⊎ IsClear (NamesLast (LastNamed (turns_of before)) round.turn.input.kind) mid
    → IsGuarded settings (before ++ round ∷ []) mid
goes_guarded settings before round mid (inl h) =
    inl (someone_comes settings before round round.turn.events h)
goes_guarded settings before round mid (inr clear) =
    inr (subst (λ ts. IsClear (LastNamed ts) mid) (sym (turns_both before (round ∷ [])))
    (clear_more (turns_of before) round.turn mid clear))

-- ---- the story

leads_guarded : (settings : Settings) (before rounds : List Round) (w world : World)
    → w.settings ≡ settings → IsGuarded settings before w → Leads w rounds world
    → IsGuarded settings (before ++ rounds) world
leads_guarded settings before [] w world set h leads =
    subst (IsGuarded settings (before ++ [])) (sym leads)
    (subst (λ rs. IsGuarded settings rs w) (sym (append-nil before)) h)
leads_guarded settings before (round ∷ rounds) w world set h (mid, plan, owes, follows, leads) =
    let set' = round_set w.disconnected (IsListed round.vouched) settings w round.turn.input plan
    round.turn.events mid owes follows set in
    let guarded = follows_guarded (given_in settings round) (LastNamed (turns_of before))
    (SomeoneIsIn settings before) round.turn.input.kind plan round.turn.events (Goes mid)
    (round_guarded settings before round w plan set h owes) follows in
    subst (λ rs. IsGuarded settings rs world) (append_assoc before (round ∷ []) rounds)
    (leads_guarded settings (before ++ round ∷ []) rounds mid world set'
    (goes_guarded settings before round mid guarded) leads)

pub leads_set : (settings : Settings) (rounds : List Round) (w world : World)
    → w.settings ≡ settings → Leads w rounds world → world.settings ≡ settings
leads_set settings [] w world set leads = ap (λ v. v.settings) leads ∙ set
leads_set settings (round ∷ rounds) w world set (mid, plan, owes, follows, leads) =
    leads_set settings rounds mid world
    (round_set w.disconnected (IsListed round.vouched) settings w round.turn.input plan
    round.turn.events mid owes follows set) leads

pub leads_on : (rounds : List Round) (round : Round) (w world mid : World) (plan : Plan Outcome)
    → Leads w rounds world
    → OwesUnlessEnded world.disconnected (IsListed round.vouched) world round.turn.input plan
    → Follows plan round.turn.events (Goes mid) → Leads w (rounds ++ round ∷ []) mid
leads_on [] round w world mid plan leads owes follows =
    subst (λ v. Leads v (round ∷ []) mid) leads (mid, plan, owes, follows, refl)
leads_on (first ∷ rounds) round w world mid plan (m, p, o, f, leads) owes follows =
    (m, p, o, f, leads_on rounds round m world mid plan leads owes follows)

-- before the first input nobody is in, and nothing is there
opening_guarded : (settings : Settings) → IsGuarded settings [] (opening_world settings)
opening_guarded settings = inr (tt, refl, refl, tt)

-- what an input owes is authorised, as far as it was walked
pub owes_authorised : (settings : Settings) (rounds : List Round) (round : Round) (w : World)
    (plan : Plan Outcome) → Leads (opening_world settings) rounds w
    → OwesUnlessEnded w.disconnected (IsListed round.vouched) w round.turn.input plan
    → Walks plan round.turn.events → IsAuthorised settings rounds round
owes_authorised settings rounds round w plan leads owes walks = λ past more event splits needs.
    let set = leads_set settings rounds (opening_world settings) w refl leads in
    let guarded = leads_guarded settings [] rounds (opening_world settings) w refl
    (opening_guarded settings) leads in
    someone_comes settings rounds round past
    (walks_guarded (given_in settings round) (LastNamed (turns_of rounds))
    (SomeoneIsIn settings rounds) round.turn.input.kind plan past event more
    (round_guarded settings rounds round w plan set guarded owes)
    (subst (Walks plan) splits walks) needs)
