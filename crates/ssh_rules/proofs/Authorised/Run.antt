-- Nothing of the connection is served before an accepted authentication: by induction over a run.
use Rattle.std.proofs.Common.{◌≡◌, ◌⊎◌, ℕ, List, [], ◌∷◌, ◌++◌, Option, Some, None, Result, Ok, Err}
use Rattle.std.proofs.Common.{refl, sym, ◌∙◌, ap, subst, inl, inr, append_assoc}
use Rattle.std.specs.Prelude.{option_to_list}
use Rattle.ssh_link.specs.declared.frame.InputKind.{InputKind}
use Rattle.ssh_auth.specs.declared.call.Call.{Call}
use Rattle.ssh_auth.specs.Plan.{Plan, Event, Called, Stepped, Told, Handler_error, Exchange_error}
use Rattle.ssh_auth.specs.Plan.{Follows}
use Rattle.ssh_auth.specs.Plan.{calls_in}
use Rattle.ssh_auth.specs.Publickey.{Acceptance, Circumstances}
use Rattle.ssh_rules.specs.declared.error.RunError.{RunError}
use Rattle.ssh_rules.specs.declared.state.EncryptedState.{EncryptedState}
use Rattle.ssh_rules.specs.declared.state.EncryptedState.TheVariants.{WaitingAuthServiceRequest}
use Rattle.ssh_rules.specs.declared.state.EncryptedState.TheVariants.{WaitingAuthRequest}
use Rattle.ssh_rules.specs.Account.{Concludes, Closes}
use Rattle.ssh_rules.specs.Authorised.{IsRequestOf, IsAccepting, NeedsUser, NoneRequests}
use Rattle.ssh_rules.specs.Authorised.{LastNamed, SomeoneIsIn, Authorised}
use Rattle.ssh_rules.specs.Outcome.{Outcome, Goes, Ends, Fails}
use Rattle.ssh_rules.specs.Run.{Turn, Run, Owes, IsTaken, asks_for_keys}
use Rattle.ssh_rules.specs.Cause.{Cause, Wants_memory, Link_failed, Limit_reached, Faulty}
use Rattle.ssh_rules.specs.Cause.{Refused_by, Broken_by, cause_of, IsCaused}
use Rattle.ssh_rules.specs.World.{Settings, World, circumstances, opening_world}
use Rattle.ssh_rules.proofs.Authorised.Commands.{owed_guarded}
use Rattle.ssh_rules.proofs.Plans.Emptied.{nothing_left}
use Rattle.ssh_rules.proofs.Authorised.Guards.{Guarded, IsBefore, IsClear, NamesLast, SomeAccepts, Walks}
use Rattle.ssh_rules.proofs.Authorised.Guards.{input_guarded}
use Rattle.ssh_rules.proofs.Authorised.Guards.{walks_guarded, follows_guarded, begins_walks, follows_walks}
use Rattle.ssh_rules.proofs.Authorised.Guards.{breaks_walks}
use Rattle.ssh_rules.proofs.Plans.Settled.{stays_set}

-- ---- inputs one after another

-- these inputs were taken, as each was asked for, and each but the last was finished
abbrev pub AllWalk : {E F : Type 0} → Acceptance → World → List (Turn E F) → Type 0
AllWalk accepts w [] = Unit {0}
AllWalk accepts w (turn ∷ turns) = (plan : Plan Outcome) × Owes accepts w turn.input plan
    × Walks plan turn.events
    × ((turns ≡ []) ⊎ ((mid : World) × Follows plan turn.events (Goes mid)
    × AllWalk accepts mid turns)) × IsTaken w turn

pub caused_walks : {E F : Type 0} (cause : Cause E F) (plan : Plan Outcome) (rose : Type 0)
    (events : List (Event E F)) →
    IsCaused cause plan rose events → Walks plan events
caused_walks Wants_memory plan rose events h = begins_walks plan events h
caused_walks Link_failed plan rose events h = begins_walks plan events h.1
caused_walks Limit_reached plan rose events h = absurd h
caused_walks (Faulty fault) plan rose events h = follows_walks plan events (Fails fault) h
caused_walks (Refused_by e) plan rose events h = breaks_walks plan events (Handler_error e) h
caused_walks (Broken_by e) plan rose events h = breaks_walks plan events (Exchange_error e) h

concluded_walks : {E F : Type 0} (plan : Plan Outcome) (events : List (Event E F)) (rose : Type 0)
    (result : Result (Unit {0}) (RunError E F)) → Concludes plan events rose result
    → Walks plan events
concluded_walks plan events rose (Ok done) h = follows_walks plan events (Ends h.0) h.1
concluded_walks plan events rose (Err e) h = caused_walks (cause_of e) plan rose events h

pub last_walks : {E F : Type 0} (accepts : Acceptance) (w : World) (count max : ℕ)
    (last : Option (Turn E F)) (rose : Type 0)
    (result : Result (Unit {0}) (RunError E F)) → Closes accepts w count max last rose result →
    AllWalk accepts w (option_to_list last)
last_walks accepts w count max None rose result h = tt
last_walks accepts w count max (Some turn) rose result h =
    let c = h.2 in (c.0, c.1, concluded_walks c.0 turn.events rose result c.2, inl refl, h.1)

pub run_walks : {E F : Type 0} (accepts : Acceptance) (w : World) (turns : List (Turn E F))
    (world : World) (last : List (Turn E F)) →
    Run accepts w turns world → AllWalk accepts world last → AllWalk accepts w (turns ++ last)
run_walks accepts w [] world last run h = subst (λ v. AllWalk accepts v last) run h
run_walks accepts w (turn ∷ turns) world last run h =
    let t = run.1 in (
      t.0,
      t.1,
      follows_walks t.0 turn.events (Goes run.0) t.2,
      inr (run.0, t.2, run_walks accepts run.0 turns world last run.2 h),
      t.3,
    )

-- the world behind the first of these inputs, in which the others were taken
pub record Behind {E F : Type 0} (accepts : Acceptance) (w : World)
    (before rest : List (Turn E F)) : Type 0 where
  pub world : World
  pub run : Run accepts w before world
  pub walks : AllWalk accepts world rest

pub behind : {E F : Type 0} (accepts : Acceptance) (w : World) (before : List (Turn E F))
    (turn : Turn E F) (rest : List (Turn E F)) → AllWalk accepts w (before ++ turn ∷ rest)
    → Behind accepts w before (turn ∷ rest)
behind accepts w [] turn rest all = record { world = w; run = refl; walks = all }
behind accepts w (t ∷ before) turn rest (plan, owes, walks, inl last, taken) =
    absurd (nothing_left before turn rest last)
behind accepts w (t ∷ before) turn rest (plan, owes, walks, inr next, taken) =
    let at = behind accepts next.0 before turn rest next.2 in
    record {
      world = at.world;
      run = (next.0, (plan, owes, next.1, taken), at.run);
      walks = at.walks;
    }

-- ---- who was named last

none_more : {E F : Type 0} (turns : List (Turn E F)) (turn : Turn E F) → NoneRequests turns →
    ((user : List ℕ) → IsRequestOf user turn.input.kind → ⊥) → NoneRequests (turns ++ turn ∷ [])
none_more [] turn h k = (k, tt)
none_more (t ∷ turns) turn h k = (h.0, none_more turns turn h.1 k)

named_more : {E F : Type 0} (before : List (Turn E F)) (turn : Turn E F) (user : List ℕ) →
    NamesLast (LastNamed before) turn.input.kind user → LastNamed (before ++ turn ∷ []) user
named_more before turn user (inl request) = (before, [], turn, refl, request, tt)
named_more before turn user (inr h) =
    let l = h.1 in (
      l.0,
      l.1 ++ turn ∷ [],
      l.2,
      ap (λ ts. ts ++ turn ∷ []) l.3 ∙ append_assoc l.0 (l.2 ∷ l.1) (turn ∷ []),
      l.4,
      none_more l.1 turn l.5 h.0,
    )

pub before_weak : (named other : List ℕ → Type 0) (state : EncryptedState)
    → ((user : List ℕ) → named user → other user) →
    IsBefore named state → IsBefore other state
before_weak named other (WaitingAuthServiceRequest sent accepted) f h = tt
before_weak named other (WaitingAuthRequest auth) f h = λ principal is.
    f principal.user (h principal is)
before_weak named other _ f h = absurd h

pub clear_more : {E F : Type 0} (before : List (Turn E F)) (turn : Turn E F) (w : World) →
    IsClear (NamesLast (LastNamed before) turn.input.kind) w
    → IsClear (LastNamed (before ++ turn ∷ [])) w
clear_more before turn w h = (
  before_weak (NamesLast (LastNamed before) turn.input.kind) (LastNamed (before ++ turn ∷ []))
      w.user.state
      (named_more before turn) h.0,
  h.1,
  h.2,
  h.3,
)

-- ---- who is in

pub someone_earlier : {E F : Type 0} (accepts : Acceptance) (settings : Settings)
    (before more : List (Turn E F)) →
    SomeoneIsIn accepts settings before → SomeoneIsIn accepts settings (before ++ more)
someone_earlier accepts settings before more h =
    let s = h in (
      s.0,
      s.1 ++ more,
      s.2,
      ap (λ ts. ts ++ more) s.3 ∙ append_assoc s.0 (s.2 ∷ s.1) more,
      s.4,
      s.5,
      s.6,
      s.7,
      s.8,
    )

-- the calls around one that accepts
pub some_split : {E F : Type 0} (given : Circumstances) (named : List ℕ → Type 0) (kind : InputKind)
    (events : List (Event E F)) →
    SomeAccepts given named kind events →
    (earlier later : List (Call E)) × (call : Call E) × (calls_in events ≡ earlier ++ call ∷ later)
    × IsAccepting given named kind call
some_split given named kind [] h = absurd h
some_split given named kind (Called call ∷ events) (inl h) = ([], calls_in events, call, refl, h)
some_split given named kind (Called call ∷ events) (inr h) =
    let s = some_split given named kind events h in (
      call ∷ s.0,
      s.1,
      s.2,
      ap (λ cs. call ∷ cs) s.3,
      s.4,
    )
some_split given named kind (Stepped step ∷ events) h = some_split given named kind events h
some_split given named kind (Told entry ∷ events) h = some_split given named kind events h

someone_now : {E F : Type 0} (accepts : Acceptance) (settings : Settings) (before : List (Turn E F))
    (turn : Turn E F)
    (past : List (Event E F)) →
    SomeoneIsIn accepts settings before
    ⊎ SomeAccepts (circumstances accepts settings turn.input.moment) (LastNamed before)
    turn.input.kind past →
    SomeoneIsIn accepts settings (before ++ record turn { events = past } ∷ [])
someone_now accepts settings before turn past (inl h) =
    someone_earlier accepts settings before (record turn { events = past } ∷ []) h
someone_now accepts settings before turn past (inr h) =
    let s = some_split (circumstances accepts settings turn.input.moment) (LastNamed before)
    turn.input.kind past h in
    (before, [], record turn { events = past }, refl, s.0, s.1, s.2, s.3, s.4)

-- ---- a run

turn_guarded : {E F : Type 0} (accepts : Acceptance) (settings : Settings)
    (before : List (Turn E F))
    (turn : Turn E F) (w : World)
    (plan : Plan Outcome) → w.settings ≡ settings → SomeoneIsIn accepts settings before
    ⊎ IsClear (LastNamed before) w →
    Owes accepts w turn.input plan →
    Guarded (circumstances accepts settings turn.input.moment) (LastNamed before)
    (SomeoneIsIn accepts settings before)
    turn.input.kind plan
turn_guarded accepts settings before turn w plan set h o =
    let named = LastNamed before in
    let a = SomeoneIsIn accepts settings before in
    subst (λ s. Guarded (circumstances accepts s turn.input.moment) named a turn.input.kind plan)
    set
    (rw o.2 (input_guarded (circumstances accepts w.settings turn.input.moment) named a
    turn.input.kind (asks_for_keys turn.input.kind) o.0
    (owed_guarded accepts named a w turn.input.moment turn.input.kind o.0 o.1 h)))

goes_on : {E F : Type 0} (accepts : Acceptance) (settings : Settings) (before : List (Turn E F))
    (turn : Turn E F) (mid : World) →
    (SomeoneIsIn accepts settings before
    ⊎ SomeAccepts (circumstances accepts settings turn.input.moment) (LastNamed before)
    turn.input.kind turn.events)
    ⊎ IsClear (NamesLast (LastNamed before) turn.input.kind) mid →
    SomeoneIsIn accepts settings (before ++ turn ∷ []) ⊎ IsClear (LastNamed (before ++ turn ∷ []))
    mid
goes_on accepts settings before turn mid (inl h) =
    inl (someone_now accepts settings before turn turn.events h)
goes_on accepts settings before turn mid (inr h) = inr (clear_more before turn mid h)

turns_authorised : {E F : Type 0} (accepts : Acceptance) (settings : Settings)
    (before turns : List (Turn E F)) (w : World) →
    w.settings ≡ settings → SomeoneIsIn accepts settings before ⊎ IsClear (LastNamed before) w
    → AllWalk accepts w turns →
    (pre post : List (Turn E F)) (turn : Turn E F) → turns ≡ pre ++ turn ∷ post →
    (past more : List (Event E F)) (event : Event E F) → turn.events ≡ past ++ event ∷ more
    → NeedsUser event →
    SomeoneIsIn accepts settings (before ++ (pre ++ record turn { events = past } ∷ []))
turns_authorised accepts settings before [] w set h all [] post turn is past more event splits needs
    = absurd (cc)
turns_authorised accepts settings before [] w set h all (p ∷ pre) post turn is past more event
    splits needs = absurd (cc)
turns_authorised accepts settings before (t ∷ turns) w set h all [] post turn is past more event
    splits needs =
    let same : t ≡ turn = cc in
    let guarded = turn_guarded accepts settings before t w all.0 set h all.1 in
    let walks : Walks all.0 (past ++ event ∷ more) = subst (Walks all.0) (ap (λ u. u.events) same
    ∙ splits) all.2 in
    subst (λ u. SomeoneIsIn accepts settings (before ++ record u { events = past } ∷ [])) same
    (someone_now accepts settings before t past
    (walks_guarded (circumstances accepts settings t.input.moment) (LastNamed before)
    (SomeoneIsIn accepts settings before)
    t.input.kind all.0 past event more guarded walks needs))
turns_authorised accepts settings before (t ∷ turns) w set h (plan, owes, walks, inl none, taken)
    (p ∷ pre)
    post turn is past more event splits needs =
    let rest : turns ≡ pre ++ turn ∷ post = cc in
    absurd (nothing_left pre turn post (sym rest ∙ none))
turns_authorised accepts settings before (t ∷ turns) w set h (plan, owes, walks, inr next, taken)
    (p ∷ pre)
    post turn is past more event splits needs =
    let same : t ≡ p = cc in
    let rest : turns ≡ pre ++ turn ∷ post = cc in
    let mid = next.0 in
    let guarded = turn_guarded accepts settings before t w plan set h owes in
    let goes = goes_on accepts settings before t mid
    (follows_guarded (circumstances accepts settings t.input.moment) (LastNamed before)
    (SomeoneIsIn accepts settings before)
    t.input.kind plan t.events (Goes mid) guarded next.1) in
    subst (SomeoneIsIn accepts settings)
    (append_assoc before (t ∷ []) (pre ++ record turn { events = past } ∷ [])
    ∙ ap (λ u. before ++ (u ∷ (pre ++ record turn { events = past } ∷ []))) same)
    (turns_authorised accepts settings (before ++ t ∷ []) turns mid
    (stays_set accepts settings w t.input plan t.events mid owes next.1 set) goes next.2
    pre post turn rest past more event splits needs)

-- a run is authorised
pub authorised : {E F : Type 0} (accepts : Acceptance) (settings : Settings)
    (turns : List (Turn E F))
    (world : World) (count max : ℕ)
    (last : Option (Turn E F)) (rose : Type 0) (result : Result (Unit {0}) (RunError E F)) →
    Run accepts (opening_world settings) turns world → Closes accepts world count max last rose
    result →
    Authorised accepts settings (turns ++ option_to_list last)
authorised accepts settings turns world count max last rose result run closes =
    λ before after turn is past more event splits needs.
    turns_authorised accepts settings [] (turns ++ option_to_list last) (opening_world settings)
    refl
    (inr (tt, refl, refl, tt))
    (run_walks accepts (opening_world settings) turns world (option_to_list last) run
    (last_walks accepts world count max last rose result closes))
    before after turn is past more event splits needs
