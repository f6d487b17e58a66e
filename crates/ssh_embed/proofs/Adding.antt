-- What an input adds to the story of a connection.
use Rattle.std.proofs.Common.{◌≡◌, List, [], ◌∷◌, ◌++◌, false, Some, Ok, Err}
use Rattle.std.proofs.Common.{refl, sym, ◌∙◌, ap, subst, inl, inr}
use Rattle.ssh_link.specs.declared.frame.Input.{Input}
use Rattle.ssh_link.specs.declared.notice.Notice.{Notice}
use Rattle.ssh_auth.specs.Plan.{Plan, Finish, told_in}
use Rattle.ssh_auth.specs.Publickey.{Acceptance}
use Rattle.ssh_rules.specs.declared.error.Flow.TheVariants.{Continue, Ended}
use Rattle.ssh_rules.specs.Cause.{cause_of}
use Rattle.ssh_rules.specs.Outcome.{Outcome, Goes, Ends}
use Rattle.ssh_rules.specs.World.{Settings, World, opening_world}
use Rattle.ssh_rules.proofs.Authorised.Run.{caused_walks}
use Rattle.ssh_rules.proofs.Authorised.Guards.{Walks, follows_walks}
use Rattle.ssh_session.specs.Between.{OwesBehind, OwesNotices, OwesUnlessEnded, StepsAfter, untold}
use Rattle.ssh_session.specs.Steps.{Comes, Steps}
use Rattle.ssh_embed.specs.declared.connection.Connection.{Connection}
use Rattle.ssh_embed.specs.Taking.{Went, IsIn, Takes, accepted, told_before, told_after}
use Rattle.ssh_embed.specs.Story.{Happening, Round, Came, Adds, Leads}
use Rattle.ssh_embed.proofs.Stories.{owes_authorised, leads_on, leads_set}

-- however it ended, the plan was walked
comes_walks : (plan : Plan Outcome) (events : List Happening) (rose : Type 0)
    (connection : Connection) (went : Went) → Comes plan events rose connection.session went
    → Walks plan events
comes_walks plan events rose connection (Ok Continue) h =
    follows_walks plan events (Goes h.0) h.1
comes_walks plan events rose connection (Ok Ended) h = follows_walks plan events (Ends h.0) h.1
comes_walks plan events rose connection (Err e) h =
    caused_walks (cause_of e) plan rose events h

-- a plan at its end has no events
nothing_walked : (outcome : Outcome) (past more : List Happening) (event : Happening)
    → Walks (Finish outcome) (past ++ event ∷ more) → ⊥
nothing_walked outcome [] more event h = h
nothing_walked outcome (first ∷ past) more event h = h

-- without notices that were not told yet, an input owes no more than its row
owes_row : (notices : List Notice) (accepts : Acceptance) (w : World) (input : Input) (plan : Plan Outcome)
    → notices ≡ [] → OwesBehind notices accepts w input plan
    → OwesUnlessEnded w.disconnected accepts w input plan
owes_row [] accepts w input plan none (later, owes, is) =
    subst (OwesUnlessEnded w.disconnected accepts w input) (sym is) owes
owes_row (notice ∷ notices) accepts w input plan none owes = absurd (cc)

owes_end : (notices : List Notice) (w : World) (plan : Plan Outcome) → notices ≡ []
    → OwesNotices notices w plan → plan ≡ Finish (Goes w)
owes_end [] w plan none is = is
owes_end (notice ∷ notices) w plan none is = absurd (cc)

-- the round of these events
abbrev round_of : Connection → Input → List Happening → Round
round_of before input events = record {
  vouched = before.verifier;
  turn = record { input = input; commands = false; replies = false; events = events };
}

-- it goes on where the input was finished by its row
goes_on : (settings : Settings) (rounds : List Round) (before after : Connection) (input : Input)
    (w : World) (plan : Plan Outcome) (events : List Happening) (rose : Type 0) (went : Went)
    → Leads (opening_world settings) rounds w → IsIn before w
    → OwesUnlessEnded w.disconnected (accepted before) w input plan
    → Comes plan events rose after.session went → after.kex.repeatable ≡ before.kex.repeatable
    → (went ≡ Ok Continue → untold after.session ≡ []) → went ≡ Ok Continue
    → Came settings (rounds ++ round_of before input events ∷ []) after
goes_on settings rounds before after input w plan events rose (Ok Continue) leads is_in owes
    (mid, follows, refines) same untold_none is =
    let round = round_of before input events in
    let all = leads_on rounds round (opening_world settings) w mid plan leads owes follows in
    let set = leads_set settings rounds (opening_world settings) w refl leads in
    let set' = leads_set settings (rounds ++ round ∷ []) (opening_world settings) mid refl all in (
      mid,
      all,
      (refines, ap (λ s. s.repeatable) (set' ∙ sym set) ∙ (is_in.1 ∙ sym same)),
      untold_none refl,
    )
goes_on settings rounds before after input w plan events rose (Ok Ended) leads is_in owes comes
    same untold_none is = absurd (cc)
goes_on settings rounds before after input w plan events rose (Err e) leads is_in owes comes same
    untold_none is = absurd (cc)

abbrev row_taken : Connection → World → Input → Connection → Went → Type 0
row_taken before w input after went =
    Steps (OwesBehind (untold before.session) (accepted before) w input) (told_before before)
    (told_after after) after.session went

adds_row : (settings : Settings) (rounds : List Round) (before after : Connection) (input : Input)
    (went : Went) (w : World) → Leads (opening_world settings) rounds w → IsIn before w
    → untold before.session ≡ [] → row_taken before w input after went
    → after.kex.repeatable ≡ before.kex.repeatable
    → (went ≡ Ok Continue → untold after.session ≡ [])
    → Adds settings rounds before input after went
adds_row settings rounds before after input went w leads is_in none s same untold_none =
    let round = round_of before input s.events in
    let owes = owes_row (untold before.session) (accepted before) w input s.plan none s.owes in
    record {
      round = round;
      input_is = refl;
      vouched_is = refl;
      calls = s.called;
      told = (let e : Some after.outbox ≡ Some (before.outbox ++ told_in s.events) = s.told in cc);
      authorised =
          owes_authorised settings rounds round w s.plan leads owes
          (comes_walks s.plan s.events _ after went s.comes);
      came =
          goes_on settings rounds before after input w s.plan s.events _ went leads is_in owes
          s.comes same untold_none;
    }

abbrev notices_told : Connection → World → Connection → Went → Type 0
notices_told before w after went =
    Steps (OwesNotices (untold before.session) w) (told_before before) (told_after after)
    after.session went

adds_nothing : (settings : Settings) (rounds : List Round) (before after : Connection)
    (input : Input) (went : Went) (w : World) → untold before.session ≡ []
    → notices_told before w after went → (went ≡ Ok Continue → ⊥)
    → Adds settings rounds before input after went
adds_nothing settings rounds before after input went w none s stops =
    let walks = subst (λ p. Walks p s.events)
    (owes_end (untold before.session) w s.plan none s.owes)
    (comes_walks s.plan s.events _ after went s.comes) in
    record {
      round = round_of before input s.events;
      input_is = refl;
      vouched_is = refl;
      calls = s.called;
      told = (let e : Some after.outbox ≡ Some (before.outbox ++ told_in s.events) = s.told in cc);
      authorised =
          λ past more event splits needs. absurd (nothing_walked (Goes w) past more event
          (subst (Walks (Finish (Goes w))) splits walks));
      came = λ is. absurd (stops is);
    }

adds_so : (settings : Settings) (rounds : List Round) (before after : Connection) (input : Input)
    (went : Went) (w : World) → Leads (opening_world settings) rounds w → IsIn before w
    → untold before.session ≡ []
    → StepsAfter (untold before.session) (accepted before) w input (told_before before)
    (told_after after) after.session went
    → after.kex.repeatable ≡ before.kex.repeatable
    → (went ≡ Ok Continue → untold after.session ≡ [])
    → Adds settings rounds before input after went
adds_so settings rounds before after input went w leads is_in none (inl s) same untold_none =
    adds_row settings rounds before after input went w leads is_in none s same untold_none
adds_so settings rounds before after input went w leads is_in none (inr (e, is, s)) same
    untold_none =
    adds_nothing settings rounds before after input went w none s
    (λ goes. let x : Err e ≡ Ok Continue = sym is ∙ goes in absurd (cc))

pub adds : (settings : Settings) (rounds : List Round) (before after : Connection) (input : Input)
    (went : Went) → Takes before input after went → after.kex.repeatable ≡ before.kex.repeatable
    → (went ≡ Ok Continue → untold after.session ≡ []) → Came settings rounds before
    → Adds settings rounds before input after went
adds settings rounds before after input went takes same untold_none (w, leads, is_in, none) =
    adds_so settings rounds before after input went w leads is_in none (takes w is_in) same
    untold_none
