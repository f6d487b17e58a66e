-- From move to move.
use Rattle.std.proofs.Common.{◌≡◌, ◌≤◌, ℕ, List, [], ◌∷◌, ◌++◌, Option, Some, None}
use Rattle.std.proofs.Common.{Result, Ok, Err, Bool, false, refl, sym, ◌∙◌, ap, subst, arith}
use Rattle.std.proofs.Common.{append_assoc}
use Rattle.std.specs.Prelude.{flat_map, map, option_to_list, IfSome}
use Rattle.std.proofs.lemmas.List.{append-nil, map-append}
use Rattle.ssh_link.specs.Faults.{Rose}
use Rattle.ssh_link.specs.Told.{Adds, ToldBy}
use Rattle.ssh_link.proofs.Tellings.{adds_nil}
use Rattle.ssh_auth.specs.Publickey.{Acceptance}
use Rattle.ssh_handler.specs.declared.config.Config.{Config}
use Rattle.ssh_rules.specs.declared.error.Flow.{Flow}
use Rattle.ssh_rules.specs.declared.error.Flow.TheVariants.{Continue, Ended}
use Rattle.ssh_session.specs.declared.session.Session.{Session}
use Rattle.ssh_rules.specs.Account.{Told}
use Rattle.ssh_session.specs.Between.{untold}
use Rattle.ssh_rules.specs.Cause.{cause_of}
use Rattle.ssh_session.specs.Serve.{Refines, IsSuited, is_spent}
use Rattle.ssh_rules.specs.World.{Settings, World, opening_world}
use Rattle.ssh_serving.proofs.Serving.{told_none, caused_rose}
use Rattle.ssh_drive.specs.declared.moves.Move.{Move}
use Rattle.ssh_drive.specs.declared.moves.MoveError.{MoveError}
use Rattle.ssh_drive.specs.declared.moves.MoveError.TheVariants as error
use Rattle.ssh_drive.specs.Driven.{Driven, Makes, ComesTo}
use Rattle.ssh_drive.specs.Moves.{Place, Made, Served, Handed_on, Leads, Drives}
use Rattle.ssh_drive.specs.Moves.{opening_place, placed, move_of, calls_of}
use Rattle.ssh_drive.specs.Moves.{steps_of, told_of, EndsSo, flush_cause}
use Rattle.ssh_drive.specs.Moves.{may_stop_telling}
use Rattle.ssh_drive.proofs.Accounting.{accounted}
use Rattle.ssh_drive.proofs.Authorising.{authorised}
use Rattle.ssh_drive.proofs.Going.{told_both, rises, suits_yet}
use Rattle.ssh_drive.proofs.Staying.{lead_set}

-- ---- lists

-- one more
drive_more : {E F : Type 0} (accepts : Acceptance) (moment : ℕ) (before : Place)
    (made : List (Made E F)) (mid : Place) (one : Made E F) (to : Place)
    → Drives accepts moment before made mid → Leads accepts moment mid one to
    → Drives accepts moment before (made ++ one ∷ []) to
drive_more accepts moment before [] mid one to h leads =
    (to, subst (λ place. Leads accepts moment place one to) h leads, refl)
drive_more accepts moment before (first ∷ made) mid one to h leads =
    (h.0, h.1, drive_more accepts moment h.0 made mid one to h.2 leads)

given_more : {E F : Type 0} (made : List (Made E F)) (one : Made E F) (moves : List Move)
    (move : Move) → map move_of made ≡ moves → move_of one ≡ move
    → map move_of (made ++ one ∷ []) ≡ moves ++ move ∷ []
given_more made one moves move h is = map-append move_of made (one ∷ [])
    ∙ (ap (λ l. l ++ move_of one ∷ []) h ∙ ap (λ m. moves ++ m ∷ []) is)

-- a rise that began earlier
ends_rose : {E F : Type 0} (accepts : Acceptance) (moment : ℕ) (place : Place)
    (last : Option (Made E F)) (rose rose' : Type 0) (result : Result Flow (MoveError E F))
    → (rose → rose') → EndsSo accepts moment place last rose result
    → EndsSo accepts moment place last rose' result
ends_rose accepts moment place (Some (Served payload events)) rose rose' (Err (error.Payload e)) f
    (plan, owes, cause) =
    (plan, owes, caused_rose (cause_of e) plan rose rose' events f cause)
ends_rose accepts moment place (Some (Handed_on events)) rose rose' (Err (error.HandOn e)) f
    (plan, owes, cause) =
    (plan, owes, caused_rose (flush_cause e) plan rose rose' events f cause)
ends_rose accepts moment place last rose rose' result f h = h

-- ---- a session on its way

-- these moves were finished, and it goes on
pub record Going {E F : Type 0} (accepts : Acceptance) (settings : Settings) (moment : ℕ)
    (moves : List Move) (before after : Told E F) (session : Session) : Type 0 where
  pub made : List (Made E F)
  pub place : Place
  pub run : Drives accepts moment (opening_place settings) made place
  pub given : map move_of made ≡ moves
  pub called : Adds before.calls after.calls (flat_map calls_of made)
  pub stepped : Adds before.steps after.steps (flat_map steps_of made)
  pub told : Adds before.trace after.trace (flat_map told_of made)
  pub later : before.faults ≤ after.faults
  pub refines : Refines session place.world
  pub set : place.world.settings ≡ settings
  pub kept : untold session ≡ place.untold

pub starts : (E F : Type 0) (accepts : Acceptance) (settings : Settings) (moment : ℕ)
    (before : Told E F) (session : Session) → Refines session (opening_world settings)
    → untold session ≡ [] → Going accepts settings moment [] before before session
starts E F accepts settings moment before session r t = record {
  made = [];
  place = opening_place settings;
  run = refl;
  given = refl;
  called = adds_nil before.calls;
  stepped = adds_nil before.steps;
  told = adds_nil before.trace;
  later = omega arith;
  refines = r;
  set = refl;
  kept = t;
}

-- a handler that suits the config and the peer suits the session at each move
pub still_suits : {E F : Type 0} (suits : Config → List ℕ → Type 0) (accepts : Acceptance)
    (settings : Settings) (moment : ℕ) (moves : List Move) (a b : Told E F) (session : Session)
    → Going accepts settings moment moves a b session
    → suits settings.config settings.remote_sshid → IsSuited suits session
still_suits suits accepts settings moment moves a b session going h =
    suits_yet suits settings session going.place.world going.refines going.set h

-- and it is not spent
pub is_live : {E F : Type 0} (accepts : Acceptance) (settings : Settings) (moment : ℕ)
    (moves : List Move) (a b : Told E F) (session : Session)
    → Going accepts settings moment moves a b session → is_spent session ≡ false
is_live accepts settings moment moves a b session going = going.refines.live

-- what a move comes to in the place where the session is
abbrev pub MakesSo : {E F : Type 0} → Acceptance → Settings → (moment : ℕ) → Move → Told E F
    → Told E F → (before session : Session) → Result Flow (MoveError E F) → Type 0
MakesSo accepts settings moment move a b before session result =
    (w : World) → Refines before w → w.settings ≡ settings
    → Makes accepts moment (placed w (untold before)) move a b session result

made_here : {E F : Type 0} (accepts : Acceptance) (settings : Settings) (moment : ℕ)
    (moves : List Move) (move : Move) (a c d : Told E F) (before session : Session)
    (result : Result Flow (MoveError E F))
    → (going : Going accepts settings moment moves a c before)
    → MakesSo accepts settings moment move c d before session result
    → Makes accepts moment going.place move c d session result
made_here accepts settings moment moves move a c d before session result going makes =
    subst (λ notices. Makes accepts moment (placed going.place.world notices) move c d session
    result) going.kept (makes going.place.world going.refines going.set)

more_made : {E F : Type 0} (accepts : Acceptance) (settings : Settings) (moment : ℕ)
    (moves : List Move) (move : Move) (a c d : Told E F) (before session : Session)
    (going : Going accepts settings moment moves a c before) (made : Option (Made E F))
    → IfSome made (λ one. move_of one ≡ move) → c.faults ≤ d.faults
    → Adds c.calls d.calls (flat_map calls_of (option_to_list made))
    → Adds c.steps d.steps (flat_map steps_of (option_to_list made))
    → Adds c.trace d.trace (flat_map told_of (option_to_list made))
    → ComesTo accepts moment going.place made (Rose c.faults d.faults) session (Ok Continue)
    → Going accepts settings moment (moves ++ move ∷ []) a d session
more_made accepts settings moment moves move a c d before session going None is later called
    stepped told comes = absurd comes
more_made accepts settings moment moves move a c d before session going (Some one) is later called
    stepped told (to, leads, refines, kept) = record {
      made = going.made ++ one ∷ [];
      place = to;
      run = drive_more accepts moment (opening_place settings) going.made going.place one to
          going.run
          leads;
      given = given_more going.made one moves move going.given is;
      called = told_both false calls_of going.made (one ∷ []) a.calls c.calls d.calls going.called
          called;
      stepped = told_both false steps_of going.made (one ∷ []) a.steps c.steps d.steps going.stepped
          stepped;
      told = told_both false told_of going.made (one ∷ []) a.trace c.trace d.trace going.told told;
      later = let x = going.later in omega (arith, x, later);
      refines = refines;
      set = lead_set accepts settings moment going.place one to leads going.set;
      kept = kept;
    }

-- a move was finished
pub goes_on : {E F : Type 0} (accepts : Acceptance) (settings : Settings) (moment : ℕ)
    (moves : List Move) (move : Move) (a c d : Told E F) (before session : Session)
    → Going accepts settings moment moves a c before
    → MakesSo accepts settings moment move c d before session (Ok Continue)
    → Going accepts settings moment (moves ++ move ∷ []) a d session
goes_on accepts settings moment moves move a c d before session going makes =
    let one = made_here accepts settings moment moves move a c d before session (Ok Continue) going
    makes in
    more_made accepts settings moment moves move a c d before session going one.made one.given
    one.later one.called one.stepped one.told one.comes

-- ---- how it ends

-- those that were given, and those that are left
given_all : {E F : Type 0} (made : List (Made E F)) (last : Option (Made E F))
    (moves : List Move) (move : Move) (rest all : List Move) → map move_of made ≡ moves
    → IfSome last (λ one. move_of one ≡ move) → (moves ++ move ∷ []) ++ rest ≡ all
    → (left : List Move) × (map move_of (made ++ option_to_list last) ++ left ≡ all)
given_all made None moves move rest all h is whole = (
  move ∷ rest,
  ap (λ l. map move_of l ++ move ∷ rest) (append-nil made)
      ∙ (ap (λ l. l ++ move ∷ rest) h ∙ (sym (append_assoc moves (move ∷ []) rest) ∙ whole)),
)
given_all made (Some one) moves move rest all h is whole =
    (rest, ap (λ l. l ++ rest) (given_more made one moves move h is) ∙ whole)

-- all were finished
pub all_made : {E F : Type 0} (accepts : Acceptance) (settings : Settings) (moment : ℕ)
    (moves rest all : List Move) (a c : Told E F) (session : Session)
    → Going accepts settings moment moves a c session → moves ++ rest ≡ all → rest ≡ []
    → Driven accepts settings moment all a c (Ok Continue)
all_made {E} {F} accepts settings moment moves rest all a c session going is none =
    let nothing : Option (Made E F) = None in
    record {
      made = going.made;
      place = going.place;
      run = going.run;
      last = nothing;
      left = rest;
      given = ap (λ l. map move_of l ++ rest) (append-nil going.made)
          ∙ (ap (λ l. l ++ rest) going.given ∙ is);
      all = λ _. none;
      ends = tt;
      later = going.later;
      called = told_both false calls_of going.made [] a.calls c.calls c.calls going.called
          (told_none false c.calls);
      stepped = told_both false steps_of going.made [] a.steps c.steps c.steps going.stepped
          (adds_nil c.steps);
      told = told_both false told_of going.made [] a.trace c.trace c.trace going.told
          (adds_nil c.trace);
      authorised = authorised accepts settings moment going.made going.place nothing ⊥ (Ok Continue)
          going.run tt;
      ledger = λ earlier later at splits. accounted accepts settings moment earlier at;
    }

-- one was the last
last_made : {E F : Type 0} (accepts : Acceptance) (settings : Settings) (moment : ℕ)
    (moves rest all : List Move) (move : Move) (a c d : Told E F) (before session : Session)
    (result : Result Flow (MoveError E F))
    (going : Going accepts settings moment moves a c before)
    (one : Makes accepts moment going.place move c d session result)
    → EndsSo accepts moment going.place one.made (Rose c.faults d.faults) result
    → (moves ++ move ∷ []) ++ rest ≡ all → (result ≡ Ok Continue → ⊥)
    → Driven accepts settings moment all a d result
last_made accepts settings moment moves rest all move a c d before session result going one ends is
    not =
    let given = given_all going.made one.made moves move rest all going.given one.given is in
    record {
      made = going.made;
      place = going.place;
      run = going.run;
      last = one.made;
      left = given.0;
      given = given.1;
      all = λ goes. absurd (not goes);
      ends = ends_rose accepts moment going.place one.made (Rose c.faults d.faults)
          (Rose a.faults d.faults) result (rises a c d going.later) ends;
      later = let x = going.later in let y = one.later in omega (arith, x, y);
      called = told_both (may_stop_telling result) calls_of going.made (option_to_list one.made)
          a.calls c.calls d.calls going.called one.called;
      stepped = told_both false steps_of going.made (option_to_list one.made) a.steps c.steps
          d.steps going.stepped one.stepped;
      told = told_both false told_of going.made (option_to_list one.made) a.trace c.trace d.trace
          going.told one.told;
      authorised = authorised accepts settings moment going.made going.place one.made
          (Rose c.faults d.faults) result going.run ends;
      ledger = λ earlier later at splits. accounted accepts settings moment earlier at;
    }

ended_so : {E F : Type 0} (accepts : Acceptance) (moment : ℕ) (place : Place)
    (made : Option (Made E F)) (rose : Type 0) (session : Session)
    → ComesTo accepts moment place made rose session (Ok Ended)
    → EndsSo accepts moment place made rose (Ok Ended)
ended_so accepts moment place None rose session h = h
ended_so accepts moment place (Some made) rose session h = h

stopped_so : {E F : Type 0} (accepts : Acceptance) (moment : ℕ) (place : Place)
    (made : Option (Made E F)) (rose : Type 0) (session : Session) (e : MoveError E F)
    → ComesTo accepts moment place made rose session (Err e)
    → EndsSo accepts moment place made rose (Err e)
stopped_so accepts moment place None rose session e h = h
stopped_so accepts moment place (Some made) rose session e h = h

-- one ended the connection
pub ended : {E F : Type 0} (accepts : Acceptance) (settings : Settings) (moment : ℕ)
    (moves rest all : List Move) (move : Move) (a c d : Told E F) (before session : Session)
    → Going accepts settings moment moves a c before
    → MakesSo accepts settings moment move c d before session (Ok Ended)
    → (moves ++ move ∷ []) ++ rest ≡ all → Driven accepts settings moment all a d (Ok Ended)
ended accepts settings moment moves rest all move a c d before session going makes is =
    let one = made_here accepts settings moment moves move a c d before session (Ok Ended) going
    makes in
    last_made accepts settings moment moves rest all move a c d before session (Ok Ended) going one
    (ended_so accepts moment going.place one.made (Rose c.faults d.faults) session one.comes) is
    (λ h. cc)

-- one was not finished
pub stopped : {E F : Type 0} (accepts : Acceptance) (settings : Settings) (moment : ℕ)
    (moves rest all : List Move) (move : Move) (a c d : Told E F) (before session : Session)
    (e : MoveError E F) → Going accepts settings moment moves a c before
    → MakesSo accepts settings moment move c d before session (Err e)
    → (moves ++ move ∷ []) ++ rest ≡ all → Driven accepts settings moment all a d (Err e)
stopped accepts settings moment moves rest all move a c d before session e going makes is =
    let one = made_here accepts settings moment moves move a c d before session (Err e) going
    makes in
    last_made accepts settings moment moves rest all move a c d before session (Err e) going one
    (stopped_so accepts moment going.place one.made (Rose c.faults d.faults) session e one.comes) is
    (λ h. cc)

-- it could not begin
pub not_begun : (E F : Type 0) (accepts : Acceptance) (settings : Settings) (moment : ℕ)
    (moves : List Move) (a : Told E F)
    → Driven accepts settings moment moves a a (Err error.NoMemory)
not_begun E F accepts settings moment moves a =
    let nothing : Option (Made E F) = None in
    record {
      made = [];
      place = opening_place settings;
      run = refl;
      last = nothing;
      left = moves;
      given = refl;
      all = λ h. absurd (cc);
      ends = tt;
      later = omega arith;
      called = told_none false a.calls;
      stepped = adds_nil a.steps;
      told = adds_nil a.trace;
      authorised = authorised accepts settings moment [] (opening_place settings) nothing ⊥
          (Err error.NoMemory) refl tt;
      ledger = λ earlier later at splits. accounted accepts settings moment earlier at;
    }
