-- The user who was let in is the one of the first call that accepted one (RFC 4252 section 5.1).
use Rattle.std.proofs.Common.{◌≡◌, ◌==◌, ◌∙◌, ℕ, List, [], ◌∷◌, Bool, true, false}
use Rattle.std.proofs.Common.{cond}
use Rattle.std.proofs.Common.{Option, Some, None, Result, Ok, Err, refl, sym, ap, subst}
use Rattle.std.specs.Prelude.{bytes_eq, codes, drop, flat_map, if◌then◌else◌}
use Rattle.ssh_wire.specs.declared.error.WireError.{WireError}
use Rattle.ssh_wire.specs.declared.error.WireError.TheVariants.{TooLong}
use Rattle.ssh_link.specs.declared.command.Command.{Command}
use Rattle.ssh_link.specs.declared.command.Command.TheVariants as command
use Rattle.ssh_link.specs.declared.frame.InputKind.{InputKind}
use Rattle.ssh_link.specs.declared.frame.InputKind.TheVariants as input
use Rattle.ssh_link.specs.declared.link.TraceEntry.TheVariants.{Answered}
use Rattle.ssh_auth.specs.declared.auth.Auth.{Auth}
use Rattle.ssh_auth.specs.declared.auth.Auth.TheVariants.{Accept}
use Rattle.ssh_auth.specs.declared.auth_request.AuthRequest.{AuthRequest}
use Rattle.ssh_auth.specs.declared.auth_step.AuthVerdict.TheVariants as verdict
use Rattle.ssh_auth.specs.declared.call.Call.{Call}
use Rattle.ssh_auth.specs.declared.question.Admission.{Admission}
use Rattle.ssh_auth.specs.declared.question.Lent.TheVariants.{Succeeded}
use Rattle.ssh_auth.specs.declared.question.Question.TheVariants.{Admits, Banner}
use Rattle.ssh_auth.specs.Plan.{Plan, Finish, Ask, Tell, Event}
use Rattle.ssh_auth.specs.Plan.{Follows, after, calls_in}
use Rattle.ssh_auth.specs.Calls.{admission_call}
use Rattle.ssh_auth.specs.Publickey.{Acceptance, Circumstances}
use Rattle.ssh_auth.specs.Verdict.{AuthOutcome, Replies, verdict as verdict_on, response_verdict}
use Rattle.ssh_auth.specs.Verdict as auth
use Rattle.ssh_auth.specs.Was.{Admitted_so, Was, was}
use Rattle.ssh_auth.proofs.Back.{admitted_back}
use Rattle.ssh_rules.specs.declared.gate.Gate.{Gate}
use Rattle.ssh_rules.specs.declared.gate.Gate.TheVariants as gate
use Rattle.ssh_rules.specs.declared.messages.ConnectionMessage.{ConnectionMessage}
use Rattle.ssh_rules.specs.declared.messages.Spoken.{Spoken}
use Rattle.ssh_rules.specs.declared.state.EncryptedState.{EncryptedState}
use Rattle.ssh_rules.specs.declared.state.EncryptedState.TheVariants.{WaitingAuthServiceRequest}
use Rattle.ssh_rules.specs.declared.state.EncryptedState.TheVariants.{WaitingAuthRequest}
use Rattle.ssh_rules.specs.declared.state.EncryptedState.TheVariants.{InitCompression}
use Rattle.ssh_rules.specs.declared.state.EncryptedState.TheVariants.{Authenticated}
use Rattle.ssh_rules.specs.Acts.{Act, Calls, Turns}
use Rattle.ssh_rules.specs.Acts.{Is_over, Stops}
use Rattle.ssh_rules.specs.Acts.{acts}
use Rattle.ssh_rules.specs.Effect.{done_by, effect, effect_at, refused_for}
use Rattle.ssh_rules.specs.Gate.{gate_of, of_connection, state_gate}
use Rattle.ssh_rules.specs.Messages.{connection_message}
use Rattle.ssh_rules.specs.Layout.{at_once, held}
use Rattle.ssh_rules.specs.Outcome.{Encoding, Outcome, Goes, Ends, Fails}
use Rattle.ssh_rules.specs.Reading.{Said, Disconnect, Over_cap, Says, Service, Request, Response}
use Rattle.ssh_rules.specs.Reading.{Connection, said_of}
use Rattle.ssh_rules.specs.Rows.{where_waiting, concluded, exchange_acts, finishes, greets, is_short}
use Rattle.ssh_rules.specs.Rows.{fault_of, greeting, lets_in, moment_after, owed, rejection_hold}
use Rattle.ssh_rules.specs.Rows.{row, served}
use Rattle.ssh_rules.specs.Run.{Owes, OwesKind, Run, Turn, asks_for_keys, calls_of, command_row}
use Rattle.ssh_rules.specs.Run.{finish_input}
use Rattle.ssh_rules.specs.Run.{is_let_in, who}
use Rattle.ssh_rules.specs.Ticks.{keepalive_acts}
use Rattle.ssh_rules.specs.declared.request.ChannelRequest.{ChannelRequest}
use Rattle.ssh_rules.specs.World.{User, World, circumstances, hears, opening_world}
use Rattle.ssh_rules.specs.World.{waits_for, writes}
use Rattle.ssh_rules.proofs.Plans.Acting.{EffectComes, Law, PlanComes, acts_come, exchange_comes}
use Rattle.ssh_rules.proofs.Plans.Acting.{input_comes, one_comes}
use Rattle.ssh_rules.proofs.Plans.Apart.{apart_comes, refused_comes, tick_comes}
use Rattle.ssh_rules.proofs.Plans.Passing.{payload_so}
use Rattle.ssh_rules.proofs.Plans.Settled.{Any_command, Anything, any_built}
use Rattle.ssh_rules.proofs.InOrder.Inputs.{parts_of}
use Rattle.ssh_run_laws.specs.Users.{UserStays, UserIsFirst, first_of, first_user, user_so}
use Rattle.ssh_run_laws.proofs.UserKept.{IsOther, done_kept, opens_or_not_kept, owed_kept, settles_kept}
use Rattle.ssh_run_laws.proofs.Verdicts.{IsOfUser, LetsIn, response_lets, user_answered, verdict_lets}
use Rattle.ssh_run_laws.proofs.Unasked.{AsksElse, acts_else, calls_both, finish_else, first_both}
use Rattle.ssh_run_laws.proofs.Unasked.{first_none, follows_else, one_else, users_both}

-- ---- where the user stays

-- the world that it comes to has this user
abbrev ComesUser : User → Outcome → Type 0
ComesUser u (Goes w) = w.user ≡ u
ComesUser u (Ends w) = w.user ≡ u
ComesUser u (Fails why) = Unit {0}

same_user : (u : User) (w v : World) → v.user ≡ w.user → w.user ≡ u → v.user ≡ u
same_user u w v is h = is ∙ h

effect_user : (at : Option ChannelRequest) (u : User) (w : World) (one : Command) → w.user ≡ u
    → EffectComes (λ v. v.user ≡ u) (effect_at at w one)
effect_user at u w one h =
    let holds : World → Type 0 = λ v. v.user ≡ u in
    refused_comes holds (refused_for w.disconnected w one) w (done_by at w one) h
    (done_kept holds (same_user u) at w one h
    (apart_comes holds (λ message v k. k) (settles_kept holds (same_user u))
    (opens_or_not_kept holds (same_user u)) w one h))

abbrev user_law : User → Law
user_law u = record {
  such = Anything;
  comes = ComesUser u;
  holds = λ v. v.user ≡ u;
  built = Any_command;
  goes = λ w h. h;
  lends = λ lent commands s. any_built commands;
  judges = λ judged answer s. any_built answer.commands;
  listens = λ address port answer s. any_built answer.commands;
  keeps = λ at w one h b. effect_user at u w one h;
}

follows_user : {E F : Type 0} (u : User) (plan : Plan Outcome) (events : List (Event E F))
    (outcome : Outcome) → PlanComes Anything (ComesUser u) plan → Follows plan events outcome
    → ComesUser u outcome
follows_user u plan [] outcome k h = subst (PlanComes Anything (ComesUser u)) h k
follows_user u (Finish other) (event ∷ events) outcome k h = absurd h
follows_user u (Ask question next) (event ∷ events) outcome k h =
    follows_user u (next h.0) events outcome (k h.0 tt) h.2
follows_user u (Tell entry next) (event ∷ events) outcome k h =
    follows_user u next events outcome k h.1

-- ---- who was let in

-- in the world that it comes to this user was let in, or nobody was
abbrev ComesWho : Option (List ℕ) → Outcome → Type 0
ComesWho o (Goes w) = who w.user ≡ o
ComesWho o (Ends w) = who w.user ≡ o
ComesWho o (Fails why) = Unit {0}

stays_who : (u : User) (o : Option (List ℕ)) (outcome : Outcome) → who u ≡ o
    → ComesUser u outcome → ComesWho o outcome
stays_who u o (Goes w) is h = ap who h ∙ is
stays_who u o (Ends w) is h = ap who h ∙ is
stays_who u o (Fails why) is h = tt

-- such a plan lets nobody in
pub record IsPlain (u : User) (plan : Plan Outcome) : Type 0 where
  pub comes : PlanComes Anything (ComesUser u) plan
  pub asks : AsksElse plan

plain_who : {E F : Type 0} (u : User) (plan : Plan Outcome) (events : List (Event E F))
    (outcome : Outcome) → IsPlain u plan → Follows plan events outcome
    → ComesWho (first_of (who u) (first_user (calls_in events))) outcome
plain_who u plan events outcome p f =
    stays_who u (first_of (who u) (first_user (calls_in events))) outcome
    (sym (ap (first_of (who u)) (follows_else plan events outcome p.asks f)
    ∙ first_none (who u))) (follows_user u plan events outcome p.comes f)

owed_plain : (w : World) (said : Said) → IsOther said → IsPlain w.user (acts (owed w said) w)
owed_plain w said is = record {
  comes = acts_come (user_law w.user) (owed w said) w refl
      (owed_kept (user_law w.user) (same_user w.user) (λ why. tt) w said is refl);
  asks = acts_else (owed w said) w;
}

-- ---- authentication

finished_who : {E F : Type 0} (final outcome : Outcome) (o : Option (List ℕ))
    (events : List (Event E F)) → ComesWho o final → Follows (Finish final) events outcome
    → ComesWho (first_of o (first_user (calls_in events))) outcome
finished_who final outcome o [] h f =
    let same : final ≡ outcome = cc in
    subst (λ x. ComesWho x outcome) (sym (first_none o)) (subst (ComesWho o) same h)
finished_who final outcome o (event ∷ events) h f = absurd f

concluded_who : {E F : Type 0} (let_in : Option (List ℕ)) (w : World) (moment : ℕ)
    (requested : Bool) (o : AuthOutcome) (events : List (Event E F)) (outcome : Outcome)
    → IsOfUser let_in o → Follows (concluded w moment requested o) events outcome
    → ComesWho (first_of let_in (first_user (calls_in events))) outcome
concluded_who let_in w moment requested (Replies reply verdict.Accepted state) events outcome is f =
    let u = lets_in (finishes requested (waits_for (WaitingAuthRequest state) w)) in
    let v = writes (at_once reply ∷ []) u in
    subst (λ x. ComesWho (first_of x (first_user (calls_in events))) outcome) (sym is)
    (plain_who v.user (acts (Calls None Succeeded ∷ []) v) events outcome (record {
      comes = acts_come (user_law v.user) (Calls None Succeeded ∷ []) v refl (λ world k. tt);
      asks = acts_else (Calls None Succeeded ∷ []) v;
    }) f)
concluded_who let_in w moment requested (Replies reply (verdict.Rejected none_method) state) events
    outcome is f =
    let u = waits_for (WaitingAuthRequest state) w in
    finished_who (Goes (writes (held reply (moment_after moment
    (rejection_hold u.settings.config none_method u.user.requested)) ∷ []) (finishes requested u)))
    outcome let_in events (sym is) f
concluded_who let_in w moment requested (Replies reply verdict.Continued state) events outcome is f
    =
    let u = waits_for (WaitingAuthRequest state) w in
    finished_who (Goes (writes (at_once reply ∷ []) (finishes requested u))) outcome let_in events
    (sym is) f
concluded_who let_in w moment requested (auth.Fails fault) events outcome is f =
    finished_who (Fails (fault_of fault)) outcome let_in events tt f

abbrev admitted : (E : Type 0) → Admission → Auth → Call E
admitted E admission answer = admission_call admission (Ok answer)

answered_so : (E : Type 0) (let_in : Option (List ℕ)) (admission : Admission) (answer : Auth)
    → first_of let_in (user_so {E = E} (Admitted_so admission (Ok answer)))
    ≡ user_answered let_in admission answer
answered_so E let_in admission Accept = refl
answered_so E let_in admission _ = first_none let_in

verdict_who : {E F : Type 0} (let_in : Option (List ℕ)) (w : World) (moment : ℕ)
    (requested : Bool) (plan : Plan AuthOutcome) (events : List (Event E F)) (outcome : Outcome)
    → LetsIn let_in plan → Follows (after plan (concluded w moment requested)) events outcome
    → ComesWho (first_of let_in (first_user (calls_in events))) outcome
verdict_who let_in w moment requested (Finish o) events outcome l f =
    concluded_who let_in w moment requested o events outcome l f
verdict_who let_in w moment requested (Ask (Admits admission) next) [] outcome l f = absurd (cc)
verdict_who {E} {F} let_in w moment requested (Ask (Admits admission) next) (event ∷ events)
    outcome l f =
    let user : first_of let_in (user_so (was (admitted E admission f.0)))
    ≡ user_answered let_in admission f.0 =
    ap (λ (x : Was E). first_of let_in (user_so x)) (admitted_back E admission (Ok f.0))
    ∙ answered_so E let_in admission f.0 in
    let first : first_of let_in (first_user (admitted E admission f.0 ∷ calls_in events))
    ≡ first_of (user_answered let_in admission f.0) (first_user (calls_in events)) =
    sym (first_both let_in (user_so (was (admitted E admission f.0)))
    (first_user (calls_in events)))
    ∙ ap (λ o. first_of o (first_user (calls_in events))) user in
    subst (λ x. ComesWho (first_of let_in (first_user (calls_in {E = E} {F = F} (x ∷ events))))
    outcome) (sym f.1)
    (subst (λ o. ComesWho o outcome) (sym first)
    (verdict_who (user_answered let_in admission f.0) w moment requested (next f.0) events outcome
    (l f.0) f.2))
verdict_who let_in w moment requested (Ask other next) events outcome l f = absurd l
verdict_who let_in w moment requested (Tell entry next) events outcome l f = absurd l

-- ---- rows

nobody : (w : World) (state : EncryptedState) → w.user.state ≡ state → is_let_in state ≡ false
    → who w.user ≡ None
nobody w state is none =
    ap (λ s. cond (is_let_in s) (Some w.user.name) None) is
    ∙ ap (λ b. cond b (Some w.user.name) None) none

nothing_plain : (w : World) → IsPlain w.user (acts [] w)
nothing_plain w = record { comes = refl; asks = tt }

asked_who : {E F : Type 0} (state : EncryptedState) (next : AuthRequest → Plan AuthOutcome)
    (w : World) (moment : ℕ) (requested : Bool) (events : List (Event E F)) (outcome : Outcome)
    → w.user.state ≡ state → ((auth : AuthRequest) → LetsIn None (next auth))
    → Follows (where_waiting state (λ auth. after (next auth) (concluded w moment requested))
    (acts [] w)) events outcome
    → ComesWho (first_of (who w.user) (first_user (calls_in events))) outcome
asked_who (WaitingAuthRequest auth) next w moment requested events outcome is lets f =
    subst (λ o. ComesWho (first_of o (first_user (calls_in events))) outcome)
    (sym (nobody w (WaitingAuthRequest auth) is refl))
    (verdict_who None w moment requested (next auth) events outcome (lets auth) f)
asked_who _ next w moment requested events outcome is lets f =
    plain_who w.user (acts [] w) events outcome (nothing_plain w) f

abbrev greets_if : (short : Bool) → Option (List ℕ) → List Act
greets_if short message =
    if short then Turns (λ w. writes (greeting message) (served w)) ∷ []
    else Stops (Encoding TooLong) ∷ []

greets_who : {E F : Type 0} (w : World) (message : Option (List ℕ)) (short : Bool)
    (events : List (Event E F)) (outcome : Outcome)
    → Follows (acts (greets_if short message) w) events outcome
    → ComesWho (first_of None (first_user (calls_in events))) outcome
greets_who w message true events outcome f =
    finished_who (Goes (writes (greeting message) (served w))) outcome None events refl f
greets_who w message false events outcome f =
    finished_who (Fails (Encoding TooLong)) outcome None events tt f

service_who : {E F : Type 0} (w : World) (b : Bool) (events : List (Event E F))
    (outcome : Outcome) → who w.user ≡ None
    → Follows (if b then Ask Banner (λ message. acts (greets message) w) else acts [] w) events
    outcome → ComesWho (first_of (who w.user) (first_user (calls_in events))) outcome
service_who w true [] outcome none f = absurd (cc)
service_who {E} {F} w true (event ∷ events) outcome none f =
    subst (λ x. ComesWho (first_of (who w.user) (first_user (calls_in {E = E} {F = F}
    (x ∷ events)))) outcome) (sym f.1)
    (subst (λ o. ComesWho (first_of o (first_user (calls_in events))) outcome) (sym none)
    (greets_who w f.0 (is_short f.0) events outcome f.2))
service_who w false events outcome none f =
    plain_who w.user (acts [] w) events outcome (nothing_plain w) f

row_who : {E F : Type 0} (w : World) (moment : ℕ) (said : Said) (events : List (Event E F))
    (outcome : Outcome) → ((name : List ℕ) → said ≡ Service name → who w.user ≡ None)
    → Follows (row w moment said) events outcome
    → ComesWho (first_of (who w.user) (first_user (calls_in events))) outcome
row_who w moment (Service name) events outcome none f =
    service_who w (bytes_eq name (codes "ssh-userauth")) events outcome (none name refl) f
row_who w moment (Request asked) events outcome none f =
    asked_who w.user.state (λ auth. verdict_on auth asked) w moment true events outcome refl
    (λ auth. verdict_lets auth asked) f
row_who w moment (Response responded) events outcome none f =
    asked_who w.user.state (λ auth. response_verdict auth responded) w moment w.user.requested
    events outcome refl (λ auth. response_lets auth responded) f
row_who w moment Disconnect events outcome none f =
    plain_who w.user (acts (Is_over ∷ []) w) events outcome
    (record { comes = refl; asks = tt }) f
row_who w moment Over_cap events outcome none f =
    plain_who w.user (acts (owed w Over_cap) w) events outcome
    (record { comes = refl; asks = tt }) f
row_who w moment said events outcome none f =
    plain_who w.user (acts (owed w said) w) events outcome (owed_plain w said tt) f

-- ---- a service is asked for before a user is let in

connected : (b c : Bool) (o : Option ConnectionMessage)
    → (if b then gate.ChannelOpen else (if c then gate.OpenConfirmation else of_connection o))
    ≡ gate.ServiceRequest → ⊥
connected true c o is = absurd (cc)
connected false true o is = absurd (cc)
connected false false (Some message) is = absurd (cc)
connected false false None is = absurd (cc)

state_unlet : (w : World) (state : EncryptedState) (n : ℕ)
    → state_gate w.settings.config state n ≡ gate.ServiceRequest → is_let_in state ≡ false
state_unlet w (WaitingAuthServiceRequest sent accepted) n is = refl
state_unlet w (WaitingAuthRequest auth) n is = refl
state_unlet w InitCompression n is =
    absurd (connected (n == 90) (n == 91) (connection_message n) is)
state_unlet w Authenticated n is =
    absurd (connected (n == 90) (n == 91) (connection_message n) is)

gate_step : (b : Bool) (w : World) (n : ℕ)
    → (if b then gate.Ends else state_gate w.settings.config w.user.state n) ≡ gate.ServiceRequest
    → who w.user ≡ None
gate_step true w n is = absurd (cc)
gate_step false w n is = nobody w w.user.state refl (state_unlet w w.user.state n is)

gate_unlet : (w : World) (payload : List ℕ) → gate_of w payload ≡ gate.ServiceRequest
    → who w.user ≡ None
gate_unlet w [] is = absurd (cc)
gate_unlet w (n ∷ fields) is = gate_step (n == 1) w n is

spoken_apart : (name : List ℕ) (read : Result Spoken WireError)
    → Service name ≡ said_of Connection read → ⊥
spoken_apart name (Ok spoken) is = absurd (cc)
spoken_apart name (Err why) is = absurd (cc)

service_unlet : (given : Circumstances) (w : World) (payload : List ℕ) (at : Gate)
    (fields name : List ℕ) → gate_of w payload ≡ at → Says given w at fields (Service name)
    → who w.user ≡ None
service_unlet given w payload gate.ServiceRequest fields name is h = gate_unlet w payload is
service_unlet given w payload gate.Nothing fields name is h = absurd (cc)
service_unlet given w payload gate.Ends fields name is h = absurd (cc)
service_unlet given w payload gate.OverCap fields name is h = absurd (cc)
service_unlet given w payload gate.UserauthRequest fields name is h =
    absurd (let no = h.2 in cc)
service_unlet given w payload gate.InfoResponse fields name is h = absurd (let no = h.2 in cc)
service_unlet given w payload gate.ChannelOpen fields name is h = absurd h
service_unlet given w payload gate.OpenConfirmation fields name is h = absurd h
service_unlet given w payload (gate.Connection message) fields name is h =
    absurd (spoken_apart name h.0 h.2)

-- ---- inputs

command_plain : (w : World) (ticket : ℕ) (one : Command)
    → IsPlain w.user (command_row w ticket one)
command_plain w ticket one = record {
  comes = one_comes (user_law w.user) (effect w one) (λ came v. Tell (Answered ticket came)
      (Finish (Goes v))) (effect_user None w.user w one refl) (λ came v k. k);
  asks = one_else (effect w one) (λ came v. Tell (Answered ticket came) (Finish (Goes v)))
      (λ came v. tt);
}

tick_plain : (w : World) → IsPlain w.user (acts (keepalive_acts w) w)
tick_plain w = record {
  comes = acts_come (user_law w.user) (keepalive_acts w) w refl
      (tick_comes (user_law w.user) w tt refl);
  asks = acts_else (keepalive_acts w) w;
}

kind_who : {E F : Type 0} (accepts : Acceptance) (w : World) (moment : ℕ) (kind : InputKind)
    (plan : Plan Outcome) (events : List (Event E F)) (outcome : Outcome)
    → OwesKind accepts w moment kind plan → Follows plan events outcome
    → ComesWho (first_of (who w.user) (first_user (calls_in events))) outcome
kind_who accepts w moment input.End plan events outcome o f =
    plain_who w.user plan events outcome
    (subst (IsPlain w.user) (sym o) (record { comes = refl; asks = tt })) f
kind_who accepts w moment (input.Payload payload) plan events outcome o f =
    let v = hears payload w in
    let given = circumstances accepts v.settings moment in
    payload_so accepts v moment payload plan
    (λ p. Follows p events outcome
    → ComesWho (first_of (who w.user) (first_user (calls_in events))) outcome) o
    (λ said says g. row_who v moment said events outcome
    (λ name is. service_unlet given v payload (gate_of v payload) (drop 1 payload) name refl
    (subst (Says given v (gate_of v payload) (drop 1 payload)) is says)) g)
    (λ at g. plain_who v.user (acts (exchange_acts payload at) v) events outcome (record {
      comes = exchange_comes (user_law v.user) (λ u k. (λ keys later. k, λ keys. k)) payload at v
          refl tt tt;
      asks = acts_else (exchange_acts payload at) v;
    }) g) f
kind_who accepts w moment (input.Command ticket one) plan events outcome o f =
    plain_who w.user plan events outcome
    (subst (IsPlain w.user) (sym o) (command_plain w ticket one)) f
kind_who accepts w moment (input.OpenReply ticket answer) plan events outcome o f =
    plain_who w.user plan events outcome
    (subst (IsPlain w.user) (sym o) (command_plain w ticket (command.Answer answer))) f
kind_who accepts w moment input.KeepaliveTick plan events outcome o f =
    plain_who w.user plan events outcome (subst (IsPlain w.user) (sym o) (tick_plain w)) f
kind_who accepts w moment input.InactivityTick plan events outcome o f =
    plain_who w.user plan events outcome
    (subst (IsPlain w.user) (sym o) (record { comes = tt; asks = tt })) f
kind_who accepts w moment input.RekeyTick plan events outcome o f =
    plain_who w.user plan events outcome
    (subst (IsPlain w.user) (sym o) (record { comes = refl; asks = tt })) f

-- ---- the end of an input

follows_who : {E F : Type 0} (o : Option (List ℕ)) (plan : Plan Outcome)
    (events : List (Event E F)) (outcome : Outcome) → PlanComes Anything (ComesWho o) plan
    → Follows plan events outcome → ComesWho o outcome
follows_who o plan [] outcome k h = subst (PlanComes Anything (ComesWho o)) h k
follows_who o (Finish other) (event ∷ events) outcome k h = absurd h
follows_who o (Ask question next) (event ∷ events) outcome k h =
    follows_who o (next h.0) events outcome (k h.0 tt) h.2
follows_who o (Tell entry next) (event ∷ events) outcome k h =
    follows_who o next events outcome k h.1

finish_who : {E F : Type 0} (o : Option (List ℕ)) (ticked : Bool) (between : Outcome)
    (events : List (Event E F)) (outcome : Outcome) → ComesWho o between
    → Follows (finish_input ticked between) events outcome → ComesWho o outcome
finish_who o ticked between events outcome h f =
    follows_who o (finish_input ticked between) events outcome
    (input_comes Anything (ComesWho o) ticked (Finish between)
    (λ w. (λ k. (k, k), λ k. k, λ keys k. k)) h) f

turn_who : {E F : Type 0} (accepts : Acceptance) (w : World) (turn : Turn E F)
    (plan : Plan Outcome) (outcome : Outcome) → Owes accepts w turn.input plan
    → Follows plan turn.events outcome
    → ComesWho (first_of (who w.user) (first_user (calls_of turn))) outcome
turn_who {E} {F} accepts w turn plan outcome o f =
    let ticked = asks_for_keys turn.input.kind in
    let p = parts_of o.0 (finish_input ticked) turn.events outcome
    (subst (λ q. Follows q turn.events outcome) o.2 f) in
    let first = kind_who accepts w turn.input.moment turn.input.kind o.0 p.early p.between o.1
    p.first in
    let rest = follows_else (finish_input ticked p.between) p.rest outcome
    (finish_else ticked p.between) p.second in
    let is : first_user (calls_of turn) ≡ first_user (calls_in p.early) =
    ap (λ l. first_user (calls_in l)) p.is ∙ ap first_user (calls_both p.early p.rest)
    ∙ users_both (calls_in p.early) (calls_in p.rest)
    ∙ ap (first_of (first_user (calls_in p.early))) rest
    ∙ first_none (first_user (calls_in p.early)) in
    subst (λ x. ComesWho (first_of (who w.user) x) outcome) (sym is)
    (finish_who (first_of (who w.user) (first_user (calls_in p.early))) ticked p.between p.rest
    outcome first p.second)

run_who : {E F : Type 0} (accepts : Acceptance) (w : World) (turns : List (Turn E F))
    (world : World) → Run accepts w turns world
    → who world.user ≡ first_of (who w.user) (first_user (flat_map calls_of turns))
run_who accepts w [] world run =
    ap (λ (v : World). who v.user) run ∙ sym (first_none (who w.user))
run_who accepts w (turn ∷ turns) world run =
    let t = run.1 in
    run_who accepts run.0 turns world run.2
    ∙ ap (λ o. first_of o (first_user (flat_map calls_of turns)))
    (turn_who accepts w turn t.0 (Goes run.0) t.1 t.2)
    ∙ first_both (who w.user) (first_user (calls_of turn)) (first_user (flat_map calls_of turns))
    ∙ ap (first_of (who w.user)) (sym (users_both (calls_of turn) (flat_map calls_of turns)))

pub users_stay : (E F : Type 0) (accepts : Acceptance) → UserIsFirst E F accepts
users_stay E F accepts settings turns world run =
    run_who accepts (opening_world settings) turns world run

pub user_stays : (E F : Type 0) (accepts : Acceptance) → UserStays E F accepts
user_stays E F accepts w world turns user run is =
    run_who accepts w turns world run
    ∙ ap (λ o. first_of o (first_user (flat_map calls_of turns))) is
