-- Moves are plans in which nothing of the connection comes before an answer that accepts a user.
use Rattle.std.proofs.Common.{◌≡◌, ◌⊎◌, ℕ, List, [], ◌∷◌, ◌++◌, map, Bool, true, false, cond}
use Rattle.std.proofs.Common.{Some, None, Ok, refl, sym, ap, subst, inl, inr}
use Rattle.ssh_link.specs.declared.command.Command.{Command}
use Rattle.ssh_link.specs.declared.frame.InputKind.{InputKind}
use Rattle.ssh_link.specs.declared.frame.InputKind.TheVariants as input
use Rattle.ssh_link.specs.declared.link.TraceEntry.TheVariants as traced
use Rattle.ssh_link.specs.declared.notice.Notice.{Notice}
use Rattle.ssh_link.specs.declared.outcome.CommandOutcome.{CommandOutcome}
use Rattle.ssh_auth.specs.declared.auth.Auth.TheVariants.{Accept}
use Rattle.ssh_auth.specs.declared.question.Admission.{Admission}
use Rattle.ssh_auth.specs.declared.question.Admission.TheVariants as by
use Rattle.ssh_auth.specs.Plan.{Plan, Finish, Tell, Event, Called, Stepped, Told}
use Rattle.ssh_auth.specs.Publickey.{Acceptance, Circumstances}
use Rattle.ssh_auth.specs.Was.{Was, Admitted_so, was}
use Rattle.ssh_rules.specs.Acts.{acts, done, tell_all}
use Rattle.ssh_rules.specs.Authorised.{IsAdmitted, IsAcceptingSo, NeedsUser}
use Rattle.ssh_session.specs.Between.{OwesBehind, OwesUnlessEnded, flushed}
use Rattle.ssh_rules.specs.Effect.{Brings, effect}
use Rattle.ssh_rules.specs.Outcome.{Outcome, Goes, Ends}
use Rattle.ssh_rules.specs.Run.{begins, command_row, going_out, hand_on, handed_on, is_due}
use Rattle.ssh_rules.specs.World.{World, circumstances, is_held, lined}
use Rattle.ssh_channels.specs.Entry.{flush_out, flushed as flushed_entry}
use Rattle.ssh_channels.specs.Lines.{Lines, find, goes_on, settles, where_found}
use Rattle.ssh_rules.proofs.Authorised.Commands.{noted_guarded, owed_guarded}
use Rattle.ssh_rules.proofs.Authorised.Rows.{unnamed}
use Rattle.ssh_rules.proofs.Authorised.Guards.{IsClear, NamesLast, Guarded, SomeAccepts, Walks}
use Rattle.ssh_rules.proofs.Authorised.Guards.{plan_accepted, low_told, handed_low, handed_clear}
use Rattle.ssh_rules.proofs.Authorised.Guards.{begins_guarded, input_guarded}
use Rattle.ssh_drive.specs.Moves.{coming}
use Rattle.ssh_drive.proofs.Entering.{clear_stays}

-- ---- notices

noted_back : (given : Circumstances) (named : List ℕ → Type 0) (a : Type 0) (kind : InputKind)
    (notices : List Notice) (next : Plan Outcome)
    → Guarded given named a kind (tell_all (map traced.Noticed notices) next)
    → Guarded given named a kind next
noted_back given named a kind [] next h = h
noted_back given named a kind (notice ∷ notices) next h =
    noted_back given named a kind notices next h.1

-- notices need no user
pub notices_need_none : {E F : Type 0} (notices : List Notice) (outcome : Outcome)
    (past more : List (Event E F)) (event : Event E F)
    → Walks (tell_all (map traced.Noticed notices) (Finish outcome)) (past ++ event ∷ more)
    → NeedsUser event → ⊥
notices_need_none [] outcome [] more event w needs = w
notices_need_none [] outcome (first ∷ past) more event w needs = w
notices_need_none (notice ∷ notices) outcome [] more event w needs = subst NeedsUser w.0 needs
notices_need_none (notice ∷ notices) outcome (first ∷ past) more event w needs =
    notices_need_none notices outcome past more event w.1 needs

-- ---- a payload

live_guarded : (ended : Bool) (accepts : Acceptance) (named : List ℕ → Type 0) (a : Type 0)
    (w : World) (moment : ℕ) (payload : List ℕ) (plan : Plan Outcome)
    → OwesUnlessEnded ended accepts w (coming moment payload) plan → a ⊎ IsClear named w
    → Guarded (circumstances accepts w.settings moment) named a (input.Payload payload) plan
live_guarded false accepts named a w moment payload plan o h =
    let kind = input.Payload payload in
    let given = circumstances accepts w.settings moment in
    subst (Guarded given named a kind) (sym o.2)
    (input_guarded given named a kind false o.0
    (owed_guarded accepts named a w moment kind o.0 o.1 h))
live_guarded true accepts named a w moment payload plan o (inl x) =
    plan_accepted (circumstances accepts w.settings moment) named a (input.Payload payload) plan x
live_guarded true accepts named a w moment payload plan o (inr clear) =
    let kind = input.Payload payload in
    let given = circumstances accepts w.settings moment in
    subst (Guarded given named a kind) (sym o)
    (input_guarded given named a kind false (Finish (Ends w)) (inr clear.3))

pub behind_guarded : (accepts : Acceptance) (named : List ℕ → Type 0) (a : Type 0) (w : World)
    (moment : ℕ) (payload : List ℕ) (notices : List Notice) (plan : Plan Outcome)
    → OwesBehind notices accepts w (coming moment payload) plan → a ⊎ IsClear named w
    → Guarded (circumstances accepts w.settings moment) named a (input.Payload payload) plan
behind_guarded accepts named a w moment payload notices plan (later, owes, is) h =
    let kind = input.Payload payload in
    let given = circumstances accepts w.settings moment in
    subst (Guarded given named a kind) (sym is)
    (noted_guarded given named a kind notices later
    (live_guarded w.disconnected accepts named a w moment payload later owes h))

-- ---- a command

command_clear : (accepts : Acceptance) (named : List ℕ → Type 0) (w : World) (command : Command)
    (notices : List Notice) (outcome : CommandOutcome) (world : World)
    → effect w command ≡ Brings notices outcome world → IsClear named w
    → ⊥ ⊎ IsClear (NamesLast named (input.Command 0 command)) world
command_clear accepts named w command notices outcome world is clear =
    let kind = input.Command 0 command in
    let given = circumstances accepts w.settings 0 in
    let next : CommandOutcome → World → Plan Outcome =
    λ came v. Tell (traced.Answered 0 came) (Finish (Goes v)) in
    let row : Guarded given named ⊥ kind (done (effect w command) next) =
    owed_guarded accepts named ⊥ w 0 kind (command_row w 0 command) refl (inr clear) in
    let so = subst (λ does. Guarded given named ⊥ kind (done does next)) is row in
    let told = noted_back given named ⊥ kind notices (next outcome world) so in
    told.1

-- before a user is let in a command opens nothing and says nothing on a channel
pub command_stays : (accepts : Acceptance) (named : List ℕ → Type 0) (a : Type 0) (w : World)
    (command : Command) (notices : List Notice) (outcome : CommandOutcome) (world : World)
    → effect w command ≡ Brings notices outcome world → a ⊎ IsClear named w
    → a ⊎ IsClear named world
command_stays accepts named a w command notices outcome world is (inl x) = inl x
command_stays accepts named a w command notices outcome world is (inr clear) =
    elim (command_clear accepts named w command notices outcome world is clear) [
      | inl none ↦ absurd none
      | inr later ↦ inr (clear_stays named (input.Command 0 command) world (λ other r. r) later)
    ]

-- ---- what a channel lets out: before a user is in there is none

none_lets_out : (n : ℕ) (l : Lines) → l.entries ≡ [] → goes_on n l ≡ l
none_lets_out n l none =
    ap (λ es. where_found (find n es) (λ e. settles (flushed_entry e) (flush_out e)) l) none

pub let_out_clear : (ended : Bool) (named : List ℕ → Type 0) (n : ℕ) (w : World)
    → IsClear named w → IsClear named (cond ended w (lined (goes_on n) w))
let_out_clear true named n w clear = clear
let_out_clear false named n w clear =
    subst (λ l. IsClear named (lined (λ _. l) w)) (sym (none_lets_out n w.channels.lines clear.1))
    clear

-- ---- what is handed on

flushed_guarded : (given : Circumstances) (named : List ℕ → Type 0) (a : Type 0)
    (kind : InputKind) (w : World) (ended due : Bool) → IsClear (NamesLast named kind) w
    → Guarded given named a kind (cond ended (Finish (Goes w)) (acts (begins due) w))
flushed_guarded given named a kind w true due clear = inr clear
flushed_guarded given named a kind w false due clear =
    begins_guarded given named a kind w due clear

-- by the tick that asks for new keys, which is no request
pub flush_guarded : (given : Circumstances) (named : List ℕ → Type 0) (a : Type 0) (w : World)
    (notices : List Notice) → a ⊎ IsClear named w
    → Guarded given named a input.RekeyTick
    (tell_all (map traced.Noticed notices) (hand_on w flushed))
flush_guarded given named a w notices (inl x) =
    plan_accepted given named a input.RekeyTick
    (tell_all (map traced.Noticed notices) (hand_on w flushed)) x
flush_guarded given named a w notices (inr clear) =
    let kind = input.RekeyTick in
    let v = handed_on w in
    noted_guarded given named a kind notices (hand_on w flushed)
    (low_told given named a kind (going_out w) (flushed v)
    (handed_low (is_held w) w.channels.lines clear.3)
    (flushed_guarded given named a kind v v.disconnected (is_due false v)
    (unnamed named kind v (λ other r. r) (handed_clear named w clear))))

-- nobody is let in by it
admits_none : (given : Circumstances) (named : List ℕ → Type 0) (admission : Admission)
    → IsAdmitted given named input.RekeyTick admission → ⊥
admits_none given named (by.None user) h = h
admits_none given named (by.Password user password) h = h
admits_none given named (by.PublickeyOffered user key algorithm) h = h
admits_none given named (by.Publickey user key algorithm) h = h
admits_none given named (by.OpensshCertificate user certificate) h = h
admits_none given named (by.KeyboardInteractive user submethods None) h = h
admits_none given named (by.KeyboardInteractive user submethods (Some responses)) h = h.0

accepts_none : {E : Type 0} (given : Circumstances) (named : List ℕ → Type 0) (so : Was E)
    → IsAcceptingSo given named input.RekeyTick so → ⊥
accepts_none given named (Admitted_so admission (Ok Accept)) h =
    admits_none given named admission h
accepts_none given named _ h = h

pub none_accepts : {E F : Type 0} (given : Circumstances) (named : List ℕ → Type 0)
    (events : List (Event E F)) → SomeAccepts given named input.RekeyTick events → ⊥
none_accepts given named [] h = h
none_accepts given named (Called call ∷ events) (inl h) = accepts_none given named (was call) h
none_accepts given named (Called call ∷ events) (inr h) = none_accepts given named events h
none_accepts given named (Stepped step ∷ events) h = none_accepts given named events h
none_accepts given named (Told entry ∷ events) h = none_accepts given named events h
