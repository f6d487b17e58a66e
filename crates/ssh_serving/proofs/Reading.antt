-- What the code reads of a message is what its layout says.
use Rattle.std.proofs.Common.{◌≡◌, ◌∙◌, ℕ, List, [], false, refl, sym, ap, subst, inl, inr}
use Rattle.std.proofs.Common.{length, drop}
use Rattle.std.specs.Prelude.{IsErrAnd, Result, Err}
use Rattle.std.proofs.lemmas.Result.{err_from_is_err_and}
use Rattle.ssh_wire.specs.declared.error.WireError.{WireError}
use Rattle.ssh_wire.specs.declared.error.WireError.TheVariants as wire
use Rattle.ssh_wire.specs.declared.error.LayoutError.{LayoutError}
use Rattle.ssh_wire.specs.declared.error.LayoutError.TheVariants as layout
use Rattle.ssh_wire.specs.declared.open.ChannelOpenConfirmation.{ChannelOpenConfirmation}
use Rattle.ssh_wire.specs.Open.{SpellsConfirmation, MisfitsConfirmation}
use Rattle.ssh_auth.specs.Plan.{Plan, Finish}
use Rattle.ssh_auth.specs.Publickey.{Acceptance}
use Rattle.ssh_rules.specs.declared.error.Flow.{Flow}
use Rattle.ssh_rules.specs.declared.error.RunError.{RunError}
use Rattle.ssh_rules.specs.declared.exchange.Passage.TheVariants.{Passes}
use Rattle.ssh_rules.specs.declared.gate.Gate.{Gate}
use Rattle.ssh_rules.specs.declared.messages.Spoken.{Spoken}
use Rattle.ssh_serving.specs.declared.server.Server.{Server}
use Rattle.ssh_rules.specs.Failure.{run_error_of, error_of_layout}
use Rattle.ssh_rules.specs.Heard.{Heard}
use Rattle.ssh_rules.specs.Outcome.{Outcome}
use Rattle.ssh_rules.specs.Reading.{Said, said_of, Connection, Unfit, Agreed, Without_packets}
use Rattle.ssh_rules.specs.Reading.{Says, SaysConfirmation}
use Rattle.ssh_rules.specs.Gate.{gate_of}
use Rattle.ssh_rules.specs.Run.{OwesPassed, OwesPayload, passage}
use Rattle.ssh_rules.specs.Rows.{row}
use Rattle.ssh_rules.specs.Cause.{comes}
use Rattle.ssh_serving.specs.Serve.{Completes}
use Rattle.ssh_rules.specs.Spelling.{Layout, Spells, IsRead}
use Rattle.ssh_rules.specs.World.{World, circumstances}
use Rattle.ssh_rules.proofs.Begins.Rows.{row_never}
use Rattle.ssh_rules.proofs.Plans.Telling.{row_given}
use Rattle.ssh_serving.specs.Handing.{CompletesTo, IsCutInRow}
use Rattle.ssh_serving.proofs.Handing.{plain_row}
use Rattle.ssh_serving.proofs.Serving.{starves, unfit, hears_nothing}

abbrev pub finish : Flow → World → Plan Outcome
finish flow world = Finish (comes flow world)

unserved_so : {E F : Type 0} (w : World) (moment : ℕ) (layout : Layout Spoken) (bytes : List ℕ)
    (why : WireError) (a : Heard E F) (session : Server) → IsRead layout bytes (Err why)
    → (read : Result Spoken WireError) × Spells layout bytes read
    × Completes (row w moment (said_of Connection read)) a a session (Err (run_error_of why))
unserved_so w moment layout bytes wire.NoMemory a session h =
    (h.0, h.1, starves {T = Flow} (row w moment (said_of Connection h.0)) finish a session)
unserved_so w moment layout bytes wire.Short a session h =
    (Err wire.Short, h, unfit wire.Short finish a session)
unserved_so w moment layout bytes wire.NotUtf8 a session h =
    (Err wire.NotUtf8, h, unfit wire.NotUtf8 finish a session)
unserved_so w moment layout bytes (wire.Trailing left) a session h =
    (Err (wire.Trailing left), h, unfit (wire.Trailing left) finish a session)
unserved_so w moment layout bytes wire.TooLong a session h =
    (Err wire.TooLong, h, unfit wire.TooLong finish a session)

-- a message that was not read is not served
pub unserved : {E F : Type 0} (w : World) (moment : ℕ) (layout : Layout Spoken) (bytes : List ℕ)
    (why : WireError) (a : Heard E F) (session : Server) (e : RunError E F)
    (result : Result Flow (RunError E F)) → IsErrAnd result (λ x. x ≡ e) → e ≡ run_error_of why
    → IsRead layout bytes (Err why)
    → (read : Result Spoken WireError) × Spells layout bytes read
    × Completes (row w moment (said_of Connection read)) a a session result
unserved {E} {F} w moment layout bytes why a session e result h is k =
    let p = err_from_is_err_and result h in
    subst (λ r. (read : Result Spoken WireError) × Spells layout bytes read
    × Completes {E = E} {F = F} (row w moment (said_of Connection read)) a a session r)
    (sym (p.1 ∙ ap Err (p.2 ∙ is))) (unserved_so w moment layout bytes why a session k)

pub ended_confirmation : (fields left rest : List ℕ) (message : ChannelOpenConfirmation)
    (why : WireError) → left ≡ fields → SpellsConfirmation message left rest → (rest ≡ [] → ⊥)
    → why ≡ wire.Trailing (length rest) → SaysConfirmation fields (Unfit why)
ended_confirmation fields left rest message why e h more is =
    inr (message, rest, subst (λ l. SpellsConfirmation message l rest) e h, (more, is))

pub agreed_by : (fields left rest : List ℕ) (message : ChannelOpenConfirmation) → left ≡ fields
    → SpellsConfirmation message left rest → rest ≡ [] → SaysConfirmation fields (Agreed message)
agreed_by fields left rest message e h none =
    subst (λ l. SpellsConfirmation message l []) e (subst (SpellsConfirmation message left) none h)

pub unfit_confirmation : {E F : Type 0} (w : World) (moment : ℕ) (fields left : List ℕ)
    (why : LayoutError) (a : Heard E F) (session : Server) → left ≡ fields
    → MisfitsConfirmation left why → (said : Said)
    × SaysConfirmation fields said
    × Completes (row w moment said) a a session (Err (error_of_layout why))
unfit_confirmation w moment fields left (layout.Wire why) a session e h = (
  Unfit why,
  inl (subst (λ l. MisfitsConfirmation l (layout.Wire why)) e h),
  unfit why finish a
      session,
)
unfit_confirmation w moment fields left layout.Inconsistent a session e h = (
  Without_packets,
  subst (λ l. MisfitsConfirmation l layout.Inconsistent) e h,
  ([], hears_nothing false a, refl),
)

-- a payload that is read by its number owes the row of what it says
pub read_row : {E F : Type 0} (accepts : Acceptance) (w : World) (moment : ℕ) (payload : List ℕ)
    (gate : Gate) (said : Said) (a b : Heard E F) (session : Server)
    (result : Result Flow (RunError E F)) → Passes ≡ passage w payload → gate ≡ gate_of w payload →
    Says (circumstances accepts w.settings moment) w gate (drop 1 payload) said →
    Completes (row w moment said) a b session result →
    (plan : Plan Outcome) × OwesPayload accepts w moment payload plan
    × CompletesTo IsCutInRow plan a b session result
read_row accepts w moment payload gate said a b session result passes is says h =
    let plan = row w moment said in (
      plan,
      subst (λ at. OwesPassed at accepts w moment payload plan) passes (
        said,
        subst (λ at. Says (circumstances accepts w.settings moment) w at (drop 1 payload) said) is
            says,
        refl,
      ),
      plain_row plan a b session result (row_never w moment said) (row_given w moment said) h,
    )
