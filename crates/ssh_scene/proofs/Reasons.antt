-- The codes of the reasons to refuse an open.
use Rattle.std.proofs.Common.{◌≡◌, ℕ, Option, Some, None, arith, sym, ◌∙◌, ap, refl}
use Rattle.std.specs.Prelude.{IfSome}
use Rattle.std.proofs.lemmas.Grind.{common_steps}
use Rattle.ssh_wire.specs.declared.open_failure.ChannelOpenFailure.{ChannelOpenFailure}
use Rattle.ssh_wire.specs.declared.open_failure.ChannelOpenFailure.TheVariants as reason
use Rattle.ssh_wire.specs.OpenFailures.{open_failure_code}
use Rattle.ssh_scene.specs.Grammar.{reason_of}

coded : (why : ChannelOpenFailure) → reason_of (open_failure_code why) ≡ Some why
coded reason.AdministrativelyProhibited = refl
coded reason.ConnectFailed = refl
coded reason.UnknownChannelType = refl
coded reason.ResourceShortage = refl

no_reason : (code : ℕ) → ((why : ChannelOpenFailure) → open_failure_code why ≡ code → ⊥)
    → reason_of code ≡ None
no_reason code h =
    let a = h reason.AdministrativelyProhibited in
    let b = h reason.ConnectFailed in
    let c = h reason.UnknownChannelType in
    let d = h reason.ResourceShortage in
    grind (arith, common_steps, a, b, c, d)

none_is_some : (why : ChannelOpenFailure) → None ≡ Some why → ⊥
none_is_some why e = cc

-- what finds the reason of each code is it
pub the_reason : (code : ℕ) (found : Option ChannelOpenFailure)
    → IfSome found (λ why. open_failure_code why ≡ code) →
    ((why : ChannelOpenFailure) → open_failure_code why ≡ code → found ≡ Some why) → found
    ≡ reason_of code
the_reason code (Some why) h k = sym (ap reason_of (sym h) ∙ coded why)
the_reason code None h k = sym (no_reason code (λ why e. none_is_some why (k why e)))
