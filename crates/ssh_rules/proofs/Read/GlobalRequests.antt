-- What the code reads of a global request is what the table of them has (RFC 4254 section 4).
use Rattle.std.proofs.Common.{◌≡◌, ℕ, List, Bool, Some, None, refl, sym, ap, subst, inl, inr}
use Rattle.std.specs.Prelude.{Result, Ok, IsErrAnd}
use Rattle.ssh_wire.specs.Field.{Values, SpellsWhole, MisfitsWhole}
use Rattle.ssh_wire.specs.declared.error.WireError.{WireError}
use Rattle.ssh_wire.specs.declared.error.WireError.TheVariants.{NoMemory}
use Rattle.ssh_rules.specs.declared.messages.Spoken.{Spoken}
use Rattle.ssh_rules.specs.declared.messages.Spoken.TheVariants as spoken
use Rattle.ssh_rules.specs.Globals.{KnownGlobal, global_layout, global_named, global_request_said}
use Rattle.ssh_rules.specs.Spelling.{Layout, IsRead}
use Rattle.ssh_rules.proofs.Read.Misread.{misread, unkept}

module _ (known : KnownGlobal) (wanted : Bool) where
  abbrev layout : Layout Spoken
  layout = global_layout (Some known) wanted

  -- a field does not fit, or bytes follow the last
  pub misasked : (bytes : List ℕ) (why : WireError) (result : Result Spoken WireError)
      → IsErrAnd result (λ x. x ≡ why) → MisfitsWhole known.fields bytes why
      → IsRead layout bytes result
  misasked bytes why result h m = misread layout bytes why result h (inr (why, m, refl))

  -- memory was wanting to keep what it asks
  pub unkept_asking : (values : Values known.fields) (bytes : List ℕ) (why : WireError)
      (result : Result Spoken WireError) → IsErrAnd result (λ x. x ≡ why) → why ≡ NoMemory
      → SpellsWhole known.fields values bytes → IsRead layout bytes result
  unkept_asking values bytes why result h is s =
      unkept layout bytes why (Ok (global_request_said wanted (known.asks values))) result h is
      (inl (values, s, refl))

  -- it asks this
  pub asked_so : (values : Values known.fields) (bytes : List ℕ) (said : Spoken)
      → SpellsWhole known.fields values bytes → said ≡ global_request_said wanted (known.asks values)
      → IsRead layout bytes (Ok said)
  asked_so values bytes said s is = inl (values, s, ap Ok is)

-- nothing is read of a request whose name is none of the table's
pub unknown_by : (name : List ℕ) (wanted : Bool) (rest : List ℕ) → global_named name ≡ None
    → IsRead (global_layout (global_named name) wanted) rest
    (Ok (spoken.RequestsGloballyUnknown wanted))
unknown_by name wanted rest none =
    subst (λ k. IsRead (global_layout k wanted) rest (Ok (spoken.RequestsGloballyUnknown wanted)))
    (sym none) refl
