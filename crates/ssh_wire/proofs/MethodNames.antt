-- What is known of the names of methods.
use Rattle.std.proofs.Common.{◌≡◌, ℕ, ◌+◌, ◌<◌, false, List, length, drop, get_or, Some, None, refl}
use Rattle.std.proofs.Common.{sym, ◌∙◌, ap, ⊎_elim, add-one, drop-cons}
use Rattle.std.specs.Prelude.{bytes_eq}
use Rattle.std.specs.List.{cons_option}
use Rattle.std.proofs.lemmas.Bool.{cases_Bool}
use Rattle.std.proofs.lemmas.Slice.Eq.{bytes_eq-Decides}
use Rattle.ssh_wire.specs.Methods.{method_name, method_named, named, pushed, pushed_all, IsNoMethod}
use Rattle.ssh_wire.specs.declared.method.MethodKind.{MethodKind}
use Rattle.ssh_wire.specs.declared.method.MethodKind.TheVariants as kind

pub method_named-method_name : (method : MethodKind)
    → method_named (method_name method) ≡ Some method
method_named-method_name kind.None = refl
method_named-method_name kind.Password = refl
method_named-method_name kind.PublicKey = refl
method_named-method_name kind.HostBased = refl
method_named-method_name kind.KeyboardInteractive = refl
method_named-method_name kind.GssapiWithMic = refl

other_name : (name : List ℕ) → IsNoMethod name → (method : MethodKind)
    → bytes_eq (method_name method) name ≡ false
other_name name none method = ⊎_elim
    (λ same. absurd (none method ((bytes_eq-Decides (method_name method) name).0 same)))
    (λ other. other)
    (cases_Bool (bytes_eq (method_name method) name))

pub method_named-none : (name : List ℕ) → IsNoMethod name → method_named name ≡ None
method_named-none name none = rw (
  other_name name none kind.None,
  other_name name none kind.Password,
  other_name name none kind.PublicKey,
  other_name name none kind.HostBased,
  other_name name none kind.KeyboardInteractive,
  other_name name none kind.GssapiWithMic,
) refl

named-drop : (names : List (List ℕ)) (i : ℕ) (d : List ℕ) → i < length names
    → named (drop i names) ≡ cons_option (method_named (get_or names i d))
    (named (drop (i + 1) names))
named-drop names i d below = rw (add-one, drop-cons names i d) refl

-- the next name names this method
pub pushed_all-named : (names : List (List ℕ)) (i : ℕ) (d : List ℕ) (method : MethodKind)
    (methods : List MethodKind) → i < length names → method_name method ≡ get_or names i d
    → pushed_all (named (drop (i + 1) names)) (pushed method methods)
    ≡ pushed_all (named (drop i names)) methods
pushed_all-named names i d method methods below is =
    let known : method_named (get_or names i d) ≡ Some method =
    ap method_named (sym is) ∙ method_named-method_name method in
    sym (ap (λ next. pushed_all next methods) (named-drop names i d below
    ∙ ap (λ found. cons_option found (named (drop (i + 1) names))) known))

-- the next name names none
pub pushed_all-unknown : (names : List (List ℕ)) (i : ℕ) (d : List ℕ) (methods : List MethodKind)
    → i < length names → IsNoMethod (get_or names i d)
    → pushed_all (named (drop (i + 1) names)) methods ≡ pushed_all (named (drop i names)) methods
pushed_all-unknown names i d methods below none =
    sym (ap (λ next. pushed_all next methods) (named-drop names i d below
    ∙ ap (λ found. cons_option found (named (drop (i + 1) names)))
    (method_named-none (get_or names i d) none)))
