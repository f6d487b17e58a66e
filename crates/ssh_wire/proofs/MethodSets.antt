-- What is known of lists of methods.
use Rattle.std.proofs.Common.{map, Some, ◌≡◌, ℕ, zero, suc, ◌+◌, ◌-◌, ◌*◌, ◌^◌, ◌<◌, ◌≤◌, Bool}
use Rattle.std.proofs.Common.{true, false, not, cond, List, [], ◌∷◌, ◌++◌, length, take, get_or}
use Rattle.std.proofs.Common.{set, replicate, refl, sym, ◌∙◌, ap, subst, arith, lit≤, length-append}
use Rattle.std.proofs.Common.{⊎_elim}
use Rattle.std.specs.Bool.{Decides}
use Rattle.std.specs.Cmp.{IsEquivalence}
use Rattle.std.specs.Option.{unwrap_or}
use Rattle.std.proofs.lemmas.Slice.Eq.{bytes_eq-Decides}
use Rattle.ssh_wire.proofs.MethodNames.{method_named-method_name}
use Rattle.std.specs.Cmp.Lexicographic.{pointwise_decides, on_texts_equal}
use Rattle.std.specs.List.{filter}
use Rattle.std.proofs.lemmas.Map.Keys.{IsDistinct-push, IsDistinct-tail, apart_from_distinct}
use Rattle.std.proofs.lemmas.List.{take_all, take_more_set, length-replicate, append-nil}
use Rattle.std.proofs.lemmas.Map.Made.{length-le_from_is_member, IsDistinct-from_count}
use Rattle.std.proofs.lemmas.List.Elements.{filter_more}
use Rattle.std.proofs.lemmas.Bool.{cases_Bool}
use Rattle.ssh_wire.specs.Methods.{are_same, method_named, is_same, without, has, NoDoubles}
use Rattle.ssh_wire.specs.Methods.{all_methods, names_text, method_name}
use Rattle.ssh_wire.specs.Names.{joined}
use Rattle.ssh_wire.specs.MethodPlaces.{IsHeld, placed}
use Rattle.ssh_wire.specs.declared.method.MethodKind.{MethodKind}
use Rattle.ssh_wire.specs.declared.method.MethodKind.TheVariants as kind

-- ---- one method is itself alone

pub is_same-self : (method : MethodKind) → is_same method method ≡ true
is_same-self kind.None = refl
is_same-self kind.Password = refl
is_same-self kind.PublicKey = refl
is_same-self kind.HostBased = refl
is_same-self kind.KeyboardInteractive = refl
is_same-self kind.GssapiWithMic = refl

pub eq-is_same : (method other : MethodKind) → is_same method other ≡ true → method ≡ other
eq-is_same method other same =
    let names : method_name method ≡ method_name other =
    (bytes_eq-Decides (method_name method) (method_name other)).0 same in
    let found : Some method ≡ Some other = sym (method_named-method_name method)
    ∙ ap method_named names ∙ method_named-method_name other in
    ap (λ one. unwrap_or one method) found

same_laws : IsEquivalence is_same
same_laws = on_texts_equal method_name

is_same-other : (method other : MethodKind) → (other ≡ method → ⊥) → is_same method other ≡ false
is_same-other method other differ =
    ⊎_elim (λ e. absurd (differ (sym (eq-is_same method other e)))) (λ e. e)
    (cases_Bool (is_same method other))

is_same-Decides : (method other : MethodKind) → Decides (is_same method other) (method ≡ other)
is_same-Decides method other =
    (eq-is_same method other, λ e. subst (λ m. is_same method m ≡ true) e (is_same-self method))

-- ---- equal lists

pub are_same-Decides : (methods others : List MethodKind)
    → Decides (are_same methods others) (methods ≡ others)
are_same-Decides methods others = pointwise_decides is_same-Decides methods others

-- ---- a list without doubles has at most six methods

has-all_methods : (method : MethodKind) → has method all_methods ≡ true
has-all_methods kind.None = refl
has-all_methods kind.Password = refl
has-all_methods kind.PublicKey = refl
has-all_methods kind.HostBased = refl
has-all_methods kind.KeyboardInteractive = refl
has-all_methods kind.GssapiWithMic = refl

pub length-NoDoubles : (methods : List MethodKind) → NoDoubles methods → length methods ≤ 6
length-NoDoubles methods distinct =
    length-le_from_is_member same_laws methods all_methods distinct
    (λ method _. has-all_methods method)

-- ---- one more method

pub NoDoubles-push : (methods : List MethodKind) (method : MethodKind) → NoDoubles methods
    → has method methods ≡ false → NoDoubles (methods ++ method ∷ [])
NoDoubles-push methods method distinct absent =
    IsDistinct-push same_laws methods method distinct absent

length_push : (methods : List MethodKind) (method : MethodKind)
    → length (methods ++ method ∷ []) ≡ length methods + 1
length_push methods method = length-append methods (method ∷ [])

pub room : (methods : List MethodKind) (method : MethodKind) → NoDoubles methods
    → has method methods ≡ false → length methods < 6
room methods method distinct absent =
    omega (
      arith,
      length_push methods method,
      length-NoDoubles (methods ++ method ∷ [])
          (NoDoubles-push methods method distinct absent),
    )

-- ---- one method less

has-filter : (p : MethodKind → Bool) (method : MethodKind) (methods : List MethodKind)
    → has method methods ≡ false → has method (filter p methods) ≡ false
has-filter p method [] absent = refl
has-filter p method (other ∷ rest) absent = grind (arith, has-filter p method rest)

has-before : (methods : List MethodKind) (i : ℕ) (d : MethodKind) → NoDoubles methods
    → i < length methods → has (get_or methods i d) (take i methods) ≡ false
has-before [] i d distinct below = absurd (omega arith)
has-before (first ∷ rest) zero d distinct below = refl
has-before (first ∷ rest) (suc i) d distinct below =
    let apart : is_same (get_or rest i d) first ≡ false =
    same_laws.symm (get_or rest i d) first ∙ apart_from_distinct is_same (first ∷ rest) 0 (suc i) d
    distinct (omega arith) below in
    rw apart (has-before rest i d (IsDistinct-tail is_same first rest distinct) (omega arith))

-- the next method of a list is not among those before it
pub has-without : (method : MethodKind) (methods : List MethodKind) (i : ℕ) (d : MethodKind)
    → NoDoubles methods → i < length methods → has (get_or methods i d)
    (without method (take i methods)) ≡ false
has-without method methods i d distinct below =
    has-filter (λ other. not (is_same method other)) (get_or methods i d) (take i methods)
    (has-before methods i d distinct below)

pub without-kept : (method : MethodKind) (methods : List MethodKind) (i : ℕ) (d : MethodKind)
    → i < length methods → (get_or methods i d ≡ method → ⊥)
    → without method (take (i + 1) methods) ≡ without method (take i methods) ++ get_or methods i d
    ∷ []
without-kept method methods i d below differ =
    let kept : is_same method (get_or methods i d) ≡ false =
    is_same-other method (get_or methods i d) differ in
    filter_more (λ other. not (is_same method other)) methods i d below
    ∙ ap (λ same. without method (take i methods) ++ cond (not same) (get_or methods i d ∷ []) [])
    kept

pub without-left_out : (method : MethodKind) (methods : List MethodKind) (i : ℕ) (d : MethodKind)
    → i < length methods → get_or methods i d ≡ method
    → without method (take (i + 1) methods) ≡ without method (take i methods)
without-left_out method methods i d below same =
    let out : is_same method (get_or methods i d) ≡ true = rw same (is_same-self method) in
    filter_more (λ other. not (is_same method other)) methods i d below
    ∙ ap (λ is. without method (take i methods) ++ cond (not is) (get_or methods i d ∷ []) []) out
    ∙ append-nil (without method (take i methods))

pub has_self-without : (method : MethodKind) (methods : List MethodKind)
    → has method (without method methods) ≡ false
has_self-without method [] = refl
has_self-without method (other ∷ rest) = grind (arith, has_self-without method rest)

-- ---- the places

pub IsHeld-none : IsHeld 0 (replicate 6 kind.None)
IsHeld-none = record {
  counted = refl;
  fits = lit≤ tt;
  is_placed = refl;
  distinct =
      IsDistinct-from_count same_laws [] refl;
}

pub IsHeld-all_methods : IsHeld 6 all_methods
IsHeld-all_methods = record {
  counted = refl;
  fits = lit≤ tt;
  is_placed = refl;
  distinct =
      IsDistinct-from_count same_laws all_methods refl;
}

set_next : (methods : List MethodKind) (n : ℕ) (method : MethodKind)
    → set (methods ++ replicate (suc n) kind.None) (length methods) method
    ≡ (methods ++ method ∷ []) ++ replicate n kind.None
set_next [] n method = refl
set_next (other ∷ rest) n method = ap (λ tail. other ∷ tail) (set_next rest n method)

placed-push : (methods : List MethodKind) (method : MethodKind) → length methods < 6
    → placed (methods ++ method ∷ []) ≡ set (placed methods) (length methods) method
placed-push methods method fits =
    let before : 6 - length methods ≡ suc (5 - length methods) = omega arith in
    let after : 6 - length (methods ++ method ∷ []) ≡ 5 - length methods =
    omega (arith, length_push methods method) in
    rw (before, after) (sym (set_next methods (5 - length methods) method))

pub six_places : (count : ℕ) (places : List MethodKind) → IsHeld count places → length places ≡ 6
six_places count places held = omega (
  arith,
  ap length held.is_placed,
  length-append (take count places) (replicate (6 - length (take count places)) kind.None),
  length-replicate (6 - length (take count places)) kind.None,
  held.counted,
  held.fits,
)

pub room_held : (count : ℕ) (places : List MethodKind) (method : MethodKind) → IsHeld count places
    → has method (take count places) ≡ false → count < 6
room_held count places method held absent =
    omega (arith, held.counted, room (take count places) method held.distinct absent)

pub take-placed : (count : ℕ) (places : List MethodKind) (method : MethodKind) → IsHeld count places
    → has method (take count places) ≡ false → take (count + 1) (set places count method)
    ≡ take count places ++ method ∷ []
take-placed count places method held absent =
    take_more_set places count method (omega (
      arith,
      six_places count places held,
      room_held count places method held absent,
    ))

pub IsHeld-push : (count : ℕ) (places : List MethodKind) (method : MethodKind) → IsHeld count places
    → has method (take count places) ≡ false → IsHeld (count + 1) (set places count method)
IsHeld-push count places method held absent =
    let methods = take count places in
    let below : count < 6 = room_held count places method held absent in
    let taken : take (count + 1) (set places count method) ≡ methods ++ method ∷ [] =
    take-placed count places method held absent in
    record {
      counted = ap length taken ∙ length_push methods method ∙ ap (λ n. n + 1) held.counted;
      fits = omega arith;
      is_placed = ap placed taken
          ∙ placed-push methods method (omega (arith, held.counted))
          ∙ ap (λ all. set all (length methods) method) held.is_placed
          ∙ ap (λ n. set places n method) held.counted;
      distinct = subst NoDoubles (sym taken) (NoDoubles-push methods method held.distinct absent);
    }

-- ---- the names on the wire are short

length-method_name : (method : MethodKind) → length (method_name method) ≤ 20
length-method_name kind.None = lit≤ tt
length-method_name kind.Password = lit≤ tt
length-method_name kind.PublicKey = lit≤ tt
length-method_name kind.HostBased = lit≤ tt
length-method_name kind.KeyboardInteractive = lit≤ tt
length-method_name kind.GssapiWithMic = lit≤ tt

length-names_text : (methods : List MethodKind) → length (names_text methods) ≤ 21 * length methods
length-names_text [] = lit≤ tt
length-names_text (method ∷ []) = omega (arith, length-method_name method)
length-names_text (method ∷ next ∷ rest) =
    omega (
      arith,
      length-method_name method,
      length-append (method_name method)
          (44 ∷ names_text (next ∷ rest)),
      length-names_text (next ∷ rest),
    )

-- the names of distinct methods fit in a field
pub names_text-fits : (methods : List MethodKind) → NoDoubles methods
    → length (names_text methods) < 2 ^ 32
names_text-fits methods distinct =
    omega (arith, length-names_text methods, length-NoDoubles methods distinct)

-- so do the names of a list that names them
pub listed-fits : (methods : List MethodKind) (count : ℕ) (names : List (List ℕ))
    → length methods ≤ count → names ≡ map method_name (take count methods) → NoDoubles methods
    → length (joined names) < 2 ^ 32
listed-fits methods count names all listed distinct =
    rw (listed, take_all count methods all) (names_text-fits methods distinct)
