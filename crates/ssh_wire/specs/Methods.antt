-- The authentication methods, their names and lists of them (RFC 4252 sections 5, 7, 8 and 9; RFC
-- 4256; RFC 4462).
use Rattle.std.specs.Prelude.{◌≡◌, ℕ, Bool, not, List, [], ◌∷◌, ◌++◌, filter, filter_map, find, map}
use Rattle.std.specs.Prelude.{bytes_eq, codes, Option}
use Rattle.std.specs.Cmp.{IsEquivalence}
use Rattle.std.specs.Cmp.Lexicographic.{pointwise, lists_equiv, on_texts_equal}
use Rattle.std.specs.List.{list_any, IsDistinct}
use Rattle.ssh_wire.specs.Names.{joined}
use Rattle.ssh_wire.specs.declared.method.MethodKind.{MethodKind}
use Rattle.ssh_wire.specs.declared.method.MethodKind.TheVariants as kind

abbrev pub method_name : MethodKind → List ℕ
method_name kind.None = codes "none"
method_name kind.Password = codes "password"
method_name kind.PublicKey = codes "publickey"
method_name kind.HostBased = codes "hostbased"
method_name kind.KeyboardInteractive = codes "keyboard-interactive"
method_name kind.GssapiWithMic = codes "gssapi-with-mic"

-- no method has this name
abbrev pub IsNoMethod : List ℕ → Type 0
IsNoMethod name = (method : MethodKind) → method_name method ≡ name → ⊥

-- the first five, which a server can offer
abbrev pub server_methods : List MethodKind
server_methods =
    kind.None ∷ kind.Password ∷ kind.PublicKey ∷ kind.HostBased ∷ kind.KeyboardInteractive ∷ []

-- all six, which a client can try
abbrev pub all_methods : List MethodKind
all_methods = server_methods ++ kind.GssapiWithMic ∷ []

-- whether the two are one method: they have one name
abbrev pub is_same : MethodKind → MethodKind → Bool
is_same method other = bytes_eq (method_name method) (method_name other)

-- whether the two lists are one
abbrev pub are_same : List MethodKind → List MethodKind → Bool
are_same methods others = pointwise is_same methods others

pub are_same-laws : IsEquivalence are_same
are_same-laws = lists_equiv (on_texts_equal method_name)

-- the methods but this one, in order
abbrev pub without : MethodKind → List MethodKind → List MethodKind
without method methods = filter (λ other. not (is_same method other)) methods

-- the method moved to the end, or added there
abbrev pub pushed : MethodKind → List MethodKind → List MethodKind
pushed method methods = without method methods ++ method ∷ []

-- after one of them after another was moved or added
abbrev pub pushed_all : List MethodKind → List MethodKind → List MethodKind
pushed_all [] methods = methods
pushed_all (next ∷ rest) methods = pushed_all rest (pushed next methods)

-- whether the method stands there
abbrev pub has : MethodKind → List MethodKind → Bool
has method methods = list_any (is_same method) methods

-- no method stands there twice
abbrev pub NoDoubles : List MethodKind → Type 0
NoDoubles methods = IsDistinct is_same methods

-- the method that has this name
abbrev pub method_named : List ℕ → Option MethodKind
method_named name = find (λ method. bytes_eq (method_name method) name) all_methods

-- the methods that these names name, where a name of no method counts for nothing
abbrev pub named : List (List ℕ) → List MethodKind
named names = filter_map method_named names

-- the methods as they are listed on the wire
abbrev pub names_text : List MethodKind → List ℕ
names_text methods = joined (map method_name methods)
