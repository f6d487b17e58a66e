-- The files after a change of the map that keeps them.
use Rattle.std.proofs.Common.{◌≡◌, ℕ, List, [], ◌∷◌, sym, ap, subst, refl, ◌∙◌, Vec, Option, Bool}
use Rattle.std.proofs.Common.{true, false, Some, None, cond, Bor}
use Rattle.std.specs.Prelude.{option_map, map, option_copied, IsSome, IfSome}
use Rattle.std.specs.Global.{Global}
use Rattle.std.specs.declared.cmp.Ordering.{Ordering}
use Rattle.std.specs.declared.cmp.Ordering.TheVariants.{Less, Equal, Greater}
use Rattle.std.specs.Ordering.{nat_cmp, eq_by_cmp, is_eq}
use Rattle.std.specs.Cmp.{alike_right}
use Rattle.std.specs.Cmp.Lexicographic.{slice_cmp, nat_list_cmp_total}
use Rattle.std.specs.FinMap as finite
use Rattle.std.specs.FinMap.{find, get-from_entries, get-insert, get-remove, same_map}
use Rattle.std.specs.FinMap.{slice_cmp-IsAntisymmetric, nat_cmp-IsAntisymmetric}
use Rattle.std.specs.Map.{lookup, KeepsOthers, IsKeyTest, AreApart}
use Rattle.std.specs.BTreeMap.{BTreeMap, UpdatesBy, get_by, is_at}
use Rattle.ssh_sftp_core.specs.Files.{overwritten}
use Rattle.ssh_sftp_core.specs.Trees.{Tree, shown, tree_of}

pick : (b : Bool) (file : Vec ℕ Global) (o : Option (Vec ℕ Global)) (r : Option (List ℕ))
    → option_map (λ file. file.items) o ≡ r
    → option_map (λ file. file.items) (cond b (Some file) o) ≡ cond b (Some file.items) r
pick true file o r is = refl
pick false file o r is = is

-- what is found under a path
pub found : (path : List ℕ) (es : List (Vec ℕ Global × Vec ℕ Global))
    → option_map (λ file. file.items) (lookup (is_at (λ k. slice_cmp nat_cmp path k.items)) es)
    ≡ find (slice_cmp nat_cmp) path (map shown es)
found path [] = refl
found path (e ∷ es) = pick (eq_by_cmp (slice_cmp nat_cmp) path e.0.items) e.1
    (lookup (is_at (λ k. slice_cmp nat_cmp path k.items)) es)
    (find (slice_cmp nat_cmp) path (map shown es)) (found path es)

pub seen : (o : Option (Bor (Vec ℕ Global))) → option_map (λ file. file.now.items) o
    ≡ option_map (λ file. file.items) (option_copied o)
seen None = refl
seen (Some file) = refl

equal : (r : Ordering) → is_eq r ≡ true → r ≡ Equal
equal Less is = absurd (cc is)
equal Equal is = refl
equal Greater is = absurd (cc is)

-- a path's test is that of one key
one_key : (path : List ℕ) → IsKeyTest (λ x y. eq_by_cmp (slice_cmp nat_cmp) x.items y.items)
    (is_at (λ (k : Vec ℕ Global). slice_cmp nat_cmp path k.items))
one_key path x y is =
    ap is_eq (nat_list_cmp_total.congr path x.items y.items (equal (slice_cmp nat_cmp path x.items)
    is))

-- what tests another path passes no key that this one does
other_key : (path other : List ℕ) → eq_by_cmp (slice_cmp nat_cmp) other path ≡ false
    → AreApart (is_at (λ (k : Vec ℕ Global). slice_cmp nat_cmp path k.items))
    (is_at (λ k. slice_cmp nat_cmp other k.items))
other_key path other apart k is =
    ap is_eq (sym (alike_right nat_list_cmp_total path k.items other
    (equal (slice_cmp nat_cmp path k.items) is))) ∙ apart

same_path : (path other : List ℕ) → eq_by_cmp (slice_cmp nat_cmp) other path ≡ true → other ≡ path
same_path path other is = slice_cmp-IsAntisymmetric nat_cmp-IsAntisymmetric other path
    (equal (slice_cmp nat_cmp other path) is)

-- after a change at one path, what is found under any
changed : (m n : BTreeMap (Vec ℕ Global) (Vec ℕ Global)) (path : List ℕ) (w : Option (Vec ℕ Global))
    → UpdatesBy (λ x y. slice_cmp nat_cmp x.items y.items) (λ k. slice_cmp nat_cmp path k.items) m
    n w
    → (q : List ℕ) → find (slice_cmp nat_cmp) q (map shown n.entries)
    ≡ cond (eq_by_cmp (slice_cmp nat_cmp) q path) (option_map (λ file. file.items) w)
    (find (slice_cmp nat_cmp) q (map shown m.entries))
unfolding KeepsOthers
changed m n path w u q =
    elim (eq_by_cmp (slice_cmp nat_cmp) q path) as (λ b.
    eq_by_cmp (slice_cmp nat_cmp) q path ≡ b → find (slice_cmp nat_cmp) q (map shown n.entries)
    ≡ cond b (option_map (λ file. file.items) w) (find (slice_cmp nat_cmp) q (map shown
    m.entries))) [
      | true ↦ λ same. ap (λ z. find (slice_cmp nat_cmp) z (map shown n.entries)) (same_path path q
          same)
          ∙ sym (found path n.entries) ∙ ap (option_map (λ file. file.items)) u.1
      | false ↦ λ apart. sym (found q n.entries)
          ∙ ap (option_map (λ file. file.items))
          (u.3 (is_at (λ k. slice_cmp nat_cmp q k.items)) (one_key q) (other_key path q apart))
          ∙ found q m.entries
    ] refl

pub put_is : (m n : BTreeMap (Vec ℕ Global) (Vec ℕ Global)) (path : List ℕ) (file : Vec ℕ Global)
    → UpdatesBy (λ x y. slice_cmp nat_cmp x.items y.items) (λ k. slice_cmp nat_cmp path k.items) m n
    (Some file)
    → tree_of n.entries ≡ finite.insert (tree_of m.entries) path file.items
put_is m n path file u =
    same_map nat_list_cmp_total (slice_cmp-IsAntisymmetric nat_cmp-IsAntisymmetric) (tree_of
    n.entries)
    (finite.insert (tree_of m.entries) path file.items) (λ q.
    get-from_entries nat_list_cmp_total (map shown n.entries) q
    ∙ changed m n path (Some file) u q
    ∙ ap (cond (eq_by_cmp (slice_cmp nat_cmp) q path) (Some file.items))
    (sym (get-from_entries nat_list_cmp_total (map shown m.entries) q))
    ∙ sym (get-insert nat_list_cmp_total (tree_of m.entries) path file.items q))

pub taken_is : (m n : BTreeMap (Vec ℕ Global) (Vec ℕ Global)) (path : List ℕ)
    → UpdatesBy (λ x y. slice_cmp nat_cmp x.items y.items) (λ k. slice_cmp nat_cmp path k.items) m n
    None
    → tree_of n.entries ≡ finite.remove (tree_of m.entries) path
taken_is m n path u =
    same_map nat_list_cmp_total (slice_cmp-IsAntisymmetric nat_cmp-IsAntisymmetric) (tree_of
    n.entries)
    (finite.remove (tree_of m.entries) path) (λ q.
    get-from_entries nat_list_cmp_total (map shown n.entries) q
    ∙ changed m n path None u q
    ∙ ap (cond (eq_by_cmp (slice_cmp nat_cmp) q path) None)
    (sym (get-from_entries nat_list_cmp_total (map shown m.entries) q))
    ∙ sym (get-remove nat_list_cmp_total (tree_of m.entries) path q))

pub get_is : (entries : List (Vec ℕ Global × Vec ℕ Global)) (path : List ℕ)
    → option_map (λ file. file.items)
    (lookup (is_at (λ k. slice_cmp nat_cmp path k.items)) entries)
    ≡ finite.get (tree_of entries) path
get_is entries path = found path entries ∙ sym (get-from_entries nat_list_cmp_total (map shown
    entries) path)

-- the file under a path was written through what the map lent
pub written_is : (m n : BTreeMap (Vec ℕ Global) (Vec ℕ Global)) (tree : Tree) (path : List ℕ)
    (old new : Vec ℕ Global) (offset : ℕ) (bytes : List ℕ) → tree_of m.entries ≡ tree
    → Some old ≡ get_by (λ k. slice_cmp nat_cmp path k.items) m
    → (IsSome (get_by (λ k. slice_cmp nat_cmp path k.items) m)
    → UpdatesBy (λ x y. slice_cmp nat_cmp x.items y.items) (λ k. slice_cmp nat_cmp path k.items) m n
    (Some new))
    → new.items ≡ overwritten old.items offset bytes
    → IfSome (finite.get tree path) (λ file.
    tree_of n.entries ≡ finite.insert tree path (overwritten file offset bytes))
written_is m n tree path old new offset bytes view is updates new_is =
    let got : finite.get tree path ≡ Some old.items =
    ap (λ t. finite.get t path) (sym view) ∙ sym (get_is m.entries path)
    ∙ ap (option_map (λ file. file.items)) (sym is) in
    subst (λ o. IfSome o (λ file.
    tree_of n.entries ≡ finite.insert tree path (overwritten file offset bytes))) (sym got)
    (put_is m n path new (updates (subst IsSome is refl))
    ∙ ap (λ t. finite.insert t path new.items) view ∙ ap (finite.insert tree path) new_is)

-- there was no file under the path
pub missing_is : (m : BTreeMap (Vec ℕ Global) (Vec ℕ Global)) (tree : Tree) (path : List ℕ)
    (P : List ℕ → Type 0) → tree_of m.entries ≡ tree
    → None ≡ get_by (λ k. slice_cmp nat_cmp path k.items) m → IfSome (finite.get tree path) P
missing_is m tree path P view is =
    let got : finite.get tree path ≡ None =
    ap (λ t. finite.get t path) (sym view) ∙ sym (get_is m.entries path)
    ∙ ap (option_map (λ file. file.items)) (sym is) in
    subst (λ o. IfSome o P) (sym got) tt
