-- Whether data wait on some channel, by the channels on which something waits.
use Rattle.std.proofs.Common.{◌≡◌, ◌||◌, ℕ, List, [], ◌∷◌, Bool, true, false, cond, Option, Some}
use Rattle.std.proofs.Common.{None, IfSome, refl, sym, ◌∙◌, ap}
use Rattle.std.specs.List.{list_any}
use Rattle.std.specs.Ordering.{nat_cmp}
use Rattle.std.specs.BTreeMap.{is_at}
use Rattle.std.specs.Cmp.{nat_cmp_total, eq_by_cmp_equiv}
use Rattle.std.specs.List.Sorted.{IsStrictlySortedBy}
use Rattle.std.specs.Map.{lookup, keys_of, values_of}
use Rattle.std.proofs.lemmas.List.Folds.{list_any_none}
use Rattle.std.proofs.lemmas.Map.Keys.{IsDistinct-from_sorted}
use Rattle.std.proofs.lemmas.Map.Views.{All-values_from_lookup}
use Rattle.ssh_channels.specs.declared.params.ChannelParams.{ChannelParams}
use Rattle.ssh_channels.specs.Line.{data_waits, something_waits}
use Rattle.ssh_channels.specs.Table.{is_one, AreWaiting}
use Rattle.ssh_channels.proofs.Waits.{none_of}
use Rattle.ssh_channels.proofs.Noting.{is_member, line_in, same_number}

or_true : (a : Bool) → (a || true) ≡ true
or_true true = refl
or_true false = refl

-- a channel that a look-up finds is one of all
found_at : (b : Bool) (test : ℕ → Bool) (e : ℕ × ChannelParams) (es : List (ℕ × ChannelParams)) →
    (is_one data_waits (lookup test es) ≡ true → list_any data_waits (values_of es) ≡ true) →
    is_one data_waits (cond b (Some e.1) (lookup test es)) ≡ true →
    (data_waits e.1 || list_any data_waits (values_of es)) ≡ true
found_at true test e es r h = ap (λ b. b || list_any data_waits (values_of es)) h
found_at false test e es r h = ap (λ b. data_waits e.1 || b) (r h) ∙ or_true (data_waits e.1)

found_any : (test : ℕ → Bool) (es : List (ℕ × ChannelParams)) →
    is_one data_waits (lookup test es) ≡ true → list_any data_waits (values_of es) ≡ true
found_any test [] h = absurd (cc)
found_any test (e ∷ es) h = found_at (test e.0) test e es (found_any test es) h

some_at : (c : Bool) (b rest : Bool) → (c ≡ true → b ≡ true) → (rest ≡ true → b ≡ true) →
    (c || rest) ≡ true → b ≡ true
some_at true b rest f g h = f refl
some_at false b rest f g h = g h

some_one : (test : ℕ → Bool) (b : Bool) (ns : List ℕ) → ((n : ℕ) → test n ≡ true → b ≡ true) →
    list_any test ns ≡ true → b ≡ true
some_one test b [] f h = absurd (cc)
some_one test b (n ∷ ns) f h =
    some_at (test n) b (list_any test ns) (f n) (some_one test b ns f) h

none_at : (t rest a m b : Bool) → (a ≡ true → t ≡ b) → (rest ≡ false → m ≡ true → b ≡ false) →
    (t || rest) ≡ false → (a || m) ≡ true → b ≡ false
none_at true rest a m b f g h k = absurd (cc)
none_at false rest true m b f g h k = sym (f refl)
none_at false rest false m b f g h k = g h k

none_one : (test : ℕ → Bool) (q : ℕ) (ns : List ℕ) → list_any test ns ≡ false →
    is_member q ns ≡ true → test q ≡ false
none_one test q [] h k = absurd (cc)
none_one test q (n ∷ ns) h k =
    none_at (test n) (list_any test ns) (is_at (nat_cmp q) n) (is_member q ns) (test q)
    (λ t. ap test (sym (same_number q n t))) (none_one test q ns) h k

no_data : (o : Option ChannelParams) → is_one something_waits o ≡ false →
    is_one data_waits o ≡ false
no_data None h = refl
no_data (Some l) h = (none_of (data_waits l) l.pending_eof l.pending_close h).0

as_none : (o : Option ChannelParams) → is_one data_waits o ≡ false →
    IfSome o (λ l. data_waits l ≡ false)
as_none None h = tt
as_none (Some l) h = h

module _ (numbers : List ℕ) (lines : List (ℕ × ChannelParams)) (a : AreWaiting numbers lines)
    (sorted : IsStrictlySortedBy nat_cmp (keys_of lines)) where
  abbrev waits_on : ℕ → Bool
  waits_on n = is_one data_waits (line_in n lines)

  nowhere_at : (b : Bool) (q : ℕ) → is_member q numbers ≡ b → list_any waits_on numbers ≡ false →
      is_one data_waits (line_in q lines) ≡ false
  nowhere_at true q t h = none_one waits_on q numbers h t
  nowhere_at false q t h = no_data (line_in q lines) (sym (a q) ∙ t)

  any_at : (b : Bool) → list_any waits_on numbers ≡ b →
      list_any waits_on numbers ≡ list_any data_waits (values_of lines)
  any_at true t =
      t ∙ sym (some_one waits_on (list_any data_waits (values_of lines)) numbers
      (λ n. found_any (is_at (nat_cmp n)) lines) t)
  any_at false t =
      t ∙ sym (list_any_none data_waits (values_of lines)
      (All-values_from_lookup (eq_by_cmp_equiv nat_cmp_total) (λ l. data_waits l ≡ false) lines
      (IsDistinct-from_sorted nat_cmp (keys_of lines) sorted)
      (λ q. as_none (line_in q lines) (nowhere_at (is_member q numbers) q refl t))))

  pub any_waits : list_any (λ n. is_one data_waits (line_in n lines)) numbers
      ≡ list_any data_waits (values_of lines)
  any_waits = any_at (list_any waits_on numbers) refl
