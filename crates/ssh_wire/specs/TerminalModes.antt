-- When two terminal modes are one, and two lists of modes with their values.
use Rattle.std.specs.Prelude.{ℕ, List, Bool, ◌&&◌, nat_eq}
use Rattle.std.specs.Cmp.{IsEquivalence, and_equiv, on_equiv, nat_eq_equiv}
use Rattle.std.specs.Cmp.Lexicographic.{pointwise, lists_equiv}
use Rattle.ssh_wire.specs.declared.pty.Pty.{Pty}
use Rattle.ssh_wire.specs.Ptys.{opcode}

-- whether the two are one mode: they have one code
abbrev pub is_same_mode : Pty → Pty → Bool
is_same_mode mode other = nat_eq (opcode mode) (opcode other)

pub is_same_mode-laws : IsEquivalence is_same_mode
is_same_mode-laws = on_equiv opcode nat_eq_equiv

-- whether the two are one mode with one value
abbrev pub is_same : Pty × ℕ → Pty × ℕ → Bool
is_same mode other = is_same_mode mode.0 other.0 && nat_eq mode.1 other.1

-- whether the two lists are one
abbrev pub are_same : List (Pty × ℕ) → List (Pty × ℕ) → Bool
are_same modes others = pointwise is_same modes others

pub are_same-laws : IsEquivalence are_same
are_same-laws = lists_equiv (and_equiv (on_equiv (λ mode. mode.0) is_same_mode-laws)
    (on_equiv (λ mode. mode.1) nat_eq_equiv))
