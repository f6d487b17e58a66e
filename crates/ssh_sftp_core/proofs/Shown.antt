-- What stands of the handles, as the code keeps them.
use Rattle.std.proofs.Common.{◌≡◌, ◌==◌, not, ℕ, Bool, true, false, List, [], ◌∷◌, refl, ap, Option}
use Rattle.std.proofs.Common.{Some, None, cond, Bor}
use Rattle.std.specs.Prelude.{option_map, map, find, filter}
use Rattle.ssh_sftp_core.specs.declared.handles.Opened as kept
use Rattle.ssh_sftp_core.specs.Files.{Opened}
use Rattle.ssh_sftp_core.specs.Handles.{one_of}

found_head : (b : Bool) (x : kept.Opened) (o : Option kept.Opened) (r : Option Opened)
    → option_map one_of o ≡ r
    → option_map one_of (cond b (Some x) o) ≡ cond b (Some (one_of x)) r
found_head true x o r is = refl
found_head false x o r is = is

pub find_shown : (number : ℕ) (xs : List kept.Opened)
    → option_map one_of (find (λ one. one.number == number) xs)
    ≡ find (λ one. one.number == number) (map one_of xs)
find_shown number [] = refl
find_shown number (x ∷ xs) = found_head (x.number == number) x
    (find (λ one. one.number == number) xs) (find (λ one. one.number == number) (map one_of xs))
    (find_shown number xs)

kept_head : (b : Bool) (x : kept.Opened) (xs : List kept.Opened) (ys : List Opened)
    → map one_of xs ≡ ys → map one_of (cond b (x ∷ xs) xs) ≡ cond b (one_of x ∷ ys) ys
kept_head true x xs ys is = ap (λ z. one_of x ∷ z) is
kept_head false x xs ys is = is

pub filter_shown : (number : ℕ) (xs : List kept.Opened)
    → map one_of (filter (λ one. not (one.number == number)) xs)
    ≡ filter (λ one. not (one.number == number)) (map one_of xs)
filter_shown number [] = refl
filter_shown number (x ∷ xs) = kept_head (not (x.number == number)) x
    (filter (λ one. not (one.number == number)) xs)
    (filter (λ one. not (one.number == number)) (map one_of xs)) (filter_shown number xs)

pub seen_one : (o : Option (Bor kept.Opened))
    → option_map (λ one. one_of one.now) o ≡ option_map one_of (option_map (λ one. one.now) o)
seen_one None = refl
seen_one (Some one) = refl
