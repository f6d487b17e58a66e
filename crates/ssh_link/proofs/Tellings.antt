-- What one call adds to a told list, and then another.
use Rattle.std.proofs.Common.{◌≡◌, List, [], ◌∷◌, ◌++◌, Option, Some, None, Result, Ok, Err, sym}
use Rattle.std.proofs.Common.{refl, ◌∙◌, ap}
use Rattle.std.proofs.lemmas.List.{append_assoc, append-nil}
use Rattle.ssh_link.specs.Told.{Adds, AddsOrStops, Tells}

pub adds_both : {A : Type 0} (a b c : Option (List A)) (xs ys : List A) → Adds a b xs → Adds b c ys
    → Adds a c (xs ++ ys)
adds_both None None c xs ys h k = k
adds_both None (Some y) c xs ys h k = cc
adds_both (Some x) None c xs ys h k = cc
adds_both (Some x) (Some y) c xs ys h k = let e : y ≡ x ++ xs =
    cc in k ∙ ap (λ l. Some (l ++ ys)) e ∙ ap Some (append_assoc x xs ys)

pub adds_nil : {A : Type 0} (a : Option (List A)) → Adds a a []
adds_nil None = refl
adds_nil (Some x) = ap Some (sym (append-nil x))

-- what is added is added or stops
pub adds_weak : {A : Type 0} (a b : Option (List A)) (xs : List A) → Adds a b xs
    → AddsOrStops a b xs
adds_weak a None xs h = tt
adds_weak None (Some y) xs h = cc
adds_weak (Some x) (Some y) xs h = cc

pub adds_then : {A : Type 0} (a b c : Option (List A)) (xs ys : List A) → AddsOrStops a b xs
    → AddsOrStops b c ys → AddsOrStops a c (xs ++ ys)
adds_then a b None xs ys h k = tt
adds_then a None (Some z) xs ys h k = absurd k
adds_then None (Some y) (Some z) xs ys h k = absurd h
adds_then (Some x) (Some y) (Some z) xs ys h k = k ∙ ap (λ l. l ++ ys) h ∙ append_assoc x xs ys

pub adds_none : {A : Type 0} (a : Option (List A)) → AddsOrStops a a []
adds_none None = tt
adds_none (Some x) = sym (append-nil x)

-- a call that was told is added or stops, whatever it answered
pub tells_weak : {A T E : Type 0} (a b : Option (List A)) (result : Result T E) (call : A)
    → Tells a b result call → AddsOrStops a b (call ∷ [])
tells_weak a b (Ok value) call h = adds_weak a b (call ∷ []) h
tells_weak a b (Err error) call h = h

-- of a list that is told, what was added is what stands behind it
pub adds_told : {A : Type 0} (old new : List A) (xs : List A) → Adds (Some old) (Some new) xs
    → new ≡ old ++ xs
adds_told old new xs h = cc
