-- What was asked in joined calls, and in those that are a session's own.
use Rattle.std.proofs.Common.{◌≡◌, Bool, true, false, List, [], ◌∷◌, ◌++◌, map, refl, ap}
use Rattle.std.specs.List.{filter}
use Rattle.std.proofs.lemmas.List.{map-append}
use Rattle.std.proofs.lemmas.List.Elements.{filter-append}
use Rattle.ssh_auth.specs.declared.call.Call.{Call}
use Rattle.ssh_auth.specs.Was.{asked_of}
use Rattle.ssh_handler.specs.OwnCalls.{questions, own_calls, is_own}

-- what comes of the items that pass a test is what passes of what comes of the items
map_filter : {A B : Type 0} (f : A → B) (p : B → Bool) (xs : List A) →
    map f (filter (λ x. p (f x)) xs) ≡ filter p (map f xs)
map_filter f p [] = refl
map_filter f p (x ∷ xs) = by (p (f x)) refl (map_filter f p xs)
  where
    by : (b : Bool) → p (f x) ≡ b → map f (filter (λ y. p (f y)) xs) ≡ filter p (map f xs) →
        map f (filter (λ y. p (f y)) (x ∷ xs)) ≡ filter p (map f (x ∷ xs))
    by true e rest = rw e (ap (λ l. f x ∷ l) rest)
    by false e rest = rw e rest

pub questions_join : {E : Type 0} (calls more : List (Call E)) →
    questions (calls ++ more) ≡ questions calls ++ questions more
questions_join calls more = map-append asked_of calls more

pub own_join : {E : Type 0} (calls more : List (Call E)) →
    own_calls (calls ++ more) ≡ own_calls calls ++ own_calls more
own_join calls more = filter-append (λ call. is_own (asked_of call)) calls more

pub own_asked : {E : Type 0} (calls : List (Call E)) →
    questions (own_calls calls) ≡ filter is_own (questions calls)
own_asked calls = map_filter asked_of is_own calls
