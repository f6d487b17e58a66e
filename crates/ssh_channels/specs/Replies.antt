-- The replies that the peer's requests on a channel want. They go out in the order of the requests,
-- whenever each of them is settled (RFC 4254 section 5.4).
use Rattle.std.specs.Prelude.{◌≡◌, ◌<◌, ℕ, ◌+◌, ◌-◌, ◌==◌, ◌&&◌, ◌||◌, Bool, true, false, cond, List}
use Rattle.std.specs.Prelude.{[], ◌∷◌, ◌++◌, length, set, Option, Some, None}
use Rattle.ssh_channels.specs.declared.replies.Reply.{Reply}
use Rattle.ssh_channels.specs.declared.replies.Reply.TheVariants.{Owed, Settled}

abbrev pub is_owed : Reply → Bool
is_owed Owed = true
is_owed (Settled success) = false

-- a reply that is owed is called by its place, which is how many were wanted before it; where no
-- place is given, each that is owed is called
abbrev pub is_called : (place : Option ℕ) → (own : ℕ) → Reply → Bool
is_called None own reply = is_owed reply
is_called (Some place) own reply = is_owed reply && (place == own)

-- some reply is called among these, the first of which has this place
abbrev pub calls_one : (place : Option ℕ) → (first : ℕ) → List Reply → Bool
calls_one place first [] = false
calls_one place first (reply ∷ rest) = is_called place first reply
    || calls_one place (first + 1) rest

-- and the first that is called is settled
abbrev pub settling : (place : Option ℕ) → (success : Bool) → (first : ℕ) → List Reply → List Reply
settling place success first [] = []
settling place success first (reply ∷ rest) = cond (is_called place first reply)
    (Settled success ∷ rest)
    (reply ∷ settling place success (first + 1) rest)

-- what the settled ones before the first that is owed say
abbrev pub ready : List Reply → List Bool
ready [] = []
ready (Owed ∷ rest) = []
ready (Settled success ∷ rest) = success ∷ ready rest

-- the others
abbrev pub held : List Reply → List Reply
held [] = []
held (Owed ∷ rest) = Owed ∷ rest
held (Settled success ∷ rest) = held rest

-- what is kept of the replies of a channel
pub record Wanted : Type 0 where
  -- how many were wanted since it was opened
  pub count : ℕ
  -- those that did not go out, in the order of the requests
  pub unsent : List Reply

abbrev pub none_wanted : Wanted
none_wanted = record { count = 0; unsent = [] }

-- a request wants one more
abbrev pub one_more : Wanted → Wanted
one_more w = record { count = w.count + 1; unsent = w.unsent ++ Owed ∷ [] }

-- the place of the first that did not go out
abbrev pub first_place : Wanted → ℕ
first_place w = w.count - length w.unsent

-- a reply that is owed has this place, or any is owed where no place is given
abbrev pub owes : (place : Option ℕ) → Wanted → Bool
owes place w = calls_one place (first_place w) w.unsent

-- with it settled
abbrev pub with_settled : (place : Option ℕ) → (success : Bool) → Wanted → List Reply
with_settled place success w = settling place success (first_place w) w.unsent

-- those that are ready go out, and the others stay
abbrev pub sent : (place : Option ℕ) → (success : Bool) → Wanted → List Bool
sent place success w = ready (with_settled place success w)

abbrev pub settled : (place : Option ℕ) → (success : Bool) → Wanted → Wanted
settled place success w = record w { unsent = held (with_settled place success w) }

-- the reply that is called stands at this index among those that did not go out
pub record StandsAt (place : Option ℕ) (w : Wanted) (index : ℕ) : Type 0 where
  pub owed : owes place w ≡ true
  pub there : index < length w.unsent
  pub settles : (success : Bool) → with_settled place success w
      ≡ set w.unsent index (Settled success)
  pub undone : (success : Bool) → set (set w.unsent index (Settled success)) index Owed ≡ w.unsent
