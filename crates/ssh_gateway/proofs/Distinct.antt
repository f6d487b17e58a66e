-- The connections of a board, each with its own number and channel.
use Rattle.std.proofs.Common.{◌≡◌, ◌==◌, ◌∙◌, ℕ, suc, zero, List, [], ◌∷◌, ◌++◌, Bool, true, false, not}
use Rattle.std.proofs.Common.{cond, Option, Some, None, refl, subst}
use Rattle.std.specs.Prelude.{filter}
use Rattle.std.specs.List.{position, slice_get, slice_set}
use Rattle.ssh_auth.specs.declared.question.Happening.TheVariants as what
use Rattle.ssh_auth.specs.declared.question.Lent.TheVariants.{Opens, Happened}
use Rattle.ssh_auth.specs.declared.question.OpenType.TheVariants as type
use Rattle.ssh_auth.specs.declared.question.Question.{Question}
use Rattle.ssh_auth.specs.declared.question.Question.TheVariants as ask
use Rattle.ssh_gateway.specs.declared.switchboard.Connection.{Connection}
use Rattle.ssh_gateway.specs.Board.{Board, is_on, ended_at, ended_by, noted, all_noted}
use Rattle.ssh_gateway.proofs.Carrying.{closes}
use Rattle.ssh_gateway.proofs.Waiting.{AreFree}

-- ---- what is so of each

abbrev pub Each : (P : Connection → Type 0) → List Connection → Type 0
Each P [] = Unit {0}
Each P (one ∷ more) = P one × Each P more

pub each_so : (P Q : Connection → Type 0) (all : List Connection)
    → ((one : Connection) → P one → Q one) → Each P all → Each Q all
each_so P Q [] f h = tt
each_so P Q (one ∷ more) f h = (f one h.0, each_so P Q more f h.1)

pub each_both : (P : Connection → Type 0) (xs ys : List Connection) → Each P xs → Each P ys
    → Each P (xs ++ ys)
each_both P [] ys h k = k
each_both P (x ∷ xs) ys h k = (h.0, each_both P xs ys h.1 k)

pub each_parts : (P : Connection → Type 0) (xs ys : List Connection) → Each P (xs ++ ys)
    → Each P xs × Each P ys
each_parts P [] ys h = (tt, h)
each_parts P (x ∷ xs) ys h =
    let rest = each_parts P xs ys h.1 in ((h.0, rest.0), rest.1)

pub each_with : (P Q : Connection → Type 0) (all : List Connection) → Each P all → Each Q all
    → Each (λ one. P one × Q one) all
each_with P Q [] h k = tt
each_with P Q (one ∷ more) h k = ((h.0, k.0), each_with P Q more h.1 k.1)

-- .. and of those that are kept
kept_step : (P : Connection → Type 0) (keep : Connection → Bool) (b : Bool) (one : Connection)
    (more : List Connection) → keep one ≡ b → P one
    → Each (λ x. (keep x ≡ true) × P x) more
    → Each (λ x. (keep x ≡ true) × P x) (cond b (one ∷ more) more)
kept_step P keep true one more is h rest = ((is, h), rest)
kept_step P keep false one more is h rest = rest

pub each_kept : (P : Connection → Type 0) (keep : Connection → Bool) (all : List Connection)
    → Each P all → Each (λ x. (keep x ≡ true) × P x) (filter keep all)
each_kept P keep [] h = tt
each_kept P keep (one ∷ more) h =
    kept_step P keep (keep one) one (filter keep more) refl h.0 (each_kept P keep more h.1)

-- ---- numbers and channels

abbrev pub Differ : Connection → Connection → Type 0
Differ one other = ((one.id == other.id) ≡ false) × ((one.channel.0 == other.channel.0) ≡ false)

-- no two have one number, or one channel
abbrev pub Distinct : List Connection → Type 0
Distinct [] = Unit {0}
Distinct (one ∷ more) = Each (Differ one) more × Distinct more

pub distinct_parts : (one : Connection) (earlier later : List Connection)
    → Distinct (earlier ++ one ∷ later)
    → Each (λ x. Differ x one) earlier × Each (Differ one) later × Distinct (earlier ++ later)
distinct_parts one [] later d = (tt, d.0, d.1)
distinct_parts one (x ∷ earlier) later d =
    let rest = distinct_parts one earlier later d.1 in
    let parts = each_parts (Differ x) earlier (one ∷ later) d.0 in (
      (parts.1.0, rest.0),
      rest.1,
      (each_both (Differ x) earlier later parts.0 parts.1.1, rest.2),
    )

-- the target of one has ended
pub distinct_ends : (one : Connection) (earlier later : List Connection)
    → Distinct (earlier ++ one ∷ later)
    → Distinct (earlier ++ record one { target_ended = true } ∷ later)
distinct_ends one [] later d = d
distinct_ends one (x ∷ earlier) later d =
    let parts = each_parts (Differ x) earlier (one ∷ later) d.0 in (
      each_both (Differ x) earlier (record one { target_ended = true } ∷ later) parts.0 parts.1,
      distinct_ends one earlier later d.1,
    )

pub distinct_more : (all : List Connection) (one : Connection) → Each (λ x. Differ x one) all
    → Distinct all → Distinct (all ++ one ∷ [])
distinct_more [] one h d = (tt, tt)
distinct_more (x ∷ all) one h d =
    (each_both (Differ x) all (one ∷ []) d.0 (h.0, tt), distinct_more all one h.1 d.1)

distinct_step : (keep : Connection → Bool) (b : Bool) (one : Connection)
    (more : List Connection) → Each (Differ one) more → Distinct (filter keep more)
    → Distinct (cond b (one ∷ filter keep more) (filter keep more))
distinct_step keep true one more h d = (
  each_so (λ x. (keep x ≡ true) × Differ one x) (Differ one) (filter keep more) (λ x both. both.1)
      (each_kept (Differ one) keep more h),
  d,
)
distinct_step keep false one more h d = d

distinct_kept : (keep : Connection → Bool) (all : List Connection) → Distinct all
    → Distinct (filter keep all)
distinct_kept keep [] d = tt
distinct_kept keep (one ∷ more) d =
    distinct_step keep (keep one) one more d.0 (distinct_kept keep more d.1)

-- ---- one whose peer has ended

abbrev Ended : Connection → Connection
Ended one = record one { peer_ended = true }

each_set : (P : Connection → Type 0) (all : List Connection) (place : ℕ) (one : Connection)
    → slice_get all place ≡ Some one → ((x : Connection) → P x → P (Ended x)) → Each P all
    → Each P (slice_set all place (Ended one))
each_set P [] place one is f h = tt
each_set P (x ∷ xs) zero one is f h =
    let same : x ≡ one = cc in (f one (subst P same h.0), h.1)
each_set P (x ∷ xs) (suc i) one is f h = (h.0, each_set P xs i one is f h.1)

distinct_set : (all : List Connection) (place : ℕ) (one : Connection)
    → slice_get all place ≡ Some one → Distinct all → Distinct (slice_set all place (Ended one))
distinct_set [] place one is d = tt
distinct_set (x ∷ xs) zero one is d =
    let same : x ≡ one = cc in (subst (λ y. Each (Differ y) xs) same d.0, d.1)
distinct_set (x ∷ xs) (suc i) one is d =
    (each_set (Differ x) xs i one is (λ y k. k) d.0, distinct_set xs i one is d.1)

each_at : (P : Connection → Type 0) (o : Option Connection) (place : ℕ) (all : List Connection)
    → slice_get all place ≡ o → ((x : Connection) → P x → P (Ended x)) → Each P all
    → Each P (ended_at o place all)
each_at P None place all is f h = h
each_at P (Some one) place all is f h = each_set P all place one is f h

each_ended : (P : Connection → Type 0) (place : Option ℕ) (all : List Connection)
    → ((x : Connection) → P x → P (Ended x)) → Each P all → Each P (ended_by place all)
each_ended P None all f h = h
each_ended P (Some place) all f h = each_at P (slice_get all place) place all refl f h

distinct_at : (o : Option Connection) (place : ℕ) (all : List Connection)
    → slice_get all place ≡ o → Distinct all → Distinct (ended_at o place all)
distinct_at None place all is d = d
distinct_at (Some one) place all is d = distinct_set all place one is d

distinct_ended : (place : Option ℕ) (all : List Connection) → Distinct all
    → Distinct (ended_by place all)
distinct_ended None all d = d
distinct_ended (Some place) all d = distinct_at (slice_get all place) place all refl d

-- ---- what happens on their channels

-- as long as the close of its channel is not asked about in these
abbrev pub Until : (questions : List Question) → (P : Connection → Type 0) → Connection → Type 0
Until questions P one = AreFree (closes one.channel.0) questions → P one

open_so : (b : Bool) → not b ≡ true → b ≡ false
open_so true is = absurd (cc)
open_so false is = refl

noted_until : (P : Connection → Type 0) (question : Question) (rest : List Question)
    (board : Board) → ((x : Connection) → P x → P (Ended x))
    → Each (Until (question ∷ rest) P) board.connections
    → Each (Until rest P) (noted question board).connections
noted_until P (ask.Lends (Happened channel what.Eof)) rest board f h =
    each_ended (Until rest P) (position (is_on channel) board.connections) board.connections
    (λ x k free. f x (k free))
    (each_so (Until (ask.Lends (Happened channel what.Eof) ∷ rest) P) (Until rest P)
    board.connections (λ x k free. k (refl, free)) h)
noted_until P (ask.Lends (Happened channel what.Close)) rest board f h =
    let question = ask.Lends (Happened channel what.Close) in
    let keep : Connection → Bool = λ one. not (is_on channel one) in
    each_so (λ x. (keep x ≡ true) × Until (question ∷ rest) P x) (Until rest P)
    (filter keep board.connections) (λ x k free. k.1 (open_so (is_on channel x) k.0, free))
    (each_kept (Until (question ∷ rest) P) keep board.connections h)
noted_until P (ask.Lends (Happened channel happening)) rest board f h =
    each_so (Until (ask.Lends (Happened channel happening) ∷ rest) P) (Until rest P)
    board.connections (λ x k free. k (refl, free)) h
noted_until P (ask.Lends (Opens channel (type.DirectTcpip host port from from_port))) rest board f h
    =
    each_so (Until (ask.Lends (Opens channel (type.DirectTcpip host port from from_port)) ∷ rest) P)
    (Until rest P) board.connections (λ x k free. k (refl, free)) h
noted_until P (ask.Lends (Opens channel t)) rest board f h =
    each_so (Until (ask.Lends (Opens channel t) ∷ rest) P) (Until rest P) board.connections
    (λ x k free. k (refl, free)) h
noted_until P question rest board f h =
    each_so (Until (question ∷ rest) P) (Until rest P) board.connections
    (λ x k free. k (refl, free)) h

pub all_until : (P : Connection → Type 0) (questions : List Question) (board : Board)
    → ((x : Connection) → P x → P (Ended x)) → Each (Until questions P) board.connections
    → Each P (all_noted questions board).connections
all_until P [] board f h = each_so (Until [] P) P board.connections (λ x k. k tt) h
all_until P (question ∷ questions) board f h =
    all_until P questions (noted question board) f (noted_until P question questions board f h)

distinct_noted : (question : Question) (board : Board) → Distinct board.connections
    → Distinct (noted question board).connections
distinct_noted (ask.Lends (Happened channel what.Eof)) board d =
    distinct_ended (position (is_on channel) board.connections) board.connections d
distinct_noted (ask.Lends (Happened channel what.Close)) board d =
    distinct_kept (λ one. not (is_on channel one)) board.connections d
distinct_noted (ask.Lends (Opens channel (type.DirectTcpip host port from from_port))) board d = d
distinct_noted question board d = d

pub all_distinct : (questions : List Question) (board : Board) → Distinct board.connections
    → Distinct (all_noted questions board).connections
all_distinct [] board d = d
all_distinct (question ∷ questions) board d =
    all_distinct questions (noted question board) (distinct_noted question board d)

last_noted : (question : Question) (board : Board)
    → (noted question board).last_id ≡ board.last_id
last_noted (ask.Lends (Happened channel what.Eof)) board = refl
last_noted (ask.Lends (Happened channel what.Close)) board = refl
last_noted (ask.Lends (Opens channel (type.DirectTcpip host port from from_port))) board = refl
last_noted question board = refl

pub all_last : (questions : List Question) (board : Board)
    → (all_noted questions board).last_id ≡ board.last_id
all_last [] board = refl
all_last (question ∷ questions) board =
    all_last questions (noted question board) ∙ last_noted question board
