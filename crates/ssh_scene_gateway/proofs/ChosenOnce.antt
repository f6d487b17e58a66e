-- What a gateway does next is one, where its targets answer by a script.
use Rattle.std.proofs.Common.{◌≡◌, ℕ, List, [], ◌∷◌, ◌++◌, Bool, Option, Some, None, Ok, refl, sym}
use Rattle.std.proofs.Common.{◌∙◌, ap}
use Rattle.std.specs.List.{find}
use Rattle.ssh_link.specs.Supply.{Supply}
use Rattle.ssh_link.specs.declared.frame.Input.{Input}
use Rattle.ssh_link.specs.declared.link.TraceEntry.{TraceEntry}
use Rattle.ssh_rules.specs.World.{World}
use Rattle.ssh_gateway.specs.declared.targets.Arrived.{Arrived}
use Rattle.ssh_gateway.specs.declared.targets.Arrived.TheVariants as arrived
use Rattle.ssh_gateway.specs.declared.targets.TargetCall.{TargetCall}
use Rattle.ssh_gateway.specs.declared.targets.TargetCall.TheVariants as call
use Rattle.ssh_gateway.specs.Board.{Board}
use Rattle.ssh_gateway.specs.Choosing.{Permits, Source, Decides, Sends, Ends, Closes, Waits, IsChosen}
use Rattle.ssh_gateway.specs.Choosing.{IsGiven, most, own_kind, took}
use Rattle.ssh_gateway.proofs.ChosenOnce.{IsFirstSo}
use Rattle.ssh_gateway.proofs.ChosenOnce.{chosen_once as chosen_so}
use Rattle.ssh_players.specs.Given.{IsGiven as IsLinked}
use Rattle.ssh_scene_gateway.specs.declared.targets.Stream.{Stream}
use Rattle.ssh_scene_gateway.specs.Reaching.{Stock, is_at, is_of, is_reached, arrives, arrives_from}
use Rattle.ssh_scene_gateway.specs.Reaching.{given_as, after, as_given, left_after}

-- ---- calls that were answered by a stock

head_given : (stock : Stock) (one : TargetCall) (more : List TargetCall)
    → as_given stock (one ∷ more) ≡ one ∷ more → given_as stock one ≡ one
head_given stock one more e =
    let z : given_as stock one ∷ as_given (after stock one) more ≡ one ∷ more = e in cc

tail_given : (stock : Stock) (one : TargetCall) (more : List TargetCall)
    → as_given stock (one ∷ more) ≡ one ∷ more → as_given (after stock one) more ≡ more
tail_given stock one more e =
    let z : given_as stock one ∷ as_given (after stock one) more ≡ one ∷ more = e in cc

both_given : (a b : TargetCall) (xs ys : List TargetCall) → a ≡ b → xs ≡ ys → a ∷ xs ≡ b ∷ ys
both_given a b xs ys e f = cc

pub first_given : (stock : Stock) (xs ys : List TargetCall)
    → as_given stock (xs ++ ys) ≡ xs ++ ys → as_given stock xs ≡ xs
first_given stock [] ys e = refl
first_given stock (x ∷ xs) ys e = both_given (given_as stock x) x
    (as_given (after stock x) xs) xs (head_given stock x (xs ++ ys) e)
    (first_given (after stock x) xs ys (tail_given stock x (xs ++ ys) e))

pub later_given : (stock : Stock) (xs ys : List TargetCall)
    → as_given stock (xs ++ ys) ≡ xs ++ ys → as_given (left_after stock xs) ys ≡ ys
later_given stock [] ys e = e
later_given stock (x ∷ xs) ys e =
    later_given (after stock x) xs ys (tail_given stock x (xs ++ ys) e)

-- what a connection gives, and whether a host is reached
gives : Stock → (id : ℕ) → Arrived
gives stock id = arrives_from most (find (is_of id) stock.streams)

reaches : Stock → (host : List ℕ) → (port : ℕ) → Bool
reaches stock host port = is_reached (find (is_at host port) stock.hosts)

-- a connection never gives nothing
never_nothing : (left : List ℕ) → arrives most left ≡ arrived.Nothing → ⊥
never_nothing [] e = cc
never_nothing (byte ∷ bytes) e = cc

always_some : (stream : Option Stream) → arrives_from most stream ≡ arrived.Nothing → ⊥
always_some None e = cc
always_some (Some one) e = never_nothing one.left e

gives_some : (stock : Stock) (id : ℕ) → gives stock id ≡ arrived.Nothing → ⊥
unfolding gives
gives_some stock id e = always_some (find (is_of id) stock.streams) e

-- the first call was answered so
first_so : (stock : Stock) (calls : List TargetCall) → as_given stock calls ≡ calls
    → IsFirstSo (gives stock) (reaches stock) calls
unfolding gives reaches
first_so stock [] e = tt
first_so stock (call.Read id size answer ∷ more) e = λ same.
    let one : call.Read id size (Ok (arrives_from size (find (is_of id) stock.streams)))
    ≡ call.Read id size answer = head_given stock (call.Read id size answer) more e in
    let so : Ok (arrives_from size (find (is_of id) stock.streams)) ≡ answer = cc in
    sym so ∙ ap (λ n. Ok (arrives_from n (find (is_of id) stock.streams))) same
first_so stock (call.Connect id host port answer ∷ more) e =
    let one : call.Connect id host port (Ok (is_reached (find (is_at host port) stock.hosts)))
    ≡ call.Connect id host port answer =
    head_given stock (call.Connect id host port answer) more e in cc
first_so stock (call.Write id bytes answer ∷ more) e = tt
first_so stock (call.Finish id answer ∷ more) e = tt
first_so stock (call.Close id answer ∷ more) e = tt

-- ---- the whole

pub chosen_once : (permits : Permits) (w : World) (board : Board) (stock : Stock) (a b : Source)
    (xs ys : List TargetCall) → IsChosen permits w board a xs → IsChosen permits w board b ys
    → as_given stock xs ≡ xs → as_given stock ys ≡ ys → (a ≡ b) × (xs ≡ ys)
chosen_once permits w board stock a b xs ys h k e f =
    chosen_so (gives stock) (reaches stock) (gives_some stock) permits w board a b xs ys h k
    (first_so stock xs e) (first_so stock ys f)

-- its input is the gateway's own, or the next that the link gives
pub input_once : (source : Source) (ticket moment : ℕ) (supply : Supply) (x y : Input)
    (xs ys : List TraceEntry) → IsGiven (own_kind ticket source) moment x
    → IsGiven (own_kind ticket source) moment y → IsLinked supply (took source x ++ xs)
    → IsLinked supply (took source y ++ ys) → x ≡ y
input_once (Decides asked verdict) ticket moment supply x y xs ys h k e f = h ∙ sym k
input_once (Sends earlier one later bytes) ticket moment supply x y xs ys h k e f = h ∙ sym k
input_once (Ends earlier one later) ticket moment supply x y xs ys h k e f = h ∙ sym k
input_once (Closes earlier one later) ticket moment supply x y xs ys h k e f = h ∙ sym k
input_once Waits ticket moment supply x y xs ys h k e f = e.0 ∙ sym f.0
