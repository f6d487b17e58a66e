-- What arrives from a connection, by where it stands.
use Rattle.std.proofs.Common.{◌≡◌, ℕ, List, Result, Ok, Err, Some, None, get_or, drop, sym, ◌∙◌}
use Rattle.std.proofs.Common.{ap}
use Rattle.std.specs.Prelude.{OnOk}
use Rattle.std.specs.List.{find, position, slice_set}
use Rattle.std.proofs.lemmas.Option.{slice_get-get_or}
use Rattle.ssh_link.proofs.Places.{found_at, found_nowhere, placed_within}
use Rattle.ssh_gateway.specs.declared.targets.Arrived.TheVariants as arrived
use Rattle.ssh_scene_gateway.specs.declared.targets.Stream.{Stream}
use Rattle.ssh_scene_gateway.specs.Reaching.{is_of, arrives, arrives_from, read_at}
use Rattle.ssh_scene_gateway.specs.Reaching.{read_from}

pub arrives_at : (most id place : ℕ) (streams : List Stream) (one : Stream)
    → position (is_of id) streams ≡ Some place → one ≡ get_or streams place one
    → arrives_from most (find (is_of id) streams) ≡ arrives most one.left
arrives_at most id place streams one h is = ap (arrives_from most)
    (found_at (is_of id) streams place h
    ∙ (slice_get-get_or streams place one (placed_within (is_of id) streams place h)
    ∙ ap Some (sym is)))

pub arrives_nowhere : (most id : ℕ) (streams : List Stream) → position (is_of id) streams ≡ None
    → arrives_from most (find (is_of id) streams) ≡ arrived.End
arrives_nowhere most id streams h = ap (arrives_from most) (found_nowhere (is_of id) streams h)

-- and what is left of it, and of the others
pub left_at : {T E : Type 0} (result : Result T E) (most id place : ℕ) (streams : List Stream)
    (one : Stream) (left : List ℕ) → position (is_of id) streams ≡ Some place
    → one ≡ get_or streams place one → OnOk result (left ≡ drop most one.left)
    → OnOk result (slice_set streams place (record { id = one.id; left = left })
    ≡ read_from most (position (is_of id) streams) streams)
left_at (Err e) most id place streams one left h is later = tt
left_at (Ok x) most id place streams one left h is later =
    ap (λ l. slice_set streams place (record { id = one.id; left = l })) later
    ∙ sym (ap (λ p. read_from most p streams) h
    ∙ ap (λ o. read_at most place o streams) (slice_get-get_or streams place one
    (placed_within (is_of id) streams place h) ∙ ap Some (sym is)))
