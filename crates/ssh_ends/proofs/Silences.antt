-- What does not fit its message says nothing to an end.
use Rattle.std.proofs.Common.{rules, ◌≡◌, ◌==◌, ◌∷◌, ℕ, true, false, List, [], Some, None}
use Rattle.std.proofs.Common.{◌⊎◌, inl, inr, refl, subst}
use Rattle.ssh_wire.specs.Open.{MisfitsOpen}
use Rattle.ssh_wire.specs.declared.error.LayoutError.{LayoutError}
use Rattle.ssh_wire.specs.declared.error.LayoutError.TheVariants.{Wire}
use Rattle.ssh_wire.specs.declared.error.WireError.TheVariants as wire
use Rattle.ssh_wire.proofs.OpensOnce.{misfits_open_not_spells}
use Rattle.ssh_ends.specs.Incoming.{AreSilent, HasPackets, IsNo, IsSilent, Says, SaysFields}
use Rattle.ssh_ends.specs.Incoming.{number_of, unread_by}
use Rattle.ssh_ends.specs.declared.incoming.Incoming.{Incoming}
use Rattle.ssh_ends.specs.declared.incoming.Incoming.TheVariants.{Open, Confirmation}
use Rattle.ssh_ends.specs.declared.incoming.Incoming.TheVariants.{WindowAdjust, Data, Eof, Close}

no_other : {A : Type 0} → false ≡ true → A
no_other e = absurd (let is : false ≡ true = e in cc)

pub no_open : (fields : List ℕ) (why : LayoutError) → MisfitsOpen fields why → AreSilent 90 fields
no_open fields why misfits (Open sender window packet) is (typ, rest, spells) =
    misfits_open_not_spells _ fields rest why misfits spells
no_open fields why misfits (Data channel None bytes) is says = no_other is
no_open fields why misfits (Data channel (Some code) bytes) is says = no_other is
no_open fields why misfits other is says = no_other is

pub unread_open : (fields : List ℕ) (why : LayoutError)
    → (why ≡ Wire wire.NoMemory) ⊎ MisfitsOpen fields why → IsNo 90 fields (unread_by why)
unread_open fields (Wire wire.NoMemory) h = inl refl
unread_open fields why (inr misfits) = inr (refl, no_open fields why misfits)
unread_open fields why (inl is) = absurd (cc)

pub has_packets : (said : Incoming) (payload : List ℕ) → Says said payload → HasPackets said
has_packets (Open sender window packet) payload
    (fields, is, (typ, rest, (name, after, leads, some, type))) = some
has_packets (Confirmation confirmation) payload (fields, is, (spells, some)) = some
has_packets (WindowAdjust channel amount) payload says = tt
has_packets (Data channel ext bytes) payload says = tt
has_packets (Eof channel) payload says = tt
has_packets (Close channel) payload says = tt

-- ---- payloads

is_number : (number : ℕ) (said : Incoming) (fields own : List ℕ)
    → number ∷ fields ≡ number_of said ∷ own → (number_of said == number) ≡ true
is_number number said fields own is =
    let same : number ≡ number_of said = cc in
    subst (λ n. (n == number) ≡ true) same (search rules)

pub silent_message : (number : ℕ) (fields : List ℕ) → AreSilent number fields
    → IsSilent (number ∷ fields)
silent_message number fields silent said (own, is, says) =
    let same : own ≡ fields = cc in
    silent said (is_number number said fields own is) (subst (SaysFields said) same says)

pub nothing_said : IsSilent []
nothing_said said (own, is, says) = absurd (cc)
