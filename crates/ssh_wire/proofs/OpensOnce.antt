-- Bytes say at most one open or confirmation, or are none for one reason.
use Rattle.std.proofs.Common.{◌≡◌, inl, inr, ℕ, List, ap, sym, subst, refl, ◌∙◌, Option, Some, None}
use Rattle.ssh_wire.specs.Field.{Values, MisfitsAll}
use Rattle.ssh_wire.specs.Open.{KnownType, type_named, leading_fields, confirmation_fields, Leads}
use Rattle.ssh_wire.specs.Open.{SpellsType, MisfitsType, SpellsOpen, MisfitsOpen}
use Rattle.ssh_wire.specs.Open.{SpellsConfirmation, MisfitsConfirmation}
use Rattle.ssh_wire.specs.declared.channel_type.ChannelType.{ChannelType}
use Rattle.ssh_wire.specs.declared.open.OpenChannelMessage.{OpenChannelMessage}
use Rattle.ssh_wire.specs.declared.open.ChannelOpenConfirmation.{ChannelOpenConfirmation}
use Rattle.ssh_wire.specs.declared.error.WireError.{WireError}
use Rattle.ssh_wire.specs.declared.error.LayoutError.{LayoutError}
use Rattle.ssh_wire.specs.declared.error.LayoutError.TheVariants.{Wire, Inconsistent}
use Rattle.ssh_wire.proofs.Fields.{spells_all_once, spells_whole_once, misfits_all_not_spells}
use Rattle.ssh_wire.proofs.Fields.{misfits_whole_not_spells, misfits_all_once, misfits_whole_once}

type_once : (known : Option KnownType) (name : List ℕ) (s t : ChannelType) (after a b : List ℕ)
    → SpellsType known name s after a → SpellsType known name t after b
    → (s ≡ t) × (a ≡ b)
type_once (Some type) name s t after a b p q = (
  p.2 ∙ ap type.says (spells_whole_once type.fields p.0 q.0 after p.1 q.1) ∙ sym q.2,
  p.3 ∙ sym q.3,
)
type_once None name s t after a b p q = (p.0 ∙ sym q.0, p.1 ∙ sym q.1)

type_not_both : (known : Option KnownType) (name : List ℕ) (typ : ChannelType) (after rest : List ℕ)
    (why : WireError) → MisfitsType known after why
    → SpellsType known name typ after rest → ⊥
type_not_both (Some type) name typ after rest why m s =
    misfits_whole_not_spells type.fields s.0 after why m s.1
type_not_both None name typ after rest why m s = m

type_one_reason : (known : Option KnownType) (after : List ℕ) (why other : WireError)
    → MisfitsType known after why → MisfitsType known after other → why ≡ other
type_one_reason (Some type) after why other m n = misfits_whole_once type.fields after why other m n
type_one_reason None after why other m n = absurd m

-- the parts of what leads
leads_once : (name nom : List ℕ) (k l m x y z : ℕ) (bytes a b : List ℕ) → Leads name k l m bytes a
    → Leads nom x y z bytes b
    → (name ≡ nom) × (k ≡ x) × (l ≡ y) × (m ≡ z) × (a ≡ b)
leads_once name nom k l m x y z bytes a b p q =
    let once = spells_all_once leading_fields (name, (k, (l, (m, tt)))) (nom, (x, (y, (z, tt))))
    bytes a b p q in (
      ap (λ v. v.0) once.0,
      ap (λ v. v.1.0) once.0,
      ap (λ v. v.1.1.0) once.0,
      ap (λ v. v.1.1.1.0) once.0,
      once.1,
    )

-- what follows, moved along equal names and equal bytes
spells_type_along : (name nom : List ℕ) (typ : ChannelType) (a b rest : List ℕ) → name ≡ nom → a ≡ b
    → SpellsType (type_named nom) nom typ b rest
    → SpellsType (type_named name) name typ a rest
spells_type_along name nom typ a b rest same is s =
    subst (λ n. SpellsType (type_named n) n typ a rest) (sym same)
    (subst (λ x. SpellsType (type_named nom) nom typ x rest) (sym is) s)

misfits_type_along : (name nom a b : List ℕ) (why : WireError) → name ≡ nom → a ≡ b
    → MisfitsType (type_named nom) b why → MisfitsType (type_named name) a why
misfits_type_along name nom a b why same is m =
    subst (λ n. MisfitsType (type_named n) a why) (sym same)
    (subst (λ x. MisfitsType (type_named nom) x why) (sym is) m)

open_of : ChannelType → ℕ → ℕ → ℕ → OpenChannelMessage
open_of typ k l m = record {
  typ = typ;
  recipient_channel = k;
  recipient_window_size =
      l;
  recipient_maximum_packet_size = m;
}

pub spells_open_once : (s t : OpenChannelMessage) (bytes a b : List ℕ) → SpellsOpen s bytes a
    → SpellsOpen t bytes b → (s ≡ t) × (a ≡ b)
unfolding open_of
spells_open_once s t bytes a b p q =
    let same = leads_once p.0 q.0 s.recipient_channel s.recipient_window_size
    s.recipient_maximum_packet_size
    t.recipient_channel t.recipient_window_size t.recipient_maximum_packet_size bytes p.1 q.1 p.2
    q.2 in
    let own = type_once (type_named p.0) p.0 s.typ t.typ p.1 a b p.4
    (spells_type_along p.0 q.0 t.typ p.1 q.1 b same.0 same.4 q.4) in
    (λ i. open_of (own.0 i) (same.1 i) (same.2 i) (same.3 i), own.1)

pub misfits_open_not_spells : (message : OpenChannelMessage) (bytes rest : List ℕ)
    (why : LayoutError) → MisfitsOpen bytes why → SpellsOpen message bytes rest → ⊥
misfits_open_not_spells message bytes rest (Wire why) m s =
    elim m [
      | inl leading ↦ misfits_all_not_spells leading_fields (
        s.0,
        (
          message.recipient_channel,
          (
            message.recipient_window_size,
            (message.recipient_maximum_packet_size, tt),
          ),
        ),
      ) bytes s.1 why leading s.2
      | inr own ↦
          let same = leads_once s.0 own.0 message.recipient_channel message.recipient_window_size
          message.recipient_maximum_packet_size
          own.1 own.2 own.3 bytes s.1 own.4 s.2 own.5 in
          type_not_both (type_named s.0) s.0 message.typ s.1 rest why
          (misfits_type_along s.0 own.0 s.1 own.4 why same.0 same.4 own.7) s.4
    ]
misfits_open_not_spells message bytes rest Inconsistent m s =
    s.3 (leads_once s.0 m.0 message.recipient_channel message.recipient_window_size
    message.recipient_maximum_packet_size
    m.1 m.2 0 bytes s.1 m.3 s.2 m.4).3

-- a first field that does not fit against leading fields that are there
leading_not_both : (name : List ℕ) (k l m : ℕ) (bytes after : List ℕ) (why : WireError) (A : Type 0)
    → Leads name k l m bytes after → MisfitsAll leading_fields bytes why → A
leading_not_both name k l m bytes after why A p misfit =
    absurd (misfits_all_not_spells leading_fields (name, (k, (l, (m, tt)))) bytes after why misfit
    p)

pub misfits_open_once : (bytes : List ℕ) (why other : LayoutError) → MisfitsOpen bytes why
    → MisfitsOpen bytes other → why ≡ other
misfits_open_once bytes (Wire why) (Wire other) m n =
    elim m [
      | inl leading ↦ elim n [
        | inl first ↦ ap Wire (misfits_all_once leading_fields bytes why other leading first)
        | inr own ↦ leading_not_both own.0 own.1 own.2 own.3 bytes own.4 why (Wire why ≡ Wire other)
            own.5 leading
      ]
      | inr own ↦ elim n [
        | inl first ↦ leading_not_both own.0 own.1 own.2 own.3 bytes own.4 other
            (Wire why ≡ Wire other) own.5 first
        | inr more ↦
            let same = leads_once own.0 more.0 own.1 own.2 own.3 more.1 more.2 more.3 bytes own.4
            more.4 own.5 more.5 in
            ap Wire (type_one_reason (type_named own.0) own.4 why other own.7
            (misfits_type_along own.0 more.0 own.4 more.4 other same.0 same.4 more.7))
      ]
    ]
misfits_open_once bytes (Wire why) Inconsistent m n =
    elim m [
      | inl leading ↦ leading_not_both n.0 n.1 n.2 0 bytes n.3 why (Wire why ≡ Inconsistent) n.4
          leading
      | inr own ↦ absurd (own.6 (leads_once own.0 n.0 own.1 own.2 own.3 n.1 n.2 0 bytes own.4 n.3
          own.5 n.4).3)
    ]
misfits_open_once bytes Inconsistent (Wire other) m n =
    elim n [
      | inl leading ↦ leading_not_both m.0 m.1 m.2 0 bytes m.3 other (Inconsistent ≡ Wire other) m.4
          leading
      | inr own ↦ absurd (own.6 (leads_once own.0 m.0 own.1 own.2 own.3 m.1 m.2 0 bytes own.4 m.3
          own.5 m.4).3)
    ]
misfits_open_once bytes Inconsistent Inconsistent m n = refl

-- ---- confirmations

said : ChannelOpenConfirmation → Values confirmation_fields
said message = (
  message.recipient_channel,
  (
    message.sender_channel,
    (message.initial_window_size, (message.maximum_packet_size, tt)),
  ),
)

confirmation_of : Values confirmation_fields → ChannelOpenConfirmation
confirmation_of values =
    record {
      recipient_channel = values.0;
      sender_channel = values.1.0;
      initial_window_size =
          values.1.1.0;
      maximum_packet_size = values.1.1.1.0;
    }

pub spells_confirmation_once : (s t : ChannelOpenConfirmation) (bytes a b : List ℕ)
    → SpellsConfirmation s bytes a → SpellsConfirmation t bytes b
    → (s ≡ t) × (a ≡ b)
unfolding said confirmation_of
spells_confirmation_once s t bytes a b p q =
    let once = spells_all_once confirmation_fields (said s) (said t) bytes a b p.0 q.0 in
    (ap confirmation_of once.0, once.1)

pub misfits_confirmation_not_spells : (message : ChannelOpenConfirmation) (bytes rest : List ℕ)
    (why : LayoutError) → MisfitsConfirmation bytes why
    → SpellsConfirmation message bytes rest → ⊥
unfolding said
misfits_confirmation_not_spells message bytes rest (Wire why) misfit s =
    misfits_all_not_spells confirmation_fields (said message) bytes rest why misfit s.0
misfits_confirmation_not_spells message bytes rest Inconsistent misfit s =
    let once = spells_all_once confirmation_fields (said message)
    (misfit.0, (misfit.1, (misfit.2, (0, tt)))) bytes rest misfit.3 s.0 misfit.4 in
    s.1 (ap (λ v. v.1.1.1.0) once.0)

pub misfits_confirmation_once : (bytes : List ℕ) (why other : LayoutError)
    → MisfitsConfirmation bytes why → MisfitsConfirmation bytes other → why ≡ other
misfits_confirmation_once bytes (Wire why) (Wire other) m n =
    ap Wire (misfits_all_once confirmation_fields bytes why other m n)
misfits_confirmation_once bytes (Wire why) Inconsistent m n =
    absurd (misfits_all_not_spells confirmation_fields (n.0, (n.1, (n.2, (0, tt)))) bytes n.3 why m
    n.4)
misfits_confirmation_once bytes Inconsistent (Wire other) m n =
    absurd (misfits_all_not_spells confirmation_fields (m.0, (m.1, (m.2, (0, tt)))) bytes m.3 other
    n m.4)
misfits_confirmation_once bytes Inconsistent Inconsistent m n = refl
