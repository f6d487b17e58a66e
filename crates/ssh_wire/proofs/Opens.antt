-- Chains of reads in the messages that open a channel.
use Rattle.std.proofs.Common.{◌≡◌, ℕ, Bool, true, false, List, [], ◌∷◌, ap, sym, subst, refl, Some}
use Rattle.std.proofs.Common.{None, bytes_eq}
use Rattle.std.proofs.lemmas.Slice.Eq.{bytes_eq-Decides}
use Rattle.ssh_wire.specs.Field.{Number, Text, Values, Misfits, SpellsAll, MisfitsAll, SpellsWhole}
use Rattle.ssh_wire.specs.Field.{MisfitsWhole}
use Rattle.ssh_wire.specs.Reading.{Reading, Reads, ReadsAll}
use Rattle.ssh_wire.specs.Open.{KnownType, session, direct_tcpip, forwarded_tcpip, agent_forward}
use Rattle.ssh_wire.specs.Open.{type_named, leading_fields, tcpip_fields, confirmation_fields}
use Rattle.ssh_wire.specs.Open.{Leads, SpellsType, x11, direct_streamlocal, forwarded_streamlocal}
use Rattle.ssh_wire.specs.declared.channel_type.ChannelType.{ChannelType}
use Rattle.ssh_wire.specs.declared.channel_type.ChannelType.TheVariants.{X11, Unknown}
use Rattle.ssh_wire.specs.declared.error.WireError.{WireError}
use Rattle.ssh_wire.proofs.Fields.{spells_more, spells_more_all, misfit_here, misfit_later}
use Rattle.ssh_wire.proofs.Fields.{misfit_here_all, misfit_later_all, reads_one}

pub four_numbers : (start a b c d e : Reading) (k l m n : ℕ) → a ≡ start → Reads Number a b k
    → Reads Number b c l → Reads Number c d m → Reads Number d e n
    → SpellsAll confirmation_fields (k, (l, (m, (n, tt)))) start.left e.left
four_numbers start a b c d e k l m n from p q r s =
    subst (λ at. SpellsAll confirmation_fields (k, (l, (m, (n, tt)))) at.left e.left) from
    (spells_more_all Number (Number ∷ Number ∷ Number ∷ []) a b k (l, (m, (n, tt))) e.left p
    (spells_more_all Number (Number ∷ Number ∷ []) b c l (m, (n, tt)) e.left q
    (spells_more_all Number (Number ∷ []) c d m (n, tt) e.left r
    (spells_more_all Number [] d e n tt e.left s refl))))

pub no_fourth_number : (start a b c d : Reading) (k l m : ℕ) (why : WireError) → a ≡ start
    → Reads Number a b k → Reads Number b c l → Reads Number c d m
    → Misfits Number d.left why → MisfitsAll confirmation_fields start.left why
no_fourth_number start a b c d k l m why from p q r misfit =
    subst (λ at. MisfitsAll confirmation_fields at.left why) from
    (misfit_later_all Number (Number ∷ Number ∷ Number ∷ []) a b k why p
    (misfit_later_all Number (Number ∷ Number ∷ []) b c l why q
    (misfit_later_all Number (Number ∷ []) c d m why r
    (misfit_here_all Number [] d.left why misfit))))

pub leads : (start a b c d e : Reading) (name : List ℕ) (l m n : ℕ) → a ≡ start
    → Reads Text a b name → Reads Number b c l → Reads Number c d m → Reads Number d e n
    → Leads name l m n start.left e.left
leads start a b c d e name l m n from p q r s =
    subst (λ at. Leads name l m n at.left e.left) from
    (spells_more_all Text (Number ∷ Number ∷ Number ∷ []) a b name (l, (m, (n, tt))) e.left p
    (spells_more_all Number (Number ∷ Number ∷ []) b c l (m, (n, tt)) e.left q
    (spells_more_all Number (Number ∷ []) c d m (n, tt) e.left r
    (spells_more_all Number [] d e n tt e.left s refl))))

pub no_packet_size : (start a b c d : Reading) (name : List ℕ) (l m : ℕ) (why : WireError)
    → a ≡ start → Reads Text a b name → Reads Number b c l → Reads Number c d m
    → Misfits Number d.left why → MisfitsAll leading_fields start.left why
no_packet_size start a b c d name l m why from p q r misfit =
    subst (λ at. MisfitsAll leading_fields at.left why) from
    (misfit_later_all Text (Number ∷ Number ∷ Number ∷ []) a b name why p
    (misfit_later_all Number (Number ∷ Number ∷ []) b c l why q
    (misfit_later_all Number (Number ∷ []) c d m why r
    (misfit_here_all Number [] d.left why misfit))))

pub no_originator_port : (start a b c d : Reading) (host originator : List ℕ) (port : ℕ)
    (why : WireError) → a ≡ start → Reads Text a b host → Reads Number b c port
    → Reads Text c d originator → Misfits Number d.left why → MisfitsAll tcpip_fields start.left why
no_originator_port start a b c d host originator port why from p q r misfit =
    subst (λ at. MisfitsAll tcpip_fields at.left why) from
    (misfit_later_all Text (Number ∷ Text ∷ Number ∷ []) a b host why p
    (misfit_later_all Number (Text ∷ Number ∷ []) b c port why q
    (misfit_later_all Text (Number ∷ []) c d originator why r
    (misfit_here_all Number [] d.left why misfit))))

pub whole_x11 : (a b c : Reading) (address read : List ℕ) (port : ℕ) → address ≡ read
    → Reads Text a b read → Reads Number b c port → c.left ≡ []
    → SpellsType (Some x11) [] (X11 address port) a.left c.left
whole_x11 a b c address read port is p q none =
    subst (λ x. SpellsType (Some x11) [] (X11 x port) a.left c.left) (sym is) (
      (read, (port, tt)),
      spells_more Text (Number ∷ []) a b read (port, tt) p
          (spells_more Number [] b c port tt q none),
      refl,
      none,
    )

pub path_and_reserved : (a b c d : Reading) (path text : List ℕ) (n : ℕ)
    → ReadsAll (Text ∷ []) a b (path, tt) → Reads Text b c text → Reads Number c d n
    → SpellsAll direct_streamlocal.fields (path, (text, (n, tt))) a.left d.left
path_and_reserved a b c d path text n p q r =
    spells_more_all Text (Text ∷ Number ∷ []) a b path (text, (n, tt)) d.left
    (reads_one Text a b path p)
    (spells_more_all Text (Number ∷ []) b c text (n, tt) d.left q
    (spells_more_all Number [] c d n tt d.left r refl))

pub no_reserved_number : (a b c : Reading) (path text : List ℕ) (why : WireError)
    → ReadsAll (Text ∷ []) a b (path, tt) → Reads Text b c text → Misfits Number c.left why
    → MisfitsWhole direct_streamlocal.fields a.left why
no_reserved_number a b c path text why p q misfit =
    misfit_later Text (Text ∷ Number ∷ []) a b path why (reads_one Text a b path p)
    (misfit_later Text (Number ∷ []) b c text why q (misfit_here Number [] c.left why misfit))

pub path_and_text : (a b c : Reading) (path text : List ℕ) → ReadsAll (Text ∷ []) a b (path, tt)
    → Reads Text b c text
    → SpellsAll forwarded_streamlocal.fields (path, (text, tt)) a.left c.left
path_and_text a b c path text p q =
    spells_more_all Text (Text ∷ []) a b path (text, tt) c.left (reads_one Text a b path p)
    (spells_more_all Text [] b c text tt c.left q refl)

-- an open of a known type, to its end
pub of_known : (name : List ℕ) (type : KnownType) (typ : ChannelType) (values : Values type.fields)
    (after rest : List ℕ) → type_named name ≡ Some type
    → SpellsWhole type.fields values after → typ ≡ type.says values → rest ≡ []
    → SpellsType (type_named name) name typ after rest
of_known name type typ values after rest known spelled says none =
    subst (λ t. SpellsType t name typ after rest) (sym known) (values, spelled, says, none)

false_unless : (b : Bool) (P : Type 0) → (b ≡ true → P) → (P → ⊥) → b ≡ false
false_unless true P holds never = absurd (never (holds refl))
false_unless false P holds never = refl

not_named : (text name : List ℕ) → (name ≡ text → ⊥) → bytes_eq text name ≡ false
not_named text name other = false_unless (bytes_eq text name) (text ≡ name)
    (bytes_eq-Decides text name).0 (λ is. other (sym is))

-- a name that is none of the known ones
pub no_known_name : (name : List ℕ)
    → (name ≡ session.name → ⊥) → (name ≡ x11.name → ⊥) → (name ≡ direct_tcpip.name → ⊥)
    → (name ≡ forwarded_tcpip.name → ⊥)
    → (name ≡ direct_streamlocal.name → ⊥) → (name ≡ forwarded_streamlocal.name → ⊥)
    → (name ≡ agent_forward.name → ⊥)
    → type_named name ≡ None
no_known_name name a b c d e f g =
    rw (
      not_named session.name name a,
      not_named x11.name name b,
      not_named direct_tcpip.name name c,
      not_named forwarded_tcpip.name name d,
      not_named direct_streamlocal.name name e,
      not_named forwarded_streamlocal.name name f,
      not_named agent_forward.name name g,
    )
    refl

pub of_unknown : (name typ after : List ℕ) → type_named name ≡ None → typ ≡ name
    → SpellsType (type_named name) name (Unknown typ) after after
of_unknown name typ after none is =
    subst (λ t. SpellsType t name (Unknown typ) after after) (sym none) (ap Unknown is, refl)
