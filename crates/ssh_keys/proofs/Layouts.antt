-- Blobs of keys begin with at most one key of a type, or with none.
use Rattle.std.proofs.Common.{◌≡◌, ◌⊎◌, inl, inr, ℕ, List, [], ◌∷◌, Result, Ok, Err, IfErr, ap, sym}
use Rattle.std.proofs.Common.{◌∙◌, refl, subst}
use Rattle.ssh_wire.specs.Field.{Text, Bytes, Misfits, MisfitsAll}
use Rattle.ssh_wire.specs.Reading.{Reading, Reads}
use Rattle.ssh_wire.specs.declared.error.WireError.{WireError}
use Rattle.ssh_wire.proofs.Fields.{spells_once, spells_all_once, spells_more_all, misfit_here_all}
use Rattle.ssh_wire.proofs.Fields.{misfit_later_all}
use Rattle.ssh_keys.specs.Algorithms.{curve_name, NamesNone}
use Rattle.ssh_keys.specs.Keys.{type_name, type_of, SpellsKey, SpellsName, LacksFields}
use Rattle.ssh_keys.specs.Keys.{LacksWholeKey, FailsType, FailsKey}
use Rattle.ssh_keys.specs.declared.algorithm.EcdsaCurve.{EcdsaCurve}
use Rattle.ssh_keys.specs.declared.error.KeyError.{KeyError}
use Rattle.ssh_keys.specs.declared.error.KeyError.TheVariants.{Unknown, Blob, NoMemory}
use Rattle.ssh_keys.specs.declared.key_type.KeyType.{KeyType}
use Rattle.ssh_keys.specs.declared.key_type.KeyType.TheVariants as type
use Rattle.ssh_keys.specs.declared.public_key.PublicKey.{PublicKey}
use Rattle.ssh_keys.specs.declared.public_key.PublicKey.TheVariants as key

-- a name that is none of the types'
pub no_type : (names : KeyType → List ℕ) (a b : Reading) (name : List ℕ) → Reads Text a b name
    → NamesNone names name → FailsType names a.left Unknown
no_type names a b name read none =
    (name, b.left, spells_more_all Text [] a b name tt b.left read refl, none)

-- two fields, of which the second does not fit
pub no_second_string : (a b : Reading) (value : List ℕ) (why : WireError) → Reads Bytes a b value
    → Misfits Bytes b.left why
    → MisfitsAll (Bytes ∷ Bytes ∷ []) a.left why
no_second_string a b value why read misfit =
    misfit_later_all Bytes (Bytes ∷ []) a b value why read
    (misfit_here_all Bytes [] b.left why misfit)

pub no_string_after_text : (a b : Reading) (value : List ℕ) (why : WireError) → Reads Text a b value
    → Misfits Bytes b.left why
    → MisfitsAll (Text ∷ Bytes ∷ []) a.left why
no_string_after_text a b value why read misfit =
    misfit_later_all Text (Bytes ∷ []) a b value why read
    (misfit_here_all Bytes [] b.left why misfit)

-- ---- keys that are not there

pub lacks_ecdsa : (curve : EcdsaCurve) (bytes : List ℕ) → LacksFields (Text ∷ Bytes ∷ []) bytes
    → (public : PublicKey) (rest : List ℕ)
    → type_of public ≡ type.Ecdsa curve → SpellsKey public bytes rest → ⊥
lacks_ecdsa curve bytes lacks (key.Ecdsa other point) rest is spelled =
    lacks (curve_name other, (point, tt)) rest spelled
lacks_ecdsa curve bytes lacks (key.Ed25519 bytes') rest is spelled =
    let bad : type.Ed25519 ≡ type.Ecdsa curve = is in cc
lacks_ecdsa curve bytes lacks (key.Rsa e n) rest is spelled =
    let bad : type.Rsa ≡ type.Ecdsa curve = is in cc

pub lacks_rsa : (bytes : List ℕ) → LacksFields (Bytes ∷ Bytes ∷ []) bytes
    → (public : PublicKey) (rest : List ℕ)
    → type_of public ≡ type.Rsa → SpellsKey public bytes rest → ⊥
lacks_rsa bytes lacks (key.Rsa e n) rest is spelled = lacks (e, (n, tt)) rest spelled
lacks_rsa bytes lacks (key.Ed25519 bytes') rest is spelled = let bad : type.Ed25519 ≡ type.Rsa =
    is in cc
lacks_rsa bytes lacks (key.Ecdsa curve point) rest is spelled =
    let bad : type.Ecdsa curve ≡ type.Rsa = is in cc

-- the curve's identifier is not that of the type
pub other_curve : (curve : EcdsaCurve) (a b : Reading) (name : List ℕ) → Reads Text a b name
    → (name ≡ curve_name curve → ⊥)
    → (public : PublicKey) (rest : List ℕ) → type_of public ≡ type.Ecdsa curve
    → SpellsKey public a.left rest → ⊥
other_curve curve a b name read differs (key.Ecdsa other point) rest is spelled =
    let first = spells_once Text name (curve_name other) read.0 spelled.0 b.left spelled.1 read.1
    spelled.2 (sym read.2.0 ∙ spelled.3) in
    let types : type.Ecdsa other ≡ type.Ecdsa curve = is in
    let same : other ≡ curve = cc in
    differs (first.0 ∙ ap curve_name same)
other_curve curve a b name read differs (key.Ed25519 bytes') rest is spelled =
    let bad : type.Ed25519 ≡ type.Ecdsa curve = is in cc
other_curve curve a b name read differs (key.Rsa e n) rest is spelled =
    let bad : type.Rsa ≡ type.Ecdsa curve = is in cc

-- ---- one key and one rest

pub keys_once : (k l : PublicKey) (bytes a b : List ℕ) → type_of k ≡ type_of l → SpellsKey k bytes a
    → SpellsKey l bytes b → (k ≡ l) × (a ≡ b)
keys_once (key.Ed25519 x) (key.Ed25519 y) bytes a b is s t =
    let once = spells_all_once (Bytes ∷ []) (x, tt) (y, tt) bytes a b s t in
    (ap (λ v. key.Ed25519 v.0) once.0, once.1)
keys_once (key.Ecdsa c x) (key.Ecdsa d y) bytes a b is s t =
    let once = spells_all_once (Text ∷ Bytes ∷ []) (curve_name c, (x, tt)) (curve_name d, (y, tt))
    bytes a b s t in
    let types : type.Ecdsa c ≡ type.Ecdsa d = is in
    let curves : c ≡ d = cc in
    let points : x ≡ y = ap (λ v. v.1.0) once.0 in
    ((cc), once.1)
keys_once (key.Rsa e n) (key.Rsa f m) bytes a b is s t =
    let once = spells_all_once (Bytes ∷ Bytes ∷ []) (e, (n, tt)) (f, (m, tt)) bytes a b s t in
    (ap (λ v. key.Rsa v.0 v.1.0) once.0, once.1)
keys_once (key.Ed25519 x) (key.Ecdsa d y) bytes a b is s t = let bad : type.Ed25519 ≡ type.Ecdsa d =
    is in absurd cc
keys_once (key.Ed25519 x) (key.Rsa f m) bytes a b is s t = let bad : type.Ed25519 ≡ type.Rsa =
    is in absurd cc
keys_once (key.Ecdsa c x) (key.Ed25519 y) bytes a b is s t = let bad : type.Ecdsa c ≡ type.Ed25519 =
    is in absurd cc
keys_once (key.Ecdsa c x) (key.Rsa f m) bytes a b is s t = let bad : type.Ecdsa c ≡ type.Rsa =
    is in absurd cc
keys_once (key.Rsa e n) (key.Ed25519 y) bytes a b is s t = let bad : type.Rsa ≡ type.Ed25519 =
    is in absurd cc
keys_once (key.Rsa e n) (key.Ecdsa d y) bytes a b is s t = let bad : type.Rsa ≡ type.Ecdsa d =
    is in absurd cc

-- bytes after a key
pub lacks_after : (public : PublicKey) (type : KeyType) (bytes rest : List ℕ)
    → type_of public ≡ type → SpellsKey public bytes rest → (rest ≡ [] → ⊥)
    → LacksWholeKey type bytes
lacks_after public type bytes rest is spelled more =
    λ other other-is other-spelled. more ((keys_once public other bytes rest [] (is ∙ sym other-is)
    spelled other-spelled).1)

-- what follows the type is no key of it
pub no_key : {T : Type 0} (r : Result T KeyError) (type : KeyType) (start blob after : List ℕ)
    → start ≡ blob → SpellsName (type_name type) start after
    → IfErr r (λ e. (e ≡ NoMemory) ⊎ ((e ≡ Blob) × LacksWholeKey type after))
    → IfErr r (λ e. (e ≡ NoMemory) ⊎ FailsKey blob e)
no_key (Ok x) type start blob after from named fails = tt
no_key (Err e) type start blob after from named fails =
    elim fails [
      | inl memory ↦ inl memory
      | inr wrong ↦ inr (inr (
        type,
        after,
        subst (λ x. SpellsName (type_name type) x after) from
            named,
        wrong.0,
        wrong.1,
      ))
    ]

-- the blob does not begin with the type of a key
pub fails_type : (start blob : List ℕ) (e : KeyError) → start ≡ blob → FailsType type_name start e
    → FailsKey blob e
fails_type start blob e from fails = inl (subst (λ x. FailsType type_name x e) from fails)
