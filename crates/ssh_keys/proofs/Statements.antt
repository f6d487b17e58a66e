-- What a certificate says of its key, field by field.
use Rattle.std.proofs.Common.{◌≡◌, ◌↔◌, IsTrue, Bool, true, false, ℕ, List, [], ◌∷◌, Result, Ok}
use Rattle.std.proofs.Common.{Err, IfOk, IfErr, is_ok, sym, ◌∙◌, subst}
use Rattle.ssh_wire.specs.Field.{Long, Number, Text, Bytes, Misfits, MisfitsAll, SpellsAll}
use Rattle.ssh_wire.specs.Reading.{Reading, Reads}
use Rattle.ssh_wire.specs.declared.error.WireError.{WireError}
use Rattle.ssh_wire.proofs.Fields.{spells_all_once, spells_more_all, misfit_here_all}
use Rattle.ssh_wire.proofs.Fields.{misfit_later_all}
use Rattle.std.proofs.Common.{refl}
use Rattle.ssh_keys.specs.Keys.{certificate_type_name, type_of, SpellsKey, SpellsName, LacksFields}
use Rattle.ssh_keys.specs.Keys.{LacksKey, FailsType}
use Rattle.ssh_keys.specs.Certificates.{identity_fields, LacksIdentity, SpellsIdentity}
use Rattle.ssh_keys.specs.Certificates.{validity_fields, SpellsValidity, option_fields}
use Rattle.ssh_keys.specs.Certificates.{SpellsOptions, SpellsCertified, LacksCertified}
use Rattle.ssh_keys.specs.Certificates.{cert_type_number, HasCertificateType}
use Rattle.ssh_keys.specs.declared.certificate.Certified.{Certified}
use Rattle.ssh_keys.specs.declared.error.KeyError.{KeyError}
use Rattle.ssh_keys.specs.declared.key_type.KeyType.{KeyType}
use Rattle.ssh_keys.specs.declared.public_key.PublicKey.{PublicKey}
use Rattle.ssh_keys.specs.declared.terms.Identity.{Identity}
use Rattle.ssh_keys.specs.declared.terms.Validity.{Validity}
use Rattle.ssh_keys.proofs.Blobs.{type_is_known}
use Rattle.ssh_keys.proofs.Layouts.{keys_once}

-- ---- the first field that does not fit

pub no_key_id : (a b c : Reading) (serial number : ℕ) (why : WireError) → Reads Long a b serial
    → Reads Number b c number → Misfits Text c.left why
    → MisfitsAll identity_fields a.left why
no_key_id a b c serial number why p q misfit =
    misfit_later_all Long (Number ∷ Text ∷ Bytes ∷ []) a b serial why p
    (misfit_later_all Number (Text ∷ Bytes ∷ []) b c number why q
    (misfit_here_all Text (Bytes ∷ []) c.left why misfit))

pub no_principals : (a b c d : Reading) (serial number : ℕ) (key_id : List ℕ) (why : WireError)
    → Reads Long a b serial → Reads Number b c number
    → Reads Text c d key_id → Misfits Bytes d.left why → MisfitsAll identity_fields a.left why
no_principals a b c d serial number key_id why p q r misfit =
    misfit_later_all Long (Number ∷ Text ∷ Bytes ∷ []) a b serial why p
    (misfit_later_all Number (Text ∷ Bytes ∷ []) b c number why q
    (misfit_later_all Text (Bytes ∷ []) c d key_id why r
    (misfit_here_all Bytes [] d.left why misfit)))

pub no_extensions : (a b : Reading) (critical : List ℕ) (why : WireError) → Reads Bytes a b critical
    → Misfits Bytes b.left why
    → MisfitsAll option_fields a.left why
no_extensions a b critical why p misfit =
    misfit_later_all Bytes (Bytes ∷ Bytes ∷ []) a b critical why p
    (misfit_here_all Bytes (Bytes ∷ []) b.left why misfit)

pub no_reserved : (a b c : Reading) (critical extensions : List ℕ) (why : WireError)
    → Reads Bytes a b critical → Reads Bytes b c extensions
    → Misfits Bytes c.left why → MisfitsAll option_fields a.left why
no_reserved a b c critical extensions why p q misfit =
    misfit_later_all Bytes (Bytes ∷ Bytes ∷ []) a b critical why p
    (misfit_later_all Bytes (Bytes ∷ []) b c extensions why q
    (misfit_here_all Bytes [] c.left why misfit))

pub lacks_identity : (bytes : List ℕ) → LacksFields identity_fields bytes → LacksIdentity bytes
lacks_identity bytes lacks =
    λ identity rest spelled. lacks (
      identity.serial,
      (cert_type_number identity.cert_type, (identity.key_id, (identity.valid_principals, tt))),
    )
    rest spelled

-- ---- where each part of what is certified ends

pub after_nonce : (part : Certified) (bytes rest nonce a : List ℕ)
    → SpellsAll (Bytes ∷ []) (nonce, tt) bytes a → (s : SpellsCertified part bytes rest) → s.0 ≡ a
after_nonce part bytes rest nonce a read s =
    (spells_all_once (Bytes ∷ []) (part.nonce, tt) (nonce, tt) bytes s.0 a s.4 read).1

pub after_key : (part : Certified) (public : PublicKey) (bytes rest nonce a b : List ℕ)
    → SpellsAll (Bytes ∷ []) (nonce, tt) bytes a
    → SpellsKey public a b → type_of part.public_key ≡ type_of public
    → (s : SpellsCertified part bytes rest) → s.1 ≡ b
after_key part public bytes rest nonce a b read key is s =
    (keys_once part.public_key public a s.1 b is (subst (λ x. SpellsKey part.public_key x s.1)
    (after_nonce part bytes rest nonce a read s) s.5) key).1

identities_once : (i j : Identity) (bytes a b : List ℕ) → SpellsIdentity i bytes a
    → SpellsIdentity j bytes b → a ≡ b
identities_once i j bytes a b s t =
    (spells_all_once identity_fields
    (i.serial, (cert_type_number i.cert_type, (i.key_id, (i.valid_principals, tt))))
    (j.serial, (cert_type_number j.cert_type, (j.key_id, (j.valid_principals, tt)))) bytes a b s
    t).1

pub after_identity : (part : Certified) (public : PublicKey) (identity : Identity)
    (bytes rest nonce a b c : List ℕ) → SpellsAll (Bytes ∷ []) (nonce, tt) bytes a
    → SpellsKey public a b → SpellsIdentity identity b c → type_of part.public_key ≡ type_of public
    → (s : SpellsCertified part bytes rest) → s.2 ≡ c
after_identity part public identity bytes rest nonce a b c read key says is s =
    identities_once part.identity identity b s.2 c
    (subst (λ x. SpellsIdentity part.identity x s.2)
    (after_key part public bytes rest nonce a b read key is s) s.6) says

validities_once : (v w : Validity) (bytes a b : List ℕ) → SpellsValidity v bytes a
    → SpellsValidity w bytes b → a ≡ b
validities_once v w bytes a b s t =
    (spells_all_once validity_fields (v.valid_after, (v.valid_before, tt))
    (w.valid_after, (w.valid_before, tt)) bytes a b s t).1

pub after_validity : (part : Certified) (public : PublicKey) (identity : Identity)
    (validity : Validity) (bytes rest nonce a b c d : List ℕ)
    → SpellsAll (Bytes ∷ []) (nonce, tt) bytes a → SpellsKey public a b
    → SpellsIdentity identity b c → SpellsValidity validity c d
    → type_of part.public_key ≡ type_of public → (s : SpellsCertified part bytes rest) → s.3 ≡ d
after_validity part public identity validity bytes rest nonce a b c d read key says holds is s =
    validities_once part.validity validity c s.3 d
    (subst (λ x. SpellsValidity part.validity x s.3)
    (after_identity part public identity bytes rest nonce a b c read key says is s) s.7) holds

-- ---- what is certified is not there

pub lacks_key_after : (type : KeyType) (bytes nonce a : List ℕ)
    → SpellsAll (Bytes ∷ []) (nonce, tt) bytes a → LacksKey type a → LacksCertified type bytes
lacks_key_after type bytes nonce a read lacks =
    λ part rest is s. lacks part.public_key s.1 is
    (subst (λ x. SpellsKey part.public_key x s.1) (after_nonce part bytes rest nonce a read s)
    s.5)

pub lacks_identity_after : (type : KeyType) (public : PublicKey) (bytes nonce a b : List ℕ)
    → SpellsAll (Bytes ∷ []) (nonce, tt) bytes a
    → type_of public ≡ type → SpellsKey public a b → LacksIdentity b → LacksCertified type bytes
lacks_identity_after type public bytes nonce a b read typed key lacks =
    λ part rest is s. lacks part.identity s.2
    (subst (λ x. SpellsIdentity part.identity x s.2)
    (after_key part public bytes rest nonce a b read key (is ∙ sym typed) s) s.6)

pub lacks_validity_after : (type : KeyType) (public : PublicKey) (identity : Identity)
    (bytes nonce a b c : List ℕ) → SpellsAll (Bytes ∷ []) (nonce, tt) bytes a
    → type_of public ≡ type → SpellsKey public a b → SpellsIdentity identity b c
    → LacksFields validity_fields c → LacksCertified type bytes
lacks_validity_after type public identity bytes nonce a b c read typed key says lacks =
    λ part rest is s. lacks (part.validity.valid_after, (part.validity.valid_before, tt)) s.3
    (subst (λ x. SpellsValidity part.validity x s.3)
    (after_identity part public identity bytes rest nonce a b c read key says (is ∙ sym typed)
    s) s.7)

pub lacks_options_after : (type : KeyType) (public : PublicKey) (identity : Identity)
    (validity : Validity) (bytes nonce a b c d : List ℕ)
    → SpellsAll (Bytes ∷ []) (nonce, tt) bytes a → type_of public ≡ type → SpellsKey public a b
    → SpellsIdentity identity b c → SpellsValidity validity c d
    → LacksFields option_fields d → LacksCertified type bytes
lacks_options_after type public identity validity bytes nonce a b c d read typed key says holds
    lacks =
    λ part rest is s. lacks (
      part.options.critical_options,
      (part.options.extensions, (part.options.reserved, tt)),
    ) rest
    (subst (λ x. SpellsOptions part.options x rest)
    (after_validity part public identity validity bytes rest nonce a b c d read key says holds
    (is ∙ sym typed) s) s.8)

-- a string that was read
pub read_string : (a b : Reading) (value : List ℕ) → Reads Bytes a b value
    → SpellsAll (Bytes ∷ []) (value, tt) a.left b.left
read_string a b value read = spells_more_all Bytes [] a b value tt b.left read refl

-- whether a type of certificates was read
pub typed : (r : Result KeyType KeyError) (found : Bool) (start after blob : List ℕ)
    → found ≡ is_ok r
    → IfOk r (λ t. SpellsName (certificate_type_name t) start after)
    → IfErr r (FailsType certificate_type_name start) → start ≡ blob
    → IsTrue found ↔ HasCertificateType blob
typed (Ok t) found start after blob is named fails from = (
  (λ _. (t, after, subst (λ x. SpellsName (certificate_type_name t) x after) from named)),
  (λ _. is),
)
typed (Err e) found start after blob is named fails from = (
  (λ yes. let bad : true ≡ false = sym yes ∙ is in cc),
  (λ has. absurd (type_is_known certificate_type_name has.0 start has.1 e
      (subst (λ x. SpellsName (certificate_type_name has.0) x has.1) (sym from) has.2) fails)),
)
