-- Signatures inside a string.
use Rattle.std.proofs.Common.{◌≡◌, ℕ, List, [], ◌∷◌, sym, ◌∙◌, subst}
use Rattle.ssh_wire.specs.Field.{Bytes, SpellsAll}
use Rattle.ssh_wire.specs.Reading.{Reading, Reads}
use Rattle.ssh_wire.proofs.Fields.{spells_once, spells_all_once}
use Rattle.ssh_keys.specs.Keys.{LacksFields}
use Rattle.ssh_keys.specs.Signatures.{signature_fields, SpellsSignature, LacksSignature}
use Rattle.ssh_keys.specs.declared.signature.Signature.{Signature}

-- the bytes begin with one string
pub one_string : (a b : Reading) (inner other rest : List ℕ) → Reads Bytes a b inner
    → SpellsAll (Bytes ∷ []) (other, tt) a.left rest → inner ≡ other
one_string a b inner other rest read s =
    (spells_once Bytes inner other read.0 s.0 b.left s.1 read.1 s.2 (sym read.2.0 ∙ s.3)).0

-- the string holds no signature
pub lacks_inner : (a b : Reading) (inner start : List ℕ) → Reads Bytes a b inner → start ≡ inner
    → LacksFields signature_fields start
    → LacksSignature a.left
lacks_inner a b inner start read from lacks =
    λ signature ends. lacks (signature.name, (signature.blob, tt)) []
    (subst (λ x. SpellsSignature signature x []) (sym
    (from ∙ one_string a b inner ends.0 [] read ends.1)) ends.2)

-- the string holds more than a signature
pub lacks_inner_end : (a b : Reading) (inner start rest : List ℕ) (found : Signature)
    → Reads Bytes a b inner → start ≡ inner
    → SpellsSignature found start rest → (rest ≡ [] → ⊥) → LacksSignature a.left
lacks_inner_end a b inner start rest found read from spelled more =
    λ signature ends. more
    ((spells_all_once signature_fields (found.name, (found.blob, tt))
    (signature.name, (signature.blob, tt)) start rest [] spelled
    (subst (λ x. SpellsSignature signature x []) (sym
    (from ∙ one_string a b inner ends.0 [] read ends.1)) ends.2)).1)
