-- What is written is read as what it says.
use Rattle.std.proofs.Common.{List, [], ◌∷◌, Bool, true, false, refl, arith, append-nil, sym}
use Rattle.ssh_wire.specs.Field.{Field, Byte, Flag, Number, Long, Bytes, Text, Value, Values}
use Rattle.ssh_wire.specs.Field.{Spells, SpellsWhole}
use Rattle.ssh_wire.specs.Messages.{spelling, spellings, IsCarried, AreCarried}

flag_spelled : (value : Bool) → Spells Flag value (spelling Flag value)
flag_spelled true = (1, omega arith, refl, refl)
flag_spelled false = (0, omega arith, refl, refl)

spelling_spells : (field : Field) (value : Value field) → IsCarried field value
    → Spells field value (spelling field value)
spelling_spells Byte value fits = (fits, refl)
spelling_spells Flag value fits = flag_spelled value
spelling_spells Number value fits = (fits, refl)
spelling_spells Long value fits = (fits, refl)
spelling_spells Bytes value fits = (fits, refl)
spelling_spells Text value fits = (fits.0, refl, fits.1)

pub spellings_spell : (fields : List Field) (values : Values fields) → AreCarried fields values
    → SpellsWhole fields values (spellings fields values)
spellings_spell [] values fits = refl
spellings_spell (field ∷ []) values fits = (
  spelling field values.0,
  [],
  spelling_spells field values.0 fits.0,
  sym (append-nil (spelling field values.0)),
  refl,
)
spellings_spell (field ∷ next ∷ fields) values fits = (
  spelling field values.0,
  spellings (next ∷ fields) values.1,
  spelling_spells field values.0 fits.0,
  refl,
  spellings_spell (next ∷ fields) values.1 fits.1,
)
