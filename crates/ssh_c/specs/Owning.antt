-- What a slot owns.
use Rattle.std.specs.Prelude.{Option, Some, None}
use mir.Syntax.{Ty}
use base.Fml.{Fml, ftrue}
use denote.RattleType.{RattleType}
use denote.RawPtr.{Ptr}
use Rattle.std_alloc.specs.Box.Ownership.{box_owns}

-- where there is a value, the box that lies at this place; else nothing
abbrev pub owns_at : (token : Ty → Ptr → Fml) → (row : RattleType) → (place : Ptr)
    → Option row.Denot → Fml
owns_at token row place None = ftrue
owns_at token row place (Some value) = box_owns token row place value
