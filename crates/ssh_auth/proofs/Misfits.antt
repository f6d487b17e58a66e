-- A field that does not fit is no want of memory.
use Rattle.std.proofs.Common.{◌≡◌, ◌∷◌, List, [], ℕ, refl, inl, inr, subst}
use Rattle.ssh_wire.specs.declared.error.WireError.{WireError}
use Rattle.ssh_wire.specs.declared.error.WireError.TheVariants as wire
use Rattle.ssh_wire.specs.Field.{Field, Byte, Flag, Number, Long, Bytes, Text, Misfits, MisfitsAll}
use Rattle.ssh_wire.specs.Field.{MisfitsWhole}
use Rattle.ssh_auth.specs.declared.error.AuthError.TheVariants as error
use Rattle.ssh_auth.specs.Failure.{auth_error_of}
use Rattle.ssh_auth.specs.Requested.{change_flag, after_no_change, after_change, Unfit_method}
use Rattle.ssh_auth.specs.Requested.{SaysPassword}

memory_is_no_misfit : (field : Field) (bytes : List ℕ) → Misfits field bytes wire.NoMemory → ⊥
memory_is_no_misfit Byte bytes h = h
memory_is_no_misfit Flag bytes h = h
memory_is_no_misfit Number bytes h = h
memory_is_no_misfit Long bytes h = h
memory_is_no_misfit Bytes bytes h = h
memory_is_no_misfit Text bytes h = h

memory_is_not_all : (fields : List Field) (bytes : List ℕ) → MisfitsAll fields bytes wire.NoMemory
    → ⊥
memory_is_not_all [] bytes h = h
memory_is_not_all (field ∷ fields) bytes (inl h) = memory_is_no_misfit field bytes h
memory_is_not_all (field ∷ fields) bytes (inr h) = memory_is_not_all fields h.2 h.5

pub memory_is_not_whole : (fields : List Field) (bytes : List ℕ) → MisfitsWhole fields bytes
    wire.NoMemory → ⊥
memory_is_not_whole [] bytes h = cc
memory_is_not_whole (field ∷ fields) bytes (inl h) = memory_is_no_misfit field bytes h
memory_is_not_whole (field ∷ fields) bytes (inr h) = memory_is_not_whole fields h.2 h.5

memory_is_no_password : (fields : List ℕ) → SaysPassword fields (Unfit_method wire.NoMemory) → ⊥
memory_is_no_password fields (inl h) = memory_is_not_all change_flag fields h
memory_is_no_password fields (inr (inl h)) = memory_is_not_whole after_no_change h.0 h.2
memory_is_no_password fields (inr (inr h)) = memory_is_not_whole after_change h.0 h.2

-- an error that no want of memory is one of encoding
encoding : (E : Type 0) (why : WireError) → (why ≡ wire.NoMemory → ⊥) → auth_error_of {E = E} why
    ≡ error.Encoding why
encoding E wire.Short h = refl
encoding E wire.NotUtf8 h = refl
encoding E (wire.Trailing left) h = refl
encoding E wire.TooLong h = refl
encoding E wire.NoMemory h = absurd (h refl)

-- the error of fields of which one does not fit
pub all_error : (E : Type 0) (fields : List Field) (bytes : List ℕ) (why : WireError)
    → MisfitsAll fields bytes why → auth_error_of {E = E} why ≡ error.Encoding why
all_error E fields bytes why h = encoding E why (λ e. memory_is_not_all fields bytes
    (subst (MisfitsAll fields bytes) e h))

-- the same, where nothing may follow them
pub whole_error : (E : Type 0) (fields : List Field) (bytes : List ℕ) (why : WireError)
    → MisfitsWhole fields bytes why → auth_error_of {E = E} why ≡ error.Encoding why
whole_error E fields bytes why h = encoding E why (λ e. memory_is_not_whole fields bytes
    (subst (MisfitsWhole fields bytes) e h))

-- the error of a password's fields
pub password_error : (E : Type 0) (fields : List ℕ) (why : WireError)
    → SaysPassword fields (Unfit_method why) → auth_error_of {E = E} why ≡ error.Encoding why
password_error E fields why h = encoding E why (λ e. memory_is_no_password fields
    (subst (λ w. SaysPassword fields (Unfit_method w)) e h))
