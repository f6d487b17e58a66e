-- What a packet asks, by its type: one line a type (draft-ietf-secsh-filexfer-02 sections 4 and 6).
use Rattle.std.specs.Prelude.{◌==◌, if◌then◌else◌, ℕ, List, [], ◌∷◌, Option, Some, None, Result, Ok}
use Rattle.std.specs.Prelude.{Err}
use Rattle.ssh_wire.specs.Field.{Field, Number, Long, Bytes, Values}
use Rattle.ssh_sftp_core.specs.declared.request.Request.{Request}
use Rattle.ssh_sftp_core.specs.declared.request.Request.TheVariants as request
use Rattle.ssh_sftp_core.specs.declared.status.Status.{Status}
use Rattle.ssh_sftp_core.specs.declared.status.Status.TheVariants as status
use Rattle.ssh_sftp_core.specs.Layouts.{decoded, first_of, past_attributes}

-- what a client asks for
pub data Asked : Type 0 where
  -- that the two begin, whatever version the client speaks
  Init : Asked
  -- a handle of the file under this path
  Open : (path : List ℕ) → (flags : ℕ) → Asked
  -- that the handle is given up
  Close : (handle : List ℕ) → Asked
  -- up to so many bytes of the file from this one on
  Read : (handle : List ℕ) → (offset : ℕ) → (most : ℕ) → Asked
  -- that the bytes stand in the file from this one on
  Write : (handle : List ℕ) → (offset : ℕ) → (bytes : List ℕ) → Asked
  -- the attributes of the file under this path
  Stat : (path : List ℕ) → Asked
  -- the attributes of the file of this handle
  Fstat : (handle : List ℕ) → Asked
  -- that the file is removed
  Remove : (path : List ℕ) → Asked
  -- the full name of this path
  RealPath : (path : List ℕ) → Asked
  -- that the file under the old path stands under the new one
  Rename : (old : List ℕ) → (new : List ℕ) → Asked

-- what a request of the code asks
abbrev pub asked : Request → Asked
asked request.Init = Init
asked (request.Open path flags) = Open path.now flags
asked (request.Close handle) = Close handle.now
asked (request.Read handle offset most) = Read handle.now offset most
asked (request.Write handle offset bytes) = Write handle.now offset bytes.now
asked (request.Stat path) = Stat path.now
asked (request.Fstat handle) = Fstat handle.now
asked (request.Remove path) = Remove path.now
asked (request.RealPath path) = RealPath path.now
asked (request.Rename old new) = Rename old.now new.now

-- a body that is these fields to its last byte asks this; another is a bad message
abbrev pub fits : (fields : List Field) → (Values fields → Asked) → List ℕ → Result Asked Status
fits fields asks body = elim (decoded fields body) [
  | None ↦ Err status.BadMessage
  | Some values ↦ Ok (asks values)
]

-- the flags and the attributes of OPEN, to the last byte (section 6.3)
abbrev pub opened_with : (path : List ℕ) → Option (ℕ × List ℕ) → Result Asked Status
opened_with path None = Err status.BadMessage
opened_with path (Some flags) = elim (past_attributes flags.1) [
  | Some [] ↦ Ok (Open path flags.0)
  | _ ↦ Err status.BadMessage
]

-- string path, uint32 flags, and attributes
abbrev pub opens : List ℕ → Result Asked Status
opens body = elim (first_of Bytes body) [
  | None ↦ Err status.BadMessage
  | Some path ↦ opened_with path.0 (first_of Number path.1)
]

-- string handle, uint64 offset, uint32 length (section 6.4)
abbrev pub reads : List ℕ → Result Asked Status
reads body = fits (Bytes ∷ Long ∷ Number ∷ []) (λ (handle, (offset, (most, _))).
    Read handle offset most) body

-- string handle, uint64 offset, string data (section 6.4)
abbrev pub writes : List ℕ → Result Asked Status
writes body = fits (Bytes ∷ Long ∷ Bytes ∷ []) (λ (handle, (offset, (bytes, _))).
    Write handle offset bytes) body

-- one line a type, of what follows the id; what follows the version of INIT are extensions,
-- whatever they are (section 4)
abbrev pub asked_by : (kind : ℕ) → (body : List ℕ) → Result Asked Status
asked_by kind body =
    if kind == 1 then Ok Init
    else (if kind == 3 then opens body
    else (if kind == 4 then fits (Bytes ∷ []) (λ (handle, _). Close handle) body
    else (if kind == 5 then reads body
    else (if kind == 6 then writes body
    else (if kind == 7 then fits (Bytes ∷ []) (λ (path, _). Stat path) body
    else (if kind == 8 then fits (Bytes ∷ []) (λ (handle, _). Fstat handle) body
    else (if kind == 13 then fits (Bytes ∷ []) (λ (path, _). Remove path) body
    else (if kind == 16 then fits (Bytes ∷ []) (λ (path, _). RealPath path) body
    else (if kind == 17 then fits (Bytes ∷ []) (λ (path, _). Stat path) body
    else (if kind == 18 then fits (Bytes ∷ Bytes ∷ []) (λ (old, (new, _)). Rename old new) body
    else Err status.Unsupported))))))))))
