-- What a response tells, and how it is spelled (draft-ietf-secsh-filexfer-02 sections 4, 5 and 7).
use Rattle.std.specs.Prelude.{ℕ, List, [], ◌∷◌}
use Rattle.ssh_wire.specs.Field.{Number, Long, Bytes, number}
use Rattle.ssh_wire.specs.Messages.{Message, written}
use Rattle.ssh_sftp_core.specs.declared.response.Response.{Response}
use Rattle.ssh_sftp_core.specs.declared.response.Response.TheVariants as response
use Rattle.ssh_sftp_core.specs.declared.status.Status.{Status}
use Rattle.ssh_sftp_core.specs.Statuses.{status_code, status_message}

-- uint32 version, which has no id in front (section 4)
abbrev pub version : Message
version = record { number = 2; fields = Number ∷ [] }

-- uint32 id, uint32 code, string message, string language
abbrev pub status : Message
status = record { number = 101; fields = Number ∷ Number ∷ Bytes ∷ Bytes ∷ [] }

-- uint32 id, string handle
abbrev pub handle : Message
handle = record { number = 102; fields = Number ∷ Bytes ∷ [] }

-- uint32 id, string data
abbrev pub data_ : Message
data_ = record { number = 103; fields = Number ∷ Bytes ∷ [] }

-- uint32 id, uint32 count of names, and of the one name: string name, string the same in a long
-- form, uint32 flags of no attributes
abbrev pub name : Message
name = record { number = 104; fields = Number ∷ Number ∷ Bytes ∷ Bytes ∷ Number ∷ [] }

-- uint32 id, uint32 flags of one attribute, uint64 size (section 5)
abbrev pub attributes : Message
attributes = record { number = 105; fields = Number ∷ Number ∷ Long ∷ [] }

-- what the server tells
pub data Told : Type 0 where
  -- that the two speak version 3
  Version : Told
  Report : (status : Status) → Told
  -- the handle that is given
  Handle : (number : ℕ) → Told
  Data : (bytes : List ℕ) → Told
  -- the size of a file
  Size : (size : ℕ) → Told
  Name : (path : List ℕ) → Told

-- what a response of the code tells
abbrev pub told : Response → Told
told response.Version = Version
told (response.Status status) = Report status
told (response.Handle number) = Handle number
told (response.Data bytes) = Data bytes.now
told (response.Size size) = Size size
told (response.Name path) = Name path.now

-- the packet that tells this in answer to the request of this id
abbrev pub spelled : (id : ℕ) → Told → List ℕ
spelled id Version = written version (3, tt)
spelled id (Report outcome) =
    written status (id, (status_code outcome, (status_message outcome, ([], tt))))
spelled id (Handle n) = written handle (id, (number n, tt))
spelled id (Data bytes) = written data_ (id, (bytes, tt))
spelled id (Size size) = written attributes (id, (1, (size, tt)))
spelled id (Name path) = written name (id, (1, (path, (path, (0, tt)))))
