-- A stream of packets, each with its length in front (draft-ietf-secsh-filexfer-02 section 3).
use Rattle.std.specs.Prelude.{◌≡◌, ◌+◌, ◌<◌, ◌≤◌, ◌^◌, ◌⊎◌, ◌&&◌, ℕ, Bool, List, [], ◌∷◌, ◌++◌}
use Rattle.std.specs.Prelude.{length, flat_map, take, drop, nat_le, nat_lt, if◌then◌else◌}
use Rattle.std.specs.Prelude.{◌==◌, ◌||◌, Option, Some, None}
use Rattle.std.specs.List.{AllByRecursion}
use Rattle.ssh_wire.specs.Field.{number, string}
use Rattle.ssh_sftp_core.specs.Layouts.{said}
use Rattle.ssh_sftp.specs.declared.error.SftpError.{SftpError}
use Rattle.ssh_sftp.specs.declared.error.SftpError.TheVariants as error

-- the most bytes that a packet may have
abbrev pub most : ℕ
most = 262144

-- a type, and at least the four bytes of an id, or of the version of INIT
abbrev pub IsPacket : List ℕ → Type 0
IsPacket packet = (4 < length packet) × (length packet ≤ most)

-- the stream is these packets, each behind its length, and then this rest
pub record Splits (stream : List ℕ) (packets : List (List ℕ)) (rest : List ℕ) : Type 0 where
  pub whole : stream ≡ flat_map string packets ++ rest
  pub each : AllByRecursion IsPacket packets

-- a length, and what follows it
abbrev pub Begins : List ℕ → (size : ℕ) → (body : List ℕ) → Type 0
Begins rest size body = (rest ≡ number size ++ body) × (size < 2 ^ 32)

-- less than a packet: less than a length, or a good length and fewer bytes than it says
abbrev pub IsPartial : List ℕ → Type 0
IsPartial rest = (length rest < 4)
    ⊎ ((size : ℕ) × (body : List ℕ) × Begins rest size body × (0 < size) × (size ≤ most)
    × (length body < size))

-- at most a packet: nothing stands behind it
abbrev pub IsAtMostWhole : List ℕ → Type 0
IsAtMostWhole rest = (length rest ≤ 4)
    ⊎ ((size : ℕ) × (body : List ℕ) × Begins rest size body × (length body ≤ size))

-- what begins so is no packet, for this reason, whatever else comes: a length of 0 or above the
-- most, or a whole packet without an id. Memory may be wanting anywhere
abbrev pub IsFault : List ℕ → SftpError → Type 0
IsFault rest (error.BadLength size) =
    (body : List ℕ) × Begins rest size body × ((size ≡ 0) ⊎ (most < size))
IsFault rest error.NoId =
    (packet after : List ℕ) × (rest ≡ string packet ++ after) × (0 < length packet)
    × (length packet < 5)
IsFault rest error.NoMemory = Unit {0}
IsFault rest _ = ⊥

-- whether a whole packet comes first
abbrev pub begins_whole : List ℕ → Bool
begins_whole stream = nat_lt 4 (said stream) && nat_le (said stream) most
    && nat_le (4 + said stream) (length stream)

-- the packets that come first, as many at most as the first list has bytes
abbrev pub packets_within : (enough stream : List ℕ) → List (List ℕ)
packets_within [] stream = []
packets_within (byte ∷ enough) stream =
    if begins_whole stream
    then take (said stream) (drop 4 stream)
    ∷ packets_within enough (drop (4 + said stream) stream)
    else []

-- the whole packets that the stream begins with
abbrev pub packets : List ℕ → List (List ℕ)
packets stream = packets_within stream stream

-- what stands behind the whole packets that a stream begins with
abbrev pub left_of : List ℕ → List ℕ
left_of stream = drop (length (flat_map string (packets stream))) stream

-- why what is left is no packet, whatever else comes: a length of 0 or above the most, or a whole
-- packet without an id
abbrev pub fault_in : List ℕ → Option SftpError
fault_in rest = if nat_lt (length rest) 4 then None
    else if (said rest == 0) || nat_lt most (said rest) then Some (error.BadLength (said rest))
    else if nat_lt (said rest) 5 && nat_le (4 + said rest) (length rest) then Some error.NoId
    else None

-- why a stream is refused behind its packets
abbrev pub fault_of : List ℕ → Option SftpError
fault_of stream = fault_in (left_of stream)
