-- The answers to a stream of packets.
use Rattle.std.specs.Prelude.{◌≡◌, ◌<◌, ℕ, Bool, true, false, List, [], ◌∷◌, ◌++◌, Result, Ok, Err}
use Rattle.std.specs.Coded.{Coded, code_by, coded×, coded_ℕ, coded_list, coded_bool}
use Rattle.std.specs.Prelude.{length, refl}
use Rattle.ssh_sftp_core.specs.Files.{State, answer, fresh, state_code}
use Rattle.ssh_sftp.specs.Packets.{Splits, IsFault, IsPartial, packets}
use Rattle.ssh_sftp.specs.declared.error.SftpError.{SftpError}
use Rattle.ssh_sftp.specs.declared.error.SftpError.TheVariants as error

-- the state that these packets leave
abbrev pub state_after : State → List (List ℕ) → State
state_after state [] = state
state_after state (packet ∷ packets) = state_after (answer state packet).after packets

-- the answers to these packets, one after another
abbrev pub answers : State → List (List ℕ) → List ℕ
answers state [] = []
answers state (packet ∷ packets) =
    (answer state packet).reply ++ answers (answer state packet).after packets

-- the answers to all packets of a stream, from the first
abbrev pub replies : List ℕ → List ℕ
replies stream = answers fresh (packets stream)

-- the stream is some packets and a rest: their answers were put out, and this is the state after
-- them
pub record Serves (before : State) (stream : List ℕ) (after : State) (rest old new : List ℕ)
    : Type 0 where
  pub packets : List (List ℕ)
  pub splits : Splits stream packets rest
  pub state : after ≡ state_after before packets
  pub out : new ≡ old ++ answers before packets

-- the answers to some packets were put out, and what comes after them is refused for this reason
pub record Refuses (before : State) (stream : List ℕ) (why : SftpError) (old new : List ℕ)
    : Type 0 where
  pub packets : List (List ℕ)
  pub rest : List ℕ
  pub splits : Splits stream packets rest
  pub out : new ≡ old ++ answers before packets
  pub fault : IsFault rest why

-- a server between two pieces of its stream: its files, what came of the next packet, and whether
-- a piece was refused
pub record Server : Type 0 where
  pub files : State
  pub rest : List ℕ
  pub failed : Bool

abbrev pub server_code : Coded Server
server_code = code_by (State × (List ℕ × Bool))
    (coded× state_code (coded× (coded_list coded_ℕ) coded_bool))
    (λ server. (server.files, (server.rest, server.failed)))
    (λ p. record { files = p.0; rest = p.1.0; failed = p.1.1 }) (λ _. refl)

-- before the first byte
abbrev pub begun : Server
begun = record { files = fresh; rest = []; failed = false }

-- what a server has of its stream with what comes next
abbrev pub stream_of : Server → List ℕ → List ℕ
stream_of server next = server.rest ++ next

-- what a server answers to what comes next: the answers to the packets that are whole by then
abbrev pub answers_of : Server → List ℕ → List ℕ
answers_of server next = answers server.files (packets (stream_of server next))

-- a server after what comes next, where that ends with a packet
abbrev pub after_all : Server → List ℕ → Server
after_all server next = record {
  files = state_after server.files (packets (stream_of server next));
  rest = [];
  failed = false;
}

-- why a piece is refused, and what is put out all the same
abbrev pub RefusesAt : (failed : Bool) → State → (stream : List ℕ) → SftpError
    → (old new : List ℕ) → Type 0
RefusesAt true before stream why old new = (why ≡ error.Failed) × (new ≡ old)
RefusesAt false before stream why old new = Refuses before stream why old new

-- what the end of the stream is answered
abbrev pub end_of : (failed : Bool) → (rest : List ℕ) → Result (Unit {0}) SftpError
end_of true rest = Err error.Failed
end_of false [] = Ok tt
end_of false (byte ∷ rest) = Err (error.Cut (length (byte ∷ rest)))

-- all of a stream was taken: less than a packet is left, and the answers to its packets were put
-- out
pub record IsAnswered (stream : List ℕ) (old new : List ℕ) : Type 0 where
  pub rest : List ℕ
  pub splits : Splits stream (packets stream) rest
  pub partial : IsPartial rest
  pub out : new ≡ old ++ replies stream

-- a stream has a fault after its packets, and the answers to these were put out
pub record IsFaulty (stream : List ℕ) (why : SftpError) (old new : List ℕ) : Type 0 where
  pub rest : List ℕ
  pub splits : Splits stream (packets stream) rest
  pub fault : IsFault rest why
  pub out : new ≡ old ++ replies stream

-- memory was wanting, and the answers to the first packets of a stream were put out
pub record IsUnfinished (stream : List ℕ) (old new : List ℕ) : Type 0 where
  pub some : List (List ℕ)
  pub others : List (List ℕ)
  pub are : packets stream ≡ some ++ others
  pub out : new ≡ old ++ answers fresh some

-- why a stream is refused, and what is put out all the same
abbrev pub IsRefused : (stream : List ℕ) → SftpError → (old new : List ℕ) → Type 0
IsRefused stream error.NoMemory old new = IsUnfinished stream old new
IsRefused stream why old new = IsFaulty stream why old new

-- a stream that has a fault is not taken whole
abbrev pub NeverBoth : Type 0
NeverBoth = (stream : List ℕ) (why : SftpError) (a b c d : List ℕ) → (why ≡ error.NoMemory → ⊥)
    → IsFaulty stream why a b → IsAnswered stream c d → ⊥

-- after its packets a stream has this fault
abbrev pub HasFault : (stream : List ℕ) → SftpError → Type 0
HasFault stream why = (rest : List ℕ) × Splits stream (packets stream) rest × IsFault rest why

-- after its packets a stream has so many bytes of one more
abbrev pub EndsInside : (stream : List ℕ) → (left : ℕ) → Type 0
EndsInside stream left = (rest : List ℕ) × Splits stream (packets stream) rest × IsPartial rest
    × (left ≡ length rest) × (0 < left)

-- a stream is whole packets
abbrev pub IsWhole : (stream : List ℕ) → Type 0
IsWhole stream = Splits stream (packets stream) []
