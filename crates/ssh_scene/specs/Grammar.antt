-- How the lines of a script are written: words with one space between each two.
use Rattle.std.specs.Prelude.{◌≡◌, ◌≢◌, ◌<◌, ◌^◌, ◌⊎◌, ◌==◌, ℕ, List, [], ◌∷◌, length, codes}
use Rattle.std.specs.Prelude.{bytes_eq, Bool, true}
use Rattle.std.specs.Prelude.{false, nat_lt, if◌then◌else◌, Option, Some, None, Ok}
use Rattle.std.specs.Prelude.{IsUtf8}
use Rattle.std.specs.List.{position_or_len, before_first, after_first}
use Rattle.std.specs.Fmt.{decimal}
use Rattle.hex.specs.Hex.{decode_of}
use Rattle.ssh_keys.specs.Algorithms.{algorithm_name}
use Rattle.ssh_keys.specs.Keys.{IsKey}
use Rattle.ssh_keys.specs.declared.public_key.PublicKey.{PublicKey}
use Rattle.ssh_keys.specs.declared.table_verifier.AcceptedSignature.{AcceptedSignature}
use Rattle.ssh_wire.specs.declared.channel_id.ChannelId.{ChannelId}
use Rattle.ssh_wire.specs.declared.disconnect.Disconnect.{Disconnect}
use Rattle.ssh_wire.specs.declared.disconnect.Disconnect.TheVariants as cause
use Rattle.ssh_wire.specs.declared.open_failure.ChannelOpenFailure.{ChannelOpenFailure}
use Rattle.ssh_wire.specs.declared.open_failure.ChannelOpenFailure.TheVariants as reason
use Rattle.ssh_link.specs.declared.command.Command.{Command}
use Rattle.ssh_link.specs.declared.command.Command.TheVariants as command
use Rattle.ssh_link.specs.declared.open_answer.OpenAnswer.{OpenAnswer}
use Rattle.ssh_scene.specs.Opens.{own, accepting, rejecting}
use Rattle.ssh_scene.specs.Verdicts.{verdict_of, answer_to, interactive_verdict_of}
use Rattle.ssh_scene.specs.Verdicts.{open_verdict_of, data_verdict_of, request_verdict_of}
use Rattle.ssh_scene.specs.declared.answers.InteractiveVerdict.{InteractiveVerdict}
use Rattle.ssh_scene.specs.declared.answers.OpenVerdict.{OpenVerdict}
use Rattle.ssh_scene.specs.declared.answers.DataVerdict.{DataVerdict}
use Rattle.ssh_scene.specs.declared.answers.RequestVerdict.{RequestVerdict}
use Rattle.ssh_scene.specs.declared.answers.Verdict.{Verdict}
use Rattle.ssh_scene.specs.declared.answers.ForwardVerdict.TheVariants.{Yes, No}
use Rattle.ssh_scene.specs.declared.lines.Setting.{Setting}
use Rattle.ssh_scene.specs.declared.lines.Setting.TheVariants as setting
use Rattle.ssh_scene.specs.declared.lines.InputLine.TheVariants as input
use Rattle.ssh_scene.specs.declared.lines.Line.{Line}
use Rattle.ssh_scene.specs.declared.lines.Line.TheVariants as line

-- a number is written in decimal, in one way
abbrev pub IsNumber : List ℕ → ℕ → Type 0
IsNumber digits n = (n < 2 ^ 64) × (digits ≡ decimal n)

-- one below 2^32 likewise
abbrev pub IsSmall : List ℕ → ℕ → Type 0
IsSmall digits n = (n < 2 ^ 32) × (digits ≡ decimal n)

abbrev pub IsSmallIn : List ℕ → Option ℕ → Type 0
IsSmallIn digits (Some n) = IsSmall digits n
IsSmallIn digits None = (n : ℕ) → IsSmall digits n → ⊥

-- a channel is written by its number
abbrev pub IsChannelIn : List ℕ → Option ChannelId → Type 0
IsChannelIn digits (Some channel) = IsSmall digits channel.0
IsChannelIn digits None = (n : ℕ) → IsSmall digits n → ⊥

abbrev pub IsNumberIn : List ℕ → Option ℕ → Type 0
IsNumberIn digits (Some n) = IsNumber digits n
IsNumberIn digits None = (n : ℕ) → IsNumber digits n → ⊥

-- bytes are written in hex, with either case of letters, and as - where there are none
abbrev pub IsHex : List ℕ → List ℕ → Type 0
IsHex digits bytes = ((digits ≡ codes "-") × (bytes ≡ []))
    ⊎ ((digits ≢ []) × (decode_of digits ≡ Ok bytes))

abbrev pub IsHexIn : List ℕ → Option (List ℕ) → Type 0
IsHexIn digits (Some bytes) = IsHex digits bytes
IsHexIn digits None = (bytes : List ℕ) → IsHex digits bytes → ⊥

-- a text is written by its bytes, which are UTF-8
abbrev pub IsTextHex : List ℕ → List ℕ → Type 0
IsTextHex digits text = IsHex digits text × IsUtf8 text

abbrev pub IsTextIn : List ℕ → Option (List ℕ) → Type 0
IsTextIn digits (Some text) = IsTextHex digits text
IsTextIn digits None = (text : List ℕ) → IsTextHex digits text → ⊥

-- a key is written by its blob
abbrev pub IsKeyHex : List ℕ → PublicKey → Type 0
IsKeyHex digits public = (blob : List ℕ) × IsHex digits blob × IsKey public blob

abbrev pub IsKeyIn : List ℕ → Option PublicKey → Type 0
IsKeyIn digits (Some public) = IsKeyHex digits public
IsKeyIn digits None = (public : PublicKey) → IsKeyHex digits public → ⊥

-- a signature that is accepted is written in four words: the key, the name of an algorithm of keys,
-- the message and the
-- signature
abbrev pub IsSignature : (key algorithm message signature : List ℕ) → AcceptedSignature → Type 0
IsSignature key algorithm message signature accepted =
    IsKeyHex key accepted.key
    × (algorithm_name accepted.algorithm ≡ algorithm)
    × IsHex message accepted.message
    × IsHex signature accepted.signature

abbrev pub IsSignatureIn : (key algorithm message signature : List ℕ) → Option AcceptedSignature
    → Type 0
IsSignatureIn key algorithm message signature (Some accepted) = IsSignature key algorithm message
    signature accepted
IsSignatureIn key algorithm message signature None =
    (accepted : AcceptedSignature) → IsSignature key algorithm message signature accepted → ⊥

-- what a line is by its words
pub data Form : Type 0 where
  -- no line has these words
  No_form : Form
  -- its words say this
  Whole : (says : Line) → Form
  -- these digits write the number of which it speaks
  Of_number : (says : ℕ → Line) → (digits : List ℕ) → Form
  -- these digits write the bytes of which it speaks
  Of_bytes : (says : List ℕ → Line) → (digits : List ℕ) → Form
  -- these digits write a text, and by it this is what the line is
  Of_text : (next : List ℕ → Form) → (digits : List ℕ) → Form
  -- these words write the signature that it accepts
  Of_signature : (key algorithm message signature : List ℕ) → Form
  -- these digits write a number below 2^32, and by it this is what the line is
  Of_small : (next : ℕ → Form) → (digits : List ℕ) → Form

-- the first word, and what follows the space after it; None where there is no space
abbrev pub is_space : ℕ → Bool
is_space byte = byte == 32

abbrev pub cut : List ℕ → Option (List ℕ × List ℕ)
cut text =
    if nat_lt (position_or_len is_space text) (length text)
    then Some (before_first is_space text, after_first is_space text)
    else None

abbrev pub setting_form : Option Setting → Form
setting_form None = No_form
setting_form (Some one) = Whole (line.Setting one)

-- answer, the name of a request, and a verdict
abbrev pub verdict_form : List ℕ → Option Verdict → Form
verdict_form name None = No_form
verdict_form name (Some one) = setting_form (answer_to name one)

-- answer banner fail
abbrev pub banner_form : List ℕ → Form
banner_form word = if bytes_eq word (codes "fail") then Whole (line.Setting setting.FailBanner) else
    No_form

abbrev pub interactive_verdict_form : Option InteractiveVerdict → Form
interactive_verdict_form None = No_form
interactive_verdict_form (Some one) = Whole (line.Setting (setting.AnswerInteractive one))

-- answer interactive, and one of these
abbrev pub interactive_form : List ℕ → Form
interactive_form word = interactive_verdict_form (interactive_verdict_of word)

abbrev pub open_verdict_form : Option OpenVerdict → Form
open_verdict_form None = No_form
open_verdict_form (Some one) = Whole (line.Setting (setting.AnswerOpen one))

-- answer open, and one of these
abbrev pub open_form : List ℕ → Form
open_form word = open_verdict_form (open_verdict_of word)

abbrev pub data_verdict_form : Option DataVerdict → Form
data_verdict_form None = No_form
data_verdict_form (Some one) = Whole (line.Setting (setting.AnswerData one))

-- answer data, and one of these
abbrev pub data_answer_form : List ℕ → Form
data_answer_form word = data_verdict_form (data_verdict_of word)

abbrev pub request_verdict_form : Option RequestVerdict → Form
request_verdict_form None = No_form
request_verdict_form (Some one) = Whole (line.Setting (setting.AnswerRequest one))

-- answer request, and one of these
abbrev pub request_form : List ℕ → Form
request_form word = request_verdict_form (request_verdict_of word)

-- answer forward no; and answer forward yes, and a port
abbrev pub forward_no_form : List ℕ → Form
forward_no_form word =
    if bytes_eq word (codes "no") then Whole (line.Setting (setting.AnswerForward No)) else No_form

abbrev pub forward_yes_form : List ℕ → Form
forward_yes_form digits =
    Of_small (λ port. Whole (line.Setting (setting.AnswerForward (Yes port)))) digits

abbrev pub forward_answer_words : List ℕ → Option (List ℕ × List ℕ) → Form
forward_answer_words word None = forward_no_form word
forward_answer_words word (Some parts) =
    if bytes_eq parts.0 (codes "yes") then forward_yes_form parts.1 else No_form

abbrev pub forward_answer_form : List ℕ → Form
forward_answer_form rest = forward_answer_words rest (cut rest)

-- answer, a name and what is answered
abbrev pub answer_words : Option (List ℕ × List ℕ) → Form
answer_words None = No_form
answer_words (Some parts) =
    if bytes_eq parts.0 (codes "banner") then banner_form parts.1
    else if bytes_eq parts.0 (codes "interactive") then interactive_form parts.1
    else if bytes_eq parts.0 (codes "open") then open_form parts.1
    else if bytes_eq parts.0 (codes "data") then data_answer_form parts.1
    else if bytes_eq parts.0 (codes "request") then request_form parts.1
    else if bytes_eq parts.0 (codes "forward") then forward_answer_form parts.1
    else verdict_form parts.0 (verdict_of parts.1)

abbrev pub answer_form : List ℕ → Form
answer_form rest = answer_words (cut rest)

-- config window, and config packet: a number below 2^32
abbrev pub window_form : List ℕ → Form
window_form digits = Of_small (λ size. Whole (line.Setting (setting.Window size))) digits

abbrev pub packet_form : List ℕ → Form
packet_form digits = Of_small (λ size. Whole (line.Setting (setting.Packet size))) digits

-- config, another name and a number
abbrev pub number_form : (name digits : List ℕ) → Form
number_form name digits =
    if bytes_eq name (codes "attempts")
    then Of_number (λ count. line.Setting (setting.Attempts count)) digits
    else if bytes_eq name (codes "keepalive")
    then Of_number (λ count. line.Setting (setting.Keepalive count)) digits
    else if bytes_eq name (codes "rekey-write")
    then Of_number (λ bytes. line.Setting (setting.RekeyWrite bytes)) digits
    else if bytes_eq name (codes "rekey-read")
    then Of_number (λ bytes. line.Setting (setting.RekeyRead bytes)) digits
    else if bytes_eq name (codes "reject")
    then Of_number (λ time. line.Setting (setting.Reject time)) digits
    else if bytes_eq name (codes "reject-initial")
    then Of_number (λ time. line.Setting (setting.RejectInitial time)) digits
    else No_form

-- config, a name and a number
abbrev pub config_words : Option (List ℕ × List ℕ) → Form
config_words None = No_form
config_words (Some parts) =
    if bytes_eq parts.0 (codes "window") then window_form parts.1
    else if bytes_eq parts.0 (codes "packet") then packet_form parts.1
    else number_form parts.0 parts.1

abbrev pub config_form : List ℕ → Form
config_form rest = config_words (cut rest)

-- sign, a key, an algorithm, a message and a signature
abbrev pub sign_message : (key algorithm : List ℕ) → Option (List ℕ × List ℕ) → Form
sign_message key algorithm None = No_form
sign_message key algorithm (Some parts) = Of_signature key algorithm parts.0 parts.1

abbrev pub sign_algorithm : (key : List ℕ) → Option (List ℕ × List ℕ) → Form
sign_algorithm key None = No_form
sign_algorithm key (Some parts) = sign_message key parts.0 (cut parts.1)

abbrev pub sign_words : Option (List ℕ × List ℕ) → Form
sign_words None = No_form
sign_words (Some parts) = sign_algorithm parts.0 (cut parts.1)

abbrev pub sign_form : List ℕ → Form
sign_form rest = sign_words (cut rest)

abbrev pub commands : Command → Line
commands one = line.Input (input.Command one)

abbrev pub replies : OpenAnswer → Line
replies answer = line.Input (input.Reply answer)

-- data, a channel and bytes
abbrev pub data_words : Option (List ℕ × List ℕ) → Form
data_words None = No_form
data_words (Some parts) =
    Of_small (λ channel. Of_bytes (λ bytes. commands (command.Data (own channel) bytes)) parts.1)
    parts.0

abbrev pub data_form : List ℕ → Form
data_form rest = data_words (cut rest)

-- ext, a channel, a data type code and bytes
abbrev pub ext_data : (number : List ℕ) → Option (List ℕ × List ℕ) → Form
ext_data number None = No_form
ext_data number (Some parts) =
    Of_small (λ channel. Of_small (λ code. Of_bytes (λ bytes.
    commands (command.ExtendedData (own channel) code bytes)) parts.1) parts.0) number

abbrev pub ext_words : Option (List ℕ × List ℕ) → Form
ext_words None = No_form
ext_words (Some parts) = ext_data parts.0 (cut parts.1)

abbrev pub ext_form : List ℕ → Form
ext_form rest = ext_words (cut rest)

-- eof, and a channel; and close, and a channel
abbrev pub eof_form : List ℕ → Form
eof_form rest = Of_small (λ channel. Whole (commands (command.Eof (own channel)))) rest

abbrev pub close_form : List ℕ → Form
close_form rest = Of_small (λ channel. Whole (commands (command.Close (own channel)))) rest

-- success, and a channel; and failure, and a channel
abbrev pub success_form : List ℕ → Form
success_form rest =
    Of_small (λ channel. Whole (commands (command.ChannelSuccess (own channel)))) rest

abbrev pub failure_form : List ℕ → Form
failure_form rest =
    Of_small (λ channel. Whole (commands (command.ChannelFailure (own channel)))) rest

-- status, a channel and the exit status of its program
abbrev pub status_words : Option (List ℕ × List ℕ) → Form
status_words None = No_form
status_words (Some parts) =
    Of_small (λ channel. Of_small (λ status.
    Whole (commands (command.ExitStatus (own channel) status))) parts.1) parts.0

abbrev pub status_form : List ℕ → Form
status_form rest = status_words (cut rest)

-- open, and the type of the channel
abbrev pub own_open_form : List ℕ → Form
own_open_form type =
    if bytes_eq type (codes "session") then Whole (commands command.OpenSession) else No_form

-- forward, an address, a port and the slot of the reply
abbrev pub forward_port : (address : List ℕ) → Option (List ℕ × List ℕ) → Form
forward_port address None = No_form
forward_port address (Some parts) =
    Of_small (λ port. Of_text (λ text. Of_number (λ slot.
    commands (command.TcpipForward text port (Some slot))) parts.1) address) parts.0

abbrev pub forward_words : Option (List ℕ × List ℕ) → Form
forward_words None = No_form
forward_words (Some parts) = forward_port parts.0 (cut parts.1)

abbrev pub forward_form : List ℕ → Form
forward_form rest = forward_words (cut rest)

-- the reason to end a connection that has this code
abbrev pub disconnect_of : ℕ → Option Disconnect
disconnect_of code =
    if code == 1 then Some cause.HostNotAllowedToConnect
    else if code == 2 then Some cause.ProtocolError
    else if code == 3 then Some cause.KeyExchangeFailed
    else if code == 4 then Some cause.Reserved
    else if code == 5 then Some cause.MACError
    else if code == 6 then Some cause.CompressionError
    else if code == 7 then Some cause.ServiceNotAvailable
    else if code == 8 then Some cause.ProtocolVersionNotSupported
    else if code == 9 then Some cause.HostKeyNotVerifiable
    else if code == 10 then Some cause.ConnectionLost
    else if code == 11 then Some cause.ByApplication
    else if code == 12 then Some cause.TooManyConnections
    else if code == 13 then Some cause.AuthCancelledByUser
    else if code == 14 then Some cause.NoMoreAuthMethodsAvailable
    else if code == 15 then Some cause.IllegalUserName
    else None

-- disconnect, the code of a reason and a text, whose language is not said
abbrev pub disconnect_text : (digits : List ℕ) → Option Disconnect → Form
disconnect_text digits None = No_form
disconnect_text digits (Some why) =
    Of_text (λ text. Whole (commands (command.Disconnect why text []))) digits

abbrev pub disconnect_words : Option (List ℕ × List ℕ) → Form
disconnect_words None = No_form
disconnect_words (Some parts) =
    Of_small (λ code. disconnect_text parts.1 (disconnect_of code)) parts.0

abbrev pub disconnect_form : List ℕ → Form
disconnect_form rest = disconnect_words (cut rest)

-- accept, and a channel
abbrev pub accept_form : List ℕ → Form
accept_form rest = Of_small (λ channel. Whole (replies (accepting (own channel)))) rest

-- the reason that has this code
abbrev pub reason_of : ℕ → Option ChannelOpenFailure
reason_of code =
    if code == 1 then Some reason.AdministrativelyProhibited
    else if code == 2 then Some reason.ConnectFailed
    else if code == 3 then Some reason.UnknownChannelType
    else if code == 4 then Some reason.ResourceShortage
    else None

abbrev pub rejecting_form : ℕ → Option ChannelOpenFailure → Form
rejecting_form channel None = No_form
rejecting_form channel (Some why) = Whole (replies (rejecting (own channel) why))

-- reject, a channel and the code of a reason
abbrev pub reject_words : Option (List ℕ × List ℕ) → Form
reject_words None = No_form
reject_words (Some parts) =
    Of_small (λ channel. Of_small (λ code. rejecting_form channel (reason_of code)) parts.1) parts.0

abbrev pub reject_form : List ℕ → Form
reject_form rest = reject_words (cut rest)

-- the name of a command, and what follows it
abbrev pub command_form : List ℕ → List ℕ → Form
command_form word rest =
    if bytes_eq word (codes "data") then data_form rest
    else if bytes_eq word (codes "ext") then ext_form rest
    else if bytes_eq word (codes "eof") then eof_form rest
    else if bytes_eq word (codes "close") then close_form rest
    else if bytes_eq word (codes "success") then success_form rest
    else if bytes_eq word (codes "failure") then failure_form rest
    else if bytes_eq word (codes "status") then status_form rest
    else if bytes_eq word (codes "open") then own_open_form rest
    else if bytes_eq word (codes "forward") then forward_form rest
    else if bytes_eq word (codes "disconnect") then disconnect_form rest
    else No_form

-- banner, and a text
abbrev pub banner_text_form : List ℕ → Form
banner_text_form digits = Of_text (λ text. Whole (line.Setting (setting.Banner text))) digits

-- tick, and what it is time for
abbrev pub tick_form : List ℕ → Form
tick_form word =
    if bytes_eq word (codes "keepalive") then Whole (line.Input input.KeepaliveTick)
    else if bytes_eq word (codes "inactivity") then Whole (line.Input input.InactivityTick)
    else if bytes_eq word (codes "rekey") then Whole (line.Input input.RekeyTick)
    else No_form

-- a word, and what follows it
abbrev pub word_form : List ℕ → List ℕ → Form
word_form word rest =
    if bytes_eq word (codes "session") then Of_bytes (λ id. line.Setting (setting.Session id)) rest
    else if bytes_eq word (codes "inputs") then Of_number (λ n. line.Setting (setting.Inputs n))
    rest
    else if bytes_eq word (codes "banner") then banner_text_form rest
    else if bytes_eq word (codes "config") then config_form rest
    else if bytes_eq word (codes "answer") then answer_form rest
    else if bytes_eq word (codes "sign") then sign_form rest
    else if bytes_eq word (codes "at") then Of_number (λ moment. line.Input (input.At moment)) rest
    else if bytes_eq word (codes "recv") then Of_bytes (λ bytes. line.Input (input.Recv bytes)) rest
    else if bytes_eq word (codes "accept") then accept_form rest
    else if bytes_eq word (codes "reject") then reject_form rest
    else if bytes_eq word (codes "tick") then tick_form rest
    else command_form word rest

-- one word alone
abbrev pub lone_form : List ℕ → Form
lone_form word = if bytes_eq word (codes "end") then Whole (line.Input input.End) else No_form

abbrev pub words_form : List ℕ → Option (List ℕ × List ℕ) → Form
words_form text None = lone_form text
words_form text (Some parts) = word_form parts.0 parts.1

abbrev pub form_of : List ℕ → Form
form_of text = words_form text (cut text)

-- a line of this form says this; None says that it is bad
abbrev pub Fits : Form → Option Line → Type 0
Fits No_form said = said ≡ None
Fits (Whole says) said = said ≡ Some says
Fits (Of_number says digits) (Some said) = (n : ℕ) × IsNumber digits n × (said ≡ says n)
Fits (Of_number says digits) None = (n : ℕ) → IsNumber digits n → ⊥
Fits (Of_bytes says digits) (Some said) = (bytes : List ℕ) × IsHex digits bytes
    × (said ≡ says bytes)
Fits (Of_bytes says digits) None = (bytes : List ℕ) → IsHex digits bytes → ⊥
Fits (Of_text next digits) said =
    ((text : List ℕ) × IsTextHex digits text × Fits (next text) said)
    ⊎ (((text : List ℕ) → IsTextHex digits text → ⊥) × (said ≡ None))
Fits (Of_signature key algorithm message signature) (Some said) =
    (accepted : AcceptedSignature) × IsSignature key algorithm message signature accepted
    × (said ≡ line.Setting (setting.Sign accepted))
Fits (Of_signature key algorithm message signature) None =
    (accepted : AcceptedSignature) → IsSignature key algorithm message signature accepted → ⊥
Fits (Of_small next digits) said =
    ((n : ℕ) × IsSmall digits n × Fits (next n) said) ⊎ (((n : ℕ) → IsSmall digits n → ⊥)
    × (said ≡ None))

-- an empty line, or a comment, which begins with #
abbrev pub is_passed : List ℕ → Bool
is_passed [] = true
is_passed (byte ∷ more) = byte == 35

-- a line that is neither empty nor a comment says this; one that is no text in UTF-8 is bad
abbrev pub ReadsWords : Bool → List ℕ → Option Line → Type 0
ReadsWords true text said = said ≡ Some line.Passed
ReadsWords false text said = (IsUtf8 text × Fits (form_of text) said)
    ⊎ ((IsUtf8 text → ⊥) × (said ≡ None))

-- the line says this; None says that it is bad
abbrev pub Reads : List ℕ → Option Line → Type 0
Reads text said = ReadsWords (is_passed text) text said
