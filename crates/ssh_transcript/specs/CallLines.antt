-- How the callbacks of a run are printed: a name and words, one line a callback.
use Rattle.std.specs.Prelude.{ℕ, List, [], ◌∷◌, ◌++◌, codes}
use Rattle.ssh_wire.specs.declared.channel_id.ChannelId.{ChannelId}
use Rattle.ssh_keys.specs.Algorithms.{algorithm_name}
use Rattle.ssh_keys.specs.Keys.{key_blob}
use Rattle.ssh_auth.specs.declared.call.Call.{Call}
use Rattle.ssh_auth.specs.declared.question.Admission.{Admission}
use Rattle.ssh_auth.specs.declared.question.Admission.TheVariants as by
use Rattle.ssh_auth.specs.declared.question.Judged.{Judged}
use Rattle.ssh_auth.specs.declared.question.Judged.TheVariants as whether
use Rattle.ssh_auth.specs.declared.question.Lent.{Lent}
use Rattle.ssh_auth.specs.declared.question.Lent.TheVariants.{Succeeded, Opens, Happened}
use Rattle.ssh_auth.specs.declared.question.OpenType.{OpenType}
use Rattle.ssh_auth.specs.declared.question.OpenType.TheVariants as type
use Rattle.ssh_auth.specs.declared.question.Question.{Question}
use Rattle.ssh_auth.specs.declared.question.Question.TheVariants as question
use Rattle.ssh_auth.specs.Was.{asked_of}
use Rattle.ssh_transcript.specs.Words.{Number, Hex, Name, Responses, Came, Named, named_text}
use Rattle.ssh_transcript.specs.Happenings.{happened_words}

-- the line of a callback
abbrev pub line_text : Named → List ℕ
line_text named = codes "call " ++ named_text named ++ codes "\n"

-- that of one that is about a channel
abbrev pub line_on : ChannelId → Named → List ℕ
line_on channel named = line_text (named.0, Number channel.0 ∷ named.1)

-- a user asks to be let in; a key is its blob and the name of the algorithm by which it signs, a
-- certificate its key id
abbrev pub admission_words : Admission → Named
admission_words (by.None user) = (codes "auth_none", Hex user ∷ [])
admission_words (by.Password user password) = (codes "auth_password", Hex user ∷ Hex password ∷ [])
admission_words (by.PublickeyOffered user key algorithm) = (
  codes "auth_publickey_offered",
  Hex user ∷ Hex (key_blob key)
      ∷ Name (algorithm_name algorithm) ∷ [],
)
admission_words (by.Publickey user key algorithm) =
    (codes "auth_publickey", Hex user ∷ Hex (key_blob key) ∷ Name (algorithm_name algorithm) ∷ [])
admission_words (by.OpensshCertificate user certificate) =
    (codes "auth_openssh_certificate", Hex user ∷ Hex certificate.key_id ∷ [])
admission_words (by.KeyboardInteractive user submethods response) =
    (codes "auth_keyboard_interactive", Hex user ∷ Hex submethods ∷ Responses response ∷ [])

-- the peer opens a channel
abbrev pub opened_words : OpenType → Named
opened_words type.Session = (codes "channel_open_session", [])
opened_words (type.X11 address port) = (codes "channel_open_x11", Hex address ∷ Number port ∷ [])
opened_words (type.DirectTcpip host port from from_port) =
    (codes "channel_open_direct_tcpip", Hex host ∷ Number port ∷ Hex from ∷ Number from_port ∷ [])
opened_words (type.ForwardedTcpip host port from from_port) = (
  codes "channel_open_forwarded_tcpip",
  Hex host ∷ Number port ∷ Hex from ∷ Number from_port
      ∷ [],
)
opened_words (type.DirectStreamlocal path) = (
  codes "channel_open_direct_streamlocal",
  Hex path
      ∷ [],
)

abbrev pub lent_line : Lent → List ℕ
lent_line Succeeded = line_text (codes "auth_succeeded", [])
lent_line (Opens channel opening) = line_on channel (opened_words opening)
lent_line (Happened channel happening) = line_on channel (happened_words happening)

abbrev pub judged_words : Judged → Named
judged_words (whether.AgentRequest channel) = (codes "agent_request", Number channel.0 ∷ [])
judged_words (whether.CancelTcpipForward address port) =
    (codes "cancel_tcpip_forward", Hex address ∷ Number port ∷ [])
judged_words (whether.StreamlocalForward path) = (codes "streamlocal_forward", Hex path ∷ [])
judged_words (whether.CancelStreamlocalForward path) =
    (codes "cancel_streamlocal_forward", Hex path ∷ [])

-- a callback and its arguments; no callback is made for an exchange
abbrev pub question_line : Question → List ℕ
question_line question.Banner = line_text (codes "authentication_banner", [])
question_line (question.Admits admission) = line_text (admission_words admission)
question_line (question.Lends lent) = lent_line lent
question_line (question.Judges judged) = line_text (judged_words judged)
-- the port before the call
question_line (question.Listens address port) =
    line_text (codes "tcpip_forward", Hex address ∷ Number port ∷ [])
question_line (question.Adjusts channel current) =
    line_text (codes "adjust_window", Number channel.0 ∷ Number current ∷ [])
question_line (question.Done place result) =
    line_text (codes "command_done", Number place ∷ Came result ∷ [])
question_line question.Begins = []
question_line (question.Steps payload) = []

-- a call prints without its answer
abbrev pub call_line : {E : Type 0} → Call E → List ℕ
call_line call = question_line (asked_of call)
