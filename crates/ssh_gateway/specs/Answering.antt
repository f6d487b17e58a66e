-- What a gateway answers to the callbacks of its session.
use Rattle.std.specs.Prelude.{ℕ, List, [], ◌∷◌, ◌++◌, filter, flat_map, not, false, Option}
use Rattle.std.specs.Prelude.{Some, None, Ok}
use Rattle.ssh_wire.specs.declared.channel_id.ChannelId.{ChannelId}
use Rattle.ssh_wire.specs.declared.open_failure.ChannelOpenFailure.TheVariants.{
  AdministrativelyProhibited,
}
use Rattle.ssh_link.specs.declared.command.Command.{Command}
use Rattle.ssh_link.specs.declared.command.Command.TheVariants as command
use Rattle.ssh_link.specs.declared.open_answer.OpenAnswer.{OpenAnswer}
use Rattle.ssh_link.specs.declared.outcome.CommandOutcome.TheVariants.{Accepted}
use Rattle.ssh_auth.specs.declared.call.Call.{Call}
use Rattle.ssh_auth.specs.declared.call.Call.TheVariants as call
use Rattle.ssh_auth.specs.declared.question.Happening.{Happening}
use Rattle.ssh_auth.specs.declared.question.Happening.TheVariants as what
use Rattle.ssh_auth.specs.declared.question.Lent.{Lent}
use Rattle.ssh_auth.specs.declared.question.Lent.TheVariants.{Succeeded, Opens, Happened}
use Rattle.ssh_auth.specs.declared.question.OpenType.{OpenType}
use Rattle.ssh_auth.specs.declared.question.OpenType.TheVariants as type
use Rattle.ssh_auth.specs.declared.question.Question.{Question}
use Rattle.ssh_auth.specs.declared.question.Question.TheVariants as asked
use Rattle.ssh_auth.specs.Calls.{lent_call, judged_call}
use Rattle.ssh_auth.specs.Was.{asked_of}
use Rattle.ssh_handler.specs.declared.recorded.RecordError.{RecordError}
use Rattle.ssh_handler.specs.OwnCalls.{is_own}
use Rattle.ssh_handler.specs.Recording.{passed_on}

-- ---- the rule

-- the open is refused as administratively prohibited (RFC 4254 section 5.1)
abbrev pub refusal : ChannelId → OpenAnswer
refusal channel =
    record { channel = channel; rejection = Some AdministrativelyProhibited; texts = None }

-- an open of a channel to a host is answered later; any other is refused at once
abbrev pub opened : ChannelId → OpenType → List Command
opened channel (type.DirectTcpip host port from from_port) = []
opened channel _ = command.Answer (refusal channel) ∷ []

-- each request on a channel fails (section 5.4), and nothing else that happens there is answered
abbrev pub replied : ChannelId → Happening → List Command
replied channel (what.Confirmed packet window) = []
replied channel (what.Data bytes) = []
replied channel (what.ExtendedData code bytes) = []
replied channel what.Eof = []
replied channel what.Close = []
replied channel (what.WindowAdjusted new_size) = []
replied channel _ = command.ChannelFailure channel ∷ []

-- the commands that a callback records
abbrev pub records : Lent → List Command
records Succeeded = []
records (Opens channel type) = opened channel type
records (Happened channel happening) = replied channel happening

-- a callback is asked this, and answers so: nothing is granted, and a window stays as large as it
-- is. Who is let in is for the handler of authentication to say
abbrev pub answered : {E : Type 0} → Question → List (Call E)
answered (asked.Lends lent) = lent_call lent (Ok tt) (records lent) ∷ []
answered (asked.Judges judged) = judged_call judged (Ok false) [] ∷ []
answered (asked.Listens address port) = call.TcpipForward address port port (Ok false) [] ∷ []
answered (asked.Adjusts channel current) = call.AdjustWindow channel current (Ok current) ∷ []
answered (asked.Done place outcome) = call.CommandDone place outcome (Ok tt) ∷ []
answered _ = []

-- ---- what the gateway's handler tells

-- by which handler of authentication it goes, as a call
abbrev pub named : {E : Type 0} → (name : ℕ) → Call E
named name = call.CommandDone name Accepted (Ok tt)

-- a call of authentication with its answer as it is passed on; in the place of any other call, one
-- that is none
abbrev pub lifted : {E : Type 0} → Call E → Call (RecordError E)
lifted (call.AuthenticationBanner answer) = call.AuthenticationBanner (passed_on answer)
lifted (call.AuthNone user answer) = call.AuthNone user (passed_on answer)
lifted (call.AuthPassword user password answer) =
    call.AuthPassword user password (passed_on answer)
lifted (call.AuthPublickeyOffered user key algorithm answer) =
    call.AuthPublickeyOffered user key algorithm (passed_on answer)
lifted (call.AuthPublickey user key algorithm answer) =
    call.AuthPublickey user key algorithm (passed_on answer)
lifted (call.AuthOpensshCertificate user certificate answer) =
    call.AuthOpensshCertificate user certificate (passed_on answer)
lifted (call.AuthKeyboardInteractive user submethods response answer) =
    call.AuthKeyboardInteractive user submethods response (passed_on answer)
lifted _ = named 0

-- the calls of authentication among these (RFC 4252)
abbrev pub of_authentication : {E : Type 0} → List (Call E) → List (Call E)
of_authentication calls = filter (λ one. not (is_own (asked_of one))) calls

-- .. as they are passed on
abbrev pub passed : {E : Type 0} → List (Call E) → List (Call (RecordError E))
passed calls = flat_map (λ one. of_authentication (lifted one ∷ [])) calls

-- whose calls these are, what the handler of authentication told, and what else was asked in this
-- input with its answers; nothing where one of the two is told no longer
abbrev pub told_of : {E : Type 0} → (name : ℕ) → Option (List (Call E)) → Option (List Question)
    → Option (List (Call (RecordError E)))
told_of name None asked = None
told_of name (Some calls) None = None
told_of name (Some calls) (Some asked) =
    Some (named name ∷ (passed calls ++ flat_map answered asked))
