-- What the handler of a script answers.
use Rattle.std.specs.Prelude.{◌≡◌, ℕ, ◌-◌, ◌==◌, List, [], ◌∷◌, ◌++◌, codes, map, drop, Bool, true}
use Rattle.std.specs.Prelude.{false, Option, Some}
use Rattle.std.specs.Prelude.{None, Result, Ok, Err, if◌then◌else◌}
use Rattle.ssh_wire.specs.declared.channel_id.ChannelId.{ChannelId}
use Rattle.ssh_wire.specs.declared.open_failure.ChannelOpenFailure.TheVariants as failure
use Rattle.ssh_link.specs.declared.command.Command.{Command}
use Rattle.ssh_link.specs.declared.command.Command.TheVariants as command
use Rattle.ssh_link.specs.declared.open_answer.OpenAnswer.{OpenAnswer}
use Rattle.ssh_auth.specs.declared.auth.Auth.{Auth}
use Rattle.ssh_auth.specs.declared.auth.Auth.TheVariants.{Reject, Accept, UnsupportedMethod}
use Rattle.ssh_auth.specs.declared.auth.Auth.TheVariants.{Partial}
use Rattle.ssh_auth.specs.declared.call.Call.{Call}
use Rattle.ssh_auth.specs.declared.call.Call.TheVariants as call
use Rattle.ssh_auth.specs.declared.question.Admission.{Admission}
use Rattle.ssh_auth.specs.declared.question.Admission.TheVariants as by
use Rattle.ssh_auth.specs.declared.question.Happening.{Happening}
use Rattle.ssh_auth.specs.declared.question.Happening.TheVariants as what
use Rattle.ssh_auth.specs.declared.question.Judged.{Judged}
use Rattle.ssh_auth.specs.declared.question.Judged.TheVariants as whether
use Rattle.ssh_auth.specs.declared.question.Lent.{Lent}
use Rattle.ssh_auth.specs.declared.question.Lent.TheVariants.{Succeeded, Opens, Happened}
use Rattle.ssh_auth.specs.declared.question.Question.{Question}
use Rattle.ssh_auth.specs.declared.question.Question.TheVariants as question
use Rattle.ssh_auth.specs.Calls.{admission_call, lent_call, judged_call}
use Rattle.ssh_auth.specs.Was.{asked_of}
use Rattle.ssh_auth.specs.Prompts.{Prompt}
use Rattle.ssh_handler.specs.declared.recorded.RecordError.{RecordError}
use Rattle.ssh_handler.specs.declared.recorded.RecordError.TheVariants.{Inner}
use Rattle.ssh_players.specs.Queue.{rest}
use Rattle.ssh_scene.specs.Opens.{own, accepting, rejecting}
use Rattle.ssh_scene.specs.Queues.{Queues}
use Rattle.ssh_scene.specs.declared.answers.Answers.{Answers}
use Rattle.ssh_players.specs.declared.script_handler.Places.{Places}
use Rattle.ssh_scene.specs.declared.answers.InteractiveVerdict.{InteractiveVerdict}
use Rattle.ssh_scene.specs.declared.answers.InteractiveVerdict.TheVariants as interactive
use Rattle.ssh_scene.specs.declared.answers.OpenVerdict.{OpenVerdict}
use Rattle.ssh_scene.specs.declared.answers.OpenVerdict.TheVariants as open_verdict
use Rattle.ssh_scene.specs.declared.answers.DataVerdict.{DataVerdict}
use Rattle.ssh_scene.specs.declared.answers.DataVerdict.TheVariants.{Silent, Echo}
use Rattle.ssh_scene.specs.declared.answers.RequestVerdict.{RequestVerdict}
use Rattle.ssh_scene.specs.declared.answers.RequestVerdict.TheVariants as requested
use Rattle.ssh_scene.specs.declared.answers.ForwardVerdict.{ForwardVerdict}
use Rattle.ssh_scene.specs.declared.answers.ForwardVerdict.TheVariants.{Yes, No}
use Rattle.ssh_scene.specs.declared.answers.Standing.{Standing}
use Rattle.ssh_scene.specs.declared.answers.Verdict.{Verdict}
use Rattle.ssh_scene.specs.declared.answers.Verdict.TheVariants as verdict
use Rattle.ssh_players.specs.declared.script_handler.ScriptError.{ScriptError}

-- the error of a script's handler: the script's own, or want of memory
abbrev pub Failure : Type 0
Failure = RecordError ScriptError

abbrev pub fails : {T : Type 0} → Result T Failure
fails = Err (Inner (record {}))

-- those after as many as were given
abbrev pub queues_from : Answers → Places → ℕ → Queues
queues_from answers next banners = record {
  none = drop next.none answers.none.items;
  password = drop next.password answers.password.items;
  offered = drop next.offered answers.offered.items;
  publickey = drop next.publickey answers.publickey.items;
  certificate = drop next.certificate answers.certificate.items;
  interactive = drop next.interactive answers.interactive.items;
  banners = banners;
  banner = answers.banner;
  standing = answers.standing;
}

-- the next verdict, and this one where there is none
abbrev pub first_verdict : {V : Type 0} → V → List V → V
first_verdict default [] = default
first_verdict default (one ∷ more) = one

abbrev pub verdict_answer : Verdict → Result Auth Failure
verdict_answer verdict.Accept = Ok Accept
verdict_answer verdict.Reject = Ok (Reject None false)
verdict_answer verdict.Fail = fails

-- the one prompt of a script, without echo
abbrev pub code_prompt : Prompt
code_prompt = (codes "Code: ", false)

abbrev pub interactive_answer : InteractiveVerdict → Result Auth Failure
interactive_answer (interactive.Plain one) = verdict_answer one
interactive_answer interactive.Unsupported = Ok UnsupportedMethod
interactive_answer interactive.Ask = Ok (Partial [] [] (code_prompt ∷ []))

-- so many banner callbacks fail, and the later ones give this banner
abbrev pub banner_answer : ℕ → Option (List ℕ) → Result (Option (List ℕ)) Failure
banner_answer left banner = if left == 0 then Ok banner else fails

-- what a user who asks to be let in is answered by: without a verdict an offer of a key is
-- accepted, and all else is refused
abbrev pub verdict_on : Queues → Admission → InteractiveVerdict
verdict_on queues (by.None user) = interactive.Plain (first_verdict verdict.Reject queues.none)
verdict_on queues (by.Password user password) = interactive.Plain
    (first_verdict verdict.Reject queues.password)
verdict_on queues (by.PublickeyOffered user key algorithm) = interactive.Plain
    (first_verdict verdict.Accept queues.offered)
verdict_on queues (by.Publickey user key algorithm) = interactive.Plain
    (first_verdict verdict.Reject queues.publickey)
verdict_on queues (by.OpensshCertificate user certificate) = interactive.Plain
    (first_verdict verdict.Reject queues.certificate)
verdict_on queues (by.KeyboardInteractive user submethods response) =
    first_verdict (interactive.Plain verdict.Reject) queues.interactive

-- the verdicts that are left after it
abbrev pub after_admission : Queues → Admission → Queues
after_admission queues (by.None user) = record queues { none = rest queues.none }
after_admission queues (by.Password user password) =
    record queues { password = rest queues.password }
after_admission queues (by.PublickeyOffered user key algorithm) =
    record queues { offered = rest queues.offered }
after_admission queues (by.Publickey user key algorithm) =
    record queues { publickey = rest queues.publickey }
after_admission queues (by.OpensshCertificate user certificate) =
    record queues { certificate = rest queues.certificate }
after_admission queues (by.KeyboardInteractive user submethods response) =
    record queues { interactive = rest queues.interactive }

-- what a script answers to an open; none where a later line does
abbrev pub open_answer : OpenVerdict → ChannelId → Option OpenAnswer
open_answer open_verdict.Accept channel = Some (accepting channel)
open_answer open_verdict.Reject channel = Some (rejecting channel failure.AdministrativelyProhibited)
open_answer open_verdict.Hold channel = None

-- the command that records it
abbrev pub recorded : Option OpenAnswer → List Command
recorded None = []
recorded (Some answer) = command.Answer answer ∷ []

-- data are sent back, or not
abbrev pub echoes : DataVerdict → ChannelId → List ℕ → List Command
echoes Silent channel bytes = []
echoes Echo channel bytes = command.Data channel bytes ∷ []

-- a request on a channel is answered, or not
abbrev pub replies : RequestVerdict → ChannelId → List Command
replies requested.Success channel = command.ChannelSuccess channel ∷ []
replies requested.Failure channel = command.ChannelFailure channel ∷ []
replies requested.Silent channel = []

-- what a callback records of what happens on a channel: an answer to data and to each request, and
-- nothing of the rest
abbrev pub responses : Standing → ChannelId → Happening → List Command
responses standing channel (what.Data bytes) = echoes standing.incoming channel bytes
responses standing channel (what.Confirmed packet window) = []
responses standing channel (what.ExtendedData code bytes) = []
responses standing channel what.Eof = []
responses standing channel what.Close = []
responses standing channel (what.WindowAdjusted new_size) = []
responses standing channel _ = replies standing.requests channel

-- what a callback records that answers nothing: of a channel that the peer opens, the answer
abbrev pub records : Standing → Lent → List Command
records standing Succeeded = []
records standing (Opens channel type) = recorded (open_answer standing.opens channel)
records standing (Happened channel happening) = responses standing channel happening

-- whether a request on a channel is granted that is answered so
abbrev pub is_success : RequestVerdict → Bool
is_success requested.Success = true
is_success requested.Failure = false
is_success requested.Silent = false

-- whether a forward is granted that is answered so
abbrev pub is_granted : ForwardVerdict → Bool
is_granted (Yes port) = true
is_granted No = false

-- its port, where the peer asked for this one
abbrev pub port_of : ForwardVerdict → ℕ → ℕ
port_of (Yes port) asked = port
port_of No asked = asked

-- whether it is granted: the agent is reached where requests succeed, and the others are forwards
abbrev pub grants : Standing → Judged → Bool
grants standing (whether.AgentRequest channel) = is_success standing.requests
grants standing _ = is_granted standing.forwards

-- the call by which the peer asks for a forward, answered so
abbrev pub listened : (address : List ℕ) → (port : ℕ) → ForwardVerdict → Call Failure
listened address port how =
    call.TcpipForward address port (port_of how port) (Ok (is_granted how)) []

-- the call of a question, which is answered so; those of an exchange are put to no handler
abbrev pub answered : Queues → Question → List (Call Failure)
answered queues question.Banner = call.AuthenticationBanner
    (banner_answer queues.banners queues.banner) ∷ []
answered queues (question.Admits admission) = admission_call admission
    (interactive_answer (verdict_on queues admission)) ∷ []
answered queues (question.Lends lent) =
    lent_call lent (Ok tt) (records queues.standing lent) ∷ []
answered queues (question.Judges judged) =
    judged_call judged (Ok (grants queues.standing judged)) [] ∷ []
answered queues (question.Listens address port) =
    listened address port queues.standing.forwards ∷ []
-- a window stays as large as it is
answered queues (question.Adjusts channel current) = call.AdjustWindow channel current (Ok current)
    ∷ []
answered queues (question.Done place outcome) = call.CommandDone place outcome (Ok tt) ∷ []
answered queues question.Begins = []
answered queues (question.Steps payload) = []

-- the answers that are left after it
abbrev pub after : Queues → Question → Queues
after queues question.Banner = record queues { banners = queues.banners - 1 }
after queues (question.Admits admission) = after_admission queues admission
after queues _ = queues

-- the callbacks in order, each with its answer
abbrev pub played : Queues → List Question → List (Call Failure)
played queues [] = []
played queues (one ∷ more) = answered queues one ++ played (after queues one) more

abbrev pub left_after : Queues → List Question → Queues
left_after queues [] = queues
left_after queues (one ∷ more) = left_after (after queues one) more

-- each of these calls was answered by the script, in order
abbrev pub IsAnswered : Queues → List (Call Failure) → Type 0
IsAnswered queues [] = Unit {0}
IsAnswered queues (call ∷ calls) =
    (call ∷ [] ≡ answered queues (asked_of call)) × IsAnswered (after queues (asked_of call)) calls

-- the answers as a handler tells them before its calls: a call for each queue, which names its
-- verdicts by their numbers, one for the number of banners that fail, one for the banner, and one
-- each for opens, for data, for requests and for forwards
abbrev pub verdict_number : Verdict → ℕ
verdict_number verdict.Accept = 0
verdict_number verdict.Reject = 1
verdict_number verdict.Fail = 2

abbrev pub told_queue : List Verdict → Call Failure
told_queue queue = call.AuthNone (map verdict_number queue) (Ok Accept)

abbrev pub interactive_number : InteractiveVerdict → ℕ
interactive_number (interactive.Plain one) = verdict_number one
interactive_number interactive.Unsupported = 3
interactive_number interactive.Ask = 4

abbrev pub told_interactive : List InteractiveVerdict → Call Failure
told_interactive queue = call.AuthNone (map interactive_number queue) (Ok Accept)

abbrev pub told_banners : ℕ → Call Failure
told_banners count = call.AuthenticationBanner (Ok (Some (count ∷ [])))

abbrev pub told_banner : Option (List ℕ) → Call Failure
told_banner banner = call.AuthenticationBanner (Ok banner)

abbrev pub told_opens : OpenVerdict → Call Failure
told_opens opens = call.ChannelOpenSession (own 0) (Ok tt) (recorded (open_answer opens (own 0)))

abbrev pub told_data : DataVerdict → Call Failure
told_data how = lent_call (Happened (own 0) (what.Data [])) (Ok tt) (echoes how (own 0) [])

abbrev pub told_requests : RequestVerdict → Call Failure
told_requests how = lent_call (Happened (own 0) what.ShellRequest) (Ok tt) (replies how (own 0))

abbrev pub told_forwards : ForwardVerdict → Call Failure
told_forwards how = listened [] 0 how

abbrev pub heading : Queues → List (Call Failure)
heading queues =
    told_queue queues.none
    ∷ told_queue queues.password
    ∷ told_queue queues.offered
    ∷ told_queue queues.publickey
    ∷ told_queue queues.certificate
    ∷ told_interactive queues.interactive
    ∷ told_banners queues.banners
    ∷ told_banner queues.banner
    ∷ told_opens queues.standing.opens
    ∷ told_data queues.standing.incoming
    ∷ told_requests queues.standing.requests
    ∷ told_forwards queues.standing.forwards
    ∷ []

-- what a handler tells that has these answers and was asked so; one that lost a question tells
-- nothing
abbrev pub told_of : Bool → Queues → List Question → Option (List (Call Failure))
told_of true queues all = None
told_of false queues all = Some (heading queues ++ played queues all)
