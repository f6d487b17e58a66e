-- What is owed to a handler, to an exchange and to a link: questions one after another, each going
-- on by its answer, notices between them, and what comes of them.
use Rattle.std.specs.Prelude.{◌≡◌, ℕ, List, [], ◌∷◌, ◌++◌, Bool, Option, Some, None, Ok, Err}
use Rattle.ssh_link.specs.declared.command.Command.{Command}
use Rattle.ssh_link.specs.declared.link.TraceEntry.{TraceEntry}
use Rattle.ssh_link.specs.declared.kex.KexCall.{KexCall}
use Rattle.ssh_link.specs.declared.kex.KexCall.TheVariants as kex
use Rattle.ssh_link.specs.declared.kex.KexStep.{KexStep}
use Rattle.ssh_auth.specs.declared.auth.Auth.{Auth}
use Rattle.ssh_auth.specs.declared.call.Call.{Call}
use Rattle.ssh_auth.specs.declared.call.Call.TheVariants.{AuthenticationBanner, TcpipForward}
use Rattle.ssh_auth.specs.declared.call.Call.TheVariants.{AdjustWindow, CommandDone}
use Rattle.ssh_auth.specs.declared.question.Question.{Question}
use Rattle.ssh_auth.specs.declared.question.Question.TheVariants as asked
use Rattle.ssh_auth.specs.Calls.{admission_call, lent_call, judged_call}
use Rattle.ssh_auth.specs.Was.{asked_of}

-- what a callback answered that says whether something is granted
pub record Judgement : Type 0 where
  pub granted : Bool
  -- what it asked of the session
  pub commands : List Command

-- what a callback answered that says whether connections to an address are forwarded
pub record Listening : Type 0 where
  pub granted : Bool
  -- the port that is listened at
  pub port : ℕ
  -- what it asked of the session
  pub commands : List Command

-- what is answered to a question where no error is: of most callbacks, the commands that they
-- recorded
abbrev pub Answer : Question → Type 0
Answer asked.Banner = Option (List ℕ)
Answer (asked.Admits admission) = Auth
Answer (asked.Lends lent) = List Command
Answer (asked.Judges judged) = Judgement
Answer (asked.Listens address port) = Listening
-- the window from now on; 0 leaves it as it is
Answer (asked.Adjusts channel current) = ℕ
Answer (asked.Done place outcome) = Unit {0}
Answer asked.Begins = List ℕ
Answer (asked.Steps payload) = KexStep

-- a call of the handler, a step of the exchange, or what the link was told
pub data Event (E F : Type 0) : Type 0 where
  Called : (call : Call E) → Event E F
  Stepped : (step : KexCall F) → Event E F
  Told : (entry : TraceEntry) → Event E F

-- an error of the handler, or of the exchange
pub data OutsideError (E F : Type 0) : Type 0 where
  Handler_error : (error : E) → OutsideError E F
  Exchange_error : (error : F) → OutsideError E F

-- the event in which this was asked, and so answered
abbrev pub answered : {E F : Type 0} (question : Question) → Answer question → Event E F
answered asked.Banner banner = Called (AuthenticationBanner (Ok banner))
answered (asked.Admits admission) auth = Called (admission_call admission (Ok auth))
answered (asked.Lends lent) commands = Called (lent_call lent (Ok tt) commands)
answered (asked.Judges judged) judgement =
    Called (judged_call judged (Ok judgement.granted) judgement.commands)
answered (asked.Listens address port) listening =
    Called (TcpipForward address port listening.port (Ok listening.granted) listening.commands)
answered (asked.Adjusts channel current) window = Called (AdjustWindow channel current (Ok window))
answered (asked.Done place outcome) done = Called (CommandDone place outcome (Ok done))
answered asked.Begins payload = Stepped (kex.Begun (Ok payload))
answered (asked.Steps payload) step = Stepped (kex.Stepped payload (Ok step))

abbrev pub Answered : {E F : Type 0} (question : Question) → Answer question → Event E F → Type 0
Answered question answer event = event ≡ answered question answer

-- the event in which this was asked, and answered by this error: the commands that were recorded
-- then, and the port, are of no account
abbrev pub Refused : {E F : Type 0} → Question → OutsideError E F → Event E F → Type 0
Refused asked.Banner (Handler_error e) event = event ≡ Called (AuthenticationBanner (Err e))
Refused (asked.Admits admission) (Handler_error e) event = event
    ≡ Called (admission_call admission (Err e))
Refused (asked.Lends lent) (Handler_error e) event = (commands : List Command)
    × (event ≡ Called (lent_call lent (Err e) commands))
Refused (asked.Judges judged) (Handler_error e) event = (commands : List Command)
    × (event ≡ Called (judged_call judged (Err e) commands))
Refused (asked.Listens address port) (Handler_error e) event =
    (port_after : ℕ) × (commands : List Command)
    × (event ≡ Called (TcpipForward address port port_after (Err e) commands))
Refused (asked.Adjusts channel current) (Handler_error e) event = event
    ≡ Called (AdjustWindow channel current (Err e))
Refused (asked.Done place outcome) (Handler_error e) event = event
    ≡ Called (CommandDone place outcome (Err e))
Refused asked.Begins (Exchange_error f) event = event ≡ Stepped (kex.Begun (Err f))
Refused (asked.Steps payload) (Exchange_error f) event = event
    ≡ Stepped (kex.Stepped payload (Err f))
Refused _ _ event = ⊥

-- what was asked in a step of the exchange
abbrev pub asked_in_step : {F : Type 0} → KexCall F → Question
asked_in_step (kex.Begun answer) = asked.Begins
asked_in_step (kex.Stepped payload answer) = asked.Steps payload

-- what was asked in an event: nothing, where the link was told something
abbrev pub asked_in : {E F : Type 0} → Event E F → Option Question
asked_in (Called call) = Some (asked_of call)
asked_in (Stepped step) = Some (asked_in_step step)
asked_in (Told entry) = None

pub data Plan (O : Type 0) : Type 0 where
  -- nothing more is asked, and this comes of it
  Finish : (outcome : O) → Plan O
  -- the handler or the exchange is asked this, and the answer says how to go on
  Ask : (question : Question) → (next : Answer question → Plan O) → Plan O
  -- the link is told this
  Tell : (entry : TraceEntry) → (next : Plan O) → Plan O

-- a plan, and then the one that its outcome leads to
abbrev pub after : {A B : Type 0} → Plan A → (A → Plan B) → Plan B
after (Finish outcome) later = later outcome
after (Ask question next) later = Ask question (λ answer. after (next answer) later)
after (Tell entry next) later = Tell entry (after next later)

-- the calls among these, the steps of the exchange, and what the link was told
abbrev pub calls_in : {E F : Type 0} → List (Event E F) → List (Call E)
calls_in [] = []
calls_in (Called call ∷ events) = call ∷ calls_in events
calls_in (_ ∷ events) = calls_in events

abbrev pub steps_in : {E F : Type 0} → List (Event E F) → List (KexCall F)
steps_in [] = []
steps_in (Stepped step ∷ events) = step ∷ steps_in events
steps_in (_ ∷ events) = steps_in events

abbrev pub told_in : {E F : Type 0} → List (Event E F) → List TraceEntry
told_in [] = []
told_in (Told entry ∷ events) = entry ∷ told_in events
told_in (_ ∷ events) = told_in events

-- after these events, in which nobody answered an error, the plan has come to this rest
abbrev pub Reaches : {E F O : Type 0} → Plan O → List (Event E F) → Plan O → Type 0
Reaches plan [] rest = plan ≡ rest
Reaches (Ask question next) (event ∷ events) rest = (answer : Answer question)
    × Answered question answer event × Reaches (next answer) events rest
Reaches (Tell entry next) (event ∷ events) rest = (event ≡ Told entry) × Reaches next events rest
Reaches (Finish outcome) (event ∷ events) rest = ⊥

-- these are all events of the plan, nobody answered an error, and this comes of them
abbrev pub Follows : {E F O : Type 0} → Plan O → List (Event E F) → O → Type 0
Follows plan events outcome = Reaches plan events (Finish outcome)

-- these are the first events of the plan, and nobody answered an error
abbrev pub Begins : {E F O : Type 0} → Plan O → List (Event E F) → Type 0
Begins {E} {F} {O} plan events = (rest : Plan O) × Reaches plan events rest

-- these are the first events of the plan, and the last of them alone is an answer that was an
-- error, this one
pub record Breaks {E F O : Type 0} (plan : Plan O) (events : List (Event E F))
    (error : OutsideError E F) : Type 0 where
  -- what was asked last, and what would have come of it
  pub question : Question
  pub next : Answer question → Plan O
  -- the events before it, and its own
  pub before : List (Event E F)
  pub last : Event E F
  pub is : events ≡ before ++ last ∷ []
  pub reaches : Reaches plan before (Ask question next)
  pub refused : Refused question error last
