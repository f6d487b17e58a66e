-- A call leads back to what was asked in it, and to its answer. A callback needs no line here.
use Rattle.std.proofs.Common.{◌≡◌, ℕ, List, Bool, Some, Result, Ok, Err, refl, sym, ◌∙◌, ap}
use Rattle.ssh_wire.specs.declared.channel_id.ChannelId.{ChannelId}
use Rattle.ssh_link.specs.declared.command.Command.{Command}
use Rattle.ssh_auth.specs.declared.auth.Auth.{Auth}
use Rattle.ssh_auth.specs.declared.question.Admission.{Admission}
use Rattle.ssh_auth.specs.declared.question.Admission.TheVariants as by
use Rattle.ssh_auth.specs.declared.question.OpenType.{OpenType}
use Rattle.ssh_auth.specs.declared.question.OpenType.TheVariants as type
use Rattle.ssh_auth.specs.declared.question.Happening.{Happening}
use Rattle.ssh_auth.specs.declared.question.Happening.TheVariants as what
use Rattle.ssh_auth.specs.declared.question.Lent.{Lent}
use Rattle.ssh_auth.specs.declared.question.Lent.TheVariants.{Succeeded, Opens, Happened}
use Rattle.ssh_auth.specs.declared.question.Judged.{Judged}
use Rattle.ssh_auth.specs.declared.question.Judged.TheVariants as whether
use Rattle.ssh_auth.specs.declared.question.Question.{Question}
use Rattle.ssh_auth.specs.declared.question.Question.TheVariants as asked
use Rattle.ssh_auth.specs.Calls.{admission_call, opened, happened, lent_call, judged_call}
use Rattle.ssh_auth.specs.Was.{Admitted_so, Lent_so, Judged_so, was, question_of}
use Rattle.ssh_auth.specs.Plan.{Answer, Answered, Refused, OutsideError, Handler_error}
use Rattle.ssh_auth.specs.Plan.{Exchange_error, Judgement, Listening, Event, answered, asked_in}

-- ---- each callback

pub admitted_back : (E : Type 0) (admission : Admission) (answer : Result Auth E)
    → was (admission_call admission answer) ≡ Admitted_so admission answer
admitted_back E (by.None user) answer = refl
admitted_back E admission answer = refl

opened_back : (E : Type 0) (channel : ChannelId) (t : OpenType) (answer : Result (Unit {0}) E)
    (commands : List Command) →
    was (opened channel t answer commands) ≡ Lent_so (Opens channel t) answer commands
opened_back E channel type.Session answer commands = refl
opened_back E channel t answer commands = refl

happened_back : (E : Type 0) (channel : ChannelId) (happening : Happening)
    (answer : Result (Unit {0}) E) (commands : List Command) →
    was (happened channel happening answer commands) ≡ Lent_so (Happened channel happening) answer
    commands
happened_back E channel (what.Confirmed packet window) answer commands = refl
happened_back E channel happening answer commands = refl

pub lent_back : (E : Type 0) (lent : Lent) (answer : Result (Unit {0}) E) (commands : List Command)
    → was (lent_call lent answer commands) ≡ Lent_so lent answer commands
lent_back E Succeeded answer commands = refl
lent_back E (Opens channel t) answer commands = opened_back E channel t answer commands
lent_back E (Happened channel happening) answer commands = happened_back E channel happening answer
    commands

pub judged_back : (E : Type 0) (judged : Judged) (answer : Result Bool E) (commands : List Command)
    → was (judged_call judged answer commands) ≡ Judged_so judged answer commands
judged_back E (whether.AgentRequest channel) answer commands = refl
judged_back E judged answer commands = refl

-- ---- each group

-- a question and its answer lead back to the question
pub asked_back : (E F : Type 0) (question : Question) (answer : Answer question)
    → asked_in (answered {E = E} {F = F} question answer) ≡ Some question
asked_back E F asked.Banner banner = refl
asked_back E F (asked.Admits admission) auth = ap (λ w. Some (question_of w))
    (admitted_back E admission (Ok auth))
asked_back E F (asked.Lends lent) commands = ap (λ w. Some (question_of w))
    (lent_back E lent (Ok tt) commands)
asked_back E F (asked.Judges judged) judgement = ap (λ w. Some (question_of w))
    (judged_back E judged (Ok judgement.granted) judgement.commands)
asked_back E F (asked.Listens address port) listening = refl
asked_back E F (asked.Adjusts channel current) window = refl
asked_back E F (asked.Done place outcome) done = refl
asked_back E F asked.Begins payload = refl
asked_back E F (asked.Steps payload) step = refl

-- an event says what was asked in it
pub asked_so : {E F : Type 0} (question : Question) (answer : Answer question) (event : Event E F)
    → Answered question answer event → asked_in event ≡ Some question
asked_so {E} {F} question answer event h = ap asked_in h ∙ asked_back E F question answer

pub refused_so : {E F : Type 0} (question : Question) (error : OutsideError E F) (event : Event E F)
    → Refused question error event → asked_in event ≡ Some question
refused_so {E} asked.Banner (Handler_error e) event h = ap asked_in h
refused_so {E} (asked.Admits admission) (Handler_error e) event h = ap asked_in h
    ∙ ap (λ w. Some (question_of w)) (admitted_back E admission (Err e))
refused_so {E} (asked.Lends lent) (Handler_error e) event h = ap asked_in h.1
    ∙ ap (λ w. Some (question_of w)) (lent_back E lent (Err e) h.0)
refused_so {E} (asked.Judges judged) (Handler_error e) event h = ap asked_in h.1
    ∙ ap (λ w. Some (question_of w)) (judged_back E judged (Err e) h.0)
refused_so {E} (asked.Listens address port) (Handler_error e) event h = ap asked_in h.2
refused_so {E} (asked.Adjusts channel current) (Handler_error e) event h = ap asked_in h
refused_so {E} (asked.Done place outcome) (Handler_error e) event h = ap asked_in h
refused_so {E} asked.Begins (Handler_error e) event h = absurd h
refused_so {E} (asked.Steps payload) (Handler_error e) event h = absurd h
refused_so {E} asked.Begins (Exchange_error f) event h = ap asked_in h
refused_so {E} (asked.Steps payload) (Exchange_error f) event h = ap asked_in h
refused_so {E} asked.Banner (Exchange_error f) event h = absurd h
refused_so {E} (asked.Admits admission) (Exchange_error f) event h = absurd h
refused_so {E} (asked.Lends lent) (Exchange_error f) event h = absurd h
refused_so {E} (asked.Judges judged) (Exchange_error f) event h = absurd h
refused_so {E} (asked.Listens address port) (Exchange_error f) event h = absurd h
refused_so {E} (asked.Adjusts channel current) (Exchange_error f) event h = absurd h
refused_so {E} (asked.Done place outcome) (Exchange_error f) event h = absurd h

-- one event answers one question
pub question_once : {E F : Type 0} (p q : Question) (a : Answer p) (b : Answer q)
    (event : Event E F) → Answered p a event → Answered q b event → p ≡ q
question_once p q a b event h k = let e : Some p ≡ Some q = sym (asked_so p a event h)
    ∙ asked_so q b event k in cc

-- what was answered to one question in equal events is equal
admitted_same : {E : Type 0} (admission : Admission) (a b : Auth) → admission_call {E = E} admission
    (Ok a) ≡ admission_call admission (Ok b) → a ≡ b
admitted_same {E} admission a b h = let back = sym (admitted_back E admission (Ok a)) ∙ ap was h
    ∙ admitted_back E admission (Ok b) in cc

lent_same : {E : Type 0} (lent : Lent) (a b : List Command) → lent_call {E = E} lent (Ok tt) a
    ≡ lent_call lent (Ok tt) b → a ≡ b
lent_same {E} lent a b h = let back = sym (lent_back E lent (Ok tt) a) ∙ ap was h
    ∙ lent_back E lent (Ok tt) b in cc

abbrev judgement : Bool → List Command → Judgement
judgement granted commands = record { granted = granted; commands = commands }

judged_same : {E : Type 0} (judged : Judged) (a b : Judgement) → judged_call {E = E} judged
    (Ok a.granted) a.commands ≡ judged_call judged (Ok b.granted) b.commands → a ≡ b
judged_same {E} judged a b h =
    let back = sym (judged_back E judged (Ok a.granted) a.commands) ∙ ap was h
    ∙ judged_back E judged (Ok b.granted) b.commands in
    let granted : a.granted ≡ b.granted = cc in
    let commands : a.commands ≡ b.commands = cc in
    ap (λ g. judgement g a.commands) granted ∙ ap (λ c. judgement b.granted c) commands

abbrev listening : Bool → ℕ → List Command → Listening
listening granted port commands = record { granted = granted; port = port; commands = commands }

listened_same : (a b : Listening) → a.granted ≡ b.granted → a.port ≡ b.port → a.commands
    ≡ b.commands → a ≡ b
listened_same a b granted port commands =
    ap (λ g. listening g a.port a.commands) granted ∙ ap (λ p. listening b.granted p a.commands)
    port ∙ ap (λ c. listening b.granted b.port c) commands

-- and so an event says what was answered
same_answer : {E F : Type 0} (question : Question) (a b : Answer question)
    → answered {E = E} {F = F} question a ≡ answered question b → a ≡ b
same_answer asked.Banner a b h = cc
same_answer {E} (asked.Admits admission) a b h =
    let is : admission_call {E = E} admission (Ok a) ≡ admission_call admission (Ok b) = cc in
    admitted_same admission a b is
same_answer {E} (asked.Lends lent) a b h =
    let is : lent_call {E = E} lent (Ok tt) a ≡ lent_call lent (Ok tt) b = cc in
    lent_same lent a b is
same_answer {E} (asked.Judges judged) a b h =
    let is : judged_call {E = E} judged (Ok a.granted) a.commands
    ≡ judged_call judged (Ok b.granted) b.commands = cc in
    judged_same judged a b is
same_answer (asked.Listens address port) a b h =
    let granted : a.granted ≡ b.granted = cc in
    let port_after : a.port ≡ b.port = cc in
    let commands : a.commands ≡ b.commands = cc in
    listened_same a b granted port_after commands
same_answer (asked.Adjusts channel current) a b h = cc
same_answer (asked.Done place outcome) a b h = refl
same_answer asked.Begins a b h = cc
same_answer (asked.Steps payload) a b h = cc

pub answered_once : {E F : Type 0} (question : Question) (a b : Answer question) (event : Event E F)
    → Answered question a event → Answered question b event → a ≡ b
answered_once {E} {F} question a b event h k = same_answer {E = E} {F = F} question a b (sym h ∙ k)
