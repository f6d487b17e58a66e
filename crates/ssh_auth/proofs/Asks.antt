-- How a request is served: a call, and what its answer goes on to.
use Rattle.std.proofs.Common.{◌≡◌, ◌≢◌, List, [], ◌∷◌, ◌++◌, ℕ, Bool, Option, Result, Ok, Err}
use Rattle.std.proofs.Common.{IsErrAnd, true, false, refl, sym, ◌∙◌, ap, inl, inr, subst}
use Rattle.std.specs.Prelude.{bytes_eq, codes}
use Rattle.std.proofs.lemmas.Slice.Eq.{bytes_eq-Decides}
use Rattle.ssh_wire.specs.declared.error.WireError.{WireError}
use Rattle.ssh_wire.specs.declared.error.WireError.TheVariants as wire
use Rattle.ssh_wire.specs.Field.{SpellsAll}
use Rattle.ssh_link.specs.Told.{Adds, ToldBy}
use Rattle.ssh_link.proofs.Tellings.{adds_both, adds_nil, adds_none, adds_weak, adds_then}
use Rattle.ssh_auth.specs.declared.call.Call.{Call}
use Rattle.ssh_auth.specs.declared.auth_request.AuthRequest.{AuthRequest}
use Rattle.ssh_auth.specs.declared.auth_step.AuthStep.{AuthStep}
use Rattle.ssh_auth.specs.declared.error.AuthError.{AuthError}
use Rattle.ssh_auth.specs.declared.error.AuthError.TheVariants as error
use Rattle.ssh_auth.specs.declared.question.Question.{Question}
use Rattle.ssh_auth.specs.Failure.{auth_error_of}
use Rattle.ssh_auth.specs.Plan.{Plan, Finish, Ask, Answer, Answered, Refused, Handler_error, Called}
use Rattle.ssh_auth.specs.Request.{bound_to, begun}
use Rattle.ssh_auth.specs.Publickey.{Circumstances}
use Rattle.ssh_auth.specs.Requested.{head_fields, Method, Other_method, Unfit_method, Requested}
use Rattle.ssh_auth.specs.Requested.{Request, Unread, Named, Is_none, Is_password, Is_publickey}
use Rattle.ssh_auth.specs.Requested.{Is_interactive, Is_other, named_by, SaysMethod, SaysRequest}
use Rattle.ssh_auth.specs.Verdict.{AuthOutcome, Replies, Fails, Encoding, refused, verdict}
use Rattle.ssh_auth.specs.Serve.{may_stop, calls_alone, Concludes, CarriesOut, CarriesOutMethod}
use Rattle.ssh_auth.proofs.Plans.{breaks_first, breaks_more}

-- ---- a call, and then the rest

-- the events after a first call
answers_then : {E : Type 0} (question : Question) (next : Answer question → Plan AuthOutcome)
    (answer : Answer question) (call : Call E) (calls : List (Call E))
    (auth : AuthRequest) (result : Result AuthStep (AuthError E)) → Answered {F = ⊥} question answer
    (Called call) → Concludes (next answer) (calls_alone calls) auth result →
    Concludes (Ask question next) (calls_alone (call ∷ calls)) auth result
answers_then question next answer call calls auth (Ok step) a h = (answer, a, h)
answers_then question next answer call calls auth (Err error.NoMemory) a h = (h.0, (answer, a, h.1))
answers_then question next answer call calls auth (Err (error.Encoding why)) a h = (answer, a, h)
answers_then question next answer call calls auth (Err error.Inconsistent) a h = (answer, a, h)
answers_then question next answer call calls auth (Err (error.Key why)) a h =
    (h.0, (answer, a, h.1))
answers_then question next answer call calls auth (Err (error.Handler e)) a h = breaks_more question
    next answer (Called call) (calls_alone calls) (Handler_error e) a h
answers_then question next answer call calls auth (Err error.UnsupportedAuthMethod) a h =
    (answer, a, h)

-- what was told, and then what was told after it
told_then : {A : Type 0} (stops : Bool) (a b c : Option (List A)) (xs ys : List A) → Adds a b xs
    → ToldBy stops b c ys → ToldBy stops a c (xs ++ ys)
told_then true a b c xs ys h k = adds_then a b c xs ys (adds_weak a b xs h) k
told_then false a b c xs ys h k = adds_both a b c xs ys h k

-- the handler was asked, and what its answer goes on to was served
pub asked : {E : Type 0} (question : Question) (next : Answer question → Plan AuthOutcome)
    (answer : Answer question) (call : Call E)
    (a b c : Option (List (Call E))) (auth : AuthRequest) (result : Result AuthStep (AuthError E)) →
    Answered {F = ⊥} question answer (Called call) → Adds a b (call ∷ []) → CarriesOut (next answer)
    b c auth result → CarriesOut (Ask question next) a c auth result
asked question next answer call a b c auth result is h k = (
  call ∷ k.0,
  told_then (may_stop result) a b c (call ∷ []) k.0 h k.1,
  answers_then question next answer call k.0 auth result is k.2,
)

told_nothing : {A : Type 0} (stops : Bool) (told : Option (List A)) → ToldBy stops told told []
told_nothing true told = adds_none told
told_nothing false told = adds_nil told

-- the handler was asked, and this came of its answer
pub asked_once : {E : Type 0} (question : Question) (next : Answer question → AuthOutcome)
    (answer : Answer question) (call : Call E)
    (a b : Option (List (Call E))) (auth : AuthRequest) (result : Result AuthStep (AuthError E)) →
    Answered {F = ⊥} question answer (Called call) → Adds a b (call ∷ [])
    → Concludes (Finish (next answer)) [] auth result →
    CarriesOut (Ask question (λ answer. Finish (next answer))) a b auth result
asked_once question next answer call a b auth result is h k =
    asked question (λ answer. Finish (next answer)) answer call a b b auth result is h
    ([], told_nothing (may_stop result) b, k)

-- the handler was asked, and answered this error
pub asked_in_vain : {E : Type 0} (question : Question) (next : Answer question → Plan AuthOutcome)
    (call : Call E) (a b : Option (List (Call E))) (auth : AuthRequest) (e : E) →
    Refused {F = ⊥} question (Handler_error e) (Called call) → ToldBy true a b (call ∷ [])
    → CarriesOut (Ask question next) a b auth (Err (error.Handler e))
asked_in_vain question next call a b auth e refused h =
    (call ∷ [], h, breaks_first question next (Called call) (Handler_error e) refused)

-- ---- no call, or none after it

-- nothing more is asked, and this comes of it
pub finished : {E : Type 0} (outcome : AuthOutcome) (told : Option (List (Call E)))
    (auth : AuthRequest) (step : AuthStep) →
    outcome ≡ Replies step.reply step.verdict auth → CarriesOut (Finish outcome) told told auth
    (Ok step)
finished outcome told auth step is = ([], adds_nil told, ap Finish is)

-- memory was wanting before any call
pub starved : {E : Type 0} (plan : Plan AuthOutcome) (told : Option (List (Call E)))
    (auth : AuthRequest) (why : WireError) (result : Result AuthStep (AuthError E)) →
    IsErrAnd result (λ e. e ≡ auth_error_of why) → why ≡ wire.NoMemory → CarriesOut plan told told
    auth result
starved plan told auth why (Ok step) is none = absurd is
starved {E} plan told auth why (Err e) is none =
    let memory : e ≡ error.NoMemory = is ∙ ap (λ w. auth_error_of {E = E} w) none in
    subst (λ x. CarriesOut plan told told auth (Err x)) (sym memory) (
      [],
      adds_nil told,
      (plan, refl),
    )

-- memory was wanting after a call
pub starved_after : {E : Type 0} (question : Question) (next : Answer question → Plan AuthOutcome)
    (answer : Answer question) (call : Call E)
    (a b : Option (List (Call E))) (auth : AuthRequest) (why : WireError)
    (result : Result AuthStep (AuthError E)) →
    IsErrAnd result (λ e. e ≡ auth_error_of why) → why ≡ wire.NoMemory → Answered {F = ⊥} question
    answer (Called call) → Adds a b (call ∷ []) →
    CarriesOut (Ask question next) a b auth result
starved_after question next answer call a b auth why result is none how h =
    asked question next answer call a b b auth result how h (starved (next answer) b auth why result
    is none)

-- fields that do not fit fail a request, with no call
pub unfit : {E : Type 0} (why : WireError) (told : Option (List (Call E))) (auth : AuthRequest)
    (result : Result AuthStep (AuthError E)) →
    IsErrAnd result (λ e. e ≡ auth_error_of why) → auth_error_of {E = E} why ≡ error.Encoding why
    → CarriesOut (Finish (Fails (Encoding why))) told told auth result
unfit why told auth (Ok step) is fits = absurd is
unfit why told auth (Err e) is fits = subst (λ x. CarriesOut (Finish (Fails (Encoding why))) told
    told auth (Err x)) (sym (is ∙ fits)) ([], adds_nil told, refl)

-- the same of the fields of a method
pub unfit_method : {E : Type 0} (says : Method → Type 0) (auth : AuthRequest) (user : List ℕ)
    (told : Option (List (Call E))) (auth' : AuthRequest) (why : WireError)
    (result : Result AuthStep (AuthError E)) → IsErrAnd result (λ e. e ≡ auth_error_of why)
    → auth_error_of {E = E} why ≡ error.Encoding why → says (Unfit_method why) →
    CarriesOutMethod says auth user told told auth' result
unfit_method says auth user told auth' why result is fits h = inl (
  Unfit_method why,
  h,
  unfit why told auth' result is fits,
)

-- a name is the one that it is compared with, or another
pub same_text : (a b : List ℕ) → bytes_eq a b ≡ true → a ≡ b
same_text a b h = (bytes_eq-Decides a b).0 h

pub other_text : (a b : List ℕ) → bytes_eq a b ≡ false → a ≢ b
other_text a b h = λ e. let t : bytes_eq a b ≡ true = (bytes_eq-Decides a b).1 e in cc

-- the head of a request for the service ssh-connection
pub in_connection : (fields user service name rest : List ℕ) → service ≡ codes "ssh-connection"
    → SpellsAll head_fields (user, (service, (name, tt))) fields rest →
    SpellsAll head_fields (user, (codes "ssh-connection", (name, tt))) fields rest
in_connection fields user service name rest is h =
    subst (λ s. SpellsAll head_fields (user, (s, (name, tt))) fields rest) is h

-- a request that was served once its principal was bound
begun_as : {E : Type 0} (says : Method → Type 0) (auth bound : AuthRequest)
    (user service : List ℕ) (a b : Option (List (Call E))) (auth' : AuthRequest)
    (result : Result AuthStep (AuthError E)) →
    service ≡ codes "ssh-connection" → bound ≡ bound_to auth user service →
    CarriesOutMethod says (record bound { partial_success = false }) user a b auth' result →
    CarriesOutMethod says (begun auth user (codes "ssh-connection")) user a b auth' result
begun_as says auth bound user service a b auth' result is same h =
    subst (λ s. CarriesOutMethod says (begun auth user s) user a b auth' result) is
    (subst (λ x. CarriesOutMethod says (record x { partial_success = false }) user a b auth' result)
    same h)

-- a request is served as it says, or memory was wanting to read it
as_it_says : {E : Type 0} (given : Circumstances) (fields user name rest : List ℕ)
    (auth : AuthRequest) (a b : Option (List (Call E))) (auth' : AuthRequest)
    (result : Result AuthStep (AuthError E)) →
    SpellsAll head_fields (user, (codes "ssh-connection", (name, tt))) fields rest →
    CarriesOutMethod (SaysMethod given fields (named_by name) rest)
    (begun auth user (codes "ssh-connection")) user a b auth' result →
    (said : Requested) × SaysRequest given fields said × CarriesOut (verdict auth said) a b auth'
    result
as_it_says given fields user name rest auth a b auth' result spelled (inl h) =
    (Request user h.0, (name, rest, spelled, h.1), h.2)
as_it_says given fields user name rest auth a b auth' result spelled (inr h) = (Unread, tt, h)

-- ---- the names of methods

-- a method of this name
of_named : {E : Type 0} (given : Circumstances) (all fields : List ℕ) (named other : Named)
    (auth : AuthRequest) (user : List ℕ) (a b : Option (List (Call E))) (auth' : AuthRequest)
    (result : Result AuthStep (AuthError E)) → other ≡ named →
    CarriesOutMethod (SaysMethod given all named fields) auth user a b auth' result →
    CarriesOutMethod (SaysMethod given all other fields) auth user a b auth' result
of_named given all fields named other auth user a b auth' result is h =
    subst (λ n. CarriesOutMethod (SaysMethod given all n fields) auth user a b auth' result) (sym is)
    h

-- a request for ssh-connection, once its principal is bound, is served as the fields of its method
-- say it, or memory was wanting to read them
pub served_as : {E : Type 0} (given : Circumstances) (fields user service name rest : List ℕ)
    (named : Named) (auth bound : AuthRequest) (a b : Option (List (Call E))) (auth' : AuthRequest)
    (result : Result AuthStep (AuthError E)) → named_by name ≡ named
    → bytes_eq service (codes "ssh-connection") ≡ true
    → SpellsAll head_fields (user, (service, (name, tt))) fields rest
    → bound ≡ bound_to auth user service →
    CarriesOutMethod (SaysMethod given fields named rest) (record bound { partial_success = false })
    user a b auth' result →
    (said : Requested) × SaysRequest given fields said × CarriesOut (verdict auth said) a b auth'
    result
served_as given fields user service name rest named auth bound a b auth' result is connection
    spelled same h =
    let begins = record bound { partial_success = false } in
    let service_is = same_text service (codes "ssh-connection") connection in
    as_it_says given fields user name rest auth a b auth' result
    (in_connection fields user service name rest service_is spelled)
    (begun_as (SaysMethod given fields (named_by name) rest) auth bound user service a b auth' result
    service_is same
    (of_named given fields rest named (named_by name) begins user a b auth' result is h))

pub named_none : (name : List ℕ) → bytes_eq name (codes "none") ≡ true → named_by name ≡ Is_none
named_none name none = rw none refl

pub named_password : (name : List ℕ) → bytes_eq name (codes "none") ≡ false
    → bytes_eq name (codes "password") ≡ true → named_by name ≡ Is_password
named_password name none password = rw (none, password) refl

pub named_publickey : (name : List ℕ) → bytes_eq name (codes "none") ≡ false
    → bytes_eq name (codes "password") ≡ false → bytes_eq name (codes "publickey") ≡ true →
    named_by name ≡ Is_publickey
named_publickey name none password publickey = rw (none, password, publickey) refl

pub named_interactive : (name : List ℕ) → bytes_eq name (codes "none") ≡ false
    → bytes_eq name (codes "password") ≡ false → bytes_eq name (codes "publickey") ≡ false →
    bytes_eq name (codes "keyboard-interactive") ≡ true → named_by name ≡ Is_interactive
named_interactive name none password publickey interactive =
    rw (none, password, publickey, interactive) refl

named_other : (name : List ℕ) → bytes_eq name (codes "none") ≡ false
    → bytes_eq name (codes "password") ≡ false → bytes_eq name (codes "publickey") ≡ false →
    bytes_eq name (codes "keyboard-interactive") ≡ false → named_by name ≡ Is_other
named_other name none password publickey interactive = rw (none, password, publickey, interactive)
    refl

-- a method that the server does not have
pub other_method : {E : Type 0} (given : Circumstances) (all name fields : List ℕ)
    (auth : AuthRequest) (user : List ℕ) (told : Option (List (Call E))) (auth' : AuthRequest)
    (step : AuthStep) →
    bytes_eq name (codes "none") ≡ false → bytes_eq name (codes "password") ≡ false
    → bytes_eq name (codes "publickey") ≡ false → bytes_eq name (codes "keyboard-interactive")
    ≡ false →
    refused auth ≡ Replies step.reply step.verdict auth'
    → CarriesOutMethod (SaysMethod given all (named_by name) fields) auth user told told auth'
    (Ok step)
other_method given all name fields auth user told auth' step none password publickey interactive is
    =
    subst (λ named. CarriesOutMethod (SaysMethod given all named fields) auth user told told auth'
    (Ok step)) (sym (named_other name none password publickey interactive))
    (inl (Other_method, refl, finished (refused auth) told auth' step is))
