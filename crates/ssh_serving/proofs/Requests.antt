-- Requests of authentication, and responses to prompts, from the verdict on them to their end.
use Rattle.std.specs.Prelude.{◌^◌}
use Rattle.std.proofs.Common.{◌≡◌, ◌<◌, ℕ, Bool, true, false, List, [], length, Result, Ok}
use Rattle.std.proofs.Common.{Err, refl, sym, ap, subst, arith}
use Rattle.ssh_link.specs.Faults.{Rose}
use Rattle.ssh_link.specs.Told.{Adds, ToldBy}
use Rattle.ssh_link.proofs.Counts.{counted_same}
use Rattle.ssh_link.proofs.Tellings.{adds_nil}
use Rattle.ssh_auth.specs.declared.auth_request.AuthRequest.{AuthRequest}
use Rattle.ssh_auth.specs.declared.auth_step.AuthStep.{AuthStep}
use Rattle.ssh_auth.specs.declared.call.Call.{Call}
use Rattle.ssh_auth.specs.declared.error.AuthError.{AuthError}
use Rattle.ssh_auth.specs.declared.error.AuthError.TheVariants as auth
use Rattle.ssh_auth.specs.Plan.{Plan, Finish, after, Handler_error, Follows, Reaches}
use Rattle.ssh_auth.specs.Publickey.{Acceptance}
use Rattle.ssh_auth.specs.Requested.{Requested as Asked, SaysRequest}
use Rattle.ssh_auth.specs.Response.{Responded, SaysResponses}
use Rattle.ssh_auth.specs.Serve.{Concludes, calls_alone}
use Rattle.ssh_auth.specs.Serve as served
use Rattle.ssh_auth.specs.Verdict.{AuthOutcome, Replies, verdict, response_verdict}
use Rattle.ssh_auth.specs.Verdict as reply
use Rattle.ssh_auth.proofs.Plans.{reaches_after, begins_after, breaks_after, calls_of_calls}
use Rattle.ssh_auth.proofs.Plans.{steps_of_calls, told_of_calls}
use Rattle.ssh_rules.specs.declared.error.RunError.{RunError}
use Rattle.ssh_serving.specs.declared.server.Server.{Server}
use Rattle.ssh_rules.specs.declared.state.EncryptedState.TheVariants.{WaitingAuthRequest}
use Rattle.ssh_rules.specs.declared.state.EncryptedState.TheVariants.{InitCompression}
use Rattle.ssh_rules.specs.Acts.{acts}
use Rattle.ssh_rules.specs.Failure.{error_of_auth}
use Rattle.ssh_rules.specs.Heard.{Heard, CallsAlone, AnswersRequest, AnswersResponse}
use Rattle.ssh_rules.specs.Outcome.{Outcome, Goes, Fails, Key}
use Rattle.ssh_rules.specs.Rows.{replied, reply_row, concluded, fault_of, where_waiting, request_row}
use Rattle.ssh_rules.specs.Rows.{response_row, user_of, lets_in, finishes}
use Rattle.ssh_rules.specs.Cause.{IsCaused, cause_of, may_stop, Hears}
use Rattle.ssh_serving.specs.Serve.{Refines, Serves, Does}
use Rattle.ssh_rules.specs.World.{World, circumstances, waits_for}
use Rattle.ssh_rules.proofs.Plans.CallsAlone.{calls_beside, reaches_beside, begins_beside}
use Rattle.ssh_rules.proofs.Plans.CallsAlone.{breaks_beside}
use Rattle.ssh_serving.proofs.Serving.{reached, completes}

-- the handler alone was asked
heard : {E F : Type 0} (stops : Bool) (a b : Heard E F) (calls : List (Call E))
    → CallsAlone stops a b
    calls →
    Hears stops a b (calls_beside calls)
heard {E} {F} stops a b calls h = record {
  called = subst (ToldBy stops a.calls b.calls) (sym (calls_of_calls F calls)) h.1;
  told = subst (Adds a.trace b.trace) (sym (told_of_calls F calls))
      (subst (λ t. Adds a.trace t []) (sym h.0.2) (adds_nil a.trace));
  later = let x = h.0.3 in omega (arith, x);
  counted = counted_same a.starved b.starved h.0.4;
  stepped = subst (Adds a.steps b.steps) (sym (steps_of_calls F calls))
      (subst (λ s. Adds a.steps s []) (sym h.0.1) (adds_nil a.steps));
  same = h.0.0;
}

-- there is a verdict, and the reply was finished
pub answered : {E F : Type 0} (w : World) (moment : ℕ) (requested : Bool) (plan : Plan AuthOutcome)
    (a b c : Heard E F)
    (calls : List (Call E)) (state : AuthRequest) (step : AuthStep) (session : Server)
    (result : Result (Unit {0}) (RunError E F)) →
    CallsAlone false a b calls → Follows plan (calls_alone calls)
    (Replies step.reply step.verdict state) →
    Does (replied (waits_for (WaitingAuthRequest state) w) moment requested step.reply step.verdict)
    (waits_for (WaitingAuthRequest state) w) b c session result →
    Serves (after plan (concluded w moment requested)) (λ (_ : Unit {0}) world. Finish (Goes world))
    a c session result
answered {E} {F} w moment requested plan a b c calls state step session result h f d =
    let v = waits_for (WaitingAuthRequest state) w in
    reached (after plan (concluded w moment requested)) (reply_row moment requested step.reply
    step.verdict v)
    (λ (_ : Unit {0}) world. Finish (Goes world)) a b c (calls_beside calls) session result
    (heard false a b calls h)
    (reaches_after plan (Finish (Replies step.reply step.verdict state))
    (concluded w moment requested) (calls_beside calls)
    (reaches_beside F plan (Finish (Replies step.reply step.verdict state)) calls f))
    (completes (replied v moment requested step.reply step.verdict) v b c session result d)

-- there is none
module _ {E F : Type 0} (w : World) (moment : ℕ) (requested : Bool) (plan : Plan AuthOutcome)
    (a b : Heard E F) (calls : List (Call E))
    (state : AuthRequest) where
  faulty : (fault : reply.Fault) → Follows plan (calls_alone {E = E} calls) (reply.Fails fault) →
      Reaches {E = E} {F = F} (after plan (concluded w moment requested)) (calls_beside calls)
      (Finish (Fails (fault_of fault)))
  faulty fault f =
      reaches_after plan (Finish (reply.Fails fault)) (concluded w moment requested)
      (calls_beside calls) (reaches_beside F plan (Finish (reply.Fails fault)) calls f)

  caused : (e : AuthError E) → Concludes plan (calls_alone {E = E} calls) state (Err e) →
      IsCaused {E = E} {F = F} (cause_of (error_of_auth e))
      (after plan (concluded w moment requested)) (Rose a.faults b.faults) (calls_beside calls)
  caused auth.NoMemory f = begins_after plan (concluded w moment requested) (calls_beside calls)
      (begins_beside F plan calls f)
  caused (auth.Encoding why) f = faulty (reply.Encoding why) f
  caused auth.Inconsistent f = faulty reply.Inconsistent f
  caused (auth.Key why) f =
      subst (λ k. Reaches {E = E} {F = F} (after plan (concluded w moment requested))
      (calls_beside calls) (Finish (Fails (Key k))))
      (sym f.0) (faulty reply.Key f.1)
  caused (auth.Handler e) f =
      breaks_after plan (concluded w moment requested) (calls_beside calls) (Handler_error e)
      (breaks_beside F plan calls e f)
  caused auth.UnsupportedAuthMethod f = faulty reply.Unsupported f

stops_same : {E : Type 0} (F : Type 0) (e : AuthError E) →
    served.may_stop {T = AuthStep} {E = E} (Err e) ≡ may_stop {T = Unit {0}} {E = E} {F = F}
    (Err (error_of_auth e))
stops_same F auth.NoMemory = refl
stops_same F (auth.Encoding why) = refl
stops_same F auth.Inconsistent = refl
stops_same F (auth.Key why) = refl
stops_same F (auth.Handler e) = refl
stops_same F auth.UnsupportedAuthMethod = refl

pub unanswered : {T E F : Type 0} (w : World) (moment : ℕ) (requested : Bool)
    (plan : Plan AuthOutcome) (a b : Heard E F)
    (next : T → World → Plan Outcome) (calls : List (Call E)) (state : AuthRequest)
    (e : AuthError E) (session : Server) →
    CallsAlone (served.may_stop {T = AuthStep} {E = E} (Err e)) a b calls →
    Concludes plan (calls_alone calls) state (Err e) →
    Serves {T = T} (after plan (concluded w moment requested)) next a b session
    (Err (error_of_auth e))
unanswered {T} {E} {F} w moment requested plan a b next calls state e session h f = (
  calls_beside calls,
  subst (λ stops. Hears stops a b (calls_beside calls)) (stops_same F e)
      (heard (served.may_stop {T = AuthStep} (Err e)) a b calls h),
  caused w moment requested plan a b calls state e f,
)

-- a session that let its user in, and that says whether a request was finished
pub let_in : (requested : Bool) (user : List ℕ) (session : Server)
    (fits : length session.session_id < 2 ^ 32) (w : World) → Refines session w
    → user ≡ user_of w.user.state →
    Refines (record session {
      common = record session.common { auth_user = user };
      state = InitCompression;
      requested = requested;
      session_id_fits = fits;
    }) (lets_in (finishes requested w))
let_in requested user session fits w r is = record {
  config = r.config;
  session_id = r.session_id;
  remote_sshid = r.remote_sshid;
  state = refl;
  requested = refl;
  name = is;
  table = r.table;
  opens = r.opens;
  no_more_sessions = r.no_more_sessions;
  wanted = r.wanted;
  outstanding = r.outstanding;
  keepalives = r.keepalives;
  disconnected = r.disconnected;
  keys = r.keys;
}

-- where requests are waited for
pub requested_row : (w : World) (moment : ℕ) (asked : Asked) (state : AuthRequest) → w.user.state
    ≡ WaitingAuthRequest state →
    request_row w moment asked ≡ after (verdict state asked) (concluded w moment true)
requested_row w moment asked state h =
    ap (λ s. where_waiting s (λ state. after (verdict state asked) (concluded w moment true))
    (acts [] w)) h

pub responded_row : (w : World) (moment : ℕ) (responded : Responded) (state : AuthRequest)
    → w.user.state ≡ WaitingAuthRequest state →
    response_row w moment responded ≡ after (response_verdict state responded)
    (concluded w moment w.user.requested)
responded_row w moment responded state h =
    ap (λ s. where_waiting s (λ state. after (response_verdict state responded)
    (concluded w moment w.user.requested)) (acts [] w)) h

-- the state of authentication changed
pub asked_again : (auth : AuthRequest) (session : Server) (fits : length session.session_id < 2 ^
    32) (w : World) →
    Refines session w →
    Refines (record session { state = WaitingAuthRequest auth; session_id_fits = fits })
    (waits_for (WaitingAuthRequest auth) w)
asked_again auth session fits w r = record {
  config = r.config;
  session_id = r.session_id;
  remote_sshid = r.remote_sshid;
  state = refl;
  requested = r.requested;
  name = r.name;
  table = r.table;
  opens = r.opens;
  no_more_sessions = r.no_more_sessions;
  wanted = r.wanted;
  outstanding = r.outstanding;
  keepalives = r.keepalives;
  disconnected = r.disconnected;
  keys = r.keys;
}

pub noted_as : (requested : Bool) (session : Server) (fits : length session.session_id < 2 ^ 32)
    (w : World) → Refines session w →
    Refines (record session { requested = requested; session_id_fits = fits })
    (record w { user = record w.user { requested = requested } })
noted_as requested session fits w r = record {
  config = r.config;
  session_id = r.session_id;
  remote_sshid = r.remote_sshid;
  state = r.state;
  requested = refl;
  name = r.name;
  table = r.table;
  opens = r.opens;
  no_more_sessions = r.no_more_sessions;
  wanted = r.wanted;
  outstanding = r.outstanding;
  keepalives = r.keepalives;
  disconnected = r.disconnected;
  keys = r.keys;
}

-- ---- a request, from the state that waits for it

module _ {E F : Type 0} (accepts : Acceptance) (w : World) (moment : ℕ) (fields session_id : List ℕ)
    (old new : AuthRequest)
    (waits : w.user.state ≡ WaitingAuthRequest old) (is : session_id ≡ w.settings.session_id)
    (a b : Heard E F) where
  says_so : (asked : Asked) → SaysRequest (record {
    accepts = accepts;
    session_id = session_id;
    moment = moment;
  }) fields asked →
      SaysRequest (circumstances accepts w.settings moment) fields asked
  says_so asked h = subst (λ id. SaysRequest (record {
    accepts = accepts;
    session_id = id;
    moment = moment;
  }) fields asked) is h

  -- it has a reply
  pub request_answered : (step : AuthStep) (c : Heard E F) (session : Server)
      (result : Result (Unit {0}) (RunError E F)) →
      AnswersRequest (record { accepts = accepts; session_id = session_id; moment = moment }) fields
      a b old new (Ok step) →
      Does (replied (waits_for (WaitingAuthRequest new) w) moment true step.reply step.verdict)
      (waits_for (WaitingAuthRequest new) w) b c session result →
      (asked : Asked) × SaysRequest (circumstances accepts w.settings moment) fields asked
      × Serves (request_row w moment asked) (λ (_ : Unit {0}) world. Finish (Goes world)) a c
      session result
  request_answered step c session result (asked, says, calls, alone, concludes) d = (
    asked,
    says_so asked says,
    subst (λ p. Serves p (λ (_ : Unit {0}) world. Finish (Goes world)) a c session result)
        (sym (requested_row w moment asked old waits))
        (answered w moment true (verdict old asked) a b c calls new step session result alone
        concludes d),
  )

  -- it has none
  pub request_unanswered : {T : Type 0} (next : T → World → Plan Outcome) (e : AuthError E)
      (session : Server) →
      AnswersRequest (record { accepts = accepts; session_id = session_id; moment = moment }) fields
      a b old new (Err e) →
      (asked : Asked) × SaysRequest (circumstances accepts w.settings moment) fields asked
      × Serves {T = T} (request_row w moment asked) next a b session (Err (error_of_auth e))
  request_unanswered {T} next e session (asked, says, calls, alone, concludes) = (
    asked,
    says_so asked says,
    subst (λ p. Serves {T = T} p next a b session (Err (error_of_auth e)))
        (sym (requested_row w moment asked old waits))
        (unanswered w moment true (verdict old asked) a b next calls new e session alone concludes),
  )

-- ---- a response, from the state that waits for it

module _ {E F : Type 0} (w : World) (moment : ℕ) (fields : List ℕ) (old new : AuthRequest)
    (waits : w.user.state ≡ WaitingAuthRequest old) (a b : Heard E F) where
  pub response_answered : (step : AuthStep) (c : Heard E F) (session : Server)
      (result : Result (Unit {0}) (RunError E F)) →
      AnswersResponse fields a b old new (Ok step) →
      Does (replied (waits_for (WaitingAuthRequest new) w) moment w.user.requested step.reply
      step.verdict)
      (waits_for (WaitingAuthRequest new) w) b c session result →
      (said : Responded) × SaysResponses fields said
      × Serves (response_row w moment said) (λ (_ : Unit {0}) world. Finish (Goes world)) a c
      session result
  response_answered step c session result (said, says, calls, alone, concludes) d = (
    said,
    says,
    subst (λ p. Serves p (λ (_ : Unit {0}) world. Finish (Goes world)) a c session result)
        (sym (responded_row w moment said old waits))
        (answered w moment w.user.requested (response_verdict old said) a b c calls new step session
        result alone concludes d),
  )

  pub response_unanswered : {T : Type 0} (next : T → World → Plan Outcome) (e : AuthError E)
      (session : Server) →
      AnswersResponse fields a b old new (Err e) →
      (said : Responded) × SaysResponses fields said
      × Serves {T = T} (response_row w moment said) next a b session (Err (error_of_auth e))
  response_unanswered {T} next e session (said, says, calls, alone, concludes) = (
    said,
    says,
    subst (λ p. Serves {T = T} p next a b session (Err (error_of_auth e)))
        (sym (responded_row w moment said old waits))
        (unanswered w moment w.user.requested (response_verdict old said) a b next calls new e
        session alone concludes),
  )
