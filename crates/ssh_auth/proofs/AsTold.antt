-- Serving a request or a response asks just what is told of it.
use Rattle.std.proofs.Common.{◌≡◌, ℕ, List, [], ◌++◌}
use Rattle.std.proofs.Common.{Bool, true, false, Option, Some, None, MatchOption, refl, sym, ◌∙◌, ap}
use Rattle.std.proofs.Common.{subst, map}
use Rattle.std.specs.Prelude.{codes, if◌then◌else◌}
use Rattle.std.proofs.lemmas.List.{append_cancel_right}
use Rattle.ssh_wire.specs.Field.{SpellsAll}
use Rattle.ssh_wire.proofs.Fields.{spells_all_once, misfits_all_not_spells}
use Rattle.ssh_keys.specs.declared.algorithm.Algorithm.{Algorithm}
use Rattle.ssh_keys.specs.declared.key_or_certificate.PublicKeyOrCertificate.{PublicKeyOrCertificate}
use Rattle.ssh_keys.specs.declared.key_or_certificate.PublicKeyOrCertificate.TheVariants.{
  PublicKey
      as Plain,
}
use Rattle.ssh_keys.specs.declared.key_or_certificate.PublicKeyOrCertificate.TheVariants.{Certificate}
use Rattle.ssh_keys.specs.declared.signature.Signature.{Signature}
use Rattle.ssh_keys.specs.Algorithms.{algorithm_name}
use Rattle.ssh_keys.specs.Offers.{offered_key}
use Rattle.ssh_keys.specs.Signatures.{EndsInSignature}
use Rattle.ssh_keys.proofs.Agreement.{signature_once}
use Rattle.ssh_auth.specs.declared.asked.AskedMethod.{AskedMethod}
use Rattle.ssh_auth.specs.declared.asked.AskedMethod.TheVariants as told
use Rattle.ssh_auth.specs.declared.auth.Auth.{Auth}
use Rattle.ssh_auth.specs.declared.auth.Auth.TheVariants.{Accept}
use Rattle.ssh_auth.specs.declared.auth_request.AuthRequest.{AuthRequest}
use Rattle.ssh_auth.specs.declared.question.Admission.{Admission}
use Rattle.ssh_auth.specs.declared.question.Admission.TheVariants as by
use Rattle.ssh_auth.specs.declared.question.Question.TheVariants.{Admits}
use Rattle.ssh_auth.specs.Asked.{IsSilent, TellsPlain, TellsMethod, AsksWhere}
use Rattle.ssh_auth.specs.Asked.{Ends, MaySign, offer_admission, proof_admission, AsksPlain, Accepts}
use Rattle.ssh_auth.specs.Asked.{AsksTold, TellsResponses}
use Rattle.ssh_auth.specs.Plan.{Plan, Finish, Ask}
use Rattle.ssh_auth.specs.Publickey.{Circumstances, Offer, IsOffered, IsUsable, Offers, IsAnswer}
use Rattle.ssh_auth.specs.Publickey.{offer_fields, question}
use Rattle.ssh_auth.specs.Request.{begun, is_probed}
use Rattle.ssh_auth.specs.Requested.{head_fields, Method}
use Rattle.ssh_auth.specs.Requested.{Unusable_method, Broken_method, Probe_method}
use Rattle.ssh_auth.specs.Requested.{Misnamed_method, Signed_method}
use Rattle.ssh_auth.specs.Requested.{Unfit_method, SaysPublickey, SaysMethod}
use Rattle.ssh_auth.specs.Requested.{SaysRequest, Requested, Request, Other_service, Unfit, Unread}
use Rattle.ssh_auth.specs.Requested.{named_by}
use Rattle.ssh_auth.specs.Response.{Responded, Responses, Unfit_responses, Unread_responses}
use Rattle.ssh_auth.specs.Response.{SaysResponses}
use Rattle.ssh_auth.specs.Verdict.{AuthOutcome, Replies, Fails, Encoding, Inconsistent, Key}
use Rattle.ssh_auth.specs.Verdict.{Starved, Unsupported, proof, signed, permitted}
use Rattle.ssh_auth.specs.Verdict.{signed_verdict, method_verdict, verdict, responded}
use Rattle.ssh_auth.specs.Verdict.{response_verdict}
use Rattle.ssh_auth.proofs.KeyFields.{AreOneMethod, offers_once, publickey_once}
use Rattle.ssh_auth.proofs.Responses.{never_unfit}
use Rattle.ssh_auth.proofs.ResponsesOnce.{responses_once}
use Rattle.ssh_auth.proofs.Telling.{plainly}

-- ---- by a method that no verifier is asked about

plainly_asked : (given : Circumstances) (auth : AuthRequest) (says : Method → Type 0)
    (user : List ℕ) (asked : AskedMethod) → ((a b : Method) → says a → says b → a ≡ b)
    → TellsPlain says asked → (said : Method) → says said
    → AsksTold given user asked (method_verdict auth user said)
plainly_asked given auth says user told.None once h said k =
    subst (λ m. AsksTold given user told.None (method_verdict auth user m)) (once _ said h k)
    (tt, refl, λ answer. tt)
plainly_asked given auth says user (told.Password password) once h said k =
    subst (λ m. AsksTold given user (told.Password password) (method_verdict auth user m))
    (once _ said h k) (tt, refl, λ answer. tt)
plainly_asked given auth says user (told.Probe offer) once h said k = absurd h
plainly_asked given auth says user (told.Signed offer probed message signature) once h said k =
    absurd h
plainly_asked given auth says user (told.KeyboardInteractive submethods None) once h said k =
    subst (λ m. AsksTold given user (told.KeyboardInteractive submethods None)
    (method_verdict auth user m)) (once _ said h k) (tt, refl, λ answer. tt)
plainly_asked given auth says user (told.KeyboardInteractive submethods (Some responses)) once h
    said k = absurd h

-- what is told of fields that say one thing
pub plainly_told : (given : Circumstances) (auth : AuthRequest) (says : Method → Type 0)
    (user : List ℕ) (told : Option AskedMethod) → ((a b : Method) → says a → says b → a ≡ b)
    → MatchOption told ((method : Method) → says method → IsSilent method) (TellsPlain says)
    → TellsMethod given auth says user told
plainly_told given auth says user None once h = h
plainly_told given auth says user (Some asked) once h = (
  plainly given auth says user asked h,
  plainly_asked given (begun auth user (codes "ssh-connection")) says user asked once h,
)

-- ---- by a key or a certificate

-- the offer in these fields is this one
same_offered : (given : Circumstances) (fields rest other : List ℕ) (signed : Bool)
    (offer asked : Offer) → IsOffered offer
    → SpellsAll offer_fields (signed, (offer.name, (offer.blob, tt))) fields rest
    → Offers given signed asked fields other → (offer ≡ asked) × (rest ≡ other)
same_offered given fields rest other signed offer asked is s h =
    let once = spells_all_once offer_fields (signed, (offer.name, (offer.blob, tt))) (
      signed,
      (asked.name, (asked.blob, tt)),
    ) fields rest other s h.0 in (
      offers_once offer asked offer.name offer.blob refl refl is (sym (ap (λ v. v.1.0) once.0))
          (sym (ap (λ v. v.1.1.0) once.0)) h.1,
      once.1,
    )

-- fields that are signed are not asked about, nor the other way
not_both : (given : Circumstances) (fields rest other : List ℕ) (offer asked : Offer)
    → SpellsAll offer_fields (false, (offer.name, (offer.blob, tt))) fields rest
    → SpellsAll offer_fields (true, (asked.name, (asked.blob, tt))) fields other → ⊥
not_both given fields rest other offer asked s h =
    let once = spells_all_once offer_fields (false, (offer.name, (offer.blob, tt))) (
      true,
      (asked.name, (asked.blob, tt)),
    ) fields rest other s h in
    let flags : false ≡ true = ap (λ v. v.0) once.0 in cc

-- a probe
pub probe_asked : (given : Circumstances) (auth : AuthRequest) (all fields rest user : List ℕ)
    (offer : Offer) → IsOffered offer
    → SpellsAll offer_fields (false, (offer.name, (offer.blob, tt))) fields rest
    → (IsUsable given.accepts given.moment offer.key → SaysPublickey given all fields
    (Probe_method offer)) → (said : Method) → SaysPublickey given all fields said
    → AsksTold given user (told.Probe offer) (method_verdict auth user said)
probe_asked given auth all fields rest user offer is s says (Probe_method asked) h =
    let same : offer ≡ asked = (same_offered given fields rest [] false offer asked is s h).0 in
    subst (λ o. AsksTold given user (told.Probe offer) (method_verdict auth user (Probe_method o)))
    same (
      subst (λ o. IsUsable given.accepts given.moment o.key) (sym same) h.2,
      refl,
      λ answer. tt,
    )
probe_asked given auth all fields rest user offer is s says (Signed_method asked accepted) h =
    absurd (not_both given fields rest h.0 offer asked s h.3.0)
probe_asked given auth all fields rest user offer is s says Unusable_method h = λ usable.
    absurd (let one = publickey_once given all fields (Probe_method offer) Unusable_method
    (says usable) h in cc)
probe_asked given auth all fields rest user offer is s says Broken_method h = λ usable.
    absurd (let one = publickey_once given all fields (Probe_method offer) Broken_method
    (says usable) h in cc)
probe_asked given auth all fields rest user offer is s says Misnamed_method h = λ usable.
    absurd (let one = publickey_once given all fields (Probe_method offer) Misnamed_method
    (says usable) h in cc)
probe_asked given auth all fields rest user offer is s says (Unfit_method why) h = λ usable.
    absurd (let one = publickey_once given all fields (Probe_method offer) (Unfit_method why)
    (says usable) h in cc)
probe_asked given auth all fields rest user offer is s says _ h = absurd h

-- a plan that asks nothing, where it is not to ask
unasked : (holds : Type 0) (admission : Admission) (goes_on : Auth → Plan AuthOutcome → Type 0)
    (outcome : AuthOutcome) → (holds → ⊥) → AsksWhere holds admission goes_on (Finish outcome)
unasked holds admission goes_on (Replies reply verdict auth) h = h
unasked holds admission goes_on (Fails (Encoding why)) h = h
unasked holds admission goes_on (Fails Inconsistent) h = h
unasked holds admission goes_on (Fails Key) h = h
unasked holds admission goes_on (Fails Starved) h = tt
unasked holds admission goes_on (Fails Unsupported) h = h

-- the handler is asked to let the user in
proof_asked : (auth : AuthRequest) (user : List ℕ) (key : PublicKeyOrCertificate)
    (algorithm : Algorithm) (holds : Type 0) → holds
    → AsksWhere holds (proof_admission user key algorithm) Ends (proof auth user key algorithm)
proof_asked auth user (Plain key hash) algorithm holds h = (h, refl, λ answer. tt)
proof_asked auth user (Certificate certificate) algorithm holds h = (h, refl, λ answer. tt)

-- the same, where the verifier accepts the signature
judged_asked : (given : Circumstances) (auth : AuthRequest) (user message blob : List ℕ)
    (offer : Offer) (accepted : Option Bool) (holds : Type 0)
    → (Accepts given offer message blob → holds) → (holds → Accepts given offer message blob)
    → IsAnswer given.accepts (offered_key offer.key) offer.algorithm message blob accepted
    → AsksWhere holds (proof_admission user offer.key offer.algorithm) Ends
    (signed auth user offer accepted)
judged_asked given auth user message blob offer None holds from to h = tt
judged_asked given auth user message blob offer (Some false) holds from to h = λ is.
    absurd (let no : false ≡ true = h.1 (to is) in cc)
judged_asked given auth user message blob offer (Some true) holds from to h =
    proof_asked auth user offer.key offer.algorithm holds (from (h.0 refl))

-- the same, where the answer on the offer lets it sign
permitted_asked : (given : Circumstances) (auth : AuthRequest) (user message blob : List ℕ)
    (offer : Offer) (accepted : Option Bool)
    → IsAnswer given.accepts (offered_key offer.key) offer.algorithm message blob accepted
    → (answer : Auth) → MaySign (AsksWhere (Accepts given offer message blob)
    (proof_admission user offer.key offer.algorithm) Ends) answer
    (permitted auth answer (signed auth user offer accepted))
permitted_asked given auth user message blob offer accepted h Accept =
    judged_asked given auth user message blob offer accepted (Accepts given offer message blob)
    (λ is. is) (λ is. is) h
permitted_asked given auth user message blob offer accepted h _ = tt

-- a signed request of a key that can be used, by whether its probe was accepted
signed_first : (given : Circumstances) (auth : AuthRequest) (user message blob : List ℕ)
    (offer : Offer) (accepted : Option Bool) (probed : Bool)
    → IsUsable given.accepts given.moment offer.key
    → IsAnswer given.accepts (offered_key offer.key) offer.algorithm message blob accepted
    → AsksTold given user (told.Signed offer probed message blob)
    (if probed then signed auth user offer accepted
    else Ask (Admits (by.PublickeyOffered user (offered_key offer.key) offer.algorithm))
    (λ answer. permitted auth answer (signed auth user offer accepted)))
signed_first given auth user message blob offer accepted true usable h =
    judged_asked given auth user message blob offer accepted
    (IsUsable given.accepts given.moment offer.key × Accepts given offer message blob)
    (λ is. (usable, is)) (λ both. both.1) h
signed_first given auth user message blob offer accepted false usable h =
    (usable, refl, permitted_asked given auth user message blob offer accepted h)

-- a signed request of a key that cannot be used
signed_unasked : (given : Circumstances) (user message blob : List ℕ) (offer : Offer)
    (probed : Bool) (outcome : AuthOutcome)
    → (IsUsable given.accepts given.moment offer.key → ⊥)
    → AsksTold given user (told.Signed offer probed message blob) (Finish outcome)
signed_unasked given user message blob offer true outcome h =
    unasked (IsUsable given.accepts given.moment offer.key × Accepts given offer message blob)
    (proof_admission user offer.key offer.algorithm) Ends outcome (λ both. h both.0)
signed_unasked given user message blob offer false outcome h =
    unasked (IsUsable given.accepts given.moment offer.key) (offer_admission user offer)
    (MaySign (AsksWhere (Accepts given offer message blob)
    (proof_admission user offer.key offer.algorithm) Ends)) outcome h

-- what is told of a signed request, from its fields
pub record IsSigned (session_id all fields rest message blob : List ℕ) (offer : Offer)
    : Type 0 where
  pub is_offered : IsOffered offer
  pub spells : SpellsAll offer_fields (true, (offer.name, (offer.blob, tt))) fields rest
  pub unsigned : List ℕ
  pub covers : message ≡ question session_id unsigned
  pub whole : all ≡ unsigned ++ rest
  pub signature : Signature
  pub ends : EndsInSignature signature rest
  pub named : signature.name ≡ algorithm_name offer.algorithm
  pub is : blob ≡ signature.blob

-- the verifier's answer about it is the one about what is told
same_answer : (given : Circumstances) (all fields rest message blob : List ℕ) (offer : Offer)
    (accepted : Option Bool) (s : IsSigned given.session_id all fields rest message blob offer)
    → (k : SaysPublickey given all fields (Signed_method offer accepted))
    → IsAnswer given.accepts (offered_key offer.key) offer.algorithm message blob accepted
same_answer given all fields rest message blob offer accepted s k =
    let one = same_offered given fields rest k.0 true offer offer s.is_offered s.spells k.3 in
    let fronts : k.1 ≡ s.unsigned = append_cancel_right k.1 s.unsigned rest
    (ap (λ r. k.1 ++ r) one.1 ∙ sym k.6 ∙ s.whole) in
    let signatures : k.2 ≡ s.signature = signature_once k.2 s.signature rest
    (subst (EndsInSignature k.2) (sym one.1) k.4) s.ends in
    let covered : question given.session_id k.1 ≡ message =
    ap (λ u. question given.session_id u) fronts ∙ sym s.covers in
    let blobs : k.2.blob ≡ blob = ap (λ x. x.blob) signatures ∙ sym s.is in
    subst (λ b. IsAnswer given.accepts (offered_key offer.key) offer.algorithm message b accepted)
    blobs (subst (λ m. IsAnswer given.accepts (offered_key offer.key) offer.algorithm m k.2.blob
    accepted) covered k.7)

-- a request that is signed says so, whatever the verifier answers about what is told
pub signed_says : (given : Circumstances) (all fields rest message blob : List ℕ) (offer : Offer)
    → IsSigned given.session_id all fields rest message blob offer → (accepted : Option Bool)
    → IsUsable given.accepts given.moment offer.key
    → IsAnswer given.accepts (offered_key offer.key) offer.algorithm message blob accepted
    → SaysPublickey given all fields (Signed_method offer accepted)
signed_says given all fields rest message blob offer s accepted usable answer = (
  rest,
  s.unsigned,
  s.signature,
  (s.spells, s.is_offered, usable),
  s.ends,
  s.named,
  s.whole,
  subst (λ b. IsAnswer given.accepts (offered_key offer.key) offer.algorithm
      (question given.session_id s.unsigned) b accepted) s.is
      (subst (λ m. IsAnswer given.accepts (offered_key offer.key) offer.algorithm m blob accepted)
      s.covers answer),
)

-- a signed request
module _ (given : Circumstances) (auth : AuthRequest)
    (all fields rest user message blob : List ℕ) (offer : Offer) (probed : Bool)
    (s : IsSigned given.session_id all fields rest message blob offer) where
  -- of a key that can be used it says nothing else
  not_usable : (said : Method) → SaysPublickey given all fields said
      → (AreOneMethod (Signed_method offer None) said → ⊥)
      → IsUsable given.accepts given.moment offer.key → ⊥
  not_usable said h other usable = other (publickey_once given all fields
      (Signed_method offer None) said
      (signed_says given all fields rest message blob offer s None usable tt) h)

  pub signed_asked : probed ≡ is_probed auth.current offer.name offer.blob → (said : Method)
      → SaysPublickey given all fields said → AsksTold given user
      (told.Signed offer probed message blob) (method_verdict auth user said)
  signed_asked is (Signed_method asked accepted) h =
      let same : asked ≡ offer = sym (same_offered given fields rest h.0 true offer asked
      s.is_offered s.spells h.3).0 in
      let k : SaysPublickey given all fields (Signed_method offer accepted) =
      subst (λ o. SaysPublickey given all fields (Signed_method o accepted)) same h in
      subst (λ o. AsksTold given user (told.Signed offer probed message blob)
      (method_verdict auth user (Signed_method o accepted))) (sym same)
      (subst (λ b. AsksTold given user (told.Signed offer b message blob)
      (signed_verdict auth user offer accepted)) (sym is)
      (signed_first given auth user message blob offer accepted
      (is_probed auth.current offer.name offer.blob) k.3.2
      (same_answer given all fields rest message blob offer accepted s k)))
  signed_asked is (Probe_method asked) h =
      absurd (not_both given fields [] rest asked offer h.0 s.spells)
  signed_asked is Unusable_method h = signed_unasked given user message blob offer probed _
      (not_usable Unusable_method h (λ one. cc))
  signed_asked is Broken_method h = signed_unasked given user message blob offer probed _
      (not_usable Broken_method h (λ one. cc))
  signed_asked is Misnamed_method h = signed_unasked given user message blob offer probed _
      (not_usable Misnamed_method h (λ one. cc))
  signed_asked is (Unfit_method why) h = signed_unasked given user message blob offer probed _
      (not_usable (Unfit_method why) h (λ one. cc))
  signed_asked is _ h = absurd h

-- ---- a request

-- memory was wanting
starved_told : (given : Circumstances) (user : List ℕ) (asked : AskedMethod)
    → AsksTold given user asked (Finish (Fails Starved))
starved_told given user told.None = tt
starved_told given user (told.Password password) = tt
starved_told given user (told.Probe offer) = tt
starved_told given user (told.Signed offer true message signature) = tt
starved_told given user (told.Signed offer false message signature) = tt
starved_told given user (told.KeyboardInteractive submethods responses) = tt

-- what its method asks
pub request_asked : (given : Circumstances) (auth : AuthRequest) (fields user name rest : List ℕ)
    (asked : AskedMethod) → SpellsAll head_fields (user, (codes "ssh-connection", (name, tt))) fields rest
    → ((said : Method) → SaysMethod given fields (named_by name) rest said
    → AsksTold given user asked
    (method_verdict (begun auth user (codes "ssh-connection")) user said)) → (said : Requested)
    → SaysRequest given fields said → AsksTold given user asked (verdict auth said)
request_asked given auth fields user name rest asked s asks (Request other method) h =
    let once = spells_all_once head_fields (other, (codes "ssh-connection", (h.0, tt))) (
      user,
      (codes "ssh-connection", (name, tt)),
    ) fields h.1 rest h.2 s in
    let users : user ≡ other = sym (ap (λ v. v.0) once.0) in
    let names : h.0 ≡ name = ap (λ v. v.1.1.0) once.0 in
    subst (λ u. AsksTold given user asked
    (method_verdict (begun auth u (codes "ssh-connection")) u method)) users
    (asks method (subst (λ x. SaysMethod given fields (named_by name) x method) once.1
    (subst (λ x. SaysMethod given fields (named_by x) h.1 method) names h.3)))
request_asked given auth fields user name rest asked s asks Other_service h =
    let once = spells_all_once head_fields (user, (codes "ssh-connection", (name, tt))) (
      h.0,
      (h.1, (h.2, tt)),
    ) fields rest h.3 s h.4 in
    absurd (h.5 (sym (ap (λ v. v.1.0) once.0)))
request_asked given auth fields user name rest asked s asks (Unfit why) h =
    absurd (misfits_all_not_spells head_fields (user, (codes "ssh-connection", (name, tt))) fields
    rest why h s)
request_asked given auth fields user name rest asked s asks Unread h = starved_told given user asked

-- ---- a response

pub response_asked : (auth : AuthRequest) (fields user : List ℕ) (asked : AskedMethod)
    → TellsResponses auth fields user asked → (said : Responded) → SaysResponses fields said
    → AsksPlain user asked (response_verdict auth said)
response_asked auth fields user (told.KeyboardInteractive submethods (Some responses)) h said k =
    subst (λ prompt. AsksPlain user (told.KeyboardInteractive submethods (Some responses))
    (responded (record auth { partial_success = false }) prompt said)) (sym h.0)
    (answered said k)
  where
    texts : List (List ℕ)
    texts = map (λ text. text.now) responses.items

    answered : (said : Responded) → SaysResponses fields said
        → AsksPlain user (told.KeyboardInteractive submethods (Some responses))
        (responded (record auth { partial_success = false }) (Some (user, submethods.now)) said)
    answered (Responses others) k =
        subst (λ r. AsksPlain user (told.KeyboardInteractive submethods (Some responses))
        (responded (record auth { partial_success = false }) (Some (user, submethods.now)) r))
        (responses_once fields (Responses texts) (Responses others) h.1 k)
        (tt, refl, λ answer. tt)
    answered (Unfit_responses why) k = absurd (never_unfit fields texts why h.1 k)
    answered Unread_responses k = tt
response_asked auth fields user _ h said k = absurd h
