-- Requests by a key or a certificate: the lines of their verdict.
use Rattle.std.proofs.Common.{◌≡◌, ◌≢◌, ◌⊎◌, ℕ, ◌-◌, List, [], ◌∷◌, ◌++◌, length, take, drop, Bool}
use Rattle.std.proofs.Common.{true, false, Option, Some, Result, Ok, Err, IsErrAnd, inl, inr, refl}
use Rattle.std.proofs.Common.{sym, ◌∙◌, ap, subst, append_assoc}
use Rattle.ssh_wire.specs.declared.error.WireError.{WireError}
use Rattle.ssh_wire.specs.declared.error.WireError.TheVariants as wire
use Rattle.ssh_wire.specs.Field.{SpellsAll, MisfitsWhole, string}
use Rattle.ssh_link.specs.Told.{Adds}
use Rattle.ssh_link.proofs.Tellings.{adds_nil}
use Rattle.ssh_keys.specs.declared.error.KeyError.{KeyError}
use Rattle.ssh_keys.specs.declared.error.KeyError.TheVariants.{Blob, NoMemory}
use Rattle.ssh_keys.specs.declared.signature.Signature.{Signature}
use Rattle.ssh_keys.specs.Algorithms.{algorithm_name}
use Rattle.ssh_keys.specs.Offers.{FailsOffer, offered_key}
use Rattle.ssh_keys.specs.Signatures.{EndsInSignature}
use Rattle.ssh_auth.specs.declared.auth.Auth.{Auth}
use Rattle.ssh_auth.specs.declared.auth.Auth.TheVariants.{Accept}
use Rattle.ssh_auth.specs.declared.auth_request.AuthRequest.{AuthRequest}
use Rattle.ssh_auth.specs.declared.auth_step.AuthStep.{AuthStep}
use Rattle.ssh_auth.specs.declared.call.Call.{Call}
use Rattle.ssh_auth.specs.declared.error.AuthError.{AuthError}
use Rattle.ssh_auth.specs.declared.error.AuthError.TheVariants as error
use Rattle.ssh_auth.specs.Failure.{auth_error_of, auth_error_of_key}
use Rattle.ssh_auth.specs.declared.question.Admission.TheVariants as by
use Rattle.ssh_auth.specs.declared.question.Question.{Question}
use Rattle.ssh_auth.specs.declared.question.Question.TheVariants.{Admits}
use Rattle.ssh_auth.specs.Plan.{Plan, Finish, Ask, Answer, Answered, Called}
use Rattle.ssh_auth.specs.Publickey.{Circumstances, Offer, offer_fields, Offers, IsAnswer}
use Rattle.ssh_auth.specs.Read.{SignatureFails}
use Rattle.ssh_auth.specs.Request.{is_probed}
use Rattle.ssh_auth.specs.Requested.{Unfit_method, Broken_method, Probe_method, Misnamed_method}
use Rattle.ssh_auth.specs.Requested.{Signed_method, SaysPublickey}
use Rattle.ssh_auth.specs.Verdict.{AuthOutcome, Replies, Fails, Encoding, Starved, refused, proof}
use Rattle.ssh_auth.specs.Verdict.{signed, permitted, signed_verdict, method_verdict}
use Rattle.ssh_auth.specs.Serve.{CarriesOut, CarriesOutMethod}
use Rattle.ssh_auth.proofs.Asks.{finished, starved_after, unfit_method}
use Rattle.ssh_auth.proofs.Misfits.{whole_error}
use Rattle.ssh_auth.proofs.Signatures.{spells_front, up_to_rest}

-- the answer on an offered key has no reply, for want of memory or since PK_OK would be too long
pub no_permit : {E : Type 0} (question : Question) (next : Answer question → AuthOutcome)
    (answer : Answer question) (call : Call E)
    (a b : Option (List (Call E))) (auth : AuthRequest) (why : WireError)
    (result : Result AuthStep (AuthError E)) →
    IsErrAnd result (λ e. e ≡ auth_error_of why) → (why ≡ wire.NoMemory)
    ⊎ ((why ≡ wire.TooLong) × (next answer ≡ Fails (Encoding wire.TooLong))) →
    Answered {F = ⊥} question answer (Called call) → Adds a b (call ∷ [])
    → CarriesOut (Ask question (λ answer. Finish (next answer))) a b auth result
no_permit question next answer call a b auth why result is (inl none) how h = starved_after question
    (λ answer. Finish (next answer)) answer call a b auth why result is none how h
no_permit question next answer call a b auth why (Ok step) is (inr long) how h = absurd is
no_permit {E} question next answer call a b auth why (Err e) is (inr long) how h =
    let fails : e ≡ error.Encoding wire.TooLong = is ∙ ap (λ w. auth_error_of {E = E} w) long.0 in
    subst (λ x. CarriesOut (Ask question (λ answer. Finish (next answer))) a b auth (Err x))
    (sym fails) (call ∷ [], h, (answer, how, ap Finish long.1))

-- the verifier refused the signature
pub refused_signature : {E : Type 0} (auth : AuthRequest) (user : List ℕ) (offer : Offer)
    (accepted : Bool) (told : Option (List (Call E))) (auth' : AuthRequest) (step : AuthStep) →
    accepted ≡ false → refused auth ≡ Replies step.reply step.verdict auth'
    → CarriesOut (signed auth user offer (Some accepted)) told told auth' (Ok step)
refused_signature auth user offer accepted told auth' step denied is =
    subst (λ b. CarriesOut (signed auth user offer (Some b)) told told auth' (Ok step)) (sym denied)
    (finished (refused auth) told auth' step is)

-- the verifier accepted it
pub accepted_signature : {E : Type 0} (auth : AuthRequest) (user : List ℕ) (offer : Offer)
    (accepted : Bool) (a b : Option (List (Call E))) (auth' : AuthRequest)
    (result : Result AuthStep (AuthError E)) → accepted ≡ true
    → CarriesOut (proof auth user offer.key offer.algorithm) a b auth' result →
    CarriesOut (signed auth user offer (Some accepted)) a b auth' result
accepted_signature auth user offer accepted a b auth' result is h =
    subst (λ x. CarriesOut (signed auth user offer (Some x)) a b auth' result) (sym is) h

-- a key without its probe is asked about first
pub unprobed : {E : Type 0} (auth : AuthRequest) (user : List ℕ) (offer : Offer)
    (accepted : Option Bool) (a b : Option (List (Call E))) (auth' : AuthRequest)
    (result : Result AuthStep (AuthError E)) → is_probed auth.current offer.name offer.blob ≡ false
    →
    CarriesOut (Ask (Admits (by.PublickeyOffered user (offered_key offer.key) offer.algorithm))
    (λ answer. permitted auth answer (signed auth user offer accepted))) a b auth' result →
    CarriesOut (signed_verdict auth user offer accepted) a b auth' result
unprobed auth user offer accepted a b auth' result is h = rw is h

-- a key that may sign
pub permitted_by : {E : Type 0} (auth : AuthRequest) (answer : Auth) (next : Plan AuthOutcome)
    (a b : Option (List (Call E))) (auth' : AuthRequest) (result : Result AuthStep (AuthError E))
    → answer ≡ Accept → CarriesOut next a b auth' result →
    CarriesOut (permitted auth answer next) a b auth' result
permitted_by auth answer next a b auth' result is h =
    subst (λ x. CarriesOut (permitted auth x next) a b auth' result) (sym is) h

-- a signature that was not read
pub unsigned_request : {E : Type 0} (given : Circumstances) (all fields rest : List ℕ)
    (offer : Offer) (auth : AuthRequest) (user : List ℕ) (told : Option (List (Call E)))
    (auth' : AuthRequest)
    (e : AuthError E) → Offers given true offer fields rest → SignatureFails rest e
    → CarriesOutMethod (SaysPublickey given all fields) auth user told told auth' (Err e)
unsigned_request given all fields rest offer auth user told auth' error.NoMemory offers h =
    inr ([], adds_nil told, (Finish (Fails Starved), refl))
unsigned_request given all fields rest offer auth user told auth' (error.Encoding why) offers h =
    inl (Unfit_method why, inr (inr (offer, rest, offers, h)), ([], adds_nil told, refl))
unsigned_request given all fields rest offer auth user told auth' error.Inconsistent offers h =
    absurd h
unsigned_request given all fields rest offer auth user told auth' (error.Key why) offers h =
    inl (Broken_method, inr (offer, rest, offers, h.1), ([], adds_nil told, (h.0, refl)))
unsigned_request given all fields rest offer auth user told auth' (error.Handler e) offers h =
    absurd h
unsigned_request given all fields rest offer auth user told auth' error.UnsupportedAuthMethod offers
    h = absurd h

-- an offer that was not read
pub no_offer : {E : Type 0} (given : Circumstances) (all fields rest name blob : List ℕ)
    (is-signed : Bool) (auth : AuthRequest) (user : List ℕ) (told : Option (List (Call E)))
    (auth' : AuthRequest)
    (e : KeyError) (result : AuthError E) → result ≡ auth_error_of_key e → SpellsAll offer_fields
    (is-signed, (name, (blob, tt))) fields rest →
    (e ≡ NoMemory) ⊎ ((e ≡ Blob) × FailsOffer name blob Blob)
    → CarriesOutMethod (SaysPublickey given all fields) auth user told told auth' (Err result)
no_offer {E} given all fields rest name blob is-signed auth user told auth' e result is spelled
    (inl none) =
    let memory : result ≡ error.NoMemory = is ∙ ap (λ k. auth_error_of_key {E = E} k) none in
    subst (λ x. CarriesOutMethod (SaysPublickey given all fields) auth user told told auth' (Err x))
    (sym memory) (inr ([], adds_nil told, (Finish (Fails Starved), refl)))
no_offer {E} given all fields rest name blob is-signed auth user told auth' e result is spelled
    (inr fails) =
    let key : result ≡ error.Key Blob = is ∙ ap (λ k. auth_error_of_key {E = E} k) fails.0 in
    subst (λ x. CarriesOutMethod (SaysPublickey given all fields) auth user told told auth' (Err x))
    (sym key)
    (inl (
      Broken_method,
      inl (is-signed, name, blob, rest, spelled, fails.1),
      ([], adds_nil told, (refl, refl)),
    ))

-- a signature of another name
pub misnamed : {E : Type 0} (given : Circumstances) (all fields rest : List ℕ) (offer : Offer)
    (signature : Signature) (auth : AuthRequest) (user : List ℕ) (told : Option (List (Call E)))
    (auth' : AuthRequest) (step : AuthStep) → Offers given true offer fields rest
    → EndsInSignature signature rest → (signature.name ≢ algorithm_name offer.algorithm) →
    refused auth ≡ Replies step.reply step.verdict auth'
    → CarriesOutMethod (SaysPublickey given all fields) auth user told told auth' (Ok step)
misnamed given all fields rest offer signature auth user told auth' step offers ends differs is =
    inl (
      Misnamed_method,
      (offer, rest, signature, offers, ends, differs),
      finished (refused auth) told auth' step is,
    )

-- a signed request: what the verifier is asked about is the session id and the payload up to the
-- signature
pub signed_request : {E : Type 0} (given : Circumstances) (payload front fields rest unsigned : List
    ℕ) (offer : Offer) (signature : Signature) (auth : AuthRequest) (user : List ℕ)
    (a b : Option (List (Call E))) (auth' : AuthRequest) (result : Result AuthStep (AuthError E))
    → Offers given true offer fields rest → EndsInSignature signature rest →
    signature.name ≡ algorithm_name offer.algorithm → payload ≡ 50 ∷ front ++ fields → unsigned
    ≡ take (length payload - length rest) payload →
    ((accepted : Option Bool) × IsAnswer given.accepts (offered_key offer.key) offer.algorithm
    (string given.session_id ++ unsigned) signature.blob accepted
    × CarriesOut (signed_verdict auth user offer accepted) a b auth' result) →
    CarriesOutMethod (SaysPublickey given (drop 1 payload) fields) auth user a b auth' result
signed_request given payload front fields rest unsigned offer signature auth user a b auth' result
    offers ends named whole is h =
    let middle = spells_front offer_fields (true, (offer.name, (offer.blob, tt))) fields rest
    offers.0 in
    let parts : payload ≡ (50 ∷ front ++ middle.0) ++ rest = whole ∙ ap (λ x. 50 ∷ front ++ x)
    middle.1 ∙ ap (λ x. 50 ∷ x) (sym (append_assoc front middle.0 rest)) in
    let covered : unsigned ≡ 50 ∷ front ++ middle.0 = is
    ∙ up_to_rest payload (50 ∷ front ++ middle.0) rest parts in
    let all : drop 1 payload ≡ (front ++ middle.0) ++ rest = ap (λ x. drop 1 x) parts in
    let answer = subst (λ x. IsAnswer given.accepts (offered_key offer.key) offer.algorithm
    (string given.session_id ++ x) signature.blob h.0) covered h.1 in
    inl (
      Signed_method offer h.0,
      (
        rest,
        front ++ middle.0,
        signature,
        offers,
        ends,
        named,
        all,
        answer,
      ),
      h.2,
    )

-- the offer of a probe, or of a signed request
pub offers_as : (given : Circumstances) (is-signed other : Bool) (offer : Offer)
    (fields rest : List ℕ) → is-signed ≡ other → Offers given is-signed offer fields rest
    → Offers given other offer fields rest
offers_as given is-signed other offer fields rest is h =
    subst (λ b. Offers given b offer fields rest) is h

-- bytes after a probe
pub more_than_probe : {E : Type 0} (given : Circumstances) (all fields rest : List ℕ)
    (offer : Offer) (auth : AuthRequest) (user : List ℕ) (told : Option (List (Call E)))
    (auth' : AuthRequest)
    (why : WireError) (result : Result AuthStep (AuthError E)) → Offers given false offer fields
    rest → MisfitsWhole [] rest why → IsErrAnd result (λ e. e ≡ auth_error_of why) →
    CarriesOutMethod (SaysPublickey given all fields) auth user told told auth' result
more_than_probe {E} given all fields rest offer auth user told auth' why result offers misfit is =
    unfit_method (SaysPublickey given all fields) auth user told auth' why result is
    (whole_error E [] rest why misfit) (inr (inl (offer, rest, offers, misfit)))

-- a probe
pub probe : {E : Type 0} (given : Circumstances) (all fields rest : List ℕ) (offer : Offer)
    (auth : AuthRequest) (user : List ℕ) (a b : Option (List (Call E))) (auth' : AuthRequest)
    (result : Result AuthStep (AuthError E)) → Offers given false offer fields rest → rest ≡ []
    → CarriesOut (method_verdict auth user (Probe_method offer)) a b auth' result →
    CarriesOutMethod (SaysPublickey given all fields) auth user a b auth' result
probe given all fields rest offer auth user a b auth' result offers none h =
    inl (Probe_method offer, subst (λ x. Offers given false offer fields x) none offers, h)
