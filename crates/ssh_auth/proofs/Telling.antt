-- What is told of a request or a response is what it says, and what is not told asks nothing.
use Rattle.std.proofs.Common.{◌≡◌, ◌≢◌, ℕ, ◌-◌, List, [], ◌∷◌, ◌++◌, length, take, drop}
use Rattle.std.proofs.Common.{Bool, true, false, Some, None, refl, sym, ◌∙◌, ap}
use Rattle.std.proofs.Common.{subst, append_assoc, arith, length-append, ◌≤◌}
use Rattle.std.specs.Prelude.{codes}
use Rattle.ssh_wire.specs.declared.error.WireError.{WireError}
use Rattle.ssh_wire.specs.Field.{SpellsAll, MisfitsAll, string}
use Rattle.ssh_wire.proofs.Fields.{spells_all_once, misfits_all_not_spells}
use Rattle.ssh_keys.specs.declared.error.KeyError.{KeyError}
use Rattle.ssh_keys.specs.declared.error.KeyError.TheVariants.{Blob}
use Rattle.ssh_keys.specs.declared.key_or_certificate.PublicKeyOrCertificate.{PublicKeyOrCertificate}
use Rattle.ssh_keys.specs.declared.key_or_certificate.PublicKeyOrCertificate.TheVariants.{
  PublicKey
      as Plain,
}
use Rattle.ssh_keys.specs.declared.key_or_certificate.PublicKeyOrCertificate.TheVariants.{Certificate}
use Rattle.ssh_keys.specs.declared.signature.Signature.{Signature}
use Rattle.ssh_keys.specs.Algorithms.{algorithm_name}
use Rattle.ssh_keys.specs.Offers.{FailsOffer}
use Rattle.ssh_keys.specs.Signatures.{EndsInSignature}
use Rattle.ssh_auth.specs.declared.asked.AskedMethod.{AskedMethod}
use Rattle.ssh_auth.specs.declared.asked.AskedMethod.TheVariants as told
use Rattle.ssh_auth.specs.declared.auth_request.AuthRequest.{AuthRequest}
use Rattle.ssh_auth.specs.declared.error.AuthError.{AuthError}
use Rattle.ssh_auth.specs.declared.error.AuthError.TheVariants as error
use Rattle.ssh_auth.specs.Asked.{AsksNothing, IsSilent, TellsPlain, Tells}
use Rattle.ssh_auth.specs.Publickey.{Acceptance, Circumstances, Offer, IsOffered, IsUsable, Offers}
use Rattle.ssh_auth.specs.Publickey.{OffersNothing, offer_fields, question}
use Rattle.ssh_auth.specs.Read.{SignatureFails}
use Rattle.ssh_auth.specs.Request.{begun, prompt_of}
use Rattle.ssh_auth.specs.Requested.{head_fields, Method, Unusable_method, Broken_method}
use Rattle.ssh_auth.specs.Requested.{Probe_method, Misnamed_method, Signed_method, Unfit_method}
use Rattle.ssh_auth.specs.Requested.{SaysInteractive, SaysPublickey, SaysMethod, SaysRequest}
use Rattle.ssh_auth.specs.Requested.{Requested, Request, Other_service, Unfit, Unread, named_by}
use Rattle.ssh_auth.specs.Response.{Responded, Responses, Unfit_responses, Unread_responses}
use Rattle.ssh_auth.specs.Response.{SaysResponses}
use Rattle.ssh_auth.specs.Verdict.{verdict, response_verdict}
use Rattle.ssh_auth.proofs.KeyFields.{OffersSo, Usable, offers_once, usable_not_nothing}
use Rattle.ssh_auth.proofs.KeyFields.{usable_not_broken, signed_fits, signed_holds}
use Rattle.ssh_auth.proofs.ResponsesOnce.{interactive_once}
use Rattle.ssh_auth.proofs.Responses.{never_unfit}
use Rattle.ssh_auth.proofs.Signatures.{spells_front, up_to_rest}

-- ---- by a method that no verifier is asked about

pub unfit_prompts : (fields : List ℕ) (why : WireError) → SaysInteractive fields (Unfit_method why)
    → (method : Method) → SaysInteractive fields method → IsSilent method
unfit_prompts fields why h method k = subst IsSilent
    (interactive_once fields (Unfit_method why) method h k) (λ auth user. tt)

pub plainly : (given : Circumstances) (auth : AuthRequest) (says : Method → Type 0)
    (user : List ℕ) (asked : AskedMethod) → TellsPlain says asked → Tells given auth says user asked
plainly given auth says user told.None h = h
plainly given auth says user (told.Password password) h = h
plainly given auth says user (told.Probe offer) h = absurd h
plainly given auth says user (told.Signed offer probed message signature) h = absurd h
plainly given auth says user (told.KeyboardInteractive submethods None) h = h
plainly given auth says user (told.KeyboardInteractive submethods (Some responses)) h = absurd h

-- what is told by some fields is told by all that has them
pub told_more : (given : Circumstances) (auth : AuthRequest) (says more : Method → Type 0)
    (user : List ℕ) (asked : AskedMethod) → ((method : Method) → says method → more method)
    → Tells given auth says user asked → Tells given auth more user asked
told_more given auth says more user told.None f h = f _ h
told_more given auth says more user (told.Password password) f h = f _ h
told_more given auth says more user (told.Probe offer) f h = (h.0, λ usable. f _ (h.1 usable))
told_more given auth says more user (told.Signed offer probed message signature) f h = (
  h.0,
  h.1,
  λ accepted usable answer. f _ (h.2 accepted usable answer),
)
told_more given auth says more user (told.KeyboardInteractive submethods None) f h = f _ h
told_more given auth says more user (told.KeyboardInteractive submethods (Some responses)) f h =
    absurd h

-- ---- by a key or a certificate

-- whoever offers a key or a certificate in a request that says so
abbrev pub NeverOffers : Circumstances → (fields : List ℕ) → Type 0
NeverOffers given fields = (signed : Bool) (offer : Offer) (rest : List ℕ) → Offers given signed
    offer fields rest → ⊥

no_offer_silent : (given : Circumstances) (all fields : List ℕ) → NeverOffers given fields
    → (method : Method) → SaysPublickey given all fields method → IsSilent method
no_offer_silent given all fields never (Probe_method offer) h = absurd (never false offer [] h)
no_offer_silent given all fields never (Signed_method offer accepted) h =
    absurd (never true offer h.0 h.3)
no_offer_silent given all fields never Unusable_method h = λ auth user. tt
no_offer_silent given all fields never Broken_method h = λ auth user. tt
no_offer_silent given all fields never Misnamed_method h = λ auth user. tt
no_offer_silent given all fields never (Unfit_method why) h = λ auth user. tt
no_offer_silent given all fields never _ h = absurd h

-- its fields do not fit
pub unfit_offer : (given : Circumstances) (all fields : List ℕ) (why : WireError)
    → MisfitsAll offer_fields fields why → (method : Method) → SaysPublickey given all fields method
    → IsSilent method
unfit_offer given all fields why m = no_offer_silent given all fields (λ signed offer rest h.
    misfits_all_not_spells offer_fields (signed, (offer.name, (offer.blob, tt))) fields rest why m
    h.0)

-- what its fields offer is by these name and blob
offers_by : (given : Circumstances) (fields rest other name blob : List ℕ) (signed flag : Bool)
    (offer : Offer) → SpellsAll offer_fields (signed, (name, (blob, tt))) fields rest → Offers given
    flag offer fields other → OffersSo given name blob (Usable offer)
offers_by given fields rest other name blob signed flag offer s h =
    let once = spells_all_once offer_fields (flag, (offer.name, (offer.blob, tt))) (
      signed,
      (name, (blob, tt)),
    ) fields other rest h.0 s in
    (ap (λ v. v.1.0) once.0, ap (λ v. v.1.1.0) once.0, h.1, h.2)

-- whoever accepts every signature accepts what another accepts
all_usable : (accepts : Acceptance) (moment : ℕ) (key : PublicKeyOrCertificate) → IsUsable accepts
    moment key → IsUsable (λ _ _ _ _. Unit {0}) moment key
all_usable accepts moment (Plain key hash) h = tt
all_usable accepts moment (Certificate certificate) h = (h.0, (h.1.0, h.1.1, tt))

-- nothing is offered, whoever accepts
pub offers_none : (given : Circumstances) (all fields rest name blob : List ℕ) (signed : Bool)
    → SpellsAll offer_fields (signed, (name, (blob, tt))) fields rest
    → OffersNothing (λ _ _ _ _. Unit {0}) given.moment name blob
    → (method : Method) → SaysPublickey given all fields method → IsSilent method
offers_none given all fields rest name blob signed s nothing = no_offer_silent given all fields
    (λ flag offer other h.
    let so = offers_by given fields rest other name blob signed flag offer s h in
    usable_not_nothing (record given { accepts = λ _ _ _ _. Unit {0} }) offer name blob (
      so.0,
      so.1,
      so.2,
      all_usable given.accepts given.moment offer.key so.3,
    ) nothing)

-- the blob does not fit its layout
pub broken_offer : (given : Circumstances) (all fields rest name blob : List ℕ) (signed : Bool)
    → SpellsAll offer_fields (signed, (name, (blob, tt))) fields rest → FailsOffer name blob Blob
    → (method : Method) → SaysPublickey given all fields method → IsSilent method
broken_offer given all fields rest name blob signed s fails = no_offer_silent given all fields
    (λ flag offer other h. usable_not_broken given offer name blob
    (offers_by given fields rest other name blob signed flag offer s h) fails)

-- the offer by the name and the blob in these fields
pub spelled_offer : (fields rest name blob : List ℕ) (signed flag : Bool) (offer : Offer)
    → signed ≡ flag → (offer.name ≡ name) × (offer.blob ≡ blob) × IsOffered offer
    → SpellsAll offer_fields (signed, (name, (blob, tt))) fields rest
    → SpellsAll offer_fields (flag, (offer.name, (offer.blob, tt))) fields rest
spelled_offer fields rest name blob signed flag offer is names s =
    subst (λ b. SpellsAll offer_fields (b, (offer.name, (offer.blob, tt))) fields rest) is
    (subst (λ x. SpellsAll offer_fields (signed, (x, (offer.blob, tt))) fields rest) (sym names.0)
    (subst (λ x. SpellsAll offer_fields (signed, (name, (x, tt))) fields rest) (sym names.1) s))

-- bytes follow a probe
pub followed_probe : (given : Circumstances) (all fields rest : List ℕ) (offer : Offer)
    → SpellsAll offer_fields (false, (offer.name, (offer.blob, tt))) fields rest
    → (rest ≡ [] → ⊥) → (method : Method) → SaysPublickey given all fields method → IsSilent method
followed_probe given all fields rest offer s more (Probe_method other) h =
    absurd (more (spells_all_once offer_fields (false, (offer.name, (offer.blob, tt))) (
      false,
      (other.name, (other.blob, tt)),
    ) fields rest [] s h.0).1)
followed_probe given all fields rest offer s more (Signed_method other accepted) h =
    let once = spells_all_once offer_fields (false, (offer.name, (offer.blob, tt))) (
      true,
      (other.name, (other.blob, tt)),
    ) fields rest h.0 s h.3.0 in
    absurd (let flags : false ≡ true = ap (λ v. v.0) once.0 in cc)
followed_probe given all fields rest offer s more Unusable_method h = λ auth user. tt
followed_probe given all fields rest offer s more Broken_method h = λ auth user. tt
followed_probe given all fields rest offer s more Misnamed_method h = λ auth user. tt
followed_probe given all fields rest offer s more (Unfit_method why) h = λ auth user. tt
followed_probe given all fields rest offer s more _ h = absurd h

-- no signature of the offered algorithm follows
pub unsigned : (given : Circumstances) (all fields rest : List ℕ) (offer : Offer) → IsOffered offer
    → SpellsAll offer_fields (true, (offer.name, (offer.blob, tt))) fields rest
    → ((signature : Signature) → EndsInSignature signature rest
    → signature.name ≢ algorithm_name offer.algorithm)
    → (method : Method) → SaysPublickey given all fields method → IsSilent method
unsigned given all fields rest offer is s none (Probe_method other) h =
    let once = spells_all_once offer_fields (true, (offer.name, (offer.blob, tt))) (
      false,
      (other.name, (other.blob, tt)),
    ) fields rest [] s h.0 in
    absurd (let flags : true ≡ false = ap (λ v. v.0) once.0 in cc)
unsigned given all fields rest offer is s none (Signed_method other accepted) h =
    let once = spells_all_once offer_fields (true, (offer.name, (offer.blob, tt))) (
      true,
      (other.name, (other.blob, tt)),
    ) fields rest h.0 s h.3.0 in
    let one = offers_once offer other offer.name offer.blob refl refl is
    (sym (ap (λ v. v.1.0) once.0)) (sym (ap (λ v. v.1.1.0) once.0)) h.3.1 in
    absurd (none h.2 (subst (EndsInSignature h.2) (sym once.1) h.4)
    (h.5 ∙ ap (λ o. algorithm_name o.algorithm) (sym one)))
unsigned given all fields rest offer is s none Unusable_method h = λ auth user. tt
unsigned given all fields rest offer is s none Broken_method h = λ auth user. tt
unsigned given all fields rest offer is s none Misnamed_method h = λ auth user. tt
unsigned given all fields rest offer is s none (Unfit_method why) h = λ auth user. tt
unsigned given all fields rest offer is s none _ h = absurd h

-- what follows the offer ends the payload
behind_offer : (payload front fields rest : List ℕ) (offer : Offer) → payload ≡ 50 ∷ front ++ fields
    → SpellsAll offer_fields (true, (offer.name, (offer.blob, tt))) fields rest
    → (before : List ℕ) × (payload ≡ (50 ∷ before) ++ rest)
behind_offer payload front fields rest offer whole s =
    let middle = spells_front offer_fields (true, (offer.name, (offer.blob, tt))) fields rest s in (
      front ++ middle.0,
      whole ∙ ap (λ x. 50 ∷ front ++ x) middle.1
          ∙ ap (λ x. 50 ∷ x) (sym (append_assoc front middle.0 rest)),
    )

-- the session id and the payload up to the signature are what the signature covers
pub covered : (session_id payload front fields rest message : List ℕ) (offer : Offer)
    → payload ≡ 50 ∷ front ++ fields
    → SpellsAll offer_fields (true, (offer.name, (offer.blob, tt))) fields rest
    → message ≡ string session_id ++ take (length payload - length rest) payload
    → (unsigned : List ℕ) × (message ≡ question session_id unsigned)
    × (drop 1 payload ≡ unsigned ++ rest)
covered session_id payload front fields rest message offer whole s is =
    let parts = behind_offer payload front fields rest offer whole s in (
      parts.0,
      is ∙ ap (λ x. string session_id ++ x) (up_to_rest payload (50 ∷ parts.0) rest parts.1),
      ap (λ x. drop 1 x) parts.1,
    )

-- what follows the offer is no longer than the payload
pub behind_fits : (payload front fields rest : List ℕ) (offer : Offer)
    → payload ≡ 50 ∷ front ++ fields
    → SpellsAll offer_fields (true, (offer.name, (offer.blob, tt))) fields rest
    → length rest ≤ length payload
behind_fits payload front fields rest offer whole s =
    let parts = behind_offer payload front fields rest offer whole s in
    omega (arith, ap length parts.1, length-append (50 ∷ parts.0) rest)

-- the bytes do not end in a signature
pub no_signature : {E : Type 0} (bytes : List ℕ) (e : AuthError E) (why : WireError)
    → e ≡ error.Encoding why → SignatureFails bytes e → (signature : Signature)
    → EndsInSignature signature bytes → ⊥
no_signature bytes e why is fails signature ends = signed_fits signature bytes why ends
    (subst (SignatureFails bytes) is fails)

pub no_key_signature : {E : Type 0} (bytes : List ℕ) (e : AuthError E) (why : KeyError)
    → e ≡ error.Key why → SignatureFails bytes e → (signature : Signature)
    → EndsInSignature signature bytes → ⊥
no_key_signature bytes e why is fails signature ends =
    let read = subst (SignatureFails bytes) is fails in signed_holds signature bytes ends read.1

-- ---- a request

-- its head does not fit
pub unfit_head : (given : Circumstances) (auth : AuthRequest) (fields : List ℕ) (why : WireError)
    → MisfitsAll head_fields fields why → (said : Requested) → SaysRequest given fields said
    → AsksNothing (verdict auth said)
unfit_head given auth fields why m (Request user method) h =
    absurd (misfits_all_not_spells head_fields (user, (codes "ssh-connection", (h.0, tt))) fields
    h.1 why m h.2)
unfit_head given auth fields why m Other_service h = tt
unfit_head given auth fields why m (Unfit other) h = tt
unfit_head given auth fields why m Unread h = tt

-- it is for another service
pub other_service : (given : Circumstances) (auth : AuthRequest)
    (fields user service name rest : List ℕ)
    → SpellsAll head_fields (user, (service, (name, tt))) fields rest
    → service ≢ codes "ssh-connection" → (said : Requested) → SaysRequest given fields said
    → AsksNothing (verdict auth said)
other_service given auth fields user service name rest s other (Request user' method) h =
    let once = spells_all_once head_fields (user, (service, (name, tt))) (
      user',
      (codes "ssh-connection", (h.0, tt)),
    ) fields rest h.1 s h.2 in
    absurd (other (ap (λ v. v.1.0) once.0))
other_service given auth fields user service name rest s other Other_service h = tt
other_service given auth fields user service name rest s other (Unfit why) h = tt
other_service given auth fields user service name rest s other Unread h = tt

-- its method asks nothing
pub silent_request : (given : Circumstances) (auth : AuthRequest) (fields user name rest : List ℕ)
    → SpellsAll head_fields (user, (codes "ssh-connection", (name, tt))) fields rest
    → ((method : Method) → SaysMethod given fields (named_by name) rest method → IsSilent method)
    → (said : Requested) → SaysRequest given fields said → AsksNothing (verdict auth said)
silent_request given auth fields user name rest s silent (Request user' method) h =
    let once = spells_all_once head_fields (user', (codes "ssh-connection", (h.0, tt))) (
      user,
      (codes "ssh-connection", (name, tt)),
    ) fields h.1 rest h.2 s in
    let names : h.0 ≡ name = ap (λ v. v.1.1.0) once.0 in
    silent method (subst (λ x. SaysMethod given fields (named_by name) x method) once.1
    (subst (λ x. SaysMethod given fields (named_by x) h.1 method) names h.3))
    (begun auth user' (codes "ssh-connection")) user'
silent_request given auth fields user name rest s silent Other_service h = tt
silent_request given auth fields user name rest s silent (Unfit why) h = tt
silent_request given auth fields user name rest s silent Unread h = tt

-- ---- a response

-- the response does not fit
pub unfit_response : (auth : AuthRequest) (fields : List ℕ) (prompt : List ℕ × List ℕ)
    (why : WireError) → Some prompt ≡ prompt_of auth → SaysResponses fields (Unfit_responses why)
    → (said : Responded) → SaysResponses fields said → AsksNothing (response_verdict auth said)
unfit_response auth fields prompt why is m (Responses responses) h =
    absurd (never_unfit fields responses why h m)
unfit_response auth fields prompt why is m (Unfit_responses other) h = rw (sym is) tt
unfit_response auth fields prompt why is m Unread_responses h = rw (sym is) tt
