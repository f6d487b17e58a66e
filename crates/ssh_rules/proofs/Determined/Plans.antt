-- An input owes one plan, but for want of memory, and for a verifier that was not asked.
use Rattle.std.proofs.Common.{◌≡◌, ◌⊎◌, ℕ, List, [], Bool, true, false, Option, Some, None}
use Rattle.std.proofs.Common.{refl, sym, ◌∙◌, ap, subst, inl, inr}
use Rattle.std.specs.Prelude.{codes, drop, if◌then◌else◌}
use Rattle.ssh_link.specs.declared.frame.Input.{Input}
use Rattle.ssh_link.specs.declared.frame.InputKind.{InputKind}
use Rattle.ssh_link.specs.declared.frame.InputKind.TheVariants.{Payload, End, Command, OpenReply}
use Rattle.ssh_link.specs.declared.frame.InputKind.TheVariants.{KeepaliveTick, InactivityTick}
use Rattle.ssh_link.specs.declared.frame.InputKind.TheVariants.{RekeyTick}
use Rattle.ssh_keys.specs.Offers.{offered_key}
use Rattle.ssh_auth.specs.declared.auth.Auth.{Auth}
use Rattle.ssh_auth.specs.declared.auth.Auth.TheVariants.{Reject, Accept, UnsupportedMethod}
use Rattle.ssh_auth.specs.declared.auth.Auth.TheVariants.{Partial}
use Rattle.ssh_auth.specs.declared.auth_request.AuthRequest.{AuthRequest}
use Rattle.ssh_auth.specs.declared.question.Admission.TheVariants as by
use Rattle.ssh_auth.specs.declared.question.Question.TheVariants.{Admits}
use Rattle.ssh_auth.specs.Plan.{Plan, Ask, after}
use Rattle.ssh_auth.specs.Publickey.{Acceptance, Circumstances, Offer}
use Rattle.ssh_auth.specs.Request.{begun, is_probed, prompt_of}
use Rattle.ssh_auth.specs.Requested.{Requested as Asked, Method, Signed_method}
use Rattle.ssh_auth.specs.Requested as asks
use Rattle.ssh_auth.specs.Response.{Responded, Responses, Unfit_responses, Unread_responses}
use Rattle.ssh_auth.specs.Verdict.{signed, refused, permitted, responded, verdict, response_verdict}
use Rattle.ssh_rules.specs.declared.gate.Gate.{Gate}
use Rattle.ssh_rules.specs.declared.gate.Gate.TheVariants as gate
use Rattle.ssh_rules.specs.declared.state.EncryptedState.{EncryptedState}
use Rattle.ssh_rules.specs.declared.state.EncryptedState.TheVariants.{WaitingAuthServiceRequest}
use Rattle.ssh_rules.specs.declared.state.EncryptedState.TheVariants.{WaitingAuthRequest}
use Rattle.ssh_rules.specs.declared.state.EncryptedState.TheVariants.{InitCompression}
use Rattle.ssh_rules.specs.declared.state.EncryptedState.TheVariants.{Authenticated}
use Rattle.ssh_rules.specs.Acts.{acts}
use Rattle.ssh_rules.specs.Gate.{gate_of}
use Rattle.ssh_rules.specs.Outcome.{Outcome}
use Rattle.ssh_rules.specs.Messages.{message_layout}
use Rattle.ssh_rules.specs.Reading.{Said, Service, Request, Response, Connection, Unread, Says}
use Rattle.ssh_rules.specs.Reading.{service}
use Rattle.ssh_rules.specs.Rows.{row, concluded, where_waiting}
use Rattle.ssh_rules.specs.declared.exchange.Passage.{Passage}
use Rattle.ssh_rules.specs.declared.exchange.Passage.TheVariants.{Begins, Steps, Barred, Late}
use Rattle.ssh_rules.specs.declared.exchange.Passage.TheVariants.{Passes}
use Rattle.ssh_rules.specs.Run.{OwesKind, OwesPassed, Owes, finish_input, passage, asks_for_keys}
use Rattle.ssh_rules.specs.Short.{IsShortOf}
use Rattle.ssh_rules.specs.World.{World, circumstances, hears}
use Rattle.ssh_auth.proofs.KeyFields.{AreOneAnswer, AreOneMethod}
use Rattle.ssh_rules.proofs.Determined.Layouts.{said_once, open_once, confirmation_once}
use Rattle.ssh_auth.proofs.RequestsOnce.{AreOneRequest, request_once}
use Rattle.ssh_auth.proofs.ResponsesOnce.{AreOneResponse, responses_once}
use Rattle.ssh_rules.proofs.Determined.Shorter.{whole, whole_as, finished_short}

-- one of the two is short of the other
abbrev pub AreOne : Plan Outcome → Plan Outcome → Type 0
AreOne plan other = IsShortOf plan other ⊎ IsShortOf other plan

same : (plan other : Plan Outcome) → plan ≡ other → AreOne plan other
same plan other e = inl (whole_as plan other e)

same_row : (w : World) (moment : ℕ) (a b : Said) → a ≡ b → AreOne (row w moment a) (row w moment b)
same_row w moment a b e = same (row w moment a) (row w moment b) (ap (row w moment) e)

-- ---- a request by a key, whose verifier was not asked

-- what a key that was asked about goes on to
permitted_short : (w : World) (moment : ℕ) (state : AuthRequest) (user : List ℕ) (offer : Offer)
    (accepted : Option Bool) (answer : Auth)
    → IsShortOf (after (permitted state answer (signed state user offer None))
    (concluded w moment true))
    (after (permitted state answer (signed state user offer accepted))
    (concluded w moment true))
permitted_short w moment state user offer accepted Accept = tt
permitted_short w moment state user offer accepted (Reject methods partial) =
    whole (concluded w moment true (refused state))
permitted_short w moment state user offer accepted UnsupportedMethod =
    whole (concluded w moment true (refused state))
permitted_short w moment state user offer accepted (Partial name instructions prompts) =
    whole (concluded w moment true (refused state))

-- a request by a key that is asked about first, or was already
signed_short : (w : World) (moment : ℕ) (state : AuthRequest) (user : List ℕ) (offer : Offer)
    (accepted : Option Bool) (is_asked : Bool)
    → IsShortOf (after (if is_asked then signed state user offer None
    else Ask (Admits (by.PublickeyOffered user (offered_key offer.key) offer.algorithm))
    (λ answer. permitted state answer (signed state user offer None)))
    (concluded w moment true))
    (after (if is_asked then signed state user offer accepted
    else Ask (Admits (by.PublickeyOffered user (offered_key offer.key) offer.algorithm))
    (λ answer. permitted state answer (signed state user offer accepted)))
    (concluded w moment true))
signed_short w moment state user offer accepted true = tt
signed_short w moment state user offer accepted false = (
  λ answer. after (permitted state answer (signed state user offer accepted))
      (concluded w moment true),
  refl,
  λ answer. permitted_short w moment state user offer
      accepted answer,
)

-- what is owed where requests are waited for
abbrev asked_in : World → (moment : ℕ) → EncryptedState → Asked → Plan Outcome
asked_in w moment state asked =
    where_waiting state (λ auth. after (verdict auth asked) (concluded w moment true)) (acts [] w)

abbrev by_key : List ℕ → Offer → Option Bool → Asked
by_key user offer accepted = asks.Request user (Signed_method offer accepted)

unasked_short : (w : World) (moment : ℕ) (state : EncryptedState) (user : List ℕ) (offer : Offer)
    (accepted : Option Bool)
    → IsShortOf (asked_in w moment state (by_key user offer None))
    (asked_in w moment state (by_key user offer accepted))
unasked_short w moment (WaitingAuthRequest auth) user offer accepted =
    let state = begun auth user (codes "ssh-connection") in
    signed_short w moment state user offer accepted
    (is_probed state.current offer.name offer.blob)
unasked_short w moment (WaitingAuthServiceRequest sent taken) user offer accepted =
    whole (acts [] w)
unasked_short w moment InitCompression user offer accepted = whole (acts [] w)
unasked_short w moment Authenticated user offer accepted = whole (acts [] w)

abbrev key_row : World → (moment : ℕ) → List ℕ → Offer → Option Bool → Plan Outcome
key_row w moment user offer accepted = row w moment (Request (by_key user offer accepted))

key_short : (w : World) (moment : ℕ) (user : List ℕ) (offer : Offer) (accepted : Option Bool)
    → IsShortOf (key_row w moment user offer None) (key_row w moment user offer accepted)
key_short w moment user offer accepted = unasked_short w moment w.user.state user offer accepted

answers_one : (w : World) (moment : ℕ) (user : List ℕ) (offer : Offer) (a b : Option Bool)
    → AreOneAnswer a b → AreOne (key_row w moment user offer a) (key_row w moment user offer b)
answers_one w moment user offer None b e = inl (key_short w moment user offer b)
answers_one w moment user offer (Some a) None e = inr (key_short w moment user offer (Some a))
answers_one w moment user offer (Some a) (Some b) e =
    same (key_row w moment user offer (Some a)) (key_row w moment user offer (Some b))
    (ap (λ x. key_row w moment user offer (Some x)) e)

abbrev method_row : World → (moment : ℕ) → List ℕ → Method → Plan Outcome
method_row w moment user method = row w moment (Request (asks.Request user method))

methods_one : (w : World) (moment : ℕ) (user : List ℕ) (a b : Method) → AreOneMethod a b
    → AreOne (method_row w moment user a) (method_row w moment user b)
methods_one w moment user (Signed_method m a) (Signed_method n b) e =
    subst (λ x. AreOne (key_row w moment user m a) (key_row w moment user x b)) e.0
    (answers_one w moment user m a b e.1)
methods_one w moment user (Signed_method m a) b e =
    same (method_row w moment user (Signed_method m a)) (method_row w moment user b)
    (ap (method_row w moment user) e)
methods_one w moment user a b e =
    same (method_row w moment user a) (method_row w moment user b)
    (ap (method_row w moment user) e)

-- ---- a request that was not read

unread_short : (w : World) (moment : ℕ) (state : EncryptedState) (asked : Asked)
    → IsShortOf (asked_in w moment state asks.Unread) (asked_in w moment state asked)
unread_short w moment (WaitingAuthRequest auth) asked = tt
unread_short w moment (WaitingAuthServiceRequest sent taken) asked = whole (acts [] w)
unread_short w moment InitCompression asked = whole (acts [] w)
unread_short w moment Authenticated asked = whole (acts [] w)

abbrev request_row : World → (moment : ℕ) → Asked → Plan Outcome
request_row w moment asked = row w moment (Request asked)

requests_one : (w : World) (moment : ℕ) (a b : Asked) → AreOneRequest a b
    → AreOne (request_row w moment a) (request_row w moment b)
requests_one w moment asks.Unread b e = inl (unread_short w moment w.user.state b)
requests_one w moment (asks.Request user a) asks.Unread e =
    inr (unread_short w moment w.user.state (asks.Request user a))
requests_one w moment asks.Other_service asks.Unread e =
    inr (unread_short w moment w.user.state asks.Other_service)
requests_one w moment (asks.Unfit why) asks.Unread e =
    inr (unread_short w moment w.user.state (asks.Unfit why))
requests_one w moment (asks.Request user a) (asks.Request other b) e =
    subst (λ x. AreOne (method_row w moment user a) (method_row w moment x b)) e.0
    (methods_one w moment user a b e.1)
requests_one w moment a b e =
    same (request_row w moment a) (request_row w moment b) (ap (request_row w moment) e)

-- ---- a response that was not read

abbrev responded_in : World → (moment : ℕ) → EncryptedState → Responded → Plan Outcome
responded_in w moment state said =
    where_waiting state (λ auth. after (response_verdict auth said)
    (concluded w moment w.user.requested)) (acts [] w)

prompted_short : (w : World) (moment : ℕ) (requested : Bool) (state : AuthRequest)
    (prompt : Option (List ℕ × List ℕ)) (said : Responded)
    → IsShortOf (after (responded state prompt Unread_responses) (concluded w moment requested))
    (after (responded state prompt said) (concluded w moment requested))
prompted_short w moment requested state None said =
    whole (concluded w moment requested (refused state))
prompted_short w moment requested state (Some prompt) said = tt

unheard_short : (w : World) (moment : ℕ) (state : EncryptedState) (said : Responded)
    → IsShortOf (responded_in w moment state Unread_responses) (responded_in w moment state said)
unheard_short w moment (WaitingAuthRequest auth) said =
    prompted_short w moment w.user.requested (record auth { partial_success = false })
    (prompt_of auth) said
unheard_short w moment (WaitingAuthServiceRequest sent taken) said = whole (acts [] w)
unheard_short w moment InitCompression said = whole (acts [] w)
unheard_short w moment Authenticated said = whole (acts [] w)

abbrev response_row : World → (moment : ℕ) → Responded → Plan Outcome
response_row w moment said = row w moment (Response said)

responses_one : (w : World) (moment : ℕ) (a b : Responded) → AreOneResponse a b
    → AreOne (response_row w moment a) (response_row w moment b)
responses_one w moment Unread_responses b e = inl (unheard_short w moment w.user.state b)
responses_one w moment (Responses a) Unread_responses e =
    inr (unheard_short w moment w.user.state (Responses a))
responses_one w moment (Unfit_responses why) Unread_responses e =
    inr (unheard_short w moment w.user.state (Unfit_responses why))
responses_one w moment a b e =
    same (response_row w moment a) (response_row w moment b) (ap (response_row w moment) e)

-- ---- an open

open_rows : (w : World) (moment : ℕ) (a b : Said) → (a ≡ Unread) ⊎ ((b ≡ Unread) ⊎ (a ≡ b))
    → AreOne (row w moment a) (row w moment b)
open_rows w moment a b (inl e) =
    subst (λ x. AreOne (row w moment x) (row w moment b)) (sym e) (inl tt)
open_rows w moment a b (inr (inl e)) =
    subst (λ x. AreOne (row w moment a) (row w moment x)) (sym e) (inr tt)
open_rows w moment a b (inr (inr e)) = same_row w moment a b e

-- ---- an input

-- at a gate a payload owes one plan
said_one : (given : Circumstances) (w : World) (moment : ℕ) (at : Gate) (fields : List ℕ)
    (a b : Said) → Says given w at fields a → Says given w at fields b
    → AreOne (row w moment a) (row w moment b)
said_one given w moment gate.Nothing fields a b h k = same_row w moment a b (h ∙ sym k)
said_one given w moment gate.Ends fields a b h k = same_row w moment a b (h ∙ sym k)
said_one given w moment gate.OverCap fields a b h k = same_row w moment a b (h ∙ sym k)
said_one given w moment gate.UserauthRequest fields a b h k =
    subst (λ x. AreOne (row w moment x) (row w moment b)) (sym h.2)
    (subst (λ x. AreOne (request_row w moment h.0) (row w moment x)) (sym k.2)
    (requests_one w moment h.0 k.0 (request_once given fields h.0 k.0 h.1 k.1)))
said_one given w moment gate.InfoResponse fields a b h k =
    subst (λ x. AreOne (row w moment x) (row w moment b)) (sym h.2)
    (subst (λ x. AreOne (response_row w moment h.0) (row w moment x)) (sym k.2)
    (responses_one w moment h.0 k.0 (responses_once fields h.0 k.0 h.1 k.1)))
said_one given w moment gate.ChannelOpen fields a b h k =
    open_rows w moment a b (open_once fields a b h k)
said_one given w moment gate.OpenConfirmation fields a b h k =
    same_row w moment a b (confirmation_once fields a b h k)
said_one given w moment gate.ServiceRequest fields a b h k =
    same_row w moment a b (said_once Service service fields a b h k)
said_one given w moment (gate.Connection message) fields a b h k =
    same_row w moment a b (said_once Connection (message_layout w message) fields a b h k)

-- so it does by its passage
passed_one : (at : Passage) (accepts : Acceptance) (w : World) (moment : ℕ) (payload : List ℕ)
    (plan other : Plan Outcome) → OwesPassed at accepts w moment payload plan
    → OwesPassed at accepts w moment payload other → AreOne plan other
passed_one Passes accepts w moment payload plan other h k =
    subst (λ x. AreOne x other) (sym h.2)
    (subst (λ x. AreOne (row w moment h.0) x) (sym k.2)
    (said_one (circumstances accepts w.settings moment) w moment (gate_of w payload)
    (drop 1 payload) h.0 k.0 h.1 k.1))
passed_one Begins accepts w moment payload plan other h k = same plan other (h ∙ sym k)
passed_one Steps accepts w moment payload plan other h k = same plan other (h ∙ sym k)
passed_one Barred accepts w moment payload plan other h k = same plan other (h ∙ sym k)
passed_one Late accepts w moment payload plan other h k = same plan other (h ∙ sym k)

kind_one : (accepts : Acceptance) (w : World) (moment : ℕ) (kind : InputKind)
    (plan other : Plan Outcome) → OwesKind accepts w moment kind plan
    → OwesKind accepts w moment kind other → AreOne plan other
kind_one accepts w moment (Payload payload) plan other h k =
    let v = hears payload w in
    passed_one (passage v payload) accepts v moment payload plan other h k
kind_one accepts w moment End plan other h k = same plan other (h ∙ sym k)
kind_one accepts w moment (Command ticket commanded) plan other h k = same plan other (h ∙ sym k)
kind_one accepts w moment (OpenReply ticket answer) plan other h k = same plan other (h ∙ sym k)
kind_one accepts w moment KeepaliveTick plan other h k = same plan other (h ∙ sym k)
kind_one accepts w moment InactivityTick plan other h k = same plan other (h ∙ sym k)
kind_one accepts w moment RekeyTick plan other h k = same plan other (h ∙ sym k)

finished_one : (ticked : Bool) (plan other : Plan Outcome) → AreOne plan other
    → AreOne (after plan (finish_input ticked)) (after other (finish_input ticked))
finished_one ticked plan other (inl s) = inl (finished_short ticked plan other s)
finished_one ticked plan other (inr s) = inr (finished_short ticked other plan s)

pub input_one : (accepts : Acceptance) (w : World) (input : Input) (plan other : Plan Outcome)
    → Owes accepts w input plan → Owes accepts w input other → AreOne plan other
input_one accepts w input plan other h k =
    let ticked = asks_for_keys input.kind in
    subst (λ x. AreOne x other) (sym h.2)
    (subst (λ x. AreOne (after h.0 (finish_input ticked)) x) (sym k.2)
    (finished_one ticked h.0 k.0 (kind_one accepts w input.moment input.kind h.0 k.0 h.1 k.1)))
