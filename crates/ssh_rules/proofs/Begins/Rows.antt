-- No row and no command asks an exchange of keys to begin, but for a KEXINIT of the peer's that
-- comes while none runs.
use Rattle.std.proofs.Common.{◌≡◌, ◌⊎◌, ◌==◌, ◌+◌, ℕ, List, [], ◌∷◌, map, Bool, true}
use Rattle.std.proofs.Common.{false, not, refl, sym, ◌∙◌, subst, inl, inr, Option, None}
use Rattle.std.specs.Prelude.{bytes_eq, codes, nat_lt, ◌&&◌, if◌then◌else◌}
use Rattle.ssh_link.specs.declared.command.Command.{Command}
use Rattle.ssh_link.specs.declared.command.Command.TheVariants as command
use Rattle.ssh_link.specs.declared.frame.InputKind.{InputKind}
use Rattle.ssh_link.specs.declared.frame.InputKind.TheVariants as input
use Rattle.ssh_link.specs.declared.link.TraceEntry.{TraceEntry}
use Rattle.ssh_link.specs.declared.link.TraceEntry.TheVariants.{Noticed, Sent}
use Rattle.ssh_link.specs.declared.link.TraceEntry.TheVariants.{Answered as Replied_to}
use Rattle.ssh_link.specs.declared.outcome.CommandOutcome.{CommandOutcome}
use Rattle.ssh_link.specs.declared.outcome.CommandOutcome.TheVariants.{Accepted, Opened}
use Rattle.ssh_link.specs.declared.outcome.CommandOutcome.TheVariants.{Refused as Denied}
use Rattle.ssh_auth.specs.declared.auth_request.AuthRequest.{AuthRequest}
use Rattle.ssh_auth.specs.declared.question.Question.{Question}
use Rattle.ssh_auth.specs.declared.question.Question.TheVariants as ask
use Rattle.ssh_auth.specs.Plan.{Plan, Finish, Ask, Tell, Answer}
use Rattle.ssh_auth.specs.Plan.{after}
use Rattle.ssh_auth.specs.Publickey.{Acceptance}
use Rattle.ssh_auth.specs.Verdict.{AuthOutcome, Replies, verdict as verdict_on, response_verdict}
use Rattle.ssh_auth.specs.Verdict as auth
use Rattle.ssh_rules.specs.declared.exchange.ExchangeState.{ExchangeState}
use Rattle.ssh_rules.specs.declared.exchange.ExchangeState.TheVariants.{Idle, Own, Both}
use Rattle.ssh_rules.specs.declared.exchange.Passage.{Passage}
use Rattle.ssh_rules.specs.declared.exchange.Passage.TheVariants.{Begins, Steps, Barred, Late}
use Rattle.ssh_rules.specs.declared.exchange.Passage.TheVariants.{Passes}
use Rattle.ssh_rules.specs.declared.state.EncryptedState.{EncryptedState}
use Rattle.ssh_rules.specs.declared.state.EncryptedState.TheVariants.{WaitingAuthRequest}
use Rattle.ssh_rules.specs.Acts.{Act, Notes, Calls, Judges_by, Listens_by, Adjusts_by, Turns}
use Rattle.ssh_rules.specs.Acts.{Is_over, Stops, Exchanges, Beginning, Stepping, tell_all}
use Rattle.ssh_rules.specs.Acts.{tell_done, done, done_all, acts, exchanged, moved, payloads_given}
use Rattle.ssh_rules.specs.Acts.{frames_given}
use Rattle.ssh_rules.specs.Effect.{Effect, Brings, effect, effect_at}
use Rattle.ssh_rules.specs.Exchange.{is_exchanged, is_running, is_serving, most_early, passage_of}
use Rattle.ssh_rules.specs.Ledger.{is_kexinit}
use Rattle.ssh_rules.specs.Outcome.{Outcome, Goes}
use Rattle.ssh_rules.specs.Reading.{Said, Service, Request, Response}
use Rattle.ssh_rules.specs.Rows.{row, owed, greets, is_short, replied, concluded, where_waiting}
use Rattle.ssh_rules.specs.Run.{OwesKind, OwesPassed}
use Rattle.ssh_rules.specs.Run.{command_row}
use Rattle.ssh_rules.specs.Run.{passage}
use Rattle.ssh_rules.specs.Ticks.{keepalive_acts, is_too_many, one_more}
use Rattle.ssh_rules.specs.World.{World, ChannelRequest, hears, in_exchange, waits_for}
use Rattle.ssh_rules.proofs.Plans.Verdicts.{EndsSo, IsBeside, verdict_beside, response_beside}
use Rattle.ssh_rules.proofs.Exchanged.Events.{early_same}
use Rattle.ssh_rules.proofs.Exchanged.Rows.{AreUntouched, owed_untouched, replied_untouched}
use Rattle.ssh_rules.proofs.Exchanged.Rows.{greets_untouched}
use Rattle.ssh_auth.specs.Proven.{AsksOnly}

-- a question that does not ask an exchange to begin
abbrev pub asks_beginning : Question → Bool
asks_beginning ask.Begins = true
asks_beginning _ = false

abbrev pub IsElse : Question → Type 0
IsElse question = asks_beginning question ≡ false

-- whatever is answered, no exchange is asked to begin
abbrev pub NeverBegins : Plan Outcome → Type 0
NeverBegins plan = AsksOnly IsElse plan

-- a question that is not for an exchange
abbrev pub asks_exchange : Question → Bool
asks_exchange ask.Begins = true
asks_exchange (ask.Steps payload) = true
asks_exchange _ = false

abbrev pub IsApart : Question → Type 0
IsApart question = asks_exchange question ≡ false

-- whatever is answered, no exchange is asked anything
abbrev pub NeverExchanges : Plan Outcome → Type 0
NeverExchanges plan = AsksOnly IsApart plan

apart_else : (question : Question) → IsApart question → IsElse question
apart_else ask.Banner h = refl
apart_else (ask.Admits admission) h = refl
apart_else (ask.Lends lent) h = refl
apart_else (ask.Judges judged) h = refl
apart_else (ask.Listens address port) h = refl
apart_else (ask.Adjusts channel current) h = refl
apart_else (ask.Done place outcome) h = refl
apart_else ask.Begins h = h
apart_else (ask.Steps payload) h = refl

begins_never : (plan : Plan Outcome) → NeverExchanges plan → NeverBegins plan
begins_never (Finish outcome) h = tt
begins_never (Ask question next) h =
    (apart_else question h.0, λ answer. begins_never (next answer) (h.1 answer))
begins_never (Tell entry next) h = begins_never next h

-- ---- acts

tells_only : (Only : Question → Type 0) (entries : List TraceEntry) (next : Plan Outcome)
    → AsksOnly Only next → AsksOnly Only (tell_all entries next)
tells_only Only [] next h = h
tells_only Only (entry ∷ entries) next h = tells_only Only entries next h

told_never : (place : ℕ) (outcome : CommandOutcome) (next : Plan Outcome) → NeverExchanges next
    → NeverExchanges (tell_done place outcome next)
told_never place Accepted next h = h
told_never place (Opened channel) next h = (refl, λ _. h)
told_never place (Denied why) next h = (refl, λ _. h)

one_never : (does : Effect) (next : CommandOutcome → World → Plan Outcome)
    → ((outcome : CommandOutcome) (world : World) → NeverExchanges (next outcome world))
    → NeverExchanges (done does next)
one_never (Brings notices outcome world) next h =
    tells_only IsApart (map Noticed notices) (next outcome world) (h outcome world)

all_never : (at : Option ChannelRequest) (place : ℕ) (commands : List Command) (w : World)
    (next : World → Plan Outcome) → ((world : World) → NeverExchanges (next world))
    → NeverExchanges (done_all at place commands w next)
all_never at place [] w next h = h w
all_never at place (one ∷ commands) w next h =
    one_never (effect_at at w one) (λ outcome world. tell_done place outcome
    (done_all at (place + 1) commands world next))
    (λ outcome world. told_never place outcome (done_all at (place + 1) commands world next)
    (all_never at (place + 1) commands world next h))

acts_never : (now : List Act) (w : World) → AreUntouched now → NeverExchanges (acts now w)
acts_never [] w a = tt
acts_never (Notes notice ∷ later) w a = acts_never later w a
acts_never (Calls at lent ∷ later) w a = (
  refl,
  λ commands. all_never at 0 commands w (acts later) (λ v. acts_never later v a),
)
acts_never (Judges_by at judged by ∷ later) w a = (
  refl,
  λ answer. all_never at 0 answer.commands w (λ v. acts later (by answer.granted v))
      (λ v. acts_never later (by answer.granted v) a.1),
)
acts_never (Listens_by address port by ∷ later) w a = (
  refl,
  λ answer. all_never None 0 answer.commands w
      (λ v. acts later (by answer.granted answer.port v))
      (λ v. acts_never later (by answer.granted answer.port v) a.1),
)
acts_never (Adjusts_by channel current by ∷ later) w a =
    (refl, λ window. acts_never later (by window w) a.1)
acts_never (Exchanges asked ∷ later) w a = absurd a
acts_never (Turns by ∷ later) w a = acts_never later (by w) a.1
acts_never (Is_over ∷ later) w a = tt
acts_never (Stops why ∷ later) w a = tt

-- ---- rows

verdict_never : (plan : Plan AuthOutcome) (later : AuthOutcome → Plan Outcome)
    → EndsSo IsBeside plan → ((outcome : AuthOutcome) → NeverExchanges (later outcome))
    → NeverExchanges (after plan later)
verdict_never (Finish outcome) later e h = h outcome
verdict_never (Ask (ask.Admits admission) next) later e h =
    (refl, λ answer. verdict_never (next answer) later (e.1 answer) h)
verdict_never (Ask other next) later e h = absurd e.0
verdict_never (Tell entry next) later e h = absurd e

concluded_never : (w : World) (moment : ℕ) (requested : Bool) (outcome : AuthOutcome)
    → NeverExchanges (concluded w moment requested outcome)
concluded_never w moment requested (Replies reply v state) =
    let u = waits_for (WaitingAuthRequest state) w in
    acts_never (replied u moment requested reply v) u
    (replied_untouched u moment requested reply v)
concluded_never w moment requested (auth.Fails fault) = tt

asked_never : (state : EncryptedState) (next : AuthRequest → Plan AuthOutcome) (w : World)
    (moment : ℕ) (requested : Bool) → ((auth : AuthRequest) → EndsSo IsBeside (next auth))
    → NeverExchanges (where_waiting state (λ auth. after (next auth) (concluded w moment requested))
    (acts [] w))
asked_never (WaitingAuthRequest auth) next w moment requested e =
    verdict_never (next auth) (concluded w moment requested) (e auth)
    (λ outcome. concluded_never w moment requested outcome)
asked_never _ next w moment requested e = tt

service_never : (w : World) (b : Bool) → NeverExchanges
    (if b then Ask ask.Banner (λ message. acts (greets message) w) else acts [] w)
service_never w true = (
  refl,
  λ message. acts_never (greets message) w (greets_untouched message (is_short message) refl),
)
service_never w false = tt

pub row_never : (w : World) (moment : ℕ) (said : Said) → NeverExchanges (row w moment said)
row_never w moment (Service name) = service_never w (bytes_eq name (codes "ssh-userauth"))
row_never w moment (Request asked) =
    asked_never w.user.state (λ auth. verdict_on auth asked) w moment true (verdict_beside asked)
row_never w moment (Response responded) =
    asked_never w.user.state (λ auth. response_verdict auth responded) w moment
    w.user.requested (response_beside responded)
row_never w moment said = acts_never (owed w said) w (owed_untouched w said)

pub command_never : (w : World) (ticket : ℕ) (one : Command) → NeverExchanges (command_row w ticket one)
command_never w ticket one =
    one_never (effect w one) (λ outcome world. Tell (Replied_to ticket outcome)
    (Finish (Goes world))) (λ outcome world. tt)

keepalive_never : (w : World) (many : Bool) → is_too_many w.settings.config (one_more w.keepalives)
    ≡ many → NeverExchanges (acts (keepalive_acts w) w)
keepalive_never w true is = rw is tt
keepalive_never w false is = rw is tt

pub tick_never : (w : World) → NeverExchanges (acts (keepalive_acts w) w)
tick_never w = keepalive_never w (is_too_many w.settings.config (one_more w.keepalives)) refl

stepped_never : (payload : List ℕ) (w : World)
    → NeverBegins (acts (Exchanges (Stepping payload) ∷ []) w)
stepped_never payload w = (
  refl,
  λ step. tells_only IsElse (map Sent (frames_given (payloads_given (Stepping payload) step)))
      (Finish (Goes (moved (Stepping payload) step w))) tt,
)

-- ---- inputs

-- it is asked to begin first, and then never
abbrev pub BeginsFirst : World → InputKind → Plan Outcome → Type 0
BeginsFirst w kind plan = (is_kexinit kind ≡ true) × (in_exchange w ≡ false)
    × ((next : Answer ask.Begins → Plan Outcome) × (plan ≡ Ask ask.Begins next)
    × ((answer : Answer ask.Begins) → NeverBegins (next answer)))

begin_step : (b : Bool) → (if b then Begins else Passes) ≡ Begins → b ≡ true
begin_step true is = refl
begin_step false is = absurd (cc)

no_begin : (a b : Bool) → (if a then Steps else (if b then Late else Passes)) ≡ Begins → ⊥
no_begin true b is = absurd (cc)
no_begin false true is = absurd (cc)
no_begin false false is = absurd (cc)

none_begins : (a b : Bool) → (if a then Steps else (if b then Barred else Passes)) ≡ Begins → ⊥
none_begins true b is = absurd (cc)
none_begins false true is = absurd (cc)
none_begins false false is = absurd (cc)

begins_by : (exchange : ExchangeState) (window : ℕ) (payload : List ℕ)
    → passage_of exchange window payload ≡ Begins
    → (is_kexinit (input.Payload payload) ≡ true) × (is_running exchange ≡ false)
begins_by exchange window [] is = absurd (cc)
begins_by Idle window (number ∷ fields) is = (begin_step (number == 20) is, refl)
begins_by (Own early) window (number ∷ fields) is =
    absurd (no_begin (is_exchanged number)
    (is_serving number && nat_lt (most_early window) early) is)
begins_by Both window (number ∷ fields) is =
    absurd (none_begins (is_exchanged number) (is_serving number) is)

passed_begins : (accepts : Acceptance) (w : World) (moment : ℕ) (payload : List ℕ)
    (plan : Plan Outcome) (at : Passage) → passage w payload ≡ at
    → OwesPassed at accepts w moment payload plan
    → NeverBegins plan ⊎ BeginsFirst w (input.Payload payload) plan
passed_begins accepts w moment payload plan Passes is o =
    inl (subst NeverBegins (sym o.2) (begins_never (row w moment o.0) (row_never w moment o.0)))
passed_begins accepts w moment payload plan Begins is o =
    let by = begins_by w.keys.exchange w.settings.config.window_size payload is in
    inr (
      by.0,
      by.1,
      (
        λ answer. exchanged Beginning answer w (acts (Exchanges (Stepping payload) ∷ [])),
        o,
        λ answer. tells_only IsElse (map Sent (frames_given (payloads_given Beginning answer)))
            (acts (Exchanges (Stepping payload) ∷ []) (moved Beginning answer w))
            (stepped_never payload (moved Beginning answer w)),
      ),
    )
passed_begins accepts w moment payload plan Steps is o =
    inl (subst NeverBegins (sym o) (stepped_never payload w))
passed_begins accepts w moment payload plan Barred is o = inl (subst NeverBegins (sym o) tt)
passed_begins accepts w moment payload plan Late is o = inl (subst NeverBegins (sym o) tt)

-- a payload that was heard leaves an exchange running or none
was_idle : (w : World) (payload : List ℕ) (plan : Plan Outcome)
    → NeverBegins plan ⊎ BeginsFirst (hears payload w) (input.Payload payload) plan
    → NeverBegins plan ⊎ BeginsFirst w (input.Payload payload) plan
was_idle w payload plan (inl never) = inl never
was_idle w payload plan (inr first) =
    inr (first.0, sym (early_same payload w.keys.exchange) ∙ first.1, first.2)

pub kind_begins : (accepts : Acceptance) (w : World) (moment : ℕ) (kind : InputKind)
    (plan : Plan Outcome) → OwesKind accepts w moment kind plan
    → NeverBegins plan ⊎ BeginsFirst w kind plan
kind_begins accepts w moment input.End plan o = inl (subst NeverBegins (sym o) tt)
kind_begins accepts w moment (input.Payload payload) plan o =
    let v = hears payload w in
    was_idle w payload plan
    (passed_begins accepts v moment payload plan (passage v payload) refl o)
kind_begins accepts w moment (input.Command ticket one) plan o =
    inl (subst NeverBegins (sym o)
    (begins_never (command_row w ticket one) (command_never w ticket one)))
kind_begins accepts w moment (input.OpenReply ticket answer) plan o =
    inl (subst NeverBegins (sym o)
    (begins_never (command_row w ticket (command.Answer answer))
    (command_never w ticket (command.Answer answer))))
kind_begins accepts w moment input.KeepaliveTick plan o =
    inl (subst NeverBegins (sym o)
    (begins_never (acts (keepalive_acts w) w) (tick_never w)))
kind_begins accepts w moment input.InactivityTick plan o = inl (subst NeverBegins (sym o) tt)
kind_begins accepts w moment input.RekeyTick plan o = inl (subst NeverBegins (sym o) tt)
