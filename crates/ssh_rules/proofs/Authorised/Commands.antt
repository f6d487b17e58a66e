-- The commands and the ticks, too, are plans in which nothing of the connection comes before an
-- answer that accepts a user.
use Rattle.std.proofs.Common.{map, ◌≡◌, ◌⊎◌, ℕ, List, [], ◌∷◌, ◌++◌, Option, Some, None}
use Rattle.std.proofs.Common.{Bool, true, false, refl, sym, ap, subst, inl, inr, arith}
use Rattle.std.specs.Prelude.{codes, if◌then◌else◌, nat_lt}
use Rattle.ssh_wire.specs.Disconnects.{disconnect_code}
use Rattle.ssh_wire.specs.Field.{Number, Flag, Text}
use Rattle.ssh_wire.specs.Messages.{written, spellings, request_success, request_failure}
use Rattle.ssh_link.specs.declared.notice.Notice.{Notice}
use Rattle.ssh_link.specs.declared.command.Command.{Command as Commanded}
use Rattle.ssh_link.specs.declared.command.Command.TheVariants as command
use Rattle.ssh_link.specs.declared.frame.InputKind.{InputKind}
use Rattle.ssh_link.specs.declared.frame.InputKind.TheVariants.{Payload, Command, OpenReply, End}
use Rattle.ssh_link.specs.declared.frame.InputKind.TheVariants.{KeepaliveTick, InactivityTick}
use Rattle.ssh_link.specs.declared.frame.InputKind.TheVariants.{RekeyTick}
use Rattle.ssh_link.specs.declared.link.TraceEntry.TheVariants as traced
use Rattle.ssh_link.specs.declared.outcome.Refusal.{Refusal}
use Rattle.ssh_link.specs.declared.outcome.Refusal.TheVariants.{UnknownChannel, UnknownOpen}
use Rattle.ssh_link.specs.declared.outcome.Refusal.TheVariants.{NotAuthenticated}
use Rattle.ssh_auth.specs.Plan.{Plan, Finish, Tell}
use Rattle.ssh_auth.specs.Publickey.{Acceptance, Circumstances}
use Rattle.ssh_channels.specs.Lines.{find}
use Rattle.ssh_rules.specs.declared.state.EncryptedState.{EncryptedState}
use Rattle.ssh_rules.specs.declared.state.EncryptedState.TheVariants.{WaitingAuthServiceRequest}
use Rattle.ssh_rules.specs.declared.state.EncryptedState.TheVariants.{WaitingAuthRequest}
use Rattle.ssh_rules.specs.declared.state.EncryptedState.TheVariants.{InitCompression}
use Rattle.ssh_rules.specs.declared.state.EncryptedState.TheVariants.{Authenticated}
use Rattle.ssh_rules.specs.declared.exchange.ExchangeState.{ExchangeState}
use Rattle.ssh_rules.specs.declared.exchange.ExchangeState.TheVariants.{Idle, Own, Both}
use Rattle.ssh_rules.specs.declared.exchange.Passage.{Passage}
use Rattle.ssh_rules.specs.declared.exchange.Passage.TheVariants.{Begins, Steps, Barred, Late}
use Rattle.ssh_rules.specs.declared.exchange.Passage.TheVariants.{Passes}
use Rattle.ssh_rules.specs.Acts.{done, acts, tell_all, Stops, Turns, Exchanges, Beginning}
use Rattle.ssh_rules.specs.Acts.{Stepping}
use Rattle.ssh_rules.specs.Authorised.{IsRequestOf}
use Rattle.ssh_rules.specs.Effect.{Effect, Brings, effect, refused_or, refused_for, no_sending}
use Rattle.ssh_rules.specs.Effect.{no_closing, no_open, done_by, done_apart, no_user, lacks}
use Rattle.ssh_rules.specs.Effect.{opens_need, opens, opens_or_not, needs, apart_needs, sends}
use Rattle.ssh_rules.specs.Effect.{said}
use Rattle.ssh_rules.specs.Effect.{Need, Sending, Closing, Established, Opening_of, Needs_user}
use Rattle.ssh_rules.specs.Effect.{no_established}
use Rattle.ssh_rules.specs.OwnMessages.{OwnMessage, forward_request, cancel, keepalive, ping, debug}
use Rattle.ssh_rules.specs.OwnMessages.{disconnect_message, global_request_payload}
use Rattle.ssh_rules.specs.Ticks.{is_too_many, one_more, ticked}
use Rattle.ssh_rules.specs.OwnOpens.{OwnOpen, own_open_of}
use Rattle.ssh_rules.specs.Gate.{gate_of}
use Rattle.ssh_rules.specs.Layout.{at_once}
use Rattle.ssh_rules.specs.Opens.{opening_of}
use Rattle.ssh_rules.specs.Outcome.{Outcome, Goes, Keepalive_timeout}
use Rattle.ssh_rules.specs.Exchange.{passage_of, most_early}
use Rattle.ssh_rules.specs.Run.{OwesKind, OwesPassed, command_row, passage}
use Rattle.ssh_rules.specs.World.{World, circumstances, hears, writes, wants_global}
use Rattle.ssh_rules.specs.World.{settles_global}
use Rattle.ssh_rules.proofs.Plans.Acting.{EffectComes}
use Rattle.ssh_rules.proofs.Plans.Apart.{sent_comes, either as holds_either}
use Rattle.ssh_rules.proofs.Authorised.Guards.{IsBefore, IsClear, Guarded}
use Rattle.ssh_rules.proofs.Authorised.Guards.{plan_accepted, exchange_guarded}
use Rattle.ssh_rules.proofs.Authorised.Verdicts.{IsLow}
use Rattle.ssh_wire.specs.declared.channel_id.ChannelId.{ChannelId}
use Rattle.ssh_rules.proofs.Authorised.Rows.{low_frame, low_more, unnamed, row_guarded}

-- ---- commands

no_user_yet : (named : List ℕ → Type 0) (state : EncryptedState) → IsBefore named state
    → no_user state ≡ Some NotAuthenticated
no_user_yet named InitCompression h = absurd h
no_user_yet named Authenticated h = absurd h
no_user_yet named (WaitingAuthServiceRequest sent accepted) h = refl
no_user_yet named (WaitingAuthRequest auth) h = refl

-- where something is lacking, nothing is done
lacked : (named : List ℕ → Type 0) (w : World) (need : Need) (why : Refusal) (does : Effect)
    → lacks w need ≡ Some why → IsClear named w
    → EffectComes (IsClear named) (refused_or (lacks w need) w does)
lacked named w need why does is h = rw is h

-- a message of no channel is written
said_clear : (named : List ℕ → Type 0) (message : OwnMessage) (w : World) → IsLow message.payload
    → IsClear named w → IsClear named (said message w)
said_clear named message w low h =
    let frame = at_once message.payload in (
      h.0,
      h.1,
      h.2,
      low_more w.channels.lines.written (frame ∷ []) h.3
          (low_frame message.payload frame refl low, tt),
    )

sent_clear : (named : List ℕ → Type 0) (message : OwnMessage) (w : World) → IsLow message.payload
    → IsClear named w → EffectComes (IsClear named) (sends message w)
sent_clear named message w low h =
    sent_comes (IsClear named) message w h (said_clear named message w low h)

settles_clear : (named : List ℕ → Type 0) (payload : List ℕ) (w : World) → IsLow payload
    → IsClear named w → IsClear named (settles_global payload w)
settles_clear named payload w low h =
    let frame = at_once payload in
    let v = wants_global false w in
    holds_either (IsClear named) w.globals.wanted (writes (frame ∷ []) v) w (
      h.0,
      h.1,
      h.2,
      low_more w.channels.lines.written (frame ∷ []) h.3 (low_frame payload frame refl low, tt),
    ) h

-- nothing is opened before a user was let in
opening_clear : (named : List ℕ → Type 0) (w : World) (asked : Option OwnOpen) → IsClear named w
    → EffectComes (IsClear named)
    (refused_or (lacks w (opens_need asked)) w (opens_or_not asked w))
opening_clear named w None h = h
opening_clear named w (Some asked) h =
    lacked named w Needs_user NotAuthenticated (opens asked w) (no_user_yet named w.user.state h.0) h

asking_low : (name fields : List ℕ) (wanted : Bool) → IsLow (global_request_payload name fields wanted)
asking_low name fields wanted = (
  80,
  spellings (Text ∷ Flag ∷ []) (name, (wanted, tt)) ++ fields,
  refl,
  λ l. omega (arith, l),
)

apart_clear : (named : List ℕ → Type 0) (w : World) (one : Commanded) → IsClear named w
    → EffectComes (IsClear named) (refused_or (lacks w (apart_needs one)) w (done_apart w one))
apart_clear named w (command.TcpipForward address port reply) h =
    lacked named w Needs_user NotAuthenticated (sends (forward_request address port reply) w)
    (no_user_yet named w.user.state h.0) h
apart_clear named w (command.CancelTcpipForward address port reply) h =
    lacked named w Needs_user NotAuthenticated (sends (cancel address port reply) w)
    (no_user_yet named w.user.state h.0) h
apart_clear named w (command.ClientOnly channel message) h = h
apart_clear named w command.Keepalive h =
    sent_clear named keepalive w (asking_low (codes "keepalive@openssh.com") [] true) h
apart_clear named w (command.Ping slot) h =
    sent_clear named (ping slot) w (asking_low (codes "keepalive@openssh.com") [] true) h
apart_clear named w command.RequestSuccess h =
    settles_clear named (written request_success tt) w (81, [], refl, λ l. omega (arith, l)) h
apart_clear named w command.RequestFailure h =
    settles_clear named (written request_failure tt) w (82, [], refl, λ l. omega (arith, l)) h
apart_clear named w (command.Debug always text language) h =
    sent_clear named (debug always text language) w (
      4,
      spellings (Flag ∷ Text ∷ Text ∷ []) (always, (text, (language, tt))),
      refl,
      λ l. omega (arith, l),
    ) h
apart_clear named w (command.Disconnect reason description language) h =
    sent_clear named (disconnect_message reason description language) w (
      1,
      spellings (Number ∷ Text ∷ Text ∷ [])
          (disconnect_code reason, (description, (language, tt))),
      refl,
      λ l. omega (arith, l),
    ) h
apart_clear named w other h = opening_clear named w (own_open_of other) h

-- nothing is said on a channel that is not there
unestablished : (named : List ℕ → Type 0) (w : World) (channel : ChannelId) → IsClear named w
    → lacks w (Established channel) ≡ Some UnknownChannel
unestablished named w channel h = ap (λ es. no_established (find channel.0 es)) h.1

-- where there is neither a channel nor an open, a command leaves it so
done_clear : (named : List ℕ → Type 0) (w : World) (one : Commanded) → IsClear named w
    → EffectComes (IsClear named) (refused_or (lacks w (needs one)) w (done_by None w one))
done_clear named w (command.Data channel bytes) h =
    lacked named w (Sending channel) UnknownChannel (done_by None w (command.Data channel bytes))
    (ap (λ es. no_sending (find channel.0 es)) h.1) h
done_clear named w (command.ExtendedData channel code bytes) h =
    lacked named w (Sending channel) UnknownChannel
    (done_by None w (command.ExtendedData channel code bytes))
    (ap (λ es. no_sending (find channel.0 es)) h.1) h
done_clear named w (command.Eof channel) h =
    lacked named w (Sending channel) UnknownChannel (done_by None w (command.Eof channel))
    (ap (λ es. no_sending (find channel.0 es)) h.1) h
done_clear named w (command.Close channel) h =
    lacked named w (Closing channel) UnknownChannel (done_by None w (command.Close channel))
    (ap (λ es. no_closing (find channel.0 es)) h.1) h
done_clear named w (command.ChannelSuccess channel) h =
    lacked named w (Established channel) UnknownChannel
    (done_by None w (command.ChannelSuccess channel)) (unestablished named w channel h) h
done_clear named w (command.ChannelFailure channel) h =
    lacked named w (Established channel) UnknownChannel
    (done_by None w (command.ChannelFailure channel)) (unestablished named w channel h) h
done_clear named w (command.XonXoff channel client_can_do) h =
    lacked named w (Established channel) UnknownChannel
    (done_by None w (command.XonXoff channel client_can_do)) (unestablished named w channel h) h
done_clear named w (command.ExitStatus channel status) h =
    lacked named w (Established channel) UnknownChannel
    (done_by None w (command.ExitStatus channel status)) (unestablished named w channel h) h
done_clear named w (command.ExitSignal channel signal core message language) h =
    lacked named w (Established channel) UnknownChannel
    (done_by None w (command.ExitSignal channel signal core message language))
    (unestablished named w channel h) h
done_clear named w (command.Answer answer) h =
    let none : opening_of answer.channel.0 w ≡ None = rw h.2 refl in
    lacked named w (Opening_of answer.channel) UnknownOpen (done_by None w (command.Answer answer))
    (ap no_open none) h
done_clear named w other h = apart_clear named w other h

effect_step : (named : List ℕ → Type 0) (w : World) (one : Commanded) (ended : Bool)
    → IsClear named w
    → EffectComes (IsClear named) (refused_or (refused_for ended w one) w (done_by None w one))
effect_step named w one true h = h
effect_step named w one false h = done_clear named w one h

pub noted_guarded : (given : Circumstances) (named : List ℕ → Type 0) (a : Type 0)
    (kind : InputKind) (notices : List Notice) (next : Plan Outcome)
    → Guarded given named a kind next
    → Guarded given named a kind (tell_all (map traced.Noticed notices) next)
noted_guarded given named a kind [] next h = h
noted_guarded given named a kind (notice ∷ notices) next h =
    (λ n. absurd n, noted_guarded given named a kind notices next h)

done_guarded : (given : Circumstances) (named : List ℕ → Type 0) (a : Type 0) (kind : InputKind)
    (ticket : ℕ) (does : Effect) → ((other : List ℕ) → IsRequestOf other kind → ⊥)
    → EffectComes (IsClear named) does
    → Guarded given named a kind (done does (λ outcome world.
    Tell (traced.Answered ticket outcome) (Finish (Goes world))))
done_guarded given named a kind ticket (Brings notices outcome world) none clear =
    noted_guarded given named a kind notices
    (Tell (traced.Answered ticket outcome) (Finish (Goes world)))
    (λ n. absurd n, inr (unnamed named kind world none clear))

-- a command that comes before an accepted authentication opens nothing and says nothing on a
-- channel
command_guarded : (given : Circumstances) (named : List ℕ → Type 0) (a : Type 0) (kind : InputKind)
    (w : World) (ticket : ℕ)
    (commanded : Commanded) → ((other : List ℕ) → IsRequestOf other kind → ⊥) → IsClear named w →
    Guarded given named a kind (command_row w ticket commanded)
command_guarded given named a kind w ticket commanded none clear =
    done_guarded given named a kind ticket (effect w commanded) none
    (effect_step named w commanded w.disconnected clear)

tick_guarded : (given : Circumstances) (named : List ℕ → Type 0) (a : Type 0) (w : World)
    (many : Bool) → IsClear named w
    → Guarded given named a KeepaliveTick (acts (if many then Stops Keepalive_timeout ∷ []
    else Turns (λ v. said keepalive (ticked v)) ∷ []) w)
tick_guarded given named a w true clear = tt
tick_guarded given named a w false clear =
    inr (unnamed named KeepaliveTick (said keepalive (ticked w)) (λ other h. h)
    (said_clear named keepalive (ticked w) (asking_low (codes "keepalive@openssh.com") [] true)
    clear))

-- ---- payloads

-- it goes to the exchange of keys
abbrev IsExchanging : Passage → Type 0
IsExchanging Begins = Unit {0}
IsExchanging Steps = Unit {0}
IsExchanging _ = ⊥

-- a USERAUTH_REQUEST, whose number is 50, does not go to the exchange
late_serves : (late : Bool) → IsExchanging (if late then Late else Passes) → ⊥
late_serves true h = h
late_serves false h = h

request_serves : (exchange : ExchangeState) (window : ℕ) (fields : List ℕ) →
    IsExchanging (passage_of exchange window (50 ∷ fields)) → ⊥
request_serves Idle window fields h = h
request_serves (Own early) window fields h = late_serves (nat_lt (most_early window) early) h
request_serves Both window fields h = h

exchanging : (at : Passage) (w : World) (payload : List ℕ) → passage w payload ≡ at →
    IsExchanging at → (other : List ℕ) → IsRequestOf other (Payload payload) → ⊥
exchanging at w payload is of other r =
    request_serves w.keys.exchange w.settings.config.window_size r.0
    (subst (λ p. IsExchanging (passage w p)) r.4 (subst IsExchanging (sym is) of))

passed_guarded : (at : Passage) (accepts : Acceptance) (named : List ℕ → Type 0) (a : Type 0)
    (w : World) (moment : ℕ) (payload : List ℕ) (plan : Plan Outcome) →
    passage w payload ≡ at → OwesPassed at accepts w moment payload plan → IsClear named w →
    Guarded (circumstances accepts w.settings moment) named a (Payload payload) plan
passed_guarded Passes accepts named a w moment payload plan is o clear =
    rw o.2 (row_guarded (circumstances accepts w.settings moment) named a w moment payload o.0
    (gate_of w payload) refl o.1 clear)
passed_guarded Begins accepts named a w moment payload plan is o clear =
    let given = circumstances accepts w.settings moment in
    let kind = Payload payload in
    rw o (exchange_guarded given named a kind Beginning (Exchanges (Stepping payload) ∷ []) w
    (unnamed named kind w (exchanging Begins w payload is tt) clear)
    (λ b v c. exchange_guarded given named b kind (Stepping payload) [] v c (λ d u k. inr k)))
passed_guarded Steps accepts named a w moment payload plan is o clear =
    let kind = Payload payload in
    rw o (exchange_guarded (circumstances accepts w.settings moment) named a kind
    (Stepping payload) [] w (unnamed named kind w (exchanging Steps w payload is tt) clear)
    (λ b v c. inr c))
passed_guarded Barred accepts named a w moment payload plan is o clear = rw o tt
passed_guarded Late accepts named a w moment payload plan is o clear = rw o tt

-- ---- inputs

clear_guarded : (accepts : Acceptance) (named : List ℕ → Type 0) (a : Type 0) (w : World)
    (moment : ℕ) (kind : InputKind)
    (plan : Plan Outcome) → OwesKind accepts w moment kind plan → IsClear named w →
    Guarded (circumstances accepts w.settings moment) named a kind plan
clear_guarded accepts named a w moment End plan o clear =
    subst (Guarded (circumstances accepts w.settings moment) named a End) (sym o) (inr clear.3)
clear_guarded accepts named a w moment (Command ticket commanded) plan o clear =
    subst (Guarded (circumstances accepts w.settings moment) named a (Command ticket commanded))
    (sym o)
    (command_guarded (circumstances accepts w.settings moment) named a (Command ticket commanded) w
    ticket commanded (λ other h. h) clear)
clear_guarded accepts named a w moment (OpenReply ticket answer) plan o clear =
    subst (Guarded (circumstances accepts w.settings moment) named a (OpenReply ticket answer))
    (sym o)
    (command_guarded (circumstances accepts w.settings moment) named a (OpenReply ticket answer) w
    ticket (command.Answer answer)
    (λ other h. h) clear)
clear_guarded accepts named a w moment (Payload payload) plan o clear =
    let v = hears payload w in
    passed_guarded (passage v payload) accepts named a v moment payload plan refl o
    (clear.0, clear.1, clear.2, clear.3)
clear_guarded accepts named a w moment KeepaliveTick plan o clear =
    subst (Guarded (circumstances accepts w.settings moment) named a KeepaliveTick) (sym o)
    (tick_guarded (circumstances accepts w.settings moment) named a w
    (is_too_many w.settings.config (one_more w.keepalives)) clear)
clear_guarded accepts named a w moment InactivityTick plan o clear =
    subst (Guarded (circumstances accepts w.settings moment) named a InactivityTick) (sym o) tt
clear_guarded accepts named a w moment RekeyTick plan o clear =
    subst (Guarded (circumstances accepts w.settings moment) named a RekeyTick) (sym o)
    (inr (unnamed named RekeyTick w (λ other h. h) clear))

-- what an input owes is such a plan
pub owed_guarded : (accepts : Acceptance) (named : List ℕ → Type 0) (a : Type 0) (w : World)
    (moment : ℕ) (kind : InputKind)
    (plan : Plan Outcome) → OwesKind accepts w moment kind plan → a ⊎ IsClear named w →
    Guarded (circumstances accepts w.settings moment) named a kind plan
owed_guarded accepts named a w moment kind plan o (inl x) =
    plan_accepted (circumstances accepts w.settings moment) named a kind plan x
owed_guarded accepts named a w moment kind plan o (inr clear) = clear_guarded accepts named a w
    moment kind plan o clear
