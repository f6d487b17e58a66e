-- What a command does, by what it needs.
use Rattle.std.proofs.Common.{◌≡◌, ◌≤◌, ◌<◌, ◌∷◌, ℕ, List, [], length, true, false, Option, None}
use Rattle.std.proofs.Common.{Bool, Result, Ok, Err, rules, refl, sym}
use Rattle.std.proofs.Common.{◌∙◌, ap, subst, arith, inl}
use Rattle.std.specs.Prelude.{◌^◌, cond, option_to_list, IfOk, IfErr}
use mir.Val.{bool_byte}
use Rattle.ssh_wire.specs.declared.error.WireError.{WireError}
use Rattle.ssh_wire.specs.declared.error.WireError.TheVariants as wire
use Rattle.std.specs.Result.{IsErrAnd}
use Rattle.std.proofs.lemmas.Result.{err_from_is_err_and}
use Rattle.ssh_wire.specs.declared.channel_id.ChannelId.{ChannelId}
use Rattle.ssh_wire.specs.declared.sig.Sig.{Sig}
use Rattle.ssh_link.specs.declared.notice.ChannelMsg.{ChannelMsg}
use Rattle.ssh_link.specs.declared.command.Command.{Command}
use Rattle.ssh_link.specs.declared.command.Command.TheVariants as command
use Rattle.ssh_link.specs.declared.open_answer.OpenAnswer.{OpenAnswer}
use Rattle.ssh_link.specs.declared.outcome.CommandOutcome.{CommandOutcome}
use Rattle.ssh_link.specs.declared.outcome.CommandOutcome.TheVariants.{Accepted, Refused}
use Rattle.ssh_link.specs.declared.outcome.Refusal.{Refusal}
use Rattle.ssh_link.specs.declared.outcome.Refusal.TheVariants.{TooLong}
use Rattle.ssh_channels.specs.Lines.{drops_pending}
use Rattle.ssh_serving.specs.declared.commands.Done.{Done}
use Rattle.ssh_rules.specs.declared.error.RunError.{RunError}
use Rattle.ssh_rules.specs.declared.error.RunError.TheVariants.{NoMemory}
use Rattle.ssh_serving.specs.declared.server.Server.{Server}
use Rattle.ssh_rules.specs.Effect.{Effect, Brings, effect_at, lacks, needs, done_by, accepts}
use Rattle.ssh_rules.specs.Effect.{refuses, refused_or, fails_open, is_too_long, opens_need}
use Rattle.ssh_rules.specs.Effect.{apart_needs, done_apart, refused_for, said}
use Rattle.ssh_rules.specs.Effect.{sends}
use Rattle.ssh_rules.specs.OwnMessages.{OwnMessage, IsUnbuilt}
use Rattle.ssh_rules.specs.OwnOpens.{own_open_of}
use Rattle.ssh_rules.specs.Opens.{decided, failure_frame}
use Rattle.ssh_serving.specs.Serve.{Refines, HasEffect}
use Rattle.ssh_rules.specs.declared.request.ChannelRequest.{ChannelRequest}
use Rattle.ssh_rules.specs.World.{World, lined, writes}

-- what came of a command that gives no notice
pub quiet : (E F : Type 0) (does : Effect) (outcome : CommandOutcome) (world : World)
    (session : Server) (made : Done) → does ≡ Brings [] outcome world →
    made ≡ record { notice = None; outcome = outcome } → Refines session world
    → HasEffect {E = E} {F = F} does session (Ok made)
quiet E F does outcome world session made d m r =
    (world, d ∙ ap (λ (x : Done). Brings (option_to_list x.notice) x.outcome world) (sym m), r)

-- .. that was done
pub accepted : (E F : Type 0) (does : Effect) (world : World) (session : Server) (made : Done) →
    does ≡ accepts world → made ≡ record { notice = None; outcome = Accepted } →
    Refines session world → HasEffect {E = E} {F = F} does session (Ok made)
accepted E F does world session made d m r = quiet E F does Accepted world session made d m r

-- .. or refused
pub refused : (E F : Type 0) (does : Effect) (world : World) (why : Refusal) (session : Server)
    (made : Done) → does ≡ refuses why world →
    made ≡ record { notice = None; outcome = Refused why } → Refines session world →
    HasEffect {E = E} {F = F} does session (Ok made)
refused E F does world why session made d m r = quiet E F does (Refused why) world session made d m r

-- memory was wanting
pub starved_effect : {E F : Type 0} (does : Effect) (session : Server) (e : RunError E F)
    (result : Result Done (RunError E F)) →
    IsErrAnd result (λ x. x ≡ e) → e ≡ NoMemory → HasEffect does session result
starved_effect does session e result h is =
    let p = err_from_is_err_and result h in
    subst (HasEffect does session) (sym (p.1 ∙ ap Err (p.2 ∙ is))) tt

-- why a command is refused
pub refusing : (at : Option ChannelRequest) (w : World) (one : Command) (why : Option Refusal) →
    refused_for w.disconnected w one ≡ why → effect_at at w one ≡ refused_or why w (done_by at w one)
refusing at w one why h = ap (λ o. refused_or o w (done_by at w one)) h

module _ (w : World) where
  -- the other commands concern no channel that is there
  pub needs_other : (one : Command) → ((channel : ChannelId) (bytes : List ℕ) → one
      ≡ command.Data channel bytes → ⊥) →
      ((channel : ChannelId) (code : ℕ) (bytes : List ℕ) → one ≡ command.ExtendedData channel code
      bytes → ⊥) →
      ((channel : ChannelId) → one ≡ command.Eof channel → ⊥) →
      ((channel : ChannelId) → one ≡ command.Close channel → ⊥) →
      ((channel : ChannelId) → one ≡ command.ChannelSuccess channel → ⊥) →
      ((channel : ChannelId) → one ≡ command.ChannelFailure channel → ⊥) →
      ((channel : ChannelId) (can : Bool) → one ≡ command.XonXoff channel can → ⊥) →
      ((channel : ChannelId) (status : ℕ) → one ≡ command.ExitStatus channel status → ⊥) →
      ((channel : ChannelId) (signal : Sig) (core : Bool) (message language : List ℕ) → one
      ≡ command.ExitSignal channel signal core message language → ⊥) →
      ((answer : OpenAnswer) → one ≡ command.Answer answer → ⊥) →
      lacks w (needs one) ≡ lacks w (apart_needs one)
  needs_other (command.Data channel bytes) a b c d s f x y z e = absurd (a channel bytes refl)
  needs_other (command.ExtendedData channel code bytes) a b c d s f x y z e =
      absurd (b channel code bytes refl)
  needs_other (command.Eof channel) a b c d s f x y z e = absurd (c channel refl)
  needs_other (command.Close channel) a b c d s f x y z e = absurd (d channel refl)
  needs_other (command.ChannelSuccess channel) a b c d s f x y z e = absurd (s channel refl)
  needs_other (command.ChannelFailure channel) a b c d s f x y z e = absurd (f channel refl)
  needs_other (command.XonXoff channel can) a b c d s f x y z e = absurd (x channel can refl)
  needs_other (command.ExitStatus channel status) a b c d s f x y z e =
      absurd (y channel status refl)
  needs_other (command.ExitSignal channel signal core message language) a b c d s f x y z e =
      absurd (z channel signal core message language refl)
  needs_other (command.Answer answer) a b c d s f x y z e = absurd (e answer refl)
  needs_other _ a b c d s f x y z e = refl

  pub done_other : (at : Option ChannelRequest) (one : Command) → ((channel : ChannelId) (bytes : List ℕ) → one
      ≡ command.Data channel bytes → ⊥) →
      ((channel : ChannelId) (code : ℕ) (bytes : List ℕ) → one ≡ command.ExtendedData channel code
      bytes → ⊥) →
      ((channel : ChannelId) → one ≡ command.Eof channel → ⊥) →
      ((channel : ChannelId) → one ≡ command.Close channel → ⊥) →
      ((channel : ChannelId) → one ≡ command.ChannelSuccess channel → ⊥) →
      ((channel : ChannelId) → one ≡ command.ChannelFailure channel → ⊥) →
      ((channel : ChannelId) (can : Bool) → one ≡ command.XonXoff channel can → ⊥) →
      ((channel : ChannelId) (status : ℕ) → one ≡ command.ExitStatus channel status → ⊥) →
      ((channel : ChannelId) (signal : Sig) (core : Bool) (message language : List ℕ) → one
      ≡ command.ExitSignal channel signal core message language → ⊥) →
      ((answer : OpenAnswer) → one ≡ command.Answer answer → ⊥) →
      done_by at w one ≡ done_apart w one
  done_other at (command.Data channel bytes) a b c d s f x y z e = absurd (a channel bytes refl)
  done_other at (command.ExtendedData channel code bytes) a b c d s f x y z e =
      absurd (b channel code bytes refl)
  done_other at (command.Eof channel) a b c d s f x y z e = absurd (c channel refl)
  done_other at (command.Close channel) a b c d s f x y z e = absurd (d channel refl)
  done_other at (command.ChannelSuccess channel) a b c d s f x y z e = absurd (s channel refl)
  done_other at (command.ChannelFailure channel) a b c d s f x y z e = absurd (f channel refl)
  done_other at (command.XonXoff channel can) a b c d s f x y z e = absurd (x channel can refl)
  done_other at (command.ExitStatus channel status) a b c d s f x y z e =
      absurd (y channel status refl)
  done_other at (command.ExitSignal channel signal core message language) a b c d s f x y z e =
      absurd (z channel signal core message language refl)
  done_other at (command.Answer answer) a b c d s f x y z e = absurd (e answer refl)
  done_other at _ a b c d s f x y z e = refl

  -- .. and of these, the others open one
  pub needs_open : (one : Command) → ((address : List ℕ) (port : ℕ) (reply : Option ℕ) → one
      ≡ command.TcpipForward address port reply → ⊥) →
      ((address : List ℕ) (port : ℕ) (reply : Option ℕ) → one
      ≡ command.CancelTcpipForward address port reply → ⊥) →
      ((channel : ChannelId) (message : ChannelMsg) → one ≡ command.ClientOnly channel message
      → ⊥) →
      lacks w (apart_needs one) ≡ lacks w (opens_need (own_open_of one))
  needs_open (command.TcpipForward address port reply) a b c = absurd (a address port reply refl)
  needs_open (command.CancelTcpipForward address port reply) a b c =
      absurd (b address port reply refl)
  needs_open (command.ClientOnly channel message) a b c = absurd (c channel message refl)
  needs_open _ a b c = refl

-- a flag is one byte
pub flag_byte : (flag : Bool) → bool_byte flag ≡ cond flag 1 0
flag_byte true = refl
flag_byte false = refl

-- a payload that is too long is not sent
pub too_long : (number : ℕ) (payload : List ℕ) (w : World) → 2 ^ 32 ≤ length payload →
    fails_open number payload w ≡ refuses TooLong w
too_long number payload w h = let t : is_too_long payload ≡ true = search rules in rw t refl

pub short : (number : ℕ) (payload : List ℕ) (w : World) → (2 ^ 32 ≤ length payload → ⊥) →
    fails_open number payload w
    ≡ accepts (writes (failure_frame number payload ∷ [])
    (lined (drops_pending number) (decided number w)))
short number payload w h =
    let k : length payload < 2 ^ 32 = omega arith in
    let t : is_too_long payload ≡ false = search rules in
    rw t refl

-- a message that is too long is not sent
pub unsent : (message : OwnMessage) (w : World) → 2 ^ 32 ≤ length message.payload →
    sends message w ≡ refuses TooLong w
unsent message w h = let t : is_too_long message.payload ≡ true = search rules in rw t refl

pub sent : (message : OwnMessage) (w : World) → length message.payload < 2 ^ 32 →
    sends message w ≡ accepts (said message w)
sent message w h = let t : is_too_long message.payload ≡ false = search rules in rw t refl

-- a payload that is short was built, or there was no memory
pub kept_short : {V : Type 0} (items : V → List ℕ) (payload : List ℕ)
    (result : Result V WireError) → length payload < 2 ^ 32 →
    IfOk result (λ p. items p ≡ payload) →
    IfOk result (λ p. (items p ≡ payload) × (length payload < 2 ^ 32))
kept_short items payload (Ok p) short h = (h, short)
kept_short items payload (Err e) short h = tt

pub kept_unbuilt : {V : Type 0} (payload : List ℕ) (result : Result V WireError) →
    IfErr result (λ e. e ≡ wire.NoMemory) → IfErr result (IsUnbuilt payload)
kept_unbuilt payload (Ok p) h = tt
kept_unbuilt payload (Err e) h = inl h
