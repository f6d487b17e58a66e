-- Whether a request wants a reply, by the payload's bytes and by what is read of it (RFC 4254
-- section 5.4).
use Rattle.std.proofs.Common.{◌≡◌, ◌==◌, ◌&&◌, ℕ, List, [], ◌∷◌, ◌++◌, Bool, true}
use Rattle.std.proofs.Common.{false, not, Option, Some, None, Result, Ok, Err, get_or}
use Rattle.std.proofs.Common.{arith, drop, refl, sym, ◌∙◌, ap, subst, inl, inr}
use Rattle.std.specs.Prelude.{if◌then◌else◌, ◌||◌, ◌⊎◌, flat_map, option_to_list}
use Rattle.std.proofs.lemmas.Bool.{eqb-true}
use Rattle.std.proofs.lemmas.Nat.{from_be_bytes-to_be_bytes_4}
use Rattle.std.proofs.Math.Seq.{get_or-append_seam}
use Rattle.ssh_wire.specs.Field.{Values, SpellsAll, number, string}
use Rattle.ssh_wire.specs.Messages.{channel_request, global_request}
use Rattle.ssh_wire.specs.declared.channel_id.ChannelId.{ChannelId}
use Rattle.ssh_wire.specs.declared.error.WireError.{WireError}
use Rattle.ssh_wire.proofs.Numbers.{string_length}
use Rattle.ssh_handler.specs.declared.config.Config.{Config}
use Rattle.ssh_link.specs.declared.frame.InputKind.TheVariants as input
use Rattle.ssh_link.specs.declared.notice.Notice.{Notice}
use Rattle.ssh_link.specs.declared.notice.Notice.TheVariants as notice
use Rattle.ssh_auth.specs.declared.auth_request.AuthRequest.{AuthRequest}
use Rattle.ssh_auth.specs.Publickey.{Circumstances}
use Rattle.ssh_channels.specs.Sent.{message_of}
use Rattle.ssh_rules.specs.declared.gate.Gate.{Gate}
use Rattle.ssh_rules.specs.declared.gate.Gate.TheVariants as gate
use Rattle.ssh_rules.specs.declared.messages.ConnectionMessage.{ConnectionMessage}
use Rattle.ssh_rules.specs.declared.messages.ConnectionMessage.TheVariants as message
use Rattle.ssh_rules.specs.declared.messages.Spoken.{Spoken}
use Rattle.ssh_rules.specs.declared.messages.Spoken.TheVariants as spoken
use Rattle.ssh_rules.specs.declared.state.EncryptedState.{EncryptedState}
use Rattle.ssh_rules.specs.declared.state.EncryptedState.TheVariants.{WaitingAuthServiceRequest}
use Rattle.ssh_rules.specs.declared.state.EncryptedState.TheVariants.{WaitingAuthRequest}
use Rattle.ssh_rules.specs.declared.state.EncryptedState.TheVariants.{InitCompression}
use Rattle.ssh_rules.specs.declared.state.EncryptedState.TheVariants.{Authenticated}
use Rattle.ssh_rules.specs.ChannelRequests.{KnownRequest, request_named, request_layout, to_the_end}
use Rattle.ssh_rules.specs.Gate.{gate_of, state_gate, authentication_gate, connection_gate}
use Rattle.ssh_rules.specs.Gate.{is_over_cap, of_connection}
use Rattle.ssh_rules.specs.Globals.{KnownGlobal, global_layout, global_named}
use Rattle.ssh_rules.specs.Globals.{oldest, success, denial, denied, global_request_said, Globally, Listens}
use Rattle.ssh_rules.specs.Globals.{port_told}
use Rattle.ssh_rules.specs.InOrder.{is_own_reply, replied_in, with_notice}
use Rattle.ssh_rules.specs.Globals.{Judges, Gives_up_sessions}
use Rattle.ssh_rules.specs.declared.outstanding.Outstanding.{Outstanding}
use Rattle.ssh_rules.specs.declared.outstanding.Outstanding.TheVariants as outstanding
use Rattle.ssh_rules.specs.GlobalReplied.{globally_wanted_of, wants_global_reply}
use Rattle.ssh_rules.specs.Messages.{connection_message, message_layout, data_on, extended_on}
use Rattle.ssh_rules.specs.Messages.{request_on}
use Rattle.ssh_rules.specs.Opens.{own}
use Rattle.ssh_rules.specs.Reading.{Said, Service, Open, Agreed, Unread, Connection, Unfit}
use Rattle.ssh_rules.specs.Reading.{Without_packets, Says, SaysOpen, SaysConfirmation, said_of}
use Rattle.ssh_rules.specs.Replied.{recipient_of, wanted_of, wants_reply_on}
use Rattle.ssh_rules.specs.Spelling.{Layout, Leaves, Rest, Whole, Fields, Spells}
use Rattle.ssh_rules.specs.World.{World, is_there}
use Rattle.ssh_rules.proofs.Measure.Commands.{Claims, OfRequest}
use Rattle.ssh_rules.proofs.Measure.Rows.{OfRead}
use Rattle.ssh_rules.proofs.Read.ChannelRequests.{IsOwn, SaysOwn, known_own}

-- ---- by the bytes

-- the bytes behind a request's number say its channel, and whether it wants a reply
pub fields_say : (values : Values channel_request.fields) (fields rest : List ℕ) →
    SpellsAll channel_request.fields values fields rest →
    (recipient_of fields ≡ values.0) × (wanted_of fields ≡ values.1.1.0)
fields_say values fields rest h =
    let n = values.0 in
    let name = values.1.0 in
    let wanted = values.1.1.0 in
    let first = h.2 in
    let second = h.4 in
    let text = second.2 in
    let third = second.4 in
    let flag = third.2 in
    let whole : fields ≡ number n ++ (string name ++ flag.0 ∷ rest) =
    h.3 ∙ ap (λ p. p ++ h.1) first.1
    ∙ ap (λ a. number n ++ a) (second.3 ∙ ap (λ p. p ++ second.1) text.1
    ∙ ap (λ a. string name ++ a) (third.3 ∙ ap (λ p. p ++ third.1) flag.2
    ∙ ap (λ a. flag.0 ∷ a) third.4)) in (
      ap recipient_of whole ∙ from_be_bytes-to_be_bytes_4 n first.0,
      ap wanted_of whole
          ∙ ap (λ k. not (get_or (name ++ flag.0 ∷ rest) k 0 == 0))
          (string_length name (flag.0 ∷ rest) text.0)
          ∙ ap (λ b. not (b == 0)) (get_or-append_seam name flag.0 rest 0) ∙ sym flag.3,
    )

-- .. and those behind a global one's, whether it does
globally_say : (values : Values global_request.fields) (fields rest : List ℕ) →
    SpellsAll global_request.fields values fields rest → globally_wanted_of fields ≡ values.1.0
globally_say values fields rest h =
    let name = values.0 in
    let text = h.2 in
    let next = h.4 in
    let flag = next.2 in
    let whole : fields ≡ string name ++ flag.0 ∷ rest =
    h.3 ∙ ap (λ p. p ++ h.1) text.1
    ∙ ap (λ a. string name ++ a) (next.3 ∙ ap (λ p. p ++ next.1) flag.2
    ∙ ap (λ a. flag.0 ∷ a) next.4) in
    ap globally_wanted_of whole
    ∙ ap (λ k. not (get_or (name ++ flag.0 ∷ rest) k 0 == 0))
    (string_length name (flag.0 ∷ rest) text.0)
    ∙ ap (λ b. not (b == 0)) (get_or-append_seam name flag.0 rest 0) ∙ sym flag.3

-- ---- by the layout

-- whatever the fields are, what is said is such
abbrev AllSay : {S : Type 0} → (such : S → Type 0) → Layout S → Type 0
AllSay such (Leaves says) = such says
AllSay such (Rest says) = (rest : List ℕ) → such (says rest)
AllSay such (Whole fields says) = (values : Values fields) → such (says values)
AllSay such (Fields fields next) = (values : Values fields) → AllSay such (next values)

read_says : (so : Claims) (layout : Layout Spoken) (bytes : List ℕ)
    (read : Result Spoken WireError) → AllSay (OfRequest so) layout → Spells layout bytes read →
    OfRead so (said_of Connection read)
read_says so (Leaves says) bytes read q h =
    subst (λ r. OfRead so (said_of Connection r)) (sym h) q
read_says so (Rest says) bytes read q h =
    subst (λ r. OfRead so (said_of Connection r)) (sym h) (q bytes)
read_says so (Whole fields says) bytes read q (inl h) =
    subst (λ r. OfRead so (said_of Connection r)) (sym h.2) (q h.0)
read_says so (Whole fields says) bytes read q (inr h) =
    subst (λ r. OfRead so (said_of Connection r)) (sym h.2) tt
read_says so (Fields fields next) bytes read q (inl h) =
    read_says so (next h.0) h.1 read (q h.0) h.3
read_says so (Fields fields next) bytes read q (inr h) =
    subst (λ r. OfRead so (said_of Connection r)) (sym h.2) tt

data_say : (so : Claims) (there : Bool) (channel : ℕ) →
    AllSay (OfRequest so) (data_on there channel)
data_say so false channel = tt
data_say so true channel = λ values. tt

extended_say : (so : Claims) (there : Bool) (channel : ℕ) →
    AllSay (OfRequest so) (extended_on there channel)
extended_say so false channel = tt
extended_say so true channel = λ values. tt

-- ---- the table of requests

-- where this is so of the channel and the flag, what a request says on it is so
own_says : (so : Claims) (channel : ChannelId) (wanted : Bool) (said : Spoken) →
    IsOwn channel wanted said → so.on channel wanted → OfRequest so said
own_says so channel wanted (spoken.Requests at flag message happening) is h =
    subst (λ c. so.on c flag) (sym is.0) (subst (so.on channel) (sym is.1) h)
own_says so channel wanted (spoken.RequestsAgent at flag) is h =
    subst (λ c. so.on c flag) (sym is.0) (subst (so.on channel) (sym is.1) h)
own_says so channel wanted spoken.Inconsistent is h = tt
own_says so channel wanted said is h = absurd is

ended_say : (so : Claims) (said : Spoken) → OfRequest so said →
    AllSay (OfRequest so) (to_the_end said)
ended_say so spoken.Inconsistent h = tt
ended_say so said h = λ values. h

asked_say : (so : Claims) (o : Option KnownRequest) (channel : ChannelId)
    (wanted : Bool) → ((known : KnownRequest) → o ≡ Some known → SaysOwn known) →
    so.on channel wanted → AllSay (OfRequest so) (request_layout o channel wanted)
asked_say so None channel wanted q h = h
asked_say so (Some known) channel wanted q h = λ values.
    let said = known.says channel wanted values in
    ended_say so said (own_says so channel wanted said (q known refl channel wanted values) h)

request_say : (so : Claims) (there wanted : Bool) (channel : ℕ)
    (name : List ℕ) → so.on (own channel) wanted →
    AllSay (OfRequest so) (request_on there wanted channel name)
request_say so false wanted channel name h = tt
request_say so true wanted channel name h =
    asked_say so (request_named name) (own channel) wanted (known_own name) h

-- ---- messages of no channel

globally_so : (so : Claims) (wanted : Bool) (asked : Globally) → so.globally wanted →
    OfRequest so (global_request_said wanted asked)
globally_so so wanted (Listens address port) h = h
globally_so so wanted (Judges judged) h = h
globally_so so wanted Gives_up_sessions h = h

global_say : (so : Claims) (known : Option KnownGlobal) (wanted : Bool) → so.globally wanted →
    AllSay (OfRequest so) (global_layout known wanted)
global_say so None wanted h = h
global_say so (Some known) wanted h = λ values. globally_so so wanted (known.asks values) h

-- what is told of the oldest that waits is so
abbrev SettlesOldest : Claims → List Outstanding → Type 0
SettlesOldest so waiting = (first : Outstanding) (later : List Outstanding)
    (told : Option Notice) → waiting ≡ first ∷ later →
    flat_map replied_in (option_to_list told) ≡ with_notice first → so.settles told

denied_say : (so : Claims) (waiting : List Outstanding) → SettlesOldest so waiting →
    OfRequest so (denied (oldest waiting))
denied_say so [] s = tt
denied_say so (outstanding.Keepalive ∷ later) s = s outstanding.Keepalive later None refl refl
denied_say so (outstanding.Ping slot ∷ later) s =
    s (outstanding.Ping slot) later (Some (notice.Pong slot)) refl refl
denied_say so (outstanding.Cancel slot ∷ later) s =
    s (outstanding.Cancel slot) later (Some (notice.Cancelled slot false)) refl refl
denied_say so (outstanding.Forward slot ∷ later) s =
    s (outstanding.Forward slot) later (Some (notice.Forwarded slot None)) refl refl

success_say : (so : Claims) (waiting : List Outstanding) → SettlesOldest so waiting →
    AllSay (OfRequest so) (success (oldest waiting))
success_say so [] s = tt
success_say so (outstanding.Keepalive ∷ later) s =
    λ values. s outstanding.Keepalive later None refl refl
success_say so (outstanding.Ping slot ∷ later) s =
    λ values. s (outstanding.Ping slot) later (Some (notice.Pong slot)) refl refl
success_say so (outstanding.Cancel slot ∷ later) s =
    λ values. s (outstanding.Cancel slot) later (Some (notice.Cancelled slot true)) refl refl
success_say so (outstanding.Forward slot ∷ later) s =
    λ rest. s (outstanding.Forward slot) later (Some (notice.Forwarded slot (port_told rest))) refl
    refl

-- ---- messages of the connection protocol

-- the fields of a request are so
abbrev RequestIs : Claims → List ℕ → Type 0
RequestIs so fields = (values : Values channel_request.fields) (rest : List ℕ) →
    SpellsAll channel_request.fields values fields rest → so.on (own values.0) values.1.1.0

-- .. and those of a global one
abbrev GlobalIs : Claims → List ℕ → Type 0
GlobalIs so fields = (values : Values global_request.fields) (rest : List ℕ) →
    SpellsAll global_request.fields values fields rest → so.globally values.1.0

-- where the fields of a request are so, what is said is
message_says : (so : Claims) (w : World) (m : ConnectionMessage) (fields : List ℕ)
    (read : Result Spoken WireError) → (m ≡ message.Request → RequestIs so fields) →
    (m ≡ message.GlobalRequest → GlobalIs so fields) →
    ((m ≡ message.RequestSuccess) ⊎ (m ≡ message.RequestFailure) →
    SettlesOldest so w.globals.outstanding) →
    Spells (message_layout w m) fields read → OfRead so (said_of Connection read)
message_says so w message.Request fields read q g s (inl h) =
    read_says so (request_on (is_there w h.0.0) h.0.1.1.0 h.0.0 h.0.1.0) h.1 read
    (request_say so (is_there w h.0.0) h.0.1.1.0 h.0.0 h.0.1.0 (q refl h.0 h.1 h.2)) h.3
message_says so w message.Request fields read q g s (inr h) =
    subst (λ r. OfRead so (said_of Connection r)) (sym h.2) tt
message_says so w message.GlobalRequest fields read q g s (inl h) =
    read_says so (global_layout (global_named h.0.0) h.0.1.0) h.1 read
    (global_say so (global_named h.0.0) h.0.1.0 (g refl h.0 h.1 h.2)) h.3
message_says so w message.GlobalRequest fields read q g s (inr h) =
    subst (λ r. OfRead so (said_of Connection r)) (sym h.2) tt
message_says so w message.RequestSuccess fields read q g s h =
    read_says so (success (oldest w.globals.outstanding)) fields read
    (success_say so w.globals.outstanding (s (inl refl))) h
message_says so w message.RequestFailure fields read q g s h =
    read_says so (denial (oldest w.globals.outstanding)) fields read
    (λ values. denied_say so w.globals.outstanding (s (inr refl))) h
message_says so w message.OpenFailure fields read q g s h =
    read_says so (message_layout w message.OpenFailure) fields read
    (λ channel code texts. tt) h
message_says so w message.Data fields read q g s h =
    read_says so (message_layout w message.Data) fields read
    (λ channel. data_say so (is_there w channel.0) channel.0) h
message_says so w message.ExtendedData fields read q g s h =
    read_says so (message_layout w message.ExtendedData) fields read
    (λ channel. extended_say so (is_there w channel.0) channel.0) h
-- of the others, which are read whole, nothing is claimed
message_says so w m fields read q g s h =
    read_says so (message_layout w m) fields read (λ values. tt) h

-- ---- gates

-- the gate of requests is for the number 98, that of global ones for 80, and those of replies for
-- 81 and 82
abbrev NumbersRequest : ℕ → Gate → Type 0
NumbersRequest n (gate.Connection message.Request) = n ≡ 98
NumbersRequest n (gate.Connection message.GlobalRequest) = n ≡ 80
NumbersRequest n (gate.Connection message.RequestSuccess) = n ≡ 81
NumbersRequest n (gate.Connection message.RequestFailure) = n ≡ 82
NumbersRequest n _ = Unit {0}

picked : {A : Type 0} (b : Bool) (P : A → Type 0) (at other : A) → (b ≡ true → P at) → P other →
    P (if b then at else other)
picked true P at other h k = h refl
picked false P at other h k = k

request_numbered : (n : ℕ) → connection_message n ≡ Some message.Request → n ≡ 98
request_numbered n is = grind (arith, eqb-true)

global_numbered : (n : ℕ) → connection_message n ≡ Some message.GlobalRequest → n ≡ 80
global_numbered n is = grind (arith, eqb-true)

success_numbered : (n : ℕ) → connection_message n ≡ Some message.RequestSuccess → n ≡ 81
success_numbered n is = grind (arith, eqb-true)

failure_numbered : (n : ℕ) → connection_message n ≡ Some message.RequestFailure → n ≡ 82
failure_numbered n is = grind (arith, eqb-true)

numbered : (n : ℕ) (found : Option ConnectionMessage) → connection_message n ≡ found →
    NumbersRequest n (of_connection found)
numbered n (Some message.Request) is = request_numbered n is
numbered n (Some message.GlobalRequest) is = global_numbered n is
numbered n (Some message.RequestSuccess) is = success_numbered n is
numbered n (Some message.RequestFailure) is = failure_numbered n is
numbered n _ is = tt

message_numbers : (n : ℕ) → NumbersRequest n (of_connection (connection_message n))
message_numbers n = numbered n (connection_message n) refl

connection_numbers : (n : ℕ) → NumbersRequest n (connection_gate n)
connection_numbers n =
    let P : Gate → Type 0 = NumbersRequest n in
    picked (n == 90) P gate.ChannelOpen _ (λ is. tt)
    (picked (n == 91) P gate.OpenConfirmation _ (λ is. tt)
    (message_numbers n))

authentication_numbers : (config : Config) (auth : AuthRequest) (n : ℕ) →
    NumbersRequest n (authentication_gate config auth n)
authentication_numbers config auth n =
    let P : Gate → Type 0 = NumbersRequest n in
    let read : Gate = if n == 50 then gate.UserauthRequest else gate.InfoResponse in
    picked ((n == 50) || (n == 61)) P (if is_over_cap config auth then gate.OverCap else read)
    gate.Nothing
    (λ is. picked (is_over_cap config auth) P gate.OverCap read (λ over. tt)
    (picked (n == 50) P gate.UserauthRequest gate.InfoResponse (λ named. tt) tt)) tt

state_numbers : (config : Config) (state : EncryptedState) (n : ℕ) →
    NumbersRequest n (state_gate config state n)
state_numbers config (WaitingAuthServiceRequest sent accepted) n =
    picked (n == 5) (NumbersRequest n) gate.ServiceRequest gate.Nothing (λ is. tt) tt
state_numbers config (WaitingAuthRequest auth) n = authentication_numbers config auth n
state_numbers config InitCompression n = connection_numbers n
state_numbers config Authenticated n = connection_numbers n

all_numbers : (w : World) (n : ℕ) (fields : List ℕ) → NumbersRequest n (gate_of w (n ∷ fields))
all_numbers w n fields =
    let P : Gate → Type 0 = NumbersRequest n in
    picked (n == 1) P gate.Ends _ (λ is. tt) (state_numbers w.settings.config w.user.state n)

is_request : (w : World) (payload : List ℕ) → gate_of w payload ≡ gate.Connection message.Request →
    (message_of payload == channel_request.number) ≡ true
is_request w [] at = absurd (cc)
is_request w (n ∷ fields) at =
    let same : n ≡ 98 = subst (NumbersRequest n) at (all_numbers w n fields) in
    ap (λ k. k == 98) same

is_global : (w : World) (payload : List ℕ) →
    gate_of w payload ≡ gate.Connection message.GlobalRequest →
    (message_of payload == global_request.number) ≡ true
is_global w [] at = absurd (cc)
is_global w (n ∷ fields) at =
    let same : n ≡ 80 = subst (NumbersRequest n) at (all_numbers w n fields) in
    ap (λ k. k == 80) same

is_settling : (w : World) (payload : List ℕ) →
    (gate_of w payload ≡ gate.Connection message.RequestSuccess)
    ⊎ (gate_of w payload ≡ gate.Connection message.RequestFailure) →
    is_own_reply (input.Payload payload) ≡ true
is_settling w [] (inl at) = absurd (cc)
is_settling w [] (inr at) = absurd (cc)
is_settling w (n ∷ fields) (inl at) =
    let same : n ≡ 81 = subst (NumbersRequest n) at (all_numbers w n fields) in
    ap (λ k. (k == 81) || (k == 82)) same
is_settling w (n ∷ fields) (inr at) =
    let same : n ≡ 82 = subst (NumbersRequest n) at (all_numbers w n fields) in
    ap (λ k. (k == 81) || (k == 82)) same

-- ---- a payload

open_says : (so : Claims) (fields : List ℕ) (said : Said) →
    SaysOpen fields said → OfRead so said
open_says so fields (Open message) h = tt
open_says so fields Unread h = tt
open_says so fields Without_packets h = tt
open_says so fields (Unfit why) h = tt
open_says so fields _ h = absurd h

confirmation_says : (so : Claims) (fields : List ℕ) (said : Said) →
    SaysConfirmation fields said → OfRead so said
confirmation_says so fields (Agreed message) h = tt
confirmation_says so fields Without_packets h = tt
confirmation_says so fields (Unfit why) h = tt
confirmation_says so fields _ h = absurd h

service_says : (so : Claims) (read : Result (List ℕ) WireError) →
    OfRead so (said_of Service read)
service_says so (Ok name) = tt
service_says so (Err why) = tt

at_gate : (m : ConnectionMessage) →
    (m ≡ message.RequestSuccess) ⊎ (m ≡ message.RequestFailure) →
    (gate.Connection m ≡ gate.Connection message.RequestSuccess)
    ⊎ (gate.Connection m ≡ gate.Connection message.RequestFailure)
at_gate m (inl is) = inl (ap gate.Connection is)
at_gate m (inr is) = inr (ap gate.Connection is)

gate_says : (so : Claims) (given : Circumstances) (w : World)
    (at : Gate) (fields : List ℕ) (said : Said) →
    (at ≡ gate.Connection message.Request → RequestIs so fields) →
    (at ≡ gate.Connection message.GlobalRequest → GlobalIs so fields) →
    ((at ≡ gate.Connection message.RequestSuccess) ⊎ (at ≡ gate.Connection message.RequestFailure)
    → SettlesOldest so w.globals.outstanding) →
    Says given w at fields said → OfRead so said
gate_says so given w gate.Nothing fields said q g s h = subst (OfRead so) (sym h) tt
gate_says so given w gate.Ends fields said q g s h = subst (OfRead so) (sym h) tt
gate_says so given w gate.OverCap fields said q g s h = subst (OfRead so) (sym h) tt
gate_says so given w gate.ServiceRequest fields said q g s h =
    subst (OfRead so) (sym h.2) (service_says so h.0)
gate_says so given w gate.UserauthRequest fields said q g s h = subst (OfRead so) (sym h.2) tt
gate_says so given w gate.InfoResponse fields said q g s h = subst (OfRead so) (sym h.2) tt
gate_says so given w gate.ChannelOpen fields said q g s h = open_says so fields said h
gate_says so given w gate.OpenConfirmation fields said q g s h =
    confirmation_says so fields said h
gate_says so given w (gate.Connection m) fields said q g s h =
    subst (OfRead so) (sym h.2) (message_says so w m fields h.0
    (λ is. q (ap gate.Connection is)) (λ is. g (ap gate.Connection is))
    (λ is. s (at_gate m is)) h.1)

-- what a payload's bytes say of the request that it is, and what is told where it is a reply
abbrev pub BytesSay : World → (payload : List ℕ) → Claims
BytesSay w payload = record {
  on = λ channel wanted. (number : ℕ)
      → wants_reply_on number (input.Payload payload) ≡ ((number == channel.0) && wanted);
  globally = λ wanted. wants_global_reply (input.Payload payload) ≡ wanted;
  settles = λ told. (is_own_reply (input.Payload payload) ≡ true)
      × ((first : Outstanding) × (later : List Outstanding)
      × (w.globals.outstanding ≡ first ∷ later)
      × (flat_map replied_in (option_to_list told) ≡ with_notice first));
}

-- a payload that is read as a request wants a reply where the request says so, and what is read as
-- a reply is one to the oldest that waits
pub payload_says : (given : Circumstances) (w : World) (payload : List ℕ) (said : Said) →
    Says given w (gate_of w payload) (drop 1 payload) said → OfRead (BytesSay w payload) said
payload_says given w payload said h =
    let fields = drop 1 payload in
    gate_says (BytesSay w payload) given w (gate_of w payload) fields said
    (λ at values rest spelled number.
    let told = fields_say values fields rest spelled in
    ap (λ b. b && ((number == recipient_of fields) && wanted_of fields)) (is_request w payload at)
    ∙ ap (λ n. (number == n) && wanted_of fields) told.0
    ∙ ap (λ b. (number == values.0) && b) told.1)
    (λ at values rest spelled.
    ap (λ b. b && globally_wanted_of fields) (is_global w payload at)
    ∙ globally_say values fields rest spelled)
    (λ at first later told waits is. (is_settling w payload at, (first, later, waits, is))) h
