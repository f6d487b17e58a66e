-- What is told of a payload brings no data, but for CHANNEL_DATA and CHANNEL_EXTENDED_DATA (RFC
-- 4254 section 5.2).
use Rattle.std.proofs.Common.{◌≡◌, ℕ, List, [], Bool, true, false, Option, Some, None}
use Rattle.std.proofs.Common.{Result, Ok, Err, refl, sym, subst, inl, inr}
use Rattle.ssh_wire.specs.Field.{Values}
use Rattle.ssh_wire.specs.declared.channel_id.ChannelId.{ChannelId}
use Rattle.ssh_wire.specs.declared.error.WireError.{WireError}
use Rattle.ssh_auth.specs.Publickey.{Circumstances}
use Rattle.ssh_rules.specs.declared.gate.Gate.{Gate}
use Rattle.ssh_rules.specs.declared.gate.Gate.TheVariants as gate
use Rattle.ssh_rules.specs.declared.messages.ConnectionMessage.{ConnectionMessage}
use Rattle.ssh_rules.specs.declared.messages.ConnectionMessage.TheVariants as message
use Rattle.ssh_rules.specs.declared.messages.Spoken.{Spoken}
use Rattle.ssh_rules.specs.declared.messages.Spoken.TheVariants as spoken
use Rattle.ssh_rules.specs.declared.outstanding.Outstanding.{Outstanding}
use Rattle.ssh_rules.specs.declared.outstanding.Outstanding.TheVariants as outstanding
use Rattle.ssh_rules.specs.ChannelRequests.{KnownRequest, request_named, request_layout, to_the_end}
use Rattle.ssh_rules.specs.Globals.{KnownGlobal, global_layout, global_named, global_request_said}
use Rattle.ssh_rules.specs.Globals.{Globally, Listens, Judges, oldest, success, denied}
use Rattle.ssh_rules.specs.Globals.{Gives_up_sessions}
use Rattle.ssh_rules.specs.Messages.{message_layout, data_on, extended_on, request_on}
use Rattle.ssh_rules.specs.Opens.{own}
use Rattle.ssh_rules.specs.Reading.{Said, Service, Open, Agreed, Unread, Connection, Unfit}
use Rattle.ssh_rules.specs.Reading.{Without_packets, Says, SaysOpen, SaysConfirmation, said_of}
use Rattle.ssh_rules.specs.Received.{data_length}
use Rattle.ssh_rules.specs.Spelling.{Layout, Leaves, Rest, Whole, Fields, Spells}
use Rattle.ssh_rules.specs.World.{World, is_there}
use Rattle.ssh_rules.proofs.Read.ChannelRequests.{IsOwn, SaysOwn, known_own}

-- no data come with what happened on the channel
abbrev pub IsBareSpoken : Spoken → Type 0
IsBareSpoken (spoken.Tells channel message happening) = data_length happening ≡ []
IsBareSpoken (spoken.Requests channel wanted message happening) = data_length happening ≡ []
IsBareSpoken _ = Unit {0}

abbrev pub IsBareSaid : Said → Type 0
IsBareSaid (Connection said) = IsBareSpoken said
IsBareSaid _ = Unit {0}

-- ---- by the layout

-- whatever the fields are, what is said is so
abbrev AllBare : Layout Spoken → Type 0
AllBare (Leaves says) = IsBareSpoken says
AllBare (Rest says) = (rest : List ℕ) → IsBareSpoken (says rest)
AllBare (Whole fields says) = (values : Values fields) → IsBareSpoken (says values)
AllBare (Fields fields next) = (values : Values fields) → AllBare (next values)

read_bare : (layout : Layout Spoken) (bytes : List ℕ) (read : Result Spoken WireError) →
    AllBare layout → Spells layout bytes read → IsBareSaid (said_of Connection read)
read_bare (Leaves says) bytes read q h =
    subst (λ r. IsBareSaid (said_of Connection r)) (sym h) q
read_bare (Rest says) bytes read q h =
    subst (λ r. IsBareSaid (said_of Connection r)) (sym h) (q bytes)
read_bare (Whole fields says) bytes read q (inl h) =
    subst (λ r. IsBareSaid (said_of Connection r)) (sym h.2) (q h.0)
read_bare (Whole fields says) bytes read q (inr h) =
    subst (λ r. IsBareSaid (said_of Connection r)) (sym h.2) tt
read_bare (Fields fields next) bytes read q (inl h) = read_bare (next h.0) h.1 read (q h.0) h.3
read_bare (Fields fields next) bytes read q (inr h) =
    subst (λ r. IsBareSaid (said_of Connection r)) (sym h.2) tt

data_bare : (there : Bool) (channel : ℕ) → AllBare (data_on there channel)
data_bare false channel = tt
data_bare true channel = λ values. tt

extended_bare : (there : Bool) (channel : ℕ) → AllBare (extended_on there channel)
extended_bare false channel = tt
extended_bare true channel = λ values. tt

-- ---- the table of requests

own_bare : (channel : ChannelId) (wanted : Bool) (said : Spoken) → IsOwn channel wanted said →
    IsBareSpoken said
own_bare channel wanted (spoken.Requests at flag message happening) is = is.2
own_bare channel wanted (spoken.RequestsAgent at flag) is = tt
own_bare channel wanted spoken.Inconsistent is = tt
own_bare channel wanted said is = absurd is

ended_bare : (said : Spoken) → IsBareSpoken said → AllBare (to_the_end said)
ended_bare spoken.Inconsistent h = tt
ended_bare said h = λ values. h

asked_bare : (o : Option KnownRequest) (channel : ChannelId) (wanted : Bool) →
    ((known : KnownRequest) → o ≡ Some known → SaysOwn known) →
    AllBare (request_layout o channel wanted)
asked_bare None channel wanted q = tt
asked_bare (Some known) channel wanted q = λ values.
    let said = known.says channel wanted values in
    ended_bare said (own_bare channel wanted said (q known refl channel wanted values))

request_bare : (there wanted : Bool) (channel : ℕ) (name : List ℕ) →
    AllBare (request_on there wanted channel name)
request_bare false wanted channel name = tt
request_bare true wanted channel name =
    asked_bare (request_named name) (own channel) wanted (known_own name)

-- ---- messages of no channel

globally_bare : (wanted : Bool) (asked : Globally) → IsBareSpoken (global_request_said wanted asked)
globally_bare wanted (Listens address port) = tt
globally_bare wanted (Judges judged) = tt
globally_bare wanted Gives_up_sessions = tt

global_bare : (known : Option KnownGlobal) (wanted : Bool) →
    AllBare (global_layout known wanted)
global_bare None wanted = tt
global_bare (Some known) wanted = λ values. globally_bare wanted (known.asks values)

denied_bare : (first : Option Outstanding) → IsBareSpoken (denied first)
denied_bare None = tt
denied_bare (Some outstanding.Keepalive) = tt
denied_bare (Some (outstanding.Ping slot)) = tt
denied_bare (Some (outstanding.Cancel slot)) = tt
denied_bare (Some (outstanding.Forward slot)) = tt

success_bare : (first : Option Outstanding) → AllBare (success first)
success_bare None = tt
success_bare (Some outstanding.Keepalive) = λ values. tt
success_bare (Some (outstanding.Ping slot)) = λ values. tt
success_bare (Some (outstanding.Cancel slot)) = λ values. tt
success_bare (Some (outstanding.Forward slot)) = λ rest. tt

-- ---- messages of the connection protocol

message_bare : (w : World) (m : ConnectionMessage) → AllBare (message_layout w m)
message_bare w message.GlobalRequest = λ values. global_bare (global_named values.0) values.1.0
message_bare w message.RequestSuccess = success_bare (oldest w.globals.outstanding)
message_bare w message.RequestFailure = λ values. denied_bare (oldest w.globals.outstanding)
message_bare w message.OpenFailure = λ channel code texts. tt
message_bare w message.Data = λ channel. data_bare (is_there w channel.0) channel.0
message_bare w message.ExtendedData = λ channel. extended_bare (is_there w channel.0) channel.0
message_bare w message.Eof = λ values. refl
message_bare w message.Request = λ values.
    request_bare (is_there w values.0) values.1.1.0 values.0 values.1.0
-- the others tell of no happening
message_bare w _ = λ values. tt

-- ---- a payload

open_bare : (fields : List ℕ) (said : Said) → SaysOpen fields said → IsBareSaid said
open_bare fields (Open message) h = tt
open_bare fields Unread h = tt
open_bare fields Without_packets h = tt
open_bare fields (Unfit why) h = tt
open_bare fields _ h = absurd h

confirmation_bare : (fields : List ℕ) (said : Said) → SaysConfirmation fields said →
    IsBareSaid said
confirmation_bare fields (Agreed message) h = tt
confirmation_bare fields Without_packets h = tt
confirmation_bare fields (Unfit why) h = tt
confirmation_bare fields _ h = absurd h

service_bare : (read : Result (List ℕ) WireError) → IsBareSaid (said_of Service read)
service_bare (Ok name) = tt
service_bare (Err why) = tt

pub says_bare : (given : Circumstances) (w : World) (at : Gate) (fields : List ℕ) (said : Said) →
    Says given w at fields said → IsBareSaid said
says_bare given w gate.Nothing fields said h = subst IsBareSaid (sym h) tt
says_bare given w gate.Ends fields said h = subst IsBareSaid (sym h) tt
says_bare given w gate.OverCap fields said h = subst IsBareSaid (sym h) tt
says_bare given w gate.ServiceRequest fields said h =
    subst IsBareSaid (sym h.2) (service_bare h.0)
says_bare given w gate.UserauthRequest fields said h = subst IsBareSaid (sym h.2) tt
says_bare given w gate.InfoResponse fields said h = subst IsBareSaid (sym h.2) tt
says_bare given w gate.ChannelOpen fields said h = open_bare fields said h
says_bare given w gate.OpenConfirmation fields said h = confirmation_bare fields said h
says_bare given w (gate.Connection m) fields said h =
    subst IsBareSaid (sym h.2) (read_bare (message_layout w m) fields h.0 (message_bare w m) h.1)
