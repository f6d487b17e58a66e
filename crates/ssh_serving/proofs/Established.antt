-- What the table has of a channel, where something is said on it (RFC 4254 section 5.4).
use Rattle.std.proofs.Common.{◌≡◌, ◌≤◌, ◌<◌, ◌+◌, ◌∷◌, ◌++◌, ◌∙◌, ℕ, List, [], false}
use Rattle.std.proofs.Common.{true}
use Rattle.std.proofs.Common.{Option, Some, None, length, rules, refl, sym, ap, arith}
use Rattle.std.specs.Prelude.{◌^◌, if◌then◌else◌}
use Rattle.std.proofs.lemmas.List.{length-append}
use Rattle.ssh_wire.specs.declared.channel_id.ChannelId.{ChannelId}
use Rattle.ssh_link.specs.declared.outcome.Refusal.{Refusal}
use Rattle.ssh_link.specs.declared.outcome.Refusal.TheVariants.{UnknownChannel, TooLong}
use Rattle.ssh_channels.specs.declared.params.ChannelParams.{ChannelParams}
use Rattle.ssh_channels.specs.Entry.{Entry}
use Rattle.ssh_channels.specs.Layout.{on_channel}
use Rattle.ssh_channels.specs.Lines.{find}
use Rattle.ssh_channels.specs.Table.{line_at}
use Rattle.ssh_channels.proofs.Standing.{Found, found}
use Rattle.ssh_serving.specs.declared.server.Server.{Server}
use Rattle.ssh_rules.specs.Effect.{Effect, accepts, refuses, requests, requests_on, is_too_long}
use Rattle.ssh_rules.specs.Effect.{not_usable, no_established}
use Rattle.ssh_rules.specs.OwnRequests.{OwnRequest, request_payload}
use Rattle.ssh_serving.specs.Serve.{Refines}
use Rattle.ssh_rules.specs.World.{World, writes}

-- ---- why nothing can be said on a channel

abbrev unsaid : Option ChannelParams → Option Refusal
unsaid None = Some UnknownChannel
unsaid (Some line) = not_usable line.confirmed false

unsaid_at : (n : ℕ) (line : Option ChannelParams) (e : Option Entry) → Found n line e →
    unsaid line ≡ no_established e
unsaid_at n None None f = refl
unsaid_at n None (Some e) f = absurd f
unsaid_at n (Some line) None f = absurd f
unsaid_at n (Some line) (Some e) f = ap (λ b. not_usable b false) f.0.confirmed

pub unestablished : (n : ℕ) (session : Server) (w : World) (line : Option ChannelParams)
    → Refines session w → line ≡ line_at n session.table
    → unsaid line ≡ no_established (find n w.channels.lines.entries)
unestablished n session w line r e =
    ap unsaid e
    ∙ unsaid_at n _ _ (found 0 n session.table.lines w.channels.lines.entries r.table.entries)

-- ---- requests of this side's

-- the same by the line of the table
abbrev pub requests_by : Option ChannelParams → (channel : ChannelId) → OwnRequest → World → Effect
requests_by None channel asked w = accepts w
requests_by (Some line) channel asked w = accepts (writes (on_channel channel.0
    (request_payload line.recipient_channel asked) ∷ []) w)

requests_at : (n : ℕ) (line : Option ChannelParams) (e : Option Entry) (channel : ChannelId)
    (asked : OwnRequest) (w : World) → Found n line e →
    requests_by line channel asked w ≡ requests_on e channel asked w
requests_at n None None channel asked w f = refl
requests_at n None (Some e) channel asked w f = absurd f
requests_at n (Some line) None channel asked w f = absurd f
requests_at n (Some line) (Some e) channel asked w f =
    ap (λ peer. accepts (writes (on_channel channel.0 (request_payload peer asked) ∷ []) w))
    f.0.peer

-- a request has ten bytes besides its name and its own fields
request_size : (asked : OwnRequest) →
    length (request_payload 0 asked) ≡ 10 + length asked.name + length asked.fields
request_size asked =
    let flag : List ℕ = 0 ∷ [] in
    let inner = length-append (asked.name ++ flag) asked.fields in
    let outer = length-append asked.name flag in
    let later = length-append asked.name (flag ++ asked.fields) in
    let more = length-append flag asked.fields in
    omega (arith, inner, outer, later, more)

few_so : (asked : OwnRequest) → length asked.name + length asked.fields ≤ 4294967285
    → is_too_long (request_payload 0 asked) ≡ false
few_so asked h =
    let size = request_size asked in
    let few : length (request_payload 0 asked) < 2 ^ 32 = omega (arith, h, size) in
    search (rules, few)

many_so : (asked : OwnRequest) → 4294967285 < length asked.name + length asked.fields
    → is_too_long (request_payload 0 asked) ≡ true
many_so asked h =
    let size = request_size asked in
    let many : 2 ^ 32 ≤ length (request_payload 0 asked) = omega (arith, h, size) in
    search (rules, many)

pub short_request : (channel : ChannelId) (asked : OwnRequest) (session : Server) (w : World)
    (line : Option ChannelParams) → Refines session w → line ≡ line_at channel.0 session.table
    → length asked.name + length asked.fields ≤ 4294967285
    → requests channel asked w ≡ requests_by line channel asked w
short_request channel asked session w line r e h =
    ap (λ b. if b then refuses TooLong w
    else requests_on (find channel.0 w.channels.lines.entries) channel asked w) (few_so asked h)
    ∙ sym (ap (λ l. requests_by l channel asked w) e
    ∙ requests_at channel.0 _ _ channel asked w
    (found 0 channel.0 session.table.lines w.channels.lines.entries r.table.entries))

pub long_request : (channel : ChannelId) (asked : OwnRequest) (w : World)
    → 4294967285 < length asked.name + length asked.fields
    → requests channel asked w ≡ refuses TooLong w
long_request channel asked w h =
    ap (λ b. if b then refuses TooLong w
    else requests_on (find channel.0 w.channels.lines.entries) channel asked w) (many_so asked h)
