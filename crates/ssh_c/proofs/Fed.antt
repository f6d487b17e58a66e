-- How an input that was taken is fed.
use Rattle.std.proofs.Common.{◌≡◌, ℕ, List, Bool, true, false, Option, Some, Ok}
use Rattle.std.proofs.Common.{refl, sym, subst, inl, inr}
use Rattle.ssh_link.specs.declared.frame.Input.{Input}
use Rattle.ssh_embed.specs.Asking.{Vouches}
use Rattle.ssh_embed.specs.Story.{Came}
use Rattle.ssh_embed.specs.Taking.{Went, Takes}
use Rattle.ssh_embed.specs.declared.connection.Connection.{Connection}
use Rattle.ssh_c.specs.Codes.{code_of}
use Rattle.ssh_c.specs.Feeding.{Feeds, FedNow, Fed, SaysNow, DoesWhere, DoesSome, payload_at}
use Rattle.ssh_c.specs.Feeding.{AddsTo}
use Rattle.ssh_c.specs.declared.held.Held.{Held}

-- an input that was taken without a word on signatures
pub fed_plain : (before after : Held) (input : Input) (went : Went)
    → Takes before.connection input after.connection went
    → AddsTo before.connection before.connection input after.connection went
    → Feeds before input after went
fed_plain before after input went takes adds = inr (before.connection, inl refl, takes, adds)

pub fed_number : (before after : Held) (input : Input) (went : Went) (code : ℕ)
    → code ≡ code_of went → Feeds before input after went → FedNow before input after code
fed_number before after input went code is feeds = inr (went, is, feeds)

-- a payload that was taken behind a word on its signature
fed_behind : (before after : Held) (moment : ℕ) (payload : List ℕ) (mid : Connection)
    (shown : Bool) (went : Went) → Vouches moment payload before.connection mid (Ok shown)
    → Takes mid (payload_at moment payload) after.connection went
    → AddsTo mid mid (payload_at moment payload) after.connection went
    → Feeds before (payload_at moment payload) after went
fed_behind before after moment payload mid true went vouches takes adds =
    inr (
      mid,
      inr (payload, refl, vouches),
      takes,
      λ settings rounds came.
          adds settings rounds (subst (Came settings rounds) (sym vouches.2) came),
    )
fed_behind before after moment payload mid false went vouches takes adds =
    inr (
      mid,
      inl vouches,
      takes,
      λ settings rounds came.
          adds settings rounds (subst (Came settings rounds) (sym vouches) came),
    )

pub fed_vouched : (before after : Held) (moment : ℕ) (payload : List ℕ) (input : Input)
    (mid : Connection) (shown : Bool) (went : Went) → input ≡ payload_at moment payload
    → Vouches moment payload before.connection mid (Ok shown)
    → Takes mid input after.connection went → AddsTo mid mid input after.connection went
    → Feeds before input after went
fed_vouched before after moment payload input mid shown went is vouches takes adds =
    subst (λ i. Feeds before i after went) (sym is)
    (fed_behind before after moment payload mid shown went vouches
    (subst (λ i. Takes mid i after.connection went) is takes)
    (subst (λ i. AddsTo mid mid i after.connection went) is adds))

-- ---- of what a handle holds

pub fed_in : (before after : Option Held) (old new : Held) (input : Input) (code : ℕ)
    → before ≡ Some old → after ≡ Some new → FedNow old input new code
    → Fed before input after code
fed_in before after old new input code was is fed =
    subst (λ b. Fed b input after code) (sym was)
    (subst (λ a. Fed (Some old) input a code) (sym is) fed)

pub does_in : {A : Type 0} (thing : A) (option : Option A) (input : A → Input)
    (before after : Option Held) (old new : Held) (code : ℕ) → option ≡ Some thing
    → before ≡ Some old → after ≡ Some new → FedNow old (input thing) new code
    → DoesWhere option input before after code
does_in thing option input before after old new code known was is fed =
    subst (λ o. DoesWhere o input before after code) (sym known)
    (fed_in before after old new (input thing) code was is fed)

pub does_some_in : (moment ticket : ℕ) (before after : Option Held) (old new : Held) (code : ℕ)
    → before ≡ Some old → after ≡ Some new → SaysNow moment ticket old new code
    → DoesSome moment ticket before after code
does_some_in moment ticket before after old new code was is said =
    subst (λ b. DoesSome moment ticket b after code) (sym was)
    (subst (λ a. DoesSome moment ticket (Some old) a code) (sym is) said)
