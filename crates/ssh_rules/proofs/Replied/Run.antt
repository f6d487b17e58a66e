-- The peer gets no more replies than its requests on a channel want, by induction over a run (RFC
-- 4254 section 5.4).
use Rattle.std.proofs.Common.{◌≡◌, ◌≤◌, ◌==◌, ◌&&◌, ◌+◌, ℕ, List, ◌∷◌, ◌++◌, Bool, true, false}
use Rattle.std.proofs.Common.{cond, Option, Result, refl, subst, ◌∙◌, arith}
use Rattle.std.specs.Prelude.{option_to_list}
use Rattle.ssh_wire.specs.declared.channel_id.ChannelId.{ChannelId}
use Rattle.ssh_link.specs.declared.frame.InputKind.TheVariants as input
use Rattle.ssh_auth.specs.Publickey.{Acceptance}
use Rattle.ssh_channels.specs.Lines.{takes_request}
use Rattle.ssh_channels.specs.Sent.{is_reply}
use Rattle.ssh_rules.specs.declared.error.RunError.{RunError}
use Rattle.ssh_rules.specs.Account.{Closes}
use Rattle.ssh_rules.specs.Opens.{failure_frame}
use Rattle.ssh_rules.specs.Reading.{Said}
use Rattle.ssh_rules.specs.Replied.{wants_reply_on, Replied}
use Rattle.ssh_rules.specs.Run.{Turn, Run}
use Rattle.ssh_rules.specs.World.{Settings, World, lined, opening_world, wants_if}
use Rattle.ssh_rules.proofs.Authorised.Run.{AllWalk, run_walks, last_walks, behind}
use Rattle.ssh_rules.proofs.Measure.Events.{still_low}
use Rattle.ssh_rules.proofs.Measure.Calls.{untold}
use Rattle.ssh_rules.proofs.Measure.Commands.{owing, OwesUpTo, RequestOwes}
use Rattle.ssh_rules.proofs.Measure.Rows.{OfRead, read_weaker}
use Rattle.ssh_rules.proofs.Replied.Measure.{replies_on, request_owe}
use Rattle.ssh_rules.proofs.Replied.Inputs.{left_with, Repays, past_few}
use Rattle.ssh_rules.proofs.Read.Wanting.{BytesSay}

left_so : (b : Bool) → (b && true) ≡ b
left_so true = refl
left_so false = refl

-- where it wants one, so many come to at most one more
one_more : (a b : Bool) (now later left : ℕ) → a ≡ b → later ≤ now + cond b 1 0 → now ≤ left →
    later ≤ cond a (left + 1) left
one_more true true now later left is few h = omega (arith, few, h)
one_more false false now later left is few h = omega (arith, few, h)
one_more true false now later left is few h = absurd (cc)
one_more false true now later left is few h = absurd (cc)

-- a request makes one more where it wants one
request_step : (b : Bool) (number left : ℕ) (w : World) (channel : ChannelId) (wanted : Bool) →
    b ≡ ((number == channel.0) && wanted) → OwesUpTo (replies_on number) left w →
    OwesUpTo (replies_on number) (cond b (left + 1) left) (lined (wants_if wanted channel.0) w)
request_step b number left w channel true is h =
    let now = owing (replies_on number) w in
    let later = owing (replies_on number) (lined (takes_request channel.0) w) in
    let most = request_owe number channel.0 w.channels.lines in
    one_more b (number == channel.0) now later left (is ∙ left_so (number == channel.0))
    (omega (arith, most)) h
request_step b number left w channel false is h = still_low b (owing (replies_on number) w) left h

request_reads : (number left : ℕ) (w : World) (payload : List ℕ) (said : Said) →
    OfRead (BytesSay w payload) said → OwesUpTo (replies_on number) left w →
    OfRead (RequestOwes (replies_on number)
    (left_with (wants_reply_on number) left (input.Payload payload)) w) said
request_reads number left w payload said q h =
    let b = wants_reply_on number (input.Payload payload) in
    read_weaker (BytesSay w payload) (RequestOwes (replies_on number) (cond b (left + 1) left) w)
    said
    (λ channel wanted is. request_step b number left w channel wanted (is number) h)
    (λ wanted is. still_low b (owing (replies_on number) w) left h)
    (λ told is. tt) q

replies_repay : (number : ℕ) → Repays (replies_on number) (wants_reply_on number)
replies_repay number = record {
  never = λ question. refl;
  none_wait = λ opens. refl;
  apart = λ m payload unlike. untold (number == m) (is_reply (failure_frame m payload)) unlike.0;
  reads = λ left w payload said q h. request_reads number left w payload said q h;
}

-- a run sends no more replies than its requests want
pub replied : {E F : Type 0} (accepts : Acceptance) (settings : Settings) (turns : List (Turn E F))
    (world : World) (count max : ℕ) (last : Option (Turn E F)) (rose : Type 0)
    (result : Result (Unit {0}) (RunError E F)) →
    Run accepts (opening_world settings) turns world →
    Closes accepts world count max last rose result →
    Replied accepts settings (turns ++ option_to_list last)
replied accepts settings turns world count max last rose result run closes =
    let all = run_walks accepts (opening_world settings) turns world (option_to_list last) run
    (last_walks accepts world count max last rose result closes) in
    let first : (number : ℕ) → OwesUpTo (replies_on number) 0 (opening_world settings) =
    λ number. omega arith in
    record {
      never_more = λ past more is number.
          let few = past_few (replies_on number) (wants_reply_on number) (replies_repay number)
          accepts 0 (turns ++ option_to_list last) (opening_world settings) all (first number) past
          more is in
          omega (arith, few);
      since = λ before span more turn is.
          let at = behind accepts (opening_world settings) before turn (span ++ more)
          (subst (AllWalk accepts (opening_world settings)) is all) in
          record {
            world = at.world;
            run = at.run;
            within = λ number.
                let few = past_few (replies_on number) (wants_reply_on number)
                (replies_repay number) accepts (owing (replies_on number) at.world)
                (turn ∷ (span ++ more)) at.world at.walks (omega arith) (turn ∷ span) more refl in
                omega (arith, few);
          };
    }
