-- The peer gets no more replies than its global requests want, by induction over a run (RFC 4254
-- section 4).
use Rattle.std.proofs.Common.{◌≡◌, ◌≤◌, ◌+◌, ◌==◌, ◌&&◌, ◌||◌, ℕ, List, [], ◌∷◌, ◌++◌}
use Rattle.std.proofs.Common.{Bool, true, false, cond, nat_lt, Option, Result, refl, subst}
use Rattle.std.proofs.Common.{arith}
use Rattle.std.specs.Prelude.{option_to_list}
use Rattle.ssh_link.specs.declared.frame.InputKind.TheVariants as input
use Rattle.ssh_auth.specs.Publickey.{Acceptance}
use Rattle.ssh_channels.specs.Lines.{Lines, find, put}
use Rattle.ssh_rules.specs.declared.error.RunError.{RunError}
use Rattle.ssh_rules.specs.Account.{Closes}
use Rattle.ssh_channels.proofs.Listed.{one_number}
use Rattle.ssh_rules.specs.Exchange.{is_of_transport}
use Rattle.ssh_rules.specs.GlobalReplied.{is_global_reply, replies_globally, wants_global_reply}
use Rattle.ssh_rules.specs.GlobalReplied.{GlobalReplied}
use Rattle.ssh_rules.specs.Layout.{at_once}
use Rattle.ssh_rules.specs.Opens.{failure_frame}
use Rattle.ssh_rules.specs.Reading.{Said}
use Rattle.ssh_rules.specs.Run.{Turn, Run}
use Rattle.ssh_rules.specs.World.{Settings, World, wants_global, opening_world, wants_if}
use Rattle.ssh_rules.proofs.Authorised.Run.{AllWalk, run_walks, last_walks, behind}
use Rattle.ssh_rules.proofs.Measure.Events.{still_low}
use Rattle.ssh_rules.proofs.Measure.Calls.{Measure, LinesOwe, one_if, no_more, lines_owe, found}
use Rattle.ssh_rules.proofs.Measure.Calls.{silent_more, silent_none, replies_silent, chosen}
use Rattle.ssh_rules.proofs.Measure.Commands.{owing, OwesUpTo, RequestOwes, lined_upto, same_lines}
use Rattle.ssh_rules.proofs.Measure.Rows.{OfRead, read_weaker}
use Rattle.ssh_rules.proofs.Replied.Inputs.{left_with, Repays, past_few}
use Rattle.ssh_rules.proofs.Read.Wanting.{BytesSay}
use Rattle.ssh_channels.specs.Layout.{reply_frame}
use Rattle.ssh_channels.specs.Entry.{Entry, requesting, replies_out}
use Rattle.ssh_rules.proofs.Plans.Requested.{wants_kept}
use Rattle.ssh_rules.specs.Answered.{how_many}

-- ---- the measure

-- a frame of an exchange of keys is no reply: its number is 1 to 49
exchanged_step : (a b : Bool) (number : ℕ) → (number == 81) ≡ a → (number == 82) ≡ b →
    (nat_lt 0 number && nat_lt number 50) ≡ true → (a || b) ≡ false
exchanged_step true b number is so low =
    absurd (let e : (nat_lt 0 81 && nat_lt 81 50) ≡ true =
    subst (λ n. (nat_lt 0 n && nat_lt n 50) ≡ true) (one_number number 81 is) low in cc)
exchanged_step false true number is so low =
    absurd (let e : (nat_lt 0 82 && nat_lt 82 50) ≡ true =
    subst (λ n. (nat_lt 0 n && nat_lt n 50) ≡ true) (one_number number 82 so) low in cc)
exchanged_step false false number is so low = refl

exchanged_beside : (payload : List ℕ) → is_of_transport payload ≡ true →
    replies_globally payload ≡ false
exchanged_beside [] low = refl
exchanged_beside (number ∷ fields) low =
    exchanged_step (number == 81) (number == 82) number refl refl low

one_most : (b : Bool) → one_if b + 0 ≤ 1
one_most true = omega arith
one_most false = omega arith

-- a reply to a request on a channel is none
reply_unlike : (own peer : ℕ) (success : Bool) →
    is_global_reply (reply_frame own peer success) ≡ false
reply_unlike own peer true = refl
reply_unlike own peer false = refl

none_globally : (place : Option ℕ) (success : Bool) (e : Entry) →
    how_many is_global_reply (replies_out place success e) ≡ 0
none_globally place success e =
    silent_none is_global_reply (replies_out place success e)
    (replies_silent is_global_reply e.number e.peer (reply_unlike e.number e.peer) _)

-- replies to global requests, and whether the peer's last one wants one; no question makes one
abbrev global_replies : Measure
global_replies = record {
  such = is_global_reply;
  due = λ entries. 0;
  waiting = λ opens. 0;
  globally = λ wanted. one_if wanted;
  asks = λ question. false;
  untagged = λ frame is unlike. unlike;
  exchanged = λ frame is so. exchanged_beside frame.payload so;
  other = λ frame no_answer no_reply. no_reply.1;
  kept = λ e f entries at same. omega arith;
  parted = λ m entries. omega arith;
  begun = λ e entries none. omega arith;
  replied = λ place success e entries at.
      let none = none_globally place success e in omega (arith, none);
  answered = λ m payload opening opens unlike is.
      no_more (is_global_reply (failure_frame m payload)) 0 unlike.1;
  settled = λ payload. one_most (is_global_reply (at_once payload));
}

-- ---- requests

-- a request on a channel makes none
wants_owe : (m : ℕ) (wanted : Bool) (l : Lines) →
    LinesOwe global_replies (lines_owe global_replies l) (wants_if wanted m l)
wants_owe m wanted l =
    let k = lines_owe global_replies l in
    wants_kept (LinesOwe global_replies k) wanted m l
    (λ h. found (find m l.entries) global_replies k m _ l refl
    (λ e is. chosen e.confirmed global_replies k _ _
    (silent_more global_replies k l.written [] l.entries (put (requesting e) l.entries) tt
    (omega arith) h) h) h) (same_lines global_replies l)

-- a request makes one more where it wants one
wanted_step : (b wanted : Bool) (left : ℕ) (w : World) → b ≡ wanted →
    OwesUpTo global_replies left w →
    OwesUpTo global_replies (cond b (left + 1) left) (wants_global wanted w)
wanted_step true true left w is h = omega (arith, h)
wanted_step false false left w is h = omega (arith, h)
wanted_step true false left w is h = absurd (cc)
wanted_step false true left w is h = absurd (cc)

request_reads : (left : ℕ) (w : World) (payload : List ℕ) (said : Said) →
    OfRead (BytesSay w payload) said → OwesUpTo global_replies left w →
    OfRead (RequestOwes global_replies (left_with wants_global_reply left
    (input.Payload payload)) w) said
request_reads left w payload said q h =
    let b = wants_global_reply (input.Payload payload) in
    let k = cond b (left + 1) left in
    read_weaker (BytesSay w payload) (RequestOwes global_replies k w) said
    (λ channel wanted is. lined_upto global_replies k (wants_if wanted channel.0) w
    (wants_owe channel.0 wanted w.channels.lines)
    (still_low b (owing global_replies w) left h))
    (λ wanted is. wanted_step b wanted left w is h) (λ told is. tt) q

replies_repay : Repays global_replies wants_global_reply
replies_repay = record {
  never = λ question. refl;
  none_wait = λ opens. refl;
  apart = λ m payload unlike. unlike.1;
  reads = λ left w payload said q h. request_reads left w payload said q h;
}

-- a run sends no more replies than its global requests want
pub globally_replied : {E F : Type 0} (accepts : Acceptance) (settings : Settings)
    (turns : List (Turn E F)) (world : World) (count max : ℕ) (last : Option (Turn E F))
    (rose : Type 0) (result : Result (Unit {0}) (RunError E F)) →
    Run accepts (opening_world settings) turns world →
    Closes accepts world count max last rose result →
    GlobalReplied accepts settings (turns ++ option_to_list last)
globally_replied accepts settings turns world count max last rose result run closes =
    let all = run_walks accepts (opening_world settings) turns world (option_to_list last) run
    (last_walks accepts world count max last rose result closes) in
    let first : OwesUpTo global_replies 0 (opening_world settings) = omega arith in
    record {
      never_more = λ past more is.
          let few = past_few global_replies wants_global_reply replies_repay accepts 0
          (turns ++ option_to_list last) (opening_world settings) all first past more is in
          omega (arith, few);
      since = λ before span more turn is.
          let at = behind accepts (opening_world settings) before turn (span ++ more)
          (subst (AllWalk accepts (opening_world settings)) is all) in
          let few = past_few global_replies wants_global_reply replies_repay accepts
          (owing global_replies at.world) (turn ∷ (span ++ more)) at.world at.walks (omega arith)
          (turn ∷ span) more refl in
          record { world = at.world; run = at.run; within = omega (arith, few) };
    }
