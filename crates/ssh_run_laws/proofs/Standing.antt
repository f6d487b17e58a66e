-- A channel stands until something ends it, and an open of the peer's waits until it is answered
-- (RFC 4254 sections 5.1 and 5.3).
use Rattle.std.proofs.Common.{◌≡◌, ◌==◌, ◌||◌, ◌∙◌, ℕ, List, [], ◌∷◌, Bool, true, false, cond}
use Rattle.std.proofs.Common.{Some, None, refl, sym, ap, subst, rules}
use Rattle.std.specs.Prelude.{flat_map}
use Rattle.std.specs.List.{list_any}
use Rattle.ssh_link.specs.declared.command.Command.{Command}
use Rattle.ssh_link.specs.declared.command.Command.TheVariants as command
use Rattle.ssh_link.specs.declared.frame.InputKind.TheVariants as input
use Rattle.ssh_link.specs.declared.link.TraceEntry.TheVariants.{Noticed, Answered}
use Rattle.ssh_link.specs.declared.notice.Notice.TheVariants.{Ready}
use Rattle.ssh_link.specs.declared.open_answer.OpenAnswer.{OpenAnswer}
use Rattle.ssh_link.specs.declared.outcome.CommandOutcome.{CommandOutcome}
use Rattle.ssh_link.specs.declared.outcome.CommandOutcome.TheVariants.{Accepted}
use Rattle.ssh_wire.specs.declared.channel_id.ChannelId.{ChannelId}
use Rattle.ssh_auth.specs.Plan.{Finish, Tell, Event, Follows}
use Rattle.ssh_auth.specs.Publickey.{Acceptance}
use Rattle.ssh_channels.specs.Lines.{last_left}
use Rattle.ssh_rules.specs.Acts.{done}
use Rattle.ssh_rules.specs.Effect.{decides_open as answering, confirms, decides, done_by, effect}
use Rattle.ssh_rules.specs.Effect.{no_open, refused_for, refused_or}
use Rattle.ssh_rules.specs.Opening.{Opening}
use Rattle.ssh_rules.specs.Opens.{opening_of}
use Rattle.ssh_rules.specs.Outcome.{Outcome, Goes}
use Rattle.ssh_rules.specs.Run.{OwesKind, entries}
use Rattle.ssh_rules.specs.World.{World, opening_world}
use Rattle.ssh_rules.proofs.Ledger.Inputs.{nothing_kept, run_kept}
use Rattle.ssh_rules.proofs.Ended.Run.{run_live}
use Rattle.ssh_run_laws.specs.Channels.{Stands, answers, bytes_of, is_accepting, opens}
use Rattle.ssh_run_laws.specs.Channels.{waits_from, waits_then}
use Rattle.ssh_run_laws.specs.Deeds.{Asked, Closed_by_peer, Commanded, Deed, deeds, deeds_in}
use Rattle.ssh_run_laws.specs.Deeds.{given_by}
use Rattle.ssh_run_laws.specs.Standing.{AnsweredOpensStand, ChannelsStand, OpensAreNew}
use Rattle.ssh_run_laws.specs.Standing.{OpensStillWait, OpensWait}
use Rattle.ssh_run_laws.proofs.Chains.{Chain, chain_new, chain_still, chain_waits, neither}
use Rattle.ssh_run_laws.proofs.RunDeeds.{run_chain, turn_parted}

pub channels_stand : (E F : Type 0) (accepts : Acceptance) → ChannelsStand E F accepts
channels_stand E F accepts settings before span w world run more n e at confirmed unclosed free =
    let kept = run_kept accepts [] (opening_world settings) before w run (nothing_kept settings) in
    let chain = run_chain n accepts (flat_map entries before) w span world more kept in
    let later = chain_still n w (flat_map deeds span) world e.eof chain free
    (e, at, (confirmed, unclosed, refl)) in
    let s : Stands n e.eof world.channels.lines = later.0 in
    record {
      later = s.0;
      there = s.1;
      confirmed = s.2.0;
      unclosed = s.2.1;
      ended = s.2.2;
      bytes = sym (ap (λ o. bytes_of o (last_left n world.channels.lines.left)) s.1) ∙ later.1
          ∙ ap (λ o. bytes_of o (last_left n w.channels.lines.left)) at;
    }

-- ---- opens

pub opens_wait : (E F : Type 0) (accepts : Acceptance) → OpensWait E F accepts
opens_wait E F accepts settings turns world run n t =
    chain_waits n (opening_world settings) (flat_map deeds turns) world false
    (run_chain n accepts [] (opening_world settings) turns world run (nothing_kept settings))
    (λ no. absurd (cc)) t

same_number : (n : ℕ) → (n == n) ≡ true
same_number n = search rules

pub opens_are_new : (E F : Type 0) (accepts : Acceptance) → OpensAreNew E F accepts
opens_are_new E F accepts settings turns world run before after channel is =
    let n = channel.0 in
    let w = opening_world settings in
    chain_new n w before (Asked channel) after world false
    (subst (λ l. Chain n w l world) is
    (run_chain n accepts [] w turns world run (nothing_kept settings)))
    (λ no. absurd (cc)) (same_number n)

or_true : (b : Bool) → (b || true) ≡ true
or_true true = refl
or_true false = refl

pub still_then : (n : ℕ) (deed : Deed) → answers n deed ≡ false → waits_then n true deed ≡ true
still_then n (Commanded one came) h = ap (λ b. cond b false true) h
still_then n (Asked channel) h = or_true (n == channel.0)
still_then n (Closed_by_peer channel) h = refl

unanswered : (n : ℕ) (deeds : List Deed) → list_any (answers n) deeds ≡ false
    → waits_from n true deeds ≡ true
unanswered n [] h = refl
unanswered n (deed ∷ deeds) h =
    let none = neither n (answers n deed) (list_any (answers n) deeds) h in
    ap (λ b. waits_from n b deeds) (still_then n deed none.0) ∙ unanswered n deeds none.1

pub opens_still_wait : (E F : Type 0) (accepts : Acceptance) → OpensStillWait E F accepts
opens_still_wait E F accepts settings before span w world run more n waits free =
    let kept = run_kept accepts [] (opening_world settings) before w run (nothing_kept settings) in
    chain_waits n w (flat_map deeds span) world true
    (run_chain n accepts (flat_map entries before) w span world more kept) (λ t. waits)
    (unanswered n (flat_map deeds span) free)

-- ---- an answer

opens_effect : (w : World) (answer : OpenAnswer) (opening : Opening) → w.disconnected ≡ false
    → opening_of answer.channel.0 w ≡ Some opening → answer.rejection ≡ None
    → effect w (command.Answer answer) ≡ confirms answer.channel.0 opening w
opens_effect w answer opening live waits accepting =
    let one = command.Answer answer in
    ap (λ b. refused_or (refused_for b w one) w (done_by None w one)) live
    ∙ ap (λ o. refused_or (no_open o) w (answering answer o w)) waits
    ∙ ap (λ r. decides answer.channel.0 opening r answer.texts w) accepting

ready_deeds : {E F : Type 0} (one : Command) (channel : ChannelId) (window packet ticket : ℕ)
    (came : CommandOutcome) (v : World) (events : List (Event E F)) (outcome : Outcome)
    → Follows (Tell (Noticed (Ready channel window packet))
    (Tell (Answered ticket came) (Finish (Goes v)))) events outcome
    → deeds_in (Some one) events ≡ Commanded one came ∷ []
ready_deeds one channel window packet ticket came v [] outcome f = absurd (cc)
ready_deeds one channel window packet ticket came v (first ∷ []) outcome f =
    absurd (let no = f.1 in cc)
ready_deeds {E} {F} one channel window packet ticket came v (first ∷ second ∷ []) outcome f =
    ap (λ x. deeds_in {E = E} {F = F} (Some one) (x ∷ second ∷ [])) f.0
    ∙ ap (λ x. deeds_in {E = E} {F = F} (Some one) (x ∷ [])) f.1.0
ready_deeds one channel window packet ticket came v (first ∷ second ∷ third ∷ events) outcome f =
    absurd f.1.1

opened_chain : (n : ℕ) (w : World) (answer : OpenAnswer) (world : World)
    → opens n (Commanded (command.Answer answer) Accepted) ≡ true
    → Chain n w (Commanded (command.Answer answer) Accepted ∷ []) world
    → Stands n false world.channels.lines
opened_chain n w answer world is c = c.4.stands false (c.3.opened is)

pub answered_opens_stand : (E F : Type 0) (accepts : Acceptance) → AnsweredOpensStand E F accepts
answered_opens_stand E F accepts settings turns w turn world run t ticket answer is accepting waits
    =
    let n = answer.channel.0 in
    let one = command.Answer answer in
    let kept = run_kept accepts [] (opening_world settings) turns w run (nothing_kept settings) in
    let live = run_live accepts (opening_world settings) turns w run refl in
    let p = turn_parted n accepts (flat_map entries turns) w turn t.0 (Goes world) t.1 t.2 kept in
    let owes : OwesKind accepts w turn.input.moment (input.OpenReply ticket answer) t.1.0 =
    subst (λ k. OwesKind accepts w turn.input.moment k t.1.0) is t.1.1 in
    let follows = subst (λ does. Follows {E = E} {F = F} (done does (λ came v.
    Tell (Answered ticket came) (Finish (Goes v)))) p.early p.between)
    (opens_effect w answer waits.0 live waits.1 accepting)
    (subst (λ q. Follows q p.early p.between) owes p.follows) in
    let did : deeds turn ≡ Commanded one Accepted ∷ [] =
    p.is ∙ ap (λ k. deeds_in (given_by k) p.early) is
    ∙ ready_deeds one answer.channel waits.0.window waits.0.packet ticket Accepted _ p.early
    p.between follows in
    let opened : opens n (Commanded one Accepted) ≡ true =
    ap (λ b. cond b (is_accepting answer.rejection) false) (same_number n)
    ∙ ap is_accepting accepting in (
      did,
      opened_chain n w answer world opened (subst (λ l. Chain n w l world) did p.comes),
    )
