-- Where a command ended the connection, its DISCONNECT is the last that the link is told (RFC 4253
-- section 11.1).
use Rattle.std.proofs.Common.{◌≡◌, ◌&&◌, List, [], ◌∷◌, map, Bool, true, false, not, cond}
use Rattle.std.proofs.Common.{Option, Some, None, refl, sym, ◌∙◌, ap, subst}
use Rattle.std.specs.Prelude.{IfSome}
use Rattle.std.proofs.lemmas.List.{map-append}
use Rattle.ssh_link.specs.Frames.{Frame}
use Rattle.ssh_link.specs.declared.link.TraceEntry.{TraceEntry}
use Rattle.ssh_link.specs.declared.link.TraceEntry.TheVariants.{Took, Sent}
use Rattle.ssh_auth.specs.Plan.{Plan, Finish, Ask, Tell, Event, Called, Stepped, Told, Follows}
use Rattle.ssh_auth.specs.Plan.{after, told_in}
use Rattle.ssh_auth.specs.Publickey.{Acceptance}
use Rattle.ssh_channels.specs.Lines.{Lines, handed}
use Rattle.ssh_rules.specs.Acts.{Beginning, acts, frames_given, moved, payloads_given, tell_all}
use Rattle.ssh_rules.specs.Outcome.{Outcome, Goes, Ends, Fails}
use Rattle.ssh_rules.specs.Parting.{EndsParting, IsParted}
use Rattle.ssh_rules.specs.Run.{Turn, asks_for_keys, begins, finish_input, going_out}
use Rattle.ssh_rules.specs.Run.{handed_on, is_due}
use Rattle.ssh_rules.specs.World.{World, in_exchange}
use Rattle.ssh_rules.proofs.Plans.Acting.{PlanComes}
use Rattle.ssh_rules.proofs.Plans.Emptied.{told_comes, comes_of}
use Rattle.ssh_rules.proofs.Ended.Run.{IsLive}
use Rattle.ssh_rules.proofs.Parted.Written.{PartsLast, Parts, ComesParts, kind_parts}
use Rattle.ssh_rules.proofs.Plans.Settled.{Anything}

-- ---- what is told

later_told : (entry : TraceEntry) (told : List TraceEntry) → EndsParting told
    → EndsParting (entry ∷ told)
later_told entry told h = (entry ∷ h.0, h.1, h.2, ap (λ t. entry ∷ t) h.3)

later_events : {E F : Type 0} (event : Event E F) (events : List (Event E F))
    → EndsParting (told_in events) → EndsParting (told_in (event ∷ events))
later_events (Called call) events h = h
later_events (Stepped step) events h = h
later_events (Told entry) events h = later_told entry (told_in events) h

frames_part : (frames : List Frame) → PartsLast frames → EndsParting (map Sent frames)
frames_part frames h =
    (map Sent h.0, h.1, h.2, ap (map Sent) h.3 ∙ map-append Sent h.0 (h.1 ∷ []))

-- nothing is held once the connection was ended
handed_part : (running ended : Bool) (l : Lines) → ended ≡ true → PartsLast l.written
    → PartsLast (handed (running && not ended) l)
handed_part false ended l is h = h
handed_part true true l is h = h
handed_part true false l is h = absurd (cc)

going_part : (w : World) → w.disconnected ≡ true → Parts w → EndsParting (map Sent (going_out w))
going_part w is h = frames_part (going_out w)
    (handed_part (in_exchange w) w.disconnected w.channels.lines is (h is))

-- ---- the end of an input

-- at the end these were told, and this is the world
all_told : {E F : Type 0} (frames : List Frame) (v world : World) (events : List (Event E F))
    → Follows (tell_all (map Sent frames) (Finish (Ends v))) events (Ends world)
    → (told_in events ≡ map Sent frames) × (world ≡ v)
all_told [] v world [] f = (refl, let same = f in cc)
all_told [] v world (event ∷ events) f = absurd f
all_told (frame ∷ frames) v world [] f = absurd (let no = f in cc)
all_told {E} {F} (frame ∷ frames) v world (event ∷ events) f =
    let rest = all_told frames v world events f.1 in (
      subst (λ e. told_in {E = E} {F = F} (e ∷ events) ≡ Sent frame ∷ map Sent frames) (sym f.0)
          (ap (λ t. Sent frame ∷ t) rest.0),
      rest.1,
    )

ends_part : {E F : Type 0} (w world : World) (events : List (Event E F)) → Parts w
    → Follows (tell_all (map Sent (going_out w)) (Finish (Ends (handed_on w)))) events (Ends world)
    → world.disconnected ≡ true → EndsParting (told_in events)
ends_part w world events h f ended =
    let told = all_told (going_out w) (handed_on w) world events f in
    let is : w.disconnected ≡ true = subst (λ v. v.disconnected ≡ true) told.1 ended in
    subst EndsParting (sym told.0) (going_part w is h)

-- where the connection was not ended, an input that goes on does not end the run
abbrev IsNoEnd : Outcome → Type 0
IsNoEnd (Ends w) = ⊥
IsNoEnd _ = Unit {0}

begun_on : (due : Bool) (w : World) → PlanComes Anything IsNoEnd (acts (begins due) w)
begun_on true w = λ answer s.
    told_comes IsNoEnd (map Sent (frames_given (payloads_given Beginning answer)))
    (Finish (Goes (moved Beginning answer w))) tt
begun_on false w = tt

goes_part : {E F : Type 0} (ended due : Bool) (w world : World) (events : List (Event E F))
    → Parts w
    → Follows (tell_all (map Sent (going_out w))
    (cond ended (Finish (Ends (handed_on w))) (acts (begins due) (handed_on w)))) events
    (Ends world)
    → world.disconnected ≡ true → EndsParting (told_in events)
goes_part true due w world events h f is = ends_part w world events h f is
goes_part false due w world events h f is =
    absurd (comes_of IsNoEnd (tell_all (map Sent (going_out w)) (acts (begins due) (handed_on w)))
    events (Ends world)
    (told_comes IsNoEnd (map Sent (going_out w)) (acts (begins due) (handed_on w))
    (begun_on due (handed_on w))) f)

finish_part : {E F : Type 0} (ticked : Bool) (outcome : Outcome) (world : World)
    (events : List (Event E F)) → ComesParts outcome
    → Follows (finish_input ticked outcome) events (Ends world) → world.disconnected ≡ true
    → EndsParting (told_in events)
finish_part ticked (Goes w) world events h f is =
    goes_part w.disconnected (is_due ticked (handed_on w)) w world events h f is
finish_part ticked (Ends w) world events h f is = ends_part w world events h f is
finish_part ticked (Fails why) world [] h f is = absurd (let no = f in cc)
finish_part ticked (Fails why) world (event ∷ events) h f is = absurd f

input_part : {E F : Type 0} (ticked : Bool) (plan : Plan Outcome) (world : World)
    (events : List (Event E F)) → PlanComes Anything ComesParts plan
    → Follows (after plan (finish_input ticked)) events (Ends world)
    → world.disconnected ≡ true → EndsParting (told_in events)
input_part ticked (Finish outcome) world events h f is =
    finish_part ticked outcome world events h f is
input_part ticked (Ask question next) world [] h f is = absurd (let no = f in cc)
input_part ticked (Ask question next) world (event ∷ events) h f is =
    later_events event events (input_part ticked (next f.0) world events (h f.0 tt) f.2 is)
input_part ticked (Tell entry next) world [] h f is = absurd (let no = f in cc)
input_part ticked (Tell entry next) world (event ∷ events) h f is =
    later_events event events (input_part ticked next world events h f.1 is)

-- ---- inputs

pub parted : {E F : Type 0} (accepts : Acceptance) (w : World) (last : Option (Turn E F))
    → IsLive w → IfSome last (IsParted accepts w)
parted accepts w None live = tt
parted {E} {F} accepts w (Some turn) live = λ plan world o f is.
    let asks = asks_for_keys turn.input.kind in
    later_told (Took turn.commands turn.replies turn.input) (told_in turn.events)
    (input_part asks o.0 world turn.events
    (kind_parts accepts w turn.input.moment turn.input.kind o.0 o.1 live)
    (subst (λ p. Follows {E = E} {F = F} p turn.events (Ends world)) o.2 f) is)
