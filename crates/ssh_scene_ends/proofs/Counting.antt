-- A script has fewer events than bytes, and its events draw few numbers of channels.
use Rattle.std.proofs.Common.{◌≡◌, ◌<◌, ◌≤◌, ◌+◌, ◌^◌, ℕ, List, [], ◌∷◌, ◌++◌, length, arith}
use Rattle.std.proofs.Common.{Bool, true, false, Option, Some, None, Ok, Err}
use Rattle.std.proofs.Common.{refl, ap, sym, ◌∙◌, subst, ◌==◌}
use Rattle.std.specs.Prelude.{MatchOption, if◌then◌else◌, codes, flat_map}
use Rattle.std.proofs.lemmas.List.{length-append}
use Rattle.ssh_channels.specs.Layout.{chunk}
use Rattle.ssh_channels.specs.declared.params.ChannelParams.{ChannelParams}
use Rattle.ssh_ends.specs.Change.{Change, sending, ending, closing, aiming, hearing}
use Rattle.ssh_ends.specs.End.{kind_of}
use Rattle.ssh_ends.specs.Pair.{Party, Pair, turned, changed_at, on_channel, takes_said, takes_of}
use Rattle.ssh_ends.specs.Run.{actor, acts, seen_by, happens, run_on, after, new_pair, FewDraws}
use Rattle.ssh_ends.specs.Saying.{Saying, Open, Confirm, Grant, Data, Eof, Close, Message}
use Rattle.ssh_ends.specs.Story.{Ran}
use Rattle.ssh_ends.specs.declared.end.Delivered.{Delivered}
use Rattle.ssh_ends.specs.declared.event.EndEvent.{EndEvent}
use Rattle.ssh_ends.specs.declared.event.EndEvent.TheVariants as event
use Rattle.ssh_ends.specs.declared.event.Side.{Side}
use Rattle.ssh_ends.specs.declared.event.Side.TheVariants.{A, B}
use Rattle.ssh_scene.specs.Scene.{lines_of, onto_first}
use Rattle.ssh_scene_ends.specs.declared.events.EventLine.{EventLine}
use Rattle.ssh_scene_ends.specs.declared.events.EventLine.TheVariants as line
use Rattle.ssh_scene_ends.specs.EventLines.{with_event, BringsFrom, BringsEvents}
use Rattle.ssh_scene_ends.specs.Telling.{delivery_line, told_text}

-- ---- lines and bytes

joined_lines : (byte : ℕ) (lines : List (List ℕ)) → length (onto_first byte lines) ≤ length lines + 1
joined_lines byte [] = omega arith
joined_lines byte (text ∷ lines) = omega arith

line_more : (newline : Bool) (byte : ℕ) (lines : List (List ℕ))
    → length (if newline then [] ∷ lines else onto_first byte lines) ≤ length lines + 1
line_more true byte lines = omega arith
line_more false byte lines = joined_lines byte lines

few_lines : (bytes : List ℕ) → length (lines_of bytes) ≤ length bytes
few_lines [] = omega arith
few_lines (byte ∷ bytes) =
    let first = line_more (byte == 10) byte (lines_of bytes) in
    let later = few_lines bytes in
    omega (arith, first, later)

-- ---- events and lines

event_more : (events next : List EndEvent) (said : Option EventLine)
    → with_event events said ≡ Some next → length next ≤ length events + 1
event_more events next None is = absurd (cc is)
event_more events next (Some line.Passed) is =
    let same : events ≡ next = cc in
    let long = ap length same in
    omega (arith, long)
event_more events next (Some (line.Event e)) is =
    let same : events ++ e ∷ [] ≡ next = cc in
    let long = sym (length-append events (e ∷ [])) ∙ ap length same in
    omega (arith, long)

next_few : (done : ℕ) (events : List EndEvent) (said : Option EventLine)
    (next : Option (List EndEvent)) (lines : List (List ℕ)) (all : List EndEvent)
    → with_event events said ≡ next
    → ((now : List EndEvent) → BringsFrom (done + 1) now lines (Ok all)
    → length all ≤ length now + length lines)
    → MatchOption next (Ok all ≡ Err (done + 1)) (λ now. BringsFrom (done + 1) now lines (Ok all))
    → length all ≤ length events + (length lines + 1)
next_few done events said None lines all is later h = absurd (cc h)
next_few done events said (Some now) lines all is later h =
    let first = event_more events now said is in
    let rest = later now h in
    omega (arith, first, rest)

brought_few : (done : ℕ) (events : List EndEvent) (lines : List (List ℕ)) (all : List EndEvent)
    → BringsFrom done events lines (Ok all) → length all ≤ length events + length lines
brought_few done events [] all h =
    let same : all ≡ events = cc in
    let long = ap length same in
    omega (arith, long)
brought_few done events (text ∷ lines) all h =
    let few = next_few done events h.0 (with_event events h.0) lines all refl
    (λ now. brought_few (done + 1) now lines all) h.2 in
    omega (arith, few)

-- a script has no more events than bytes
pub few_events : (bytes : List ℕ) (events : List EndEvent)
    → BringsEvents (lines_of bytes) (Ok events) → length events ≤ length bytes
few_events bytes events h =
    let lines = brought_few 0 [] (lines_of bytes) events h in
    let few = few_lines bytes in
    omega (arith, lines, few)

-- ---- events and numbers of channels

changed_same : (o : Option ChannelParams) (k : ℕ) (change : ChannelParams → Change) (p : Party)
    → (changed_at k change o p).last ≤ p.last + 1
changed_same None k change p = omega arith
changed_same (Some l) k change p =
    let same : (changed_at k change (Some l) p).last ≡ p.last = refl in omega (arith, same)

-- the side that an event is about draws one number at most, and the other none
record DrawsOne (w w' : Pair) : Type 0 where
  near : w'.near.last ≤ w.near.last + 1
  far : w'.far.last ≤ w.far.last + 1

unchanged_far : (w w' : Pair) → w'.far.last ≡ w.far.last → w'.far.last ≤ w.far.last + 1
unchanged_far w w' same = omega (arith, same)

module _ (window packet : ℕ) (w : Pair) where
  changes_one : (k : ℕ) (change : ChannelParams → Change) (w' : Pair)
      → w'.near ≡ on_channel k change w.near → w'.far.last ≡ w.far.last → DrawsOne w w'
  changes_one k change w' is same = record {
    near = subst (λ (p : Party). p.last ≤ w.near.last + 1) (sym is)
        (changed_same (w.near.line k) k change w.near);
    far = unchanged_far w w' same;
  }

  takes_one : (own peer : ℕ) (said : Saying) (rest : List Message)
      → DrawsOne w (takes_said window packet own peer said rest w)
  takes_one own peer (Open theirs limit) rest =
      let w' = takes_said window packet own peer (Open theirs limit) rest w in
      let drawn : w'.near.last ≡ w.near.last + 1 = refl in
      let same : w'.far.last ≡ w.far.last = refl in
      record { near = omega (arith, drawn); far = omega (arith, same) }
  takes_one own peer (Confirm v l) rest = changes_one peer (hearing own (Confirm v l))
      (takes_said window packet own peer (Confirm v l) rest w) refl refl
  takes_one own peer (Grant amount) rest =
      changes_one peer (hearing own (Grant amount))
      (takes_said window packet own peer (Grant amount) rest w) refl refl
  takes_one own peer (Data piece) rest = changes_one peer (hearing own (Data piece))
      (takes_said window packet own peer (Data piece) rest w) refl refl
  takes_one own peer Eof rest = changes_one peer (hearing own Eof)
      (takes_said window packet own peer Eof rest w) refl refl
  takes_one own peer Close rest = changes_one peer (hearing own Close)
      (takes_said window packet own peer Close rest w) refl refl

  moves_one : (flight : List Message) → DrawsOne w (takes_of window packet flight w)
  moves_one [] = record { near = omega arith; far = omega arith }
  moves_one (m ∷ rest) = takes_one m.own m.peer m.saying rest

  acts_one : (e : EndEvent) → DrawsOne w (acts window packet e w)
  acts_one (event.Open side) =
      let w' = acts window packet (event.Open side) w in
      let drawn : w'.near.last ≡ w.near.last + 1 = refl in
      let same : w'.far.last ≡ w.far.last = refl in
      record { near = omega (arith, drawn); far = omega (arith, same) }
  acts_one (event.Data side channel ext bytes) =
      changes_one channel.0 (sending (chunk (kind_of ext) bytes))
      (acts window packet (event.Data side channel ext bytes) w) refl refl
  acts_one (event.Eof side channel) = changes_one channel.0 ending
      (acts window packet (event.Eof side channel) w) refl refl
  acts_one (event.Close side channel) = changes_one channel.0 closing
      (acts window packet (event.Close side channel) w) refl refl
  acts_one (event.Target side channel target) = changes_one channel.0 (aiming target)
      (acts window packet (event.Target side channel target) w) refl refl
  acts_one (event.Move side) = moves_one w.far.flight

seen_one : (side : Side) (window packet : ℕ) (e : EndEvent) (w : Pair)
    → DrawsOne w (seen_by side (acts window packet e (seen_by side w)))
seen_one A window packet e w = acts_one window packet w e
seen_one B window packet e w =
    let one = acts_one window packet (turned w) e in record { near = one.far; far = one.near }

-- after these events each side has drawn as many numbers at most
record DrawsFew (count : ℕ) (w w' : Pair) : Type 0 where
  near : w'.near.last ≤ w.near.last + count
  far : w'.far.last ≤ w.far.last + count

draws_few : (window packet : ℕ) (events : List EndEvent) (w : Pair)
    → DrawsFew (length events) w (run_on window packet events w)
draws_few window packet [] w = record { near = omega arith; far = omega arith }
draws_few window packet (e ∷ events) w =
    let one = seen_one (actor e) window packet e w in
    let later = draws_few window packet events (happens window packet e w) in
    record {
      near = omega (arith, one.near, later.near);
      far = omega (arith, one.far, later.far);
    }

-- so few events draw no number twice
pub few_draws : (window packet : ℕ) (events : List EndEvent) → length events + 1 < 2 ^ 32
    → FewDraws (after window packet events)
few_draws window packet events few =
    let drawn = draws_few window packet events new_pair in
    record { near = omega (arith, drawn.near, few); far = omega (arith, drawn.far, few) }

-- what is written of the deliveries is what is owed of the events
pub told_whole : (window packet : ℕ) (events : List EndEvent) (all seen : List (Side × Delivered))
    (old now new : List ℕ) → length events + 1 < 2 ^ 32 → Ran window packet events all → old ≡ []
    → seen ≡ all → now ≡ old ++ flat_map delivery_line seen → new ≡ now ++ codes "ok\n"
    → new ≡ told_text window packet events
told_whole window packet events all seen old now new few ran none same lines last =
    let is = same ∙ (ran (few_draws window packet events few)).0 in
    last ∙ ap (λ z. z ++ codes "ok\n")
    (lines ∙ ap (λ z. z ++ flat_map delivery_line seen) none ∙ ap (flat_map delivery_line) is)
