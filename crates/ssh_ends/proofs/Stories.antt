-- A list of events of two ends, from its beginning.
use Rattle.std.proofs.Common.{◌≡◌, ◌==◌, ◌&&◌, ℕ, Bool, true, false, cond, List}
use Rattle.std.proofs.Common.{[], ◌∷◌, ◌++◌, refl, sym, ◌∙◌, ap, subst, Option, Some, None}
use Rattle.std.proofs.Common.{append_assoc, arith}
use Rattle.std.proofs.lemmas.List.{append-nil}
use Rattle.ssh_channels.specs.declared.params.ChannelParams.{ChannelParams}
use Rattle.ssh_channels.specs.declared.chunk.Chunk.{Chunk}
use Rattle.ssh_channels.specs.declared.chunk.DataKind.{DataKind}
use Rattle.ssh_channels.specs.declared.chunk.DataKind.TheVariants.{Plain, Extended}
use Rattle.ssh_channels.specs.declared.adjusted.Adjusted.{Adjusted}
use Rattle.ssh_channels.specs.declared.adjusted.Adjusted.TheVariants.{Dropped, Kept, Granted}
use Rattle.ssh_channels.specs.Entry.{tagged}
use Rattle.ssh_channels.specs.Layout.{chunk}
use Rattle.ssh_channels.specs.Line as line
use Rattle.ssh_ends.specs.End.{kind_of, unless_dropped}
use Rattle.ssh_ends.specs.Saying.{Saying, Open, Confirm, Grant, Data, Eof, Close, Message, code_of}
use Rattle.ssh_ends.specs.Change.{Change, unchanged, sending, ending, closing, aiming, hearing}
use Rattle.ssh_ends.specs.Change.{hearing_data, coming}
use Rattle.ssh_ends.specs.Pair.{Party, Pair, turned, changed_at, on_channel, takes_said}
use Rattle.ssh_ends.specs.Pair.{takes_of, gives_at, gives_said, gives_of}
use Rattle.ssh_ends.specs.Run.{actor, acts, seen_by, happens, run_on, after, delivers, gives_now}
use Rattle.ssh_ends.specs.Run.{new_pair, FewDraws, Holds}
use Rattle.ssh_ends.specs.Ends.{Posts, StandsAt, FailsFor}
use Rattle.ssh_ends.specs.Story.{told_by, told_on, told, is_side, data_of, bytes_at, party}
use Rattle.ssh_ends.specs.Story.{Ran, RunsOut, Plays}
use Rattle.ssh_ends.specs.declared.end.Delivered.{Delivered}
use Rattle.ssh_ends.specs.declared.error.EndError.{EndError}
use Rattle.ssh_ends.specs.declared.event.EndEvent.{EndEvent}
use Rattle.ssh_ends.specs.declared.event.EndEvent.TheVariants as event
use Rattle.ssh_ends.specs.declared.event.Side.{Side}
use Rattle.ssh_ends.specs.declared.event.Side.TheVariants.{A, B}
use Rattle.ssh_ends.proofs.Laws.{sound_holds}
use Rattle.ssh_ends.proofs.Sides.{one_number}
use Rattle.ssh_ends.proofs.Turning.{acts_draws}
use Rattle.ssh_ends.proofs.Happening.{sound_after}

-- ---- what is delivered is in the record of its side

abbrev data_on : (n : ℕ) → Option Delivered → List (DataKind × ℕ)
data_on n None = []
data_on n (Some d) = cond (n == d.channel.0) (data_of d) []

same_kind : (kind : DataKind) → kind_of (code_of kind) ≡ kind
same_kind Plain = refl
same_kind (Extended code) = refl

undelivered_at : (b : Bool) (n k : ℕ) (p : Party) → (n == k) ≡ b
    → cond b (p.delivered k ++ []) (p.delivered n) ≡ p.delivered n
undelivered_at true n k p t =
    append-nil (p.delivered k) ∙ ap p.delivered (sym (one_number n k t))
undelivered_at false n k p t = refl

undelivered_of : (o : Option ChannelParams) (n k : ℕ) (change : ChannelParams → Change) (p : Party)
    → ((l : ChannelParams) → (change l).delivers ≡ [])
    → (changed_at k change o p).delivered n ≡ p.delivered n
undelivered_of None n k change p none = refl
undelivered_of (Some l) n k change p none =
    ap (λ xs. cond (n == k) (p.delivered k ++ xs) (p.delivered n)) (none l)
    ∙ undelivered_at (n == k) n k p refl

-- a change that delivers nothing
undelivered : (n k : ℕ) (change : ChannelParams → Change) (p : Party)
    → ((l : ChannelParams) → (change l).delivers ≡ [])
    → (on_channel k change p).delivered n ≡ p.delivered n ++ []
undelivered n k change p none =
    undelivered_of (p.line k) n k change p none ∙ sym (append-nil (p.delivered n))

either_none : (b : Bool) (x y : Change) → x.delivers ≡ [] → y.delivers ≡ []
    → (cond b x y).delivers ≡ []
either_none true x y h k = h
either_none false x y h k = k

delivered_piece : (b : Bool) (n k : ℕ) (piece : Chunk) (p : Party) → (n == k) ≡ b
    → cond b (p.delivered k ++ tagged piece) (p.delivered n)
    ≡ p.delivered n ++ cond (n == k) (tagged (chunk (kind_of (code_of piece.kind)) piece.bytes)) []
delivered_piece true n k piece p t =
    ap (λ m. p.delivered m ++ tagged piece) (sym (one_number n k t))
    ∙ ap (λ kind. p.delivered n ++ tagged (chunk kind piece.bytes)) (sym (same_kind piece.kind))
    ∙ ap (λ b. p.delivered n
    ++ cond b (tagged (chunk (kind_of (code_of piece.kind)) piece.bytes)) []) (sym t)
delivered_piece false n k piece p t =
    sym (append-nil (p.delivered n))
    ∙ ap (λ b. p.delivered n
    ++ cond b (tagged (chunk (kind_of (code_of piece.kind)) piece.bytes)) []) (sym t)

delivered_as : (b : Bool) (a : Adjusted) (n k : ℕ) (piece : Chunk) (l : ChannelParams) (p : Party)
    → (n == k) ≡ b
    → cond b (p.delivered k ++ hearing_data a piece l) (p.delivered n)
    ≡ p.delivered n ++ data_on n (unless_dropped a (record {
      channel = record { 0 = k };
      ext = code_of piece.kind;
      bytes = piece.bytes;
    }))
delivered_as b Dropped n k piece l p t =
    undelivered_at b n k p t ∙ sym (append-nil (p.delivered n))
delivered_as b Kept n k piece l p t = delivered_piece b n k piece p t
delivered_as b (Granted amount) n k piece l p t = delivered_piece b n k piece p t

delivered_of : (o : Option ChannelParams) (n own k : ℕ) (piece : Chunk) (p : Party)
    → (changed_at k (hearing own (Data piece)) o p).delivered n
    ≡ p.delivered n ++ data_on n (gives_at k piece o)
delivered_of None n own k piece p = sym (append-nil (p.delivered n))
delivered_of (Some l) n own k piece p =
    delivered_as (n == k) (coming piece l) n k piece l p refl

-- at the side that an event is about, and at the other
record Logs (n : ℕ) (w w' : Pair) (d : Option Delivered) : Type 0 where
  near : w'.near.delivered n ≡ w.near.delivered n ++ data_on n d
  far : w'.far.delivered n ≡ w.far.delivered n

logs_said : (window packet n own peer : ℕ) (m : Saying) (rest : List Message) (w : Pair)
    → Logs n w (takes_said window packet own peer m rest w) (gives_said peer m w.near)
logs_said window packet n own peer (Open theirs limit) rest w =
    record { near = sym (append-nil (w.near.delivered n)); far = refl }
logs_said window packet n own peer (Confirm v l) rest w = record {
  near = undelivered n peer (hearing own (Confirm v l)) w.near
      (λ x. either_none (line.is_opening x) _ (unchanged x) refl refl);
  far = refl;
}
logs_said window packet n own peer (Grant amount) rest w = record {
  near = undelivered n peer (hearing own (Grant amount)) w.near
      (λ x. either_none x.confirmed _ (unchanged x) refl refl);
  far = refl;
}
logs_said window packet n own peer (Data piece) rest w =
    record { near = delivered_of (w.near.line peer) n own peer piece w.near; far = refl }
logs_said window packet n own peer Eof rest w =
    record { near = undelivered n peer (hearing own Eof) w.near (λ x. refl); far = refl }
logs_said window packet n own peer Close rest w = record {
  near = undelivered n peer (hearing own Close) w.near
      (λ x. either_none x.confirmed _ (unchanged x) refl refl);
  far = refl;
}

logs_of : (window packet n : ℕ) (ms : List Message) (w : Pair)
    → Logs n w (takes_of window packet ms w) (gives_of ms w.near)
logs_of window packet n [] w =
    record { near = sym (append-nil (w.near.delivered n)); far = refl }
logs_of window packet n (m ∷ rest) w =
    logs_said window packet n m.own m.peer m.saying rest w

acts_logs : (window packet n : ℕ) (e : EndEvent) (w : Pair)
    → Logs n w (acts window packet e w) (gives_now e w)
acts_logs window packet n (event.Open side) w =
    record { near = sym (append-nil (w.near.delivered n)); far = refl }
acts_logs window packet n (event.Data side channel ext bytes) w = record {
  near = undelivered n channel.0 (sending (chunk (kind_of ext) bytes)) w.near
      (λ x. either_none (line.may_send x) _ (unchanged x) refl refl);
  far = refl;
}
acts_logs window packet n (event.Eof side channel) w = record {
  near = undelivered n channel.0 ending w.near
      (λ x. either_none (line.may_send x) _ (unchanged x) refl refl);
  far = refl;
}
acts_logs window packet n (event.Close side channel) w = record {
  near = undelivered n channel.0 closing w.near
      (λ x. either_none (line.may_close x) _ (unchanged x) refl refl);
  far = refl;
}
acts_logs window packet n (event.Target side channel target) w = record {
  near = undelivered n channel.0 (aiming target) w.near (λ x. refl);
  far = refl;
}
acts_logs window packet n (event.Move side) w = logs_of window packet n w.far.flight w

-- seen from either side
told_here : (n : ℕ) (side : Side) (d : Option Delivered) → is_side side side ≡ true
    → bytes_at side n (told_by side d) ≡ data_on n d
told_here n side None t = refl
told_here n side (Some d) t =
    append-nil (cond (is_side side side && (n == d.channel.0)) (data_of d) [])
    ∙ ap (λ b. cond (b && (n == d.channel.0)) (data_of d) []) t

told_there : (n : ℕ) (side other : Side) (d : Option Delivered) → is_side side other ≡ false
    → bytes_at side n (told_by other d) ≡ []
told_there n side other None t = refl
told_there n side other (Some d) t =
    append-nil (cond (is_side side other && (n == d.channel.0)) (data_of d) [])
    ∙ ap (λ b. cond (b && (n == d.channel.0)) (data_of d) []) t

logs_seen : (acting side : Side) (window packet n : ℕ) (e : EndEvent) (w : Pair)
    → (party side (seen_by acting (acts window packet e (seen_by acting w)))).delivered n
    ≡ (party side w).delivered n ++ bytes_at side n (told_by acting (gives_now e (seen_by acting w)))
logs_seen A A window packet n e w =
    (acts_logs window packet n e w).near
    ∙ ap (λ xs. w.near.delivered n ++ xs) (sym (told_here n A (gives_now e w) refl))
logs_seen A B window packet n e w =
    (acts_logs window packet n e w).far ∙ sym (append-nil (w.far.delivered n))
    ∙ ap (λ xs. w.far.delivered n ++ xs) (sym (told_there n B A (gives_now e w) refl))
logs_seen B B window packet n e w =
    (acts_logs window packet n e (turned w)).near
    ∙ ap (λ xs. w.far.delivered n ++ xs) (sym (told_here n B (gives_now e (turned w)) refl))
logs_seen B A window packet n e w =
    (acts_logs window packet n e (turned w)).far ∙ sym (append-nil (w.near.delivered n))
    ∙ ap (λ xs. w.near.delivered n ++ xs)
    (sym (told_there n A B (gives_now e (turned w)) refl))

told_both : (side : Side) (n : ℕ) (xs ys : List (Side × Delivered))
    → bytes_at side n (xs ++ ys) ≡ bytes_at side n xs ++ bytes_at side n ys
told_both side n [] ys = refl
told_both side n (x ∷ xs) ys =
    let first = cond (is_side side x.0 && (n == x.1.channel.0)) (data_of x.1) [] in
    ap (λ zs. first ++ zs) (told_both side n xs ys)
    ∙ sym (append_assoc first (bytes_at side n xs) (bytes_at side n ys))

logs_run : (side : Side) (window packet n : ℕ) (events : List EndEvent) (w : Pair)
    → (party side (run_on window packet events w)).delivered n
    ≡ (party side w).delivered n ++ bytes_at side n (told_on window packet events w)
logs_run side window packet n [] w = sym (append-nil ((party side w).delivered n))
logs_run side window packet n (e ∷ events) w =
    let first = told_by (actor e) (delivers e w) in
    let w' = happens window packet e w in
    let rest = told_on window packet events w' in
    logs_run side window packet n events w'
    ∙ ap (λ xs. xs ++ bytes_at side n rest) (logs_seen (actor e) side window packet n e w)
    ∙ append_assoc ((party side w).delivered n) (bytes_at side n first) (bytes_at side n rest)
    ∙ ap (λ xs. (party side w).delivered n ++ xs) (sym (told_both side n first rest))

-- ---- beginnings of a list

told_more : (window packet : ℕ) (events : List EndEvent) (e : EndEvent) (w : Pair)
    → told_on window packet (events ++ e ∷ []) w ≡ told_on window packet events w
    ++ told_by (actor e) (delivers e (run_on window packet events w))
told_more window packet [] e w = append-nil (told_by (actor e) (delivers e w))
told_more window packet (x ∷ events) e w =
    let first = told_by (actor x) (delivers x w) in
    let w' = happens window packet x w in
    ap (λ xs. first ++ xs) (told_more window packet events e w')
    ∙ sym (append_assoc first (told_on window packet events w')
    (told_by (actor e) (delivers e (run_on window packet events w'))))

run_both : (window packet : ℕ) (xs ys : List EndEvent) (w : Pair)
    → run_on window packet (xs ++ ys) w ≡ run_on window packet ys (run_on window packet xs w)
run_both window packet [] ys w = refl
run_both window packet (x ∷ xs) ys w =
    run_both window packet xs ys (happens window packet x w)

-- fewer numbers were drawn before
few_seen : (side : Side) (window packet : ℕ) (e : EndEvent) (w : Pair)
    → FewDraws (seen_by side (acts window packet e (seen_by side w))) → FewDraws w
few_seen A window packet e w few =
    let d = acts_draws window packet e w in
    record { near = omega (arith, d.near, few.near); far = omega (arith, d.far, few.far) }
few_seen B window packet e w few =
    let d = acts_draws window packet e (turned w) in
    record { near = omega (arith, d.far, few.near); far = omega (arith, d.near, few.far) }

few_before : (window packet : ℕ) (events : List EndEvent) (w : Pair)
    → FewDraws (run_on window packet events w) → FewDraws w
few_before window packet [] w few = few
few_before window packet (e ∷ events) w few =
    few_seen (actor e) window packet e w
    (few_before window packet events (happens window packet e w) few)

few_at : (window packet : ℕ) (all events rest : List EndEvent) → all ≡ events ++ rest
    → FewDraws (after window packet all) → FewDraws (after window packet events)
few_at window packet all events rest is few =
    few_before window packet rest (after window packet events)
    (subst FewDraws (ap (λ es. run_on window packet es new_pair) is
    ∙ run_both window packet events rest new_pair) few)

-- ---- the loop over the events

-- so far: these are left of all events, and the others have happened
abbrev pub Progress : (window packet : ℕ) → (all rest : List EndEvent) → Posts
    → List (Side × Delivered) → Type 0
Progress window packet all rest ends deliveries = (events : List EndEvent)
    × (all ≡ events ++ rest)
    × (FewDraws (after window packet all) → StandsAt window packet events ends
    × (deliveries ≡ told window packet events))

empty_log : (side : Side) (n : ℕ) (xs : List (DataKind × ℕ))
    → (party side new_pair).delivered n ++ xs ≡ xs
empty_log A n xs = refl
empty_log B n xs = refl

pub begins : (window packet : ℕ) (all : List EndEvent) (ends : Posts)
    → StandsAt window packet [] ends → Progress window packet all all ends []
begins window packet all ends s = ([], refl, λ few. (s, refl))

one_more : (events : List EndEvent) (e : EndEvent) (rest : List EndEvent)
    → events ++ e ∷ rest ≡ (events ++ e ∷ []) ++ rest
one_more events e rest = sym (append_assoc events (e ∷ []) rest)

pub goes_on : (window packet : ℕ) (all rest : List EndEvent) (e : EndEvent) (ends ends' : Posts)
    (ds ds' : List (Side × Delivered)) → Progress window packet all (e ∷ rest) ends ds
    → Plays e ends ds ends' ds' → Progress window packet all rest ends' ds'
goes_on window packet all rest e ends ends' ds ds' (events, is, so_far) (d, happened, now) = (
  events ++ e ∷ [],
  is ∙ one_more events e rest,
  λ few.
      let s = so_far few in
      let h = happened window packet events s.0
      (few_at window packet all (events ++ e ∷ []) rest (is ∙ one_more events e rest) few) in (
        h.0,
        now ∙ ap (λ xs. xs ++ told_by (actor e) d) s.1
            ∙ ap (λ o. told window packet events ++ told_by (actor e) o) h.2
            ∙ sym (told_more window packet events e new_pair),
      ),
)

pub stops_there : (window packet : ℕ) (all rest : List EndEvent) (e : EndEvent) (ends : Posts)
    (ds : List (Side × Delivered)) (why : EndError) → Progress window packet all (e ∷ rest) ends ds
    → FailsFor e ends why → RunsOut window packet all why
stops_there window packet all rest e ends ds why (events, is, so_far) fails few =
    fails window packet events (so_far few).0
    (few_at window packet all (events ++ e ∷ []) rest (is ∙ one_more events e rest) few)

pub arrives : (window packet : ℕ) (all : List EndEvent) (ends : Posts)
    (ds : List (Side × Delivered)) → Progress window packet all [] ends ds
    → Ran window packet all ds
arrives window packet all ends ds (events, is, so_far) few =
    let same : events ≡ all = sym (is ∙ append-nil events) in
    let s = so_far few in
    let told_all : ds ≡ told window packet all = s.1 ∙ ap (told window packet) same in (
      told_all,
      subst (λ es. Holds (after window packet es)) same
          (sound_holds (after window packet events) (sound_after window packet events ends s.0)),
      λ side n. ap (bytes_at side n) told_all
          ∙ sym (logs_run side window packet n all new_pair ∙ empty_log side n
          (bytes_at side n (told window packet all))),
    )

-- with what is left as it was before the event was taken out
pub plays_on : (window packet : ℕ) (all rest rest' : List EndEvent) (e : EndEvent)
    (ends ends' : Posts) (ds ds' : List (Side × Delivered)) → rest ≡ e ∷ rest'
    → Progress window packet all rest ends ds → Plays e ends ds ends' ds'
    → Progress window packet all rest' ends' ds'
plays_on window packet all rest rest' e ends ends' ds ds' is so_far plays =
    goes_on window packet all rest' e ends ends' ds ds'
    (subst (λ es. Progress window packet all es ends ds) is so_far) plays

pub fails_on : (window packet : ℕ) (all rest rest' : List EndEvent) (e : EndEvent) (ends : Posts)
    (ds : List (Side × Delivered)) (why : EndError) → rest ≡ e ∷ rest'
    → Progress window packet all rest ends ds → FailsFor e ends why → RunsOut window packet all why
fails_on window packet all rest rest' e ends ds why is so_far fails =
    stops_there window packet all rest' e ends ds why
    (subst (λ es. Progress window packet all es ends ds) is so_far) fails

pub arrives_at : (window packet : ℕ) (all rest : List EndEvent) (ends : Posts)
    (ds : List (Side × Delivered)) → rest ≡ [] → Progress window packet all rest ends ds
    → Ran window packet all ds
arrives_at window packet all rest ends ds is so_far =
    arrives window packet all ends ds
    (subst (λ es. Progress window packet all es ends ds) is so_far)
