-- What recorded commands ask is what waits for its reply behind them, but for those that were
-- refused (RFC 4254 section 4).
use Rattle.std.proofs.Common.{◌≡◌, ◌≤◌, ◌<◌, ◌+◌, ◌==◌, ◌||◌, ℕ, List, [], ◌∷◌, ◌++◌, map, Bool}
use Rattle.std.proofs.Common.{true, false, cond, Option, Some, None, refl, sym, ◌∙◌, ap, subst}
use Rattle.std.proofs.Common.{arith, rules, append_assoc}
use Rattle.std.specs.Prelude.{if◌then◌else◌, option_to_list}
use Rattle.std.specs.List.{list_any}
use Rattle.std.proofs.lemmas.List.{append-nil}
use Rattle.std.proofs.lemmas.Bool.{ne_eqb}
use Rattle.ssh_wire.specs.Messages.{written, request_success, request_failure}
use Rattle.ssh_wire.specs.declared.channel_id.ChannelId.{ChannelId}
use Rattle.ssh_wire.specs.declared.open_failure.ChannelOpenFailure.{ChannelOpenFailure}
use Rattle.ssh_link.specs.declared.command.Command.{Command}
use Rattle.ssh_link.specs.declared.command.Command.TheVariants as command
use Rattle.ssh_link.specs.declared.link.TraceEntry.TheVariants.{Noticed}
use Rattle.ssh_link.specs.declared.notice.Notice.{Notice}
use Rattle.ssh_link.specs.declared.open_answer.OpenAnswer.{OpenAnswer}
use Rattle.ssh_link.specs.declared.outcome.CommandOutcome.{CommandOutcome}
use Rattle.ssh_link.specs.declared.outcome.CommandOutcome.TheVariants.{Accepted, Opened, Refused}
use Rattle.ssh_link.specs.declared.outcome.Refusal.{Refusal}
use Rattle.ssh_link.specs.declared.outcome.Refusal.TheVariants.{TooLong}
use Rattle.ssh_auth.specs.Plan.{Plan, Event, Told, Follows}
use Rattle.ssh_channels.specs.Entry.{Entry}
use Rattle.ssh_channels.specs.Lines.{find, next_number}
use Rattle.ssh_rules.specs.declared.outstanding.Outstanding.{Outstanding}
use Rattle.ssh_rules.specs.Acts.{tell_all, tell_done, done, done_all}
use Rattle.ssh_rules.specs.Effect.{Effect, Brings, refused_for, refused_or, done_by}
use Rattle.ssh_rules.specs.Effect.{done_apart, decides_open, decides, fails_open, failure_of, opens_at}
use Rattle.ssh_rules.specs.Effect.{opens, opens_or_not, requests_on, is_too_long, refuses}
use Rattle.ssh_rules.specs.Effect.{accepts}
use Rattle.ssh_rules.specs.Effect.{sends, said, effect_at}
use Rattle.ssh_rules.specs.InOrder.{awaits_by, recorded, refuses_at, awaits_from, replied_in}
use Rattle.ssh_rules.specs.Layout.{at_once}
use Rattle.ssh_rules.specs.Opening.{Opening}
use Rattle.ssh_rules.specs.Opens.{opening_of}
use Rattle.ssh_rules.specs.Outcome.{Outcome}
use Rattle.ssh_rules.specs.OwnMessages.{OwnMessage, forward_request, cancel, keepalive, ping, debug}
use Rattle.ssh_rules.specs.OwnMessages.{disconnect_message}
use Rattle.ssh_rules.specs.OwnOpens.{OwnOpen, own_open_of, open_payload}
use Rattle.ssh_rules.specs.OwnRequests.{OwnRequest, request_payload, xon_xoff, exit_status}
use Rattle.ssh_rules.specs.OwnRequests.{exit_signal}
use Rattle.ssh_rules.specs.World.{World, writes, wants_global, settles_global, ChannelRequest}

-- ---- one command

-- none of these notices tells of a reply
abbrev pub AreBeside : List Notice → Type 0
AreBeside [] = Unit {0}
AreBeside (notice ∷ notices) = (replied_in notice ≡ []) × AreBeside notices

-- with such notices, what waited waits, and behind it what is asked, unless that is refused
abbrev pub Asks : (waiting asked : List Outstanding) → Effect → Type 0
Asks waiting asked (Brings notices (Refused why) w) =
    AreBeside notices × (w.globals.outstanding ≡ waiting)
Asks waiting asked (Brings notices _ w) =
    AreBeside notices × (w.globals.outstanding ≡ waiting ++ asked)

pub asks_beside : (waiting asked : List Outstanding) (notices : List Notice)
    (outcome : CommandOutcome) (w : World) → Asks waiting asked (Brings notices outcome w) →
    AreBeside notices
asks_beside waiting asked notices Accepted w h = h.0
asks_beside waiting asked notices (Opened channel) w h = h.0
asks_beside waiting asked notices (Refused why) w h = h.0

-- where nothing is asked, the same waits
abbrev Keeps : (waiting : List Outstanding) → Effect → Type 0
Keeps waiting (Brings notices outcome w) = AreBeside notices × (w.globals.outstanding ≡ waiting)

keeps_asks : (waiting : List Outstanding) (does : Effect) → Keeps waiting does →
    Asks waiting [] does
keeps_asks waiting (Brings notices Accepted w) h = (h.0, h.1 ∙ sym (append-nil waiting))
keeps_asks waiting (Brings notices (Opened channel) w) h = (h.0, h.1 ∙ sym (append-nil waiting))
keeps_asks waiting (Brings notices (Refused why) w) h = h

fails_keeps : (number : ℕ) (payload : List ℕ) (w : World) (long : Bool) →
    is_too_long payload ≡ long → Keeps w.globals.outstanding (fails_open number payload w)
fails_keeps number payload w true is = rw is (tt, refl)
fails_keeps number payload w false is = rw is (tt, refl)

decides_keeps : (number : ℕ) (opening : Opening) (reason : Option ChannelOpenFailure)
    (texts : Option (List ℕ × List ℕ)) (w : World) →
    Keeps w.globals.outstanding (decides number opening reason texts w)
decides_keeps number opening None texts w = ((refl, tt), refl)
decides_keeps number opening (Some reason) texts w =
    let payload = failure_of opening reason texts in
    fails_keeps number payload w (is_too_long payload) refl

answers_keeps : (answer : OpenAnswer) (opening : Option Opening) (w : World) →
    Keeps w.globals.outstanding (decides_open answer opening w)
answers_keeps answer None w = (tt, refl)
answers_keeps answer (Some opening) w =
    decides_keeps answer.channel.0 opening answer.rejection answer.texts w

opened_keeps : (number : Option ℕ) (asked : OwnOpen) (w : World) →
    Keeps w.globals.outstanding (opens_at number asked w)
opened_keeps None asked w = (tt, refl)
opened_keeps (Some number) asked w = (tt, refl)

opens_keeps : (asked : OwnOpen) (w : World) (long : Bool) →
    is_too_long (open_payload asked 0 w.settings.config.window_size
    w.settings.config.maximum_packet_size) ≡ long → Keeps w.globals.outstanding (opens asked w)
opens_keeps asked w true is = rw is (tt, refl)
opens_keeps asked w false is = rw is (opened_keeps (next_number w.channels.lines) asked w)

or_not_keeps : (asked : Option OwnOpen) (w : World) →
    Keeps w.globals.outstanding (opens_or_not asked w)
or_not_keeps None w = (tt, refl)
or_not_keeps (Some asked) w = opens_keeps asked w
    (is_too_long (open_payload asked 0 w.settings.config.window_size
    w.settings.config.maximum_packet_size)) refl

requested_keeps : (long : Bool) (e : Option Entry) (channel : ChannelId) (asked : OwnRequest)
    (w : World) → Keeps w.globals.outstanding
    (if long then refuses TooLong w else requests_on e channel asked w)
requested_keeps true e channel asked w = (tt, refl)
requested_keeps false None channel asked w = (tt, refl)
requested_keeps false (Some e) channel asked w = (tt, refl)

settled_step : (b : Bool) (payload : List ℕ) (w : World) →
    (cond b (writes (at_once payload ∷ []) (wants_global false w)) w).globals.outstanding
    ≡ w.globals.outstanding
settled_step true payload w = refl
settled_step false payload w = refl

pub settles_same : (payload : List ℕ) (w : World) →
    (settles_global payload w).globals.outstanding ≡ w.globals.outstanding
settles_same payload w = settled_step w.globals.wanted payload w

sent_step : (message : OwnMessage) (w : World) (long : Bool) →
    Asks w.globals.outstanding (option_to_list message.awaited)
    (if long then refuses TooLong w else accepts (said message w))
sent_step message w true = (tt, refl)
sent_step message w false = (tt, refl)

sent_asks : (message : OwnMessage) (w : World) →
    Asks w.globals.outstanding (option_to_list message.awaited) (sends message w)
sent_asks message w = sent_step message w (is_too_long message.payload)

apart_asks : (w : World) (one : Command) →
    Asks w.globals.outstanding (awaits_by one) (done_apart w one)
apart_asks w (command.TcpipForward address port reply) = sent_asks (forward_request address port reply) w
apart_asks w (command.CancelTcpipForward address port reply) =
    sent_asks (cancel address port reply) w
apart_asks w command.Keepalive = sent_asks keepalive w
apart_asks w (command.Ping slot) = sent_asks (ping slot) w
apart_asks w command.RequestSuccess =
    keeps_asks w.globals.outstanding (done_apart w command.RequestSuccess)
    (tt, settles_same (written request_success tt) w)
apart_asks w command.RequestFailure =
    keeps_asks w.globals.outstanding (done_apart w command.RequestFailure)
    (tt, settles_same (written request_failure tt) w)
apart_asks w (command.Debug always message language) = sent_asks (debug always message language) w
apart_asks w (command.Disconnect reason description language) =
    sent_asks (disconnect_message reason description language) w
apart_asks w other =
    keeps_asks w.globals.outstanding (opens_or_not (own_open_of other) w) (or_not_keeps (own_open_of other) w)

done_asks : (at : Option ChannelRequest) (w : World) (one : Command) →
    Asks w.globals.outstanding (awaits_by one) (done_by at w one)
done_asks at w (command.Data channel bytes) =
    keeps_asks w.globals.outstanding (done_by at w (command.Data channel bytes)) (tt, refl)
done_asks at w (command.ExtendedData channel code bytes) =
    keeps_asks w.globals.outstanding (done_by at w (command.ExtendedData channel code bytes))
    (tt, refl)
done_asks at w (command.Eof channel) =
    keeps_asks w.globals.outstanding (done_by at w (command.Eof channel)) (tt, refl)
done_asks at w (command.Close channel) =
    keeps_asks w.globals.outstanding (done_by at w (command.Close channel)) (tt, refl)
done_asks at w (command.ChannelSuccess channel) =
    keeps_asks w.globals.outstanding (done_by at w (command.ChannelSuccess channel)) (tt, refl)
done_asks at w (command.ChannelFailure channel) =
    keeps_asks w.globals.outstanding (done_by at w (command.ChannelFailure channel)) (tt, refl)
done_asks at w (command.XonXoff channel client_can_do) =
    keeps_asks w.globals.outstanding (done_by at w (command.XonXoff channel client_can_do))
    (requested_keeps (is_too_long (request_payload 0 (xon_xoff client_can_do)))
    (find channel.0 w.channels.lines.entries) channel (xon_xoff client_can_do) w)
done_asks at w (command.ExitStatus channel status) =
    keeps_asks w.globals.outstanding (done_by at w (command.ExitStatus channel status))
    (requested_keeps (is_too_long (request_payload 0 (exit_status status)))
    (find channel.0 w.channels.lines.entries) channel (exit_status status) w)
done_asks at w (command.ExitSignal channel signal core message language) =
    let asked = exit_signal signal core message language in
    keeps_asks w.globals.outstanding
    (done_by at w (command.ExitSignal channel signal core message language))
    (requested_keeps (is_too_long (request_payload 0 asked))
    (find channel.0 w.channels.lines.entries) channel asked w)
done_asks at w (command.Answer answer) =
    keeps_asks w.globals.outstanding (done_by at w (command.Answer answer))
    (answers_keeps answer (opening_of answer.channel.0 w) w)
done_asks at w other = apart_asks w other

refused_asks : (why : Option Refusal) (w : World) (asked : List Outstanding) (does : Effect) →
    Asks w.globals.outstanding asked does →
    Asks w.globals.outstanding asked (refused_or why w does)
refused_asks None w asked does h = h
refused_asks (Some why) w asked does h = (tt, refl)

pub effect_asks : (at : Option ChannelRequest) (w : World) (one : Command) →
    Asks w.globals.outstanding (awaits_by one) (effect_at at w one)
effect_asks at w one =
    refused_asks (refused_for w.disconnected w one) w (awaits_by one) (done_by at w one)
    (done_asks at w one)

-- ---- events

-- it is no callback that recorded commands, and refuses none
abbrev pub IsQuiet : {E F : Type 0} → Event E F → Type 0
IsQuiet event = (recorded event ≡ []) × ((place : ℕ) → refuses_at place event ≡ false)

-- none of these is a callback that recorded commands
abbrev pub AreUnlent : {E F : Type 0} → List (Event E F) → Type 0
AreUnlent [] = Unit {0}
AreUnlent (event ∷ events) = (recorded event ≡ []) × AreUnlent events

-- where the same commands are refused, the same is asked
pub asked_same : {E F : Type 0} (place : ℕ) (commands : List Command) (xs ys : List (Event E F)) →
    ((p : ℕ) → place ≤ p → list_any (refuses_at p) xs ≡ list_any (refuses_at p) ys) →
    awaits_from place commands xs ≡ awaits_from place commands ys
asked_same place [] xs ys h = refl
asked_same place (one ∷ commands) xs ys h =
    ap (λ b. (if b then [] else awaits_by one) ++ awaits_from (place + 1) commands xs)
    (h place (omega arith))
    ∙ ap (λ l. (if list_any (refuses_at place) ys then [] else awaits_by one) ++ l)
    (asked_same (place + 1) commands xs ys (λ p low. h p (omega (arith, low))))

-- what was recorded from this place on is done: these events are what is told of it, the rest
-- follows, and what waits is what waited and what is asked
pub record Done {E F : Type 0} (next : World → Plan Outcome) (outcome : Outcome) (place : ℕ)
    (commands : List Command) (w : World) (events : List (Event E F)) : Type 0 where
  pub world : World
  pub early : List (Event E F)
  pub rest : List (Event E F)
  pub is : events ≡ early ++ rest
  pub follows : Follows (next world) rest outcome
  pub grew : world.globals.outstanding
      ≡ w.globals.outstanding ++ awaits_from place commands early
  pub unlent : AreUnlent early
  pub low : (p : ℕ) → p < place → list_any (refuses_at p) early ≡ false

-- a quiet event before it
done_quiet : {E F : Type 0} (next : World → Plan Outcome) (outcome : Outcome) (place : ℕ)
    (commands : List Command) (w : World) (event : Event E F) (events : List (Event E F)) →
    IsQuiet event → Done next outcome place commands w events →
    Done next outcome place commands w (event ∷ events)
done_quiet next outcome place commands w event events q a = record {
  world = a.world;
  early = event ∷ a.early;
  rest = a.rest;
  is = ap (λ l. event ∷ l) a.is;
  follows = a.follows;
  grew = a.grew ∙ ap (λ l. w.globals.outstanding ++ l)
      (sym (asked_same place commands (event ∷ a.early) a.early
      (λ p l. ap (λ b. b || list_any (refuses_at p) a.early) (q.1 p))));
  unlent = (q.0, a.unlent);
  low = λ p l. ap (λ b. b || list_any (refuses_at p) a.early) (q.1 p) ∙ a.low p l;
}

-- a command that is accepted
done_accepted : {E F : Type 0} (next : World → Plan Outcome) (outcome : Outcome) (place : ℕ)
    (one : Command) (commands : List Command) (w v : World) (events : List (Event E F)) →
    v.globals.outstanding ≡ w.globals.outstanding ++ awaits_by one →
    Done next outcome (place + 1) commands v events →
    Done next outcome place (one ∷ commands) w events
done_accepted next outcome place one commands w v events more a =
    let later = awaits_from (place + 1) commands a.early in
    record {
      world = a.world;
      early = a.early;
      rest = a.rest;
      is = a.is;
      follows = a.follows;
      grew = a.grew ∙ ap (λ l. l ++ later) more
          ∙ append_assoc w.globals.outstanding (awaits_by one) later
          ∙ ap (λ b. w.globals.outstanding ++ ((if b then [] else awaits_by one) ++ later))
          (sym (a.low place (omega arith)));
      unlent = a.unlent;
      low = λ p l. a.low p (omega (arith, l));
    }

same_number : (n : ℕ) → (n == n) ≡ true
same_number n = search rules

other_number : (p place : ℕ) → place + 1 ≤ p → (p == place) ≡ false
other_number p place l = ne_eqb p place (λ same. omega (arith, l, same))

lower_number : (p place : ℕ) → p < place → (p == place) ≡ false
lower_number p place l = ne_eqb p place (λ same. omega (arith, l, same))

-- a command that is refused
done_refused : {E F : Type 0} (next : World → Plan Outcome) (outcome : Outcome) (place : ℕ)
    (one : Command) (commands : List Command) (w v : World) (event : Event E F)
    (events : List (Event E F)) → v.globals.outstanding ≡ w.globals.outstanding →
    recorded event ≡ [] → ((p : ℕ) → refuses_at p event ≡ (p == place)) →
    Done next outcome (place + 1) commands v events →
    Done next outcome place (one ∷ commands) w (event ∷ events)
done_refused next outcome place one commands w v event events same none refuses a =
    let here : list_any (refuses_at place) (event ∷ a.early) ≡ true =
    ap (λ b. b || list_any (refuses_at place) a.early) (refuses place ∙ same_number place) in
    let later = asked_same (place + 1) commands (event ∷ a.early) a.early
    (λ p l. ap (λ b. b || list_any (refuses_at p) a.early)
    (refuses p ∙ other_number p place l)) in
    record {
      world = a.world;
      early = event ∷ a.early;
      rest = a.rest;
      is = ap (λ l. event ∷ l) a.is;
      follows = a.follows;
      grew = a.grew ∙ ap (λ l. l ++ awaits_from (place + 1) commands a.early) same
          ∙ ap (λ l. w.globals.outstanding ++ l) (sym later)
          ∙ ap (λ b. w.globals.outstanding ++ ((if b then [] else awaits_by one)
          ++ awaits_from (place + 1) commands (event ∷ a.early))) (sym here);
      unlent = (none, a.unlent);
      low = λ p l. ap (λ b. b || list_any (refuses_at p) a.early)
          (refuses p ∙ lower_number p place (omega (arith, l))) ∙ a.low p (omega (arith, l));
    }

-- notices before it
done_noticed : {E F : Type 0} (next : World → Plan Outcome) (outcome : Outcome) (place : ℕ)
    (commands : List Command) (w : World) (notices : List Notice) (plan : Plan Outcome)
    (events : List (Event E F)) → Follows (tell_all (map Noticed notices) plan) events outcome →
    ((rest : List (Event E F)) → Follows plan rest outcome →
    Done next outcome place commands w rest) → Done next outcome place commands w events
done_noticed next outcome place commands w [] plan events f k = k events f
done_noticed next outcome place commands w (notice ∷ notices) plan [] f k = absurd (cc)
done_noticed next outcome place commands w (notice ∷ notices) plan (event ∷ events) f k =
    subst (λ x. Done next outcome place commands w (x ∷ events)) (sym f.0)
    (done_quiet next outcome place commands w (Told (Noticed notice)) events (refl, λ p. refl)
    (done_noticed next outcome place commands w notices plan events f.1 k))

-- one command, of which the handler is told where it opens a channel or is refused
told_done : {E F : Type 0} (at : Option ChannelRequest) (next : World → Plan Outcome)
    (outcome : Outcome) (place : ℕ)
    (one : Command) (commands : List Command) (w v : World) (done_so : CommandOutcome)
    (notices : List Notice) (events : List (Event E F)) →
    Asks w.globals.outstanding (awaits_by one) (Brings notices done_so v) →
    Follows (tell_done place done_so (done_all at (place + 1) commands v next)) events outcome →
    ((rest : List (Event E F)) → Follows (done_all at (place + 1) commands v next) rest outcome →
    Done next outcome (place + 1) commands v rest) →
    Done next outcome place (one ∷ commands) w events
told_done at next outcome place one commands w v Accepted notices events asks f k =
    done_accepted next outcome place one commands w v events asks.1 (k events f)
told_done at next outcome place one commands w v (Opened channel) notices [] asks f k = absurd (cc)
told_done at next outcome place one commands w v (Opened channel) notices (event ∷ events) asks f
    k =
    subst (λ x. Done next outcome place (one ∷ commands) w (x ∷ events)) (sym f.1)
    (done_quiet next outcome place (one ∷ commands) w _ events (refl, λ p. refl)
    (done_accepted next outcome place one commands w v events asks.1 (k events f.2)))
told_done at next outcome place one commands w v (Refused why) notices [] asks f k = absurd (cc)
told_done at next outcome place one commands w v (Refused why) notices (event ∷ events) asks f k =
    subst (λ x. Done next outcome place (one ∷ commands) w (x ∷ events)) (sym f.1)
    (done_refused next outcome place one commands w v _ events asks.1 refl (λ p. refl)
    (k events f.2))

effect_done : {E F : Type 0} (at : Option ChannelRequest) (next : World → Plan Outcome)
    (outcome : Outcome) (place : ℕ)
    (one : Command) (commands : List Command) (w : World) (does : Effect)
    (events : List (Event E F)) → Asks w.globals.outstanding (awaits_by one) does →
    Follows (done does (λ done_so v. tell_done place done_so
    (done_all at (place + 1) commands v next))) events outcome →
    ((v : World) (rest : List (Event E F)) →
    Follows (done_all at (place + 1) commands v next) rest outcome →
    Done next outcome (place + 1) commands v rest) →
    Done next outcome place (one ∷ commands) w events
effect_done at next outcome place one commands w (Brings notices done_so v) events asks f k =
    done_noticed next outcome place (one ∷ commands) w notices
    (tell_done place done_so (done_all at (place + 1) commands v next)) events f
    (λ rest g. told_done at next outcome place one commands w v done_so notices rest asks g (k v))

-- all that was recorded
pub all_done : {E F : Type 0} (at : Option ChannelRequest) (next : World → Plan Outcome)
    (outcome : Outcome) (place : ℕ)
    (commands : List Command) (w : World) (events : List (Event E F)) →
    Follows (done_all at place commands w next) events outcome →
    Done next outcome place commands w events
all_done at next outcome place [] w events f = record {
  world = w;
  early = [];
  rest = events;
  is = refl;
  follows = f;
  grew = sym (append-nil w.globals.outstanding);
  unlent = tt;
  low = λ p l. refl;
}
all_done at next outcome place (one ∷ commands) w events f =
    effect_done at next outcome place one commands w (effect_at at w one) events
    (effect_asks at w one) f
    (λ v rest g. all_done at next outcome (place + 1) commands v rest g)
