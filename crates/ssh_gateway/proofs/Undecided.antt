-- The opens that wait to be decided wait in the session too.
use Rattle.std.proofs.Common.{◌≡◌, ◌==◌, ◌≤◌, ◌+◌, ℕ, List, [], ◌∷◌, ◌++◌, Bool, true, false, cond}
use Rattle.std.proofs.Common.{Option, Some, None, Ok, refl, sym, ◌∙◌, ap, subst, rules, arith}
use Rattle.std.proofs.Common.{append_assoc}
use Rattle.std.specs.Prelude.{flat_map, if◌then◌else◌}
use Rattle.std.proofs.lemmas.List.{append-nil}
use Rattle.std.proofs.lemmas.List.Concat.{flat_map-append}
use Rattle.ssh_wire.specs.declared.channel_id.ChannelId.{ChannelId}
use Rattle.ssh_link.specs.declared.command.Command.{Command}
use Rattle.ssh_link.specs.declared.command.Command.TheVariants as command
use Rattle.ssh_link.specs.declared.link.TraceEntry.{TraceEntry}
use Rattle.ssh_link.specs.declared.link.TraceEntry.TheVariants.{Took, Sent, Noticed, Answered}
use Rattle.ssh_link.specs.declared.notice.ChannelMsg.{ChannelMsg}
use Rattle.ssh_link.specs.declared.notice.ChannelMsg.TheVariants as msg
use Rattle.ssh_link.specs.declared.notice.Notice.{Notice}
use Rattle.ssh_link.specs.declared.notice.Notice.TheVariants.{Channel}
use Rattle.ssh_link.specs.declared.outcome.CommandOutcome.{CommandOutcome}
use Rattle.ssh_link.specs.declared.outcome.CommandOutcome.TheVariants.{Accepted, Opened, Refused}
use Rattle.ssh_auth.specs.declared.call.Call.{Call}
use Rattle.ssh_auth.specs.declared.question.Happening.{Happening}
use Rattle.ssh_auth.specs.declared.question.Happening.TheVariants as what
use Rattle.ssh_auth.specs.declared.question.Lent.{Lent}
use Rattle.ssh_auth.specs.declared.question.Lent.TheVariants.{Succeeded, Opens, Happened}
use Rattle.ssh_auth.specs.declared.question.OpenType.{OpenType}
use Rattle.ssh_auth.specs.declared.question.OpenType.TheVariants as type
use Rattle.ssh_auth.specs.declared.question.Question.{Question}
use Rattle.ssh_auth.specs.declared.question.Question.TheVariants as ask
use Rattle.ssh_auth.specs.Plan.{Event, Called, Stepped, Told, calls_in}
use Rattle.ssh_auth.specs.Was.{Was, Banner_so, Admitted_so, Lent_so, Judged_so, Listened_so}
use Rattle.ssh_auth.specs.Was.{Adjusted_so, Done_so, was, asked_of, question_of}
use Rattle.ssh_auth.proofs.Back.{lent_back, judged_back}
use Rattle.ssh_channels.proofs.Listed.{one_number}
use Rattle.ssh_handler.specs.OwnCalls.{is_own, own_calls}
use Rattle.ssh_rules.specs.Answered.{how_many, open_asked, open_returned}
use Rattle.ssh_rules.specs.Valid.{recorded_so}
use Rattle.ssh_run_laws.specs.Channels.{answers, answers_by, waits_from, waits_on, waits_then}
use Rattle.ssh_run_laws.specs.Deeds.{Deed, Commanded, Asked, Closed_by_peer, asked_by, came_of}
use Rattle.ssh_run_laws.specs.Deeds.{deeds_from, deeds_in, done_at, noted_by, outcome_at, told_by}
use Rattle.ssh_run_laws.proofs.Standing.{still_then}
use Rattle.ssh_gateway.specs.declared.switchboard.Asking.{Asking}
use Rattle.ssh_gateway.specs.Answering.{answered, opened, records, refusal, replied}

-- ---- opens that wait by what was done

-- no open of these is of this number
abbrev pub AreApart : ℕ → List Asking → Type 0
AreApart number [] = Unit {0}
AreApart number (asked ∷ more) = ((number == asked.channel.0) ≡ false) × AreApart number more

-- each of these waits, and no two are of one number
abbrev pub Hold : (past : List Deed) → List Asking → Type 0
Hold past [] = Unit {0}
Hold past (asked ∷ more) = (waits_on asked.channel.0 past ≡ true) × AreApart asked.channel.0 more
    × Hold past more

-- this deed answers none of them
abbrev pub Leaves : Deed → List Asking → Type 0
Leaves deed [] = Unit {0}
Leaves deed (asked ∷ more) = (answers asked.channel.0 deed ≡ false) × Leaves deed more

waits_both : (n : ℕ) (waits : Bool) (xs ys : List Deed)
    → waits_from n waits (xs ++ ys) ≡ waits_from n (waits_from n waits xs) ys
waits_both n waits [] ys = refl
waits_both n waits (x ∷ xs) ys = waits_both n (waits_then n waits x) xs ys

waits_still : (n : ℕ) (past : List Deed) (deed : Deed) → waits_on n past ≡ true
    → answers n deed ≡ false → waits_on n (past ++ deed ∷ []) ≡ true
waits_still n past deed waits none = waits_both n false past (deed ∷ [])
    ∙ (ap (λ b. waits_then n b deed) waits ∙ still_then n deed none)

hold_still : (past : List Deed) (deed : Deed) (all : List Asking) → Leaves deed all → Hold past all
    → Hold (past ++ deed ∷ []) all
hold_still past deed [] leaves hold = tt
hold_still past deed (asked ∷ more) leaves hold = (
  waits_still asked.channel.0 past deed hold.0 leaves.0,
  hold.1,
  hold_still past deed more leaves.1 hold.2,
)

-- ---- one more that waits

apart_more : (number : ℕ) (all : List Asking) (one : Asking) → AreApart number all
    → (number == one.channel.0) ≡ false → AreApart number (all ++ one ∷ [])
apart_more number [] one apart new = (new, tt)
apart_more number (asked ∷ more) one apart new =
    (apart.0, apart_more number more one apart.1 new)

-- each of these has another number than this one
abbrev Differ : List Asking → ℕ → Type 0
Differ [] number = Unit {0}
Differ (asked ∷ more) number = ((asked.channel.0 == number) ≡ false) × Differ more number

hold_more : (past : List Deed) (all : List Asking) (one : Asking) → Hold past all
    → Differ all one.channel.0 → waits_on one.channel.0 past ≡ true → Hold past (all ++ one ∷ [])
hold_more past [] one hold differ waits = (waits, tt, tt)
hold_more past (asked ∷ more) one hold differ waits = (
  hold.0,
  apart_more asked.channel.0 more one hold.1 differ.0,
  hold_more past more one hold.2 differ.1 waits,
)

differ_by : (n m : ℕ) (past : List Deed) (b : Bool) → (n == m) ≡ b → waits_on n past ≡ true
    → waits_on m past ≡ false → b ≡ false
differ_by n m past true same waits new = absurd (let no : true ≡ false =
    sym waits ∙ (ap (λ k. waits_on k past) (one_number n m same) ∙ new) in cc)
differ_by n m past false same waits new = refl

all_differ : (past : List Deed) (all : List Asking) (number : ℕ) → Hold past all
    → waits_on number past ≡ false → Differ all number
all_differ past [] number hold new = tt
all_differ past (asked ∷ more) number hold new = (
  differ_by asked.channel.0 number past (asked.channel.0 == number) refl hold.0 new,
  all_differ past more number hold.2 new,
)

-- ---- deeds one after another

-- the number of an open that is asked about is new
abbrev pub IsNew : (past : List Deed) → Deed → Type 0
IsNew past (Asked channel) = waits_on channel.0 past ≡ false
IsNew past _ = Unit {0}

abbrev pub AreNew : (past : List Deed) → List Deed → Type 0
AreNew past [] = Unit {0}
AreNew past (deed ∷ deeds) = IsNew past deed × AreNew (past ++ deed ∷ []) deeds

abbrev pub behind : (past deeds : List Deed) → List Deed
behind past [] = past
behind past (deed ∷ deeds) = behind (past ++ deed ∷ []) deeds

pub behind_is : (past deeds : List Deed) → behind past deeds ≡ past ++ deeds
behind_is past [] = sym (append-nil past)
behind_is past (deed ∷ deeds) =
    behind_is (past ++ deed ∷ []) deeds ∙ append_assoc past (deed ∷ []) deeds

pub behind_both : (past xs ys : List Deed) → behind past (xs ++ ys) ≡ behind (behind past xs) ys
behind_both past [] ys = refl
behind_both past (x ∷ xs) ys = behind_both (past ++ x ∷ []) xs ys

pub new_both : (past xs ys : List Deed) → AreNew past (xs ++ ys)
    → AreNew past xs × AreNew (behind past xs) ys
new_both past [] ys new = (tt, new)
new_both past (x ∷ xs) ys new =
    let both = new_both (past ++ x ∷ []) xs ys new.1 in ((new.0, both.0), both.1)

-- ---- what an event brings

-- this command answers none of them, where an input gives one
abbrev pub Spares : Option Command → List Asking → Type 0
Spares None all = Unit {0}
Spares (Some given) [] = Unit {0}
Spares (Some given) (asked ∷ more) =
    (answers_by asked.channel.0 given ≡ false) × Spares (Some given) more

spared : (given : Command) (outcome : CommandOutcome) (all : List Asking) → Spares (Some given) all
    → Leaves (Commanded given outcome) all
spared given outcome [] spares = tt
spared given Accepted (asked ∷ more) spares = (spares.0, spared given Accepted more spares.1)
spared given (Opened channel) (asked ∷ more) spares =
    (refl, spared given (Opened channel) more spares.1)
spared given (Refused why) (asked ∷ more) spares =
    (refl, spared given (Refused why) more spares.1)

closed_leaves : (channel : ChannelId) (all : List Asking) → Leaves (Closed_by_peer channel) all
closed_leaves channel [] = tt
closed_leaves channel (asked ∷ more) = (refl, closed_leaves channel more)

asked_leaves : (channel : ChannelId) (all : List Asking) → Leaves (Asked channel) all
asked_leaves channel [] = tt
asked_leaves channel (asked ∷ more) = (refl, asked_leaves channel more)

noted_hold : (past : List Deed) (all : List Asking) (notice : Notice) → Hold past all
    → Hold (behind past (noted_by notice)) all
noted_hold past all (Channel channel msg.Close) hold =
    hold_still past (Closed_by_peer channel) all (closed_leaves channel all) hold
noted_hold past all (Channel channel message) hold = hold
noted_hold past all notice hold = hold

came_hold : (past : List Deed) (all : List Asking) (given : Option Command)
    (outcome : CommandOutcome) → Spares given all → Hold past all
    → Hold (behind past (came_of given outcome)) all
came_hold past all None outcome spares hold = hold
came_hold past all (Some given) outcome spares hold =
    hold_still past (Commanded given outcome) all (spared given outcome all spares) hold

pub told_hold : (past : List Deed) (all : List Asking) (given : Option Command) (entry : TraceEntry)
    → Spares given all → Hold past all → Hold (behind past (told_by given entry)) all
told_hold past all given (Answered ticket outcome) spares hold =
    came_hold past all given outcome spares hold
told_hold past all given (Noticed notice) spares hold = noted_hold past all notice hold
told_hold past all given (Sent frame) spares hold = hold
told_hold past all given (Took commands replies taken) spares hold = hold

-- ---- what a question brings

-- the open that it asks about waits to be decided
abbrev pub opened_by : Question → List Asking
opened_by (ask.Lends (Opens channel (type.DirectTcpip host port from from_port))) =
    record { channel = channel; host = host; port = port } ∷ []
opened_by _ = []

abbrev pub opened_in : List Question → List Asking
opened_in questions = flat_map opened_by questions

-- what was done as it was asked
abbrev pub lent_deeds : {E F : Type 0} → Lent → List (Event E F) → List Deed
lent_deeds lent events = asked_by (open_asked (ask.Lends lent)) ++ deeds_from 0 (records lent) events

asked_waits : (channel : ChannelId) (past : List Deed)
    → waits_on channel.0 (past ++ Asked channel ∷ []) ≡ true
asked_waits channel past = waits_both channel.0 false past (Asked channel ∷ [])
    ∙ (let same : (channel.0 == channel.0) ≡ true = search rules in rw same refl)

refused_spares : (channel : ChannelId) (all : List Asking) → Differ all channel.0
    → Spares (Some (command.Answer (refusal channel))) all
refused_spares channel [] differ = tt
refused_spares channel (asked ∷ more) differ =
    (differ.0, refused_spares channel more differ.1)

failure_spares : (channel : ChannelId) (all : List Asking)
    → Spares (Some (command.ChannelFailure channel)) all
failure_spares channel [] = tt
failure_spares channel (asked ∷ more) = (refl, failure_spares channel more)

-- an open that is refused at once
refused_hold : (past : List Deed) (all : List Asking) (channel : ChannelId)
    (outcome : CommandOutcome) → waits_on channel.0 past ≡ false → Hold past all
    → Hold (behind past (Asked channel ∷ Commanded (command.Answer (refusal channel)) outcome ∷ []))
    all
refused_hold past all channel outcome new hold =
    hold_still (past ++ Asked channel ∷ []) (Commanded (command.Answer (refusal channel)) outcome)
    all (spared (command.Answer (refusal channel)) outcome all
    (refused_spares channel all (all_differ past all channel.0 hold new)))
    (hold_still past (Asked channel) all (asked_leaves channel all) hold)

failed_hold : (past : List Deed) (all : List Asking) (channel : ChannelId)
    (outcome : CommandOutcome) → Hold past all
    → Hold (behind past (Commanded (command.ChannelFailure channel) outcome ∷ [])) all
failed_hold past all channel outcome hold =
    hold_still past (Commanded (command.ChannelFailure channel) outcome) all
    (spared (command.ChannelFailure channel) outcome all (failure_spares channel all)) hold

-- what happens on a channel is answered by a failure, or not at all
happened_hold : {E F : Type 0} (past : List Deed) (all : List Asking) (channel : ChannelId)
    (happening : Happening) (events : List (Event E F)) → Hold past all
    → Hold (behind past (deeds_from 0 (replied channel happening) events)) all
happened_hold past all channel (what.Confirmed packet window) events hold = hold
happened_hold past all channel (what.Data bytes) events hold = hold
happened_hold past all channel (what.ExtendedData code bytes) events hold = hold
happened_hold past all channel what.Eof events hold = hold
happened_hold past all channel what.Close events hold = hold
happened_hold past all channel (what.WindowAdjusted new_size) events hold = hold
happened_hold past all channel happening events hold =
    failed_hold past all channel (outcome_at 0 events) hold

opened_hold : {E F : Type 0} (past : List Deed) (all : List Asking) (channel : ChannelId)
    (t : OpenType) (events : List (Event E F)) → waits_on channel.0 past ≡ false → Hold past all
    → Hold (behind past (lent_deeds (Opens channel t) events))
    (all ++ opened_by (ask.Lends (Opens channel t)))
opened_hold past all channel (type.DirectTcpip host port from from_port) events new hold =
    hold_more (past ++ Asked channel ∷ []) all
    (record { channel = channel; host = host; port = port })
    (hold_still past (Asked channel) all (asked_leaves channel all) hold)
    (all_differ past all channel.0 hold new) (asked_waits channel past)
opened_hold past all channel t events new hold =
    subst (Hold (behind past (lent_deeds (Opens channel t) events))) (sym (append-nil all))
    (refused_hold past all channel (outcome_at 0 events) new hold)

pub lent_hold : {E F : Type 0} (past : List Deed) (all : List Asking) (lent : Lent)
    (events : List (Event E F)) → AreNew past (lent_deeds lent events) → Hold past all
    → Hold (behind past (lent_deeds lent events)) (all ++ opened_by (ask.Lends lent))
lent_hold past all Succeeded events new hold = subst (Hold past) (sym (append-nil all)) hold
lent_hold past all (Opens channel t) events new hold =
    opened_hold past all channel t events new.0 hold
lent_hold past all (Happened channel happening) events new hold =
    subst (Hold (behind past (deeds_from 0 (replied channel happening) events)))
    (sym (append-nil all)) (happened_hold past all channel happening events hold)
