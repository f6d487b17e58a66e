-- What a hub's link tells, as it goes on.
use Rattle.std.proofs.Common.{◌≡◌, ◌∷◌, ◌++◌, Bool, true, false, not, cond, List, [], map, Option, Some, None, refl, ap, sym, ◌∙◌, subst, append_assoc, append-nil}
use mathlib.Core.List.{map-append}
use Rattle.std.specs.List.{filter}
use Rattle.std.specs.Option.{option_map, option_to_list, is_some}
use Rattle.std.proofs.lemmas.List.Elements.{filter-append}
use Rattle.ssh_link.specs.Frames.{Frame}
use Rattle.ssh_link.specs.declared.frame.Input.{Input}
use Rattle.ssh_link.specs.declared.frame.InputKind.{InputKind}
use Rattle.ssh_link.specs.declared.link.TraceEntry.{TraceEntry}
use Rattle.ssh_link.specs.declared.link.TraceEntry.TheVariants.{Took, Sent, Noticed, Answered}
use Rattle.ssh_link.specs.Told.{Adds, AddsOne}
use Rattle.ssh_hub.specs.declared.answers.Taken.{Taken}
use Rattle.ssh_hub.specs.declared.answers.Taken.TheVariants.{Reply, Command as TakenCommand}
use Rattle.ssh_hub.specs.declared.history.HubCall.{HubCall}
use Rattle.ssh_hub.specs.declared.history.HubCall.TheVariants.{TakeNext}
use Rattle.ssh_hub.specs.declared.history.HubReply.{HubReply}
use Rattle.ssh_hub.specs.declared.history.HubReply.TheVariants.{Took as HubTook}
use Rattle.ssh_hub.specs.declared.history.View.{View}
use Rattle.ssh_hub.specs.Step.{opening}
use Rattle.ssh_hub.specs.History.{IsLegal}
use Rattle.ssh_hub.specs.Words.{Makes, Learns}
use Rattle.ssh_hub.specs.Does.{Does}
use Rattle.ssh_hub.proofs.Did.{did_none, did_one, did_both, did_nothing}
use Rattle.ssh_hub_link.specs.Feeds.{is_of_feed, IsOfFeed}
use Rattle.ssh_hub_link.specs.Journals.{begun}
use Rattle.ssh_hub_link.specs.Given.{
  kind_of,
  taken_by,
  takes_in,
  inputs_in,
  frames_in,
  given,
  sent,
  of_feed,
  of_hub,
  GoesOn,
  AreTaken,
  TakesOf,
}

-- lists that may be told

pub adds_none : {A : Type 0} (xs : Option (List A)) → Adds xs xs []
adds_none None = refl
adds_none (Some xs) = ap (λ l. Some l) (sym (append-nil xs))

pub adds_same : {A : Type 0} (xs xs' : Option (List A)) → xs' ≡ xs → Adds xs xs' []
adds_same {A} xs xs' same = subst (λ (x : Option (List A)). Adds xs x []) (sym same) (adds_none xs)

pub adds_map : {A B : Type 0} (f : List A → List B)
    (split : (xs ys : List A) → f (xs ++ ys) ≡ f xs ++ f ys) (xs xs' : Option (List A))
    (more : List A) → Adds xs xs' more → Adds (option_map f xs) (option_map f xs') (f more)
adds_map f split None xs' more a = ap (option_map f) a
adds_map f split (Some xs) xs' more a = ap (option_map f) a ∙ ap (λ l. Some l) (split xs more)

-- a list that is not kept tells nothing
pub nothing_kept : {A : Type 0} (xs : Option (List A)) (x : A) → is_some xs ≡ false → AddsOne xs xs x
nothing_kept None x none = refl
nothing_kept (Some xs) x none = absurd (cc none)

-- what a list tells when something is put behind it

inputs_split : (xs ys : List TraceEntry) → inputs_in (xs ++ ys) ≡ inputs_in xs ++ inputs_in ys
inputs_split [] ys = refl
inputs_split (Took c r input ∷ xs) ys = ap (λ l. input ∷ l) (inputs_split xs ys)
inputs_split (Sent f ∷ xs) ys = inputs_split xs ys
inputs_split (Noticed n ∷ xs) ys = inputs_split xs ys
inputs_split (Answered t o ∷ xs) ys = inputs_split xs ys

frames_split : (xs ys : List TraceEntry) → frames_in (xs ++ ys) ≡ frames_in xs ++ frames_in ys
frames_split [] ys = refl
frames_split (Took c r input ∷ xs) ys = frames_split xs ys
frames_split (Sent f ∷ xs) ys = ap (λ l. f ∷ l) (frames_split xs ys)
frames_split (Noticed n ∷ xs) ys = frames_split xs ys
frames_split (Answered t o ∷ xs) ys = frames_split xs ys

feed_split : (xs ys : List Input) → of_feed (xs ++ ys) ≡ of_feed xs ++ of_feed ys
feed_split xs ys = filter-append (λ (input : Input). is_of_feed input.kind) xs ys

hub_split : (xs ys : List Input) → of_hub (xs ++ ys) ≡ of_hub xs ++ of_hub ys
hub_split xs ys =
    let p : Input → Bool = λ (input : Input). not (is_of_feed input.kind) in
    ap (map (λ (input : Input). input.kind)) (filter-append p xs ys)
    ∙ map-append (λ (input : Input). input.kind) (filter p xs) (filter p ys)

takes_split : (xs ys : List (HubCall × HubReply)) → takes_in (xs ++ ys) ≡ takes_in xs ++ takes_in ys
takes_split [] ys = refl
takes_split (x ∷ xs) ys = ap (λ l. taken_by x.0 x.1 ++ l) (takes_split xs ys)
    ∙ sym (append_assoc (taken_by x.0 x.1) (takes_in xs) (takes_in ys))

-- one input by its kind

taken_is_no_feed : (kind : InputKind) (taken : Taken) → kind ≡ kind_of taken
    → is_of_feed kind ≡ false
taken_is_no_feed kind (Reply ticket answer) is = ap is_of_feed is
taken_is_no_feed kind (TakenCommand ticket command) is = ap is_of_feed is

none_of_feed : (input : Input) (taken : Taken) → input.kind ≡ kind_of taken
    → of_feed (input ∷ []) ≡ []
none_of_feed input taken is = ap (λ (b : Bool). cond b (input ∷ []) [])
    (taken_is_no_feed input.kind taken is)

one_of_feed : (input : Input) → IsOfFeed input.kind → of_feed (input ∷ []) ≡ input ∷ []
one_of_feed input fed = ap (λ (b : Bool). cond b (input ∷ []) []) fed

none_of_hub : (input : Input) → IsOfFeed input.kind → of_hub (input ∷ []) ≡ []
none_of_hub input fed = ap
    (λ (b : Bool). map (λ (i : Input). i.kind) (cond (not b) (input ∷ []) [])) fed

one_of_hub : (input : Input) (taken : Taken) → input.kind ≡ kind_of taken
    → of_hub (input ∷ []) ≡ kind_of taken ∷ []
one_of_hub input taken is =
    ap (λ (b : Bool). map (λ (i : Input). i.kind) (cond (not b) (input ∷ []) []))
    (taken_is_no_feed input.kind taken is)
    ∙ ap (λ (k : InputKind). k ∷ []) is

-- one more entry of a trace

-- an input that is told
pub given_told : (trace trace' : Option (List TraceEntry)) (lost : Option Input) (c r : Bool)
    (input : Input) → lost ≡ None → AddsOne trace trace' (Took c r input)
    → Adds (given trace lost) (given trace' lost) (input ∷ [])
given_told None trace' lost c r input none a = ap (λ (t : Option (List TraceEntry)). given t lost) a
given_told (Some t) trace' lost c r input none a = subst
    (λ (l : Option Input). Adds (given (Some t) l) (given trace' l) (input ∷ [])) (sym none)
    (ap (λ (u : Option (List TraceEntry)). given u None) a
    ∙ ap (λ (l : List Input). Some l)
    (append-nil (inputs_in (t ++ Took c r input ∷ []))
    ∙ (inputs_split t (Took c r input ∷ [])
    ∙ ap (λ (l : List Input). l ++ input ∷ []) (sym (append-nil (inputs_in t))))))

-- an input that is lost
pub given_lost : (trace trace' : Option (List TraceEntry)) (lost lost' : Option Input) (input : Input)
    → lost ≡ None → trace' ≡ trace → lost' ≡ Some input
    → Adds (given trace lost) (given trace' lost') (input ∷ [])
given_lost trace trace' lost lost' input none same is = subst
    (λ (l : Option Input). Adds (given trace lost) (given trace' l) (input ∷ [])) (sym is)
    (given_lost_at trace trace' lost input none same)
  where
    given_lost_at : (trace trace' : Option (List TraceEntry)) (lost : Option Input) (input : Input)
        → lost ≡ None → trace' ≡ trace
        → Adds (given trace lost) (given trace' (Some input)) (input ∷ [])
    given_lost_at None trace' lost input none same =
        ap (λ (t : Option (List TraceEntry)). given t (Some input)) same
    given_lost_at (Some t) trace' lost input none same = subst
        (λ (l : Option Input). Adds (given (Some t) l) (given trace' (Some input)) (input ∷ []))
        (sym none)
        (ap (λ (u : Option (List TraceEntry)). given u (Some input)) same
        ∙ ap (λ (l : List Input). Some (l ++ input ∷ [])) (sym (append-nil (inputs_in t))))

-- an entry that is no input
pub given_other : (trace trace' : Option (List TraceEntry)) (lost : Option Input) (e : TraceEntry)
    → inputs_in (e ∷ []) ≡ [] → AddsOne trace trace' e → given trace' lost ≡ given trace lost
given_other None trace' lost e none a = ap (λ (t : Option (List TraceEntry)). given t lost) a
given_other (Some t) trace' lost e none a =
    ap (λ (u : Option (List TraceEntry)). given u lost) a
    ∙ ap (λ (l : List Input). Some (l ++ option_to_list lost))
    (inputs_split t (e ∷ []) ∙ (ap (λ (l : List Input). inputs_in t ++ l) none
    ∙ append-nil (inputs_in t)))

pub sent_more : (trace trace' : Option (List TraceEntry)) (e : TraceEntry) → AddsOne trace trace' e
    → Adds (sent trace) (sent trace') (frames_in (e ∷ []))
sent_more trace trace' e a = adds_map frames_in frames_split trace trace' (e ∷ []) a

-- what went on goes on

pub goes_on : {A : Type 0} (before now now' xs xs' : Option (List A)) (more : List A)
    → GoesOn before now xs → Adds xs xs' more → Adds now now' more → GoesOn before now' xs'
unfolding GoesOn
goes_on {A} before now now' None xs' more g a b =
    subst (λ (x : Option (List A)). GoesOn before now' x) (sym a) tt
goes_on {A} None now now' (Some xs) xs' more g a b =
    subst (λ (x : Option (List A)). GoesOn None now' x) (sym a)
    (subst (λ (n : Option (List A)). Adds n now' more) g b)
goes_on {A} (Some ys) now now' (Some xs) xs' more g a b =
    subst (λ (x : Option (List A)). GoesOn (Some ys) now' x) (sym a)
    (subst (λ (n : Option (List A)). Adds n now' more) g b
    ∙ ap (λ (l : List A). Some l) (append_assoc ys xs more))

-- the list is told no more and no less
pub goes_still : {A : Type 0} (before now now' xs xs' : Option (List A)) → GoesOn before now xs
    → Adds xs xs' [] → now' ≡ now → GoesOn before now' xs'
goes_still before now now' xs xs' g a same = goes_on before now now' xs xs' [] g a
    (adds_same now now' same)

-- a link that was just made
pub nothing_given : {A B : Type 0} (f : List A → List B) → f [] ≡ [] → (keep : Bool)
    (before : Option (List B)) (xs : Option (List A)) → xs ≡ begun keep
    → GoesOn before before (option_map f xs)
unfolding GoesOn
nothing_given {A} {B} f none false before xs is =
    subst (λ (x : Option (List A)). GoesOn before before (option_map f x)) (sym is) tt
nothing_given {A} {B} f none true before xs is =
    subst (λ (x : Option (List A)). GoesOn before before (option_map f x)) (sym is)
    (subst (λ (l : List B). Adds before before l) (sym none) (adds_none before))

pub none_given : (keep : Bool) (trace : Option (List TraceEntry)) → trace ≡ begun keep
    → given trace None ≡ begun keep
none_given false trace is = ap (λ (t : Option (List TraceEntry)). given t None) is
none_given true trace is = ap (λ (t : Option (List TraceEntry)). given t None) is

pub takes_none : (keep : Bool) (v : View) (xs : Option (List Input)) → xs ≡ begun keep
    → IsLegal (opening v.config) v.seen → TakesOf v v (option_map of_hub xs)
unfolding TakesOf
takes_none false v xs is legal =
    subst (λ (x : Option (List Input)). TakesOf v v (option_map of_hub x)) (sym is)
    ([], did_nothing v legal, tt)
takes_none true v xs is legal =
    subst (λ (x : Option (List Input)). TakesOf v v (option_map of_hub x)) (sym is)
    ([], did_nothing v legal, refl)

are_taken_more : (kinds kinds' : Option (List InputKind)) (first more : List (HubCall × HubReply))
    → AreTaken kinds first → Adds kinds kinds' (takes_in more) → AreTaken kinds' (first ++ more)
are_taken_more None kinds' first more told a =
    subst (λ (k : Option (List InputKind)). AreTaken k (first ++ more)) (sym a) tt
are_taken_more (Some kinds) kinds' first more told a =
    subst (λ (k : Option (List InputKind)). AreTaken k (first ++ more)) (sym a)
    (ap (λ (l : List InputKind). l ++ takes_in more) told ∙ sym (takes_split first more))

-- the seat made calls more, and what they took was given
pub takes_more : (start v w : View) (kinds kinds' : Option (List InputKind))
    (more : List (HubCall × HubReply)) → TakesOf start v kinds → Does v more w
    → Adds kinds kinds' (takes_in more) → TakesOf start w kinds'
unfolding TakesOf
takes_more start v w kinds kinds' more t d a = (
  t.0 ++ more,
  did_both start t.0 v more w t.1 d,
  are_taken_more kinds kinds' t.0 more t.2 a,
)

-- the seat made no call, and what was given is none of the hub's
takes_still : (start v : View) (kinds kinds' : Option (List InputKind)) → TakesOf start v kinds
    → Adds kinds kinds' [] → TakesOf start v kinds'
unfolding TakesOf
takes_still start v kinds kinds' t a = (
  t.0,
  t.1,
  subst (λ (cs : List (HubCall × HubReply)). AreTaken kinds' cs) (append-nil t.0)
      (are_taken_more kinds kinds' t.0 [] t.2 a),
)

-- calls that take nothing
pub takes_nothing : (start v w : View) (kinds : Option (List InputKind))
    (more : List (HubCall × HubReply)) → TakesOf start v kinds → Does v more w
    → takes_in more ≡ [] → TakesOf start w kinds
takes_nothing start v w kinds more t d none = takes_more start v w kinds kinds more t d
    (subst (λ (l : List InputKind). Adds kinds kinds l) (sym none) (adds_none kinds))

-- a call that takes nothing
pub takes_other : (start v w : View) (kinds : Option (List InputKind)) (c : HubCall) (r : HubReply)
    → TakesOf start v kinds → Makes v c r w → taken_by c r ≡ [] → TakesOf start w kinds
takes_other start v w kinds c r t made none = takes_nothing start v w kinds ((c, r) ∷ []) t
    (did_one v c r w made) (append-nil (taken_by c r) ∙ none)

-- a take that found nothing
pub takes_empty : (start v w : View) (kinds : Option (List InputKind)) (asks_replies asks_commands : Bool)
    (o : Option Taken) → TakesOf start v kinds
    → Makes v (TakeNext asks_replies asks_commands) (HubTook o) w → o ≡ None → TakesOf start w kinds
takes_empty start v w kinds r c o t made is = takes_other start v w kinds (TakeNext r c) (HubTook o) t
    made (ap (λ (x : Option Taken). taken_by (TakeNext r c) (HubTook x)) is)

-- a take that took this, which was given
pub takes_one : (start v w : View) (xs xs' : Option (List Input)) (asks_replies asks_commands : Bool)
    (o : Option Taken) (taken : Taken) (input : Input) → TakesOf start v (option_map of_hub xs)
    → Makes v (TakeNext asks_replies asks_commands) (HubTook o) w → o ≡ Some taken
    → input.kind ≡ kind_of taken → Adds xs xs' (input ∷ [])
    → TakesOf start w (option_map of_hub xs')
takes_one start v w xs xs' r c o taken input t made is kind a =
    let one : List (HubCall × HubReply) = (TakeNext r c, HubTook o) ∷ [] in
    let took : of_hub (input ∷ []) ≡ takes_in one =
    one_of_hub input taken kind
    ∙ ap (λ (x : Option Taken). taken_by (TakeNext r c) (HubTook x) ++ []) (sym is) in
    takes_more start v w (option_map of_hub xs) (option_map of_hub xs') one t
    (did_one v (TakeNext r c) (HubTook o) w made)
    (subst (λ (l : List InputKind). Adds (option_map of_hub xs) (option_map of_hub xs') l) took
    (adds_map of_hub hub_split xs xs' (input ∷ []) a))

-- an input of the feed is not of the hub
pub takes_fed : (start v : View) (xs xs' : Option (List Input)) (input : Input)
    → TakesOf start v (option_map of_hub xs) → IsOfFeed input.kind → Adds xs xs' (input ∷ [])
    → TakesOf start v (option_map of_hub xs')
takes_fed start v xs xs' input t fed a = takes_still start v (option_map of_hub xs)
    (option_map of_hub xs') t
    (subst (λ (l : List InputKind). Adds (option_map of_hub xs) (option_map of_hub xs') l)
    (none_of_hub input fed) (adds_map of_hub hub_split xs xs' (input ∷ []) a))

-- and the other way round
pub feed_untouched : (before now : Option (List Input)) (xs xs' : Option (List Input)) (taken : Taken)
    (input : Input) → GoesOn before now (option_map of_feed xs) → input.kind ≡ kind_of taken
    → Adds xs xs' (input ∷ []) → GoesOn before now (option_map of_feed xs')
feed_untouched before now xs xs' taken input g kind a = goes_on before now now
    (option_map of_feed xs) (option_map of_feed xs') [] g
    (subst (λ (l : List Input). Adds (option_map of_feed xs) (option_map of_feed xs') l)
    (none_of_feed input taken kind) (adds_map of_feed feed_split xs xs' (input ∷ []) a))
    (adds_none now)

-- what the feed gave was given
pub feed_gave : (before now now' : Option (List Input)) (xs xs' : Option (List Input)) (input : Input)
    → GoesOn before now (option_map of_feed xs) → IsOfFeed input.kind
    → Adds xs xs' (input ∷ []) → AddsOne now now' input → GoesOn before now' (option_map of_feed xs')
feed_gave before now now' xs xs' input g fed a gave = goes_on before now now'
    (option_map of_feed xs) (option_map of_feed xs') (input ∷ []) g
    (subst (λ (l : List Input). Adds (option_map of_feed xs) (option_map of_feed xs') l)
    (one_of_feed input fed) (adds_map of_feed feed_split xs xs' (input ∷ []) a)) gave

-- the same where a poll may have had nothing
pub feed_polled : (before now now' : Option (List Input)) (xs xs' : Option (List Input))
    (o : Option Input) (input : Input) → GoesOn before now (option_map of_feed xs)
    → IsOfFeed input.kind → Adds xs xs' (input ∷ []) → o ≡ Some input
    → Adds now now' (option_to_list o) → GoesOn before now' (option_map of_feed xs')
feed_polled before now now' xs xs' o input g fed a is gave = feed_gave before now now' xs xs' input g
    fed a (subst (λ (p : Option Input). Adds now now' (option_to_list p)) is gave)

-- an entry that is no input

pub takes_entry : (start v : View) (trace trace' : Option (List TraceEntry)) (lost : Option Input)
    (e : TraceEntry) → inputs_in (e ∷ []) ≡ [] → AddsOne trace trace' e
    → TakesOf start v (option_map of_hub (given trace lost))
    → TakesOf start v (option_map of_hub (given trace' lost))
takes_entry start v trace trace' lost e none a t =
    subst (λ (x : Option (List Input)). TakesOf start v (option_map of_hub x))
    (sym (given_other trace trace' lost e none a)) t

pub feed_entry : (before now now' : Option (List Input)) (trace trace' : Option (List TraceEntry))
    (lost : Option Input) (e : TraceEntry) → inputs_in (e ∷ []) ≡ [] → AddsOne trace trace' e
    → GoesOn before now (option_map of_feed (given trace lost)) → now' ≡ now
    → GoesOn before now' (option_map of_feed (given trace' lost))
feed_entry before now now' trace trace' lost e none a g same =
    subst (λ (x : Option (List Input)). GoesOn before now' (option_map of_feed x))
    (sym (given_other trace trace' lost e none a))
    (subst (λ (n : Option (List Input)). GoesOn before n (option_map of_feed (given trace lost)))
    (sym same) g)

-- one that is no frame
pub sent_entry : (before now : Option (List Frame)) (trace trace' : Option (List TraceEntry))
    (e : TraceEntry) → frames_in (e ∷ []) ≡ [] → AddsOne trace trace' e
    → GoesOn before now (sent trace) → GoesOn before now (sent trace')
sent_entry before now trace trace' e none a g = goes_on before now now (sent trace) (sent trace') [] g
    (subst (λ (l : List Frame). Adds (sent trace) (sent trace') l) none
    (sent_more trace trace' e a)) (adds_none now)

-- a frame that was taken
pub sent_frame : (before now now' : Option (List Frame)) (trace trace' : Option (List TraceEntry))
    (frame : Frame) → AddsOne trace trace' (Sent frame) → AddsOne now now' frame
    → GoesOn before now (sent trace) → GoesOn before now' (sent trace')
sent_frame before now now' trace trace' frame a b g = goes_on before now now' (sent trace)
    (sent trace') (frame ∷ []) g (sent_more trace trace' (Sent frame) a) b

-- the seat has only seen more
pub takes_learned : (start v w : View) (kinds : Option (List InputKind)) → TakesOf start v kinds
    → Learns v w → TakesOf start w kinds
takes_learned start v w kinds t l = takes_nothing start v w kinds [] t (did_none v w l) refl

-- an entry that was taken back

pub takes_undone : (start v : View) (trace trace' : Option (List TraceEntry)) (lost : Option Input)
    → trace' ≡ trace → TakesOf start v (option_map of_hub (given trace lost))
    → TakesOf start v (option_map of_hub (given trace' lost))
takes_undone start v trace trace' lost same t =
    subst (λ (x : Option (List TraceEntry)). TakesOf start v (option_map of_hub (given x lost)))
    (sym same) t

pub feed_undone : (before now : Option (List Input)) (trace trace' : Option (List TraceEntry))
    (lost : Option Input) → trace' ≡ trace
    → GoesOn before now (option_map of_feed (given trace lost))
    → GoesOn before now (option_map of_feed (given trace' lost))
feed_undone before now trace trace' lost same g =
    subst (λ (x : Option (List TraceEntry)). GoesOn before now (option_map of_feed (given x lost)))
    (sym same) g

pub sent_undone : (before now : Option (List Frame)) (trace trace' : Option (List TraceEntry))
    → trace' ≡ trace → GoesOn before now (sent trace) → GoesOn before now (sent trace')
sent_undone before now trace trace' same g =
    subst (λ (x : Option (List TraceEntry)). GoesOn before now (sent x)) (sym same) g

-- the same facts of a link that was just made, at equal seats and feeds

pub takes_begun : (keep : Bool) (u v : View) (trace : Option (List TraceEntry)) → u ≡ v
    → trace ≡ begun keep → IsLegal (opening v.config) v.seen
    → TakesOf u v (option_map of_hub (given trace None))
takes_begun keep u v trace same is legal =
    subst (λ (x : View). TakesOf x v (option_map of_hub (given trace None))) (sym same)
    (takes_none keep v (given trace None) (none_given keep trace is) legal)

pub feed_begun : (keep : Bool) (before now : Option (List Input)) (trace : Option (List TraceEntry))
    → before ≡ now → trace ≡ begun keep
    → GoesOn before now (option_map of_feed (given trace None))
feed_begun keep before now trace same is =
    subst (λ (x : Option (List Input)). GoesOn x now (option_map of_feed (given trace None)))
    (sym same) (nothing_given of_feed refl keep now (given trace None) (none_given keep trace is))

pub sent_begun : (keep : Bool) (before now : Option (List Frame)) (trace : Option (List TraceEntry))
    → before ≡ now → trace ≡ begun keep → GoesOn before now (sent trace)
sent_begun keep before now trace same is =
    subst (λ (x : Option (List Frame)). GoesOn x now (sent trace)) (sym same)
    (nothing_given frames_in refl keep now trace is)
