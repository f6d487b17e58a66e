-- What a writer put stands in the history.
use Rattle.std.proofs.Common.{◌≡◌, ℕ, false, List, ◌++◌, None, Result, Ok, Err, OnOk, sym, ◌∙◌, subst, append-nil}
use mathlib.Core.List.{IsPrefix, map-append}
use Rattle.ssh_wire.specs.declared.channel_id.ChannelId.{ChannelId}
use Rattle.ssh_link.specs.declared.command.Command.TheVariants.{Eof}
use Rattle.ssh_hub.specs.declared.answers.HandleError.{HandleError}
use Rattle.ssh_hub.specs.declared.history.Entry.{Entry}
use Rattle.ssh_hub.specs.declared.history.HubCall.{HubCall}
use Rattle.ssh_hub.specs.declared.history.HubReply.{HubReply}
use Rattle.ssh_hub.specs.declared.history.View.{View}
use Rattle.ssh_hub.specs.Does.{Does, entries}
use Rattle.ssh_hub.specs.Follow.{Follows, Acts}
use Rattle.ssh_hub.specs.History.{calls_by}
use Rattle.ssh_hub.specs.Words.{Meets, entry}
use Rattle.ssh_hub.proofs.Begins.{prefix_trans}
use Rattle.ssh_hub.proofs.Did.{did_both}
use Rattle.ssh_hub.proofs.OwnAfter.{others_stay}
use Rattle.ssh_handles.specs.Callers.{IsPut}
use Rattle.ssh_handles.specs.Writing.{Writes, writes, to_write, written}
use Rattle.ssh_handles.specs.Written.{bytes_put}
use Rattle.ssh_handles.proofs.Ordered.{in_order}
use Rattle.ssh_writers.specs.Writers.{HasMadeNone, WritesFirst, HasWritten}

-- the same as `WritesFirst`, where it is seen
abbrev Wrote : ChannelId → List ℕ → View → View → Type 0
Wrote c bytes v w = (calls more : List (HubCall × HubReply))
    × Follows (writes c None) (to_write bytes) calls written
    × Does v (calls ++ more) w

folded : (c : ChannelId) (bytes : List ℕ) (v w : View) → Wrote c bytes v w
    → WritesFirst c bytes v w
unfolding WritesFirst
folded c bytes v w wrote = wrote

wrote_both : (c : ChannelId) (bytes : List ℕ) (v x w : View) (answer : Result ℕ HandleError)
    → Acts (writes c None) v (to_write bytes) written x
    → IsPut (Eof c) 0 false x answer w → Wrote c bytes v w
unfolding Acts
wrote_both c bytes v x w answer a b = (a.0, b.0, a.2, did_both v a.0 x b.0 w a.1 b.1)

pub writes_first : (c : ChannelId) (bytes : List ℕ) (v x w : View)
    (wrote : Result (Unit {0}) HandleError) (answer : Result ℕ HandleError) (done : Unit {0})
    → wrote ≡ Ok done → Writes c None bytes v wrote x → IsPut (Eof c) 0 false x answer w
    → WritesFirst c bytes v w
writes_first c bytes v x w wrote answer done is writing ended =
    folded c bytes v w (wrote_both c bytes v x w answer
    (subst (λ (r : Result (Unit {0}) HandleError). Writes c None bytes v r x) is writing) ended)

pub has_written : (c : ChannelId) (bytes : List ℕ) (u x v w : View) → HasMadeNone u
    → WritesFirst c bytes u x → Meets v x w → HasWritten c bytes w.seen
unfolding WritesFirst
has_written c bytes u x v w none first meets =
    let n = u.number in
    let calls = first.0 in
    let more = first.1 in
    let all = others_stay u (calls ++ more) x v w first.3 meets in
    let front : IsPrefix (entries n calls) (entries n (calls ++ more)) = (
      entries n more,
      sym (map-append (λ (c : HubCall × HubReply). entry n c.0 c.1) calls more),
    ) in
    let mine : IsPrefix (entries n (calls ++ more)) (calls_by n w.seen) =
    subst (λ (log : List Entry). IsPrefix (log ++ entries n (calls ++ more)) (calls_by n w.seen))
    none all in
    record {
      number = n;
      calls = calls;
      stand = prefix_trans (entries n calls) (entries n (calls ++ more)) (calls_by n w.seen) front
          mine;
      follow = first.2;
      put = sym (append-nil (bytes_put calls)) ∙ in_order c None bytes calls written first.2;
    }

ok_written : (c : ChannelId) (bytes : List ℕ) (u x v w : View) (r : Result (Unit {0}) HandleError)
    → HasMadeNone u → OnOk r (WritesFirst c bytes u x) → Meets v x w
    → OnOk r (HasWritten c bytes w.seen)
ok_written c bytes u x v w (Ok done) none first meets = has_written c bytes u x v w none first meets
ok_written c bytes u x v w (Err e) none first meets = tt

-- what was written where the answer is Ok, by the half whose seat was joined
pub written_then : (c : ChannelId) (bytes : List ℕ) (u x y v w : View)
    (r s : Result (Unit {0}) HandleError) → s ≡ r → HasMadeNone u
    → OnOk r (WritesFirst c bytes u x) → y ≡ x → Meets v y w
    → OnOk s (HasWritten c bytes w.seen)
written_then c bytes u x y v w r s same none first seen meets =
    subst (λ (a : Result (Unit {0}) HandleError). OnOk a (HasWritten c bytes w.seen)) (sym same)
    (ok_written c bytes u x v w r none first (subst (λ (z : View). Meets v z w) seen meets))
