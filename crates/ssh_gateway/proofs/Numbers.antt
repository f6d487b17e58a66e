-- Numbers of connections and of channels, and the bytes that went out.
use Rattle.std.proofs.Common.{◌≡◌, ◌==◌, ◌<◌, ◌∙◌, ℕ, List, [], ◌∷◌, ◌++◌, Bool, true, false}
use Rattle.std.proofs.Common.{cond, Option, Some, None, refl, sym, ap, rules, arith}
use Rattle.std.proofs.lemmas.List.{append-nil}
use Rattle.std.proofs.lemmas.List.Concat.{flat_map-append}
use Rattle.ssh_link.specs.declared.link.TraceEntry.{TraceEntry}
use Rattle.ssh_channels.specs.declared.chunk.DataKind.TheVariants.{Plain}
use Rattle.ssh_channels.specs.Does.{is_one}
use Rattle.ssh_channels.specs.Entry.{Entry, more_may_come, tagged}
use Rattle.ssh_channels.specs.Layout.{chunk}
use Rattle.ssh_channels.specs.Lines.{Lines, find}
use Rattle.ssh_channels.proofs.Listed.{one_number}
use Rattle.ssh_rules.specs.World.{World}
use Rattle.ssh_rules.proofs.Ledger.Commands.{Kept}
use Rattle.ssh_rules.proofs.Ledger.Pending.{IsReserved}
use Rattle.ssh_rules.proofs.Ledger.Waiting.{found_waiting}
use Rattle.ssh_run_laws.specs.Channels.{Stands, Waits as StillWaits}
use Rattle.ssh_gateway.specs.declared.switchboard.Connection.{Connection}
use Rattle.ssh_gateway.specs.Bytes.{sent_by, outgoing}
use Rattle.ssh_gateway.specs.Turns.{Round}

-- ---- numbers

not_next : (b : Bool) (n m : ℕ) → (n == m) ≡ b → n < m → b ≡ false
not_next true n m is few = let same = one_number n m is in absurd (omega (arith, same, few))
not_next false n m is few = refl

pub unlike : (n m : ℕ) → n < m → (n == m) ≡ false
unlike n m few = not_next (n == m) n m refl few

pub same_number : (n : ℕ) → (n == n) ≡ true
same_number n = search rules

pub other_way : (n m : ℕ) → (n == m) ≡ false → (m == n) ≡ false
other_way n m h = search rules

-- ---- bytes

pub tagged_both : (xs ys : List ℕ)
    → tagged (chunk Plain xs) ++ tagged (chunk Plain ys) ≡ tagged (chunk Plain (xs ++ ys))
tagged_both [] ys = refl
tagged_both (x ∷ xs) ys = ap (λ l. (Plain, x) ∷ l) (tagged_both xs ys)

pub outgoing_more : {E F : Type 0} (id : ℕ) (done : List (Round E F)) (round : Round E F)
    → outgoing id (done ++ round ∷ []) ≡ outgoing id done ++ sent_by id round.source
outgoing_more {E} {F} id done round =
    flat_map-append (λ (one : Round E F). sent_by id one.source) done (round ∷ [])
    ∙ ap (λ l. outgoing id done ++ l) (append-nil (sent_by id round.source))

-- ---- the connections that are heeded

pub heeded_is : (b : Bool) (all xs : List Connection) (y : Connection) (ys : List Connection)
    → cond b all [] ≡ xs ++ y ∷ ys → all ≡ xs ++ y ∷ ys
heeded_is true all xs y ys is = is
heeded_is false all [] y ys is = absurd (cc)
heeded_is false all (x ∷ xs) y ys is = absurd (cc)

-- a channel that stands has another number than an open that waits
apart_step : (b : Bool) (n m : ℕ) (l : Lines) → (n == m) ≡ b → find m l.entries ≡ None
    → (e : Entry) → find n l.entries ≡ Some e → b ≡ false
apart_step true n m l is none e at = absurd (let no : None ≡ Some e =
    sym none ∙ (ap (λ k. find k l.entries) (sym (one_number n m is)) ∙ at) in cc)
apart_step false n m l is none e at = refl

pub open_apart : (past : List TraceEntry) (w : World) (n m : ℕ) (ended : Bool) → Kept past w
    → Stands n ended w.channels.lines → StillWaits m w → (n == m) ≡ false
open_apart past w n m ended kept s waits =
    apart_step (n == m) n m w.channels.lines refl
    ((found_waiting 0 m (IsReserved w.channels.lines) w.channels.opens waits.0 kept.waiting
    waits.1).0.0) s.0 s.1

pub sending : (o : Option Entry) → is_one more_may_come o ≡ true
    → (e : Entry) × (o ≡ Some e) × (more_may_come e ≡ true)
sending None is = absurd (cc)
sending (Some e) is = (e, refl, is)
