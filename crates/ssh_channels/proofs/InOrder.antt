-- Replies go out in the order of the requests: on a channel that is there, on one that left, and at
-- every moment before.
use Rattle.std.proofs.Common.{◌≡◌, ◌++◌, ℕ, List, [], map, Some, None, sym, ◌∙◌, ap, subst}
use Rattle.std.proofs.Common.{append_assoc}
use Rattle.std.specs.List.{filter}
use Rattle.std.proofs.lemmas.List.Elements.{filter-append}
use Rattle.ssh_link.specs.Frames.{Frame}
use Rattle.ssh_link.specs.declared.link.TraceEntry.{TraceEntry}
use Rattle.ssh_link.specs.declared.link.TraceEntry.TheVariants.{Sent}
use Rattle.ssh_channels.specs.Entry.{Entry}
use Rattle.ssh_channels.specs.Lines.{Left, Lines, find, last_left}
use Rattle.ssh_channels.specs.Sent.{is_reply, since, since_from, IsUnopened, Ledgered, IsLeft}
use Rattle.ssh_channels.specs.Sent.{IsGone, IsKept, RepliesInOrder, StartsInOrder, farewell}
use Rattle.ssh_channels.proofs.Accounts.{found_before}
use Rattle.ssh_channels.proofs.Listed.{found_number}
use Rattle.ssh_channels.proofs.Moments.{grows}
use Rattle.ssh_channels.proofs.Traces.{since_both}

pub replied_so : (n : ℕ) (l : Lines) (e : Entry) (past : List TraceEntry)
    → find n l.entries ≡ Some e → Ledgered l past →
    RepliesInOrder e (since n (past ++ map Sent l.written))
replied_so n l e past is h =
    subst (λ number. RepliesInOrder e (since number (past ++ map Sent l.written)))
    (found_number n l.entries e is) (found_before n l e past is h).replies

first_of : (e : Entry) (seen more : List Frame) → RepliesInOrder e (seen ++ more) →
    StartsInOrder e seen
first_of e seen more r = (filter is_reply more, sym r ∙ filter-append is_reply seen more)

-- at a moment of the trace after which the number is not opened
pub replied_then : (n : ℕ) (l : Lines) (e : Entry) (seen rest : List TraceEntry)
    → find n l.entries ≡ Some e → IsUnopened n (rest ++ map Sent l.written) →
    Ledgered l (seen ++ rest) → StartsInOrder e (since n seen)
replied_then n l e seen rest is quiet h =
    let later = rest ++ map Sent l.written in
    let more = grows n (since n seen) later quiet in
    let all : since n ((seen ++ rest) ++ map Sent l.written) ≡ since n seen ++ more.0 =
    ap (since n) (append_assoc seen rest (map Sent l.written)) ∙ since_both n [] seen later
    ∙ more.1 in
    first_of e (since n seen) more.0
    (subst (RepliesInOrder e) all (replied_so n l e (seen ++ rest) is h))

-- on a channel that left
pub replied_before : (n : ℕ) (l : Lines) (past : List TraceEntry) (gone : Left) → Ledgered l past →
    find n l.entries ≡ None → last_left n l.left ≡ Some gone →
    (before after : List Frame)
    × (since n (past ++ map Sent l.written) ≡ before ++ (farewell gone.entry ++ after))
    × RepliesInOrder gone.entry before
replied_before n l past gone h none last =
    let frames = since n (past ++ map Sent l.written) in
    let left : IsLeft gone frames = subst (λ o. IsGone o frames) last
    (subst (λ o. IsKept o (last_left n l.left) frames) none (h n)) in
    (left.0, left.1, left.4, left.2.replies)
