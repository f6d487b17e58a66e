-- What each call of the table does to the channel of a number: the bytes that it accepted, and
-- whether it stands (RFC 4254 section 5).
use Rattle.std.proofs.Common.{◌≡◌, ◌==◌, ◌&&◌, ◌||◌, ℕ, List, [], ◌∷◌, ◌++◌, Bool, true, false, not}
use Rattle.std.proofs.Common.{cond, Option, Some, None, refl, sym, ◌∙◌, ap, subst, arith}
use Rattle.std.specs.Prelude.{length}
use Rattle.std.proofs.lemmas.List.{append-nil}
use Rattle.ssh_link.specs.Frames.{Frame}
use Rattle.ssh_channels.specs.declared.adjusted.Adjusted.{Adjusted}
use Rattle.ssh_channels.specs.declared.adjusted.Adjusted.TheVariants.{Dropped, Kept, Granted}
use Rattle.ssh_channels.specs.declared.chunk.Chunk.{Chunk}
use Rattle.ssh_channels.specs.declared.chunk.DataKind.{DataKind}
use Rattle.ssh_channels.specs.Entry.{Entry, accepted, accepting, after_eof, agreed, all_framed}
use Rattle.ssh_channels.specs.Entry.{close_may_come, closes_now, eof_out, flush_out, flushed}
use Rattle.ssh_channels.specs.Entry.{granting, more_may_come, reply_may_come, replying}
use Rattle.ssh_channels.specs.Entry.{replies_out, requesting, tagged}
use Rattle.ssh_channels.specs.Layout.{chunk, close_frame}
use Rattle.ssh_channels.specs.Lines.{Left, Lines, added, aims, all_go_on, closes, confirms}
use Rattle.ssh_channels.specs.Lines.{each_goes_on, fails, find, goes_on, last_left, leaves, numbers}
use Rattle.ssh_channels.specs.Lines.{peer_closes, put, settles, takes_close, takes_data, takes_eof}
use Rattle.ssh_channels.specs.Lines.{takes_grant, takes_in, takes_reply, takes_request, turns}
use Rattle.ssh_channels.specs.Lines.{where_found, without}
use Rattle.ssh_channels.specs.Room.{adjust_out, coming, having}
use Rattle.ssh_channels.proofs.Joined.{joined_both}
use Rattle.ssh_channels.proofs.Listed.{find_again, find_beside, find_new, find_other, find_without}
use Rattle.ssh_channels.proofs.Listed.{found_number, found_put, one_number, without_other}
use Rattle.ssh_run_laws.specs.Channels.{Stands, StandsSo, bytes_of, bytes_on}

-- the channel of the number has accepted the same, and stands as it stood, unless this touched it
pub record Keeps (n : ℕ) (touched : Bool) (l m : Lines) : Type 0 where
  pub bytes : bytes_on n m ≡ bytes_on n l
  pub stands : touched ≡ false → (ended : Bool) → Stands n ended l → Stands n ended m

-- where the one stood, the other does
abbrev IsAlike : Entry → Entry → Type 0
IsAlike e f = (f.confirmed ≡ true → e.confirmed ≡ true) × (e.close ≡ f.close) × (e.eof ≡ f.eof)

stands_alike : (ended : Bool) (e f : Entry) → IsAlike e f → StandsSo ended f → StandsSo ended e
stands_alike ended e f alike s = (alike.0 s.0, alike.1 ∙ s.1, alike.2 ∙ s.2)

some_once : (o : Option Entry) (e f : Entry) → o ≡ Some e → o ≡ Some f → e ≡ f
some_once o e f h k = let same : Some e ≡ Some f = sym h ∙ k in cc

found_here : (n : ℕ) (e f : Entry) (entries : List Entry) → (n == e.number) ≡ true
    → find e.number entries ≡ Some f → find n (put e entries) ≡ Some e
found_here n e f entries t at =
    ap (λ m. find m (put e entries)) (one_number n e.number t) ∙ found_put e entries f at

was_here : (n : ℕ) (e f : Entry) (entries : List Entry) → (n == e.number) ≡ true
    → find e.number entries ≡ Some f → find n entries ≡ Some f
was_here n e f entries t at = ap (λ m. find m entries) (one_number n e.number t) ∙ at

-- ---- a channel turns, or leaves

turned_bytes : (b : Bool) (n : ℕ) (e f : Entry) (frames : List Frame) (l : Lines)
    → (n == e.number) ≡ b → find e.number l.entries ≡ Some f
    → bytes_on n (turns e frames l) ≡ cond b (accepted e) (bytes_on n l)
turned_bytes true n e f frames l t at =
    ap (λ o. bytes_of o (last_left n l.left)) (found_here n e f l.entries t at)
turned_bytes false n e f frames l t at =
    ap (λ o. bytes_of o (last_left n l.left)) (find_other n e l.entries t)

turned_stands : (b : Bool) (n : ℕ) (e f : Entry) (frames : List Frame) (l : Lines)
    → (n == e.number) ≡ b → find e.number l.entries ≡ Some f → (b ≡ true → IsAlike e f)
    → (ended : Bool) → Stands n ended l → Stands n ended (turns e frames l)
turned_stands true n e f frames l t at alike ended s =
    let same : s.0 ≡ f = some_once (find n l.entries) s.0 f s.1 (was_here n e f l.entries t at) in (
      e,
      found_here n e f l.entries t at,
      stands_alike ended e f (alike refl) (subst (StandsSo ended) same s.2),
    )
turned_stands false n e f frames l t at alike ended s =
    (s.0, find_other n e l.entries t ∙ s.1, s.2)

-- the bytes that were accepted on the number of a channel that is there
bytes_here : (b : Bool) (n : ℕ) (e f : Entry) (l : Lines) → (n == e.number) ≡ b
    → find e.number l.entries ≡ Some f → accepted e ≡ accepted f
    → cond b (accepted e) (bytes_on n l) ≡ bytes_on n l
bytes_here true n e f l t at same =
    same ∙ sym (ap (λ o. bytes_of o (last_left n l.left)) (was_here n e f l.entries t at))
bytes_here false n e f l t at same = refl

gone_here : (b : Bool) (n : ℕ) (e f : Entry) (by_peer : Bool) (frames : List Frame) (l : Lines)
    → (n == e.number) ≡ b → find e.number l.entries ≡ Some f → accepted e ≡ accepted f
    → bytes_on n (leaves e by_peer frames l) ≡ bytes_on n l
gone_here true n e f by_peer frames l t at same =
    let gone : Left = record { entry = e; by_peer = by_peer } in
    let none : find n (without e.number l.entries) ≡ None =
    ap (λ m. find n (without m l.entries)) (sym (one_number n e.number t))
    ∙ find_without n l.entries in
    let last : last_left n (gone ∷ l.left) ≡ Some gone = rw t refl in
    ap (λ o. bytes_of o (last_left n (gone ∷ l.left))) none ∙ ap (λ o. bytes_of None o) last
    ∙ bytes_here true n e f l t at same
gone_here false n e f by_peer frames l t at same =
    let gone : Left = record { entry = e; by_peer = by_peer } in
    let last : last_left n (gone ∷ l.left) ≡ last_left n l.left = rw t refl in
    ap (λ o. bytes_of o (last_left n (gone ∷ l.left))) (without_other e.number n l.entries t)
    ∙ ap (λ o. bytes_of (find n l.entries) o) last

gone_stands : (b : Bool) (n : ℕ) (e f : Entry) (by_peer : Bool) (frames : List Frame) (l : Lines)
    → (n == e.number) ≡ b → find e.number l.entries ≡ Some f
    → (ended : Bool) → (b ≡ true → StandsSo ended f → ⊥) → Stands n ended l
    → Stands n ended (leaves e by_peer frames l)
gone_stands true n e f by_peer frames l t at ended none s =
    let same : s.0 ≡ f = some_once (find n l.entries) s.0 f s.1 (was_here n e f l.entries t at) in
    absurd (none refl (subst (StandsSo ended) same s.2))
gone_stands false n e f by_peer frames l t at ended none s =
    (s.0, without_other e.number n l.entries t ∙ s.1, s.2)

first_so : (a b : Bool) → (a && b) ≡ true → a ≡ true
first_so true b h = refl
first_so false b h = absurd (cc)

closed_not : (e f : Entry) (ended : Bool) → e.close ≡ true → e.close ≡ f.close
    → StandsSo ended f → ⊥
closed_not e f ended close same s =
    absurd (let no : true ≡ false = sym close ∙ same ∙ s.1 in cc)

-- ---- the calls of the table

module _ (n : ℕ) (touched : Bool)
  where
    pub same_keeps : (l : Lines) → Keeps n touched l l
    same_keeps l = record { bytes = refl; stands = λ free ended s. s }

    pub keeps_both : (l m k : Lines) → Keeps n touched l m → Keeps n touched m k
        → Keeps n touched l k
    keeps_both l m k h j = record {
      bytes = j.bytes ∙ h.bytes;
      stands = λ free ended s. j.stands free ended (h.stands free ended s);
    }

    turned : (e f : Entry) (frames : List Frame) (l : Lines) → find e.number l.entries ≡ Some f
        → accepted e ≡ accepted f
        → (touched ≡ false → (n == e.number) ≡ true → IsAlike e f)
        → Keeps n touched l (turns e frames l)
    turned e f frames l at same alike = record {
      bytes = turned_bytes (n == e.number) n e f frames l refl at
          ∙ bytes_here (n == e.number) n e f l refl at same;
      stands = λ free ended s. turned_stands (n == e.number) n e f frames l refl at (alike free)
          ended s;
    }

    left : (e f : Entry) (by_peer : Bool) (frames : List Frame) (l : Lines)
        → find e.number l.entries ≡ Some f → accepted e ≡ accepted f
        → (touched ≡ false → (n == e.number) ≡ true → (ended : Bool) → StandsSo ended f → ⊥)
        → Keeps n touched l (leaves e by_peer frames l)
    left e f by_peer frames l at same none = record {
      bytes = gone_here (n == e.number) n e f by_peer frames l refl at same;
      stands = λ free ended s. gone_stands (n == e.number) n e f by_peer frames l refl at ended
          (λ t k. none free t ended k) s;
    }

    settled_step : (b : Bool) (e f : Entry) (frames : List Frame) (l : Lines) → closes_now e ≡ b
        → find e.number l.entries ≡ Some f → accepted e ≡ accepted f
        → (touched ≡ false → (n == e.number) ≡ true → IsAlike e f)
        → Keeps n touched l (cond b (closes (after_eof e) false frames l)
        (turns (after_eof e) frames l))
    settled_step true e f frames l is at same alike =
        left (after_eof e) f false (frames ++ close_frame e.number e.peer ∷ []) l at same
        (λ free t ended s. closed_not e f ended (first_so e.close (all_framed e) is)
        (alike free t).1 s)
    settled_step false e f frames l is at same alike =
        turned (after_eof e) f frames l at same alike

    settled : (e f : Entry) (frames : List Frame) (l : Lines) → find e.number l.entries ≡ Some f
        → accepted e ≡ accepted f
        → (touched ≡ false → (n == e.number) ≡ true → IsAlike e f)
        → Keeps n touched l (settles e frames l)
    settled e f frames l at same alike =
        settled_step (closes_now e) e f (frames ++ eof_out e) l refl at same alike

    chosen : (b : Bool) (l m k : Lines) → Keeps n touched l m → Keeps n touched l k
        → Keeps n touched l (cond b m k)
    chosen true l m k h j = h
    chosen false l m k h j = j

    found : (o : Option Entry) (m : ℕ) (change : Entry → Lines → Lines) (l : Lines)
        → find m l.entries ≡ o
        → ((e : Entry) → find e.number l.entries ≡ Some e → e.number ≡ m
        → Keeps n touched l (change e l))
        → Keeps n touched l (where_found o change l)
    found None m change l is c = same_keeps l
    found (Some e) m change l is c =
        c e (find_again m l.entries e is) (found_number m l.entries e is)

    -- those that touch no channel so
    pub grant_keeps : (m amount : ℕ) (l : Lines) → Keeps n touched l (takes_grant m amount l)
    grant_keeps m amount l = found (find m l.entries) m _ l refl
        (λ e is at. chosen e.confirmed l _ _
        (settled (flushed (granting amount (flushed e))) e
        (flush_out e ++ flush_out (granting amount (flushed e))) l is refl
        (λ free t. (λ h. h, refl, refl))) (same_keeps l))

    goes_on_keeps : (m : ℕ) (l : Lines) → Keeps n touched l (goes_on m l)
    goes_on_keeps m l = found (find m l.entries) m _ l refl
        (λ e is at. settled (flushed e) e (flush_out e) l is refl
        (λ free t. (λ h. h, refl, refl)))

    each_keeps : (ms : List ℕ) (l : Lines) → Keeps n touched l (each_goes_on ms l)
    each_keeps [] l = same_keeps l
    each_keeps (m ∷ ms) l =
        keeps_both l (goes_on m l) (each_goes_on ms (goes_on m l)) (goes_on_keeps m l)
        (each_keeps ms (goes_on m l))

    pub all_keep : (l : Lines) → Keeps n touched l (all_go_on l)
    all_keep l = each_keeps (numbers l.entries) l

    came_keeps : (came : Adjusted) (count target : ℕ) (e : Entry) (frames : List Frame)
        (l : Lines) → find e.number l.entries ≡ Some e
        → Keeps n touched l (turns (having came count target e) frames l)
    came_keeps Dropped count target e frames l is =
        turned e e frames l is refl (λ free t. (λ h. h, refl, refl))
    came_keeps Kept count target e frames l is =
        turned (having Kept count target e) e frames l is refl (λ free t. (λ h. h, refl, refl))
    came_keeps (Granted amount) count target e frames l is =
        turned (having (Granted amount) count target e) e frames l is refl
        (λ free t. (λ h. h, refl, refl))

    pub in_keeps : (m count target : ℕ) (l : Lines) → Keeps n touched l (takes_in m count target l)
    in_keeps m count target l = found (find m l.entries) m _ l refl
        (λ e is at. came_keeps (coming count target e) count target e
        (adjust_out (coming count target e) e) l is)

    pub aims_keep : (m target : ℕ) (l : Lines) → Keeps n touched l (aims m target l)
    aims_keep m target l = found (find m l.entries) m _ l refl
        (λ e is at. turned (record e { target = target }) e [] l is refl
        (λ free t. (λ h. h, refl, refl)))

    pub request_keeps : (m : ℕ) (l : Lines) → Keeps n touched l (takes_request m l)
    request_keeps m l = found (find m l.entries) m _ l refl
        (λ e is at. chosen e.confirmed l _ _
        (turned (requesting e) e [] l is refl (λ free t. (λ h. h, refl, refl))) (same_keeps l))

    pub reply_keeps : (m : ℕ) (place : Option ℕ) (success : Bool) (l : Lines)
        → Keeps n touched l (takes_reply m place success l)
    reply_keeps m place success l = found (find m l.entries) m _ l refl
        (λ e is at. chosen (reply_may_come place e) l _ _
        (turned (replying place success e) e (replies_out place success e) l is refl
        (λ free t. (λ h. h, refl, refl))) (same_keeps l))

    pub confirmed_keeps : (m peer window limit : ℕ) (l : Lines)
        → Keeps n touched l (confirms m peer window limit l)
    confirmed_keeps m peer window limit l = found (find m l.entries) m _ l refl
        (λ e is at. chosen (not e.confirmed) l _ _
        (turned (agreed peer window limit e) e [] l is refl
        (λ free t. (λ h. refl, refl, refl))) (same_keeps l))

    -- a channel to which the peer never agreed did not stand
    failed_step : (b : Bool) (e : Entry) (l : Lines) → e.confirmed ≡ b
        → find e.number l.entries ≡ Some e
        → Keeps n touched l (cond (not b) (leaves e true [] l) l)
    failed_step true e l t is = same_keeps l
    failed_step false e l t is = left e e true [] l is refl
        (λ free k ended s. absurd (let no : false ≡ true = sym t ∙ s.0 in cc))

    pub failed_keeps : (m : ℕ) (l : Lines) → Keeps n touched l (fails m l)
    failed_keeps m l = found (find m l.entries) m _ l refl
        (λ e is at. failed_step e.confirmed e l refl is)

-- ---- those that end it

apart : (n m k : ℕ) → k ≡ m → (n == m) ≡ false → (n == k) ≡ true → ⊥
apart n m k same free t =
    absurd (let no : true ≡ false = sym t ∙ ap (λ i. n == i) same ∙ free in cc)

pub eof_keeps : (n m : ℕ) (l : Lines) → Keeps n (n == m) l (takes_eof m l)
eof_keeps n m l = found n (n == m) (find m l.entries) m _ l refl
    (λ e is at. chosen n (n == m) (more_may_come e) l _ _
    (settled n (n == m) (record e { eof = true }) e [] l is refl
    (λ free t. absurd (apart n m e.number at free t))) (same_keeps n (n == m) l))

pub close_keeps : (n m : ℕ) (l : Lines) → Keeps n (n == m) l (takes_close m l)
close_keeps n m l = found n (n == m) (find m l.entries) m _ l refl
    (λ e is at. chosen n (n == m) (close_may_come e) l _ _
    (settled n (n == m) (record e { close = true }) e [] l is refl
    (λ free t. absurd (apart n m e.number at free t))) (same_keeps n (n == m) l))

pub peer_close_keeps : (n m : ℕ) (l : Lines) → Keeps n (n == m) l (peer_closes m l)
peer_close_keeps n m l = found n (n == m) (find m l.entries) m _ l refl
    (λ e is at. chosen n (n == m) e.confirmed l _ _
    (left n (n == m) e e true (close_frame e.number e.peer ∷ []) l is refl
    (λ free t ended s. apart n m e.number at free t)) (same_keeps n (n == m) l))

-- ---- data

accepting_step : (b : Bool) (kind : DataKind) (byte : ℕ) (bytes : List ℕ) (e : Entry)
    → (length (byte ∷ bytes) == 0) ≡ b
    → accepted (accepting (chunk kind (byte ∷ bytes)) e)
    ≡ accepted e ++ tagged (chunk kind (byte ∷ bytes))
accepting_step true kind byte bytes e t =
    let none = one_number (length (byte ∷ bytes)) 0 t in absurd (omega (arith, none))
accepting_step false kind byte bytes e t =
    rw t (joined_both e.chunks (chunk kind (byte ∷ bytes) ∷ [])
    ∙ ap (λ more. accepted e ++ more) (append-nil (tagged (chunk kind (byte ∷ bytes)))))

pub accepting_more : (kind : DataKind) (bytes : List ℕ) (e : Entry)
    → accepted (accepting (chunk kind bytes) e) ≡ accepted e ++ tagged (chunk kind bytes)
accepting_more kind [] e = sym (append-nil (accepted e))
accepting_more kind (byte ∷ bytes) e =
    accepting_step (length (byte ∷ bytes) == 0) kind byte bytes e refl

data_turned : (b : Bool) (n m : ℕ) (e f : Entry) (more : List (DataKind × ℕ))
    (frames : List Frame) (l : Lines) → (n == m) ≡ b → e.number ≡ m
    → find e.number l.entries ≡ Some f → accepted e ≡ accepted f ++ more
    → bytes_on n (turns e frames l) ≡ cond b (bytes_on n l ++ more) (bytes_on n l)
data_turned true n m e f more frames l t number at grew =
    let here : (n == e.number) ≡ true = ap (λ i. n == i) number ∙ t in
    turned_bytes true n e f frames l here at ∙ grew
    ∙ sym (ap (λ o. bytes_of o (last_left n l.left) ++ more) (was_here n e f l.entries here at))
data_turned false n m e f more frames l t number at grew =
    turned_bytes false n e f frames l (ap (λ i. n == i) number ∙ t) at

-- data that may come
data_step : (may waits : Bool) (n m : ℕ) (kind : DataKind) (bytes : List ℕ) (e : Entry)
    (l : Lines) → may ≡ true → e.number ≡ m → find e.number l.entries ≡ Some e
    → bytes_on n (cond may (cond waits (turns (accepting (chunk kind bytes) e) [] l)
    (turns (flushed (accepting (chunk kind bytes) e)) (flush_out (accepting (chunk kind bytes) e))
    l)) l) ≡ cond (n == m) (bytes_on n l ++ tagged (chunk kind bytes)) (bytes_on n l)
data_step true true n m kind bytes e l may number at =
    data_turned (n == m) n m (accepting (chunk kind bytes) e) e (tagged (chunk kind bytes)) [] l
    refl number at (accepting_more kind bytes e)
data_step true false n m kind bytes e l may number at =
    let f = accepting (chunk kind bytes) e in
    data_turned (n == m) n m (flushed f) e (tagged (chunk kind bytes)) (flush_out f) l
    refl number at (accepting_more kind bytes e)
data_step false waits n m kind bytes e l may number at = absurd (cc)

pub data_bytes : (n m : ℕ) (kind : DataKind) (bytes : List ℕ) (rekeying : Bool) (e : Entry)
    (l : Lines) → find m l.entries ≡ Some e → more_may_come e ≡ true
    → bytes_on n (takes_data m (chunk kind bytes) rekeying l)
    ≡ cond (n == m) (bytes_on n l ++ tagged (chunk kind bytes)) (bytes_on n l)
data_bytes n m kind bytes rekeying e l is may =
    rw is (data_step (more_may_come e) (rekeying || not (all_framed e)) n m kind bytes e l may
    (found_number m l.entries e is) (find_again m l.entries e is))

either_stands : (b : Bool) (n : ℕ) (ended : Bool) (l m : Lines) → Stands n ended l
    → Stands n ended m → Stands n ended (cond b l m)
either_stands true n ended l m h k = h
either_stands false n ended l m h k = k

data_found : (o : Option Entry) (n m : ℕ) (piece : Chunk) (rekeying : Bool) (l : Lines)
    → find m l.entries ≡ o → (ended : Bool) → Stands n ended l
    → Stands n ended (where_found o (λ e l. cond (more_may_come e)
    (cond (rekeying || not (all_framed e)) (turns (accepting piece e) [] l)
    (turns (flushed (accepting piece e)) (flush_out (accepting piece e)) l)) l) l)
data_found None n m piece rekeying l is ended s = s
data_found (Some e) n m piece rekeying l is ended s =
    let at = find_again m l.entries e is in
    either_stands (more_may_come e) n ended _ _
    (either_stands (rekeying || not (all_framed e)) n ended _ _
    (turned_stands (n == e.number) n (accepting piece e) e [] l refl at
    (λ t. (λ h. h, refl, refl)) ended s)
    (turned_stands (n == e.number) n (flushed (accepting piece e)) e
    (flush_out (accepting piece e)) l refl at (λ t. (λ h. h, refl, refl)) ended s)) s

pub data_stands : (n m : ℕ) (piece : Chunk) (rekeying : Bool) (l : Lines) (ended : Bool)
    → Stands n ended l → Stands n ended (takes_data m piece rekeying l)
data_stands n m piece rekeying l ended s =
    data_found (find m l.entries) n m piece rekeying l refl ended s

-- ---- a new channel

pub new_bytes : (b : Bool) (n : ℕ) (e : Entry) (entries : List Entry) (gone : List Left)
    → (n == e.number) ≡ b → find e.number entries ≡ None → accepted e ≡ []
    → bytes_of (find n (added e entries)) (last_left n gone)
    ≡ cond b [] (bytes_of (find n entries) (last_left n gone))
new_bytes true n e entries gone t free none =
    let here : find n (added e entries) ≡ Some e =
    ap (λ m. find m (added e entries)) (one_number n e.number t) ∙ find_new e entries free in
    ap (λ o. bytes_of o (last_left n gone)) here ∙ none
new_bytes false n e entries gone t free none =
    ap (λ o. bytes_of o (last_left n gone)) (find_beside n e entries t)

none_or_some : (o : Option Entry) (e : Entry) → o ≡ None → o ≡ Some e → ⊥
none_or_some o e h k = absurd (let no : None ≡ Some e = sym h ∙ k in cc)

pub new_stands : (b : Bool) (n : ℕ) (e : Entry) (l m : Lines) → (n == e.number) ≡ b
    → find e.number l.entries ≡ None → m.entries ≡ added e l.entries → (ended : Bool)
    → Stands n ended l → Stands n ended m
new_stands true n e l m t free is ended s =
    absurd (none_or_some (find n l.entries) s.0
    (ap (λ i. find i l.entries) (one_number n e.number t) ∙ free) s.1)
new_stands false n e l m t free is ended s =
    (s.0, ap (find n) is ∙ find_beside n e l.entries t ∙ s.1, s.2)

-- .. and the channel that stands has accepted the same
pub new_still : (b : Bool) (n : ℕ) (e : Entry) (l m : Lines) → (n == e.number) ≡ b
    → find e.number l.entries ≡ None → accepted e ≡ [] → m.entries ≡ added e l.entries
    → m.left ≡ l.left → (ended : Bool) → Stands n ended l → bytes_on n m ≡ bytes_on n l
new_still true n e l m t free none is same ended s =
    absurd (none_or_some (find n l.entries) s.0
    (ap (λ i. find i l.entries) (one_number n e.number t) ∙ free) s.1)
new_still false n e l m t free none is same ended s =
    ap (λ es. bytes_of (find n es) (last_left n m.left)) is
    ∙ ap (λ gone. bytes_of (find n (added e l.entries)) (last_left n gone)) same
    ∙ new_bytes false n e l.entries l.left t free none
