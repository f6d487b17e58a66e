-- What was sent on a number holds the first of the bytes that were accepted there (RFC 4254 section
-- 5.2).
use Rattle.std.proofs.Common.{◌≡◌, ◌==◌, ◌&&◌, ◌||◌, ◌∙◌, ℕ, List, [], ◌∷◌, ◌++◌, map, Bool, true}
use Rattle.std.proofs.Common.{false, cond, Option, Some, None, refl, sym, ap, subst, append_assoc}
use Rattle.std.specs.Prelude.{drop, nat_le}
use Rattle.std.specs.List.{filter}
use Rattle.std.proofs.lemmas.List.{append-nil, take-append-drop}
use Rattle.std.proofs.lemmas.List.Elements.{filter-append}
use Rattle.ssh_link.specs.Frames.{Frame}
use Rattle.ssh_link.specs.declared.link.TraceEntry.{TraceEntry}
use Rattle.ssh_link.specs.declared.link.TraceEntry.TheVariants.{Sent}
use Rattle.ssh_channels.specs.declared.chunk.Chunk.{Chunk}
use Rattle.ssh_channels.specs.declared.chunk.DataKind.{DataKind}
use Rattle.ssh_channels.specs.declared.chunk.DataKind.TheVariants.{Plain, Extended}
use Rattle.ssh_channels.specs.Entry.{Entry, accepted, joined}
use Rattle.ssh_channels.specs.Layout.{chunk, close_frame, data_frame}
use Rattle.ssh_channels.specs.Lines.{Left, Lines, find, last_left}
use Rattle.ssh_channels.specs.Sent.{AllRefuse, Before, IsKept, IsLeft, IsUnopened, Ledgered}
use Rattle.ssh_channels.specs.Sent.{ending, farewell, is_flow, message_of, since}
use Rattle.ssh_channels.proofs.Joined.{joined_both}
use Rattle.ssh_channels.proofs.Listed.{found_number, one_number}
use Rattle.ssh_channels.proofs.Moments.{grows}
use Rattle.ssh_channels.proofs.Traces.{since_both}
use Rattle.ssh_run_laws.specs.Accepted.{HoldFirst, is_data}
use Rattle.ssh_run_laws.specs.Channels.{bytes_of, bytes_on}

-- ---- data frames among others

data_number : (a : Bool) (m : ℕ) → (m == 94) ≡ a → (a || (m == 95)) ≡ true
    → (nat_le 94 m && nat_le m 97) ≡ true
data_number true m t h =
    subst (λ k. (nat_le 94 k && nat_le k 97) ≡ true) (sym (one_number m 94 t)) refl
data_number false m t h =
    subst (λ k. (nat_le 94 k && nat_le k 97) ≡ true) (sym (one_number m 95 h)) refl

data_flows : (frame : Frame) → is_data frame ≡ true → is_flow frame ≡ true
data_flows frame h =
    data_number (message_of frame.payload == 94) (message_of frame.payload) refl h

data_step : (flows brings : Bool) (frame : Frame) (frames : List Frame) → is_flow frame ≡ flows
    → is_data frame ≡ brings → filter is_data (filter is_flow frames) ≡ filter is_data frames
    → filter is_data (filter is_flow (frame ∷ frames)) ≡ filter is_data (frame ∷ frames)
data_step true brings frame frames s t h =
    rw s (ap (λ l. cond (is_data frame) (frame ∷ l) l) h)
data_step false true frame frames s t h =
    absurd (let no : true ≡ false = sym (data_flows frame t) ∙ s in cc)
data_step false false frame frames s t h = rw (s, t) h

data_of_flow : (frames : List Frame) → filter is_data (filter is_flow frames)
    ≡ filter is_data frames
data_of_flow [] = refl
data_of_flow (frame ∷ frames) =
    data_step (is_flow frame) (is_data frame) frame frames refl refl (data_of_flow frames)

data_one : (own peer : ℕ) (kind : DataKind) (bytes : List ℕ)
    → is_data (data_frame own peer (chunk kind bytes)) ≡ true
data_one own peer Plain bytes = refl
data_one own peer (Extended code) bytes = refl

ending_none : (told : Bool) (own peer : ℕ) → filter is_data (ending told own peer) ≡ []
ending_none true own peer = refl
ending_none false own peer = refl

pieces_data : (told : Bool) (own peer : ℕ) (pieces : List Chunk)
    → filter is_data (map (data_frame own peer) pieces ++ ending told own peer)
    ≡ map (data_frame own peer) pieces
pieces_data told own peer [] = ending_none told own peer
pieces_data told own peer (piece ∷ pieces) =
    rw (data_one own peer piece.kind piece.bytes)
    (ap (λ l. data_frame own peer piece ∷ l) (pieces_data told own peer pieces))

refusal_no_data : (m : ℕ) → (m == 92) ≡ true → ((m == 94) || (m == 95)) ≡ false
refusal_no_data m t =
    subst (λ k. ((k == 94) || (k == 95)) ≡ false) (sym (one_number m 92 t)) refl

refused_none : (frames : List Frame) → AllRefuse frames → filter is_data frames ≡ []
refused_none [] h = refl
refused_none (frame ∷ frames) h =
    let none : is_data frame ≡ false = refusal_no_data (message_of frame.payload) h.0 in
    rw none (refused_none frames h.1)

farewell_step : (b : Bool) (own peer : ℕ)
    → filter is_data (cond b (close_frame own peer ∷ []) []) ≡ []
farewell_step true own peer = refl
farewell_step false own peer = refl

-- ---- what was sent holds the first bytes

before_holds : (n : ℕ) (e : Entry) (frames : List Frame) → e.number ≡ n → Before e frames
    → HoldFirst n (accepted e) frames
before_holds n e frames is b = (
  e.peer,
  b.sends.pieces,
  drop e.framed (accepted e),
  subst (λ m. filter is_data frames ≡ map (data_frame m e.peer) b.sends.pieces) is
      (sym (data_of_flow frames) ∙ ap (filter is_data) b.sends.flow
      ∙ pieces_data e.told e.number e.peer b.sends.pieces),
  ap (λ l. l ++ drop e.framed (accepted e)) b.sends.sum
      ∙ take-append-drop e.framed (accepted e),
)

same_holds : (n : ℕ) (bytes : List (DataKind × ℕ)) (frames others : List Frame)
    → filter is_data others ≡ filter is_data frames → HoldFirst n bytes frames
    → HoldFirst n bytes others
same_holds n bytes frames others is h = (h.0, h.1, h.2, is ∙ h.3, h.4)

left_holds : (n : ℕ) (gone : Left) (frames : List Frame) → gone.entry.number ≡ n
    → IsLeft gone frames → HoldFirst n (accepted gone.entry) frames
left_holds n gone frames is h =
    let e = gone.entry in
    let none : filter is_data (farewell e ++ h.1) ≡ [] =
    filter-append is_data (farewell e) h.1
    ∙ ap (λ l. l ++ filter is_data h.1) (farewell_step e.confirmed e.number e.peer)
    ∙ refused_none h.1 h.3 in
    same_holds n (accepted e) h.0 frames
    (ap (filter is_data) h.4 ∙ filter-append is_data h.0 (farewell e ++ h.1)
    ∙ ap (λ l. filter is_data h.0 ++ l) none ∙ append-nil (filter is_data h.0))
    (before_holds n e h.0 is h.2)

kept_holds : (n : ℕ) (o : Option Entry) (last : Option Left) (frames : List Frame)
    → ((e : Entry) → o ≡ Some e → e.number ≡ n)
    → ((gone : Left) → last ≡ Some gone → gone.entry.number ≡ n) → IsKept o last frames
    → HoldFirst n (bytes_of o last) frames
kept_holds n (Some e) last frames at left h = before_holds n e frames (at e refl) h
kept_holds n None (Some gone) frames at left h = left_holds n gone frames (left gone refl) h
kept_holds n None None frames at left h = (0, [], [], refused_none frames h, refl)

last_step : (b : Bool) (n : ℕ) (l : Left) (ls : List Left) (gone : Left) → (n == l.entry.number) ≡ b
    → (last_left n ls ≡ Some gone → gone.entry.number ≡ n)
    → cond b (Some l) (last_left n ls) ≡ Some gone → gone.entry.number ≡ n
last_step true n l ls gone t h is =
    let same : l ≡ gone = cc in
    subst (λ (x : Left). x.entry.number ≡ n) same (sym (one_number n l.entry.number t))
last_step false n l ls gone t h is = h is

last_number : (n : ℕ) (ls : List Left) (gone : Left) → last_left n ls ≡ Some gone
    → gone.entry.number ≡ n
last_number n [] gone is = absurd (cc)
last_number n (l ∷ ls) gone is =
    last_step (n == l.entry.number) n l ls gone refl (last_number n ls gone) is

pub ledger_holds : (n : ℕ) (l : Lines) (past : List TraceEntry) → Ledgered l past
    → HoldFirst n (bytes_on n l) (since n (past ++ map Sent l.written))
ledger_holds n l past h =
    kept_holds n (find n l.entries) (last_left n l.left) (since n (past ++ map Sent l.written))
    (λ e is. found_number n l.entries e is) (λ gone is. last_number n l.left gone is) (h n)

-- ---- at an earlier moment

-- the first of these frames are of the first of these pieces
front_pieces : (own peer : ℕ) (xs ys : List Frame) (pieces : List Chunk)
    → xs ++ ys ≡ map (data_frame own peer) pieces
    → (first : List Chunk) × (rest : List Chunk) × (pieces ≡ first ++ rest)
    × (xs ≡ map (data_frame own peer) first)
front_pieces own peer [] ys pieces h = ([], pieces, refl, refl)
front_pieces own peer (x ∷ xs) ys [] h = absurd (cc)
front_pieces own peer (x ∷ xs) ys (piece ∷ pieces) h =
    let here : x ≡ data_frame own peer piece = cc in
    let later : xs ++ ys ≡ map (data_frame own peer) pieces = cc in
    let front = front_pieces own peer xs ys pieces later in (
      piece ∷ front.0,
      front.1,
      ap (λ l. piece ∷ l) front.2,
      ap (λ y. y ∷ xs) here ∙ ap (λ l. data_frame own peer piece ∷ l) front.3,
    )

front_holds : (n : ℕ) (bytes : List (DataKind × ℕ)) (front back : List Frame)
    → HoldFirst n bytes (front ++ back) → HoldFirst n bytes front
front_holds n bytes front back h =
    let some = front_pieces n h.0 (filter is_data front) (filter is_data back) h.1
    (sym (filter-append is_data front back) ∙ h.3) in (
      h.0,
      some.0,
      joined some.1 ++ h.2,
      some.3,
      sym (append_assoc (joined some.0) (joined some.1) h.2)
          ∙ ap (λ l. l ++ h.2) (sym (joined_both some.0 some.1) ∙ ap joined (sym some.2)) ∙ h.4,
    )

pub moment_holds : (n : ℕ) (l : Lines) (seen rest : List TraceEntry)
    → IsUnopened n (rest ++ map Sent l.written) → Ledgered l (seen ++ rest)
    → HoldFirst n (bytes_on n l) (since n seen)
moment_holds n l seen rest quiet h =
    let g = grows n (since n seen) (rest ++ map Sent l.written) quiet in
    let all : since n ((seen ++ rest) ++ map Sent l.written) ≡ since n seen ++ g.0 =
    ap (since n) (append_assoc seen rest (map Sent l.written))
    ∙ since_both n [] seen (rest ++ map Sent l.written) ∙ g.1 in
    front_holds n (bytes_on n l) (since n seen) g.0
    (subst (HoldFirst n (bytes_on n l)) all (ledger_holds n l (seen ++ rest) h))
