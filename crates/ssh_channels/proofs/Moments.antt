-- At every moment what was sent on a channel is the start of what is sent there in the end.
use Rattle.std.proofs.Common.{◌≡◌, ◌==◌, ◌&&◌, ℕ, Bool, true, false, cond, Some, List, [], ◌∷◌}
use Rattle.std.proofs.Common.{◌++◌, map, take, refl}
use Rattle.std.proofs.Common.{sym}
use Rattle.std.proofs.Common.{◌∙◌, ap, subst, append_assoc}
use Rattle.std.specs.List.{filter}
use Rattle.std.proofs.lemmas.List.{append-nil}
use Rattle.std.proofs.lemmas.List.Elements.{filter-append}
use Rattle.ssh_link.specs.Frames.{Frame}
use Rattle.ssh_link.specs.declared.link.TraceEntry.{TraceEntry}
use Rattle.ssh_link.specs.declared.link.TraceEntry.TheVariants.{Took, Sent, Noticed, Answered}
use Rattle.ssh_channels.specs.declared.chunk.Chunk.{Chunk}
use Rattle.ssh_channels.specs.declared.chunk.DataKind.{DataKind}
use Rattle.ssh_channels.specs.Layout.{data_frame, eof_frame}
use Rattle.ssh_channels.specs.Entry.{Entry, accepted, joined}
use Rattle.ssh_channels.specs.Lines.{Lines, find}
use Rattle.ssh_channels.specs.Sent.{is_tagged, is_opening, is_flow, after_frame, since, since_from}
use Rattle.ssh_channels.specs.Sent.{AllFit, ending}
use Rattle.ssh_channels.specs.Sent.{Sends}
use Rattle.ssh_channels.specs.Sent.{Before, Ledgered, IsUnopened, StartsWith}
use Rattle.ssh_channels.proofs.Accounts.{found_before}
use Rattle.ssh_channels.proofs.Joined.{joined_both}
use Rattle.ssh_channels.proofs.Listed.{found_number}
use Rattle.ssh_channels.proofs.Traces.{since_both}

-- without an opening the frames of a number only grow
grows_by : (a b : Bool) (fs : List Frame) (f : Frame) → (a && b) ≡ false →
    (more : List Frame) × (cond a (cond b [] (fs ++ f ∷ [])) fs ≡ fs ++ more)
grows_by true true fs f h = absurd (cc)
grows_by true false fs f h = (f ∷ [], refl)
grows_by false b fs f h = ([], sym (append-nil fs))

pub grows : (n : ℕ) (fs : List Frame) (xs : List TraceEntry) → IsUnopened n xs →
    (more : List Frame) × (since_from n fs xs ≡ fs ++ more)
grows n fs [] h = ([], sym (append-nil fs))
grows n fs (Sent f ∷ xs) h =
    let one = grows_by (is_tagged n f.channel) (is_opening f.payload) fs f h.0 in
    let rest = grows n (after_frame n fs f) xs h.1 in
    (one.0 ++ rest.0, rest.1 ∙ ap (λ l. l ++ rest.0) one.1 ∙ append_assoc fs one.0 rest.0)
grows n fs (Took commands replies input ∷ xs) h = grows n fs xs h
grows n fs (Noticed notice ∷ xs) h = grows n fs xs h
grows n fs (Answered ticket outcome ∷ xs) h = grows n fs xs h

-- the start of a flow
none_left : (xs ys : List Frame) → xs ++ ys ≡ [] → xs ≡ []
none_left [] ys h = refl
none_left (x ∷ xs) ys h = absurd (cc)

end_starts : (told : Bool) (own peer : ℕ) (x : Frame) (xs ys : List Frame) → x ∷ (xs ++ ys)
    ≡ ending told own peer →
    x ∷ xs ≡ ending true own peer
end_starts true own peer x xs ys h =
    let a : x ≡ eof_frame own peer = cc in
    let b : xs ++ ys ≡ [] = cc in
    ap (λ y. y ∷ xs) a ∙ ap (λ l. eof_frame own peer ∷ l) (none_left xs ys b)
end_starts false own peer x xs ys h = absurd (cc)

-- these frames are the first of the pieces, and perhaps an EOF behind them
abbrev Starts : (own peer : ℕ) → List Frame → List Chunk → Type 0
Starts own peer xs ps = (first rest : List Chunk) × (soon : Bool) × (ps ≡ first ++ rest)
    × (xs ≡ map (data_frame own peer) first ++ ending soon own peer)

longer : (own peer : ℕ) (x : Frame) (xs : List Frame) (p : Chunk) (ps : List Chunk) → x
    ≡ data_frame own peer p →
    Starts own peer xs ps → Starts own peer (x ∷ xs) (p ∷ ps)
longer own peer x xs p ps a (first, rest, soon, b, c) = (
  p ∷ first,
  rest,
  soon,
  ap (λ l. p ∷ l) b,
  ap (λ y. y ∷ xs) a ∙ ap (λ l. data_frame own peer p ∷ l) c,
)

starts : (told : Bool) (own peer : ℕ) (xs ys : List Frame) (ps : List Chunk) →
    xs ++ ys ≡ map (data_frame own peer) ps ++ ending told own peer → Starts own peer xs ps
starts told own peer [] ys ps h = ([], ps, false, refl, refl)
starts told own peer (x ∷ xs) ys [] h = ([], [], true, refl, end_starts told own peer x xs ys h)
starts told own peer (x ∷ xs) ys (p ∷ ps) h =
    let a : x ≡ data_frame own peer p = cc in
    let b : xs ++ ys ≡ map (data_frame own peer) ps ++ ending told own peer = cc in
    longer own peer x xs p ps a (starts told own peer xs ys ps b)

first_fit : (limit : ℕ) (ps qs : List Chunk) → AllFit limit (ps ++ qs) → AllFit limit ps
first_fit limit [] qs h = tt
first_fit limit (p ∷ ps) qs h = (h.0, h.1, h.2, first_fit limit ps qs h.3)

started : (e : Entry) (bytes : List (DataKind × ℕ)) (seen : List Frame) (ps : List Chunk)
    → AllFit e.limit ps →
    joined ps ≡ bytes → Starts e.number e.peer (filter is_flow seen) ps → StartsWith e bytes seen
started e bytes seen ps fit sum (first, rest, soon, b, c) = (
  soon,
  joined first,
  joined rest,
  record {
    pieces = first;
    flow = c;
    fit = first_fit e.limit first rest (subst (AllFit e.limit) b fit);
    sum = refl;
  },
  sym (joined_both first rest) ∙ ap joined (sym b) ∙ sum,
)

start_sends : (e : Entry) (bytes : List (DataKind × ℕ)) (seen more : List Frame)
    → Sends e bytes (seen ++ more) →
    StartsWith e bytes seen
start_sends e bytes seen more s =
    started e bytes seen s.pieces s.fit s.sum
    (starts e.told e.number e.peer (filter is_flow seen) (filter is_flow more) s.pieces
    (sym (filter-append is_flow seen more) ∙ s.flow))

-- at a moment of the trace after which the number is not opened
pub at_moment : (n : ℕ) (l : Lines) (e : Entry) (seen rest : List TraceEntry) → find n l.entries
    ≡ Some e →
    IsUnopened n (rest ++ map Sent l.written) → Ledgered l (seen ++ rest) →
    StartsWith e (take e.framed (accepted e)) (since n seen)
at_moment n l e seen rest is quiet h =
    let k : e.number ≡ n = found_number n l.entries e is in
    let b = found_before n l e (seen ++ rest) is h in
    let whole : since n ((seen ++ rest) ++ map Sent l.written)
    ≡ since_from n (since n seen) (rest ++ map Sent l.written) =
    ap (since n) (append_assoc seen rest (map Sent l.written)) ∙ since_both n [] seen
    (rest ++ map Sent l.written) in
    let g = grows n (since n seen) (rest ++ map Sent l.written) quiet in
    let all : since e.number ((seen ++ rest) ++ map Sent l.written) ≡ since n seen ++ g.0 =
    ap (λ j. since j ((seen ++ rest) ++ map Sent l.written)) k ∙ whole ∙ g.1 in
    start_sends e (take e.framed (accepted e)) (since n seen) g.0
    (subst (Sends e (take e.framed (accepted e))) all b.sends)
