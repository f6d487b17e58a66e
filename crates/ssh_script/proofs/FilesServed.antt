-- A file server that is given the lines of a script.
use Rattle.std.proofs.Common.{◌≡◌, ◌∙◌, ◌+◌, ◌<◌, ℕ, List, [], ◌∷◌, ◌++◌, length, drop}
use Rattle.std.proofs.Common.{Result, Ok, Err, refl, sym, ap, subst, true, false, arith}
use Rattle.std.proofs.Common.{append_assoc, append-nil, inl, get_or}
use Rattle.std.specs.Prelude.{is_err, OnOk, IfErr, codes}
use Rattle.std.proofs.Math.Seq.{drop-append_seam}
use Rattle.std.proofs.lemmas.List.{drop_more}
use Rattle.ssh_sftp_core.specs.Files.{fresh}
use Rattle.ssh_sftp.specs.declared.error.SftpError.{SftpError}
use Rattle.ssh_sftp.specs.declared.error.SftpError.TheVariants as error
use Rattle.ssh_sftp.specs.Packets.{Splits, IsPartial, fault_in, fault_of}
use Rattle.ssh_sftp.specs.Replies.{Server, Serves, Refuses, RefusesAt, answers, replies, begun}
use Rattle.ssh_sftp.specs.Replies.{stream_of, end_of}
use Rattle.ssh_sftp.proofs.Joined.{serves_none}
use Rattle.ssh_sftp.proofs.First.{all_of_them, none_partial, none_faulty, left_is, no_fault, fault_is}
use Rattle.ssh_sftp.proofs.Channels.{piece_on, piece_off}
use Rattle.ssh_transcript.specs.Words.{hex_text}
use Rattle.ssh_script.specs.Files.{newly, sent_line, Written, behind, at_end}
use Rattle.ssh_script.specs.Files.{unless_refused, served_on, is_starved, HasTaken, Takes, ending}
use Rattle.ssh_script.specs.Files.{AreServed, IsServed}

-- ---- lines

pub sent_none : (out : List ℕ) → length out ≡ 0 → sent_line out ≡ []
sent_none [] none = refl
sent_none (b ∷ bs) none = absurd (omega (arith, none))

pub sent_some : (out : List ℕ) → 0 < length out
    → sent_line out ≡ codes "send " ++ hex_text out ++ codes "\n"
sent_some [] some = absurd (omega (arith, some))
sent_some (b ∷ bs) some = refl

-- ---- one piece

-- the answers that a longer stream brings are those behind the answers before
newly_is : (so_far stream out : List ℕ) → replies stream ≡ replies so_far ++ out
    → newly so_far stream ≡ out
newly_is so_far stream out is =
    ap (λ z. drop (length (replies so_far)) z) is ∙ drop-append_seam (replies so_far) out

taken_on : (so_far piece out old new : List ℕ) (b a : Server) → HasTaken so_far b
    → Serves b.files (stream_of b piece) a.files a.rest [] out → IsPartial a.rest
    → a.failed ≡ false → new ≡ old ++ sent_line out → Takes so_far piece (Ok tt) a old new
taken_on so_far piece out old new b a h s partial fine is =
    let stream = so_far ++ piece in
    let all = piece_on fresh b.files a.files so_far b.rest piece a.rest (replies so_far) out
    h.serves s in
    let are = all_of_them stream all.packets a.rest all.splits (none_partial a.rest partial) in
    let told : replies stream ≡ replies so_far ++ out = ap (answers fresh) are ∙ sym all.out in
    let splits = subst (λ z. Splits stream z a.rest) (sym are) all.splits in (
      record {
        serves = subst (λ z. Serves fresh stream a.files a.rest [] z) (sym told) all;
        partial = partial;
        fine = fine;
      },
      ap fault_in (left_is stream a.rest splits) ∙ no_fault a.rest partial,
      is ∙ ap (λ z. old ++ sent_line z) (sym (newly_is so_far stream out told)),
    )

refused_on : (so_far piece out old new : List ℕ) (b a : Server) (why : SftpError) → HasTaken so_far b
    → Refuses b.files (stream_of b piece) why [] out → (why ≡ error.NoMemory → ⊥)
    → new ≡ old ++ sent_line out → Takes so_far piece (Err why) a old new
refused_on so_far piece out old new b a why h r known is =
    let stream = so_far ++ piece in
    let all = piece_off fresh b.files why so_far b.rest piece (replies so_far) out h.serves r in
    let are = all_of_them stream all.packets all.rest all.splits
    (none_faulty why all.rest known all.fault) in
    let told : replies stream ≡ replies so_far ++ out = ap (answers fresh) are ∙ sym all.out in
    let splits = subst (λ z. Splits stream z all.rest) (sym are) all.splits in (
      ap fault_in (left_is stream all.rest splits) ∙ fault_is why all.rest known all.fault,
      is ∙ ap (λ z. old ++ sent_line z) (sym (newly_is so_far stream out told)),
    )

not_starved : (why : SftpError) → is_starved (Err why) ≡ false → why ≡ error.NoMemory → ⊥
not_starved why fine is =
    let e : true ≡ false = sym (ap (λ z. is_starved (Err z)) is) ∙ fine in absurd (cc e)

-- what the server answered to a piece is what is written of it
pub piece_taken : (so_far piece first out old new : List ℕ) (b a : Server)
    (fed : Result (Unit {0}) SftpError) → HasTaken so_far b → first ≡ [] → is_starved fed ≡ false
    → OnOk fed (Serves b.files (stream_of b piece) a.files a.rest first out)
    → OnOk fed (IsPartial a.rest)
    → IfErr fed (λ why. RefusesAt b.failed b.files (stream_of b piece) why first out)
    → a.failed ≡ is_err fed → new ≡ old ++ sent_line out → Takes so_far piece fed a old new
piece_taken so_far piece first out old new b a (Ok done) h none fine serves partial refuses failed is =
    taken_on so_far piece out old new b a h
    (subst (λ z. Serves b.files (stream_of b piece) a.files a.rest z out) none serves) partial
    failed is
piece_taken so_far piece first out old new b a (Err why) h none fine serves partial refuses failed is =
    refused_on so_far piece out old new b a why h
    (subst (λ z. Refuses b.files (stream_of b piece) why z out) none
    (subst (λ z. RefusesAt z b.files (stream_of b piece) why first out) h.fine refuses))
    (not_starved why fine) is

-- ---- all pieces

-- what was written of the pieces so far, where these are left
pub record IsWrittenTo (pieces left : List (List ℕ)) (server : Server) (old now : List ℕ) : Type 0 where
  pub so_far : List ℕ
  pub taken : HasTaken so_far server
  pub lines : List ℕ
  pub text : now ≡ old ++ lines
  pub goes_on : served_on [] pieces ≡ behind lines (served_on so_far left)

pub nothing_written : (pieces : List (List ℕ)) (server : Server) (text : List ℕ) → server ≡ begun
    → IsWrittenTo pieces pieces server text text
nothing_written pieces server text is = record {
  so_far = [];
  taken = subst (λ z. HasTaken [] z) (sym is) (record {
    serves = serves_none fresh [] [];
    partial = inl (omega arith);
    fine = refl;
  });
  lines = [];
  text = sym (append-nil text);
  goes_on = refl;
}

behind_both : (a b : List ℕ) (rest : Written) → behind a (behind b rest) ≡ behind (a ++ b) rest
behind_both a b rest = ap (λ z. (rest.0, z)) (sym (append_assoc a b rest.1))

text_on : (old lines line now new : List ℕ) → now ≡ old ++ lines → new ≡ now ++ line
    → new ≡ old ++ (lines ++ line)
text_on old lines line now new a b = b ∙ ap (λ z. z ++ line) a ∙ append_assoc old lines line

module _ (pieces left : List (List ℕ)) (piece : List ℕ) (b a : Server) (old now new : List ℕ)
    (w : IsWrittenTo pieces (piece ∷ left) b old now) where
  -- what was written, with the line of this piece
  next : Written
  next = unless_refused (fault_of (w.so_far ++ piece)) (served_on (w.so_far ++ piece) left)

  pub line_of : List ℕ
  line_of = sent_line (newly w.so_far (w.so_far ++ piece))

  goes_by : served_on [] pieces ≡ behind (w.lines ++ line_of) next
  unfolding next line_of
  goes_by = w.goes_on ∙ behind_both w.lines (sent_line (newly w.so_far (w.so_far ++ piece)))
      (unless_refused (fault_of (w.so_far ++ piece)) (served_on (w.so_far ++ piece) left))

  pub piece_written : (fed : Result (Unit {0}) SftpError) → is_err fed ≡ false
      → Takes w.so_far piece fed a now new → IsWrittenTo pieces left a old new
  unfolding next line_of
  piece_written (Ok done) good t = record {
    so_far = w.so_far ++ piece;
    taken = t.0;
    lines = w.lines ++ line_of;
    text = text_on old w.lines line_of now new w.text t.2;
    goes_on = goes_by ∙ ap (λ z. behind (w.lines ++ line_of)
        (unless_refused z (served_on (w.so_far ++ piece) left))) t.1;
  }
  piece_written (Err why) good t = absurd (cc good)

  pub piece_ended : (fed : Result (Unit {0}) SftpError) → is_err fed ≡ true
      → Takes w.so_far piece fed a now new → AreServed pieces fed old new
  unfolding next line_of
  piece_ended (Ok done) bad t = absurd (cc bad)
  piece_ended (Err why) bad t = (
    w.lines ++ line_of,
    text_on old w.lines line_of now new w.text t.1,
    goes_by ∙ ap (λ z. behind (w.lines ++ line_of)
        (unless_refused z (served_on (w.so_far ++ piece) left))) t.0,
  )

-- the next piece stands in front of those that are left
pub next_left : (pieces : List (List ℕ)) (i : ℕ) (next piece : List ℕ) → i < length pieces
    → next ≡ get_or pieces i next → piece ≡ next → drop i pieces ≡ piece ∷ drop (i + 1) pieces
next_left pieces i next piece there is same =
    drop_more pieces i next there ∙ ap (λ z. z ∷ drop (i + 1) pieces) (sym is ∙ sym same)

end_written : (rest : List ℕ) → at_end rest ≡ ending (end_of false rest)
end_written [] = refl
end_written (byte ∷ bytes) = refl

pub all_written : (pieces : List (List ℕ)) (server : Server) (old now : List ℕ)
    → IsWrittenTo pieces [] server old now → AreServed pieces (end_of server.failed server.rest) old now
all_written pieces server old now w =
    let are = all_of_them w.so_far w.taken.serves.packets server.rest w.taken.serves.splits
    (none_partial server.rest w.taken.partial) in
    let left = left_is w.so_far server.rest
    (subst (λ z. Splits w.so_far z server.rest) (sym are) w.taken.serves.splits) in (
      w.lines,
      w.text,
      w.goes_on ∙ ap (behind w.lines) (ap at_end left ∙ end_written server.rest
          ∙ ap (λ z. ending (end_of z server.rest)) (sym w.taken.fine)),
    )

-- the lines of the pieces, and the last one
pub served_whole : (pieces : List (List ℕ)) (ended : Result (Unit {0}) SftpError) (status : ℕ)
    (old now new : List ℕ) → old ≡ [] → AreServed pieces ended old now → status ≡ (ending ended).0
    → new ≡ now ++ (ending ended).1 → IsServed pieces status new
served_whole pieces ended status old now new none a is text =
    let whole : new ≡ a.0 ++ (ending ended).1 =
    text ∙ ap (λ z. z ++ (ending ended).1) (a.1 ∙ ap (λ z. z ++ a.0) none) in
    ap (λ z. (z, new)) is ∙ ap (λ z. ((ending ended).0, z)) whole ∙ sym a.2
