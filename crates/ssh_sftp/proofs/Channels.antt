-- A channel that is served, piece by piece, and how that ends.
use Rattle.std.proofs.Common.{◌≡◌, ℕ, List, [], ◌∷◌, ◌++◌, length, Some, None, Result}
use Rattle.std.proofs.Common.{Ok, Err, refl, sym, ap, subst, ◌∙◌, append-nil, append_assoc, inl, inr}
use Rattle.std.proofs.Common.{false, drop, arith}
use Rattle.std.specs.Prelude.{is_err, OnOk, IfErr}
use Rattle.std.specs.Result.{result_and}
use Rattle.ssh_hub.specs.Step.{opening}
use Rattle.ssh_hub.specs.History.{IsLegal}
use Rattle.ssh_hub.proofs.Did.{did_nothing}
use Rattle.std.specs.Prelude.{flat_map}
use mathlib.Core.List.{IsPrefix}
use Rattle.ssh_wire.specs.Field.{string}
use Rattle.ssh_wire.specs.declared.channel_id.ChannelId.{ChannelId}
use Rattle.ssh_hub.specs.declared.history.HubCall.{HubCall}
use Rattle.ssh_hub.specs.declared.history.HubReply.{HubReply}
use Rattle.ssh_hub.specs.declared.history.View.{View}
use Rattle.ssh_handles.specs.declared.channel.Channel.{Channel}
use Rattle.ssh_handles.specs.Handles.{reader_id, reader_view, writer_id, writer_view}
use Rattle.ssh_handles.specs.Written.{bytes_put}
use Rattle.ssh_sftp_core.specs.Files.{State}
use Rattle.ssh_sftp.specs.declared.error.SftpError.{SftpError}
use Rattle.ssh_sftp.specs.declared.error.SftpError.TheVariants as error
use Rattle.ssh_sftp.specs.Packets.{Splits, IsPartial, packets, packets_within}
use Rattle.ssh_sftp.specs.Replies.{Server, Serves, Refuses, state_after, answers, stream_of}
use Rattle.ssh_sftp.specs.Replies.{RefusesAt, HasFault, end_of}
use Rattle.ssh_sftp.specs.Serving.{Hears, Says, HearsNext, Answers, IsTaken, IsAtEnd}
use Rattle.ssh_sftp.specs.Serving.{Sends}
use Rattle.ssh_sftp.specs.Serving.{IsSameChannel, IsServed, EndsBy, data_received, HasFailed}
use Rattle.ssh_sftp.proofs.Joined.{serves_none, serves_on, refuses_on, answers-append}
use Rattle.ssh_sftp.proofs.First.{first_ones, all_of_them, none_partial, none_faulty}
use Rattle.ssh_sftp.proofs.Seats.{hears_on, says_on, received_on, put_after, at_end_on}

-- ---- streams

-- more came
serves_more : (a b : State) (stream rest old new more : List ℕ) → Serves a stream b rest old new
    → Serves a (stream ++ more) b (rest ++ more) old new
serves_more a b stream rest old new more s = record {
  packets = s.packets;
  splits = record {
    whole = ap (λ z. z ++ more) s.splits.whole
        ∙ append_assoc (flat_map string s.packets) rest more;
    each = s.splits.each;
  };
  state = s.state;
  out = s.out;
}

-- the answers to what came then stand behind those before
serves_behind : (a b : State) (stream rest old new : List ℕ) → Serves a stream b rest [] new
    → Serves a stream b rest old (old ++ new)
serves_behind a b stream rest old new s = record {
  packets = s.packets;
  splits = s.splits;
  state = s.state;
  out = ap (λ z. old ++ z) s.out;
}

refuses_behind : (a : State) (why : SftpError) (stream old new : List ℕ) → Refuses a stream why [] new
    → Refuses a stream why old (old ++ new)
refuses_behind a why stream old new r = record {
  packets = r.packets;
  rest = r.rest;
  splits = r.splits;
  out = ap (λ z. old ++ z) r.out;
  fault = r.fault;
}

-- one piece more was answered, or refused
pub piece_on : (a b c : State) (stream rest piece kept old new : List ℕ)
    → Serves a stream b rest [] old → Serves b (rest ++ piece) c kept [] new
    → Serves a (stream ++ piece) c kept [] (old ++ new)
piece_on a b c stream rest piece kept old new first second =
    subst (λ z. Serves a (stream ++ piece) c z [] (old ++ new)) (append-nil kept)
    (serves_on a b c (stream ++ piece) (rest ++ piece) kept [] [] old (old ++ new)
    (subst (λ z. Serves a (stream ++ piece) b z [] old) (sym (append-nil (rest ++ piece)))
    (serves_more a b stream rest [] old piece first))
    (serves_behind b c (rest ++ piece) kept old new second))

pub piece_off : (a b : State) (why : SftpError) (stream rest piece old new : List ℕ)
    → Serves a stream b rest [] old → Refuses b (rest ++ piece) why [] new
    → Refuses a (stream ++ piece) why [] (old ++ new)
piece_off a b why stream rest piece old new first second =
    refuses_on a b why (stream ++ piece) (rest ++ piece) [] [] old (old ++ new)
    (subst (λ z. Serves a (stream ++ piece) b z [] old) (sym (append-nil (rest ++ piece)))
    (serves_more a b stream rest [] old piece first))
    (refuses_behind b why (rest ++ piece) old new second)

-- the answers to the first packets of a stream are the first of the answers to it
front_of : (a : State) (stream : List ℕ) (ps : List (List ℕ)) (rest out : List ℕ)
    → Splits stream ps rest → out ≡ [] ++ answers a ps → IsPrefix out (answers a (packets stream))
front_of a stream ps rest out splits is =
    let more = packets_within (drop (length ps) stream) rest in (
      answers (state_after a ps) more,
      ap (λ z. z ++ answers (state_after a ps) more) is ∙ sym (answers-append a ps more)
          ∙ ap (answers a) (sym (first_ones stream ps rest splits)),
    )

prefix_on : (xs ys zs : List ℕ) → IsPrefix xs ys → IsPrefix ys zs → IsPrefix xs zs
prefix_on xs ys zs a b = (
  a.0 ++ b.0,
  sym (append_assoc xs a.0 b.0) ∙ ap (λ l. l ++ b.0) a.1 ∙ b.1,
)

prefix_behind : (xs ys zs : List ℕ) → IsPrefix ys zs → IsPrefix (xs ++ ys) (xs ++ zs)
prefix_behind xs ys zs a = (a.0, append_assoc xs ys a.0 ∙ ap (λ l. xs ++ l) a.1)

fault_of : (a : State) (why : SftpError) (stream out : List ℕ) → (why ≡ error.NoMemory → ⊥)
    → Refuses a stream why [] out → HasFault stream why
fault_of a why stream out known r =
    let are = all_of_them stream r.packets r.rest r.splits
    (none_faulty why r.rest known r.fault) in
    (r.rest, subst (λ z. Splits stream z r.rest) (sym are) r.splits, r.fault)

-- ---- the channel

-- what was served of a channel so far
pub record Serving (before : Server) (old : Channel) (server : Server) (now : Channel) : Type 0 where
  pub heard : List (HubCall × HubReply)
  pub said : List (HubCall × HubReply)
  pub same : IsSameChannel old now
  pub hears : Hears (reader_id old.read) (reader_view old.read) heard (reader_view now.read)
  pub says : Says (writer_id old.write) (writer_view old.write) said (writer_view now.write)
  pub serves : Serves before.files (stream_of before (data_received heard)) server.files server.rest
      [] (bytes_put said)
  pub partial : IsPartial server.rest
  pub fine : server.failed ≡ false

same_on : (a b c : Channel) → IsSameChannel a b → IsSameChannel b c → IsSameChannel a c
same_on a b c h k = record {
  read_hub = k.read_hub ∙ h.read_hub;
  read_id = k.read_id ∙ h.read_id;
  write_hub = k.write_hub ∙ h.write_hub;
  write_id = k.write_id ∙ h.write_id;
}

module _ (before : Server) (old : Channel) (server : Server) (now : Channel)
    (s : Serving before old server now) where
  -- the stream with one piece more
  longer : (calls : List (HubCall × HubReply)) (piece : List ℕ) → data_received calls ≡ piece
      → stream_of before (data_received s.heard) ++ piece
      ≡ stream_of before (data_received (s.heard ++ calls))
  longer calls piece is =
      ap (λ z. (before.rest ++ data_received s.heard) ++ z) (sym is)
      ∙ append_assoc before.rest (data_received s.heard) (data_received calls)
      ∙ ap (λ z. before.rest ++ z) (sym (received_on s.heard calls))

  heard_on : (calls : List (HubCall × HubReply)) (w : View)
      → Hears (reader_id now.read) (reader_view now.read) calls w
      → Hears (reader_id old.read) (reader_view old.read) (s.heard ++ calls) w
  heard_on calls w h = hears_on (reader_id old.read) (reader_view old.read) s.heard
      (reader_view now.read) calls w s.hears
      (subst (λ c. Hears c (reader_view now.read) calls w) s.same.read_id h)

  said_on : (calls : List (HubCall × HubReply)) (w : View)
      → Says (writer_id now.write) (writer_view now.write) calls w
      → Says (writer_id old.write) (writer_view old.write) (s.said ++ calls) w
  said_on calls w h = says_on (writer_id old.write) (writer_view old.write) s.said
      (writer_view now.write) calls w s.says
      (subst (λ c. Says c (writer_view now.write) calls w) s.same.write_id h)

  -- a piece came, and was answered
  pub served_on : (next : Channel) (after : Server) (piece : List ℕ) → IsSameChannel now next
      → HearsNext (reader_id now.read) (reader_view now.read) (Some piece) (reader_view next.read)
      → Answers server piece (writer_id now.write) (writer_view now.write) (Ok tt) after
      (writer_view next.write)
      → Serving before old after next
  served_on next after piece same h a = record {
    heard = s.heard ++ h.0;
    said = s.said ++ a.0;
    same = same_on old now next s.same same;
    hears = heard_on h.0 (reader_view next.read) h.1;
    says = said_on a.0 (writer_view next.write) a.1;
    serves = subst (λ z. Serves before.files z after.files after.rest [] (bytes_put (s.said ++ a.0)))
        (longer h.0 piece h.2)
        (subst (λ z. Serves before.files (stream_of before (data_received s.heard) ++ piece)
        after.files after.rest [] z) (sym (put_after s.said a.0))
        (piece_on before.files server.files after.files
        (stream_of before (data_received s.heard)) server.rest piece after.rest (bytes_put s.said)
        (bytes_put a.0) s.serves a.2));
    partial = a.3;
    fine = a.4;
  }

  -- the answers that were put are the first of those to what came
  front_on : (said : List (HubCall × HubReply)) (stream : List ℕ) (piece_out : List ℕ)
      → IsPrefix (bytes_put said) piece_out
      → IsPrefix (bytes_put s.said ++ piece_out) (answers before.files (packets stream))
      → IsPrefix (bytes_put (s.said ++ said)) (answers before.files (packets stream))
  front_on said stream out a b =
      subst (λ z. IsPrefix z (answers before.files (packets stream))) (sym (put_after s.said said))
      (prefix_on (bytes_put s.said ++ bytes_put said) (bytes_put s.said ++ out)
      (answers before.files (packets stream))
      (prefix_behind (bytes_put s.said) (bytes_put said) out a) b)

  -- it was taken, or refused: what that says of the whole stream
  front_taken : (next : Channel) (after : Server) (piece out : List ℕ) (why : SftpError)
      → IsTaken server piece (writer_id now.write) why after (writer_view next.write) out
      → IsPrefix (bytes_put s.said ++ out)
      (answers before.files (packets (stream_of before (data_received s.heard) ++ piece)))
  front_taken next after piece out why (inl r) =
      let all = piece_off before.files server.files why (stream_of before (data_received s.heard))
      server.rest piece (bytes_put s.said) out s.serves r in
      front_of before.files (stream_of before (data_received s.heard) ++ piece) all.packets all.rest
      (bytes_put s.said ++ out) all.splits all.out
  front_taken next after piece out why (inr t) =
      let all = piece_on before.files server.files after.files
      (stream_of before (data_received s.heard)) server.rest piece after.rest (bytes_put s.said) out
      s.serves t.0 in
      front_of before.files (stream_of before (data_received s.heard) ++ piece) all.packets
      after.rest (bytes_put s.said ++ out) all.splits all.out

  -- why a piece was refused, or its answers were not sent, is why serving ends
  ends_taken : (next : Channel) (after : Server) (piece out : List ℕ) (why : SftpError)
      (heard said : List (HubCall × HubReply))
      → stream_of before (data_received s.heard) ++ piece ≡ stream_of before (data_received heard)
      → IsTaken server piece (writer_id now.write) why after (writer_view next.write) out
      → EndsBy (Err why) before after old next heard said
  ends_taken next after piece out error.NoMemory heard said is t = tt
  ends_taken next after piece out (error.BadLength n) heard said is (inl r) =
      subst (λ z. HasFault z (error.BadLength n)) is
      (fault_of before.files (error.BadLength n) (stream_of before (data_received s.heard) ++ piece)
      (bytes_put s.said ++ out) (λ e. cc e)
      (piece_off before.files server.files (error.BadLength n)
      (stream_of before (data_received s.heard)) server.rest piece (bytes_put s.said) out s.serves r))
  ends_taken next after piece out (error.BadLength n) heard said is (inr t) = absurd t.1
  ends_taken next after piece out error.NoId heard said is (inl r) =
      subst (λ z. HasFault z error.NoId) is
      (fault_of before.files error.NoId (stream_of before (data_received s.heard) ++ piece)
      (bytes_put s.said ++ out) (λ e. cc e)
      (piece_off before.files server.files error.NoId (stream_of before (data_received s.heard))
      server.rest piece (bytes_put s.said) out s.serves r))
  ends_taken next after piece out error.NoId heard said is (inr t) = absurd t.1
  ends_taken next after piece out (error.Cut n) heard said is (inl r) = absurd r.fault
  ends_taken next after piece out (error.Cut n) heard said is (inr t) = absurd t.1
  ends_taken next after piece out (error.Handle e) heard said is (inl r) = absurd r.fault
  ends_taken next after piece out (error.Handle e) heard said is (inr t) =
      subst (λ c. HasFailed c e (writer_view next.write)) s.same.write_id t.1
  ends_taken next after piece out error.Failed heard said is (inl r) = absurd r.fault
  ends_taken next after piece out error.Failed heard said is (inr t) = absurd t.1

  -- a piece came, and was refused, or its answers were not sent
  pub stopped_on : (next : Channel) (after : Server) (piece : List ℕ) (why : SftpError)
      → HearsNext (reader_id now.read) (reader_view now.read) (Some piece) (reader_view next.read)
      → Answers server piece (writer_id now.write) (writer_view now.write) (Err why) after
      (writer_view next.write)
      → IsServed before old (Err why) after next
  stopped_on next after piece why h a =
      let is = longer h.0 piece h.2 in
      record {
        heard = s.heard ++ h.0;
        said = s.said ++ a.0;
        hears = heard_on h.0 (reader_view next.read) h.1;
        says = said_on a.0 (writer_view next.write) a.2;
        front = front_on a.0 (stream_of before (data_received (s.heard ++ h.0))) a.1 a.3
            (subst (λ z. IsPrefix (bytes_put s.said ++ a.1) (answers before.files (packets z))) is
            (front_taken next after piece a.1 why a.4));
        ends = ends_taken next after piece a.1 why (s.heard ++ h.0) (s.said ++ a.0) is a.4;
      }

  -- the packets that were answered are all that came
  all_came : (stream : List ℕ) → stream_of before (data_received s.heard) ≡ stream
      → packets stream ≡ s.serves.packets
  all_came stream is = ap packets (sym is)
      ∙ all_of_them (stream_of before (data_received s.heard)) s.serves.packets server.rest
      s.serves.splits (none_partial server.rest s.partial)

  splits_all : (stream : List ℕ) → stream_of before (data_received s.heard) ≡ stream
      → Splits stream (packets stream) server.rest
  splits_all stream is = subst (λ z. Splits stream z server.rest) (sym (all_came stream is))
      (subst (λ z. Splits z s.serves.packets server.rest) is s.serves.splits)

  answers_all : (stream : List ℕ) → stream_of before (data_received s.heard) ≡ stream
      → bytes_put s.said ≡ answers before.files (packets stream)
  answers_all stream is = s.serves.out ∙ ap (answers before.files) (sym (all_came stream is))

  after_is : (stream : List ℕ) → stream_of before (data_received s.heard) ≡ stream
      → server.rest ≡ [] → server
      ≡ record { files = state_after before.files (packets stream); rest = []; failed = false }
  after_is stream is none =
      let files = s.serves.state ∙ ap (state_after before.files) (sym (all_came stream is)) in
      ap (λ z. record { files = z; rest = server.rest; failed = server.failed }) files
      ∙ ap (λ z. record {
        files = state_after before.files (packets stream);
        rest = z;
        failed = server.failed;
      }) none
      ∙ ap (λ z. record {
        files = state_after before.files (packets stream);
        rest = [];
        failed = z;
      }) s.fine

  -- the data ended
  ends_all : (next : Channel) (heard : List (HubCall × HubReply)) (rest : List ℕ)
      → stream_of before (data_received s.heard) ≡ stream_of before (data_received heard)
      → IsAtEnd heard → server.rest ≡ rest
      → EndsBy (end_of false rest) before server old next heard s.said
  ends_all next heard [] is at_end none =
      let stream = stream_of before (data_received heard) in (
        at_end,
        after_is stream is none,
        subst (λ z. Splits stream (packets stream) z) none (splits_all stream is),
        answers_all stream is,
      )
  ends_all next heard (byte ∷ bytes) is at_end some =
      let stream = stream_of before (data_received heard) in (
        at_end,
        (
          byte ∷ bytes,
          subst (λ z. Splits stream (packets stream) z) some (splits_all stream is),
          subst IsPartial some s.partial,
          refl,
          omega arith,
        ),
      )

  pub ended_on : (next : Channel) → writer_view next.write ≡ writer_view now.write
      → HearsNext (reader_id now.read) (reader_view now.read) None (reader_view next.read)
      → IsServed before old (end_of server.failed server.rest) server next
  ended_on next same h =
      let heard = s.heard ++ h.0 in
      let is : stream_of before (data_received s.heard) ≡ stream_of before (data_received heard) =
      ap (λ z. before.rest ++ z) (sym (received_on s.heard h.0
      ∙ ap (λ z. data_received s.heard ++ z) h.2 ∙ append-nil (data_received s.heard))) in
      record {
        heard = heard;
        said = s.said;
        hears = heard_on h.0 (reader_view next.read) h.1;
        says = subst (λ w. Says (writer_id old.write) (writer_view old.write) s.said w) (sym same)
            s.says;
        front = (
          [],
          append-nil (bytes_put s.said)
              ∙ answers_all (stream_of before (data_received heard)) is,
        );
        ends = subst (λ z. EndsBy (end_of z server.rest) before server old next heard s.said)
            (sym s.fine) (ends_all next heard server.rest is (at_end_on s.heard h.0 h.3) refl);
      }

-- ---- one piece

sent_front : (c : ChannelId) (out : List ℕ) (v : View) (r : Result (Unit {0}) SftpError) (w : View)
    → Sends c out v r w → (calls : List (HubCall × HubReply)) × IsPrefix (bytes_put calls) out
    × Says c v calls w
sent_front c out v (Ok done) w s = (s.0, ([], append-nil (bytes_put s.0) ∙ s.2), s.1)
sent_front c out v (Err why) w s = (s.0, s.2, s.1)

-- a piece was refused, whatever became of its answers; or it was taken, and its answers were sent,
-- or not all of them
pub answered : (b a : Server) (piece out : List ℕ) (c : ChannelId) (v w : View)
    (fed sent : Result (Unit {0}) SftpError) → b.failed ≡ false → a.failed ≡ is_err fed
    → OnOk fed (Serves b.files (stream_of b piece) a.files a.rest [] out)
    → OnOk fed (IsPartial a.rest)
    → IfErr fed (λ why. RefusesAt b.failed b.files (stream_of b piece) why [] out)
    → Sends c out v sent w → Answers b piece c v (result_and fed sent) a w
answered b a piece out c v w (Ok done) (Ok all) fine kept serves partial refused s = (
  s.0,
  s.1,
  subst (λ z. Serves b.files (stream_of b piece) a.files a.rest [] z) (sym s.2) serves,
  partial,
  kept,
)
answered b a piece out c v w (Ok done) (Err why) fine kept serves partial refused s =
    (s.0, out, s.1, s.2, inr (serves, s.3))
answered b a piece out c v w (Err why) sent fine kept serves partial refused s =
    let f = sent_front c out v sent w s in (
      f.0,
      out,
      f.2,
      f.1,
      inl (subst (λ z. RefusesAt z b.files (stream_of b piece) why [] out) fine refused),
    )

-- ---- the whole channel

-- nothing was served yet
pub serving_none : (server : Server) (channel : Channel)
    → IsLegal (opening (reader_view channel.read).config) (reader_view channel.read).seen
    → IsLegal (opening (writer_view channel.write).config) (writer_view channel.write).seen
    → IsPartial server.rest → server.failed ≡ false → Serving server channel server channel
serving_none server channel read write partial fine = record {
  heard = [];
  said = [];
  same = record { read_hub = refl; read_id = refl; write_hub = refl; write_id = refl };
  hears = record { does = did_nothing (reader_view channel.read) read; each = tt };
  says = record { does = did_nothing (writer_view channel.write) write; each = tt };
  serves = subst (λ z. Serves server.files z server.files server.rest [] [])
      (sym (append-nil server.rest)) (serves_none server.files server.rest []);
  partial = partial;
  fine = fine;
}

module _ (before : Server) (old : Channel) (server : Server) (now : Channel) (next : Channel)
    (after : Server) (piece slice : List ℕ) (s : Serving before old server now)
    (h : HearsNext (reader_id now.read) (reader_view now.read) (Some piece) (reader_view next.read))
    (whole : slice ≡ piece) where
  answers_piece : (r : Result (Unit {0}) SftpError)
      → Answers server slice (writer_id now.write) (writer_view now.write) r after
      (writer_view next.write)
      → Answers server piece (writer_id now.write) (writer_view now.write) r after
      (writer_view next.write)
  answers_piece r a = subst (λ z. Answers server z (writer_id now.write) (writer_view now.write) r
      after (writer_view next.write)) whole a

  pub goes_on : Answers server slice (writer_id now.write) (writer_view now.write) (Ok tt) after
      (writer_view next.write)
      → IsSameChannel now next → Serving before old after next
  goes_on a same =
      served_on before old server now s next after piece same h (answers_piece (Ok tt) a)

  pub stops : (why : SftpError)
      → Answers server slice (writer_id now.write) (writer_view now.write) (Err why) after
      (writer_view next.write)
      → IsServed before old (Err why) after next
  stops why a =
      stopped_on before old server now s next after piece why h (answers_piece (Err why) a)
