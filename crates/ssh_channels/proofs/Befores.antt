-- What was sent on one channel stays what has to be sent there.
use Rattle.std.proofs.Common.{◌≡◌, ◌<◌, ◌≤◌, ◌+◌, ◌-◌, ◌^◌, ◌==◌, ◌&&◌, ◌||◌, ℕ, min, Bool, true}
use Rattle.std.proofs.Common.{false, not, cond, Option}
use Rattle.std.proofs.Common.{List, [], ◌∷◌, ◌++◌, map, length, take, drop, refl, sym, ◌∙◌, ap}
use Rattle.std.proofs.Common.{subst, inl, inr, arith}
use Rattle.std.specs.List.{filter}
use Rattle.std.proofs.lemmas.List.{take_all, take_min, take-append-le, append-nil, map-append}
use Rattle.std.proofs.lemmas.List.Elements.{filter-append}
use Rattle.ssh_link.specs.Frames.{Frame}
use Rattle.ssh_channels.specs.declared.chunk.Chunk.{Chunk}
use Rattle.ssh_channels.specs.declared.chunk.DataKind.{DataKind}
use Rattle.ssh_channels.specs.declared.chunk.DataKind.TheVariants.{Plain, Extended}
use Rattle.ssh_channels.specs.Layout.{chunk, data_frame, eof_frame, close_frame, reply_frame}
use Rattle.ssh_channels.specs.Replies.{ready, settling}
use Rattle.ssh_channels.specs.Cut.{piece_limit, cut, left_of}
use Rattle.ssh_channels.specs.Entry.{Entry, opened, asked, agreed, joined, accepted, all_framed}
use Rattle.ssh_channels.specs.Entry.{more_may_come}
use Rattle.ssh_channels.specs.Entry.{flush_out}
use Rattle.ssh_channels.specs.Entry.{flushed, granting, accepting, tells_eof, closes_now, eof_out}
use Rattle.ssh_channels.specs.Entry.{after_eof, IsDue, requesting, replying, replies_out}
use Rattle.ssh_channels.specs.Entry.{Sound}
use Rattle.ssh_channels.specs.Sent.{is_flow, is_reply, AllFit, ending, RepliesInOrder, Before}
use Rattle.ssh_channels.specs.Sent.{farewell, IsLeft}
use Rattle.ssh_channels.proofs.Joined.{joined_both, joined_cut, joined_left, left_none, cut_fit}
use Rattle.ssh_channels.proofs.Joined.{fit_both, some_limit}
use Rattle.ssh_channels.proofs.Joined.{joined_length, take_more}
use Rattle.ssh_channels.proofs.Entries.{and_left, and_right, sound_opened, sound_asked}
use Rattle.ssh_channels.proofs.Entries.{sound_agreed, sound_flushed}
use Rattle.ssh_channels.proofs.Entries.{sound_granting, sound_accepting, sound_eof, sound_close}
use Rattle.ssh_channels.proofs.Entries.{sound_told, sound_room}
use Rattle.ssh_channels.proofs.Entries.{sound_aimed, sound_requesting}
use Rattle.ssh_channels.proofs.Entries.{sound_replying, framed_all}
use Rattle.ssh_channels.proofs.Replying.{ready_more, ready_on}

-- data frames belong to the flow
flow_one : (own peer : ℕ) (kind : DataKind) (bytes : List ℕ)
    → is_flow (data_frame own peer (chunk kind bytes)) ≡ true
flow_one own peer Plain bytes = refl
flow_one own peer (Extended code) bytes = refl

flow_data : (own peer : ℕ) (ps : List Chunk) →
    filter is_flow (map (data_frame own peer) ps) ≡ map (data_frame own peer) ps
flow_data own peer [] = refl
flow_data own peer (p ∷ ps) =
    rw (flow_one own peer p.kind p.bytes) (ap (λ l. data_frame own peer p ∷ l)
    (flow_data own peer ps))

-- and are no replies
data_unlike : (own peer : ℕ) (kind : DataKind) (bytes : List ℕ)
    → is_reply (data_frame own peer (chunk kind bytes)) ≡ false
data_unlike own peer Plain bytes = refl
data_unlike own peer (Extended code) bytes = refl

no_reply : (own peer : ℕ) (ps : List Chunk) → filter is_reply (map (data_frame own peer) ps) ≡ []
no_reply own peer [] = refl
no_reply own peer (p ∷ ps) = rw (data_unlike own peer p.kind p.bytes) (no_reply own peer ps)

-- the replies are in order as before where what follows has none
order_kept : (e : Entry) (frames more : List Frame) → filter is_reply more ≡ [] →
    RepliesInOrder e frames → RepliesInOrder e (frames ++ more)
order_kept e frames more none r =
    filter-append is_reply frames more ∙ ap (λ l. filter is_reply frames ++ l) none
    ∙ append-nil (filter is_reply frames) ∙ r

-- nothing is cut where nothing is left
none_cut : (e : Entry) → length (accepted e) ≤ e.framed → flush_out e ≡ []
none_cut e h =
    ap (λ cs. map (data_frame e.number e.peer) (cut (piece_limit e.limit) (e.granted - e.framed)
    cs))
    (left_none e.framed e.chunks h)

-- and on a channel that waits
waiting_cut : (e : Entry) → e.confirmed ≡ false → Sound e →
    cut (piece_limit e.limit) (e.granted - e.framed) (left_of e.framed e.chunks) ≡ []
waiting_cut e c s =
    ap (λ cs. cut (piece_limit e.limit) (e.granted - e.framed) (left_of e.framed cs)) (s.waits c).0

fit_at : (b : Bool) (e : Entry) → e.confirmed ≡ b → Sound e →
    AllFit e.limit (cut (piece_limit e.limit) (e.granted - e.framed) (left_of e.framed e.chunks))
fit_at true e c s = cut_fit e.limit (e.granted - e.framed) (left_of e.framed e.chunks)
    (s.positive c)
fit_at false e c s = subst (AllFit e.limit) (sym (waiting_cut e c s)) tt

-- the flow with more data, which come where no EOF was told, or are none
flow_more : (told : Bool) (own peer : ℕ) (ps qs : List Chunk) (flow : List Frame)
    → (told ≡ true → qs ≡ []) →
    flow ≡ map (data_frame own peer) ps ++ ending told own peer →
    flow ++ map (data_frame own peer) qs ≡ map (data_frame own peer) (ps ++ qs)
    ++ ending told own peer
flow_more false own peer ps qs flow none h =
    ap (λ l. l ++ map (data_frame own peer) qs) (h ∙ append-nil (map (data_frame own peer) ps))
    ∙ sym (map-append (data_frame own peer) ps qs)
    ∙ sym (append-nil (map (data_frame own peer) (ps ++ qs)))
flow_more true own peer ps qs flow none h =
    let e : qs ≡ [] = none refl in
    ap (λ l. flow ++ map (data_frame own peer) l) e ∙ append-nil flow ∙ h
    ∙ ap (λ l. map (data_frame own peer) l ++ ending true own peer) (sym (append-nil ps)
    ∙ ap (λ l. ps ++ l) (sym e))

-- a flush sends all that is due
pub before_flush : (e : Entry) (frames : List Frame) → Before e frames
    → Before (flushed e) (frames ++ flush_out e)
before_flush e frames b =
    let credit = e.granted - e.framed in
    let waiting = left_of e.framed e.chunks in
    let qs = cut (piece_limit e.limit) credit waiting in
    let low = b.sound.low in
    let within = b.sound.within in
    let sent : joined (b.sends.pieces ++ qs) ≡ joined b.sends.pieces ++ joined qs =
    joined_both b.sends.pieces qs in
    let more : joined qs ≡ take credit (drop e.framed (accepted e)) =
    joined_cut (piece_limit e.limit) credit waiting (some_limit e.limit)
    ∙ ap (λ l. take credit l) (joined_left e.framed e.chunks) in
    let n : e.framed + credit ≡ e.granted = omega arith in
    let m : min e.granted (length (accepted e)) ≡ min (length (accepted e)) e.granted =
    omega arith in
    record {
      sends = record {
        pieces = b.sends.pieces ++ qs;
        flow = filter-append is_flow frames (flush_out e)
            ∙ ap (λ l. filter is_flow frames ++ l) (flow_data e.number e.peer qs)
            ∙ flow_more e.told e.number e.peer b.sends.pieces qs (filter is_flow frames)
            (λ t. ap (λ l. cut (piece_limit e.limit) credit l)
            (left_none e.framed e.chunks (b.sound.ended t).1)) b.sends.flow;
        fit = fit_both e.limit b.sends.pieces qs b.sends.fit (fit_at e.confirmed e refl b.sound);
        sum = sent ∙ ap (λ l. l ++ joined qs) b.sends.sum ∙ ap (λ l. take e.framed (accepted e)
            ++ l) more
            ∙ take_more e.framed credit (accepted e) ∙ ap (λ k. take k (accepted e)) n
            ∙ sym (take_min e.granted (accepted e)) ∙ ap (λ k. take k (accepted e)) m;
      };
      replies = order_kept e frames (flush_out e) (no_reply e.number e.peer qs) b.replies;
      sound = sound_flushed e b.sound;
    }

pub before_grant : (amount : ℕ) (e : Entry) (frames : List Frame) → e.confirmed ≡ true → IsDue e
    → Before e frames →
    Before (granting amount e) frames
before_grant amount e frames c d b = record {
  sends = record {
    pieces = b.sends.pieces;
    flow = b.sends.flow;
    fit = b.sends.fit;
    sum = b.sends.sum;
  };
  replies = b.replies;
  sound = sound_granting amount e c d b.sound;
}

take_at : (b : Bool) (c : Chunk) (e : Entry) → (length c.bytes == 0) ≡ b
    → e.framed ≤ length (accepted e) →
    take e.framed (accepted e) ≡ take e.framed (accepted (accepting c e))
take_at true c e t l = rw t refl
take_at false c e t l =
    let k : accepted (accepting c e) ≡ joined (e.chunks ++ c ∷ []) = rw t refl in
    sym (ap (take e.framed) (k ∙ joined_both e.chunks (c ∷ []))
    ∙ take-append-le e.framed (accepted e) (joined (c ∷ [])) l)

pub before_accept : (c : Chunk) (e : Entry) (frames : List Frame) → more_may_come e ≡ true
    → Before e frames →
    Before (accepting c e) frames
before_accept c e frames m b = record {
  sends = record {
    pieces = b.sends.pieces;
    flow = b.sends.flow;
    fit = b.sends.fit;
    sum = b.sends.sum ∙ take_at (length c.bytes == 0) c e refl b.sound.low;
  };
  replies = b.replies;
  sound = sound_accepting c e m b.sound;
}

pub before_eof : (e : Entry) (frames : List Frame) → e.confirmed ≡ true → Before e frames →
    Before (record e { eof = true }) frames
before_eof e frames c b = record {
  sends = record {
    pieces = b.sends.pieces;
    flow = b.sends.flow;
    fit = b.sends.fit;
    sum = b.sends.sum;
  };
  replies = b.replies;
  sound = sound_eof e c b.sound;
}

pub before_close : (e : Entry) (frames : List Frame) → e.confirmed ≡ true → Before e frames →
    Before (record e { close = true }) frames
before_close e frames c b = record {
  sends = record {
    pieces = b.sends.pieces;
    flow = b.sends.flow;
    fit = b.sends.fit;
    sum = b.sends.sum;
  };
  replies = b.replies;
  sound = sound_close e c b.sound;
}

-- what is said beside the flow and the replies
pub before_beside : (e : Entry) (frames : List Frame) (f : Frame) → is_flow f ≡ false
    → is_reply f ≡ false → Before e frames →
    Before e (frames ++ f ∷ [])
before_beside e frames f h k b =
    let none : filter is_flow (f ∷ []) ≡ [] = rw h refl in
    let unlike : filter is_reply (f ∷ []) ≡ [] = rw k refl in
    record {
      sends = record {
        pieces = b.sends.pieces;
        flow = filter-append is_flow frames (f ∷ []) ∙ ap (λ l. filter is_flow frames ++ l) none
            ∙ append-nil (filter is_flow frames) ∙ b.sends.flow;
        fit = b.sends.fit;
        sum = b.sends.sum;
      };
      replies = order_kept e frames (f ∷ []) unlike b.replies;
      sound = b.sound;
    }

pub before_room : (room : ℕ) (e : Entry) (frames : List Frame) → Before e frames →
    Before (record e { room = room }) frames
before_room room e frames b = record {
  sends = record {
    pieces = b.sends.pieces;
    flow = b.sends.flow;
    fit = b.sends.fit;
    sum = b.sends.sum;
  };
  replies = b.replies;
  sound = sound_room room e b.sound;
}

-- what does not touch the flow of data
pub before_aimed : (target : ℕ) (e : Entry) (frames : List Frame) → target < 2 ^ 32
    → Before e frames → Before (record e { target = target }) frames
before_aimed target e frames h b = record {
  sends = record {
    pieces = b.sends.pieces;
    flow = b.sends.flow;
    fit = b.sends.fit;
    sum = b.sends.sum;
  };
  replies = b.replies;
  sound = sound_aimed target e h b.sound;
}

-- one more reply is owed, behind the others
pub before_request : (e : Entry) (frames : List Frame) → e.confirmed ≡ true → Before e frames →
    Before (requesting e) frames
before_request e frames c b = record {
  sends = record {
    pieces = b.sends.pieces;
    flow = b.sends.flow;
    fit = b.sends.fit;
    sum = b.sends.sum;
  };
  replies = b.replies ∙ ap (map (reply_frame e.number e.peer)) (sym (ready_more e.replies));
  sound = sound_requesting e c b.sound;
}

-- replies are no part of the flow
reply_beside : (own peer : ℕ) (said : List Bool) →
    filter is_flow (map (reply_frame own peer) said) ≡ []
reply_beside own peer [] = refl
reply_beside own peer (true ∷ said) = reply_beside own peer said
reply_beside own peer (false ∷ said) = reply_beside own peer said

all_reply : (own peer : ℕ) (said : List Bool) →
    filter is_reply (map (reply_frame own peer) said) ≡ map (reply_frame own peer) said
all_reply own peer [] = refl
all_reply own peer (true ∷ said) = ap (λ l. reply_frame own peer true ∷ l) (all_reply own peer said)
all_reply own peer (false ∷ said) =
    ap (λ l. reply_frame own peer false ∷ l) (all_reply own peer said)

-- one is settled, and what is ready goes out behind what went out before
pub before_reply : (place : Option ℕ) (success : Bool) (e : Entry) (frames : List Frame)
    → Before e frames → Before (replying place success e) (frames ++ replies_out place success e)
before_reply place success e frames b =
    let say = reply_frame e.number e.peer in
    let said = drop (length (ready e.replies)) (ready (settling place success 0 e.replies)) in
    record {
      sends = record {
        pieces = b.sends.pieces;
        flow = filter-append is_flow frames (map say said)
            ∙ ap (λ l. filter is_flow frames ++ l) (reply_beside e.number e.peer said)
            ∙ append-nil (filter is_flow frames) ∙ b.sends.flow;
        fit = b.sends.fit;
        sum = b.sends.sum;
      };
      replies = filter-append is_reply frames (map say said)
          ∙ ap (λ l. filter is_reply frames ++ l) (all_reply e.number e.peer said)
          ∙ ap (λ l. l ++ map say said) b.replies ∙ sym (map-append say (ready e.replies) said)
          ∙ ap (map say) (ready_on place success e.replies);
      sound = sound_replying place success e b.sound;
    }

-- an EOF that is owed
told_cases : (eof told all : Bool) → (eof && not told && all) ≡ true → told ≡ false
told_cases true false true h = refl
told_cases true false false h = absurd (cc)
told_cases true true all h = absurd (cc)
told_cases false told all h = absurd (cc)

told_same : (told x : Bool) → x ≡ false → told || x ≡ told
told_same true x h = refl
told_same false x h = h

told_flow : (b : Bool) (e : Entry) (frames : List Frame) → tells_eof e ≡ b → Before e frames →
    (pieces : List Chunk) →
    filter is_flow frames ≡ map (data_frame e.number e.peer) pieces ++ ending e.told e.number e.peer
    →
    filter is_flow (frames ++ eof_out e)
    ≡ map (data_frame e.number e.peer) pieces ++ ending (e.told || tells_eof e) e.number e.peer
told_flow true e frames t b pieces h =
    let k : e.told ≡ false = told_cases e.eof e.told (all_framed e) t in
    let eof = eof_frame e.number e.peer ∷ [] in
    let o : eof_out e ≡ eof = rw t refl in
    let x : ending (e.told || tells_eof e) e.number e.peer ≡ eof =
    ap (λ y. ending (y || tells_eof e) e.number e.peer) k ∙ ap (λ y. ending y e.number e.peer) t in
    filter-append is_flow frames (eof_out e) ∙ ap (λ l. filter is_flow frames ++ filter is_flow l) o
    ∙ ap (λ l. l ++ eof) (h ∙ ap (λ y. map (data_frame e.number e.peer) pieces
    ++ ending y e.number e.peer) k
    ∙ append-nil (map (data_frame e.number e.peer) pieces))
    ∙ ap (λ l. map (data_frame e.number e.peer) pieces ++ l) (sym x)
told_flow false e frames t b pieces h =
    let o : eof_out e ≡ [] = rw t refl in
    ap (λ l. filter is_flow (frames ++ l)) o ∙ ap (filter is_flow) (append-nil frames) ∙ h
    ∙ ap (λ y. map (data_frame e.number e.peer) pieces ++ ending y e.number e.peer)
    (sym (told_same e.told (tells_eof e) t))

eof_unlike : (told : Bool) (e : Entry) →
    filter is_reply (cond told (eof_frame e.number e.peer ∷ []) []) ≡ []
eof_unlike true e = refl
eof_unlike false e = refl

pub before_told : (e : Entry) (frames : List Frame) → Before e frames → Before (after_eof e)
    (frames ++ eof_out e)
before_told e frames b = record {
  sends = record {
    pieces = b.sends.pieces;
    flow = told_flow (tells_eof e) e frames refl b b.sends.pieces b.sends.flow;
    fit = b.sends.fit;
    sum = b.sends.sum;
  };
  replies = order_kept e frames (eof_out e) (eof_unlike (tells_eof e) e) b.replies;
  sound = sound_told e b.sound;
}

-- an open
pub before_opened : (number peer window room limit packet : ℕ) → 0 < limit → window < 2 ^ 32 →
    Before (opened number peer window room limit packet) []
before_opened number peer window room limit packet h k = record {
  sends = record {
    pieces = [];
    flow = refl;
    fit = tt;
    sum = sym (take_all 0 [] (omega arith));
  };
  replies = refl;
  sound = sound_opened number peer window room limit packet h k;
}

pub before_asked : (number room packet : ℕ) → Before (asked number room packet) []
before_asked number room packet = record {
  sends = record {
    pieces = [];
    flow = refl;
    fit = tt;
    sum = sym (take_all 0 [] (omega arith));
  };
  replies = refl;
  sound = sound_asked number room packet;
}

-- nothing was sent on a channel that waits
no_pieces : (limit : ℕ) (ps : List Chunk) → AllFit limit ps → length (joined ps) ≡ 0 → ps ≡ []
no_pieces limit [] f h = refl
no_pieces limit (p ∷ ps) f h = let some = f.0 in absurd (omega (arith, joined_length p ps))

never_told : (b : Bool) (e : Entry) → e.told ≡ b → Sound e → e.confirmed ≡ false → e.told ≡ false
never_told true e t s c =
    absurd (let x : e.eof ≡ true = (s.ended t).0 in let y : e.eof ≡ false = (s.waits c).2 in cc)
never_told false e t s c = t

pub before_agreed : (peer window limit : ℕ) (e : Entry) (frames : List Frame) → e.confirmed ≡ false
    → 0 < limit →
    window < 2 ^ 32 → Before e frames → Before (agreed peer window limit e) frames
before_agreed peer window limit e frames c h k b =
    let none : e.chunks ≡ [] = (b.sound.waits c).0 in
    let zero : length (accepted e) ≡ 0 = ap (λ cs. length (joined cs)) none in
    let sum : length (joined b.sends.pieces) ≡ 0 =
    ap length (b.sends.sum ∙ take_all e.framed (accepted e) (omega arith)) ∙ zero in
    let ps : b.sends.pieces ≡ [] = no_pieces e.limit b.sends.pieces b.sends.fit sum in
    let t : e.told ≡ false = never_told e.told e refl b.sound c in
    let none_said : ready e.replies ≡ [] = ap ready (b.sound.silent c) in
    record {
      sends = record {
        pieces = [];
        flow = b.sends.flow ∙ ap (λ l. map (data_frame e.number e.peer) l ++ ending e.told e.number
            e.peer) ps
            ∙ ap (λ x. ending x e.number e.peer) t ∙ sym (ap (λ x. ending x e.number peer) t);
        fit = tt;
        sum = sym (ap joined ps) ∙ b.sends.sum;
      };
      replies = b.replies ∙ ap (map (reply_frame e.number e.peer)) none_said
          ∙ sym (ap (map (reply_frame e.number peer)) none_said);
      sound = sound_agreed peer window limit e c h k b.sound;
    }

-- a channel leaves
closing_confirmed : (b : Bool) (e : Entry) → e.confirmed ≡ b → Sound e → closes_now e ≡ true
    → e.confirmed ≡ true
closing_confirmed true e c s h = c
closing_confirmed false e c s h =
    absurd (let x : e.close ≡ true = and_left e.close (all_framed e) h in let y : e.close ≡ false =
    (s.waits c).3 in cc)

pub left_after_all : (e : Entry) (frames : List Frame) → closes_now e ≡ true → Before e frames →
    IsLeft (record { entry = e; by_peer = false }) (frames ++ close_frame e.number e.peer ∷ [])
left_after_all e frames h b =
    let c : e.confirmed ≡ true = closing_confirmed e.confirmed e refl b.sound h in
    let all : length (accepted e) ≤ e.framed = framed_all e (and_right e.close (all_framed e) h) in
    let low = b.sound.low in
    let same : e.framed ≡ length (accepted e) = omega arith in
    let f : farewell e ≡ close_frame e.number e.peer ∷ [] = rw c refl in
    (frames, [], b, tt, ap (λ l. frames ++ l) (sym (append-nil (farewell e) ∙ f)), inr same)

pub left_by_peer : (e : Entry) (frames : List Frame) → e.confirmed ≡ true → Before e frames →
    IsLeft (record { entry = e; by_peer = true }) (frames ++ close_frame e.number e.peer ∷ [])
left_by_peer e frames c b =
    let f : farewell e ≡ close_frame e.number e.peer ∷ [] = rw c refl in
    (frames, [], b, tt, ap (λ l. frames ++ l) (sym (append-nil (farewell e) ∙ f)), inl refl)

pub left_refused : (e : Entry) (frames : List Frame) → e.confirmed ≡ false → Before e frames →
    IsLeft (record { entry = e; by_peer = true }) (frames ++ [])
left_refused e frames c b =
    let f : farewell e ≡ [] = rw c refl in
    (frames, [], b, tt, ap (λ l. frames ++ l) (sym (append-nil (farewell e) ∙ f)), inl refl)
