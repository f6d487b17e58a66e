-- What the calls of the two halves of a channel bring and send.
use Rattle.std.proofs.Common.{◌≡◌, ℕ, List, [], ◌∷◌, ◌++◌, length, map, drop, Option, Some, None}
use Rattle.std.proofs.Common.{Ok, Err, refl, sym, ap, subst, ◌∙◌, append-nil, append_assoc}
use Rattle.std.proofs.Common.{false, min, take}
use Rattle.std.specs.Prelude.{flat_map}
use Rattle.std.specs.List.{AllByRecursion}
use Rattle.std.proofs.Math.Seq.{drop-append_seam}
use Rattle.std.proofs.lemmas.List.Concat.{flat_map-append}
use Rattle.ssh_wire.specs.declared.channel_id.ChannelId.{ChannelId}
use Rattle.ssh_link.specs.declared.notice.ChannelMsg.{ChannelMsg}
use Rattle.ssh_hub.specs.History.{calls_by}
use Rattle.ssh_hub.specs.Does.{Does, entries}
use Rattle.ssh_hub.specs.Follow.{Acts, Follows}
use Rattle.ssh_hub.specs.declared.answers.HandleError.{HandleError}
use Rattle.ssh_hub.specs.declared.history.HubCall.{HubCall}
use Rattle.ssh_hub.specs.declared.history.HubCall.TheVariants.{ReceiveMsg, LookAt, ReserveBytes}
use Rattle.ssh_hub.specs.declared.history.HubCall.TheVariants.{PutCommand, ReleaseBytes}
use Rattle.ssh_hub.specs.declared.history.HubReply.{HubReply}
use Rattle.ssh_hub.specs.declared.history.View.{View}
use Rattle.ssh_hub.proofs.Did.{did_both}
use Rattle.ssh_handles.specs.Callers.{IsReceived}
use Rattle.ssh_handles.specs.DataCommands.{data_command}
use Rattle.ssh_handles.specs.Said.{message_said}
use Rattle.ssh_handles.specs.Tries.{Tried, trying, got, tries, after_try}
use Rattle.ssh_handles.specs.Written.{bytes_put, piece_put}
use Rattle.ssh_handles.specs.Writing.{Writing, looking, asking, putting, releasing, written, stopped}
use Rattle.ssh_handles.specs.Writing.{writes, writing_asks, writing_told, to_write, rest_of, stands}
use Rattle.ssh_handles.specs.Writing.{Writes}
use Rattle.ssh_handles.proofs.Ordered.{in_order}
use Rattle.ssh_sftp.specs.declared.error.SftpError.TheVariants as error
use Rattle.ssh_sftp.specs.declared.serve.Heard.TheVariants as heard
use Rattle.ssh_sftp.specs.Serving.{calls_made, heard_in, data_heard, data_said, data_received}
use Rattle.ssh_sftp.specs.Serving.{IsAtEnd, Hears, Says, SendsData, Sends, HearsNext}
use Rattle.ssh_sftp.proofs.Joined.{all_append}

-- ---- the calls of a seat

entries_apart : (n : ℕ) (calls : List (HubCall × HubReply))
    → map (λ e. (e.call, e.reply)) (entries n calls) ≡ calls
entries_apart n [] = refl
entries_apart n (c ∷ cs) = ap (λ l. c ∷ l) (entries_apart n cs)

-- what a seat did between two views of it is what the views say
pub calls_are : (v : View) (calls : List (HubCall × HubReply)) (w : View) → Does v calls w
    → calls_made v w ≡ calls
calls_are v calls w d =
    let before = calls_by v.number v.seen in
    ap (λ l. map (λ e. (e.call, e.reply)) (drop (length before) l)) d.own
    ∙ ap (λ l. map (λ e. (e.call, e.reply)) l) (drop-append_seam before (entries v.number calls))
    ∙ entries_apart v.number calls

-- ---- the half that reads

-- the last of these calls said this
record LastSays {A : Type 0} (said : HubReply → Option A) (calls : List (HubCall × HubReply)) (a : A)
    : Type 0 where
  before : List (HubCall × HubReply)
  last : HubCall × HubReply
  are : calls ≡ before ++ last ∷ []
  says : said last.1 ≡ Some a

module _ {A : Type 0} (call : HubCall) (said : HubReply → Option A) (g : Option A → List ℕ)
    (none : g None ≡ []) where
  -- what calls that were made again brought: what the last of them said
  Brings : Tried A → List (HubCall × HubReply) → A → Type 0
  Brings trying calls a = AllByRecursion (λ one. one.0 ≡ call) calls
      × (flat_map (λ one. g (said one.1)) calls ≡ g (Some a)) × LastSays said calls a
  Brings (got b) calls a = (calls ≡ []) × (b ≡ a)

  one_brings : (o : Option A) (x : HubCall × HubReply) (xs : List (HubCall × HubReply)) (a : A)
      → said x.1 ≡ o → x.0 ≡ call → Brings (after_try o) xs a → Brings trying (x ∷ xs) a
  unfolding Brings
  one_brings None x xs a is asks t = (
    (asks, t.0),
    ap (λ z. g z ++ flat_map (λ one. g (said one.1)) xs) is
        ∙ ap (λ z. z ++ flat_map (λ one. g (said one.1)) xs) none ∙ t.1,
    record {
      before = x ∷ t.2.before;
      last = t.2.last;
      are = ap (λ z. x ∷ z) t.2.are;
      says = t.2.says;
    },
  )
  one_brings (Some b) x xs a is asks t = (
    (asks, subst (λ l. AllByRecursion (λ one. one.0 ≡ call) l) (sym t.0) tt),
    ap (λ z. g z ++ flat_map (λ one. g (said one.1)) xs) is
        ∙ ap (λ l. g (Some b) ++ flat_map (λ one. g (said one.1)) l) t.0
        ∙ append-nil (g (Some b)) ∙ ap (λ z. g (Some z)) t.1,
    record {
      before = [];
      last = x;
      are = ap (λ l. x ∷ l) t.0;
      says = is ∙ ap (λ z. Some z) t.1;
    },
  )

  brings : (calls : List (HubCall × HubReply)) (s : Tried A) (a : A)
      → Follows (tries call said) s calls (got a) → Brings s calls a
  unfolding Brings
  brings [] trying a f = absurd (cc f)
  brings [] (got b) a f = let same : b ≡ a = cc f in (refl, same)
  brings (x ∷ xs) trying a f = let asks : x.0 ≡ call = cc f.0 in
      one_brings (said x.1) x xs a refl asks (brings xs (after_try (said x.1)) a f.1)
  brings (x ∷ xs) (got b) a f = absurd (cc f.0)

-- a message was waited for
pub waited : (c : ChannelId) (v : View) (msg : Option ChannelMsg) (w : View) → IsReceived c v msg w
    → (calls : List (HubCall × HubReply)) × Hears c v calls w
    × (data_received calls ≡ data_heard (heard_in msg))
    × (heard_in msg ≡ heard.End → IsAtEnd calls)
unfolding Acts Brings
waited c v msg w t =
    let b = brings (ReceiveMsg c) message_said data_said refl t.0 trying msg t.2 in (
      t.0,
      record { does = t.1; each = b.0 },
      b.1,
      λ ends. record {
        before = b.2.before;
        last = b.2.last;
        are = b.2.are;
        msg = msg;
        says = b.2.says;
        ends = ends;
      },
    )

pub hears_on : (c : ChannelId) (v : View) (xs : List (HubCall × HubReply)) (w : View)
    (ys : List (HubCall × HubReply)) (x : View) → Hears c v xs w → Hears c w ys x
    → Hears c v (xs ++ ys) x
hears_on c v xs w ys x a b = record {
  does = did_both v xs w ys x a.does b.does;
  each = all_append (λ one. one.0 ≡ ReceiveMsg c) xs ys a.each b.each;
}

pub received_on : (xs ys : List (HubCall × HubReply))
    → data_received (xs ++ ys) ≡ data_received xs ++ data_received ys
received_on xs ys = flat_map-append (λ one. data_said (message_said one.1)) xs ys

-- what ends is the end of all
pub at_end_on : (xs ys : List (HubCall × HubReply)) → IsAtEnd ys → IsAtEnd (xs ++ ys)
at_end_on xs ys e = record {
  before = xs ++ e.before;
  last = e.last;
  are = ap (λ l. xs ++ l) e.are ∙ sym (append_assoc xs e.before (e.last ∷ []));
  msg = e.msg;
  says = e.says;
  ends = e.ends;
}

-- ---- the half that writes

asks_data : (c : ChannelId) (s : Writing) (call : HubCall) → writing_asks c None s ≡ Some call
    → SendsData c call
asks_data c (looking rest) call e =
    let is : LookAt c ≡ call = cc e in subst (λ (k : HubCall). SendsData c k) is refl
asks_data c (asking packet rest) call e =
    let is : ReserveBytes c (min packet (length rest)) ≡ call = cc e in
    subst (λ (k : HubCall). SendsData c k) is refl
asks_data c (putting packet n rest) call e =
    let is : PutCommand (data_command c None (take n rest)) n false ≡ call = cc e in
    subst (λ (k : HubCall). SendsData c k) is (take n rest, refl)
asks_data c (releasing n at rest) call e =
    let is : ReleaseBytes c n ≡ call = cc e in subst (λ (k : HubCall). SendsData c k) is refl
asks_data c written call e = absurd (cc e)
asks_data c (stopped why rest) call e = absurd (cc e)

all_data : (c : ChannelId) (calls : List (HubCall × HubReply)) (s t : Writing)
    → Follows (writes c None) s calls t → AllByRecursion (λ one. SendsData c one.0) calls
all_data c [] s t f = tt
all_data c (x ∷ xs) s t f = (asks_data c s x.0 f.0, all_data c xs (writing_told s x.1) t f.1)

-- bytes were written
pub sent : (c : ChannelId) (bytes : List ℕ) (v w : View) → Writes c None bytes v (Ok tt) w
    → Sends c bytes v (Ok tt) w
unfolding Acts
sent c bytes v w t = (
  t.0,
  record { does = t.1; each = all_data c t.0 (to_write bytes) written t.2 },
  sym (append-nil (bytes_put t.0)) ∙ in_order c None bytes t.0 written t.2,
)

-- and here the first of them alone
unsent_at : (c : ChannelId) (bytes : List ℕ) (v w : View) (e : HandleError) (packet : ℕ)
    (rest : List ℕ) → Writes c None bytes v (Err e) w
    → Acts (writes c None) v (to_write bytes) (stands e packet rest) w
    → Sends c bytes v (Err (error.Handle e)) w
unfolding Acts
unsent_at c bytes v w e packet rest t a = (
  a.0,
  record { does = a.1; each = all_data c a.0 (to_write bytes) (stands e packet rest) a.2 },
  (rest_of (stands e packet rest), in_order c None bytes a.0 (stands e packet rest) a.2),
  (bytes, v, t),
)

pub unsent : (c : ChannelId) (bytes : List ℕ) (v w : View) (e : HandleError)
    → Writes c None bytes v (Err e) w → Sends c bytes v (Err (error.Handle e)) w
unsent c bytes v w e t = unsent_at c bytes v w e t.0 t.1 t t.2

pub says_on : (c : ChannelId) (v : View) (xs : List (HubCall × HubReply)) (w : View)
    (ys : List (HubCall × HubReply)) (x : View) → Says c v xs w → Says c w ys x
    → Says c v (xs ++ ys) x
says_on c v xs w ys x a b = record {
  does = did_both v xs w ys x a.does b.does;
  each = all_append (λ one. SendsData c one.0) xs ys a.each b.each;
}

pub put_after : (xs ys : List (HubCall × HubReply)) → bytes_put (xs ++ ys) ≡ bytes_put xs ++ bytes_put ys
put_after [] ys = refl
put_after (x ∷ xs) ys = ap (λ l. piece_put x.0 x.1 ++ l) (put_after xs ys)
    ∙ sym (append_assoc (piece_put x.0 x.1) (bytes_put xs) (bytes_put ys))

-- ---- the next data

module _ (c d : ChannelId) (v w x : View) (calls : List (HubCall × HubReply))
    (msg : Option ChannelMsg) (same : d ≡ c) (so_far : Hears c v calls w)
    (none : data_received calls ≡ []) (next : IsReceived d w msg x) where
  -- one message more
  more : (all : List (HubCall × HubReply)) × Hears c v all x
      × (data_received all ≡ data_heard (heard_in msg))
      × (heard_in msg ≡ heard.End → IsAtEnd all)
  more =
      let t = waited c w msg x (subst (λ k. IsReceived k w msg x) same next) in (
        calls ++ t.0,
        hears_on c v calls w t.0 x so_far t.1,
        received_on calls t.0 ∙ ap (λ z. z ++ data_received t.0) none ∙ t.2,
        λ ends. at_end_on calls t.0 (t.3 ends),
      )

  pub heard_data : (bytes : List ℕ) → heard_in msg ≡ heard.Data bytes → HearsNext c v (Some bytes) x
  heard_data bytes is = (more.0, more.1, more.2 ∙ ap data_heard is)

  pub heard_end : heard_in msg ≡ heard.End → HearsNext c v None x
  heard_end is = (more.0, more.1, more.2 ∙ ap data_heard is, more.3 is)

  pub heard_nothing : heard_in msg ≡ heard.Nothing → (all : List (HubCall × HubReply))
      × Hears c v all x × (data_received all ≡ [])
  heard_nothing is = (more.0, more.1, more.2 ∙ ap data_heard is)
