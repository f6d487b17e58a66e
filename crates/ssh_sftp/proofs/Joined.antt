-- Runs of packets and their answers, one after another.
use Rattle.std.proofs.Common.{◌≡◌, ℕ, ◌+◌, ◌<◌, ◌≤◌, ◌^◌, inl, inr, List, [], ◌∷◌, ◌++◌, length}
use Rattle.std.proofs.Common.{take, drop, sym, ap, refl, subst, ◌∙◌, length-append, append_assoc}
use Rattle.std.proofs.Common.{append-nil, take-append-drop, arith}
use Rattle.std.specs.Prelude.{flat_map}
use Rattle.std.specs.List.{AllByRecursion}
use Rattle.std.proofs.lemmas.List.Concat.{flat_map-append}
use Rattle.ssh_wire.specs.Field.{number, string}
use Rattle.ssh_wire.proofs.Numbers.{number_once}
use Rattle.ssh_sftp_core.specs.Files.{State, answer}
use Rattle.ssh_sftp.specs.Packets.{Splits, IsPacket, IsAtMostWhole, IsFault, most}
use Rattle.ssh_sftp.specs.Replies.{state_after, answers, Serves, Refuses}
use Rattle.ssh_sftp.specs.declared.error.SftpError.{SftpError}
use Rattle.ssh_sftp.specs.declared.error.SftpError.TheVariants as error

-- ---- lists of packets

pub all_append : {A : Type 0} (P : A → Type 0) (xs ys : List A) → AllByRecursion P xs
    → AllByRecursion P ys → AllByRecursion P (xs ++ ys)
all_append P [] ys first second = second
all_append P (x ∷ xs) ys first second = (first.0, all_append P xs ys first.1 second)

after-append : (state : State) (ps qs : List (List ℕ))
    → state_after state (ps ++ qs) ≡ state_after (state_after state ps) qs
after-append state [] qs = refl
after-append state (p ∷ ps) qs = after-append (answer state p).after ps qs

pub answers-append : (state : State) (ps qs : List (List ℕ))
    → answers state (ps ++ qs) ≡ answers state ps ++ answers (state_after state ps) qs
answers-append state [] qs = refl
answers-append state (p ∷ ps) qs =
    let now = answer state p in
    ap (λ z. now.reply ++ z) (answers-append now.after ps qs)
    ∙ sym (append_assoc now.reply (answers now.after ps) (answers (state_after now.after ps) qs))

-- what follows some packets begins with more of them
splits_on : (stream x y left : List ℕ) (ps qs : List (List ℕ)) → Splits stream ps (x ++ left)
    → Splits x qs y → Splits stream (ps ++ qs) (y ++ left)
splits_on stream x y left ps qs first second = record {
  whole = first.whole ∙ ap (λ z. flat_map string ps ++ (z ++ left)) second.whole
      ∙ ap (λ z. flat_map string ps ++ z) (append_assoc (flat_map string qs) y left)
      ∙ sym (append_assoc (flat_map string ps) (flat_map string qs) (y ++ left))
      ∙ ap (λ z. z ++ (y ++ left)) (sym (flat_map-append string ps qs));
  each = all_append IsPacket ps qs first.each second.each;
}

put_on : (a b : State) (ps qs : List (List ℕ)) (old mid new : List ℕ) → b ≡ state_after a ps
    → mid ≡ old ++ answers a ps → new ≡ mid ++ answers b qs → new ≡ old ++ answers a (ps ++ qs)
put_on a b ps qs old mid new state first second =
    second ∙ ap (λ z. z ++ answers b qs) first ∙ append_assoc old (answers a ps) (answers b qs)
    ∙ ap (λ z. old ++ (answers a ps ++ answers z qs)) state
    ∙ ap (λ z. old ++ z) (sym (answers-append a ps qs))

-- ---- one run after another

pub serves_none : (state : State) (stream out : List ℕ) → Serves state stream state stream out out
serves_none state stream out = record {
  packets = [];
  splits = record { whole = refl; each = tt };
  state = refl;
  out = sym (append-nil out);
}

pub serves_on : (a b c : State) (stream x y left old mid new : List ℕ)
    → Serves a stream b (x ++ left) old mid → Serves b x c y mid new
    → Serves a stream c (y ++ left) old new
serves_on a b c stream x y left old mid new first second = record {
  packets = first.packets ++ second.packets;
  splits = splits_on stream x y left first.packets second.packets first.splits second.splits;
  state = second.state ∙ ap (λ z. state_after z second.packets) first.state
      ∙ sym (after-append a first.packets second.packets);
  out = put_on a b first.packets second.packets old mid new first.state first.out second.out;
}

-- what is refused is so whatever else comes
fault_on : (why : SftpError) (rest left : List ℕ) → IsFault rest why → IsFault (rest ++ left) why
fault_on (error.BadLength size) rest left f =
    (f.0 ++ left, (ap (λ z. z ++ left) f.1.0 ∙ append_assoc (number size) f.0 left, f.1.1), f.2)
fault_on error.NoId rest left f =
    (f.0, f.1 ++ left, ap (λ z. z ++ left) f.2 ∙ append_assoc (string f.0) f.1 left, f.3, f.4)
fault_on error.NoMemory rest left f = tt
fault_on (error.Cut n) rest left f = f
fault_on (error.Handle e) rest left f = f
fault_on error.Failed rest left f = f

pub refuses_on : (a b : State) (why : SftpError) (stream x left old mid new : List ℕ)
    → Serves a stream b (x ++ left) old mid → Refuses b x why mid new
    → Refuses a stream why old new
refuses_on a b why stream x left old mid new first second = record {
  packets = first.packets ++ second.packets;
  rest = second.rest ++ left;
  splits =
      splits_on stream x second.rest left first.packets second.packets first.splits second.splits;
  out = put_on a b first.packets second.packets old mid new first.state first.out second.out;
  fault = fault_on why second.rest left second.fault;
}

-- ---- one packet

no_more : (xs : List ℕ) → length xs ≤ 0 → xs ≡ []
no_more [] none = refl
no_more (x ∷ xs) none = absurd (omega (arith, none))

-- where a packet is there, and no more than a packet, nothing stands behind it
whole_packet : (size : ℕ) (rest body packet after : List ℕ) → rest ≡ number size ++ body
    → size < 2 ^ 32 → rest ≡ string packet ++ after → length packet < 2 ^ 32 → IsAtMostWhole rest
    → 4 < size
    → (length packet ≡ size) × (after ≡ [])
whole_packet size rest body packet after is fits spelled packet_fits (inl short) long =
    let parts =
    number_once size (length packet) body (packet ++ after) fits packet_fits (sym is ∙ spelled) in
    let count : length rest ≡ 4 + length (packet ++ after) =
    ap length spelled ∙ length-append (number (length packet)) (packet ++ after) in
    absurd (omega (arith, parts.0, count, length-append packet after, short))
whole_packet size rest body packet after is fits spelled packet_fits (inr most) long =
    let parts =
    number_once size (length packet) body (packet ++ after) fits packet_fits (sym is ∙ spelled) in
    let other = number_once most.0 (length packet) most.1 (packet ++ after) most.2.1 packet_fits
    (sym most.2.0 ∙ spelled) in (
      sym parts.0,
      no_more after
          (omega (arith, ap length other.1, other.0, most.3, length-append packet after)),
    )

-- a whole packet was read and answered, and nothing is kept of it
pub settled : (before after : State)
    (rest read counted spelled body packet past kept old new : List ℕ) (size : ℕ)
    → read ≡ rest → read ≡ counted ++ body → counted ≡ number size → size < 2 ^ 32
    → read ≡ spelled ++ past → spelled ≡ string packet → length packet < 2 ^ 32
    → IsAtMostWhole rest → 4 < size → size ≤ most
    → after ≡ (answer before packet).after → kept ≡ [] → new ≡ old ++ (answer before packet).reply
    → Serves before rest after kept old new
settled before after rest read counted spelled body packet past kept old new size
    same count count_is fits spell spell_is packet_fits at_most long few after_is kept_is new_is =
    let counts : rest ≡ number size ++ body =
    sym same ∙ count ∙ ap (λ z. z ++ body) count_is in
    let spells : rest ≡ string packet ++ past = sym same ∙ spell ∙ ap (λ z. z ++ past) spell_is in
    let one = whole_packet size rest body packet past counts fits spells packet_fits at_most long in
    record {
      packets = packet ∷ [];
      splits = record {
        whole = spells ∙ ap (λ z. string packet ++ z) (one.1 ∙ sym kept_is)
            ∙ ap (λ z. z ++ kept) (sym (append-nil (string packet)));
        each = ((omega (arith, one.0), omega (arith, one.0)), tt);
      };
      state = after_is;
      out = new_is ∙ ap (λ z. old ++ z) (sym (append-nil (answer before packet).reply));
    }

-- ---- pieces

-- a part of what is left was put to what is kept
pub part_taken : (a b : State) (stream rest left part after longer old mid : List ℕ) (n : ℕ)
    → part ≡ take n left → after ≡ drop n left → longer ≡ rest ++ part
    → Serves a stream b (rest ++ left) old mid → Serves a stream b (longer ++ after) old mid
part_taken a b stream rest left part after longer old mid n front back items s =
    let joined : rest ++ left ≡ longer ++ after =
    ap (λ z. rest ++ z) (sym (take-append-drop n left))
    ∙ sym (append_assoc rest (take n left) (drop n left))
    ∙ ap (λ z. (rest ++ z) ++ drop n left) (sym front) ∙ ap (λ z. z ++ drop n left) (sym items)
    ∙ ap (λ z. longer ++ z) (sym back) in
    subst (λ z. Serves a stream b z old mid) joined s

-- a piece more was taken, or refused
pub piece_served : (a b c : State) (stream rest piece left kept old mid new : List ℕ)
    → Serves a stream b (rest ++ (piece ++ left)) old mid → Serves b (rest ++ piece) c kept mid new
    → Serves a stream c (kept ++ left) old new
piece_served a b c stream rest piece left kept old mid new first second =
    serves_on a b c stream (rest ++ piece) kept left old mid new
    (subst (λ z. Serves a stream b z old mid) (sym (append_assoc rest piece left)) first) second

pub piece_refused : (a b : State) (why : SftpError) (stream rest piece left old mid new : List ℕ)
    → Serves a stream b (rest ++ (piece ++ left)) old mid → Refuses b (rest ++ piece) why mid new
    → Refuses a stream why old new
piece_refused a b why stream rest piece left old mid new first second =
    refuses_on a b why stream (rest ++ piece) left old mid new
    (subst (λ z. Serves a stream b z old mid) (sym (append_assoc rest piece left)) first) second
