-- The packets that a stream begins with are one list.
use Rattle.std.proofs.Common.{◌≡◌, ℕ, ◌+◌, ◌<◌, ◌≤◌, ◌^◌, inl, inr, List, [], ◌∷◌, ◌++◌, length}
use Rattle.std.proofs.Common.{true, false, take, drop, sym, ap, refl, subst, ◌∙◌, length-append}
use Rattle.std.proofs.Common.{append_assoc, append-nil, arith}
use Rattle.std.specs.Prelude.{flat_map, ◌&&◌, ◌||◌, ◌==◌, nat_le, nat_lt, if◌then◌else◌}
use Rattle.std.specs.Prelude.{Some, None}
use Rattle.std.specs.List.{AllByRecursion}
use Rattle.std.proofs.lemmas.Nat.{from_be_bytes-to_be_bytes_4}
use Rattle.std.proofs.Math.Seq.{take-append_seam, drop-append_seam}
use Rattle.ssh_wire.specs.Field.{number, string}
use Rattle.ssh_wire.proofs.Numbers.{number_once, parts_once}
use Rattle.ssh_sftp_core.specs.Files.{State, fresh}
use Rattle.ssh_sftp_core.specs.Layouts.{said}
use Rattle.ssh_sftp.specs.Packets.{Splits, IsPacket, IsPartial, IsFault, most, begins_whole}
use Rattle.ssh_sftp.specs.Packets.{packets_within, packets, left_of, fault_in}
use Rattle.ssh_sftp.specs.Replies.{answers, Serves, Refuses, IsAnswered, IsFaulty}
use Rattle.ssh_sftp.specs.Replies.{IsUnfinished, IsRefused}
use Rattle.ssh_sftp.specs.declared.error.SftpError.{SftpError}
use Rattle.ssh_sftp.specs.declared.error.SftpError.TheVariants as error

said_is : (n : ℕ) (body : List ℕ) → n < 2 ^ 32 → said (number n ++ body) ≡ n
said_is n body fits = from_be_bytes-to_be_bytes_4 n fits

-- ---- what comes first

is_whole : (n size : ℕ) → 4 < n → n ≤ most → 4 + n ≤ size
    → (nat_lt 4 n && nat_le n most && nat_le (4 + n) size) ≡ true
is_whole n size long few there = grind (arith, long, few, there)

is_short : (n size : ℕ) → size < 4 + n
    → (nat_lt 4 n && nat_le n most && nat_le (4 + n) size) ≡ false
is_short n size short = grind (arith, short)

is_small : (n size : ℕ) → n < 5
    → (nat_lt 4 n && nat_le n most && nat_le (4 + n) size) ≡ false
is_small n size small = grind (arith, small)

is_large : (n size : ℕ) → most < n
    → (nat_lt 4 n && nat_le n most && nat_le (4 + n) size) ≡ false
is_large n size large = grind (arith, large)

-- where a packet is, it comes first
first_packet : (n : ℕ) (es packet after : List ℕ) → n ≡ length packet → IsPacket packet
    → (if (nat_lt 4 n && nat_le n most && nat_le (4 + n) (length (string packet ++ after)))
    then take n (drop 4 (string packet ++ after))
    ∷ packets_within es (drop (4 + n) (string packet ++ after))
    else []) ≡ packet ∷ packets_within es after
first_packet n es packet after is good =
    let size : length (string packet ++ after) ≡ 4 + length packet + length after =
    length-append (string packet) after
    ∙ ap (λ z. z + length after) (length-append (number (length packet)) packet) in
    let test = is_whole n (length (string packet ++ after)) (omega (arith, is, good.0))
    (omega (arith, is, good.1)) (omega (arith, is, size)) in
    let head : take n (packet ++ after) ≡ packet =
    ap (λ z. take z (packet ++ after)) is ∙ take-append_seam packet after in
    let whole : 4 + n ≡ length (string packet) =
    ap (λ z. 4 + z) is ∙ sym (length-append (number (length packet)) packet) in
    let tail : drop (4 + n) (string packet ++ after) ≡ after =
    ap (λ z. drop z (string packet ++ after)) whole ∙ drop-append_seam (string packet) after in
    ap (λ t. if t
    then take n (packet ++ after) ∷ packets_within es (drop (4 + n) (string packet ++ after))
    else []) test
    ∙ ap (λ z. z ∷ packets_within es (drop (4 + n) (string packet ++ after))) head
    ∙ ap (λ z. packet ∷ packets_within es z) tail

-- less than a packet, or what is no packet, begins with none
pub none_partial : (rest : List ℕ) → IsPartial rest → begins_whole rest ≡ false
none_partial rest (inl short) =
    is_short (said rest) (length rest) (omega (arith, short))
none_partial rest (inr (n, body, begins, some, few, less)) =
    let counts : said rest ≡ n = ap said begins.0 ∙ said_is n body begins.1 in
    let size : length rest ≡ 4 + length body =
    ap length begins.0 ∙ length-append (number n) body in
    is_short (said rest) (length rest) (omega (arith, counts, size, less))

pub none_faulty : (why : SftpError) (rest : List ℕ) → (why ≡ error.NoMemory → ⊥) → IsFault rest why
    → begins_whole rest ≡ false
none_faulty (error.BadLength n) rest known (body, begins, inl nothing) =
    let counts : said rest ≡ n = ap said begins.0 ∙ said_is n body begins.1 in
    is_small (said rest) (length rest) (omega (arith, counts, nothing))
none_faulty (error.BadLength n) rest known (body, begins, inr large) =
    let counts : said rest ≡ n = ap said begins.0 ∙ said_is n body begins.1 in
    is_large (said rest) (length rest) (omega (arith, counts, large))
none_faulty error.NoId rest known (packet, after, is, some, few) =
    let counts : said rest ≡ length packet =
    ap said is ∙ said_is (length packet) (packet ++ after) (omega (arith, few)) in
    is_small (said rest) (length rest) (omega (arith, counts, few))
none_faulty error.NoMemory rest known fault = absurd (known refl)
none_faulty (error.Cut n) rest known fault = absurd fault
none_faulty (error.Handle e) rest known fault = absurd fault
none_faulty error.Failed rest known fault = absurd fault

-- ---- all that come first

-- some packets, and then those that the rest begins with
within : (enough : List ℕ) (ps : List (List ℕ)) (rest : List ℕ) → AllByRecursion IsPacket ps
    → length (flat_map string ps) ≤ length enough
    → packets_within enough (flat_map string ps ++ rest)
    ≡ ps ++ packets_within (drop (length ps) enough) rest
within enough [] rest all there = refl
within [] (p ∷ ps) rest all there =
    absurd (omega (arith, there, length-append (number (length p)) (p ++ flat_map string ps)))
within (e ∷ es) (p ∷ ps) rest all there =
    let size : length (flat_map string (p ∷ ps)) ≡ 4 + length (p ++ flat_map string ps) =
    length-append (number (length p)) (p ++ flat_map string ps) in
    ap (packets_within (e ∷ es)) (append_assoc (string p) (flat_map string ps) rest)
    ∙ first_packet (said (string p ++ (flat_map string ps ++ rest))) es p
    (flat_map string ps ++ rest)
    (said_is (length p) (p ++ (flat_map string ps ++ rest)) (omega (arith, all.0.1))) all.0
    ∙ ap (λ z. p ∷ z) (within es ps rest all.1
    (omega (arith, there, size, length-append p (flat_map string ps))))

pub first_ones : (stream : List ℕ) (ps : List (List ℕ)) (rest : List ℕ) → Splits stream ps rest
    → packets stream ≡ ps ++ packets_within (drop (length ps) stream) rest
first_ones stream ps rest splits =
    ap (packets_within stream) splits.whole
    ∙ within stream ps rest splits.each
    (omega (arith, ap length splits.whole, length-append (flat_map string ps) rest))

none_within : (enough rest : List ℕ) → begins_whole rest ≡ false → packets_within enough rest ≡ []
none_within [] rest none = refl
none_within (e ∷ es) rest none = ap (λ t. if t
    then take (said rest) (drop 4 rest) ∷ packets_within es (drop (4 + said rest) rest)
    else []) none

pub all_of_them : (stream : List ℕ) (ps : List (List ℕ)) (rest : List ℕ) → Splits stream ps rest
    → begins_whole rest ≡ false → packets stream ≡ ps
all_of_them stream ps rest splits none =
    first_ones stream ps rest splits
    ∙ ap (λ z. ps ++ z) (none_within (drop (length ps) stream) rest none) ∙ append-nil ps

-- ---- the answers to them

pub answered_is : (b : State) (stream rest old new : List ℕ)
    → Serves fresh stream b (rest ++ []) old new → IsPartial rest → IsAnswered stream old new
answered_is b stream rest old new s partial =
    let splits = subst (λ z. Splits stream s.packets z) (append-nil rest) s.splits in
    let are = all_of_them stream s.packets rest splits (none_partial rest partial) in
    record {
      rest = rest;
      splits = subst (λ z. Splits stream z rest) (sym are) splits;
      partial = partial;
      out = s.out ∙ ap (λ z. old ++ answers fresh z) (sym are);
    }

faulty_is : (why : SftpError) (stream old new : List ℕ) → (why ≡ error.NoMemory → ⊥)
    → Refuses fresh stream why old new → IsFaulty stream why old new
faulty_is why stream old new known r =
    let are = all_of_them stream r.packets r.rest r.splits (none_faulty why r.rest known r.fault) in
    record {
      rest = r.rest;
      splits = subst (λ z. Splits stream z r.rest) (sym are) r.splits;
      fault = r.fault;
      out = r.out ∙ ap (λ z. old ++ answers fresh z) (sym are);
    }

unfinished_is : (stream old new : List ℕ) → Refuses fresh stream error.NoMemory old new
    → IsUnfinished stream old new
unfinished_is stream old new r = record {
  some = r.packets;
  others = packets_within (drop (length r.packets) stream) r.rest;
  are = first_ones stream r.packets r.rest r.splits;
  out = r.out;
}

pub refused_is : (why : SftpError) (stream old new : List ℕ) → Refuses fresh stream why old new
    → IsRefused stream why old new
refused_is error.NoMemory stream old new r = unfinished_is stream old new r
refused_is (error.BadLength n) stream old new r =
    faulty_is (error.BadLength n) stream old new (λ is. cc) r
refused_is error.NoId stream old new r = faulty_is error.NoId stream old new (λ is. cc) r
refused_is (error.Cut n) stream old new r = absurd r.fault
refused_is (error.Handle e) stream old new r = absurd r.fault
refused_is error.Failed stream old new r = absurd r.fault

-- ---- a fault is no part of a packet

apart : (why : SftpError) (rest : List ℕ) → (why ≡ error.NoMemory → ⊥) → IsFault rest why
    → IsPartial rest → ⊥
apart (error.BadLength n) rest known (body, begins, bad) (inl short) =
    omega (arith, short, ap length begins.0, length-append (number n) body)
apart (error.BadLength n) rest known (body, begins, bad) (inr (m, other, is, some, few, less)) =
    let parts = number_once n m body other begins.1 is.1 (sym begins.0 ∙ is.0) in
    elim bad [
      | inl nothing ↦ omega (arith, parts.0, nothing, some)
      | inr large ↦ omega (arith, parts.0, large, few)
    ]
apart error.NoId rest known (packet, after, is, some, few) (inl short) =
    omega (arith, short, ap length is, length-append (number (length packet)) (packet ++ after))
apart error.NoId rest known (packet, after, is, one, four)
    (inr (m, other, begins, some, few, less)) =
    let parts = number_once (length packet) m (packet ++ after) other (omega (arith, four))
    begins.1 (sym is ∙ begins.0) in
    omega (arith, parts.0, ap length parts.1, length-append packet after, less)
apart error.NoMemory rest known fault partial = known refl
apart (error.Cut n) rest known fault partial = fault
apart (error.Handle e) rest known fault partial = fault
apart error.Failed rest known fault partial = fault

pub never_both : (stream : List ℕ) (why : SftpError) (a b c d : List ℕ)
    → (why ≡ error.NoMemory → ⊥) → IsFaulty stream why a b → IsAnswered stream c d → ⊥
never_both stream why a b c d known faulty answered =
    let front = flat_map string (packets stream) in
    let same : faulty.rest ≡ answered.rest =
    (parts_once front front faulty.rest answered.rest refl
    (sym faulty.splits.whole ∙ answered.splits.whole)).1 in
    apart why answered.rest known (subst (λ z. IsFault z why) same faulty.fault) answered.partial

-- ---- what is left, and its fault

pub left_is : (stream rest : List ℕ) → Splits stream (packets stream) rest → left_of stream ≡ rest
left_is stream rest splits =
    let front = flat_map string (packets stream) in
    ap (λ z. drop (length front) z) splits.whole ∙ drop-append_seam front rest

short_fine : (n size : ℕ) → size < 4 → (if nat_lt size 4 then None
    else if (n == 0) || nat_lt most n then Some (error.BadLength n)
    else if nat_lt n 5 && nat_le (4 + n) size then Some error.NoId else None) ≡ None
short_fine n size short = grind (arith, short)

partial_fine : (n size : ℕ) → 4 ≤ size → 0 < n → n ≤ most → size < 4 + n → (if nat_lt size 4 then None
    else if (n == 0) || nat_lt most n then Some (error.BadLength n)
    else if nat_lt n 5 && nat_le (4 + n) size then Some error.NoId else None) ≡ None
partial_fine n size long some few short = grind (arith, long, some, few, short)

-- less than a packet has no fault
pub no_fault : (rest : List ℕ) → IsPartial rest → fault_in rest ≡ None
no_fault rest (inl short) = short_fine (said rest) (length rest) short
no_fault rest (inr (n, body, begins, some, few, less)) =
    let counts : said rest ≡ n = ap said begins.0 ∙ said_is n body begins.1 in
    let size : length rest ≡ 4 + length body =
    ap length begins.0 ∙ length-append (number n) body in
    partial_fine (said rest) (length rest) (omega (arith, size)) (omega (arith, counts, some))
    (omega (arith, counts, few)) (omega (arith, counts, size, less))

large_bad : (n size : ℕ) → 4 ≤ size → most < n → (if nat_lt size 4 then None
    else if (n == 0) || nat_lt most n then Some (error.BadLength n)
    else if nat_lt n 5 && nat_le (4 + n) size then Some error.NoId else None)
    ≡ Some (error.BadLength n)
large_bad n size long large = grind (arith, long, large)

none_bad : (n size : ℕ) → 4 ≤ size → n ≡ 0 → (if nat_lt size 4 then None
    else if (n == 0) || nat_lt most n then Some (error.BadLength n)
    else if nat_lt n 5 && nat_le (4 + n) size then Some error.NoId else None)
    ≡ Some (error.BadLength n)
none_bad n size long none = grind (arith, long, none)

small_bad : (n size : ℕ) → 4 ≤ size → 0 < n → n < 5 → 4 + n ≤ size → (if nat_lt size 4 then None
    else if (n == 0) || nat_lt most n then Some (error.BadLength n)
    else if nat_lt n 5 && nat_le (4 + n) size then Some error.NoId else None) ≡ Some error.NoId
small_bad n size long some few whole = grind (arith, long, some, few, whole)

-- a fault is the fault of what begins so
pub fault_is : (why : SftpError) (rest : List ℕ) → (why ≡ error.NoMemory → ⊥) → IsFault rest why
    → fault_in rest ≡ Some why
fault_is (error.BadLength n) rest known (body, begins, bad) =
    let counts : said rest ≡ n = ap said begins.0 ∙ said_is n body begins.1 in
    let size : 4 ≤ length rest =
    omega (arith, ap length begins.0, length-append (number n) body) in
    elim bad [
      | inl nothing ↦ none_bad (said rest) (length rest) size (counts ∙ nothing)
          ∙ ap (λ z. Some (error.BadLength z)) counts
      | inr large ↦ large_bad (said rest) (length rest) size (omega (arith, counts, large))
          ∙ ap (λ z. Some (error.BadLength z)) counts
    ]
fault_is error.NoId rest known (packet, after, is, some, few) =
    let counts : said rest ≡ length packet =
    ap said is ∙ said_is (length packet) (packet ++ after) (omega (arith, few)) in
    let size : length rest ≡ 4 + length packet + length after = ap length is
    ∙ length-append (string packet) after
    ∙ ap (λ z. z + length after) (length-append (number (length packet)) packet) in
    small_bad (said rest) (length rest) (omega (arith, size)) (omega (arith, counts, some))
    (omega (arith, counts, few)) (omega (arith, counts, size))
fault_is error.NoMemory rest known fault = absurd (known refl)
fault_is (error.Cut n) rest known fault = absurd fault
fault_is (error.Handle e) rest known fault = absurd fault
fault_is error.Failed rest known fault = absurd fault
