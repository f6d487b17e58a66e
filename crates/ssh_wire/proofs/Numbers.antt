-- Numbers and strings spell at most one value (RFC 4251 section 5).
use Rattle.std.proofs.Common.{◌≡◌, ℕ, ◌+◌, ◌<◌, ◌^◌, List, ◌++◌, length, get_or, take, drop, sym}
use Rattle.std.proofs.Common.{ap, refl, ◌∙◌, length-append}
use Rattle.std.specs.Int.{w32, w64, to_be_bytes, from_be_bytes}
use Rattle.std.proofs.lemmas.Nat.{be_bytes_8, from_be_bytes-to_be_bytes_4}
use Rattle.std.proofs.lemmas.Nat.{from_be_bytes-to_be_bytes_8}
use Rattle.std.proofs.Math.Seq.{take-append_seam, drop-append_seam}
use Rattle.ssh_wire.specs.Field.{number, string, Long, Spells}

-- eight bytes spell the number that they were read as
pub spells_long : (bytes : List ℕ) (n : ℕ) → length bytes ≡ 8 → ((i : ℕ) → get_or bytes i 0 < 256)
    → n < 2 ^ 64 → n ≡ from_be_bytes w64 bytes
    → Spells Long n bytes
spells_long bytes n whole small fits is = (fits, sym (be_bytes_8 bytes n whole small is))

-- two parts of one length are told apart from what follows them
pub parts_once : (a b x y : List ℕ) → length a ≡ length b → a ++ x ≡ b ++ y → (a ≡ b) × (x ≡ y)
parts_once a b x y same is = (
  sym (take-append_seam a x) ∙ ap (take (length a)) is ∙ ap (λ n. take n (b ++ y)) same
      ∙ take-append_seam b y,
  sym (drop-append_seam a x) ∙ ap (drop (length a)) is ∙ ap (λ n. drop n (b ++ y)) same
      ∙ drop-append_seam b y,
)

pub number_once : (m n : ℕ) (a b : List ℕ) → m < 2 ^ 32 → n < 2 ^ 32 → number m ++ a ≡ number n ++ b
    → (m ≡ n) × (a ≡ b)
number_once m n a b m-fits n-fits is =
    let parts = parts_once (number m) (number n) a b refl is in (
      sym (from_be_bytes-to_be_bytes_4 m m-fits) ∙ ap (from_be_bytes w32) parts.0
          ∙ from_be_bytes-to_be_bytes_4 n n-fits,
      parts.1,
    )

pub long_once : (m n : ℕ) (a b : List ℕ) → m < 2 ^ 64 → n < 2 ^ 64
    → to_be_bytes w64 m ++ a ≡ to_be_bytes w64 n ++ b → (m ≡ n) × (a ≡ b)
long_once m n a b m-fits n-fits is =
    let parts = parts_once (to_be_bytes w64 m) (to_be_bytes w64 n) a b refl is in (
      sym (from_be_bytes-to_be_bytes_8 m m-fits) ∙ ap (from_be_bytes w64) parts.0
          ∙ from_be_bytes-to_be_bytes_8 n n-fits,
      parts.1,
    )

pub string_once : (s t a b : List ℕ) → length s < 2 ^ 32 → length t < 2 ^ 32
    → string s ++ a ≡ string t ++ b → (s ≡ t) × (a ≡ b)
string_once s t a b s-fits t-fits is =
    let lengths = number_once (length s) (length t) (s ++ a) (t ++ b) s-fits t-fits is in
    parts_once s t a b lengths.0 lengths.1

-- how long a string is, and what its first four bytes say
pub string_size : (text : List ℕ) → length (string text) ≡ 4 + length text
string_size text = length-append (number (length text)) text

pub string_length : (text after : List ℕ) → length text < 2 ^ 32
    → from_be_bytes w32 (take 4 (string text ++ after)) ≡ length text
string_length text after fits = from_be_bytes-to_be_bytes_4 (length text) fits
