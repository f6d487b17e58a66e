-- How many channels digits ask for, and which windows and packet sizes.
use Rattle.std.proofs.Common.{◌≡◌, ◌≢◌, ◌≤◌, ◌<◌, ◌+◌, ◌^◌, ℕ, List, [], ◌∷◌, length, Ok, arith, sym}
use Rattle.std.proofs.Common.{◌∙◌, subst}
use Rattle.std.specs.Fmt.{decimal}
use Rattle.std.proofs.lemmas.Fmt.{decimal_injective}
use Rattle.ssh_scene.specs.Grammar.{IsNumber, IsSmall}
use Rattle.ssh_scene.specs.Scene.{lines_of}
use Rattle.ssh_ends.specs.declared.event.EndEvent.{EndEvent}
use Rattle.ssh_scene_ends.specs.EventLines.{BringsEvents}
use Rattle.ssh_scene_ends.proofs.Counting.{few_events}
use Rattle.ssh_script.specs.Transcript.{IsSize, AreWide, ends_words, longest}

pub other_size : (digits : List ℕ) (n : ℕ) → IsNumber digits n → (IsSize n → ⊥)
    → (channels : ℕ) → IsSize channels → digits ≢ decimal channels
other_size digits n h never channels s e =
    let same : n ≡ channels = decimal_injective n channels h.0 (omega (arith, s.1)) (sym h.1 ∙ e) in
    never (subst IsSize (sym same) s)

-- two ends are not asked for where no window is written, or no packet size
pub no_window : (word window packet : List ℕ) → ((n : ℕ) → IsSmall window n → ⊥)
    → (w p : ℕ) → AreWide w p → word ∷ window ∷ packet ∷ [] ≢ ends_words w p
no_window word window packet none w p wide e =
    let same : window ≡ decimal w = cc in none w (wide.0, same)

pub no_packet : (word window packet : List ℕ) → ((n : ℕ) → IsSmall packet n → ⊥)
    → (w p : ℕ) → AreWide w p → word ∷ window ∷ packet ∷ [] ≢ ends_words w p
no_packet word window packet none w p wide e =
    let same : packet ≡ decimal p = cc in none p (wide.2, same)

-- nor by a packet size of 0
pub packet_of_none : (word window packet : List ℕ) → IsSmall packet 0
    → (w p : ℕ) → AreWide w p → word ∷ window ∷ packet ∷ [] ≢ ends_words w p
packet_of_none word window packet small w p wide e =
    let same : packet ≡ decimal p = cc in
    let is : 0 ≡ p = decimal_injective 0 p (omega arith) (omega (arith, wide.2))
    (sym small.1 ∙ same) in
    absurd (omega (arith, is, wide.1))

-- a script that is not too long has fewer events than a side has numbers
pub few_told : (bytes : List ℕ) (events : List EndEvent) → length bytes ≤ longest
    → BringsEvents (lines_of bytes) (Ok events) → length events + 1 < 2 ^ 32
few_told bytes events short h =
    let few = few_events bytes events h in omega (arith, few, short)
