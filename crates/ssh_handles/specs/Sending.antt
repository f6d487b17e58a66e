-- What a source gives is read and written on a channel, piece by piece.
use Rattle.std.specs.Prelude.{◌≡◌, ◌⊎◌, ℕ, ◌-◌, ◌^◌, min, List, [], ◌∷◌, ◌++◌, length}
use Rattle.std.specs.Prelude.{Option, Result, Ok, Err}
use Rattle.std.specs.List.{concat}
use Rattle.ssh_wire.specs.declared.channel_id.ChannelId.{ChannelId}
use Rattle.ssh_link.specs.Io.{Takes, AtEnd}
use Rattle.ssh_hub.specs.declared.answers.HandleError.{HandleError}
use Rattle.ssh_hub.specs.declared.answers.HandleError.TheVariants.{ReadFault}
use Rattle.ssh_hub.specs.declared.history.View.{View}
use Rattle.ssh_handles.specs.Writing.{Writes}

-- a count of bytes, which stays at its end once it has come there
abbrev pub counted : ℕ → ℕ
counted n = min n (2 ^ 64 - 1)

-- just these bytes were read, where the source tells what is left of it
abbrev pub IsReadOff : Option (List ℕ) → Option (List ℕ) → List ℕ → Type 0
IsReadOff left left' bytes = Takes left left' (length bytes) bytes

-- the seat put every byte of these pieces, one piece after another
abbrev pub PutsAll : ChannelId → Option ℕ → List (List ℕ) → View → View → Type 0
PutsAll c ext [] v w = w ≡ v
PutsAll c ext (piece ∷ pieces) v w =
    (x : View) × Writes c ext piece v (Ok tt) x × PutsAll c ext pieces x w

-- the source failed behind these bytes; or the piece that was read behind them was not put whole
abbrev pub SendsNoMore : ChannelId → Option ℕ → Option (List ℕ) → Option (List ℕ) → List ℕ → View
    → HandleError → View → Type 0
SendsNoMore c ext left left' bytes v e w =
    ((e ≡ ReadFault) × IsReadOff left left' bytes × (w ≡ v))
    ⊎ ((piece : List ℕ) × IsReadOff left left' (bytes ++ piece) × Writes c ext piece v (Err e) w)

-- the seat put every byte of the source, piece by piece, and the answer is their count; or so it did
-- up to an error
abbrev pub Sends : ChannelId → Option ℕ → Option (List ℕ) → Option (List ℕ) → View
    → Result ℕ HandleError → View → Type 0
Sends c ext left left' v (Ok count) w = (pieces : List (List ℕ))
    × PutsAll c ext pieces v w
    × IsReadOff left left' (concat pieces)
    × AtEnd left'
    × (count ≡ counted (length (concat pieces)))
Sends c ext left left' v (Err e) w = (pieces : List (List ℕ)) × (x : View)
    × PutsAll c ext pieces v x
    × SendsNoMore c ext left left' (concat pieces) x e w
