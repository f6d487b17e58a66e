-- What a writer that does not wait has.
use Rattle.std.specs.Prelude.{◌≡◌, ℕ, false, List, [], Option, Result}
use Rattle.ssh_wire.specs.declared.channel_id.ChannelId.{ChannelId}
use Rattle.ssh_link.specs.declared.command.Command.TheVariants.{Close}
use Rattle.ssh_hub.specs.declared.answers.HandleError.{HandleError}
use Rattle.ssh_hub.specs.declared.history.View.{View}
use Rattle.ssh_hub.specs.declared.lock.HubLock.{HubLock}
use Rattle.ssh_handles.specs.declared.writer.ChannelTx.{ChannelTx}
use Rattle.ssh_handles.specs.Callers.{hub_of, seen_by, IsPut}
use Rattle.ssh_handles.specs.Staging.{GivesBack}

-- its hub, what its seat knows, its channel, the type of its data, and the message that is kept
abbrev pub tx_hub : ChannelTx → HubLock
tx_hub t = hub_of t.caller

abbrev pub tx_view : ChannelTx → View
tx_view t = seen_by t.caller

abbrev pub tx_id : ChannelTx → ChannelId
tx_id t = t.channel

abbrev pub tx_ext : ChannelTx → Option ℕ
tx_ext t = t.ext

abbrev pub tx_kept : ChannelTx → List ℕ
tx_kept t = t.staged

abbrev pub IsSameTx : ChannelTx → ChannelTx → Type 0
IsSameTx t u = (tx_hub u ≡ tx_hub t) × (tx_id u ≡ tx_id t) × (tx_ext u ≡ tx_ext t)

-- a new writer on this channel, for data of this type
pub record IsTxOf (lock : HubLock) (id : ChannelId) (ext : Option ℕ) (t : ChannelTx) : Type 0 where
  pub hub : tx_hub t ≡ lock
  pub channel : tx_id t ≡ id
  pub kind : tx_ext t ≡ ext
  pub kept : tx_kept t ≡ []

-- what is kept is given back, and a close put, again while there is no room
abbrev pub Closes : ChannelId → List ℕ → View → Result ℕ HandleError → View → Type 0
Closes c kept v answer w = (x : View) × GivesBack c kept v x × IsPut (Close c) 0 false x answer w
