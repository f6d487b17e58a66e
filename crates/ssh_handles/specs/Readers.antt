-- What a reader that does not wait has, and what a stream has.
use Rattle.std.specs.Prelude.{◌≡◌, ℕ, false, [], Option, None}
use Rattle.ssh_handles.specs.declared.channel.read_half.ChannelReadHalf.{ChannelReadHalf}
use Rattle.ssh_handles.specs.declared.channel.write_half.ChannelWriteHalf.{ChannelWriteHalf}
use Rattle.ssh_handles.specs.declared.reader.ChannelRx.{ChannelRx}
use Rattle.ssh_handles.specs.declared.stream.ChannelStream.{ChannelStream}
use Rattle.ssh_handles.specs.declared.writer.ChannelTx.{ChannelTx}
use Rattle.ssh_handles.specs.Handles.{writer_hub, writer_view, writer_id}
use Rattle.ssh_handles.specs.Writers.{tx_view, IsTxOf}

-- a new reader of data of this type: nothing is taken yet, and the data are not at their end
pub record IsRxOf {H : Type 0} (ext : Option ℕ) (r : ChannelRx H) : Type 0 where
  pub kind : r.ext ≡ ext
  pub unread : r.unread ≡ []
  pub open_still : r.is_over ≡ false

-- the reader and the writer of a stream
abbrev pub stream_rx : ChannelStream → ChannelRx ChannelReadHalf
stream_rx s = s.reader

abbrev pub stream_tx : ChannelStream → ChannelTx
stream_tx s = s.writer

-- a new stream over these two halves
pub record IsStreamOf (read : ChannelReadHalf) (write : ChannelWriteHalf) (s : ChannelStream)
    : Type 0 where
  pub half : (stream_rx s).half ≡ read
  pub reader : IsRxOf None (stream_rx s)
  pub view : tx_view (stream_tx s) ≡ writer_view write
  pub writer : IsTxOf (writer_hub write) (writer_id write) None (stream_tx s)
