-- What an event makes of one channel of a side (RFC 4254 section 5).
use Rattle.std.specs.Prelude.{ℕ, Bool, false, not, cond, List, [], ◌∷◌, ◌++◌, length}
use Rattle.std.specs.Prelude.{map, Option, Some, None}
use Rattle.ssh_channels.specs.declared.params.ChannelParams.{ChannelParams}
use Rattle.ssh_channels.specs.declared.chunk.Chunk.{Chunk}
use Rattle.ssh_channels.specs.declared.chunk.DataKind.{DataKind}
use Rattle.ssh_channels.specs.declared.adjusted.Adjusted.{Adjusted}
use Rattle.ssh_channels.specs.declared.adjusted.Adjusted.TheVariants.{Dropped, Kept, Granted}
use Rattle.ssh_channels.specs.Cut.{piece_limit, cut}
use Rattle.ssh_channels.specs.Entry.{tagged}
use Rattle.ssh_channels.specs.Line as line
use Rattle.ssh_channels.specs.Window.{adjusting, adjusted, aimed}
use Rattle.ssh_ends.specs.Saying.{Saying, Open, Confirm, Grant, Data, Eof, Close}

-- the channel after it, or none where it is gone; what the side says then; and the bytes of data,
-- each with its kind, that the side accepted and that it delivered
pub record Change : Type 0 where
  pub after : Option ChannelParams
  pub says : List Saying
  pub accepts : List (DataKind × ℕ)
  pub delivers : List (DataKind × ℕ)

abbrev pub silent : Option ChannelParams → Change
silent after = record { after = after; says = []; accepts = []; delivers = [] }

abbrev pub saying : List Saying → Option ChannelParams → Change
saying says after = record (silent after) { says = says }

abbrev pub unchanged : ChannelParams → Change
unchanged l = silent (Some l)

-- ---- what a side says, in the order in which the frames of its table are written

-- what waits, as far as the credit goes
abbrev pub data_out : ChannelParams → List Saying
data_out l =
    map Data (cut (piece_limit l.recipient_maximum_packet_size) l.recipient_window_size l.waiting)

-- the EOF and the CLOSE that were deferred, once nothing waits
abbrev pub ends_out : (done : Bool) → ChannelParams → List Saying
ends_out done l = cond done
    (cond l.pending_eof (Eof ∷ []) [] ++ cond l.pending_close (Close ∷ []) [])
    []

abbrev pub all_out : ChannelParams → List Saying
all_out l = data_out l ++ ends_out (line.nothing_waits (line.flushed l)) l

abbrev pub grant_out : (amount : ℕ) → ChannelParams → List Saying
grant_out amount l = data_out l ++ all_out (line.granted amount l)

abbrev pub adjust_out : Adjusted → List Saying
adjust_out Dropped = []
adjust_out Kept = []
adjust_out (Granted amount) = Grant amount ∷ []

-- ---- what the side itself does

abbrev pub sending : Chunk → ChannelParams → Change
sending chunk l = cond (line.may_send l)
    (record {
      after = Some (line.taking chunk false l);
      says = cond (not (line.nothing_waits l)) [] (data_out (line.alone chunk l));
      accepts = tagged chunk;
      delivers = [];
    })
    (unchanged l)

abbrev pub ending : ChannelParams → Change
ending l = cond (line.may_send l)
    (saying (cond (line.nothing_waits l) (Eof ∷ []) []) (Some (line.ending l)))
    (unchanged l)

abbrev pub closing : ChannelParams → Change
closing l = cond (line.may_close l)
    (saying (cond (line.nothing_waits l) (Close ∷ []) []) (line.closing l))
    (unchanged l)

abbrev pub aiming : (target : ℕ) → ChannelParams → Change
aiming target l = silent (Some (aimed target l))

-- ---- what comes of a message that it takes; the other side has the number peer

-- data that the room has a place for are delivered
abbrev pub hearing_data : Adjusted → Chunk → ChannelParams → List (DataKind × ℕ)
hearing_data Dropped piece l = []
hearing_data adjusted piece l = tagged piece

abbrev pub coming : Chunk → ChannelParams → Adjusted
coming piece l = adjusting (length piece.bytes) l.target l

abbrev pub hearing : (peer : ℕ) → Saying → ChannelParams → Change
hearing peer (Open window packet) l = unchanged l
hearing peer (Confirm window packet) l = cond (line.is_opening l)
    (silent (Some (line.confirmed_by peer window packet l)))
    (unchanged l)
hearing peer (Grant amount) l = cond l.confirmed
    (saying (grant_out amount l) (line.stays (line.granted amount l)))
    (unchanged l)
hearing peer (Data piece) l = record {
  after = Some (adjusted (length piece.bytes) l.target l);
  says = adjust_out (coming piece l);
  accepts = [];
  delivers = hearing_data (coming piece l) piece l;
}
hearing peer Eof l = unchanged l
hearing peer Close l = cond l.confirmed (saying (Close ∷ []) None) (unchanged l)
