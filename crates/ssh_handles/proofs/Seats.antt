-- Seats that were made, and joined again.
use Rattle.std.proofs.Common.{
  ◌≡◌,
  [],
  ◌∷◌,
  true,
  false,
  Bool,
  Option,
  Some,
  None,
  Ok,
  sym,
  subst,
}
use Rattle.ssh_wire.specs.declared.channel_id.ChannelId.{ChannelId}
use Rattle.ssh_link.specs.declared.command.Command.{Command}
use Rattle.ssh_hub.specs.Words.{Makes}
use Rattle.ssh_hub.specs.Does.{Does}
use Rattle.ssh_hub.specs.declared.history.HubCall.TheVariants.{SplitSeat, ClaimChannel}
use Rattle.ssh_hub.specs.declared.history.HubReply.TheVariants.{SeatIs, Claimed}
use Rattle.ssh_hub.specs.declared.history.View.{View}
use Rattle.ssh_hub.specs.declared.lock.HubLock.{HubLock}
use Rattle.ssh_hub.proofs.Did.{did_one}
use Rattle.ssh_hub.proofs.Following.{did_then_none}
use Rattle.ssh_handles.specs.declared.channel.Channel.{Channel}
use Rattle.ssh_handles.specs.Parts.{MakesSeat, MakesTwo, MadeNone, joined, Opens}
use Rattle.ssh_handles.specs.Handles.{
  reader_view,
  writer_view,
  reader_id,
  IsChannelOf,
  OpensChannel,
  GivesChannel,
}

-- a seat was made, and another was not; the first was joined again
pub joined_again : (v x y w made : View) → MakesSeat v x made → y ≡ x → Does y [] w → MadeNone v w
joined_again v x y w made m same none = joined made.number
    (did_then_none v ((SplitSeat, SeatIs made.number) ∷ []) x w
    (did_one v SplitSeat (SeatIs made.number) x m.0) (subst (λ (u : View). Does u [] w) same none))

seats_as : (v x one two one' two' : View) → one' ≡ one → two' ≡ two → MakesTwo v x one two
    → MakesTwo v x one' two'
seats_as v x one two one' two' a b m = subst (λ (u : View). MakesTwo v x u two') (sym a)
    (subst (λ (u : View). MakesTwo v x one u) (sym b) m)

-- the channel that was opened
pub opens_channel : (lock same : HubLock) (msg : Command) (v x one two : View) (id : ChannelId)
    (w : View) (c : Channel) → MakesTwo v x one two → Opens msg x (Ok id) w → reader_view c.read ≡ one
    → writer_view c.write ≡ two → same ≡ lock → IsChannelOf same id c
    → OpensChannel lock msg v (Ok c) w
opens_channel lock same msg v x one two id w c made opens read write is of = (
  x,
  seats_as v x one two (reader_view c.read) (writer_view c.write) read write made,
  subst (λ (i : ChannelId). Opens msg x (Ok i) w) (sym of.read_id) opens,
  subst (λ (i : ChannelId). IsChannelOf lock i c) (sym of.read_id)
      (subst (λ (l : HubLock). IsChannelOf l id c) is of),
)

claimed_as : (v w : View) (id : ChannelId) (b b' : Bool) → b ≡ b'
    → Makes v (ClaimChannel id) (Claimed b) w → Makes v (ClaimChannel id) (Claimed b') w
claimed_as v w id b b' is made = subst (λ (x : Bool). Makes v (ClaimChannel id) (Claimed x) w) is
    made

-- the channel that was claimed
pub gives_channel : (lock same : HubLock) (v x one two : View) (id : ChannelId) (b : Bool)
    (w : View) (c : Channel) → MakesTwo v x one two → Makes x (ClaimChannel id) (Claimed b) w
    → b ≡ true → reader_view c.read ≡ one → writer_view c.write ≡ two → same ≡ lock
    → IsChannelOf same id c → GivesChannel lock id v (Ok (Some c)) w
gives_channel lock same v x one two id b w c made claimed is read write hub of = (
  x,
  seats_as v x one two (reader_view c.read) (writer_view c.write) read write made,
  claimed_as x w id b true is claimed,
  subst (λ (l : HubLock). IsChannelOf l id c) hub of,
)

-- the channel that was not there to be claimed
pub gives_none : (lock : HubLock) (v x one two : View) (id : ChannelId) (b : Bool) (y z w : View)
    → MakesTwo v x one two → Makes x (ClaimChannel id) (Claimed b) y → b ≡ false → Does y [] z
    → Does z [] w → GivesChannel lock id v (Ok None) w
gives_none lock v x one two id b y z w made claimed is first second = (
  x,
  one,
  two,
  y,
  made,
  claimed_as x y id b false is claimed,
  did_then_none y [] z w first second,
)
