-- Two ends of a connection in memory, the frames that are under way between them, and how they keep
-- what the events make of two sides.
use Rattle.std.specs.Prelude.{◌≡◌, ◌≤◌, ◌<◌, ◌+◌, ◌^◌, ℕ, false, List, [], ◌∷◌, ◌++◌, map}
use Rattle.std.specs.Prelude.{Option, Some, None, Bool, length, ◌==◌, ◌&&◌}
use Rattle.ssh_link.specs.Frames.{Frame}
use Rattle.ssh_channels.specs.declared.params.ChannelParams.{ChannelParams}
use Rattle.ssh_channels.specs.Layout.{chunk}
use Rattle.ssh_channels.specs.Table.{Table, line_at}
use Rattle.ssh_channels.specs.Numbers.{empty, next_number}
use Rattle.ssh_channels.specs.Calls as calls
use Rattle.ssh_ends.specs.End.{EndTable, with_table, kind_of, opens, Takes, TakesNot}
use Rattle.ssh_ends.specs.Saying.{frame_of}
use Rattle.ssh_ends.specs.Pair.{Party}
use Rattle.ssh_ends.specs.Run.{AreRanged, FewDraws, Holds, after, delivers}
use Rattle.ssh_ends.specs.declared.end.Delivered.{Delivered}
use Rattle.ssh_ends.specs.declared.error.EndError.{EndError}
use Rattle.ssh_ends.specs.declared.error.EndError.TheVariants as error
use Rattle.ssh_ends.specs.declared.event.EndEvent.{EndEvent}
use Rattle.ssh_ends.specs.declared.event.EndEvent.TheVariants as event

-- an end, and the frames that it handed on and the other end has not taken
pub record Post : Type 0 where
  pub end : EndTable
  pub flight : List Frame

pub record Posts : Type 0 where
  pub a : Post
  pub b : Post

abbrev pub new_post : (window packet : ℕ) → Post
new_post window packet = record {
  end = record { table = empty; window = window; packet = packet };
  flight = [];
}

-- the frames of its table are handed on
abbrev pub handed_on : EndTable → List Frame → Post
handed_on end flight = record {
  end = with_table (calls.hand_on false end.table) end;
  flight = flight ++ end.table.staged;
}

-- nothing is under way
abbrev pub has_no_flight : Post → Bool
has_no_flight x = length x.flight == 0

abbrev pub is_quiet : Posts → Bool
is_quiet ends = has_no_flight ends.a && has_no_flight ends.b

-- ---- an event at the end that it is about

abbrev pub opened_as : Option ℕ → EndTable → Table
opened_as None end = end.table
opened_as (Some own) end = opens own end

-- its table after what it accepts
abbrev pub accepting : EndEvent → EndTable → Table
accepting (event.Open side) end = opened_as (next_number end.table) end
accepting (event.Data side channel ext bytes) end =
    calls.send channel.0 (chunk (kind_of ext) bytes) false end.table
accepting (event.Eof side channel) end = calls.eof channel.0 end.table
accepting (event.Close side channel) end = calls.close channel.0 end.table
accepting (event.Target side channel target) end = calls.set_target channel.0 target end.table
accepting (event.Move side) end = end.table

-- no number is free for it
abbrev pub HasNoneFree : EndEvent → EndTable → Type 0
HasNoneFree (event.Open side) end = next_number end.table ≡ None
HasNoneFree e end = ⊥

abbrev pub Accepted : EndEvent → (old new : Post) → Type 0
Accepted e old new = new ≡ handed_on (with_table (accepting e old.end) old.end) old.flight

-- it takes the first frame of the other's, where there is one
abbrev pub TookOf : List Frame → (near far near' far' : Post) → Option Delivered → Type 0
TookOf [] near far near' far' delivered =
    (near' ≡ near) × (far' ≡ far) × (delivered ≡ None)
TookOf (frame ∷ rest) near far near' far' delivered = (end : EndTable)
    × Takes frame.payload near.end end delivered × (near' ≡ handed_on end near.flight)
    × (far' ≡ record far { flight = rest })

abbrev pub Took : (near far near' far' : Post) → Option Delivered → Type 0
Took near far near' far' delivered = TookOf far.flight near far near' far' delivered

-- the first of these frames is not taken
abbrev pub TakesNone : List Frame → EndTable → EndError → Type 0
TakesNone [] end e = ⊥
TakesNone (frame ∷ rest) end e = TakesNot frame.payload end e

-- one end turns to an event, beside the other
abbrev pub Turned : EndEvent → (near far near' far' : Post) → Option Delivered → Type 0
Turned (event.Move side) near far near' far' delivered = Took near far near' far' delivered
Turned e near far near' far' delivered =
    Accepted e near near' × (far' ≡ far) × (delivered ≡ None)

-- why it does not, but for want of memory
abbrev pub Stops : EndEvent → (near far : Post) → EndError → Type 0
Stops (event.Move side) near far why = TakesNone far.flight near.end why
Stops e near far why = HasNoneFree e near.end

-- ---- the ends keep what the events make of two sides

-- numbers from this one on, which rise
abbrev pub Rises : (least : ℕ) → List (ℕ × ChannelParams) → Type 0
Rises least [] = Unit {0}
Rises least (line ∷ lines) = (least ≤ line.0) × Rises (line.0 + 1) lines

-- a table keeps a side's channels, and its frames behind those that were handed on are what the
-- side says
pub record Keeps (t : Table) (flight : List Frame) (p : Party) : Type 0 where
  pub rises : Rises 0 t.lines
  pub lines : (n : ℕ) → line_at n t ≡ p.line n
  pub pending : t.pending ≡ []
  pub last : t.last ≡ p.last
  pub frames : flight ++ t.staged ≡ map frame_of p.flight

pub record IsPost (window packet : ℕ) (x : Post) (p : Party) : Type 0 where
  pub window_is : x.end.window ≡ window
  pub packet_is : x.end.packet ≡ packet
  pub keeps : Keeps x.end.table x.flight p
  pub handed : x.end.table.staged ≡ []

-- both ends are as these events leave them
pub record StandsAt (window packet : ℕ) (events : List EndEvent) (ends : Posts) : Type 0 where
  pub wide : window < 2 ^ 32
  pub some : 0 < packet
  pub small : packet < 2 ^ 32
  pub ranged : AreRanged events
  pub a : IsPost window packet ends.a (after window packet events).near
  pub b : IsPost window packet ends.b (after window packet events).far

-- where the ends stand at some events, and no side draws a number twice, they stand at one more
-- behind it, the promise holds there, and this is what it delivers
abbrev pub Happens : EndEvent → (old new : Posts) → Option Delivered → Type 0
Happens e old new delivered = (window packet : ℕ) (events : List EndEvent)
    → StandsAt window packet events old
    → FewDraws (after window packet (events ++ e ∷ []))
    → StandsAt window packet (events ++ e ∷ []) new
    × Holds (after window packet (events ++ e ∷ []))
    × (delivered ≡ delivers e (after window packet events))

-- and it fails for want of memory alone
abbrev pub FailsFor : EndEvent → Posts → EndError → Type 0
FailsFor e old why = (window packet : ℕ) (events : List EndEvent)
    → StandsAt window packet events old
    → FewDraws (after window packet (events ++ e ∷ [])) → why ≡ error.NoMemory
