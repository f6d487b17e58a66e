-- The calls with a writer, whose frames go to a sink at once where none is staged before them, and
-- that both paths put out the same.
use Rattle.std.specs.Prelude.{◌≡◌, ◌&&◌, ◌==◌, Bool, not, cond, List, [], ◌∷◌, ◌++◌, length, ℕ}
use Rattle.std.specs.Prelude.{Option}
use Rattle.ssh_link.specs.Frames.{Frame}
use Rattle.ssh_channels.specs.declared.adjusted.Adjusted.{Adjusted}
use Rattle.ssh_channels.specs.Line.{is_established, is_opening, may_send, may_close, owes_reply}
use Rattle.ssh_channels.specs.Numbers.{next_number}
use Rattle.ssh_channels.specs.Table.{Table, is_live, is_pending, has}
use Rattle.ssh_channels.specs.Calls.{Op, Byte, Send, Eof, Close, Peer_close, Flush_line, Flush_all}
use Rattle.ssh_channels.specs.Calls.{Grant, Adjust, Draw}
use Rattle.ssh_channels.specs.Calls.{Open_next, Accept_next, Drop_pending, Insert, Confirm}
use Rattle.ssh_channels.specs.Calls.{Fail_open}
use Rattle.ssh_channels.specs.Calls.{Set_target, Request, Settle, Stage, op}
use Rattle.ssh_channels.specs.Calls.{flush_first, framed_at, credit_after, adjusting_at, place_at}

-- a call's frames go to the sink where none is staged before it and no exchange runs
abbrev pub is_direct : (is_rekeying : Bool) → Table → Bool
is_direct is_rekeying t = not is_rekeying && (length t.staged == 0)

-- what is staged after a call, and what went to the sink
abbrev pub kept : (direct : Bool) → Table → Table
kept direct t = cond direct (record t { staged = [] }) t

abbrev pub passed_on : (direct : Bool) → Table → List Frame
passed_on direct t = cond direct t.staged []

-- a table and a sink
pub record Out : Type 0 where
  pub table : Table
  pub sink : List Frame

-- what goes out of them: the sink, and then what is staged
abbrev pub put_out : Out → List Frame
put_out out = out.sink ++ out.table.staged

-- a call whose frames are staged
abbrev pub by_table : (Table → Table) → Out → Out
by_table call out = record out { table = call out.table }

-- a call whose frames go to the sink where they may
abbrev pub by_sink : (is_rekeying : Bool) → (Table → Table) → Out → Out
by_sink is_rekeying call out = record {
  table = kept (is_direct is_rekeying out.table) (call out.table);
  sink = out.sink ++ passed_on (is_direct is_rekeying out.table) (call out.table);
}

-- the call of the one path, and of the other, which has a form with a writer of data and of the
-- flushes
abbrev pub plain : Op → Out → Out
plain o = by_table (op o)

abbrev pub written : Op → Out → Out
written (Send n chunk is_rekeying) = by_sink is_rekeying (op (Send n chunk is_rekeying))
written (Flush_line n is_rekeying) = by_sink is_rekeying (op (Flush_line n is_rekeying))
written (Flush_all is_rekeying) = by_sink is_rekeying (op (Flush_all is_rekeying))
written o = by_table (op o)

-- what is staged is handed on outside an exchange
abbrev pub flush : Out → Out
flush out = record { table = record out.table { staged = [] }; sink = put_out out }

-- what a call answers, on either path
pub data Answer : Type 0 where
  Done : Answer
  Accepts : Bool → Answer
  Framed : ℕ → Answer
  Credit : Option ℕ → Answer
  Room : Adjusted → Answer
  Number : Option ℕ → Answer
  Place : Option ℕ → Answer
  -- a packet size of 0
  Refused : Answer

abbrev pub answer : Op → Table → Answer
answer (Byte n message) t = Accepts (has is_established n t)
answer (Send n chunk is_rekeying) t = Accepts (has may_send n t)
answer (Eof n) t = Accepts (has may_send n t)
answer (Close n) t = Accepts (has may_close n t)
answer (Peer_close n) t = Accepts (has is_established n t)
answer (Flush_line n is_rekeying) t = Framed (framed_at n t)
answer (Flush_all is_rekeying) t = Done
answer (Grant n amount) t = Credit (credit_after n amount t)
answer (Adjust n count target) t = Room (adjusting_at n count target t)
answer Draw t = Number (next_number t)
answer (Open_next window packet) t = Number (next_number t)
answer (Accept_next peer window room packet own_packet) t =
    cond (packet == 0) Refused (Number (next_number t))
answer (Drop_pending n) t = Accepts (is_pending n t)
answer (Insert l) t = cond (l.recipient_maximum_packet_size == 0) Refused
    (Accepts (not (is_live l.sender_channel.0 t)))
answer (Confirm msg) t = cond (msg.maximum_packet_size == 0) Refused
    (Accepts (has is_opening msg.recipient_channel t))
answer (Fail_open n) t = Accepts (has is_opening n t)
answer (Set_target n target) t = Accepts (is_live n t)
answer (Request n) t = Place (place_at n t)
answer (Settle n place success) t = Accepts (has (owes_reply place) n t)
answer (Stage frame) t = Done

-- what a list of calls leaves, each flushed before the next one, and what they answer
abbrev pub run : (Op → Out → Out) → List Op → Out → Out
run call [] out = out
run call (o ∷ os) out = run call os (flush (call o out))

abbrev pub answers : (Op → Out → Out) → List Op → Out → List Answer
answers call [] out = []
answers call (o ∷ os) out = answer o out.table ∷ answers call os (flush (call o out))

-- one call puts out the same frames on both paths, and leaves otherwise the same table
abbrev pub PutsOutTheSame : (call other : Out → Out) → Out → Type 0
PutsOutTheSame call other out =
    (put_out (call out) ≡ put_out (other out))
    × (record (call out).table { staged = [] } ≡ record (other out).table { staged = [] })

-- and so does each list of calls, with the same answers
abbrev pub PathsAgree : Type 0
PathsAgree = (os : List Op) → (out : Out) →
    (run written os out ≡ run plain os out) × (answers written os out ≡ answers plain os out)

-- where a call on all channels stops, the first few of them were flushed
abbrev pub IsPart : Table → Table → Type 0
IsPart t t' = (count : ℕ) × (t' ≡ flush_first count t)

abbrev pub IsPartOut : (is_rekeying : Bool) → Out → Out → Type 0
IsPartOut is_rekeying out out' = (count : ℕ) × (out' ≡ by_sink is_rekeying (flush_first count) out)
