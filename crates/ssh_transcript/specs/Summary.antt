-- A run in numbers.
use Rattle.std.specs.Prelude.{ℕ, ◌+◌, ◌-◌, ◌==◌, List, [], ◌∷◌, ◌++◌, codes, length, slice_index}
use Rattle.std.specs.Prelude.{if◌then◌else◌, Result}
use Rattle.std.specs.Fmt.{decimal}
use Rattle.ssh_link.specs.Frames.{Frame}
use Rattle.ssh_link.specs.declared.link.TraceEntry.{TraceEntry}
use Rattle.ssh_link.specs.declared.link.TraceEntry.TheVariants as entry
use Rattle.ssh_rules.specs.declared.error.RunError.{RunError}
use Rattle.ssh_transcript.specs.Print.{last_line}

-- the number of a message; 0 where the payload is empty
abbrev pub number_of : Frame → ℕ
number_of frame = slice_index frame.payload 0

-- a channel that the frame opens: CHANNEL_OPEN_CONFIRMATION (RFC 4254 section 5.1)
abbrev pub opened_by : Frame → ℕ
opened_by frame = if number_of frame == 91 then 1 else 0

-- the bytes of data that it brings: those of CHANNEL_DATA behind its number, the channel and their
-- length (RFC 4254 section 5.2)
abbrev pub data_in : Frame → ℕ
data_in frame = if number_of frame == 94 then length frame.payload - 9 else 0

-- what one entry of a trace adds, where it is a frame that was sent
abbrev pub of_frame : (Frame → ℕ) → TraceEntry → ℕ
of_frame count (entry.Sent frame) = count frame
of_frame count (entry.Took commands replies input) = 0
of_frame count (entry.Noticed notice) = 0
of_frame count (entry.Answered ticket result) = 0

-- and what all of them add
abbrev pub in_all : (Frame → ℕ) → List TraceEntry → ℕ
in_all count [] = 0
in_all count (entry ∷ trace) = of_frame count entry + in_all count trace

-- how many channels were opened, how many frames were sent, and how many bytes of data
abbrev pub channels : List TraceEntry → ℕ
channels = in_all opened_by

abbrev pub frames : List TraceEntry → ℕ
frames = in_all (λ frame. 1)

abbrev pub bytes : List TraceEntry → ℕ
bytes = in_all data_in

-- these, a line for each, and how the run ended
abbrev pub summary : {E F : Type 0} → List TraceEntry → Result (Unit {0}) (RunError E F) → List ℕ
summary trace result =
    codes "channels " ++ decimal (channels trace) ++ codes "\nframes " ++ decimal (frames trace)
    ++ codes "\nbytes " ++ decimal (bytes trace) ++ codes "\n" ++ last_line result
