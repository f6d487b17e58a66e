-- Requests of the peer's on a channel: which are known, and what each says (RFC 4254 section 6).
use Rattle.std.specs.Prelude.{ℕ, Bool, List, [], ◌∷◌, Option, Some, None, find, bytes_eq}
use Rattle.std.specs.Prelude.{codes}
use Rattle.std.specs.Prelude.{Result, Ok, Err}
use Rattle.ssh_wire.specs.Field.{Field, Values, Flag, Number, Bytes, Text}
use Rattle.ssh_wire.specs.Signals.{signal_name}
use Rattle.ssh_wire.specs.declared.error.WireError.{WireError}
use Rattle.ssh_wire.specs.declared.channel_id.ChannelId.{ChannelId}
use Rattle.ssh_wire.specs.declared.pty.Pty.{Pty}
use Rattle.ssh_wire.specs.declared.sig.Sig.{Sig}
use Rattle.ssh_wire.specs.declared.sig.Sig.TheVariants as sig
use Rattle.ssh_link.specs.declared.notice.ChannelMsg.{ChannelMsg}
use Rattle.ssh_link.specs.declared.notice.ChannelMsg.TheVariants as msg
use Rattle.ssh_auth.specs.declared.question.Happening.{Happening}
use Rattle.ssh_auth.specs.declared.question.Happening.TheVariants as what
use Rattle.ssh_rules.specs.declared.messages.Spoken.{Spoken}
use Rattle.ssh_rules.specs.declared.messages.Spoken.TheVariants as spoken
use Rattle.ssh_rules.specs.Spelling.{Layout, Leaves, Whole, Fields}
use Rattle.ssh_rules.specs.Terminal.{modes_of}

-- a request: its name, its own fields, and what it says on a channel where a reply is wanted or not
pub record KnownRequest : Type 0 where
  pub name : List ℕ
  pub fields : List Field
  pub says : (channel : ChannelId) → (wanted : Bool) → Values fields → Spoken

-- ---- one entry a request; a notice with a field for it says whether a reply is wanted

-- string terminal type, uint32 width and height in characters, uint32 width and height in pixels,
-- string modes, of which there are 130 at most (section 6.2)
abbrev pub terminal_request : (channel : ChannelId) → (wanted : Bool) → (term : List ℕ)
    → (columns rows width height : ℕ) → Option (List (Pty × ℕ)) → Spoken
terminal_request channel wanted term columns rows width height None = spoken.Inconsistent
terminal_request channel wanted term columns rows width height (Some modes) = spoken.Requests channel
    wanted (msg.RequestPty wanted term columns rows width height modes)
    (what.PtyRequest term columns rows width height modes)

abbrev pub terminal : KnownRequest
terminal = record {
  name = codes "pty-req";
  fields = Text ∷ Number ∷ Number ∷ Number ∷ Number ∷ Bytes ∷ [];
  says = λ channel wanted (term, (columns, (rows, (width, (height, (modes, _)))))).
      terminal_request channel wanted term columns rows width height (modes_of 130 modes);
}

-- boolean single connection, string authentication protocol, string cookie, uint32 screen (section
-- 6.3.1)
abbrev pub x11 : KnownRequest
x11 = record {
  name = codes "x11-req";
  fields = Flag ∷ Text ∷ Text ∷ Number ∷ [];
  says = λ channel wanted (single, (protocol, (cookie, (screen, _)))).
      spoken.Requests channel wanted (msg.RequestX11 wanted single protocol cookie screen)
      (what.X11Request single protocol cookie screen);
}

-- string variable name, string variable value (section 6.4)
abbrev pub environment : KnownRequest
environment = record {
  name = codes "env";
  fields = Text ∷ Text ∷ [];
  says = λ channel wanted (name, (value, _)).
      spoken.Requests channel wanted (msg.SetEnv wanted name value) (what.EnvRequest name value);
}

-- nothing (section 6.5)
abbrev pub shell : KnownRequest
shell = record {
  name = codes "shell";
  fields = [];
  says = λ channel wanted _. spoken.Requests channel wanted (msg.RequestShell wanted)
      what.ShellRequest;
}

-- string command, whose bytes need not be a text (section 6.5)
abbrev pub exec : KnownRequest
exec = record {
  name = codes "exec";
  fields = Bytes ∷ [];
  says = λ channel wanted (command, _).
      spoken.Requests channel wanted (msg.Exec wanted command) (what.ExecRequest command);
}

-- string subsystem name (section 6.5)
abbrev pub subsystem : KnownRequest
subsystem = record {
  name = codes "subsystem";
  fields = Text ∷ [];
  says = λ channel wanted (name, _).
      spoken.Requests channel wanted (msg.RequestSubsystem wanted name) (what.SubsystemRequest name);
}

-- uint32 width and height in characters, uint32 width and height in pixels (section 6.7)
abbrev pub window_change : KnownRequest
window_change = record {
  name = codes "window-change";
  fields = Number ∷ Number ∷ Number ∷ Number ∷ [];
  says = λ channel wanted (columns, (rows, (width, (height, _)))).
      spoken.Requests channel wanted (msg.WindowChange columns rows width height)
      (what.WindowChangeRequest columns rows width height);
}

-- string signal name, without "SIG" (section 6.9); one that is not of the standard's list has its
-- own name
abbrev pub standard_signals : List Sig
standard_signals =
    sig.ABRT ∷ sig.ALRM ∷ sig.FPE ∷ sig.HUP ∷ sig.ILL ∷ sig.INT ∷ sig.KILL ∷ sig.PIPE ∷ sig.QUIT
    ∷ sig.SEGV ∷ sig.TERM ∷ sig.USR1 ∷ sig.USR2 ∷ []

abbrev pub or_custom : (name : List ℕ) → Option Sig → Sig
or_custom name None = sig.Custom name
or_custom name (Some signal) = signal

abbrev pub signal_named : (name : List ℕ) → Sig
signal_named name = or_custom name (find (λ signal. bytes_eq (signal_name signal) name)
    standard_signals)

abbrev pub signal : KnownRequest
signal = record {
  name = codes "signal";
  fields = Text ∷ [];
  says = λ channel wanted (name, _).
      spoken.Requests channel wanted (msg.Signal (signal_named name))
      (what.Signal (signal_named name));
}

-- nothing (OpenSSH's forwarding of an authentication agent)
abbrev pub agent : KnownRequest
agent = record {
  name = codes "auth-agent-req@openssh.com";
  fields = [];
  says = λ channel wanted _. spoken.RequestsAgent channel wanted;
}

-- ---- the table

abbrev pub known_requests : List KnownRequest
known_requests =
    terminal ∷ x11 ∷ environment ∷ shell ∷ exec ∷ subsystem ∷ window_change ∷ signal ∷ agent ∷ []

-- the known request of this name
abbrev pub request_named : List ℕ → Option KnownRequest
request_named name = find (λ known. bytes_eq known.name name) known_requests

-- modes that are none are found where they stand, and nothing behind them is read; else the request
-- ends with its fields
abbrev pub to_the_end : Spoken → Layout Spoken
to_the_end spoken.Inconsistent = Leaves spoken.Inconsistent
to_the_end said = Whole [] (λ _. said)

-- how a request is read behind its flag; of an unknown one nothing is
abbrev pub request_layout : Option KnownRequest → (channel : ChannelId) → (wanted : Bool) → Layout Spoken
request_layout None channel wanted = Leaves (spoken.RequestsUnknown channel wanted)
request_layout (Some known) channel wanted =
    Fields known.fields (λ values. to_the_end (known.says channel wanted values))

-- a request says this, where what is told of it was kept
abbrev pub request_said : (channel : ChannelId) → (wanted : Bool)
    → Result (ChannelMsg × Happening) WireError → Result Spoken WireError
request_said channel wanted (Ok told) = Ok (spoken.Requests channel wanted told.0 told.1)
request_said channel wanted (Err why) = Err why
