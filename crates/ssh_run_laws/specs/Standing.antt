-- A channel stands until something ends it (RFC 4254 section 5.3), and an open of the peer's waits
-- until it is answered (section 5.1).
use Rattle.std.specs.Prelude.{◌≡◌, ℕ, true, false, List, [], ◌∷◌, ◌++◌, flat_map, Some, None}
use Rattle.std.specs.List.{list_any}
use Rattle.ssh_wire.specs.declared.channel_id.ChannelId.{ChannelId}
use Rattle.ssh_link.specs.declared.command.Command.TheVariants.{Answer}
use Rattle.ssh_link.specs.declared.frame.InputKind.TheVariants.{OpenReply}
use Rattle.ssh_link.specs.declared.open_answer.OpenAnswer.{OpenAnswer}
use Rattle.ssh_link.specs.declared.outcome.CommandOutcome.TheVariants.{Accepted}
use Rattle.ssh_auth.specs.Publickey.{Acceptance}
use Rattle.ssh_channels.specs.Entry.{Entry, accepted}
use Rattle.ssh_channels.specs.Lines.{Lines, find}
use Rattle.ssh_rules.specs.Run.{Turn, Turns, Run}
use Rattle.ssh_rules.specs.World.{Settings, World, opening_world}
use Rattle.ssh_run_laws.specs.Channels.{Stands, Waits, answers, touches, waits_on}
use Rattle.ssh_run_laws.specs.Deeds.{Asked, Commanded, Deed, deeds}

-- the channel of this number is there, as this one was: both sides agreed to it, no CLOSE was
-- accepted, an EOF was or was not, and it accepted the same bytes
pub record StandsAs (number : ℕ) (e : Entry) (l : Lines) : Type 0 where
  pub later : Entry
  pub there : find number l.entries ≡ Some later
  pub confirmed : later.confirmed ≡ true
  pub unclosed : later.close ≡ false
  pub ended : later.eof ≡ e.eof
  pub bytes : accepted later ≡ accepted e

-- a channel to which both sides agreed, and of which no CLOSE was accepted, stands as it stood, as
-- long as no data, no EOF and no CLOSE of it are accepted and the peer does not close it
abbrev pub ChannelsStand : (E F : Type 0) → Acceptance → Type 0
ChannelsStand E F accepts = (settings : Settings) (before span : List (Turn E F))
    (w world : World) → Run accepts (opening_world settings) before w → Run accepts w span world
    → (number : ℕ) (e : Entry) → find number w.channels.lines.entries ≡ Some e
    → e.confirmed ≡ true → e.close ≡ false
    → list_any (touches number) (flat_map deeds span) ≡ false
    → StandsAs number e world.channels.lines

-- an open of the peer's that the handler was asked about waits, as long as no answer of it was
-- accepted since
abbrev pub OpensWait : (E F : Type 0) → Acceptance → Type 0
OpensWait E F accepts = (settings : Settings) (turns : List (Turn E F)) (world : World)
    → Run accepts (opening_world settings) turns world → (number : ℕ)
    → waits_on number (flat_map deeds turns) ≡ true → Waits number world

-- .. and so from any moment on
abbrev pub OpensStillWait : (E F : Type 0) → Acceptance → Type 0
OpensStillWait E F accepts = (settings : Settings) (before span : List (Turn E F))
    (w world : World) → Run accepts (opening_world settings) before w → Run accepts w span world
    → (number : ℕ) → Waits number w → list_any (answers number) (flat_map deeds span) ≡ false
    → Waits number world

-- the number of an open that the handler is asked about is a new one: no open waits under it
abbrev pub OpensAreNew : (E F : Type 0) → Acceptance → Type 0
OpensAreNew E F accepts = (settings : Settings) (turns : List (Turn E F)) (world : World)
    → Run accepts (opening_world settings) turns world → (before after : List Deed)
    (channel : ChannelId) → flat_map deeds turns ≡ before ++ Asked channel ∷ after
    → waits_on channel.0 before ≡ false

-- an answer from outside that accepts an open which waits is accepted, and then the channel stands
abbrev pub AnsweredOpensStand : (E F : Type 0) → Acceptance → Type 0
AnsweredOpensStand E F accepts = (settings : Settings) (turns : List (Turn E F)) (w : World)
    (turn : Turn E F) (world : World) → Run accepts (opening_world settings) turns w
    → Turns accepts w turn world → (ticket : ℕ) (answer : OpenAnswer)
    → turn.input.kind ≡ OpenReply ticket answer → answer.rejection ≡ None
    → Waits answer.channel.0 w
    → (deeds turn ≡ Commanded (Answer answer) Accepted ∷ [])
    × Stands answer.channel.0 false world.channels.lines
