-- What a link may give: a command and a reply to an open only where they are asked for.
use Rattle.std.specs.Prelude.{Bool, true, IsTrue}
use Rattle.ssh_link.specs.declared.frame.InputKind.{InputKind}
use Rattle.ssh_link.specs.declared.frame.InputKind.TheVariants.{Command, OpenReply}

-- whether an input of this kind is asked for: a payload and the end always are
abbrev pub is_asked : Bool → Bool → InputKind → Bool
is_asked commands replies (Command ticket command) = commands
is_asked commands replies (OpenReply ticket answer) = replies
is_asked commands replies kind = true

abbrev pub IsAsked : Bool → Bool → InputKind → Type 0
IsAsked commands replies kind = IsTrue (is_asked commands replies kind)
