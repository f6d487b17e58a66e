-- What a feed gives.
use Rattle.std.specs.Prelude.{◌≡◌, Bool, true, false}
use Rattle.ssh_link.specs.declared.frame.InputKind.{InputKind}
use Rattle.ssh_link.specs.declared.frame.InputKind.TheVariants.{Command, OpenReply}

-- whether it is neither a command nor a reply to an open: those come out of a hub
abbrev pub is_of_feed : InputKind → Bool
is_of_feed (Command ticket command) = false
is_of_feed (OpenReply ticket answer) = false
is_of_feed kind = true

abbrev pub IsOfFeed : InputKind → Type 0
IsOfFeed kind = is_of_feed kind ≡ true
