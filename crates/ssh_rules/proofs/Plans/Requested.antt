-- What is kept as a reply is wanted, and as one is settled, is kept through what a request and a
-- command make of the channels (RFC 4254 section 5.4).
use Rattle.std.proofs.Common.{◌==◌, ℕ, Bool, true, false, cond, Option, Some, None}
use Rattle.ssh_channels.specs.Lines.{Lines, takes_request, takes_reply}
use Rattle.ssh_rules.specs.World.{ChannelRequest, wants_if, settles_one, settles_for}

pub wants_kept : (P : Lines → Type 0) (wanted : Bool) (number : ℕ) (l : Lines)
    → (P l → P (takes_request number l)) → P l → P (wants_if wanted number l)
wants_kept P true number l asked h = asked h
wants_kept P false number l asked h = h

-- a law that holds of these channels, and still does with one reply settled
module _ (P : Lines → Type 0) (number : ℕ) (success : Bool) (l : Lines)
    (settled : (place : Option ℕ) → P l → P (takes_reply number place success l)) where
  pub one_kept : (place : Option ℕ) → P l → P (settles_one place number success l)
  one_kept None h = h
  one_kept (Some place) h = settled (Some place) h

  either_kept : (same : Bool) (place : Option ℕ) → P l
      → P (cond same (settles_one place number success l) (takes_reply number None success l))
  either_kept true place h = one_kept place h
  either_kept false place h = settled None h

  pub for_kept : (at : Option ChannelRequest) → P l → P (settles_for at number success l)
  for_kept None h = settled None h
  for_kept (Some asked) h = either_kept (number == asked.channel.0) asked.place h
