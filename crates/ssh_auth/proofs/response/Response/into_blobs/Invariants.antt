use Rattle.std.proofs.Common.{◌≡◌, map}
use Rattle.ssh_auth.proofs.response.Response.into_blobs.Given as goal

-- the responses so far are copied
abbrev pub invariant-loop-text : goal.invariant-loop-text
invariant-loop-text l = l.blobs ≡ map (λ text. text.now) l.yielded
