use Rattle.std.proofs.Common.{◌≡◌, rules, true, false, Some, None}
use Rattle.ssh_auth.specs.Verdict.{signed}
use Rattle.ssh_auth.proofs.Asks.{starved}
use Rattle.ssh_auth.proofs.Keys.{refused_signature, accepted_signature}
use Rattle.ssh_auth.proofs.publickey.verify_signed.Goals as goal

pub returns-in_err-is_accepted : goal.returns-in_err-is_accepted
returns-in_err-is_accepted g c = (
  None,
  tt,
  starved (signed c.args.auth.now c.args.user.now c.args.offer.now None)
      (g.H.AuthHandler.told c.args.handler.now) c.args.auth.now c.in_err-is_accepted.field-0.0
      c.from_residual.result
      c.from_residual.ensures.1 c.in_err-is_accepted.ensures.memory,
)

pub returns-in_err-refuse : goal.returns-in_err-refuse
returns-in_err-refuse g c = (
  None,
  tt,
  starved (signed c.args.auth.now c.args.user.now c.args.offer.now None)
      (g.H.AuthHandler.told c.args.handler.now) c.refuse.new.auth c.in_err-refuse.field-0.0
      c.from_residual-in_err-refuse.result
      c.from_residual-in_err-refuse.ensures.1 c.in_err-refuse.ensures.memory,
)

pub returns-then-not-branch : goal.returns-then-not-branch
returns-then-not-branch g c =
    let accepted = c.in_ok-is_accepted.field-0 in
    let denied : accepted ≡ false = search rules in (
      Some accepted,
      c.in_ok-is_accepted.ensures.ok,
      refused_signature c.args.auth.now c.args.user.now c.args.offer.now accepted
          (g.H.AuthHandler.told c.args.handler.now) c.refuse.new.auth c.in_ok-refuse.field-0 denied
          c.in_ok-refuse.ensures.ok,
    )

pub returns : goal.returns
returns g c =
    let accepted = c.in_ok-is_accepted.field-0 in
    let granted : accepted ≡ true = search rules in (
      Some accepted,
      c.in_ok-is_accepted.ensures.ok,
      accepted_signature c.args.auth.now c.args.user.now c.args.offer.now accepted _ _
          c.let_in.new.auth c.let_in.result granted c.let_in.ensures,
    )
