use Rattle.std.proofs.Common.{ℕ, List, ap}
use Rattle.ssh_rules.specs.declared.messages.Spoken.TheVariants.{RequestsGlobally}
use Rattle.ssh_auth.specs.declared.question.Judged.TheVariants.{CancelTcpipForward}
use Rattle.ssh_rules.specs.Globals.{cancel_forward}
use Rattle.ssh_rules.proofs.Read.GlobalRequests.{misasked, unkept_asking, asked_so}
use Rattle.ssh_messages.proofs.global_requests.request_cancel.Goals as goal

pub returns-in_err-address : goal.returns-in_err-address
returns-in_err-address c =
    misasked cancel_forward c.args.asking.wanted c.args.rest.now _ _ c.from_residual.ensures.1
    c.in_err-address.ensures

pub returns-in_err-address-2 : goal.returns-in_err-address-2
returns-in_err-address-2 c =
    unkept_asking cancel_forward c.args.asking.wanted
    (c.in_ok-address.address.now, (c.in_ok-address.port, tt))
    c.args.rest.now _ _ c.from_residual-in_err-address-2.ensures.1 c.in_err-address-2.ensures.memory
    c.in_ok-address.ensures

pub returns : goal.returns
returns c =
    asked_so cancel_forward c.args.asking.wanted
    (c.in_ok-address.address.now, (c.in_ok-address.port, tt))
    c.args.rest.now _ c.in_ok-address.ensures
    (ap (λ (t : List ℕ). RequestsGlobally c.args.asking.wanted
    (CancelTcpipForward t c.in_ok-address.port)) c.in_ok-address-2.ensures.ok)
