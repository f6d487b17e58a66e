use Rattle.std.proofs.Common.{ℕ, List, ap}
use Rattle.ssh_rules.specs.declared.messages.Spoken.TheVariants.{RequestsGlobally}
use Rattle.ssh_auth.specs.declared.question.Judged.TheVariants.{CancelStreamlocalForward}
use Rattle.ssh_rules.specs.Globals.{cancel_socket}
use Rattle.ssh_rules.proofs.Read.GlobalRequests.{misasked, unkept_asking, asked_so}
use Rattle.ssh_messages.proofs.global_requests.request_cancel_socket.Goals as goal

pub returns-in_err-path : goal.returns-in_err-path
returns-in_err-path c =
    misasked cancel_socket c.args.asking.wanted c.args.rest.now _ _ c.from_residual.ensures.1
    c.in_err-path.ensures

pub returns-in_err-socket_path : goal.returns-in_err-socket_path
returns-in_err-socket_path c =
    unkept_asking cancel_socket c.args.asking.wanted (c.in_ok-path.path.now, tt)
    c.args.rest.now _ _ c.from_residual-in_err-socket_path.ensures.1
    c.in_err-socket_path.ensures.memory
    c.in_ok-path.ensures

pub returns : goal.returns
returns c =
    asked_so cancel_socket c.args.asking.wanted (c.in_ok-path.path.now, tt)
    c.args.rest.now _ c.in_ok-path.ensures
    (ap (λ (t : List ℕ). RequestsGlobally c.args.asking.wanted (CancelStreamlocalForward t))
    c.in_ok-socket_path.ensures.ok)
