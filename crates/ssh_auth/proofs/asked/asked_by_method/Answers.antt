use Rattle.std.proofs.Common.{◌≡◌, rules, true, false, sym, subst, IfOk}
use Rattle.std.specs.Prelude.{bytes_eq, codes}
use Rattle.ssh_auth.specs.Asked.{TellsMethod}
use Rattle.ssh_auth.specs.Read.{circumstances, all_fields}
use Rattle.ssh_auth.specs.Requested.{SaysMethod, SaysNone, SaysPassword, SaysInteractive}
use Rattle.ssh_auth.proofs.Asks.{named_none, named_password, named_publickey, named_interactive}
use Rattle.ssh_auth.proofs.AsTold.{plainly_told}
use Rattle.ssh_auth.proofs.RequestsOnce.{none_once, password_once}
use Rattle.ssh_auth.proofs.ResponsesOnce.{interactive_once}
use Rattle.ssh_auth.proofs.asked.asked_by_method.Goals as goal

pub returns-then-eq-3-clause-ok : goal.returns-then-eq-3-clause-ok
returns-then-eq-3-clause-ok g c =
    let name = c.args.name.now in
    let request = c.args.request.now in
    let none : bytes_eq name (codes "none") ≡ false = search rules in
    let password : bytes_eq name (codes "password") ≡ false = search rules in
    let publickey : bytes_eq name (codes "publickey") ≡ true = search rules in
    subst (λ named. IfOk c.asked_by_key.result (λ asked. (verifier : _) → TellsMethod
    (circumstances (g.V.Verifier.accepts verifier) request) c.args.auth.now
    (SaysMethod (circumstances (g.V.Verifier.accepts verifier) request) (all_fields request) named
    request.fields.now) request.user.now asked)) (sym (named_publickey name none password publickey))
    c.asked_by_key.ensures.ok

pub returns-then-eq-clause-ok : goal.returns-then-eq-clause-ok
returns-then-eq-clause-ok g c =
    let name = c.args.name.now in
    let request = c.args.request.now in
    let fields = request.fields.now in
    let none : bytes_eq name (codes "none") ≡ true = search rules in
    λ verifier.
    let given = circumstances (g.V.Verifier.accepts verifier) request in
    subst (λ named. TellsMethod given c.args.auth.now
    (SaysMethod given (all_fields request) named fields) request.user.now c.asked_by_none.result)
    (sym (named_none name none))
    (plainly_told given c.args.auth.now (SaysNone fields) request.user.now c.asked_by_none.result
    (none_once fields) c.asked_by_none.ensures)

pub returns-then-eq-2-clause-ok : goal.returns-then-eq-2-clause-ok
returns-then-eq-2-clause-ok g c =
    let name = c.args.name.now in
    let request = c.args.request.now in
    let fields = request.fields.now in
    let none : bytes_eq name (codes "none") ≡ false = search rules in
    let password : bytes_eq name (codes "password") ≡ true = search rules in
    λ verifier.
    let given = circumstances (g.V.Verifier.accepts verifier) request in
    subst (λ named. TellsMethod given c.args.auth.now
    (SaysMethod given (all_fields request) named fields) request.user.now c.asked_by_password.result)
    (sym (named_password name none password))
    (plainly_told given c.args.auth.now (SaysPassword fields) request.user.now c.asked_by_password.result
    (password_once fields) c.asked_by_password.ensures)

pub returns-then-eq-4-clause-ok : goal.returns-then-eq-4-clause-ok
returns-then-eq-4-clause-ok g c =
    let name = c.args.name.now in
    let request = c.args.request.now in
    let fields = request.fields.now in
    let none : bytes_eq name (codes "none") ≡ false = search rules in
    let password : bytes_eq name (codes "password") ≡ false = search rules in
    let publickey : bytes_eq name (codes "publickey") ≡ false = search rules in
    let interactive : bytes_eq name (codes "keyboard-interactive") ≡ true = search rules in
    λ verifier.
    let given = circumstances (g.V.Verifier.accepts verifier) request in
    subst (λ named. TellsMethod given c.args.auth.now
    (SaysMethod given (all_fields request) named fields) request.user.now c.asked_by_prompts.result)
    (sym (named_interactive name none password publickey interactive))
    (plainly_told given c.args.auth.now (SaysInteractive fields) request.user.now c.asked_by_prompts.result
    (interactive_once fields) c.asked_by_prompts.ensures)
