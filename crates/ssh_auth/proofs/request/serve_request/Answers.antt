use Rattle.std.proofs.Common.{◌≡◌, rules, ◌∷◌, [], true, false, ◌∙◌, ap, refl, inr, Ok}
use Rattle.std.specs.Prelude.{bytes_eq, codes, drop}
use Rattle.ssh_link.proofs.Tellings.{adds_nil}
use Rattle.ssh_auth.specs.declared.auth_request.AuthRequest.{AuthRequest}
use Rattle.ssh_auth.specs.Requested.{head_fields, Other_service, Unfit, Unread, named_by}
use Rattle.ssh_auth.specs.Requested.{Is_none, Is_password, Is_publickey, Is_interactive}
use Rattle.ssh_auth.specs.Verdict.{Fails, Starved}
use Rattle.ssh_auth.specs.Plan.{Finish}
use Rattle.ssh_auth.specs.Publickey.{Circumstances}
use Rattle.ssh_auth.proofs.Asks.{starved, unfit, other_text, served_as, other_method}
use Rattle.ssh_auth.proofs.Asks.{named_none, named_password, named_publickey, named_interactive}
use Rattle.ssh_auth.proofs.Misfits.{all_error}
use Rattle.ssh_auth.proofs.Proving.{none_unproven, all_proven}
use Rattle.ssh_auth.proofs.Signatures.{spells_front}
use Rattle.ssh_auth.proofs.request.serve_request.Goals as goal

pub returns-in_err-head : goal.returns-in_err-head
returns-in_err-head g c =
    let why = c.in_err-head.field-0.0 in
    let told = g.H.AuthHandler.told c.args.handler.now in
    let misfit = rw c.fields_of.ensures at c.in_err-head.ensures in
    record {
      verdict = (
        Unfit why,
        misfit,
        unfit why told c.args.auth.now c.from_residual.result
            c.from_residual.ensures.1 (all_error g.row.H-Error.Denot head_fields _ why misfit),
      );
      proven = none_unproven (record {
        accepts = g.V.Verifier.accepts c.args.verifier.now;
        session_id = c.args.session_id.now;
        moment = c.args.moment;
      }) (drop 1 c.args.payload.now)
          told;
    }

pub returns-then-ne : goal.returns-then-ne
returns-then-ne g c =
    let head = c.in_ok-head.head in
    let other : bytes_eq head.service.now (codes "ssh-connection") ≡ false = search rules in
    let told = g.H.AuthHandler.told c.args.handler.now in
    record {
      verdict = (
        Other_service,
        (
          head.user.now,
          head.service.now,
          head.method.now,
          head.rest.now,
          rw c.fields_of.ensures at c.in_ok-head.ensures,
          other_text head.service.now (codes "ssh-connection") other,
        ),
        ([], adds_nil told, refl),
      );
      proven = none_unproven (record {
        accepts = g.V.Verifier.accepts c.args.verifier.now;
        session_id = c.args.session_id.now;
        moment = c.args.moment;
      }) (drop 1 c.args.payload.now)
          told;
    }

pub returns-in_err-bind_or_reset_principal : goal.returns-in_err-bind_or_reset_principal
returns-in_err-bind_or_reset_principal g c =
    let r = c.from_residual-in_err-bind_or_reset_principal in
    let told = g.H.AuthHandler.told c.args.handler.now in
    record {
      verdict = (
        Unread,
        tt,
        starved (Finish (Fails Starved)) told c.bind_or_reset_principal.new.self
            c.in_err-bind_or_reset_principal.field-0.0 r.result r.ensures.1
            c.in_err-bind_or_reset_principal.ensures.memory,
      );
      proven = none_unproven (record {
        accepts = g.V.Verifier.accepts c.args.verifier.now;
        session_id = c.args.session_id.now;
        moment = c.args.moment;
      }) (drop 1 c.args.payload.now)
          told;
    }

pub returns-then-eq : goal.returns-then-eq
returns-then-eq g c =
    let head = c.in_ok-head.head in
    let name = head.method.now in
    let connection : bytes_eq head.service.now (codes "ssh-connection") ≡ true = search rules in
    let none : bytes_eq name (codes "none") ≡ true = search rules in
    let fields = drop 1 c.args.payload.now in
    let given : Circumstances = record {
      accepts = g.V.Verifier.accepts c.args.verifier.now;
      session_id = c.args.session_id.now;
      moment = c.args.moment;
    } in
    let before = g.H.AuthHandler.told c.args.handler.now in
    let after = g.H.AuthHandler.told c.serve_none.new.handler in
    let served = served_as given fields head.user.now head.service.now name head.rest.now Is_none
    c.args.auth.now c.bind_or_reset_principal.new.self before after c.serve_none.new.auth c.serve_none.result
    (named_none name none) connection
    (rw c.fields_of.ensures at c.in_ok-head.ensures)
    c.in_ok-bind_or_reset_principal.ensures.ok
    c.serve_none.ensures in
    record {
      verdict = served;
      proven = all_proven given fields c.args.auth.now served.0 before after c.serve_none.new.auth c.serve_none.result
          served.1 served.2;
    }

pub returns-then-eq-2 : goal.returns-then-eq-2
returns-then-eq-2 g c =
    let head = c.in_ok-head.head in
    let name = head.method.now in
    let connection : bytes_eq head.service.now (codes "ssh-connection") ≡ true = search rules in
    let none : bytes_eq name (codes "none") ≡ false = search rules in
    let password : bytes_eq name (codes "password") ≡ true = search rules in
    let fields = drop 1 c.args.payload.now in
    let given : Circumstances = record {
      accepts = g.V.Verifier.accepts c.args.verifier.now;
      session_id = c.args.session_id.now;
      moment = c.args.moment;
    } in
    let before = g.H.AuthHandler.told c.args.handler.now in
    let after = g.H.AuthHandler.told c.serve_password.new.handler in
    let served = served_as given fields head.user.now head.service.now name head.rest.now Is_password
    c.args.auth.now c.bind_or_reset_principal.new.self before after c.serve_password.new.auth c.serve_password.result
    (named_password name none password) connection
    (rw c.fields_of.ensures at c.in_ok-head.ensures)
    c.in_ok-bind_or_reset_principal.ensures.ok
    c.serve_password.ensures in
    record {
      verdict = served;
      proven = all_proven given fields c.args.auth.now served.0 before after c.serve_password.new.auth c.serve_password.result
          served.1 served.2;
    }

pub serve_publickey-requires : goal.serve_publickey-requires
serve_publickey-requires g c =
    let head = c.in_ok-head.head in
    let numbered = c.requires.numbered in
    let fields = rw (c.fields_of.ensures, numbered.1) at c.in_ok-head.ensures in
    let front = spells_front head_fields (head.user.now, (head.service.now, (head.method.now, tt)))
    numbered.0 head.rest.now fields in
    (c.requires.session_id, (front.0, numbered.1 ∙ ap (λ x. 50 ∷ x) front.1))

pub returns-then-eq-3 : goal.returns-then-eq-3
returns-then-eq-3 g c =
    let head = c.in_ok-head.head in
    let name = head.method.now in
    let connection : bytes_eq head.service.now (codes "ssh-connection") ≡ true = search rules in
    let none : bytes_eq name (codes "none") ≡ false = search rules in
    let password : bytes_eq name (codes "password") ≡ false = search rules in
    let publickey : bytes_eq name (codes "publickey") ≡ true = search rules in
    let fields = drop 1 c.args.payload.now in
    let given : Circumstances = record {
      accepts = g.V.Verifier.accepts c.args.verifier.now;
      session_id = c.args.session_id.now;
      moment = c.args.moment;
    } in
    let before = g.H.AuthHandler.told c.args.handler.now in
    let after = g.H.AuthHandler.told c.serve_publickey.new.handler in
    let served = served_as given fields head.user.now head.service.now name head.rest.now Is_publickey
    c.args.auth.now c.bind_or_reset_principal.new.self before after c.serve_publickey.new.auth c.serve_publickey.result
    (named_publickey name none password publickey) connection
    (rw c.fields_of.ensures at c.in_ok-head.ensures)
    c.in_ok-bind_or_reset_principal.ensures.ok
    c.serve_publickey.ensures in
    record {
      verdict = served;
      proven = all_proven given fields c.args.auth.now served.0 before after c.serve_publickey.new.auth c.serve_publickey.result
          served.1 served.2;
    }

pub returns-then-eq-4 : goal.returns-then-eq-4
returns-then-eq-4 g c =
    let head = c.in_ok-head.head in
    let name = head.method.now in
    let connection : bytes_eq head.service.now (codes "ssh-connection") ≡ true = search rules in
    let none : bytes_eq name (codes "none") ≡ false = search rules in
    let password : bytes_eq name (codes "password") ≡ false = search rules in
    let publickey : bytes_eq name (codes "publickey") ≡ false = search rules in
    let interactive : bytes_eq name (codes "keyboard-interactive") ≡ true = search rules in
    let fields = drop 1 c.args.payload.now in
    let given : Circumstances = record {
      accepts = g.V.Verifier.accepts c.args.verifier.now;
      session_id = c.args.session_id.now;
      moment = c.args.moment;
    } in
    let before = g.H.AuthHandler.told c.args.handler.now in
    let after = g.H.AuthHandler.told c.serve_interactive.new.handler in
    let served = served_as given fields head.user.now head.service.now name head.rest.now Is_interactive
    c.args.auth.now c.bind_or_reset_principal.new.self before after c.serve_interactive.new.auth c.serve_interactive.result
    (named_interactive name none password publickey interactive) connection
    (rw c.fields_of.ensures at c.in_ok-head.ensures)
    c.in_ok-bind_or_reset_principal.ensures.ok
    c.serve_interactive.ensures in
    record {
      verdict = served;
      proven = all_proven given fields c.args.auth.now served.0 before after c.serve_interactive.new.auth c.serve_interactive.result
          served.1 served.2;
    }

pub returns-in_err-refuse : goal.returns-in_err-refuse
returns-in_err-refuse g c =
    let head = c.in_ok-head.head in
    let name = head.method.now in
    let connection : bytes_eq head.service.now (codes "ssh-connection") ≡ true = search rules in
    let r = c.from_residual-in_err-refuse in
    let fields = drop 1 c.args.payload.now in
    let given : Circumstances = record {
      accepts = g.V.Verifier.accepts c.args.verifier.now;
      session_id = c.args.session_id.now;
      moment = c.args.moment;
    } in
    let before = g.H.AuthHandler.told c.args.handler.now in
    let served = served_as given fields head.user.now head.service.now name head.rest.now (named_by name)
    c.args.auth.now c.bind_or_reset_principal.new.self before before c.refuse.new.auth r.result
    refl connection
    (rw c.fields_of.ensures at c.in_ok-head.ensures)
    c.in_ok-bind_or_reset_principal.ensures.ok
    (inr (starved (Finish (Fails Starved)) before c.refuse.new.auth c.in_err-refuse.field-0.0
    r.result r.ensures.1 c.in_err-refuse.ensures.memory)) in
    record {
      verdict = served;
      proven = all_proven given fields c.args.auth.now served.0 before before c.refuse.new.auth r.result
          served.1 served.2;
    }

pub returns : goal.returns
returns g c =
    let head = c.in_ok-head.head in
    let name = head.method.now in
    let connection : bytes_eq head.service.now (codes "ssh-connection") ≡ true = search rules in
    let none : bytes_eq name (codes "none") ≡ false = search rules in
    let password : bytes_eq name (codes "password") ≡ false = search rules in
    let publickey : bytes_eq name (codes "publickey") ≡ false = search rules in
    let interactive : bytes_eq name (codes "keyboard-interactive") ≡ false = search rules in
    let fields = drop 1 c.args.payload.now in
    let given : Circumstances = record {
      accepts = g.V.Verifier.accepts c.args.verifier.now;
      session_id = c.args.session_id.now;
      moment = c.args.moment;
    } in
    let before = g.H.AuthHandler.told c.args.handler.now in
    let begins : AuthRequest =
    record c.bind_or_reset_principal.new.self { partial_success = false } in
    let step = c.in_ok-refuse.field-0 in
    let served = served_as given fields head.user.now head.service.now name head.rest.now (named_by name)
    c.args.auth.now c.bind_or_reset_principal.new.self before before c.refuse.new.auth (Ok step)
    refl connection
    (rw c.fields_of.ensures at c.in_ok-head.ensures)
    c.in_ok-bind_or_reset_principal.ensures.ok
    (other_method given fields name head.rest.now begins head.user.now before c.refuse.new.auth step
    none password publickey interactive c.in_ok-refuse.ensures.ok) in
    record {
      verdict = served;
      proven = all_proven given fields c.args.auth.now served.0 before before c.refuse.new.auth (Ok step)
          served.1 served.2;
    }
