use Rattle.std.proofs.Common.{◌≡◌, rules, ◌∷◌, true, false, ◌∙◌, ap}
use Rattle.std.specs.Prelude.{bytes_eq, codes, drop}
use Rattle.ssh_auth.specs.Publickey.{Circumstances}
use Rattle.ssh_auth.specs.Requested.{head_fields, SaysMethod, SaysRequest, Request, named_by}
use Rattle.ssh_auth.proofs.Asks.{same_text, other_text, in_connection}
use Rattle.ssh_auth.proofs.Signatures.{spells_front}
use Rattle.ssh_auth.proofs.Telling.{unfit_head, other_service, silent_request, told_more}
use Rattle.ssh_auth.proofs.AsTold.{request_asked}
use Rattle.ssh_auth.proofs.asked.asked_by_request.Goals as goal

pub returns-in_default-clause-asked : goal.returns-in_default-clause-asked
returns-in_default-clause-asked g c = λ verifier. unfit_head (record {
  accepts = g.V.Verifier.accepts verifier;
  session_id = c.args.session_id.now;
  moment = c.args.moment;
}) c.args.auth.now (drop 1 c.args.payload.now) c.in_default.field-0
    (rw c.fields_of.ensures at c.in_default.ensures)

pub returns-then-ne-clause-asked : goal.returns-then-ne-clause-asked
returns-then-ne-clause-asked g c =
    let head = c.in-Ok.head in
    let other : bytes_eq head.service.now (codes "ssh-connection") ≡ false = search rules in
    λ verifier. other_service (record {
      accepts = g.V.Verifier.accepts verifier;
      session_id = c.args.session_id.now;
      moment = c.args.moment;
    }) c.args.auth.now (drop 1 c.args.payload.now) head.user.now head.service.now head.method.now
    head.rest.now (rw c.fields_of.ensures at c.in-Ok.ensures)
    (other_text head.service.now (codes "ssh-connection") other)

pub asked_by_method-requires : goal.asked_by_method-requires
asked_by_method-requires g c =
    let head = c.in-Ok.head in
    let numbered = c.requires.numbered in
    let fields = rw (c.fields_of.ensures, numbered.1) at c.in-Ok.ensures in
    let front = spells_front head_fields (head.user.now, (head.service.now, (head.method.now, tt)))
    numbered.0 head.rest.now fields in
    (c.requires.session_id, (front.0, numbered.1 ∙ ap (λ x. 50 ∷ x) front.1))

pub returns-in-Some-clause-asked : goal.returns-in-Some-clause-asked
returns-in-Some-clause-asked g c =
    let head = c.in-Ok.head in
    let fields = drop 1 c.args.payload.now in
    let connection : bytes_eq head.service.now (codes "ssh-connection") ≡ true = search rules in
    let same = same_text head.service.now (codes "ssh-connection") connection in
    let spelled = in_connection fields head.user.now head.service.now head.method.now head.rest.now
    same (rw c.fields_of.ensures at c.in-Ok.ensures) in
    let told = rw c.in-Some.is at c.in_ok-method.ensures.ok in
    λ verifier.
    let given : Circumstances = record {
      accepts = g.V.Verifier.accepts verifier;
      session_id = c.args.session_id.now;
      moment = c.args.moment;
    } in (
      same,
      told_more given c.args.auth.now
          (SaysMethod given fields (named_by head.method.now) head.rest.now)
          (λ method. SaysRequest given fields (Request head.user.now method)) head.user.now
          c.in-Some.method (λ method h. (head.method.now, head.rest.now, spelled, h))
          (told verifier).0,
    )

pub returns-in-None-clause-asked : goal.returns-in-None-clause-asked
returns-in-None-clause-asked g c =
    let head = c.in-Ok.head in
    let fields = drop 1 c.args.payload.now in
    let connection : bytes_eq head.service.now (codes "ssh-connection") ≡ true = search rules in
    let same = same_text head.service.now (codes "ssh-connection") connection in
    let spelled = in_connection fields head.user.now head.service.now head.method.now head.rest.now
    same (rw c.fields_of.ensures at c.in-Ok.ensures) in
    let told = rw c.in-None.is at c.in_ok-method.ensures.ok in
    λ verifier. silent_request (record {
      accepts = g.V.Verifier.accepts verifier;
      session_id = c.args.session_id.now;
      moment = c.args.moment;
    }) c.args.auth.now fields head.user.now head.method.now head.rest.now spelled (told verifier)

pub returns-in_default-clause-serving : goal.returns-in_default-clause-serving
returns-in_default-clause-serving g c = returns-in_default-clause-asked g c

pub returns-then-ne-clause-serving : goal.returns-then-ne-clause-serving
returns-then-ne-clause-serving g c = returns-then-ne-clause-asked g c

pub returns-in-None-clause-serving : goal.returns-in-None-clause-serving
returns-in-None-clause-serving g c = returns-in-None-clause-asked g c

pub returns-in-Some-clause-serving : goal.returns-in-Some-clause-serving
returns-in-Some-clause-serving g c =
    let head = c.in-Ok.head in
    let fields = drop 1 c.args.payload.now in
    let connection : bytes_eq head.service.now (codes "ssh-connection") ≡ true = search rules in
    let spelled = in_connection fields head.user.now head.service.now head.method.now head.rest.now
    (same_text head.service.now (codes "ssh-connection") connection)
    (rw c.fields_of.ensures at c.in-Ok.ensures) in
    let told = rw c.in-Some.is at c.in_ok-method.ensures.ok in
    λ verifier. request_asked (record {
      accepts = g.V.Verifier.accepts verifier;
      session_id = c.args.session_id.now;
      moment = c.args.moment;
    }) c.args.auth.now fields head.user.now head.method.now head.rest.now c.in-Some.method spelled
    (told verifier).1
