use Rattle.std.proofs.Common.{◌≡◌, rules, [], true, false, ◌∙◌, sym, ap, subst}
use Rattle.ssh_wire.specs.Field.{SpellsAll}
use Rattle.ssh_keys.specs.Algorithms.{algorithm_name}
use Rattle.std.specs.Prelude.{codes}
use Rattle.ssh_auth.specs.Publickey.{offer_fields}
use Rattle.ssh_auth.specs.Request.{begun, is_probed}
use Rattle.ssh_auth.specs.Read.{circumstances, all_fields}
use Rattle.ssh_auth.proofs.AsTold.{IsSigned, signed_says, signed_asked, probe_asked}
use Rattle.ssh_auth.proofs.Telling.{spelled_offer, followed_probe, unsigned, covered, behind_fits}
use Rattle.ssh_auth.proofs.asked.asked_by_offer.Goals as goal

pub returns-in-Err-clause-ok : goal.returns-in-Err-clause-ok
returns-in-Err-clause-ok g c =
    let request = c.args.request.now in
    let asked = c.args.asked in
    let is : asked.signed ≡ false = search rules in
    λ verifier. followed_probe (circumstances (g.V.Verifier.accepts verifier) request)
    (all_fields request) request.fields.now asked.rest.now c.args.offer
    (spelled_offer request.fields.now asked.rest.now asked.name.now asked.blob.now asked.signed false
    c.args.offer is c.requires.names c.requires.offered) c.in-Err.ensures.0

pub returns-in-Ok-clause-ok : goal.returns-in-Ok-clause-ok
returns-in-Ok-clause-ok g c =
    let request = c.args.request.now in
    let fields = request.fields.now in
    let asked = c.args.asked in
    let offer = c.args.offer in
    let is : asked.signed ≡ false = search rules in
    let spelled = spelled_offer fields asked.rest.now asked.name.now asked.blob.now asked.signed
    false offer is c.requires.names c.requires.offered in
    let ends = subst (λ rest. SpellsAll offer_fields (false, (offer.name, (offer.blob, tt))) fields
    rest) c.in-Ok.ensures spelled in
    λ verifier.
    let given = circumstances (g.V.Verifier.accepts verifier) request in (
      (c.requires.usable, λ usable. (ends, c.requires.names.2, usable)),
      probe_asked given (begun c.args.auth.now request.user.now (codes "ssh-connection"))
          (all_fields request) fields [] request.user.now offer c.requires.names.2 ends
          (λ usable. (ends, c.requires.names.2, usable)),
    )

pub message_and_signature-requires : goal.message_and_signature-requires
message_and_signature-requires g c =
    let request = c.args.request.now in
    let asked = c.args.asked in
    let is : asked.signed ≡ true = search rules in (
      c.requires.whole.0,
      behind_fits request.payload.now c.requires.whole.1.0 request.fields.now asked.rest.now
          c.args.offer c.requires.whole.1.1
          (spelled_offer request.fields.now asked.rest.now asked.name.now asked.blob.now asked.signed
          true c.args.offer is c.requires.names c.requires.offered),
    )

pub returns-in-Ok-Some-clause-ok : goal.returns-in-Ok-Some-clause-ok
returns-in-Ok-Some-clause-ok g c =
    let request = c.args.request.now in
    let fields = request.fields.now in
    let asked = c.args.asked in
    let offer = c.args.offer in
    let message = c.in-Ok-Some.message in
    let blob = c.in-Ok-Some.signature in
    let is : asked.signed ≡ true = search rules in
    let found = rw c.in-Ok-Some.field-0-is at c.in-Ok-Some.ensures.ok in
    let spelled = spelled_offer fields asked.rest.now asked.name.now asked.blob.now asked.signed true
    offer is c.requires.names c.requires.offered in
    let all = covered request.session_id.now request.payload.now c.requires.whole.1.0 fields
    asked.rest.now message offer c.requires.whole.1.1 spelled found.3 in
    let signed : IsSigned request.session_id.now (all_fields request) fields asked.rest.now message
    blob offer = record {
      is_offered = c.requires.names.2;
      spells = spelled;
      unsigned = all.0;
      covers = all.1;
      whole = all.2;
      signature = found.0;
      ends = found.1;
      named = found.2 ∙ ap (λ o. algorithm_name o.algorithm) c.offer.view_is;
      is = found.4;
    } in
    let begun_so = begun c.args.auth.now request.user.now (codes "ssh-connection") in
    let probed : c.was_probed-probed.result ≡ is_probed begun_so.current offer.name offer.blob =
    c.was_probed-probed.ensures
    ∙ ap (λ o. is_probed begun_so.current o.name o.blob) c.offer.view_is in
    λ verifier.
    let given = circumstances (g.V.Verifier.accepts verifier) request in (
      (
        c.requires.usable,
        probed,
        signed_says given (all_fields request) fields asked.rest.now message blob offer signed,
      ),
      signed_asked given begun_so (all_fields request) fields asked.rest.now request.user.now message
          blob offer c.was_probed-probed.result signed probed,
    )

pub returns-in-Ok-None-clause-ok : goal.returns-in-Ok-None-clause-ok
returns-in-Ok-None-clause-ok g c =
    let request = c.args.request.now in
    let asked = c.args.asked in
    let is : asked.signed ≡ true = search rules in
    let found = rw c.in-Ok-None.field-0-is at c.in-Ok-None.ensures.ok in
    λ verifier. unsigned (circumstances (g.V.Verifier.accepts verifier) request)
    (all_fields request) request.fields.now asked.rest.now c.args.offer c.requires.names.2
    (spelled_offer request.fields.now asked.rest.now asked.name.now asked.blob.now asked.signed true
    c.args.offer is c.requires.names c.requires.offered)
    (λ signature ends named. found signature ends
    (named ∙ ap (λ o. algorithm_name o.algorithm) (sym c.offer.view_is)))
