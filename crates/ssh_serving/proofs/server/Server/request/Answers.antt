use Rattle.std.proofs.Common.{◌∷◌, [], ◌∙◌, Some, None, ap, sym, arith}
use Rattle.std.specs.Option.{option_copied}
use Rattle.ssh_link.specs.declared.outcome.Refusal.TheVariants.{TooLong}
use Rattle.ssh_rules.specs.Effect.{requests}
use Rattle.ssh_rules.specs.OwnRequests.{OwnRequest}
use Rattle.ssh_serving.proofs.Effects.{accepted, refused}
use Rattle.ssh_serving.proofs.Established.{short_request, long_request}
use Rattle.ssh_serving.proofs.Refining.{staged}
use Rattle.ssh_serving.proofs.server.Server.request.Goals as goal

pub returns-then-saturating_add-gt-MAX_REQUEST_PARTS-clause-does :
    goal.returns-then-saturating_add-gt-MAX_REQUEST_PARTS-clause-does
returns-then-saturating_add-gt-MAX_REQUEST_PARTS-clause-does g c = λ w r.
    let asked : OwnRequest = record { name = c.args.name.now; fields = c.args.fields.now } in
    let large = c.if-saturating_add-gt-MAX_REQUEST_PARTS.true in
    let sum = c.saturating_add.ensures in
    refused g.row.E.Denot g.row.F.Denot (requests c.args.channel asked w) w TooLong _
    c.quiet.result
    (long_request c.args.channel asked w (omega (arith, large, sum))) c.quiet.ensures r

pub returns-in_ok-stage-in-Some-clause-does : goal.returns-in_ok-stage-in-Some-clause-does
returns-in_ok-stage-in-Some-clause-does g c = λ w r.
    let asked : OwnRequest = record { name = c.args.name.now; fields = c.args.fields.now } in
    let small = c.if-saturating_add-gt-MAX_REQUEST_PARTS.false in
    let sum = c.saturating_add.ensures in
    let wrote = staged c.in_ok-frame-in-Some.frame _ c.args.self.now c.stage.new.self _ w
    c.in_ok-frame-in-Some.ensures.ok c.in_ok-stage-in-Some.ensures.table r in
    accepted g.row.E.Denot g.row.F.Denot (requests c.args.channel asked w) _ _
    c.quiet-in-Some.result
    (short_request c.args.channel asked c.args.self.now w (Some c.in-Some.line.now) r
    (sym (ap option_copied c.in-Some.is) ∙ c.params.ensures) (omega (arith, small, sum)))
    c.quiet-in-Some.ensures wrote

pub returns-in-None-clause-does : goal.returns-in-None-clause-does
returns-in-None-clause-does g c = λ w r.
    let asked : OwnRequest = record { name = c.args.name.now; fields = c.args.fields.now } in
    let small = c.if-saturating_add-gt-MAX_REQUEST_PARTS.false in
    let sum = c.saturating_add.ensures in
    accepted g.row.E.Denot g.row.F.Denot (requests c.args.channel asked w) w _
    c.quiet-in-None.result
    (short_request c.args.channel asked c.args.self.now w None r
    (sym (ap option_copied c.in-None.is) ∙ c.params.ensures) (omega (arith, small, sum)))
    c.quiet-in-None.ensures r
