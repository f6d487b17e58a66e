use Rattle.std.proofs.Common.{◌≡◌, ap, map, inr, ◌∙◌}
use Rattle.ssh_link.specs.declared.link.TraceEntry.TheVariants.{Sent}
use Rattle.ssh_rules.specs.Acts.{frames_given, gives, tell_all}
use Rattle.ssh_rules.specs.Exchange.{given}
use Rattle.ssh_rules.specs.Failure.{run_error_of}
use Rattle.ssh_rules.specs.Layout.{at_once}
use Rattle.ssh_rules.proofs.Plans.Exchanging.{all_given}
use Rattle.ssh_serving.proofs.Finishing.{told_all}
use Rattle.ssh_rules.proofs.Plans.Results.{in_any_case}
use Rattle.ssh_serving.proofs.Refining.{rekeyed}
use Rattle.ssh_serving.specs.Handing.{IsCutBefore, IsCutByLink}
use Rattle.ssh_serving.proofs.Handing.{starved_to, to_other}
use Rattle.ssh_serving.proofs.server.Server.give_payloads.Goals as goal

pub returns-in_err-frames-clause-does : goal.returns-in_err-frames-clause-does
returns-in_err-frames-clause-does g c = λ w r next.
    starved_to _ (λ (_ : Unit {0}) _. next) _ _ _ _ c.from_residual.ensures.1
    (ap run_error_of c.in_err-frames.ensures.memory)

pub returns-clause-does : goal.returns-clause-does
returns-clause-does g c = λ w r next.
    let payloads = c.args.payloads.now in
    let out : c.in_ok-frames.frames.items ≡ frames_given payloads =
    c.in_ok-frames.ensures.ok ∙ (ap (map at_once) c.as_slice.ensures
    ∙ all_given payloads c.requires.transport) in
    let to : c.give.new.self ≡ given (frames_given payloads) w.keys =
    c.give.ensures ∙ (ap (λ l. given l c.args.self.now.keys) (c.as_slice-2.ensures.value ∙ out)
    ∙ ap (given (frames_given payloads)) r.keys) in
    to_other IsCutByLink IsCutBefore (tell_all (map Sent (frames_given payloads)) next)
    (λ (_ : Unit {0}) _. next) _ _ _ c.send_each.result
    (told_all c.in_ok-frames.frames.items (frames_given payloads) next _ _
    (gives (frames_given payloads) w) _ c.send_each.result out
    (rekeyed c.args.self.now c.give.new.self _ w (given (frames_given payloads) w.keys) to r)
    c.send_each.ensures.does) (λ _ _ link. inr link)

pub returns-clause-world : goal.returns-clause-world
returns-clause-world g c = in_any_case _ c.send_each.result (λ w r.
    let payloads = c.args.payloads.now in
    let out : c.in_ok-frames.frames.items ≡ frames_given payloads =
    c.in_ok-frames.ensures.ok ∙ (ap (map at_once) c.as_slice.ensures
    ∙ all_given payloads c.requires.transport) in
    let to : c.give.new.self ≡ given (frames_given payloads) w.keys =
    c.give.ensures ∙ (ap (λ l. given l c.args.self.now.keys) (c.as_slice-2.ensures.value ∙ out)
    ∙ ap (given (frames_given payloads)) r.keys) in
    rekeyed c.args.self.now c.give.new.self _ w (given (frames_given payloads) w.keys) to r)
