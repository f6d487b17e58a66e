use Rattle.std.proofs.Common.{map, Some, true, false, Ok, Err, inl, inr, refl, sym, ap, ◌∙◌, subst}
use Rattle.ssh_auth.specs.declared.call.Call.TheVariants.{AuthKeyboardInteractive}
use Rattle.ssh_auth.specs.declared.error.AuthError.TheVariants as error
use Rattle.ssh_auth.specs.declared.question.Admission.TheVariants as by
use Rattle.ssh_auth.specs.declared.question.Question.TheVariants.{Admits}
use Rattle.ssh_auth.specs.Plan.{Finish}
use Rattle.ssh_auth.specs.Response.{SaysResponses, Responses, Unfit_responses, Unread_responses}
use Rattle.ssh_auth.specs.Verdict.{Fails, Starved, after_prompts}
use Rattle.ssh_auth.proofs.Asks.{asked_once, asked_in_vain, starved, unfit}
use Rattle.ssh_auth.proofs.Proving.{no_prompts, one_prompt}
use Rattle.ssh_auth.proofs.Rounds.{prompted_response, responses_error}
use Rattle.ssh_auth.proofs.interactive.serve_response.Goals as goal

pub returns-in_err-responses : goal.returns-in_err-responses
returns-in_err-responses g c =
    let auth = c.args.auth.now in
    let cleared = record auth { partial_success = false } in
    let told = g.H.AuthHandler.told c.args.handler.now in
    let why = c.in_err-responses.field-0.0 in
    let failed = c.from_residual-in_err-responses in
    record {
      verdict = elim c.in_err-responses.ensures [
        | inl memory ↦ (
          Unread_responses,
          tt,
          prompted_response auth c.in-Some.user.now c.in-Some.submethods.now Unread_responses told
              told cleared failed.result c.in-Some.ensures
              (starved (Finish (Fails Starved)) told cleared why failed.result failed.ensures.1
              memory),
        )
        | inr misfit ↦ (
          Unfit_responses why,
          subst (λ fields. SaysResponses fields (Unfit_responses why)) c.fields_of.ensures misfit,
          prompted_response auth c.in-Some.user.now c.in-Some.submethods.now (Unfit_responses why)
              told told cleared failed.result c.in-Some.ensures
              (unfit why told cleared failed.result failed.ensures.1
              (responses_error g.row.H-Error.Denot c.fields_of.result.now why misfit)),
        )
      ];
      prompts = no_prompts told;
    }

pub returns-in-Ok : goal.returns-in-Ok
returns-in-Ok g c =
    let auth = c.args.auth.now in
    let user = c.in-Some.user.now in
    let submethods = c.in-Some.submethods.now in
    let texts = c.new-response.result in
    let are = c.new-response.ensures ∙ ap (λ items. map (λ text. text.now) items)
    c.as_slice.ensures.value in
    let call = AuthKeyboardInteractive user submethods (Some texts) (Ok c.in-Ok.verdict) in
    record {
      verdict = (
        Responses texts,
        subst (λ fields. SaysResponses fields (Responses texts)) c.fields_of.ensures
            (subst (λ t. SaysResponses c.fields_of.result.now (Responses t)) (sym are)
            c.in_ok-responses.ensures),
        prompted_response auth user submethods (Responses texts) _ _ c.answer_prompted-answered.new.auth
            c.answer_prompted-answered.result c.in-Some.ensures
            (asked_once (Admits (by.KeyboardInteractive user submethods (Some texts)))
            (λ answer. after_prompts (record auth { partial_success = false }) answer)
            c.in-Ok.verdict
            call _ _ c.answer_prompted-answered.new.auth c.answer_prompted-answered.result refl c.in-Ok.ensures
            c.answer_prompted-answered.ensures),
      );
      prompts = one_prompt false _ _ user submethods (Some texts) (Ok c.in-Ok.verdict)
          c.in-Ok.ensures;
    }

pub returns-in-Err : goal.returns-in-Err
returns-in-Err g c =
    let auth = c.args.auth.now in
    let user = c.in-Some.user.now in
    let submethods = c.in-Some.submethods.now in
    let texts = c.new-response.result in
    let are = c.new-response.ensures ∙ ap (λ items. map (λ text. text.now) items)
    c.as_slice.ensures.value in
    let call = AuthKeyboardInteractive user submethods (Some texts) (Err c.in-Err.e) in
    record {
      verdict = (
        Responses texts,
        subst (λ fields. SaysResponses fields (Responses texts)) c.fields_of.ensures
            (subst (λ t. SaysResponses c.fields_of.result.now (Responses t)) (sym are)
            c.in_ok-responses.ensures),
        prompted_response auth user submethods (Responses texts) _ _
            (record auth { partial_success = false }) (Err (error.Handler c.in-Err.e))
            c.in-Some.ensures (asked_in_vain
            (Admits (by.KeyboardInteractive user submethods (Some texts)))
            (λ answer. Finish (after_prompts (record auth { partial_success = false }) answer)) call
            _ _
            (record auth { partial_success = false }) c.in-Err.e refl c.in-Err.ensures),
      );
      prompts = one_prompt true _ _ user submethods (Some texts) (Err c.in-Err.e) c.in-Err.ensures;
    }

pub returns-in_err-refuse-clause-prompts : goal.returns-in_err-refuse-clause-prompts
returns-in_err-refuse-clause-prompts g c = no_prompts (g.H.AuthHandler.told c.args.handler.now)

pub returns-in_default-clause-prompts : goal.returns-in_default-clause-prompts
returns-in_default-clause-prompts g c = no_prompts (g.H.AuthHandler.told c.args.handler.now)
