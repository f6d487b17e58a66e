use Rattle.std.proofs.Common.{◌∙◌, inl, inr, refl, sym, subst, Ok}
use Rattle.ssh_rules.specs.declared.messages.Spoken.TheVariants.{Nothing}
use Rattle.ssh_rules.specs.Messages.{request, request_on}
use Rattle.ssh_rules.specs.Spelling.{Spells}
use Rattle.ssh_rules.proofs.Read.Misread.{misread}
use Rattle.ssh_rules.proofs.Read.ChannelRequests.{read_behind}
use Rattle.ssh_messages.proofs.channel_requests.request_message.Goals as goal

pub returns-in_err-asked : goal.returns-in_err-asked
returns-in_err-asked c = λ there same. misread (request there) c.args.fields.now _ _
    c.from_residual.ensures.1 (inr (c.in_err-asked.field-0.0, c.in_err-asked.ensures, refl))

pub returns-then-not-is_established : goal.returns-then-not-is_established
returns-then-not-is_established c = λ there same.
    let asked = c.in_ok-asked.asked in
    let n = asked.channel.0 in
    let absent = sym (c.is_established.ensures ∙ same n) ∙ c.if-not-is_established.true in
    inl (
      (n, (asked.name.now, (asked.wanted, tt))),
      asked.rest.now,
      c.in_ok-asked.ensures,
      subst (λ b. Spells (request_on b asked.wanted n asked.name.now) asked.rest.now
          (Ok Nothing)) (sym absent) refl,
    )

pub returns : goal.returns
returns c = λ there same.
    let asked = c.in_ok-asked.asked in
    let n = asked.channel.0 in
    let yes = sym (c.is_established.ensures ∙ same n) ∙ c.if-not-is_established.false in
    read_behind there c.args.fields.now asked.rest.now n asked.name.now asked.wanted _
    c.in_ok-asked.ensures yes c.channel_request.ensures
