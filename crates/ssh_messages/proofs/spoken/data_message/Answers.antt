use Rattle.std.proofs.Common.{◌≡◌, ◌∷◌, [], ◌∙◌, inl, inr, refl, sym, subst, Ok, Err, true, false}
use Rattle.ssh_wire.specs.Field.{Bytes, Number, SpellsAll, SpellsWhole, MisfitsAll}
use Rattle.ssh_wire.proofs.Fields.{spells_more_all, misfit_here_all, misfits_whole, trailing}
use Rattle.ssh_channels.specs.declared.chunk.DataKind.TheVariants.{Plain}
use Rattle.ssh_channels.specs.Layout.{chunk}
use Rattle.ssh_rules.specs.declared.messages.Spoken.TheVariants.{Nothing, Data}
use Rattle.ssh_rules.specs.Messages.{plain_data, data_on}
use Rattle.ssh_rules.specs.Spelling.{Spells}
use Rattle.ssh_rules.proofs.Read.Misread.{misread, unkept}
use Rattle.ssh_messages.proofs.spoken.data_message.Goals as goal

pub returns-in_err-number : goal.returns-in_err-number
returns-in_err-number c = λ there same.
    let why = c.in_err-number.field-0.0 in
    misread (plain_data there) c.args.fields.now _ _ c.from_residual.ensures.1 (inr (
      why,
      subst (λ l. MisfitsAll (Number ∷ []) l why) c.new-reader.ensures.left
          (misfit_here_all Number [] c.new-reader.result.left why c.in_err-number.ensures.misfit),
      refl,
    ))

pub returns-then-not-is_established : goal.returns-then-not-is_established
returns-then-not-is_established c = λ there same.
    let n = c.in_ok-number.number in
    let rest = c.u32.new.self.left in
    let no = sym (c.is_established.ensures ∙ same n) ∙ c.if-not-is_established.true in
    inl (
      (n, tt),
      rest,
      subst (λ l. SpellsAll (Number ∷ []) (n, tt) l rest) c.new-reader.ensures.left
          (spells_more_all Number [] c.new-reader.result c.u32.new.self n tt rest
          c.in_ok-number.ensures.ok refl),
      subst (λ b. Spells (data_on b n) rest (Ok Nothing)) (sym no) refl,
    )

pub returns-in_err-sent : goal.returns-in_err-sent
returns-in_err-sent c = λ there same.
    let n = c.in_ok-number.number in
    let rest = c.u32.new.self.left in
    let yes = sym (c.is_established.ensures ∙ same n) ∙ c.if-not-is_established.false in
    let why = c.in_err-sent.field-0.0 in
    misread (plain_data there) c.args.fields.now _ _
    c.from_residual-in_err-sent.ensures.1 (inl (
      (n, tt),
      rest,
      subst (λ l. SpellsAll (Number ∷ []) (n, tt) l rest) c.new-reader.ensures.left
          (spells_more_all Number [] c.new-reader.result c.u32.new.self n tt rest
          c.in_ok-number.ensures.ok refl),
      subst (λ b. Spells (data_on b n) rest (Err why)) (sym yes) (inr (
        why,
        misfits_whole (Bytes ∷ []) rest why
            (misfit_here_all Bytes [] rest why c.in_err-sent.ensures.misfit),
        refl,
      )),
    ))

pub returns-in_err-end : goal.returns-in_err-end
returns-in_err-end c = λ there same.
    let n = c.in_ok-number.number in
    let rest = c.u32.new.self.left in
    let yes = sym (c.is_established.ensures ∙ same n) ∙ c.if-not-is_established.false in
    let why = c.in_err-end.field-0.0 in
    let sent = c.in_ok-sent.sent.now in
    let more = c.bytes.new.self.left in
    misread (plain_data there) c.args.fields.now _ _
    c.from_residual-in_err-end.ensures.1 (inl (
      (n, tt),
      rest,
      subst (λ l. SpellsAll (Number ∷ []) (n, tt) l rest) c.new-reader.ensures.left
          (spells_more_all Number [] c.new-reader.result c.u32.new.self n tt rest
          c.in_ok-number.ensures.ok refl),
      subst (λ b. Spells (data_on b n) rest (Err why)) (sym yes) (inr (
        why,
        trailing (Bytes ∷ []) (sent, tt) rest more why
            (spells_more_all Bytes [] c.u32.new.self c.bytes.new.self sent tt more
            c.in_ok-sent.ensures.ok refl)
            (λ none. let e : false ≡ true = c.in_err-end.ensures.ok.1 none in cc)
            c.in_err-end.ensures.trailing,
        refl,
      )),
    ))

pub returns-in_err-bytes : goal.returns-in_err-bytes
returns-in_err-bytes c = λ there same.
    let n = c.in_ok-number.number in
    let rest = c.u32.new.self.left in
    let yes = sym (c.is_established.ensures ∙ same n) ∙ c.if-not-is_established.false in
    let sent = c.in_ok-sent.sent.now in
    let said = Data (record { 0 = n }) (chunk Plain sent) in
    unkept (plain_data there) c.args.fields.now _ (Ok said) _
    c.from_residual-in_err-bytes.ensures.1 refl (inl (
      (n, tt),
      rest,
      subst (λ l. SpellsAll (Number ∷ []) (n, tt) l rest) c.new-reader.ensures.left
          (spells_more_all Number [] c.new-reader.result c.u32.new.self n tt rest
          c.in_ok-number.ensures.ok refl),
      subst (λ b. Spells (data_on b n) rest (Ok said)) (sym yes) (inl (
        (sent, tt),
        spells_more_all Bytes [] c.u32.new.self c.bytes.new.self sent tt []
            c.in_ok-sent.ensures.ok (c.in_ok-end.ensures.ok.0 refl),
        refl,
      )),
    ))

pub returns : goal.returns
returns c = λ there same.
    let n = c.in_ok-number.number in
    let rest = c.u32.new.self.left in
    let yes = sym (c.is_established.ensures ∙ same n) ∙ c.if-not-is_established.false in
    let sent = c.in_ok-sent.sent.now in
    let bytes = c.in_ok-bytes.bytes in
    let said = Data (record { 0 = n }) (chunk Plain bytes) in
    let spells = subst (λ b. SpellsWhole (Bytes ∷ []) (b, tt) rest) (sym c.in_ok-bytes.ensures)
    (spells_more_all Bytes [] c.u32.new.self c.bytes.new.self sent tt [] c.in_ok-sent.ensures.ok
    (c.in_ok-end.ensures.ok.0 refl)) in
    inl (
      (n, tt),
      rest,
      subst (λ l. SpellsAll (Number ∷ []) (n, tt) l rest) c.new-reader.ensures.left
          (spells_more_all Number [] c.new-reader.result c.u32.new.self n tt rest
          c.in_ok-number.ensures.ok refl),
      subst (λ b. Spells (data_on b n) rest (Ok said)) (sym yes) (inl ((bytes, tt), spells, refl)),
    )
