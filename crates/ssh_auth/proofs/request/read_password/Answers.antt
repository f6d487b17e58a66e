use Rattle.std.proofs.Common.{◌≡◌, rules, ℕ, List, [], ◌∷◌, Bool, true, false, inl, inr}
use Rattle.std.specs.Prelude.{◌==◌, not}
use Rattle.ssh_wire.specs.declared.error.WireError.{WireError}
use Rattle.ssh_wire.specs.Field.{Flag, Text, Misfits, SpellsAll}
use Rattle.ssh_wire.proofs.Outcomes.{not_so}
use Rattle.ssh_auth.specs.Requested.{SaysPassword, Unfit_method}
use Rattle.ssh_auth.proofs.Responses.{fails_as}
use Rattle.ssh_auth.proofs.Signatures.{flag_first}
use Rattle.ssh_auth.proofs.request.read_password.Goals as goal

-- behind the flag no text comes first, whatever the flag says
no_password : (fields rest : List ℕ) (flag : Bool) (why : WireError)
    → SpellsAll (Flag ∷ []) (flag, tt) fields rest → Misfits Text rest why
    → SaysPassword fields (Unfit_method why)
no_password fields rest true why flag misfit = inr (inr (rest, flag, inl misfit))
no_password fields rest false why flag misfit = inr (inl (rest, flag, inl misfit))

pub returns-in_err-password : goal.returns-in_err-password
returns-in_err-password c =
    let r = c.from_residual-in_err-password in
    let after = c.u8.new.self in
    let byte = c.in_ok-is_change.field-0 in
    let why = c.in_err-password.field-0.0 in
    fails_as r.result _ _ why r.ensures.1
    (no_password c.args.fields.now after.left (not (byte == 0)) why
    (flag_first c.new-reader.result after c.args.fields.now byte c.new-reader.ensures.left
    c.in_ok-is_change.ensures.ok) c.in_err-password.ensures.misfit)

pub returns-in_err-new_password : goal.returns-in_err-new_password
returns-in_err-new_password c =
    let r = c.from_residual-in_err-new_password in
    let after = c.u8.new.self in
    let flag = flag_first c.new-reader.result after c.args.fields.now c.in_ok-is_change.field-0
    c.new-reader.ensures.left c.in_ok-is_change.ensures.ok in
    let change : not (c.in_ok-is_change.field-0 == 0) ≡ true = search rules in
    let password = c.in_ok-password.ensures.ok in
    fails_as r.result _ _ c.in_err-new_password.field-0.0 r.ensures.1
    (inr (inr (
      after.left,
      rw change at flag,
      inr (
        c.in_ok-password.password.now,
        password.0,
        c.text.new.self.left,
        password.1,
        password.2.0,
        inl c.in_err-new_password.ensures.misfit,
      ),
    )))

pub returns-in_err-end : goal.returns-in_err-end
returns-in_err-end c =
    let r = c.from_residual-in_err-end in
    let after = c.u8.new.self in
    let flag = flag_first c.new-reader.result after c.args.fields.now c.in_ok-is_change.field-0
    c.new-reader.ensures.left c.in_ok-is_change.ensures.ok in
    let change : not (c.in_ok-is_change.field-0 == 0) ≡ true = search rules in
    let password = c.in_ok-password.ensures.ok in
    let new_password = c.in_ok-new_password.ensures.ok in
    fails_as r.result _ _ c.in_err-end.field-0.0 r.ensures.1
    (inr (inr (
      after.left,
      rw change at flag,
      inr (
        c.in_ok-password.password.now,
        password.0,
        c.text.new.self.left,
        password.1,
        password.2.0,
        inr (
          c.in_ok-new_password.new_password.now,
          new_password.0,
          c.text-then-is_change.new.self.left,
          new_password.1,
          new_password.2.0,
          (not_so c.in_err-end.ensures.ok, c.in_err-end.ensures.trailing),
        ),
      ),
    )))

pub returns-in_err-end-2 : goal.returns-in_err-end-2
returns-in_err-end-2 c =
    let r = c.from_residual-in_err-end-2 in
    let after = c.u8.new.self in
    let flag = flag_first c.new-reader.result after c.args.fields.now c.in_ok-is_change.field-0
    c.new-reader.ensures.left c.in_ok-is_change.ensures.ok in
    let password = c.in_ok-password.ensures.ok in
    fails_as r.result _ _ c.in_err-end-2.field-0.0 r.ensures.1
    (inr (inl (
      after.left,
      rw c.if-is_change.false at flag,
      inr (
        c.in_ok-password.password.now,
        password.0,
        c.text.new.self.left,
        password.1,
        password.2.0,
        (not_so c.in_err-end-2.ensures.ok, c.in_err-end-2.ensures.trailing),
      ),
    )))
