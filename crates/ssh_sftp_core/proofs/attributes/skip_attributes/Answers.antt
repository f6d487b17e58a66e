use Rattle.std.proofs.Common.{◌∙◌, ap, [], ◌∷◌}
use Rattle.std.specs.Option.{option_and_then}
use Rattle.std.proofs.lemmas.Result.{err_from_is_err_and, MatchResult-weaker}
use Rattle.ssh_wire.specs.Field.{Number, Long}
use Rattle.ssh_sftp_core.specs.Layouts.{has, past_where, past_extended, past_flagged}
use Rattle.ssh_sftp_core.proofs.Fields.{first_number, none_second, none_third, none_fourth, fifth}
use Rattle.ssh_sftp_core.proofs.attributes.skip_attributes.Goals as goal

pub returns-in_err-skip_numbers : goal.returns-in_err-skip_numbers
returns-in_err-skip_numbers c =
    let p = err_from_is_err_and c.from_residual-in_err-skip_numbers.result
    c.from_residual-in_err-skip_numbers.ensures.1 in
    let before = ap (option_and_then (λ found. past_flagged found.0 found.1))
    (first_number c.args.reader.now c.u32.new.self c.in_ok-flags.flags c.in_ok-flags.ensures.ok) in
    rw (p.1, p.2) (
      c.in_err-skip_numbers.ensures.0,
      before ∙ none_second
          (past_where (has c.in_ok-flags.flags 1) (Long ∷ [])) (past_where (has c.in_ok-flags.flags
          2) (Number ∷ Number ∷ []))
          (past_where (has c.in_ok-flags.flags 4) (Number ∷ [])) (past_where (has
          c.in_ok-flags.flags 8) (Number ∷ Number ∷ []))
          (past_extended (has c.in_ok-flags.flags 0x8000_0000))
          c.u32.new.self.left c.skip_long.new.reader.left c.in_ok-skip_long.ensures
          c.in_err-skip_numbers.ensures.1,
    )

pub returns-in_err-skip_number : goal.returns-in_err-skip_number
returns-in_err-skip_number c =
    let p = err_from_is_err_and c.from_residual-in_err-skip_number.result
    c.from_residual-in_err-skip_number.ensures.1 in
    let before = ap (option_and_then (λ found. past_flagged found.0 found.1))
    (first_number c.args.reader.now c.u32.new.self c.in_ok-flags.flags c.in_ok-flags.ensures.ok) in
    rw (p.1, p.2) (
      c.in_err-skip_number.ensures.0,
      before ∙ none_third
          (past_where (has c.in_ok-flags.flags 1) (Long ∷ [])) (past_where (has c.in_ok-flags.flags
          2) (Number ∷ Number ∷ []))
          (past_where (has c.in_ok-flags.flags 4) (Number ∷ [])) (past_where (has
          c.in_ok-flags.flags 8) (Number ∷ Number ∷ []))
          (past_extended (has c.in_ok-flags.flags 0x8000_0000))
          c.u32.new.self.left c.skip_long.new.reader.left c.in_ok-skip_long.ensures
          c.skip_numbers.new.reader.left c.in_ok-skip_numbers.ensures
          c.in_err-skip_number.ensures.1,
    )

pub returns-in_err-skip_numbers-2 : goal.returns-in_err-skip_numbers-2
returns-in_err-skip_numbers-2 c =
    let p = err_from_is_err_and c.from_residual-in_err-skip_numbers-2.result
    c.from_residual-in_err-skip_numbers-2.ensures.1 in
    let before = ap (option_and_then (λ found. past_flagged found.0 found.1))
    (first_number c.args.reader.now c.u32.new.self c.in_ok-flags.flags c.in_ok-flags.ensures.ok) in
    rw (p.1, p.2) (
      c.in_err-skip_numbers-2.ensures.0,
      before ∙ none_fourth
          (past_where (has c.in_ok-flags.flags 1) (Long ∷ [])) (past_where (has c.in_ok-flags.flags
          2) (Number ∷ Number ∷ []))
          (past_where (has c.in_ok-flags.flags 4) (Number ∷ [])) (past_where (has
          c.in_ok-flags.flags 8) (Number ∷ Number ∷ []))
          (past_extended (has c.in_ok-flags.flags 0x8000_0000))
          c.u32.new.self.left c.skip_long.new.reader.left c.in_ok-skip_long.ensures
          c.skip_numbers.new.reader.left c.in_ok-skip_numbers.ensures c.skip_number.new.reader.left
          c.in_ok-skip_number.ensures c.in_err-skip_numbers-2.ensures.1,
    )

pub returns : goal.returns
returns c =
    let before = ap (option_and_then (λ found. past_flagged found.0 found.1))
    (first_number c.args.reader.now c.u32.new.self c.in_ok-flags.flags c.in_ok-flags.ensures.ok) in
    let all = before ∙ fifth
    (past_where (has c.in_ok-flags.flags 1) (Long ∷ [])) (past_where (has c.in_ok-flags.flags 2)
    (Number ∷ Number ∷ []))
    (past_where (has c.in_ok-flags.flags 4) (Number ∷ [])) (past_where (has c.in_ok-flags.flags 8)
    (Number ∷ Number ∷ []))
    (past_extended (has c.in_ok-flags.flags 0x8000_0000))
    c.u32.new.self.left c.skip_long.new.reader.left c.in_ok-skip_long.ensures
    c.skip_numbers.new.reader.left c.in_ok-skip_numbers.ensures c.skip_number.new.reader.left
    c.in_ok-skip_number.ensures c.skip_numbers-2.new.reader.left c.in_ok-skip_numbers-2.ensures in
    MatchResult-weaker c.skip_extended.result c.skip_extended.ensures (λ _ ok. all ∙ ok)
    (λ _ err. (err.0, all ∙ err.1))
