-- Extensions and a reserved string that are not there.
use Rattle.ssh_keys.specs.Keys.{LacksFields}
use Rattle.ssh_keys.specs.Certificates.{option_fields}
use Rattle.ssh_keys.proofs.Refusals.{from_field, lacking}
use Rattle.ssh_keys.proofs.Statements.{no_extensions, no_reserved}
use Rattle.ssh_keys.proofs.terms.Options.read.Goals as goal

pub returns-in_err-extensions-clause-refused : goal.returns-in_err-extensions-clause-refused
returns-in_err-extensions-clause-refused c =
    let why = c.in_err-extensions.field-0.0 in
    let start = c.args.r.now in
    from_field c.from_residual-in_err-extensions.result why (LacksFields option_fields start.left)
    c.from_residual-in_err-extensions.ensures.1
    (lacking option_fields start.left why
    (no_extensions start c.bytes.new.self c.in_ok-critical_options.critical_options.now why
    c.in_ok-critical_options.ensures.ok c.in_err-extensions.ensures.misfit))

pub returns-in_err-reserved-clause-refused : goal.returns-in_err-reserved-clause-refused
returns-in_err-reserved-clause-refused c =
    let why = c.in_err-reserved.field-0.0 in
    let start = c.args.r.now in
    from_field c.from_residual-in_err-reserved.result why (LacksFields option_fields start.left)
    c.from_residual-in_err-reserved.ensures.1
    (lacking option_fields start.left why
    (no_reserved start c.bytes.new.self c.bytes-2.new.self
    c.in_ok-critical_options.critical_options.now c.in_ok-extensions.extensions.now why
    c.in_ok-critical_options.ensures.ok c.in_ok-extensions.ensures.ok
    c.in_err-reserved.ensures.misfit))
