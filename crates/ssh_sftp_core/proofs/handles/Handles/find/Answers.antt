use Rattle.std.proofs.Common.{rules, ◌≡◌, sym, ap, ◌∙◌, Some}
use Rattle.std.specs.Prelude.{option_map}
use Rattle.std.specs.Option.{option_and_then}
use Rattle.ssh_sftp_core.specs.Files.{number_of, opened_at}
use Rattle.ssh_sftp_core.specs.Handles.{one_of}
use Rattle.ssh_sftp_core.proofs.Shown.{find_shown, seen_one}
use Rattle.ssh_sftp_core.proofs.handles.Handles.find.Goals as goal

pub returns : goal.returns
returns c =
    let number : number_of c.args.handle.now ≡ Some c.in_ok-number.number = search rules in
    seen_one c.find_number.result ∙ ap (option_map one_of) c.find_number.ensures
    ∙ find_shown c.in_ok-number.number c.self.inside.opened.items
    ∙ ap (λ given. opened_at given c.in_ok-number.number) c.self.view_is
    ∙ sym (ap (option_and_then (opened_at c.args.self.now)) number)
