use Rattle.std.proofs.Common.{rules, ◌≡◌, ◌++◌}
use Rattle.std.specs.String.{string_bytes}
use Rattle.hex.specs.Hex.{encode_lower}
use Rattle.ssh_transcript.proofs.Hexed.{payload_printed_on_ok}
use Rattle.ssh_transcript.proofs.print.print_payload.Goals as goal

pub returns : goal.returns
returns c =
    let head : string_bytes c.push_str.new.self ≡ string_bytes c.args.out.now
    ++ encode_lower c.parts.result.0.now = search rules in
    payload_printed_on_ok c.print_hex-2.result _ _ _ c.parts.result.0.now c.parts.result.1.now _
    c.parts.ensures.payload (search rules) head c.print_hex-2.ensures
