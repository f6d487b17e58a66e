use Rattle.std.proofs.Common.{◌∷◌, []}
use Rattle.ssh_wire.specs.Field.{Text, Flag}
use Rattle.ssh_rules.specs.Globals.{global_layout, global_named}
use Rattle.ssh_rules.proofs.Read.ChannelRequests.{fields_then}
use Rattle.ssh_messages.proofs.global_requests.global_request_message.Goals as goal

pub returns : goal.returns
returns c =
    let asked = c.in_ok-asked.asked in
    fields_then (Text ∷ Flag ∷ []) (λ (name, (wanted, _)). global_layout (global_named name)
    wanted) (asked.name.now, (asked.wanted, tt)) c.args.fields.now asked.rest.now _
    c.in_ok-asked.ensures c.global_request.ensures
