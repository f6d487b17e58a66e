use Rattle.std.proofs.Common.{◌≡◌, List, []}
use Rattle.ssh_hub.specs.declared.history.HubCall.{HubCall}
use Rattle.ssh_hub.specs.declared.history.HubReply.{HubReply}
use Rattle.ssh_handles.specs.Handles.{reader_hub, reader_id, reader_view}
use Rattle.ssh_sftp.specs.Serving.{Hears, data_received}
use Rattle.ssh_sftp.proofs.serve.next_data.Given as goal

-- all messages so far were passed over
abbrev pub invariant-loop : goal.invariant-loop
invariant-loop g l =
    (reader_hub l.half ≡ reader_hub l.fn.half) × (reader_id l.half ≡ reader_id l.fn.half)
    × (calls : List (HubCall × HubReply))
    × Hears (reader_id l.fn.half) (reader_view l.fn.half) calls (reader_view l.half)
    × (data_received calls ≡ [])
