use Rattle.std.proofs.Common.{subst, refl, Ok, Err}
use Rattle.std.specs.Prelude.{OnOk}
use Rattle.std.proofs.lemmas.Result.{on_ok_weaker}
use Rattle.ssh_sftp_core.specs.Files.{Answers}
use Rattle.ssh_sftp_core.specs.Requests.{asked}
use Rattle.ssh_sftp_core.proofs.Packets.{answer_is}
use Rattle.ssh_sftp_core.proofs.files.Files.answer.Goals as goal

pub returns-in-Ok-clause-answered : goal.returns-in-Ok-clause-answered
returns-in-Ok-clause-answered c =
    subst (λ a. OnOk c.serve.result (Answers a c.serve.new.self c.args.out.now.items
    c.serve.new.out.items))
    (answer_is c.args.self.now c.args.packet.now _ _ _ (Ok (asked c.in-Ok.request))
    c.parts_of-packet_type.ensures.kind
    c.parts_of-packet_type.ensures.id c.parts_of-packet_type.ensures.body c.in-Ok.ensures)
    c.serve.ensures.ok

pub returns-in-Err-clause-answered : goal.returns-in-Err-clause-answered
returns-in-Err-clause-answered c =
    subst (λ a. OnOk c.put_reply.result (Answers a c.args.self.now c.args.out.now.items
    c.put_reply.new.out.items))
    (answer_is c.args.self.now c.args.packet.now _ _ _ (Err c.in-Err.why)
    c.parts_of-packet_type.ensures.kind
    c.parts_of-packet_type.ensures.id c.parts_of-packet_type.ensures.body c.in-Err.ensures)
    (on_ok_weaker c.put_reply.result (λ is. record { out = is; state = refl })
    c.put_reply.ensures.ok)
