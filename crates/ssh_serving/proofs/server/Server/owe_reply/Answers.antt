use Rattle.std.proofs.Common.{◌∙◌}
use Rattle.ssh_channels.specs.Calls.{Request}
use Rattle.ssh_serving.proofs.Refining.{called, place_same}
use Rattle.ssh_serving.proofs.Replying.{asked_so}
use Rattle.ssh_serving.proofs.server.Server.owe_reply.Goals as goal

pub returns-in_ok-place-clause-asked : goal.returns-in_ok-place-clause-asked
returns-in_ok-place-clause-asked c = λ w r.
    asked_so c.args.channel c.args.wanted _ w c.if-wanted.true
    (c.in_ok-place.ensures.place ∙ place_same c.args.channel.0 c.args.self.now w r)

pub returns-in_ok-place-clause-world : goal.returns-in_ok-place-clause-world
returns-in_ok-place-clause-world c = λ w r.
    rw c.if-wanted.true (called (Request c.args.channel.0) c.args.self.now c.request.new.self _ w tt
    c.in_ok-place.ensures.table r)
