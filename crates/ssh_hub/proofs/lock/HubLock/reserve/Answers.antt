use Rattle.std.proofs.Common.{ap, sym, ◌∙◌, arith}
use Rattle.ssh_hub.specs.World.{Held, find}
use Rattle.ssh_hub.specs.Reserved.{bytes_on, sum_on}
use Rattle.ssh_hub.proofs.Holdings.{fits_beside_fewer}
use Rattle.ssh_hub.proofs.lock.HubLock.reserve.Goals as goal

pub gain-requires-clause-fits : goal.gain-requires-clause-fits
gain-requires-clause-fits g c =
    let k = c.args.channel.0 in
    let mine = ap (bytes_on k) (c.args.seat.now.held ∙ sym c.enter-hub.ensures.held) in
    let all = ap (λ (h : Held). sum_on (find k h.channels)) c.enter-hub.ensures.hub in
    let part = c.enter-hub.ensures.owns k in
    fits_beside_fewer _ _ c.reserve-answer.result (omega arith) c.reserve-answer.ensures.fits
