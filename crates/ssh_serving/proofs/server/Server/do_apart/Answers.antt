use Rattle.std.proofs.Common.{◌<◌, refl, sym, arith}
use Rattle.std.specs.Prelude.{◌^◌, length}
use Rattle.ssh_rules.specs.OwnMessages.{forward_request, cancel, keepalive, ping, debug, disconnect_message}
use Rattle.ssh_serving.proofs.Effects.{kept_short, kept_unbuilt}
use Rattle.ssh_serving.proofs.server.Server.do_apart.Goals as goal

pub returns-in-TcpipForward-clause-does : goal.returns-in-TcpipForward-clause-does
returns-in-TcpipForward-clause-does g c = λ w r.
    rw c.in-TcpipForward.is
    (c.send.ensures.does (forward_request c.in-TcpipForward.address c.in-TcpipForward.port
    c.in-TcpipForward.reply)
    (rw c.is_some.ensures at c.address_payload-payload.ensures.ok)
    (rw c.is_some.ensures at c.address_payload-payload.ensures.refused)
    (sym c.forward_under.ensures) refl w r)

pub returns-in-CancelTcpipForward-clause-does : goal.returns-in-CancelTcpipForward-clause-does
returns-in-CancelTcpipForward-clause-does g c = λ w r.
    rw c.in-CancelTcpipForward.is
    (c.send-in-CancelTcpipForward.ensures.does (cancel c.in-CancelTcpipForward.address
    c.in-CancelTcpipForward.port c.in-CancelTcpipForward.reply)
    (rw c.is_some-in-CancelTcpipForward.ensures at
    c.address_payload-payload-in-CancelTcpipForward.ensures.ok)
    (rw c.is_some-in-CancelTcpipForward.ensures at
    c.address_payload-payload-in-CancelTcpipForward.ensures.refused)
    (sym c.cancel_under.ensures) refl w r)

pub returns-in-Keepalive-clause-does : goal.returns-in-Keepalive-clause-does
returns-in-Keepalive-clause-does g c = λ w r.
    let message = keepalive in
    let short : length message.payload < 2 ^ 32 = omega arith in
    rw c.in-Keepalive.is
    (c.send-in-Keepalive.ensures.does message
    (kept_short (λ p. p.items) message.payload c.keepalive_payload-payload.result short
    c.keepalive_payload-payload.ensures.ok)
    (kept_unbuilt message.payload c.keepalive_payload-payload.result
    c.keepalive_payload-payload.ensures.memory)
    refl refl w r)

pub returns-in-Ping-clause-does : goal.returns-in-Ping-clause-does
returns-in-Ping-clause-does g c = λ w r.
    let message = ping c.in-Ping.slot in
    let short : length message.payload < 2 ^ 32 = omega arith in
    rw c.in-Ping.is
    (c.send-in-Ping.ensures.does message
    (kept_short (λ p. p.items) message.payload c.keepalive_payload-payload-in-Ping.result short
    c.keepalive_payload-payload-in-Ping.ensures.ok)
    (kept_unbuilt message.payload c.keepalive_payload-payload-in-Ping.result
    c.keepalive_payload-payload-in-Ping.ensures.memory)
    refl refl w r)

pub returns-in-Debug-clause-does : goal.returns-in-Debug-clause-does
returns-in-Debug-clause-does g c = λ w r.
    rw c.in-Debug.is
    (c.send-in-Debug.ensures.does (debug c.in-Debug.always_display c.in-Debug.message
    c.in-Debug.language)
    c.debug_payload-payload.ensures.ok c.debug_payload-payload.ensures.refused refl refl w r)

pub returns-in-Disconnect-clause-does : goal.returns-in-Disconnect-clause-does
returns-in-Disconnect-clause-does g c = λ w r.
    rw c.in-Disconnect.is
    (c.send-in-Disconnect.ensures.does (disconnect_message c.in-Disconnect.reason
    c.in-Disconnect.description c.in-Disconnect.language)
    c.disconnect_payload-payload.ensures.ok c.disconnect_payload-payload.ensures.refused refl refl
    w r)
