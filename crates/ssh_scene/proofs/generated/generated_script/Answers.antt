use Rattle.std.proofs.Common.{◌≡◌, ◌+◌, ◌∙◌, ap, arith}
use Rattle.ssh_link.specs.declared.command.Command.TheVariants.{Data}
use Rattle.ssh_scene.specs.declared.lines.InputLine.TheVariants.{Recv, Command}
use Rattle.ssh_scene.specs.Generated.{open_line, data_line, each_peer}
use Rattle.ssh_scene.proofs.Generating.{let_in, first_lines, one_more}
use Rattle.ssh_scene.proofs.generated.generated_script.Goals as goal

pub loop-peer-init : goal.loop-peer-init
loop-peer-init c = first_lines _ _ _ _ _ (ap Recv c.in_ok-service.ensures)
    (ap Recv c.in_ok-none.ensures) c.in_ok-script.ensures c.in_ok-take_live.ensures
    c.in_ok-take_live-2.ensures

pub loop-peer-preserved : goal.loop-peer-preserved
loop-peer-preserved c = one_more open_line c.loop-peer.peer _ let_in _ _
    (ap Recv c.in_ok-open.ensures) c.loop-peer.invariant c.in_ok-take_live-3.ensures

pub loop-peer-2-init : goal.loop-peer-2-init
loop-peer-2-init c =
    let all : c.loop-peer.peer ≡ c.args.channels = omega arith in
    c.loop-peer.invariant ∙ ap (λ count. each_peer open_line count let_in) all

pub loop-peer-2-preserved : goal.loop-peer-2-preserved
loop-peer-2-preserved c = one_more data_line c.loop-peer-2.peer _
    (each_peer open_line c.args.channels let_in) _ _
    (ap (λ bytes. Command (Data (record { 0 = c.loop-peer-2.peer + 2 }) bytes))
    c.in_ok-bytes.ensures) c.loop-peer-2.invariant c.in_ok-take_live-4.ensures
