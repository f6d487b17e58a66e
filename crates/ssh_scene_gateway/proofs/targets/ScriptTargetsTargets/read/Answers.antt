use Rattle.std.proofs.Common.{rules, ◌≡◌, ap, sym, Ok}
use Rattle.std.specs.List.{find, position}
use Rattle.ssh_gateway.specs.declared.targets.TargetCall.TheVariants as call
use Rattle.ssh_scene_gateway.specs.Reaching.{arrives_from, is_of, read_from}
use Rattle.ssh_scene_gateway.proofs.Answered.{have_kept, kept_on}
use Rattle.ssh_scene_gateway.proofs.targets.ScriptTargetsTargets.read.Goals as goal

pub invariant_of-self-2 : goal.invariant_of-self-2
invariant_of-self-2 c =
    let hosts = c.args.self.now.hosts.items in
    let streams = c.args.self.now.streams.items in
    let id = c.args.id in
    let most = c.args.most in
    let arrived : c.in-Ok.arrived ≡ arrives_from most (find (is_of id) streams) = search rules in
    let later : c.read.new.streams.items ≡ read_from most (position (is_of id) streams) streams =
    search rules in
    let kept = kept_on hosts streams _ _ _ _ _ _ (call.Read id most (Ok c.in-Ok.arrived)) _ _
    (have_kept _ _ _ _ c.args.self.now.given c.args.self.now.left) c.keep.ensures
    c.read_call-call.ensures (ap (λ a. call.Read id most (Ok a)) (sym arrived))
    (ap (λ s. record { hosts = hosts; streams = s }) (sym later)) in
    record { given = λ fine. (kept fine).given; left = λ fine. (kept fine).left_is }
