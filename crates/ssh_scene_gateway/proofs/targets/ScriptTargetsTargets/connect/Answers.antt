use Rattle.std.proofs.Common.{rules, ◌≡◌, ◌++◌, ap, sym, Ok}
use Rattle.std.specs.List.{find}
use Rattle.ssh_gateway.specs.declared.targets.TargetCall.TheVariants as call
use Rattle.ssh_scene_gateway.specs.Reaching.{connection, is_at, is_reached}
use Rattle.ssh_scene_gateway.proofs.Answered.{have_kept, kept_on}
use Rattle.ssh_scene_gateway.proofs.targets.ScriptTargetsTargets.connect.Goals as goal

pub invariant_of-self-2 : goal.invariant_of-self-2
invariant_of-self-2 c =
    let hosts = c.args.self.now.hosts.items in
    let streams = c.args.self.now.streams.items in
    let id = c.args.id in
    let host = c.args.host.now in
    let port = c.args.port in
    let made : c.in-Ok.made ≡ is_reached (find (is_at host port) hosts) = search rules in
    let later : c.connect.new.streams.items
    ≡ streams ++ connection id (find (is_at host port) hosts) = search rules in
    let kept = kept_on hosts streams _ _ _ _ _ _ (call.Connect id host port (Ok c.in-Ok.made)) _ _
    (have_kept _ _ _ _ c.args.self.now.given c.args.self.now.left) c.keep.ensures
    c.connect_call-call.ensures (ap (λ m. call.Connect id host port (Ok m)) (sym made))
    (ap (λ s. record { hosts = hosts; streams = s }) (sym later)) in
    record { given = λ fine. (kept fine).given; left = λ fine. (kept fine).left_is }
