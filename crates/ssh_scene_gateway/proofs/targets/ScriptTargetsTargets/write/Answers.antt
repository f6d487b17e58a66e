use Rattle.std.proofs.Common.{refl, Ok}
use Rattle.ssh_gateway.specs.declared.targets.TargetCall.TheVariants as call
use Rattle.ssh_scene_gateway.proofs.Answered.{have_kept, kept_on}
use Rattle.ssh_scene_gateway.proofs.targets.ScriptTargetsTargets.write.Goals as goal

pub invariant_of-self : goal.invariant_of-self
invariant_of-self c =
    let kept = kept_on c.args.self.now.hosts.items c.args.self.now.streams.items _ _ _ _ _ _
    (call.Write c.args.id c.args.bytes.now (Ok tt)) _ _
    (have_kept _ _ _ _ c.args.self.now.given c.args.self.now.left) c.keep.ensures
    c.write_call-call.ensures refl refl in
    record { given = λ fine. (kept fine).given; left = λ fine. (kept fine).left_is }
