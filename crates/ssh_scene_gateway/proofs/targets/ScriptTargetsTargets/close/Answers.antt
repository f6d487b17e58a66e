use Rattle.std.proofs.Common.{ap, refl, sym, Ok}
use Rattle.ssh_gateway.specs.declared.targets.TargetCall.TheVariants as call
use Rattle.ssh_scene_gateway.proofs.Answered.{have_kept, kept_on}
use Rattle.ssh_scene_gateway.proofs.targets.ScriptTargetsTargets.close.Goals as goal

pub invariant_of-self : goal.invariant_of-self
invariant_of-self c =
    let hosts = c.args.self.now.hosts.items in
    let due = call.Close c.args.id (Ok tt) in
    let kept = kept_on {E = Unit {0}} hosts c.args.self.now.streams.items _ _ _ _ _ (Ok due) due _ _
    (have_kept _ _ _ _ c.args.self.now.given c.args.self.now.left) c.keep.ensures refl refl
    (ap (λ s. record { hosts = hosts; streams = s })
    (sym c.close.ensures)) in
    record { given = λ fine. (kept fine).given; left = λ fine. (kept fine).left_is }
