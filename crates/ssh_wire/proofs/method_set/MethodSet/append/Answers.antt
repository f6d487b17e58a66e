use Rattle.ssh_wire.proofs.MethodSets.{room_held, take-placed, IsHeld-push}
use Rattle.ssh_wire.proofs.method_set.MethodSet.append.Goals as goal

pub bounds-self-inside-self-inside : goal.bounds-self-inside-self-inside
bounds-self-inside-self-inside c =
    room_held _ _ c.args.method c.self.invariant (rw c.self.view_is c.requires)

pub invariant_of-self : goal.invariant_of-self
invariant_of-self c = IsHeld-push _ _ c.args.method c.self.invariant (rw c.self.view_is c.requires)

pub returns : goal.returns
returns c = rw (← c.self.view_is) (take-placed _ _ c.args.method c.self.invariant
    (rw c.self.view_is c.requires))
