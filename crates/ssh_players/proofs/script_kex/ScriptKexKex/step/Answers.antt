use Rattle.ssh_players.proofs.Exchanging.{plays_stepped}
use Rattle.ssh_players.proofs.script_kex.ScriptKexKex.step.Goals as goal

pub invariant_of-self : goal.invariant_of-self
invariant_of-self c =
    let p = plays_stepped c.step.result _ _ _ _ _ (record {
      exchanged = c.args.self.now.exchanged;
      left = c.args.self.now.left;
    }) c.step.ensures.told c.step.ensures.owed c.step.ensures.both c.step.ensures.err in
    record { exchanged = p.exchanged; left = p.left }
