use Rattle.ssh_players.proofs.Exchanging.{plays_begun}
use Rattle.ssh_players.proofs.script_kex.ScriptKexKex.begin.Goals as goal

pub invariant_of-self : goal.invariant_of-self
invariant_of-self c =
    let p = plays_begun c.begin.result _ _ _ _ (record {
      exchanged = c.args.self.now.exchanged;
      left = c.args.self.now.left;
    }) c.begin.ensures.told c.begin.ensures.one_byte c.begin.ensures.both in
    record { exchanged = p.exchanged; left = p.left }
