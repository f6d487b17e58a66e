use Rattle.ssh_players.proofs.Giving.{serves_next}
use Rattle.ssh_players.proofs.script_link.ScriptLinkLink.next.Goals as goal

pub invariant_of-self : goal.invariant_of-self
invariant_of-self c =
    let s = serves_next c.next.result _ _ _ c.args.commands c.args.replies
    (record {
      given = c.args.self.now.given;
      left = c.args.self.now.left;
      sound = c.args.self.now.sound;
    }) c.next.ensures.given c.next.ensures.failed in
    record { given = s.given; left = s.left; sound = s.sound }
