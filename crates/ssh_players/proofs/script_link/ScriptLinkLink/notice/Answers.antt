use Rattle.std.proofs.Common.{refl}
use Rattle.ssh_link.specs.declared.link.TraceEntry.TheVariants as entry
use Rattle.ssh_players.proofs.Giving.{serves_call}
use Rattle.ssh_players.proofs.script_link.ScriptLinkLink.notice.Goals as goal

pub invariant_of-self : goal.invariant_of-self
invariant_of-self c =
    let s = serves_call c.notice.result _ _ _ (entry.Noticed c.args.notice)
    (record {
      given = c.args.self.now.given;
      left = c.args.self.now.left;
      sound = c.args.self.now.sound;
    }) refl refl c.notice.ensures.finished c.notice.ensures.failed
    in
    record { given = s.given; left = s.left; sound = s.sound }
