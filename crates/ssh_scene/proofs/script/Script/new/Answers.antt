use Rattle.std.proofs.Common.{None}
use Rattle.ssh_scene.specs.declared.answers.OpenVerdict.TheVariants.{Accept}
use Rattle.ssh_scene.specs.declared.answers.DataVerdict.TheVariants.{Silent}
use Rattle.ssh_scene.specs.declared.answers.RequestVerdict.TheVariants.{Success}
use Rattle.ssh_scene.specs.declared.answers.ForwardVerdict.TheVariants.{No}
use Rattle.ssh_scene.specs.declared.script.Stage.TheVariants.{Settings}
use Rattle.ssh_scene.proofs.script.Script.new.Goals as goal

pub returns : goal.returns
returns c = λ i. record {
  session_id = c.in_ok-copy_from_slice.ensures i;
  max_inputs = 1000000;
  config = c.standard.ensures i;
  accepted = c.new.ensures i;
  queues = record {
    none = c.new-2.ensures.items i;
    password = c.new-3.ensures.items i;
    offered = c.new-4.ensures.items i;
    publickey = c.new-5.ensures.items i;
    certificate = c.new-6.ensures.items i;
    interactive = c.new-7.ensures.items i;
    banners = 0;
    banner = None;
    standing = record { opens = Accept; incoming = Silent; requests = Success; forwards = No };
  };
  tickets = 0;
  inputs = c.new-8.ensures.items i;
  moment = 0;
  stage = Settings;
}
