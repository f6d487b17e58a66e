-- The answers of a script, each list in order.
use Rattle.std.specs.Prelude.{ℕ, List, Option}
use Rattle.ssh_scene.specs.declared.answers.Answers.{Answers}
use Rattle.ssh_scene.specs.declared.answers.InteractiveVerdict.{InteractiveVerdict}
use Rattle.ssh_scene.specs.declared.answers.Standing.{Standing}
use Rattle.ssh_scene.specs.declared.answers.Verdict.{Verdict}

-- the answers of a script that were not given yet
pub record Queues : Type 0 where
  -- to requests of method none
  pub none : List Verdict
  -- to requests of method password
  pub password : List Verdict
  -- to offers of keys
  pub offered : List Verdict
  -- to requests that are signed by a key
  pub publickey : List Verdict
  -- to requests that are signed by the key of a certificate
  pub certificate : List Verdict
  -- to users of keyboard-interactive
  pub interactive : List InteractiveVerdict
  -- how many banner callbacks fail
  pub banners : ℕ
  -- the banner that the later ones give
  pub banner : Option (List ℕ)
  -- those that stand for the whole run
  pub standing : Standing

-- as the code holds them
abbrev pub queues_in : Answers → Queues
queues_in answers = record {
  none = answers.none.items;
  password = answers.password.items;
  offered = answers.offered.items;
  publickey = answers.publickey.items;
  certificate = answers.certificate.items;
  interactive = answers.interactive.items;
  banners = answers.failing_banners;
  banner = answers.banner;
  standing = answers.standing;
}
