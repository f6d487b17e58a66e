use Rattle.std.proofs.Common.{refl, sym, subst}
use Rattle.ssh_link.specs.Told.{Tells}
use Rattle.ssh_auth.specs.declared.call.Call.TheVariants.{AuthPublickeyOffered}
use Rattle.ssh_handler.specs.Recording.{passed_on}
use Rattle.ssh_gateway.specs.Answering.{told_of}
use Rattle.ssh_gateway.proofs.Telling.{tells_passed}
use Rattle.ssh_gateway.proofs.authentication.KeeperAuthHandler.auth_publickey_offered.Goals as goal

pub returns : goal.returns
returns g c =
    let asked = c.auth_publickey_offered.result in
    let name = c.args.self.now.auth.ghost_name in
    let before = g.A.AuthHandler.told c.args.self.now.auth.now in
    let after = g.A.AuthHandler.told c.auth_publickey_offered.new.self in
    subst (λ r. Tells (told_of name before c.args.self.now.notebook.now)
    (told_of name after c.begins.new.self) r (AuthPublickeyOffered c.args.user.now c.args.offer.public_key.now c.args.offer.algorithm r)) (sym c.passed.ensures)
    (tells_passed asked name before after c.args.self.now.notebook.now c.begins.new.self
    (AuthPublickeyOffered c.args.user.now c.args.offer.public_key.now c.args.offer.algorithm asked) (AuthPublickeyOffered c.args.user.now c.args.offer.public_key.now c.args.offer.algorithm (passed_on asked))
    c.in_ok-begins.ensures.first c.in_ok-begins.ensures.same c.auth_publickey_offered.ensures refl)
