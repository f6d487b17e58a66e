use Rattle.std.proofs.Common.{refl, sym, subst}
use Rattle.ssh_link.specs.Told.{Tells}
use Rattle.ssh_auth.specs.declared.call.Call.TheVariants.{AuthenticationBanner}
use Rattle.ssh_handler.specs.Recording.{passed_on}
use Rattle.ssh_gateway.specs.Answering.{told_of}
use Rattle.ssh_gateway.proofs.Telling.{tells_passed}
use Rattle.ssh_gateway.proofs.authentication.KeeperAuthHandler.authentication_banner.Goals as goal

pub returns : goal.returns
returns g c =
    let asked = c.authentication_banner.result in
    let name = c.args.self.now.auth.ghost_name in
    let before = g.A.AuthHandler.told c.args.self.now.auth.now in
    let after = g.A.AuthHandler.told c.authentication_banner.new.self in
    subst (λ r. Tells (told_of name before c.args.self.now.notebook.now)
    (told_of name after c.begins.new.self) r (AuthenticationBanner r)) (sym c.passed.ensures)
    (tells_passed asked name before after c.args.self.now.notebook.now c.begins.new.self
    (AuthenticationBanner asked) (AuthenticationBanner (passed_on asked))
    c.in_ok-begins.ensures.first c.in_ok-begins.ensures.same c.authentication_banner.ensures refl)
