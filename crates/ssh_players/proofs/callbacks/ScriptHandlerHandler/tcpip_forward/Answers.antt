use Rattle.std.proofs.Common.{refl, sym, ap, Ok, [], ◌∷◌, ◌∙◌}
use Rattle.ssh_auth.specs.declared.call.Call.TheVariants.{TcpipForward}
use Rattle.ssh_auth.specs.declared.question.Question.TheVariants.{Listens}
use Rattle.ssh_players.specs.Played.{is_granted, listened}
use Rattle.ssh_players.proofs.Telling.{tells_call, left_same}
use Rattle.ssh_players.proofs.callbacks.ScriptHandlerHandler.tcpip_forward.Goals as goal

pub invariant_of-self : goal.invariant_of-self
invariant_of-self c = record {
  left = left_same c.keep.result _ _ _ _
      (Listens c.in-Ok.address c.args.port.now) c.args.self.now.left c.keep.ensures.ok
      c.keep.ensures.err refl;
}

pub returns : goal.returns
returns c =
    let address = c.args.address.now in
    let asked = c.args.port.now in
    let port = c.port_of.result in
    let granted = c.is_granted.result in
    let how = c.args.self.now.answers.standing.forwards in
    tells_call _ _ _ _ _ _ (Listens c.in-Ok.address asked) (Ok granted) _ c.args.self.now.left
    c.in_ok-keep.ensures.ok c.in_ok-keep.ensures.same
    (ap (λ to. listened to asked how ∷ []) c.in-Ok.ensures.ok
    ∙ ap (λ at. TcpipForward address asked at (Ok (is_granted how)) [] ∷ []) (sym c.port_of.ensures)
    ∙ ap (λ is. TcpipForward address asked port (Ok is) [] ∷ []) (sym c.is_granted.ensures)
    ∙ ap (λ commands. TcpipForward address asked port (Ok granted) commands ∷ [])
    (sym c.requires.fresh))
