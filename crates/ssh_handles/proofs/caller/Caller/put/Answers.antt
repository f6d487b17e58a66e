use Rattle.std.proofs.Common.{◌≡◌, ℕ, Bool, Option, Some, List, refl, ap, sym, ◌∙◌}
use Rattle.ssh_link.specs.declared.command.Command.{Command}
use Rattle.ssh_hub.specs.Lists.{data_channel}
use Rattle.ssh_hub.specs.Reserved.{after_put}
use Rattle.ssh_hub.specs.Views.{own_reservations}
use Rattle.ssh_hub.specs.Words.{Makes}
use Rattle.ssh_hub.specs.declared.answers.Put.{Put}
use Rattle.ssh_hub.specs.declared.history.HubCall.TheVariants.{PutCommand}
use Rattle.ssh_hub.specs.declared.history.HubReply.TheVariants.{WasPut}
use Rattle.ssh_hub.specs.declared.history.View.{View}
use Rattle.ssh_hub.specs.declared.reservations.Reservation.{Reservation}
use Rattle.ssh_hub.proofs.Following.{acts_none}
use Rattle.ssh_hub.proofs.Fitting.{full_back, ended_back}
use Rattle.ssh_hub.proofs.OwnAfter.{reserved_by_call}
use Rattle.ssh_handles.specs.Said.{ticket_said}
use Rattle.ssh_handles.specs.Tries.{tries}
use Rattle.ssh_handles.proofs.Trying.{tried_in_vain, tried_well}
use Rattle.ssh_handles.proofs.caller.Caller.put.Goals as goal

-- the call of the message in hand is that of the message that was handed in
same_call : {msg said : Command} (n : ℕ) (wanted : Bool) → msg ≡ said
    → PutCommand said n wanted ≡ PutCommand msg n wanted
same_call n wanted e = ap (λ (m : Command). PutCommand m n wanted) (sym e)

-- what is reserved after one put more, of the message that was handed in
reserved_then : (v : View) (msg said : Command) (n : ℕ) (wanted : Bool) (p q : Put) (w : View)
    (rs : List Reservation) → Makes v (PutCommand msg n wanted) (WasPut p) w → msg ≡ said → p ≡ q
    → own_reservations v ≡ rs → own_reservations w ≡ after_put q (data_channel said) n rs
reserved_then v msg said n wanted p q w rs made same is had =
    reserved_by_call v (PutCommand msg n wanted) (WasPut p) w made
    ∙ (ap (λ (m : Command). after_put p (data_channel m) n (own_reservations v)) same
    ∙ (ap (λ (x : Put). after_put x (data_channel said) n (own_reservations v)) is
    ∙ ap (λ (l : List Reservation). after_put q (data_channel said) n l) had))

pub loop-init : goal.loop-init
loop-init g c = (
  refl,
  refl,
  acts_none (tries _ ticket_said) _ _ c.args.self.now.seat.legal,
  refl,
  refl,
)

pub returns-in-Done-clause-entries : goal.returns-in-Done-clause-entries
returns-in-Done-clause-entries g c = let now = c.in-Done in let inv = c.loop.invariant in
    tried_well _ ticket_said _ _ _ _ _ _ inv.2 (same_call _ _ inv.1) now.ensures.call refl

pub returns-in-Done-clause-reserved : goal.returns-in-Done-clause-reserved
returns-in-Done-clause-reserved g c = let now = c.in-Done in let inv = c.loop.invariant in
    reserved_then _ _ _ _ _ _ _ _ _ now.ensures.call inv.1 refl inv.4

pub returns-in-Ended-clause-entries : goal.returns-in-Ended-clause-entries
returns-in-Ended-clause-entries g c = let now = c.in-Ended in let inv = c.loop.invariant in
    tried_well _ ticket_said _ _ _ _ _ _ inv.2 (same_call _ _ inv.1) now.ensures.call refl

pub returns-in-Ended-clause-back : goal.returns-in-Ended-clause-back
returns-in-Ended-clause-back g c = let now = c.in-Ended in
    ended_back _ _ _ _ _ _ _ _ now.ensures.call refl ∙ c.loop.invariant.1

pub returns-in-Ended-clause-reserved : goal.returns-in-Ended-clause-reserved
returns-in-Ended-clause-reserved g c = let now = c.in-Ended in let inv = c.loop.invariant in
    reserved_then _ _ _ _ _ _ _ _ _ now.ensures.call inv.1 refl inv.4

pub loop-preserved : goal.loop-preserved
loop-preserved g c = let now = c.in-Full in let inv = c.loop.invariant in (
  inv.0,
  full_back _ _ _ _ _ _ _ now.ensures.call refl ∙ inv.1,
  tried_in_vain _ ticket_said _ _ _ _ _ inv.2 (same_call _ _ inv.1) now.ensures.call refl,
  now.ensures.room ∙ inv.3,
  reserved_then _ _ _ _ _ _ _ _ _ now.ensures.call inv.1 refl inv.4,
)
