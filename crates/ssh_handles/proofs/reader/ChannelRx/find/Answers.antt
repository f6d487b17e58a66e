use Rattle.std.proofs.Common.{◌≡◌, ℕ, Option, Some, None, refl, ap, sym, ◌∙◌}
use Rattle.ssh_wire.specs.declared.channel_id.ChannelId.{ChannelId}
use Rattle.ssh_link.specs.declared.notice.ChannelMsg.{ChannelMsg}
use Rattle.ssh_hub.specs.declared.history.HubCall.{HubCall}
use Rattle.ssh_hub.specs.declared.history.HubCall.TheVariants.{ReceiveMsg}
use Rattle.ssh_hub.proofs.Following.{acts_none}
use Rattle.ssh_handles.specs.declared.reader.Found.{Found}
use Rattle.ssh_handles.specs.Reading.{found_in, found_said}
use Rattle.ssh_handles.specs.Tries.{tries}
use Rattle.ssh_handles.proofs.Trying.{tried_in_vain, tried_well}
use Rattle.ssh_handles.proofs.reader.ChannelRx.find.Goals as goal

receives : {c d : ChannelId} → d ≡ c → ReceiveMsg c ≡ ReceiveMsg d
receives e = ap (λ (x : ChannelId). ReceiveMsg x) (sym e)

-- what a message is to a reader of an equal kind
found_as : {a b : Option ℕ} (msg : ChannelMsg) (o : Option Found) → a ≡ b → o ≡ found_in a msg
    → found_in b msg ≡ o
found_as msg o same is = ap (λ (x : Option ℕ). found_in x msg) (sym same) ∙ sym is

pub loop-init : goal.loop-init
loop-init g c = (
  refl,
  refl,
  refl,
  refl,
  acts_none (tries _ (found_said _)) _ _ (g.met.R.HoldsReadHalf.legal c.args.self.now.half),
)

pub returns-in-Some-found_in-clause-entries : goal.returns-in-Some-found_in-clause-entries
returns-in-Some-found_in-clause-entries g c = let inv = c.loop.invariant in
    tried_well _ (found_said c.args.self.now.ext) _ _ _ _ _ _ inv.4 (receives inv.0)
    c.in-Msg.ensures.call (found_as _ _ inv.1 c.in-Some-found_in.ensures)

pub returns-in-Closed-clause-entries : goal.returns-in-Closed-clause-entries
returns-in-Closed-clause-entries g c = let inv = c.loop.invariant in
    tried_well _ (found_said c.args.self.now.ext) _ _ _ _ _ _ inv.4 (receives inv.0)
    c.in-Closed.ensures.call refl

pub returns-in-Ended-clause-entries : goal.returns-in-Ended-clause-entries
returns-in-Ended-clause-entries g c = let inv = c.loop.invariant in
    tried_well _ (found_said c.args.self.now.ext) _ _ _ _ _ _ inv.4 (receives inv.0)
    c.in-Ended.ensures.call refl

pub returns-in-Nothing-clause-entries : goal.returns-in-Nothing-clause-entries
returns-in-Nothing-clause-entries g c = let inv = c.loop.invariant in
    tried_well _ (found_said c.args.self.now.ext) _ _ _ _ _ _ inv.4 (receives inv.0)
    c.in-Nothing.ensures.call refl

pub loop-preserved : goal.loop-preserved
loop-preserved g c = let inv = c.loop.invariant in (
  c.in-Msg.ensures.channel ∙ inv.0,
  inv.1,
  inv.2,
  inv.3,
  tried_in_vain _ (found_said c.args.self.now.ext) _ _ _ _ _ inv.4 (receives inv.0)
      c.in-Msg.ensures.call (found_as _ _ inv.1 (sym c.in_default.is ∙ c.found_in.ensures)),
)
