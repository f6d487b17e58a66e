use Rattle.std.proofs.Common.{
  ◌≡◌,
  ◌<◌,
  ℕ,
  List,
  length,
  refl,
  sym,
  ap,
  ◌∙◌,
  subst,
}
use Rattle.ssh_hub.specs.declared.answers.Put.TheVariants.{Full}
use Rattle.ssh_hub.proofs.Fitting.{full_back}
use Rattle.ssh_handles.specs.DataCommands.{data_command}
use Rattle.ssh_handles.proofs.Stages.{
  done_held,
  full_held,
  ended_held,
  short_none,
  kept_bytes,
  put_as,
}
use Rattle.ssh_handles.proofs.writer.ChannelTx.put_staged.Goals as goal

pub invariant_of-self : goal.invariant_of-self
invariant_of-self g c = record {
  held = done_held _ _ _ _ _ _ _ _ _ _ c.in-Done.ensures.call c.data_command-msg.ensures
      c.args.self.now.held c.len-count.ensures.value c.requires
      (c.replace-bytes.ensures.after ∙ c.new.ensures);
  room = c.put.ensures.room ∙ c.args.self.now.room;
  short = short_none _ (c.replace-bytes.ensures.after ∙ c.new.ensures);
}

pub invariant_of-self-in-Full : goal.invariant_of-self-in-Full
invariant_of-self-in-Full g c =
    let kept : c.bytes_of.result ≡ c.args.self.now.staged = c.bytes_of.ensures
    ∙ (kept_bytes _ _ _ _ _ (full_back _ _ _ _ _ _ _ c.in-Full.ensures.call refl)
    c.data_command-msg.ensures ∙ c.replace-bytes.ensures.value) in
    record {
      held = full_held _ _ _ _ _ _ _ _ c.in-Full.ensures.call c.args.self.now.held kept;
      room = c.put.ensures.room ∙ c.args.self.now.room;
      short = subst (λ (l : List ℕ). length l < 4294967296) (sym kept) c.args.self.now.short;
    }

pub invariant_of-self-in-Ended : goal.invariant_of-self-in-Ended
invariant_of-self-in-Ended g c = record {
  held = ended_held _ _ _ _ _ _ _ _ _ _ c.in-Ended.ensures.call c.release.ensures.call
      c.args.self.now.held c.len-count.ensures.value c.requires
      (c.replace-bytes.ensures.after ∙ c.new.ensures);
  room = c.release.ensures.room ∙ (c.put.ensures.room ∙ c.args.self.now.room);
  short = short_none _ (c.replace-bytes.ensures.after ∙ c.new.ensures);
}

pub returns-in-Full-clause-entries : goal.returns-in-Full-clause-entries
returns-in-Full-clause-entries g c =
    let kept : c.bytes_of.result ≡ c.args.self.now.staged = c.bytes_of.ensures
    ∙ (kept_bytes _ _ _ _ _ (full_back _ _ _ _ _ _ _ c.in-Full.ensures.call refl)
    c.data_command-msg.ensures ∙ c.replace-bytes.ensures.value) in (
      Full c.in-Full.back,
      _,
      put_as _ _ _ _ _ _ _
          (c.data_command-msg.ensures ∙ ap (data_command _ _) c.replace-bytes.ensures.value)
          c.len-count.ensures.value c.in-Full.ensures.call,
      (refl, kept, refl),
    )
