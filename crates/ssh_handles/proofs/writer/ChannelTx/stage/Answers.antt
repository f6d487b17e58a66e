use Rattle.std.proofs.Common.{◌≡◌, ◌<◌, ◌≤◌, ℕ, length, inr, refl, ap, ◌∙◌, arith, rules}
use Rattle.ssh_hub.specs.declared.answers.Reserve.TheVariants.{Got}
use Rattle.ssh_hub.proofs.Fitting.{got_within}
use Rattle.ssh_handles.specs.Staging.{staged_on}
use Rattle.ssh_handles.proofs.Reserving.{reserved_first}
use Rattle.ssh_handles.proofs.Writes.{some_wanted}
use Rattle.ssh_handles.proofs.Stages.{
  none_held,
  got_held,
  cut_is,
  cut_length,
  reserve_as,
  staged_as,
}
use Rattle.ssh_handles.proofs.writer.ChannelTx.stage.Goals as goal

pub invariant_of-self : goal.invariant_of-self
invariant_of-self g c =
    let within = got_within _ _ _ _ _ _ c.in-Got.ensures.call refl in
    let some : 0 < c.in-Got.count = within.1
    (some_wanted _ _ _ _ c.wanted-want.ensures refl c.requires.packet c.requires.some) in
    let le : c.in-Got.count ≤ c.wanted-want.result = within.0 in
    let len : length c.truncate.new.self ≡ c.in-Got.count = cut_length _ _ _ _ _
    (cut_is c.args.buf.now _ _ _ _ c.in-Ok.ensures le c.truncate.ensures) le c.wanted-want.ensures in
    let small : c.args.packet < 4294967296 = search rules in
    let want : c.wanted-want.result ≤ c.args.packet = search rules in
    record {
      held = got_held _ _ _ _ _ _ c.in-Got.ensures.call
          (c.args.self.now.held ∙ ap (staged_on _) c.requires.kept) len some;
      room = c.reserve.ensures.room ∙ c.args.self.now.room;
      short = omega arith;
    }

pub put_staged-requires : goal.put_staged-requires
put_staged-requires g c =
    let within = got_within _ _ _ _ _ _ c.in-Got.ensures.call refl in
    let some : 0 < c.in-Got.count = within.1
    (some_wanted _ _ _ _ c.wanted-want.ensures refl c.requires.packet c.requires.some) in
    let le : c.in-Got.count ≤ c.wanted-want.result = within.0 in
    let len : length c.truncate.new.self ≡ c.in-Got.count = cut_length _ _ _ _ _
    (cut_is c.args.buf.now _ _ _ _ c.in-Ok.ensures le c.truncate.ensures) le c.wanted-want.ensures in
    omega arith

pub returns-in-Got-clause-entries : goal.returns-in-Got-clause-entries
returns-in-Got-clause-entries g c =
    let within = got_within _ _ _ _ _ _ c.in-Got.ensures.call refl in inr (
      Got c.in-Got.count,
      _,
      reserve_as _ _ _ _ _ _ c.wanted-want.ensures c.in-Got.ensures.call,
      staged_as _ _ _ _ _ _ _ _
          (cut_is c.args.buf.now _ _ _ _ c.in-Ok.ensures within.0 c.truncate.ensures)
          c.put_staged.ensures.entries,
    )

pub invariant_of-self-in-Empty : goal.invariant_of-self-in-Empty
invariant_of-self-in-Empty g c = record {
  held = none_held _ _ _
      (reserved_first _ _ _ _ _ _ c.in-Empty.ensures.call refl
      (c.args.self.now.held ∙ ap (staged_on _) c.requires.kept)) c.requires.kept;
  room = c.reserve.ensures.room ∙ c.args.self.now.room;
  short = c.args.self.now.short;
}

pub invariant_of-self-in-Gone : goal.invariant_of-self-in-Gone
invariant_of-self-in-Gone g c = record {
  held = none_held _ _ _
      (reserved_first _ _ _ _ _ _ c.in-Gone.ensures.call refl
      (c.args.self.now.held ∙ ap (staged_on _) c.requires.kept)) c.requires.kept;
  room = c.reserve.ensures.room ∙ c.args.self.now.room;
  short = c.args.self.now.short;
}

pub invariant_of-self-in-Ended-1 : goal.invariant_of-self-in-Ended-1
invariant_of-self-in-Ended-1 g c = record {
  held = none_held _ _ _
      (reserved_first _ _ _ _ _ _ c.in-Ended.ensures.call refl
      (c.args.self.now.held ∙ ap (staged_on _) c.requires.kept)) c.requires.kept;
  room = c.reserve.ensures.room ∙ c.args.self.now.room;
  short = c.args.self.now.short;
}
