use Rattle.std.proofs.Common.{◌≡◌, ap, sym, ◌∙◌, subst, [], arith}
use Rattle.ssh_hub.specs.History.{calls_by}
use Rattle.ssh_hub.specs.Rule.{Seated, world, ended}
use Rattle.ssh_hub.proofs.Made.{
  acts_as,
  hub_after,
  place_before,
  ended_as,
  made,
  held_after,
  rests_after,
  newest_after,
}
use Rattle.ssh_hub.proofs.lock.HubLock.finish.Goals as goal

pub commit-at-requires-clause-entry : goal.commit-at-requires-clause-entry
commit-at-requires-clause-entry g c = (
  c.requires.entry.0,
  sym (ap (λ p. p.1) (acts_as c.args.place.now.me.0 g.E.Event.entry c.args.hub c.requires.legal
      c.requires.entry.0 c.requires.entry.1)),
)

pub count_entry-requires : goal.count_entry-requires
count_entry-requires g c = let p = place_before c.args.place.now.me.0 g.E.Event.entry c.args.hub
    c.requires.entry.1 in let room = c.requires.roomy.place in omega arith

pub leave-requires-clause-hub : goal.leave-requires-clause-hub
leave-requires-clause-hub g c = c.count_entry.ensures
    ∙ (hub_after c.args.place.now.me.0 g.E.Event.entry c.args.hub c.requires.legal c.requires.entry.0
    c.requires.entry.1
    ∙ ap (λ (m : Seated). (world m.0.config m.0.seen).hub) (sym c.commit-at.ensures.place.1))

pub returns : goal.returns
returns g c =
    let m : Seated = c.args.place.now.me in
    let o : Seated = c.leave.new.place.me in
    let e = g.E.Event.entry in
    let is : o ≡ (ended e m.0, []) = ended_as m c.commit-at.new.place.me o e
    c.commit-at.ensures.place.1 c.leave.ensures.1 c.requires.place.1.2 in
    let makes = made m o e c.args.hub c.requires.legal c.requires.entry.0 c.requires.entry.1 is in
    record {
      place = (
        c.leave.ensures.0 ∙ c.commit-at.ensures.place.0,
        (ap (λ (x : Seated). x.0.number) is, ap (λ (x : Seated). x.0.config) is),
        ap (λ (x : Seated). x.0.spare) is,
      );
      rests = rests_after m o e c.requires.place.1 c.requires.entry.0 is;
      newest = newest_after m o e c.commit-at.result c.requires.entry.0 c.commit-at.ensures.place.2
          is;
      held = held_after m.0 e.call e.reply o.0 makes;
      makes = makes;
      fresh = λ n x. let f = c.commit-at.ensures.fresh n x in
          (f.0, subst (λ (y : Seated). calls_by n y.0.seen ≡ []) (sym c.leave.ensures.1) f.1);
    }
