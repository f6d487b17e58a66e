use Rattle.std.proofs.Common.{◌≡◌, ◌∙◌, inr, refl, subst}
use Rattle.ssh_ends.specs.Ends.{Post, Took, TakesNone}
use Rattle.ssh_ends.proofs.Posts.{takes_first, takes_none}
use Rattle.ssh_ends.proofs.post.Post.take.Goals as goal

pub returns-in-Ok-clause-took : goal.returns-in-Ok-clause-took
returns-in-Ok-clause-took c =
    let near : Post = record { end = c.self.inside.end; flight = c.self.inside.flight } in
    let far : Post = record { end = c.other.inside.end; flight = c.other.inside.flight } in
    let left : Post = record { end = c.other.inside.end; flight = c.pop_front.new.self } in
    let same : c.as_slice.result.now ≡ c.in-Some.frame.payload =
    c.as_slice.ensures.value ∙ c.in_ok-payload.ensures.ok in
    subst (λ (o : Post). Took c.args.self.now o c.hand_on.new.self left c.in-Ok.delivered)
    c.other.view_is
    (subst (λ (s : Post). Took s far c.hand_on.new.self left c.in-Ok.delivered) c.self.view_is
    (takes_first near far c.hand_on.new.self left c.as_slice.result.now c.take.new.self
    c.in-Ok.delivered c.in-Some.frame c.pop_front.new.self c.in-Some.ensures.first same
    c.in-Ok.ensures.took c.in_ok-hand_on-in-Ok.ensures.handed refl))

pub returns-clause-errors : goal.returns-clause-errors
returns-clause-errors c =
    let flight = c.other.inside.flight in
    let same : c.as_slice.result.now ≡ c.in-Some.frame.payload =
    c.as_slice.ensures.value ∙ c.in_ok-payload.ensures.ok in
    inr (subst (λ (o : Post). TakesNone o.flight c.args.self.now.end c.in-Err.why) c.other.view_is
    (subst (λ (s : Post). TakesNone flight s.end c.in-Err.why) c.self.view_is
    (takes_none flight c.self.inside.end c.as_slice.result.now c.in-Err.why c.in-Some.frame
    c.pop_front.new.self c.in-Some.ensures.first same c.in-Err.ensures.errors)))
