use Rattle.std.proofs.Common.{◌≡◌, sym, ◌∙◌, ap, [], ◌∷◌}
use Rattle.ssh_auth.specs.declared.call.Call.TheVariants.{AuthenticationBanner}
use Rattle.ssh_auth.specs.declared.question.Question.TheVariants.{Banner}
use Rattle.ssh_scene.specs.Queues.{queues_in}
use Rattle.ssh_players.specs.Played.{queues_from, banner_answer}
use Rattle.ssh_players.proofs.Telling.{tells_call, left_next, made_one}
use Rattle.ssh_players.proofs.authentication.ScriptHandlerAuthHandler.authentication_banner.Goals as
    goal

pub invariant_of-self-2 : goal.invariant_of-self-2
invariant_of-self-2 c =
    let self = c.args.self.now in
    record {
      left = left_next (queues_in self.answers) (queues_from self.answers self.next
          self.banners_left)
          (queues_from self.answers self.next c.saturating_sub-self.result) self.asked.items
          c.keep.new.all.items Banner self.left c.in_ok-keep.ensures.ok
          (ap (queues_from self.answers self.next) (sym c.saturating_sub-self.ensures));
    }

pub returns : goal.returns
returns c =
    let self = c.args.self.now in
    let banner = made_one c.copied.result c.in_ok-banner.banner (λ banner. banner
    ≡ self.answers.banner) c.in_ok-banner.ensures.made c.copied.ensures in
    tells_call self.lost c.keep.new.lost (queues_in self.answers)
    (queues_from self.answers self.next self.banners_left)
    self.asked.items c.keep.new.all.items Banner c.banner_of-answer.result
    (AuthenticationBanner c.banner_of-answer.result)
    self.left c.in_ok-keep.ensures.ok (c.in_ok-keep.ensures.same ∙ c.in_ok-banner.ensures.same)
    (ap (λ x. AuthenticationBanner x ∷ [])
    (sym (c.banner_of-answer.ensures ∙ ap (banner_answer self.banners_left) banner)))
