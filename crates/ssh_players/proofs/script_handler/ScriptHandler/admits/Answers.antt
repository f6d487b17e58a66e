use Rattle.std.proofs.Common.{◌≡◌, sym, ◌∙◌, ap, [], ◌∷◌}
use Rattle.ssh_auth.specs.declared.question.Question.TheVariants.{Admits}
use Rattle.ssh_auth.specs.Calls.{admission_call}
use Rattle.ssh_scene.specs.Queues.{queues_in}
use Rattle.ssh_players.specs.Played.{queues_from, interactive_answer}
use Rattle.ssh_players.proofs.Telling.{tells_call, left_next, made_one}
use Rattle.ssh_players.proofs.script_handler.ScriptHandler.admits.Goals as goal

pub invariant_of-self-2 : goal.invariant_of-self-2
invariant_of-self-2 c =
    let self = c.args.self.now in
    record {
      left = left_next (queues_in self.answers) (queues_from self.answers self.next
          self.banners_left) (queues_from self.answers c.places_after-next.result self.banners_left)
          self.asked.items c.keep.new.all.items (Admits c.args.admission) self.left
          c.in_ok-keep.ensures.ok (sym (c.places_after-next.ensures self.banners_left));
    }

pub returns : goal.returns
returns c =
    let self = c.args.self.now in
    let answer = made_one c.interactive_answer_of.result c.in_ok-or_lost.field-0 (λ answer. answer
    ≡ interactive_answer c.verdict_of-verdict.result) c.in_ok-or_lost.ensures.made
    c.interactive_answer_of.ensures in
    tells_call self.lost c.or_lost.new.lost (queues_in self.answers)
    (queues_from self.answers self.next self.banners_left)
    self.asked.items c.keep.new.all.items (Admits c.args.admission) c.in_ok-or_lost.field-0
    (admission_call c.args.admission c.in_ok-or_lost.field-0) self.left
    c.in_ok-keep.ensures.ok (c.in_ok-or_lost.ensures.same ∙ c.in_ok-keep.ensures.same)
    (ap (λ x. admission_call c.args.admission x ∷ [])
    (sym (answer ∙ ap interactive_answer (c.verdict_of-verdict.ensures self.banners_left))))
