use Rattle.std.proofs.Common.{refl, ap, Err, arith}
use Rattle.ssh_gateway.specs.Serving.{outside}
use Rattle.ssh_gateway.proofs.Delivering.{delivered, undelivered}
use Rattle.ssh_gateway.proofs.Turning.{given_so, turned, stopped, untold, counted, not_chosen}
use Rattle.ssh_gateway.proofs.Turning.{not_given}
use Rattle.ssh_gateway.proofs.run.turn.Goals as goal

pub returns-in-Ok-deliver-clause-turned : goal.returns-in-Ok-deliver-clause-turned
returns-in-Ok-deliver-clause-turned g c = λ w calls r silent live repeats kept tells.
    let serves = c.in-Ok-serve.ensures.served w calls r silent live repeats kept tells in
    let chosen = c.in-Ok.ensures.later in
    let told = c.in-Ok-deliver.ensures.later in
    let before = outside g.K.Kex.steps g.L.Link.trace g.L.Link.faults g.T.Targets.told
    g.T.Targets.faults c.args.kex.now c.args.link.now c.args.targets.now in
    let after = outside g.K.Kex.steps g.L.Link.trace g.L.Link.faults g.T.Targets.told
    g.T.Targets.faults c.serve.new.kex c.serve.new.link c.deliver.new.targets in
    turned (g.V.Verifier.accepts c.args.verifier.now) (g.P.Policy.permits c.args.policy.now)
    c.args.board.now c.give.new.self c.deliver.new.self w c.in-Ok-give.input c.in-Ok.chosen.closes
    c.args.keeper.now.auth.ghost_name c.serve.new.keeper.auth.ghost_name calls
    (g.A.AuthHandler.told c.serve.new.keeper.auth.now) c.serve.new.keeper.notebook.now
    c.clear.new.self before after (g.L.Link.trace c.give.new.link) (g.L.Link.faults c.give.new.link)
    (g.T.Targets.told c.choose.new.targets) c.serve.new.session c.in-Ok-serve.flow live
    (given_so (g.P.Policy.permits c.args.policy.now) c.args.board.now c.choose.new.self
    c.give.new.self w c.in-Ok.chosen c.in-Ok-give.input (g.L.Link.trace c.args.link.now)
    (g.L.Link.trace c.give.new.link) (g.T.Targets.told c.args.targets.now)
    (g.T.Targets.told c.choose.new.targets) (c.in-Ok.ensures.chosen w r)
    c.in-Ok-give.ensures.given c.in-Ok-give.ensures.told c.in-Ok-give.ensures.board) serves
    (λ questions is. delivered c.serve.new.keeper.notebook.now c.asked.result.now questions
    c.give.new.self c.deliver.new.self c.in-Ok.chosen.closes
    (g.T.Targets.told c.choose.new.targets) (g.T.Targets.told c.deliver.new.targets) c.asked.ensures
    c.in-Ok-deliver.ensures.noted c.in-Ok-deliver.ensures.told is)
    (c.clear.ensures serves.questions serves.kept) c.in-Ok-give.ensures.later
    (omega (arith, chosen, told))

pub returns-in-Err-clause-turned : goal.returns-in-Err-clause-turned
returns-in-Err-clause-turned g c = λ w calls r silent live repeats kept tells.
    let before = outside g.K.Kex.steps g.L.Link.trace g.L.Link.faults g.T.Targets.told
    g.T.Targets.faults c.args.kex.now c.args.link.now c.args.targets.now in
    let after = outside g.K.Kex.steps g.L.Link.trace g.L.Link.faults g.T.Targets.told
    g.T.Targets.faults c.args.kex.now c.args.link.now c.choose.new.targets in
    not_chosen (g.V.Verifier.accepts c.args.verifier.now) (g.P.Policy.permits c.args.policy.now)
    c.args.board.now w c.args.keeper.now.auth.ghost_name calls
    (g.A.AuthHandler.told c.args.keeper.now.auth.now) before after c.in-Err.fault _ tells
    c.target_error.ensures.is
    (λ is. c.in-Err.ensures.cause (ap Err is)) (c.in-Err.ensures.failed w r) refl

pub returns-in-Err-give-clause-turned : goal.returns-in-Err-give-clause-turned
returns-in-Err-give-clause-turned g c = λ w calls r silent live repeats kept tells.
    let before = outside g.K.Kex.steps g.L.Link.trace g.L.Link.faults g.T.Targets.told
    g.T.Targets.faults c.args.kex.now c.args.link.now c.args.targets.now in
    let after = outside g.K.Kex.steps g.L.Link.trace g.L.Link.faults g.T.Targets.told
    g.T.Targets.faults c.args.kex.now c.give.new.link c.choose.new.targets in
    not_given (g.V.Verifier.accepts c.args.verifier.now) (g.P.Policy.permits c.args.policy.now)
    c.args.board.now c.choose.new.self w c.args.keeper.now.auth.ghost_name calls
    (g.A.AuthHandler.told c.args.keeper.now.auth.now) c.in-Ok.chosen before after
    c.in-Err-give.fault _ tells c.link_error.ensures.is (c.in-Ok.ensures.chosen w r)
    c.in-Err-give.ensures.asked (λ is. c.in-Err-give.ensures.cause (ap Err is))
    c.in-Err-give.ensures.err refl

pub returns-in-Err-serve-clause-turned : goal.returns-in-Err-serve-clause-turned
returns-in-Err-serve-clause-turned g c = λ w calls r silent live repeats kept tells.
    let before = outside g.K.Kex.steps g.L.Link.trace g.L.Link.faults g.T.Targets.told
    g.T.Targets.faults c.args.kex.now c.args.link.now c.args.targets.now in
    let after = outside g.K.Kex.steps g.L.Link.trace g.L.Link.faults g.T.Targets.told
    g.T.Targets.faults c.serve.new.kex c.serve.new.link c.choose.new.targets in
    stopped (g.V.Verifier.accepts c.args.verifier.now) (g.P.Policy.permits c.args.policy.now)
    c.args.board.now c.give.new.self w c.in-Ok-give.input c.in-Ok.chosen.closes
    c.args.keeper.now.auth.ghost_name c.serve.new.keeper.auth.ghost_name calls
    (g.A.AuthHandler.told c.serve.new.keeper.auth.now) before after
    (g.L.Link.trace c.give.new.link) (g.L.Link.faults c.give.new.link)
    (g.T.Targets.told c.choose.new.targets) c.in-Err-serve.error
    (given_so (g.P.Policy.permits c.args.policy.now) c.args.board.now c.choose.new.self
    c.give.new.self w c.in-Ok.chosen c.in-Ok-give.input (g.L.Link.trace c.args.link.now)
    (g.L.Link.trace c.give.new.link) (g.T.Targets.told c.args.targets.now)
    (g.T.Targets.told c.choose.new.targets) (c.in-Ok.ensures.chosen w r)
    c.in-Ok-give.ensures.given c.in-Ok-give.ensures.told c.in-Ok-give.ensures.board)
    (c.in-Err-serve.ensures.served w calls r silent live repeats kept tells) refl
    c.in-Ok-give.ensures.later

pub returns-in-Err-deliver-clause-turned : goal.returns-in-Err-deliver-clause-turned
returns-in-Err-deliver-clause-turned g c = λ w calls r silent live repeats kept tells.
    let chosen = c.in-Ok.ensures.later in
    let before = outside g.K.Kex.steps g.L.Link.trace g.L.Link.faults g.T.Targets.told
    g.T.Targets.faults c.args.kex.now c.args.link.now c.args.targets.now in
    let after = outside g.K.Kex.steps g.L.Link.trace g.L.Link.faults g.T.Targets.told
    g.T.Targets.faults c.serve.new.kex c.serve.new.link c.deliver.new.targets in
    untold (g.V.Verifier.accepts c.args.verifier.now) (g.P.Policy.permits c.args.policy.now)
    c.args.board.now c.give.new.self w c.in-Ok-give.input c.in-Ok.chosen.closes
    c.args.keeper.now.auth.ghost_name c.serve.new.keeper.auth.ghost_name calls
    (g.A.AuthHandler.told c.serve.new.keeper.auth.now) c.serve.new.keeper.notebook.now before after
    (g.L.Link.trace c.give.new.link) (g.L.Link.faults c.give.new.link)
    (g.T.Targets.told c.choose.new.targets) c.serve.new.session c.in-Ok-serve.flow
    c.in-Err-deliver.fault _ c.target_error-in-Err-deliver.ensures.is
    (given_so (g.P.Policy.permits c.args.policy.now) c.args.board.now c.choose.new.self
    c.give.new.self w c.in-Ok.chosen c.in-Ok-give.input (g.L.Link.trace c.args.link.now)
    (g.L.Link.trace c.give.new.link) (g.T.Targets.told c.args.targets.now)
    (g.T.Targets.told c.choose.new.targets) (c.in-Ok.ensures.chosen w r)
    c.in-Ok-give.ensures.given c.in-Ok-give.ensures.told c.in-Ok-give.ensures.board)
    (c.in-Ok-serve.ensures.served w calls r silent live repeats kept tells)
    (λ questions is. undelivered c.in-Err-deliver.fault c.serve.new.keeper.notebook.now
    c.asked.result.now questions c.give.new.self c.in-Ok.chosen.closes
    (g.T.Targets.told c.choose.new.targets) (g.T.Targets.told c.deliver.new.targets) c.asked.ensures
    c.in-Err-deliver.ensures.failed is)
    (λ failed. let rose = c.in-Err-deliver.ensures.cause (ap Err failed) in
    omega (arith, chosen, rose))

pub returns-in-Ok-deliver-clause-counts : goal.returns-in-Ok-deliver-clause-counts
returns-in-Ok-deliver-clause-counts g c =
    counted c.args.board.now c.choose.new.self c.give.new.self c.deliver.new.self
    c.in-Ok-give.input.moment c.asked.result.now c.in-Ok.ensures.counts c.in-Ok-give.ensures.board
    c.in-Ok-deliver.ensures.noted
