use Rattle.std.proofs.Common.{rules, ◌≡◌, sym, subst, Some, None, get_or, IfOk}
use Rattle.std.specs.List.{position}
use Rattle.ssh_scene_gateway.specs.Reaching.{is_of}
use Rattle.ssh_scene_gateway.proofs.Streams.{arrives_at, arrives_nowhere, left_at}
use Rattle.ssh_scene_gateway.proofs.targets.read.Goals as goal

pub returns-in-Some-clause-arrived : goal.returns-in-Some-clause-arrived
returns-in-Some-clause-arrived c =
    let at : position (is_of c.args.id) c.args.streams.now.items ≡ Some c.in-Some.place =
    search rules in
    let one : c.index_mut.result.now
    ≡ get_or c.args.streams.now.items c.in-Some.place c.index_mut.result.now =
    c.index_mut.ensures.value in
    subst (λ a. IfOk c.take.result (λ arrived. arrived ≡ a)) (sym (arrives_at c.args.most c.args.id
    c.in-Some.place c.args.streams.now.items c.index_mut.result.now at one)) c.take.ensures.arrived

pub returns-in-Some-clause-left : goal.returns-in-Some-clause-left
returns-in-Some-clause-left c =
    let at : position (is_of c.args.id) c.args.streams.now.items ≡ Some c.in-Some.place =
    search rules in
    let one : c.index_mut.result.now
    ≡ get_or c.args.streams.now.items c.in-Some.place c.index_mut.result.now =
    c.index_mut.ensures.value in
    left_at c.take.result c.args.most c.args.id c.in-Some.place c.args.streams.now.items
    c.index_mut.result.now c.take.new.left at one c.take.ensures.left

pub returns-in-None-clause-arrived : goal.returns-in-None-clause-arrived
returns-in-None-clause-arrived c =
    let none : position (is_of c.args.id) c.args.streams.now.items ≡ None = search rules in
    sym (arrives_nowhere c.args.most c.args.id c.args.streams.now.items none)
