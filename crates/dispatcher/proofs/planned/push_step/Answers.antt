use Rattle.std.proofs.Common.{◌++◌, [], take, get_or, sym, subst, ◌∙◌, arith}
use Rattle.std.proofs.lemmas.List.{append-nil, get_or_default, take_all}
use Rattle.rail_base.proofs.Contained.{in_at}
use Rattle.rail_spec.specs.Plans.{path, routes_given}
use Rattle.dispatcher.specs.Planned.{AreWaitsIn}
use Rattle.dispatcher.proofs.Gathering.{at_most}
use Rattle.dispatcher.proofs.Knowing.{known_more, own_waits_are, step_known}
use Rattle.dispatcher.proofs.planned.push_step.Goals as goal
use Rattle.rail_course.specs.Ready.{own_waits}

pub loop-command-init : goal.loop-command-init
loop-command-init c =
    let p = c.args.planned.now in
    let waits = c.args.waits.now.items in
    record {
      many = c.requires.waits.waits_a_train;
      known = λ t is. subst (λ rs. AreWaitsIn p t rs (own_waits waits t)) (sym (append-nil (path (take c.args.number p.plan.now.steps) t))) (c.requires.waits.each t is);
    }

pub waits_of-requires-clause-route : goal.waits_of-requires-clause-route
waits_of-requires-clause-route c = (c.step_at-step.ensures.named c.loop-command.command-index _ c.loop-command-test.true).1

pub put-requires-clause-at_least_one : goal.put-requires-clause-at_least_one
put-requires-clause-at_least_one c = (c.step_at-step.ensures.named c.loop-command.command-index _ c.loop-command-test.true).0.0

pub put-requires-clause-within : goal.put-requires-clause-within
put-requires-clause-within c = at_most _ _ _ c.loop-command.invariant.many (c.step_at-step.ensures.named c.loop-command.command-index _ c.loop-command-test.true).0.1

pub loop-command-preserved : goal.loop-command-preserved
loop-command-preserved c =
    let p = c.args.planned.now in
    let n = c.args.number in
    let step = c.step_at-step.result.now in
    let j = c.loop-command.command-index in
    let x = get_or step j (record { train = record { 0 = 0 }; route = record { 0 = 0 } }) in
    let less = c.loop-command-test.true in
    let is = c.step_at-step.ensures.step ∙ get_or_default p.plan.now.steps n [] step c.requires.number in
    let waits = own_waits_are p n c.args.queues.now c.requires.queues c.requires.number step is x (in_at step j _ less) c.in_ok-own.own.items c.in_ok-own.ensures in
    record {
      many = c.put.ensures.same_length ∙ c.loop-command.invariant.many;
      known = λ t train. known_more p t (path (take n p.plan.now.steps) t) step j x less (get_or_default step j _ x less) c.in_ok-own.own waits _ _ (c.in_ok-put.ensures.put t.0) (c.loop-command.invariant.known t train);
    }

pub returns : goal.returns
returns c =
    let p = c.args.planned.now in
    let n = c.args.number in
    let step = c.step_at-step.result.now in
    let is = c.step_at-step.ensures.step ∙ get_or_default p.plan.now.steps n [] step c.requires.number in
    let past = c.loop-command-test.false in
    step_known p n c.requires.number step is c.loop-command.waits.items c.loop-command.invariant.many
    (λ t train. subst (λ s. AreWaitsIn p t (path (take n p.plan.now.steps) t ++ routes_given t s) (own_waits c.loop-command.waits.items t)) (take_all c.loop-command.command-index step (omega (arith, past))) (c.loop-command.invariant.known t train))
