use Rattle.std.proofs.Common.{◌≡◌, ◌<◌, [], length, subst, ◌∙◌, arith}
use Rattle.std.proofs.lemmas.List.{get_or_default}
use Rattle.dispatcher.specs.Planned.{AreKnown}
use Rattle.dispatcher.proofs.Knowing.{nothing_known, nothing_queued, queues_turned}
use Rattle.dispatcher.proofs.planned.waits_of_all.Goals as goal

pub loop-number-init : goal.loop-number-init
loop-number-init c =
    let p = c.args.planned.now in
    record { queues = nothing_queued p _ (c.in_ok-queues.ensures.count ∙ c.len.ensures) c.in_ok-queues.ensures.empty; known = nothing_known p _ (c.in_ok-waits.ensures.count ∙ c.len-2.ensures) c.in_ok-waits.ensures.empty }

pub loop-number-preserved : goal.loop-number-preserved
loop-number-preserved c =
    let p = c.args.planned.now in
    let n = c.loop-number.number in
    let steps = p.plan.now.steps in
    let less : n < length steps = (let end = c.len-number-end.ensures in let test = c.loop-number-test.true in omega (arith, end, test)) in
    let step = c.step_at.result.now in
    record {
      queues = queues_turned p n less step (c.step_at.ensures.step ∙ get_or_default steps n [] step less) _ _ c.loop-number.invariant.queues c.turn.ensures.same_length c.in_ok-turn.ensures.turned;
      known = c.in_ok-push_step.ensures;
    }

pub returns : goal.returns
returns c =
    let p = c.args.planned.now in
    let past = c.loop-number-test.false in
    let end = c.loop-number.auto in
    let all : c.loop-number.number ≡ length p.plan.now.steps = omega arith in
    subst (λ n. AreKnown p n c.loop-number.waits.items) all c.loop-number.invariant.known
