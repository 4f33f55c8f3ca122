use Rattle.std.proofs.Common.{List, [], get_or, refl, sym, ap, subst, arith}
use Rattle.std.specs.List.{list_all}
use Rattle.std.proofs.lemmas.List.{take_all}
use Rattle.rail_base.specs.declared.plan.Command.{Command}
use Rattle.rail_base.specs.Members.{In}
use Rattle.rail_base.proofs.Contained.{in_at}
use Rattle.rail_course.specs.declared.waits.Wait.{Wait}
use Rattle.rail_course.specs.Itineraries.{IsWaitIn}
use Rattle.rail_course.specs.Waits.{AddsWaits}
use Rattle.rail_course.proofs.Merging.{as_more, goes_on, none_more}
use Rattle.tick_sim.specs.Pairs.{have_cleared}
use Rattle.tick_sim.proofs.Pairing.{step_given, waits_are}
use Rattle.tick_sim.proofs.pairs.waits_of.Goals as goal

pub loop-step-init : goal.loop-step-init
loop-step-init c =
    let p = c.args.planned.now in
    subst (λ ws. AddsWaits [] ws (λ ps. list_all (λ step. have_cleared p c.args.command step ps) []) (λ w. (step : List Command) × In step c.as_slice-step-items.result.now × IsWaitIn p.train_paths.given w)) (sym c.new-waits.ensures.items)
    (none_more [] (λ w. (step : List Command) × In step c.as_slice-step-items.result.now × IsWaitIn p.train_paths.given w) _ (λ ps. refl))

pub push_step-requires-clause-step : goal.push_step-requires-clause-step
push_step-requires-clause-step c =
    step_given c.args.planned.now c.step-item.result (subst (λ s. In s c.args.planned.now.plan.now.steps) (sym c.step-item.is)
    (subst (In (get_or c.as_slice-step-items.result.now c.loop-step.step-index c.step-item.result)) c.as_slice-step-items.ensures (in_at c.as_slice-step-items.result.now c.loop-step.step-index _ c.loop-step-test.true)))

pub loop-step-preserved : goal.loop-step-preserved
loop-step-preserved c =
    let p = c.args.planned.now in
    goes_on (λ ps step. have_cleared p c.args.command step ps) (λ (step : List Command) (w : Wait). IsWaitIn p.train_paths.given w) c.as_slice-step-items.result.now c.loop-step.step-index _ [] c.loop-step.waits.items c.push_step.new.waits.items
    c.loop-step-test.true (subst (λ (s : List Command). AddsWaits c.loop-step.waits.items c.push_step.new.waits.items (have_cleared p c.args.command s) (IsWaitIn p.train_paths.given)) c.step-item.is c.in_ok-push_step.ensures) c.loop-step.invariant
    (in_at c.as_slice-step-items.result.now c.loop-step.step-index _ c.loop-step-test.true)

pub returns : goal.returns
returns c =
    let p = c.args.planned.now in
    let past = c.loop-step-test.false in
    waits_are p c.args.command c.loop-step.waits.items c.as_slice-step-items.result.now c.as_slice-step-items.ensures
    (as_more [] c.loop-step.waits.items _ _ _ _ (λ ps. ap (list_all (λ step. have_cleared p c.args.command step ps)) (take_all c.loop-step.step-index c.as_slice-step-items.result.now (omega (arith, past)))) (λ w h. h) c.loop-step.invariant)
