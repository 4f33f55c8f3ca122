use Rattle.std.proofs.Common.{◌||◌, not, refl, ap, ◌∙◌, arith}
use Rattle.std.specs.List.{list_all}
use Rattle.std.proofs.lemmas.List.{take_all}
use Rattle.rail_base.specs.declared.plan.Command.{Command}
use Rattle.rail_base.proofs.Contained.{in_at}
use Rattle.rail_course.specs.declared.waits.Wait.{Wait}
use Rattle.rail_course.specs.Itineraries.{IsWaitIn, has_cleared_in}
use Rattle.rail_course.proofs.Merging.{as_more, goes_on, none_more}
use Rattle.rail_course.proofs.Waiting.{kept_all}
use Rattle.tick_sim.specs.Pairs.{precedes_in}
use Rattle.tick_sim.proofs.pairs.push_step.Goals as goal

pub loop-other-init : goal.loop-other-init
loop-other-init c = none_more c.args.waits.now.items _ _ (λ ps. refl)

pub loop-other-preserved : goal.loop-other-preserved
loop-other-preserved c =
    let p = c.args.planned.now in
    goes_on (λ ps e. not (precedes_in p e c.args.command) || has_cleared_in p.train_paths.given ps c.args.command e) (λ (e : Command) (w : Wait). IsWaitIn p.train_paths.given w) c.as_slice-other-items.result.now c.loop-other.other-index _ c.args.waits.now.items c.loop-other.waits.items c.push_waits.new.waits.items
    c.loop-other-test.true c.in_ok-push_waits.ensures c.loop-other.invariant (in_at c.as_slice-other-items.result.now c.loop-other.other-index _ c.loop-other-test.true)

pub returns : goal.returns
returns c =
    let p = c.args.planned.now in
    let past = c.loop-other-test.false in
    as_more c.args.waits.now.items c.loop-other.waits.items _ _ _ _
    (λ ps. ap (list_all (λ e. not (precedes_in p e c.args.command) || has_cleared_in p.train_paths.given ps c.args.command e)) (take_all c.loop-other.other-index c.as_slice-other-items.result.now (omega (arith, past)) ∙ c.as_slice-other-items.ensures)
    ∙ kept_all (has_cleared_in p.train_paths.given ps c.args.command) (λ e. precedes_in p e c.args.command) c.args.step.now)
    (λ w h. h.2) c.loop-other.invariant
