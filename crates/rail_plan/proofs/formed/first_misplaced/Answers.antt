use Rattle.std.proofs.Common.{◌+◌, length, map, sym, ap, ◌∙◌}
use Rattle.rail_base.specs.Numbering.{first_of_list}
use Rattle.rail_plan.specs.declared.place.PlanPlace.TheVariants as place
use Rattle.rail_plan.specs.WellFormed.{misplaced_in}
use Rattle.rail_plan.proofs.Firsts.{walk_start, walk_on, walk_found, first_mapped_none, first_mapped_some}
use Rattle.rail_plan.proofs.Placed.{misplaced_here}
use Rattle.rail_plan.proofs.formed.first_misplaced.Goals as goal

pub loop-index-init : goal.loop-index-init
loop-index-init c = walk_start (λ i. map (place.Train i) (misplaced_in c.args.interlocking.now.design.station c.args.interlocking.now.routes c.args.steps.now i)) (length c.args.steps.now)

pub returns-in-Some : goal.returns-in-Some
returns-in-Some c =
    let d = c.args.interlocking.now.design.station in
    let i = c.loop-index.index in
    let here = misplaced_here d c.args.interlocking.now.routes c.args.steps.now i c.index-steps-index.result c.loop-index-test.true c.index-steps-index.is in
    let found = first_mapped_some (place.Train (i + 1)) (misplaced_in d c.args.interlocking.now.routes c.args.steps.now (i + 1)) c.in-Some.train (c.in-Some.ensures ∙ ap first_of_list (sym here)) in
    sym (walk_found (λ k. map (place.Train k) (misplaced_in d c.args.interlocking.now.routes c.args.steps.now k)) (length c.args.steps.now) i (place.Train (i + 1) c.in-Some.train) c.loop-index-test.true found) ∙ c.loop-index.invariant

pub loop-index-preserved : goal.loop-index-preserved
loop-index-preserved c =
    let d = c.args.interlocking.now.design.station in
    let i = c.loop-index.index in
    let here = misplaced_here d c.args.interlocking.now.routes c.args.steps.now i c.index-steps-index.result c.loop-index-test.true c.index-steps-index.is in
    let none = first_mapped_none (place.Train (i + 1)) (misplaced_in d c.args.interlocking.now.routes c.args.steps.now (i + 1)) (sym c.in_default.is ∙ c.misplaced_train.ensures ∙ ap first_of_list (sym here)) in
    sym (walk_on (λ k. map (place.Train k) (misplaced_in d c.args.interlocking.now.routes c.args.steps.now k)) (length c.args.steps.now) i c.loop-index-test.true none) ∙ c.loop-index.invariant
