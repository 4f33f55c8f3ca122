use Rattle.std.proofs.Common.{Some, ap, ◌∙◌}
use Rattle.rail_plan.proofs.Ends.{last_is, last_same}
use Rattle.rail_plan.proofs.normal.ends_empty.Goals as goal

pub returns-in-Some : goal.returns-in-Some
returns-in-Some c =
    let split = c.in-Some.ensures.cases.0 in (
      λ h. last_is c.args.steps.now c.in-Some._front.now c.in-Some.step.now split ∙ ap Some (c.is_empty.ensures.0 h),
      λ h. c.is_empty.ensures.1 (last_same c.args.steps.now c.in-Some._front.now c.in-Some.step.now _ split h),
    )
