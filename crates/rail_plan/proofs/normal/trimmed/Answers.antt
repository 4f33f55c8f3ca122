use Rattle.std.proofs.Common.{sym, ap, ◌∙◌}
use Rattle.rail_plan.specs.WellFormed.{last_of_list}
use Rattle.rail_plan.proofs.Ends.{popped}
use Rattle.rail_plan.proofs.normal.trimmed.Goals as goal

pub loop-steps-preserved-in-loop-steps : goal.loop-steps-preserved-in-loop-steps
loop-steps-preserved-in-loop-steps c =
    popped c.args.steps c.loop-steps.steps.items c.pop.new.self.items c.pop.result
    (sym (ap last_of_list c.as_slice.ensures.value) ∙ c.ends_empty.ensures.0 c.loop-steps-test.true) c.pop.ensures.items c.loop-steps.invariant
