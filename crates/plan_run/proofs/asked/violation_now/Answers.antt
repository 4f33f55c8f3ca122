use Rattle.std.proofs.Common.{ap, ◌∙◌}
use Rattle.rail_require.specs.Violations.{violation_in}
use Rattle.plan_run.proofs.asked.violation_now.Goals as goal

pub returns-then-may_fail : goal.returns-then-may_fail
returns-then-may_fail c = c.violation_of_history.ensures.value ∙ ap (λ h. violation_in c.args.design.now.station h c.args.progress.now.tick) c.as_slice.ensures.value
