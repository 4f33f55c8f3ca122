use Rattle.std.proofs.Common.{ap, ◌∙◌}
use Rattle.rail_require.specs.Violations.{violation_in}
use Rattle.rail_require.proofs.first_violation.Goals as goal

pub returns-clause-value : goal.returns-clause-value
returns-clause-value c = c.violation_of_history.ensures.value ∙ ap (λ h. violation_in c.args.design.now.station h c.args.tick) c.as_slice.ensures
