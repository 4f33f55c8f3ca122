use Rattle.std.proofs.Common.{sym, ap, ◌∙◌}
use Rattle.rail_base.specs.declared.plan.Violation.{Violation}
use Rattle.cone_spec.specs.Validity.{violation_in_design}
use Rattle.cone_form.proofs.violations.violation_in_design.Goals as goal

pub returns-in-Path : goal.returns-in-Path
returns-in-Path c = c.path_in_design.ensures ∙ ap (λ (v : Violation). violation_in_design c.args.interlocking.now.design.station c.args.interlocking.now.routes c.args.cone.now v) (sym c.in-Path.is)
