use Rattle.std.proofs.Common.{sym, ◌∙◌}
use Rattle.cone_form.proofs.Joined.{last_fails}
use Rattle.cone_form.proofs.is_in_design.Goals as goal

pub returns-then-not-violation_in_design : goal.returns-then-not-violation_in_design
returns-then-not-violation_in_design c = last_fails _ _ (sym c.violation_in_design.ensures ∙ c.if-not-violation_in_design.true)
