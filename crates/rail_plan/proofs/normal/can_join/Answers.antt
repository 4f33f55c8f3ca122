use Rattle.std.proofs.Common.{sym, ◌∙◌}
use Rattle.rail_base.specs.Numbering.{first_of_list}
use Rattle.rail_plan.specs.Holds.{kept_sections}
use Rattle.rail_plan.proofs.Joining.{joins_where}
use Rattle.rail_plan.proofs.normal.can_join.Goals as goal

pub returns : goal.returns
returns c = joins_where _ c.kept_section.result (first_of_list (kept_sections c.args.interlocking.now.routes c.args.holds.now c.args.step.now c.args.command)) c.is_none.result (sym c.has_train.ensures ∙ c.if-has_train.false) c.kept_section.ensures c.is_none.ensures
