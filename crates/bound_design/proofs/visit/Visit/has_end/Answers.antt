use Rattle.std.proofs.Common.{ℤ, ◌∙◌}
use Rattle.rail_base.specs.declared.station.NodeNo.{NodeNo}
use Rattle.rail_base.specs.Numbering.{after_first}
use Rattle.bound_design.proofs.Openings.{nodes_met}
use Rattle.bound_design.proofs.visit.Visit.has_end.Goals as goal

pub returns : goal.returns
returns c = c.has_later_node.ensures ∙ nodes_met (λ (p : NodeNo × ℤ). p.0) c.args.self.now.set c.args.self.now.list.now c.args.self.now.same (after_first c.args.route.now.nodes)
