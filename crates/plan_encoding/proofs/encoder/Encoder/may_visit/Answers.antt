use Rattle.std.proofs.Common.{ap, ◌∙◌, arith}
use Rattle.std.specs.List.{list_any}
use Rattle.rail_base.specs.Numbering.{after_first}
use Rattle.number_sets.specs.Sets.{contains}
use Rattle.plan_encoding.proofs.Visiting.{later_visit}
use Rattle.plan_encoding.proofs.encoder.Encoder.may_visit.Goals as goal

pub returns : goal.returns
returns c =
    c.leads_to.ensures
    ∙ (ap (λ r. list_any (λ p. contains c.args.visit.now.set p.0.0) (after_first r.nodes)) c.route_at-route.ensures
    ∙ later_visit c.args.self.now.interlocking.now.design.station c.args.self.now.interlocking.now.routes c.args.self.now.steps.count c.args.visit.now.number c.args.visit.now.list.now c.args.visit.now.set c.args.route c.args.visit.now.counted (λ e. omega arith) c.args.visit.now.same)
