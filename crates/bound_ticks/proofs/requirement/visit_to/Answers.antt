use Rattle.rail_base.specs.Stations.{IsTrain}
use Rattle.leg_targets.specs.declared.targets.Visit.{Visit}
use Rattle.bound_ticks.proofs.Requiring.{order_good, some_is, within_good}
use Rattle.bound_ticks.proofs.requirement.visit_to.Goals as goal

pub returns-in-Within-clause-train : goal.returns-in-Within-clause-train
returns-in-Within-clause-train c =
    some_is (λ (v : Visit). IsTrain c.args.interlocking.now.design.station v.train) _ (within_good c.args.interlocking.now c.args.requirement c.requires c.in-Within.within c.within_of-within.result.now c.in-Within.is c.within_of-within.ensures).to.0

pub returns-in-Order-clause-train : goal.returns-in-Order-clause-train
returns-in-Order-clause-train c =
    some_is (λ (v : Visit). IsTrain c.args.interlocking.now.design.station v.train) _ (order_good c.args.interlocking.now c.args.requirement c.requires c.in-Order.order c.order_of-order.result.now c.in-Order.is c.order_of-order.ensures).first_names.0
