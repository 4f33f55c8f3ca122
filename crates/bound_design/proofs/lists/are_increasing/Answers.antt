use Rattle.std.proofs.Common.{nat_lt}
use Rattle.rail_base.specs.declared.route.RouteNo.{RouteNo}
use Rattle.cone_form.proofs.Walks.{neighbors_end}
use Rattle.bound_design.proofs.lists.are_increasing.Goals as goal

pub returns : goal.returns
returns c = neighbors_end (λ (a b : RouteNo). nat_lt a.0 b.0) c.args.routes.now c.loop-index.index c.loop-index-test.false c.loop-index.invariant
