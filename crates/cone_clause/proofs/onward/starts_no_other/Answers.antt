use Rattle.std.proofs.Common.{map, ap, sym, ◌∙◌}
use Rattle.rail_base.specs.Routes.{route_at}
use Rattle.cone_spec.proofs.Further.{further_after, further_first, further_stop, further_next}
use Rattle.cone_clause.proofs.onward.starts_no_other.Goals as goal
use Rattle.cone_form.proofs.Walks.{drop_end}

pub loop-number-init : goal.loop-number-init
loop-number-init c = further_first c.args.route.now (map (route_at c.args.routes.now) c.args.path.now)

pub returns-then-is_start : goal.returns-then-is_start
returns-then-is_start c = further_stop c.args.routes.now c.args.route.now c.args.path.now c.loop-number.number-index _ c.loop-number-test.true c.route_at-last.result.now c.route_at-last.ensures c.loop-number.goes c.is_start.result _ c.is_start.ensures c.if-is_start.true c.loop-number.invariant

pub loop-number-preserved : goal.loop-number-preserved
loop-number-preserved c = further_next c.args.routes.now c.args.route.now c.args.path.now c.loop-number.number-index _ c.loop-number-test.true c.route_at-last.result.now c.route_at-last.ensures c.loop-number.goes c.is_start.result c.goes_on-goes.result _ c.is_start.ensures c.if-is_start.false c.goes_on-goes.ensures c.loop-number.invariant

pub returns : goal.returns
returns c = sym (ap (λ rs. further_after c.args.route.now c.loop-number.goes (map (route_at c.args.routes.now) rs)) (drop_end c.args.path.now c.loop-number.number-index c.loop-number-test.false)) ∙ c.loop-number.invariant
