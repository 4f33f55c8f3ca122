use Rattle.std.proofs.Common.{◌+◌, true, false, length, take, cond, ap, ◌∙◌, arith}
use Rattle.plan_names.specs.Shown.{edge_names, routes_over}
use Rattle.plan_names.proofs.Turns.{route_edges, of_table, next_over}
use Rattle.plan_names.proofs.names.is_shared.Goals as goal
use Rattle.plan_names.proofs.names.is_shared.Goals.{then-same_names, else-same_names}

pub same_names-requires-clause-one : goal.same_names-requires-clause-one
same_names-requires-clause-one c = route_edges c.args.interlocking.now.design.station c.args.interlocking.now.design.admitted _ (of_table c.as_slice-other-items.result.now c.args.interlocking.now.routes _ c.loop-other.other-index _ _ c.as_slice-other-items.ensures c.args.interlocking.now.table c.loop-other-test.true c.other-item.is)

pub loop-other-preserved : goal.loop-other-preserved
loop-other-preserved c =
    let d = c.args.interlocking.now.design.station in
    let routes = c.args.interlocking.now.routes in
    let names = edge_names d c.args.route.now in
    let next = next_over d routes c.as_slice-other-items.result.now c.loop-other.other-index c.other-item.result c.other-item.result names c.same_names.result c.as_slice-other-items.ensures c.loop-other-test.true c.other-item.is c.same_names.ensures in
    let before = c.loop-other.invariant.0 in
    let few = c.loop-other.invariant.1 in
    elim c.if-same_names.branch [
      | then-same_names w ↦ let more = next ∙ ap (λ b. length (routes_over d (take c.loop-other.other-index routes) names) + cond b 1 0) w.if-same_names.true in let is = w.many-is in (omega arith, omega arith)
      | else-same_names w ↦ let more = next ∙ ap (λ b. length (routes_over d (take c.loop-other.other-index routes) names) + cond b 1 0) w.if-same_names.false in let is = w.many-is in (omega arith, omega arith)
    ]
