use Rattle.std.proofs.Common.{◌≡◌, ◌+◌, ◌-◌, Bool, List, ◌++◌, filter, map, sym, ap, ◌∙◌}
use Rattle.rail_base.specs.declared.route.Route.{Route}
use Rattle.rail_base.specs.declared.route.RouteNo.{RouteNo}
use Rattle.rail_base.specs.Numbering.{count_from}
use Rattle.rail_spec.specs.Plans.{goes_on, route_at, route_numbers}
use Rattle.route_keepers.specs.Chains.{going_on}
use Rattle.route_keepers.proofs.Listing.{all_numbers, kept_done, kept_next, left_out, route_no}
use Rattle.route_keepers.proofs.onward.going_on.Goals as goal
use Rattle.route_keepers.proofs.onward.going_on.Goals.{then-goes_on+in_ok-push, else-goes_on}

pub loop-number-init : goal.loop-number-init
loop-number-init c =
    let routes = c.args.interlocking.now.routes in
    ap (λ (rs : List RouteNo). rs ++ filter (λ q. goes_on c.route.result.now.finish (route_at routes q).start) (map route_no (count_from 1 (c.len.result + 1 - 1)))) c.new-routes.ensures
    ∙ ap (filter (λ q. goes_on c.route.result.now.finish (route_at routes q).start)) (all_numbers routes c.len.result c.len.ensures)
    ∙ ap (λ (r : Route). filter (λ q. goes_on r.finish (route_at routes q).start) (route_numbers routes)) c.route.ensures

pub loop-number-preserved : goal.loop-number-preserved
loop-number-preserved c =
    let routes = c.args.interlocking.now.routes in
    let n = c.loop-number.number in
    let end = c.len.result + 1 in
    let finish = c.route.result.now.finish in
    let test : RouteNo → Bool = λ q. goes_on finish (route_at routes q).start in
    let all = going_on routes c.args.route in
    let other : goes_on finish (route_at routes (route_no n)).start ≡ goes_on finish c.route-in-loop-number.result.now.start = ap (λ (r : Route). goes_on finish r.start) (sym c.route-in-loop-number.ensures) in
    let left : List RouteNo → List RouteNo = λ rs. rs ++ filter test (map route_no (count_from (n + 1) (end - (n + 1)))) in
    elim c.if-goes_on.branch [
      | then-goes_on+in_ok-push w ↦ ap left (w.routes-is ∙ w.in_ok-push.ensures.ok) ∙ kept_next test route_no c.loop-number.routes n end all c.loop-number-test.true (other ∙ sym w.if-goes_on.ensures) c.loop-number.invariant
      | else-goes_on w ↦ ap left w.routes-is ∙ left_out test route_no c.loop-number.routes n end all c.loop-number-test.true (other ∙ sym w.if-goes_on.ensures) c.loop-number.invariant
    ]

pub returns : goal.returns
returns c =
    let routes = c.args.interlocking.now.routes in
    kept_done (λ q. goes_on c.route.result.now.finish (route_at routes q).start) route_no c.loop-number.routes c.loop-number.number (c.len.result + 1) (going_on routes c.args.route) c.loop-number-test.false c.loop-number.invariant
