use Rattle.std.proofs.Common.{◌+◌, ◌-◌, Bool, List, ◌++◌, filter, map, sym, ap, ◌∙◌}
use Rattle.rail_base.specs.declared.route.RouteNo.{RouteNo}
use Rattle.rail_base.specs.Numbering.{count_from}
use Rattle.rail_spec.specs.Plans.{route_at, share}
use Rattle.route_keepers.specs.Sharing.{sharing}
use Rattle.route_keepers.proofs.Listing.{all_numbers, kept_done, kept_next, left_out, route_no}
use Rattle.route_keepers.proofs.keeping.sharing.Goals as goal
use Rattle.route_keepers.proofs.keeping.sharing.Goals.{then-share+in_ok-push, else-share}

pub loop-number-init : goal.loop-number-init
loop-number-init c =
    let routes = c.args.interlocking.now.routes in
    let test : RouteNo → Bool = λ v. share (route_at routes v) (route_at routes c.args.route) in
    ap (λ (rs : List RouteNo). rs ++ filter test (map route_no (count_from 1 (c.len.result + 1 - 1)))) c.new-routes.ensures.items
    ∙ ap (filter test) (all_numbers routes c.len.result c.len.ensures)

pub loop-number-preserved : goal.loop-number-preserved
loop-number-preserved c =
    let routes = c.args.interlocking.now.routes in
    let n = c.loop-number.number in
    let end = c.len.result + 1 in
    let test : RouteNo → Bool = λ v. share (route_at routes v) (route_at routes c.args.route) in
    let all = sharing routes c.args.route in
    let rest : List RouteNo → List RouteNo = λ rs. rs ++ filter test (map route_no (count_from (n + 1) (end - (n + 1)))) in
    elim c.if-share.branch [
      | then-share+in_ok-push w ↦ ap rest (ap (λ v. v.items) w.routes-is ∙ w.in_ok-push.ensures.items) ∙ kept_next test route_no c.loop-number.routes.items n end all c.loop-number-test.true (sym w.if-share.ensures) c.loop-number.invariant
      | else-share w ↦ ap rest (ap (λ v. v.items) w.routes-is) ∙ left_out test route_no c.loop-number.routes.items n end all c.loop-number-test.true (sym w.if-share.ensures) c.loop-number.invariant
    ]

pub returns : goal.returns
returns c =
    let routes = c.args.interlocking.now.routes in
    kept_done (λ v. share (route_at routes v) (route_at routes c.args.route)) route_no c.loop-number.routes.items c.loop-number.number (c.len.result + 1) (sharing routes c.args.route) c.loop-number-test.false c.loop-number.invariant
