use Rattle.std.proofs.Common.{◌≡◌, ◌+◌, ◌-◌, ◌*◌, Bool, List, ◌++◌, filter, map, sym, ap, ◌∙◌, arith}
use Rattle.std.specs.List.{list_any}
use Rattle.rail_base.specs.declared.route.RouteNo.{RouteNo}
use Rattle.rail_base.specs.Numbering.{count_from}
use Rattle.train_ways.specs.Reached.{is_live, is_over, live_among}
use Rattle.train_ways.proofs.Listing.{all_numbers, kept_done, kept_next, left_out, route_no}
use Rattle.train_ways.proofs.reached.live_among.Goals as goal
use Rattle.train_ways.proofs.reached.live_among.Goals.{then-is_live+in_ok-push, else-is_live}

pub loop-number-init : goal.loop-number-init
loop-number-init c =
    let routes = c.args.routes.now in
    let test = is_live c.args.width c.args.found.now c.args.left.now in
    ap (λ (rs : List RouteNo). rs ++ filter test (map route_no (count_from 1 (c.len.result + 1 - 1)))) c.new-live.ensures.items
    ∙ ap (filter test) (all_numbers routes c.len.result c.len.ensures)

pub loop-number-preserved : goal.loop-number-preserved
loop-number-preserved c =
    let routes = c.args.routes.now in
    let width = c.args.width in
    let found = c.args.found.now in
    let left = c.args.left.now in
    let n = c.loop-number.number in
    let end = c.len.result + 1 in
    let test : RouteNo → Bool = is_live width found left in
    let all = live_among width found left routes in
    let first : (n - 1) * width ≡ c.pair_of.result = omega arith in
    let is : test (route_no n) ≡ c.is_live.result = ap (λ p. list_any (is_over found left) (count_from p width)) first ∙ sym c.is_live.ensures in
    let rest : List RouteNo → List RouteNo = λ rs. rs ++ filter test (map route_no (count_from (n + 1) (end - (n + 1)))) in
    elim c.if-is_live.branch [
      | then-is_live+in_ok-push w ↦ ap rest (ap (λ v. v.items) w.live-is ∙ w.in_ok-push.ensures.items) ∙ kept_next test route_no c.loop-number.live.items n end all c.loop-number-test.true (is ∙ w.if-is_live.true) c.loop-number.invariant
      | else-is_live w ↦ ap rest (ap (λ v. v.items) w.live-is) ∙ left_out test route_no c.loop-number.live.items n end all c.loop-number-test.true (is ∙ w.if-is_live.false) c.loop-number.invariant
    ]

pub returns : goal.returns
returns c =
    kept_done (is_live c.args.width c.args.found.now c.args.left.now) route_no c.loop-number.live.items c.loop-number.number (c.len.result + 1) (live_among c.args.width c.args.found.now c.args.left.now c.args.routes.now) c.loop-number-test.false c.loop-number.invariant
