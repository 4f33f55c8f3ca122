use Rattle.std.proofs.Common.{◌≡◌, ◌+◌, ◌-◌, Bool, List, ◌++◌, filter, map, sym, ap, ◌∙◌}
use Rattle.std.specs.List.{list_any}
use Rattle.rail_base.specs.declared.route.RouteNo.{RouteNo}
use Rattle.rail_base.specs.Numbering.{count_from}
use Rattle.rail_spec.specs.Plans.{route_at, route_numbers, share}
use Rattle.normal_clause_spec.specs.Clauses.{can_keep, leads_to}
use Rattle.route_keepers.specs.Keepers.{keepers_of}
use Rattle.route_keepers.proofs.Listing.{all_numbers, any_among, kept_done, kept_next, left_out, route_no}
use Rattle.route_keepers.proofs.Stepping.{kept_are}
use Rattle.route_keepers.proofs.keeping.keepers_of.Goals as goal
use Rattle.route_keepers.proofs.keeping.keepers_of.Goals.{then-lead_from_one+in_ok-push, else-lead_from_one}

pub loop-number-init : goal.loop-number-init
loop-number-init c =
    let routes = c.args.chains.now.interlocking.now.routes in
    ap (λ (rs : List RouteNo). rs ++ filter (can_keep routes c.args.route) (map route_no (count_from 1 (c.len.result + 1 - 1)))) c.new-keepers.ensures
    ∙ ap (filter (can_keep routes c.args.route)) (all_numbers routes c.len.result c.len.ensures)

pub lead_from_one-requires-clause-firsts : goal.lead_from_one-requires-clause-firsts
lead_from_one-requires-clause-firsts c =
    let routes = c.args.chains.now.interlocking.now.routes in
    kept_are routes (λ v. share (route_at routes v) (route_at routes c.args.route)) c.deref.result.now (c.deref.ensures.value ∙ c.in_ok-sharing.ensures)

pub loop-number-preserved : goal.loop-number-preserved
loop-number-preserved c =
    let routes = c.args.chains.now.interlocking.now.routes in
    let n = c.loop-number.number in
    let end = c.len.result + 1 in
    let test : RouteNo → Bool = can_keep routes c.args.route in
    let all = keepers_of routes c.args.route in
    let shares : RouteNo → Bool = λ v. share (route_at routes v) (route_at routes c.args.route) in
    let leads : RouteNo → Bool = λ v. leads_to routes v (route_no n) in
    let is : list_any leads c.deref.result.now ≡ test (route_no n) = ap (list_any leads) (c.deref.ensures.value ∙ c.in_ok-sharing.ensures) ∙ any_among shares leads (route_numbers routes) in
    let rest : List RouteNo → List RouteNo = λ rs. rs ++ filter test (map route_no (count_from (n + 1) (end - (n + 1)))) in
    elim c.if-lead_from_one.branch [
      | then-lead_from_one+in_ok-push w ↦ ap rest (w.keepers-is ∙ w.in_ok-push.ensures.ok) ∙ kept_next test route_no c.loop-number.keepers n end all c.loop-number-test.true (sym (w.if-lead_from_one.ensures ∙ is)) c.loop-number.invariant
      | else-lead_from_one w ↦ ap rest w.keepers-is ∙ left_out test route_no c.loop-number.keepers n end all c.loop-number-test.true (sym (w.if-lead_from_one.ensures ∙ is)) c.loop-number.invariant
    ]

pub returns : goal.returns
returns c =
    let routes = c.args.chains.now.interlocking.now.routes in
    kept_done (can_keep routes c.args.route) route_no c.loop-number.keepers c.loop-number.number (c.len.result + 1) (keepers_of routes c.args.route) c.loop-number-test.false c.loop-number.invariant
