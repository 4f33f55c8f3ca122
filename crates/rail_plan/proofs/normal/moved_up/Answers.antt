use Rattle.std.proofs.Common.{◌≡◌, ◌+◌, ◌≤◌, ◌<◌, ◌⊎◌, inl, inr, true, false, [], drop, length, sym, subst, ◌∙◌, arith}
use Rattle.rail_plan.proofs.Joining.{Round, last_has_routes, new_has_routes, new_has_trains, next_has_routes, round_at, round_on, round_start}
use Rattle.rail_plan.proofs.Taking.{holds_none}
use Rattle.rail_plan.proofs.Within.{few_sections}
use Rattle.rail_plan.proofs.normal.moved_up.Goals.{then-len, else-len}
use Rattle.rail_plan.proofs.normal.moved_up.Goals as goal

pub loop-step-init : goal.loop-step-init
loop-step-init c =
    let d = c.args.interlocking.now.design.station in
    let routes = c.args.interlocking.now.routes in
    let plan = c.args.steps.now in
    let others = c.in-Some.others.now in
    let holds = c.no_holds-holds.result in
    let are = holds_none d routes holds (let few = few_sections d c.args.interlocking.now.design.admitted in let many = c.no_holds-holds.ensures.count in omega (arith, few, many)) c.no_holds-holds.ensures.none in
    let start = round_start d routes c.requires.0 plan c.requires.1 c.in-Some.first.now others holds (sym c.as_slice.ensures ∙ c.in-Some.ensures.cases.0) are in
    subst (λ done. Round d routes plan done c.in_ok-last.last others holds false) (sym c.new-done.ensures)
    (subst (λ last. Round d routes plan [] last others holds false) (sym c.in_ok-last.ensures) start)

pub join-requires-clause-last : goal.join-requires-clause-last
join-requires-clause-last c =
    let d = c.args.interlocking.now.design.station in
    let routes = c.args.interlocking.now.routes in
    let plan = c.args.steps.now in
    let others = c.in-Some.others.now in
    let l = c.loop-step in
    last_has_routes d routes c.requires.0 plan c.requires.1 l.done l.last c.step-item.result (drop (l.step-index + 1) others) l.holds l.is_moved
    (round_at d routes plan l.done l.last others l.step-index c.step-item.result l.holds l.is_moved c.loop-step-test.true c.step-item.is l.invariant)

pub join-requires-clause-step : goal.join-requires-clause-step
join-requires-clause-step c =
    let d = c.args.interlocking.now.design.station in
    let routes = c.args.interlocking.now.routes in
    let plan = c.args.steps.now in
    let others = c.in-Some.others.now in
    let l = c.loop-step in
    next_has_routes d routes c.requires.0 plan c.requires.1 l.done l.last c.step-item.result (drop (l.step-index + 1) others) l.holds l.is_moved
    (round_at d routes plan l.done l.last others l.step-index c.step-item.result l.holds l.is_moved c.loop-step-test.true c.step-item.is l.invariant)

pub turn-requires-clause-trains : goal.turn-requires-clause-trains
turn-requires-clause-trains c =
    let d = c.args.interlocking.now.design.station in
    let routes = c.args.interlocking.now.routes in
    let plan = c.args.steps.now in
    let others = c.in-Some.others.now in
    let l = c.loop-step in
    new_has_trains d routes c.requires.0 plan c.requires.1 l.done l.last c.step-item.result (drop (l.step-index + 1) others) l.holds l.is_moved
    (round_at d routes plan l.done l.last others l.step-index c.step-item.result l.holds l.is_moved c.loop-step-test.true c.step-item.is l.invariant) c.join.new.last c.in_ok-left.left c.in_ok-left.ensures.joined c.in_ok-left.ensures.left

pub turn-requires-clause-routes : goal.turn-requires-clause-routes
turn-requires-clause-routes c =
    let d = c.args.interlocking.now.design.station in
    let routes = c.args.interlocking.now.routes in
    let plan = c.args.steps.now in
    let others = c.in-Some.others.now in
    let l = c.loop-step in
    new_has_routes d routes c.requires.0 plan c.requires.1 l.done l.last c.step-item.result (drop (l.step-index + 1) others) l.holds l.is_moved
    (round_at d routes plan l.done l.last others l.step-index c.step-item.result l.holds l.is_moved c.loop-step-test.true c.step-item.is l.invariant) c.join.new.last c.in_ok-left.left c.in_ok-left.ensures.joined c.in_ok-left.ensures.left

pub loop-step-preserved : goal.loop-step-preserved
loop-step-preserved c =
    let d = c.args.interlocking.now.design.station in
    let routes = c.args.interlocking.now.routes in
    let plan = c.args.steps.now in
    let others = c.in-Some.others.now in
    let l = c.loop-step in
    let rest = drop (l.step-index + 1) others in
    let cases : ((length c.in_ok-left.left < length c.step-item.result) × (c.if-len.is_moved ≡ true)) ⊎ ((length c.step-item.result ≤ length c.in_ok-left.left) × (c.if-len.is_moved ≡ l.is_moved)) = elim c.if-len.branch [
      | then-len w ↦ inl (omega (arith, w.if-len.true, c.len.ensures, c.len-in-loop-step.ensures), w.is_moved-is)
      | else-len w ↦ inr (omega (arith, w.if-len.false, c.len.ensures, c.len-in-loop-step.ensures), w.is_moved-is)
    ] in
    let on = round_on d routes c.requires.0 plan c.requires.1 l.done l.last c.step-item.result rest l.holds l.is_moved
    (round_at d routes plan l.done l.last others l.step-index c.step-item.result l.holds l.is_moved c.loop-step-test.true c.step-item.is l.invariant) c.join.new.last c.in_ok-left.left c.in_ok-left.ensures.joined c.in_ok-left.ensures.left
    c.turn.new.holds c.if-len.is_moved c.turn.ensures.same_length c.turn.ensures.turned cases in
    subst (λ done. Round d routes plan done c.in_ok-left.left rest c.turn.new.holds c.if-len.is_moved) (sym c.in_ok-push.ensures.ok) on
