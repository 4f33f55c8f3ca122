use Rattle.rail_base.specs.declared.state.PathNode.{PathNode}
use Rattle.rail_course.specs.Milestones.{ComeInTurn}
use Rattle.rail_course.proofs.Granting.{laid_out}
use Rattle.rail_course.proofs.InTurn.{first_and_later, nodes_in_turn}
use Rattle.std.proofs.Common.{◌≡◌, ◌∷◌, ◌^◌, ap, ◌∙◌, arith, subst, sym}
use Rattle.std.proofs.lemmas.List.Sums.{sum_by-cons}
use Rattle.rail_base.specs.declared.route.Route.{Route}
use Rattle.rail_base.specs.Routes.{route_at, length_mm}
use Rattle.rail_course.specs.PathNodes.{LieBelow}
use Rattle.rail_course.specs.Tracks.{routes_at}
use Rattle.rail_course.proofs.Stopping.{nodes_below}
use Rattle.rail_course.proofs.Walking.{fit_all}
use Rattle.rail_course.proofs.path_nodes.path_nodes_from.Goals as goal
use Rattle.rail_spec.specs.Places.{path_nodes}

pub push_path_nodes-requires : goal.push_path_nodes-requires
push_path_nodes-requires c =
    let route = route_at c.args.interlocking.now.routes c.args.first in
    let sum = sum_by-cons length_mm route (routes_at c.args.interlocking.now.routes c.args.later.now) in
    let short = c.requires.below_2_47 in
    fit_all 0 route c.as_slice.result.now (c.as_slice.ensures ∙ ap (λ (r : Route). r.nodes) c.route_at-route.ensures) ((laid_out c.args.interlocking.now).each c.args.first).nodes (omega arith)

pub returns-clause-in_turn : goal.returns-clause-in_turn
returns-clause-in_turn c =
    let interlocking = c.args.interlocking.now in
    let all : c.push_path_nodes_after.new.path_nodes.items ≡ path_nodes (routes_at interlocking.routes (c.args.first ∷ c.args.later.now)) =
    first_and_later interlocking.routes c.args.first c.args.later.now _ _ _ _ _ c.new-path_nodes.ensures.items (c.as_slice.ensures ∙ ap (λ (r : Route). r.nodes) c.route_at-route.ensures)
    (c.length_mm.ensures ∙ ap length_mm c.route_at-route.ensures) c.in_ok-push_path_nodes.ensures c.in_ok-push_path_nodes_after.ensures in
    subst (ComeInTurn (λ (n : PathNode). n.event.place) (λ (n : PathNode). n.event.granted)) (sym all)
    (nodes_in_turn interlocking.design.station interlocking.routes (laid_out interlocking) (c.args.first ∷ c.args.later.now))

pub returns-clause-on_path : goal.returns-clause-on_path
returns-clause-on_path c =
    let interlocking = c.args.interlocking.now in
    let all : c.push_path_nodes_after.new.path_nodes.items ≡ path_nodes (routes_at interlocking.routes (c.args.first ∷ c.args.later.now)) =
    first_and_later interlocking.routes c.args.first c.args.later.now _ _ _ _ _ c.new-path_nodes.ensures.items (c.as_slice.ensures ∙ ap (λ (r : Route). r.nodes) c.route_at-route.ensures)
    (c.length_mm.ensures ∙ ap length_mm c.route_at-route.ensures) c.in_ok-push_path_nodes.ensures c.in_ok-push_path_nodes_after.ensures in
    subst (LieBelow (2 ^ 47)) (sym all)
    (nodes_below interlocking.design.station interlocking.routes (laid_out interlocking) (c.args.first ∷ c.args.later.now) c.requires.below_2_47)
