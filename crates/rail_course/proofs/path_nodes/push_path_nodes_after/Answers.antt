use Rattle.rail_course.proofs.Granting.{laid_out}
use Rattle.std.proofs.Common.{◌≡◌, ◌+◌, ◌∷◌, ◌++◌, drop, get_or, map, ap, sym, ◌∙◌, subst, arith}
use Rattle.std.proofs.lemmas.Grind.{common_steps}
use Rattle.std.proofs.lemmas.List.Sums.{sum_by-cons}
use Rattle.rail_base.specs.declared.route.Route.{Route}
use Rattle.rail_base.specs.Numbering.{after_first}
use Rattle.rail_base.specs.Routes.{route_at, length_mm}
use Rattle.rail_course.specs.Tracks.{routes_at, path_length}
use Rattle.rail_course.specs.PathNodes.{path_node_at}
use Rattle.rail_course.proofs.Walking.{fit_after, path_nodes_step}
use Rattle.rail_course.proofs.path_nodes.push_path_nodes_after.Goals as goal
use Rattle.rail_spec.specs.Places.{path_nodes_after}

pub push_path_nodes-requires : goal.push_path_nodes-requires
push_path_nodes-requires c =
    let number = get_or c.args.path.now c.loop-number.number-index (record { 0 = 0 }) in
    let rest = drop (c.loop-number.number-index + 1) c.args.path.now in
    let cut : drop c.loop-number.number-index c.args.path.now ≡ number ∷ rest = grind (arith, common_steps) in
    let route = route_at c.args.interlocking.now.routes number in
    let sum = sum_by-cons length_mm route (routes_at c.args.interlocking.now.routes rest) in
    let length_cut = ap (path_length c.args.interlocking.now.routes) cut in
    let short = c.loop-number.invariant.short in
    fit_after c.loop-number.offset route c.after_first.result.now (c.after_first.ensures ∙ ap after_first (c.as_slice.ensures ∙ ap (λ (r : Route). r.nodes) c.route_at-route.ensures)) ((laid_out c.args.interlocking.now).each number).nodes (omega arith)

pub loop-number-preserved : goal.loop-number-preserved
loop-number-preserved c =
    let number = get_or c.args.path.now c.loop-number.number-index (record { 0 = 0 }) in
    let rest = drop (c.loop-number.number-index + 1) c.args.path.now in
    let cut : drop c.loop-number.number-index c.args.path.now ≡ number ∷ rest = grind (arith, common_steps) in
    let route = route_at c.args.interlocking.now.routes number in
    let size : c.length_mm-offset.result ≡ length_mm route = c.length_mm-offset.ensures ∙ ap length_mm c.route_at-route.ensures in
    let nodes : c.after_first.result.now ≡ after_first route.nodes = c.after_first.ensures ∙ ap after_first (c.as_slice.ensures ∙ ap (λ (r : Route). r.nodes) c.route_at-route.ensures) in
    let made = subst (λ ns. c.push_path_nodes.new.path_nodes.items ≡ c.loop-number.path_nodes.items ++ map (path_node_at c.loop-number.offset c.loop-number.command) ns) nodes c.in_ok-push_path_nodes.ensures in
    let sum = sum_by-cons length_mm route (routes_at c.args.interlocking.now.routes rest) in
    let length_cut = ap (path_length c.args.interlocking.now.routes) cut in
    record {
      short = omega arith;
      number = omega arith;
      left = subst (λ n. c.push_path_nodes.new.path_nodes.items ++ path_nodes_after (c.loop-number.offset + n) (c.loop-number.command + 1) (routes_at c.args.interlocking.now.routes rest) ≡ c.args.path_nodes.now.items ++ path_nodes_after c.args.begin 2 (routes_at c.args.interlocking.now.routes c.args.path.now)) (sym size)
          (path_nodes_step c.args.interlocking.now.routes c.loop-number.path_nodes.items c.push_path_nodes.new.path_nodes.items _ c.loop-number.offset c.loop-number.command number rest made
          (ap (λ ns. c.loop-number.path_nodes.items ++ path_nodes_after c.loop-number.offset c.loop-number.command (routes_at c.args.interlocking.now.routes ns)) (sym cut) ∙ c.loop-number.invariant.left));
    }
