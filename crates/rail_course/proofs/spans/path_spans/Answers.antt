use Rattle.rail_course.proofs.Granting.{laid_out}
use Rattle.std.proofs.Common.{◌≡◌, ◌+◌, [], ◌∷◌, ◌++◌, drop, get_or, map, sum_by, All, ap, sym, ◌∙◌, subst, arith}
use Rattle.std.proofs.lemmas.Grind.{common_steps}
use Rattle.std.proofs.lemmas.List.Sums.{sum_by-cons}
use Rattle.rail_motion.specs.Track.{stretches_of}
use Rattle.rail_base.specs.declared.route.Route.{Route}
use Rattle.rail_base.specs.Stations.{length_of}
use Rattle.rail_spec.specs.Track.{edge_ends}
use Rattle.rail_spec.specs.Plans.{route_at, length_mm}
use Rattle.rail_spec.specs.Dispatches.{stretch}
use Rattle.rail_course.specs.Tracks.{path_length}
use Rattle.rail_course.specs.Tracks.{HasLimit, edges_of}
use Rattle.std.proofs.Math.ListN.{drop_of_length-le}
use Rattle.std.proofs.lemmas.List.{append-nil}
use Rattle.rail_course.proofs.Laying.{spans_step}
use Rattle.rail_course.proofs.Rises.{spans_rise}
use Rattle.rail_course.proofs.Granting.{edges_long}
use Rattle.rail_course.proofs.spans.path_spans.Goals as goal

pub push_spans-requires-clause-edges : goal.push_spans-requires-clause-edges
push_spans-requires-clause-edges c = subst (λ (r : Route). All (HasLimit c.args.interlocking.now.design.station) r.edges) (sym c.route_at-route.ensures) ((laid_out c.args.interlocking.now).each (get_or c.args.path.now c.loop-number.number-index (record { 0 = 0 }))).edges

pub push_spans-requires-clause-below_2_47 : goal.push_spans-requires-clause-below_2_47
push_spans-requires-clause-below_2_47 c =
    let number = get_or c.args.path.now c.loop-number.number-index (record { 0 = 0 }) in
    let rest = drop (c.loop-number.number-index + 1) c.args.path.now in
    let cut : drop c.loop-number.number-index c.args.path.now ≡ number ∷ rest = grind (arith, common_steps) in
    let whole = ap (λ (r : Route). sum_by (length_of c.args.interlocking.now.design.station) r.edges) c.route_at-route.ensures ∙ ((laid_out c.args.interlocking.now).each number).whole in
    let sum = sum_by-cons length_mm (route_at c.args.interlocking.now.routes number) (map (route_at c.args.interlocking.now.routes) rest) in
    let length_cut = ap (path_length c.args.interlocking.now.routes) cut in
    let short = c.loop-number.invariant.short in
    omega arith

pub loop-number-preserved : goal.loop-number-preserved
loop-number-preserved c =
    let number = get_or c.args.path.now c.loop-number.number-index (record { 0 = 0 }) in
    let rest = drop (c.loop-number.number-index + 1) c.args.path.now in
    let cut : drop c.loop-number.number-index c.args.path.now ≡ number ∷ rest = grind (arith, common_steps) in
    let size : c.length_mm-offset.result ≡ length_mm (route_at c.args.interlocking.now.routes number) = c.length_mm-offset.ensures ∙ ap length_mm c.route_at-route.ensures in
    let made = subst (λ r. stretches_of c.push_spans.new.spans.items ≡ stretches_of c.loop-number.spans.items ++ map (stretch c.args.interlocking.now.design.station) (edge_ends c.args.interlocking.now.design.station c.loop-number.offset r.edges)) c.route_at-route.ensures c.in_ok-push_spans.ensures in
    let sum = sum_by-cons length_mm (route_at c.args.interlocking.now.routes number) (map (route_at c.args.interlocking.now.routes) rest) in
    let length_cut = ap (path_length c.args.interlocking.now.routes) cut in
    record {
      short = omega arith;
      left = subst (λ n. stretches_of c.push_spans.new.spans.items ++ map (stretch c.args.interlocking.now.design.station) (edge_ends c.args.interlocking.now.design.station (c.loop-number.offset + n) (edges_of c.args.interlocking.now.routes rest)) ≡ map (stretch c.args.interlocking.now.design.station) (edge_ends c.args.interlocking.now.design.station 0 (edges_of c.args.interlocking.now.routes c.args.path.now))) (sym size)
          (spans_step c.args.interlocking.now.design.station c.args.interlocking.now.routes (stretches_of c.loop-number.spans.items) (stretches_of c.push_spans.new.spans.items) _ c.loop-number.offset number rest made (((laid_out c.args.interlocking.now).each number).whole)
          (ap (λ ns. stretches_of c.loop-number.spans.items ++ map (stretch c.args.interlocking.now.design.station) (edge_ends c.args.interlocking.now.design.station c.loop-number.offset (edges_of c.args.interlocking.now.routes ns))) (sym cut) ∙ c.loop-number.invariant.left));
    }

pub returns-clause-rising : goal.returns-clause-rising
returns-clause-rising c =
    let none : drop c.loop-number.number-index c.args.path.now ≡ [] = drop_of_length-le c.args.path.now c.loop-number-test.false in
    let left = subst (λ ns. stretches_of c.loop-number.spans.items ++ map (stretch c.args.interlocking.now.design.station) (edge_ends c.args.interlocking.now.design.station c.loop-number.offset (edges_of c.args.interlocking.now.routes ns)) ≡ map (stretch c.args.interlocking.now.design.station) (edge_ends c.args.interlocking.now.design.station 0 (edges_of c.args.interlocking.now.routes c.args.path.now))) none c.loop-number.invariant.left in
    spans_rise c.args.interlocking.now.design.station c.loop-number.spans.items (edges_of c.args.interlocking.now.routes c.args.path.now) (edges_long c.args.interlocking.now.design.station c.args.interlocking.now.routes c.args.path.now (laid_out c.args.interlocking.now)) (sym (append-nil (stretches_of c.loop-number.spans.items)) ∙ left)
