-- Spans of routes in a row.
use Rattle.std.proofs.Common.{◌≡◌, ℕ, ◌+◌, List, ◌∷◌, ◌++◌, map, sum_by, sym, ap, ◌∙◌, append_assoc}
use Rattle.std.proofs.lemmas.List.{map-append}
use Rattle.rail_base.specs.declared.station.Station.{Station}
use Rattle.rail_base.specs.declared.route.Route.{Route}
use Rattle.rail_base.specs.declared.route.RouteNo.{RouteNo}
use Rattle.rail_spec.specs.Motion.{SpanSeen}
use Rattle.rail_spec.specs.Track.{edge_ends}
use Rattle.rail_base.specs.Stations.{length_of}
use Rattle.rail_spec.specs.Plans.{route_at, length_mm}
use Rattle.rail_spec.specs.Dispatches.{stretch}
use Rattle.rail_laws.proofs.UnderWay.{edge_ends-append}
use Rattle.rail_course.specs.Tracks.{edges_of}

-- the spans of one more route
pub spans_step : (d : Station) (routes : List Route) (old new all : List SpanSeen) (o : ℕ) (r : RouteNo) (rest : List RouteNo)
    → new ≡ old ++ map (stretch d) (edge_ends d o (route_at routes r).edges) → sum_by (length_of d) (route_at routes r).edges ≡ length_mm (route_at routes r)
    → old ++ map (stretch d) (edge_ends d o (edges_of routes (r ∷ rest))) ≡ all
    → new ++ map (stretch d) (edge_ends d (o + length_mm (route_at routes r)) (edges_of routes rest)) ≡ all
spans_step d routes old new all o r rest made whole before =
    let first = map (stretch d) (edge_ends d o (route_at routes r).edges) in
    let split = edge_ends-append d o (route_at routes r).edges (edges_of routes rest) in
    let second = map (stretch d) (edge_ends d (o + length_mm (route_at routes r)) (edges_of routes rest)) in
    ap (λ zs. zs ++ second) made ∙ append_assoc old first second
    ∙ ap (λ zs. old ++ zs) (ap (λ n. first ++ map (stretch d) (edge_ends d (o + n) (edges_of routes rest))) (sym whole) ∙ sym (map-append (stretch d) (edge_ends d o (route_at routes r).edges) (edge_ends d (o + sum_by (length_of d) (route_at routes r).edges) (edges_of routes rest))) ∙ ap (map (stretch d)) (sym split))
    ∙ before
