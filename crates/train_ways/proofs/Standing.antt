-- What holds of the routes and the trains of every interlocking.
use Rattle.std.proofs.Common.{◌≡◌, ◌≤◌, true, List, flat_map, length, inl, inr, subst, arith}
use Rattle.rail_base.specs.declared.station.Station.{Station}
use Rattle.rail_base.specs.declared.station.TrainNo.{TrainNo}
use Rattle.rail_base.specs.declared.route.Route.{Route}
use Rattle.rail_base.specs.declared.route.RouteNo.{RouteNo}
use Rattle.rail_base.specs.declared.route.Start.{Start}
use Rattle.rail_base.specs.Admission.{is_admitted}
use Rattle.rail_base.specs.Admitted.{Ranges}
use Rattle.rail_base.specs.Members.{In}
use Rattle.rail_base.specs.Routes.{IsRoute, no_route, route_at}
use Rattle.rail_base.specs.Stations.{IsTrain, train_of}
use Rattle.rail_spec.specs.Track.{Walk, Whole, RepeatsEdge, route_from, routes_of, starts, walks_from}
use Rattle.rail_base.proofs.Admitting.{admitted}
use Rattle.rail_base.proofs.Lists.{in_entry, in_flat_map_back}

one_node : (d : Station) (s : Start) (w : Walk) (r : Route) → In r (route_from d s w) → 1 ≤ length r.nodes
one_node d s (Whole path finish) r (inl e) = subst (λ (x : Route). 1 ≤ length x.nodes) e (omega arith)
one_node d s (Whole path finish) r (inr m) = absurd m
one_node d s (RepeatsEdge e) r m = absurd m

-- each route has the node at which it starts
pub has_nodes : (d : Station) (routes : List Route) → routes ≡ routes_of d → (r : RouteNo) → IsRoute routes r → 1 ≤ length (route_at routes r).nodes
has_nodes d routes table r known =
    let m = subst (In (route_at routes r)) table (in_entry no_route routes r.0 known.0 known.1) in
    let s = in_flat_map_back (λ s. flat_map (route_from d s) (walks_from d s)) (starts d) (route_at routes r) m in
    let w = in_flat_map_back (route_from d s.0) (walks_from d s.0) (route_at routes r) s.2 in
    one_node d s.0 w.0 (route_at routes r) w.2

-- each train has from 1 to 16 visits
pub visits_in_range : (d : Station) → is_admitted d ≡ true → (t : TrainNo) → IsTrain d t → Ranges 1 16 (length (train_of d t).visits)
visits_in_range d h t known = ((admitted d h).train t known).visits
