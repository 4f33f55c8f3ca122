-- Whether places are covered, held against an interlocking.
use Rattle.std.specs.Prelude.{ℕ, Bool, not, ◌&&◌, ◌||◌, ◌==◌, List}
use Rattle.std.specs.List.{list_all, list_any}
use Rattle.rail_base.specs.declared.route.RouteNo.{RouteNo}
use Rattle.rail_base.specs.declared.station.NodeNo.{NodeNo}
use Rattle.rail_base.specs.declared.station.TrainNo.{TrainNo}
use Rattle.rail_base.specs.Numbering.{after_first}
use Rattle.rail_base.specs.Members.{all_neighbors}
use Rattle.rail_spec.specs.Plans.{exits, is_route, length_mm, route_at, route_numbers}
use Rattle.rail_spec.specs.Places.{may_visit}
use Rattle.interlocking.specs.declared.railway.Interlocking.{Interlocking}
use Rattle.bound_spec.specs.declared.Place.{Place}
use Rattle.bound_spec.specs.declared.Place.TheVariants as place
use Rattle.bound_spec.specs.declared.Bound.{Bound}
use Rattle.bound_spec.specs.declared.Leg.{Leg}
use Rattle.bound_spec.specs.declared.Requirement.{Requirement}
use Rattle.bound_spec.specs.Certificates.{first_in, last_of_leg, visit_from, visit_to}
use Rattle.bound_spec.specs.Validity.{begins_with, comes_before, covers, goes_on_to, is_first_route, is_used}
use Rattle.bound_spec.specs.Validity.{is_visited, legs_before_last, may_be_earlier, origin_covered, reaches_target}

module _ (i : Interlocking) where
  -- a train that uses a route of the second place has used one of the first just before
  abbrev pub comes_before_in : Place → Place → Bool
  comes_before_in = comes_before i.design.station i.routes

  -- all of the next routes go on where the route ends
  abbrev pub follows_named : RouteNo → List RouteNo → Bool
  follows_named r next = list_all (goes_on_to i.design.station i.routes r) next

  -- none of the next routes is the first of a path, and all that lead to one of them are of these or kept out
  abbrev pub follows_among : List RouteNo → List RouteNo → List RouteNo → Bool
  follows_among own kept next = list_all (λ s. not (is_first_route i.design.station i.routes s)) next
      && covers i.design.station i.routes (λ r. list_any (goes_on_to i.design.station i.routes r) next)
      (place.Among own kept)

  -- on each leg each place comes before the next
  abbrev pub legs_follow : List Leg → Bool
  legs_follow ls = list_all (λ (l : Leg). all_neighbors comes_before_in l.places) ls

  -- a train uses a route of the place
  abbrev pub is_used_in : TrainNo → Place → Bool
  is_used_in = is_used i.design.station i.routes

  -- some visit of the train can be made on none but these routes and those that are kept out
  abbrev pub is_used_among : TrainNo → List RouteNo → List RouteNo → Bool
  is_used_among t own kept = is_used_in t (place.Among own kept)

  -- a visit is not made before a route of the place
  abbrev pub is_visited_in : TrainNo → ℕ → Place → Bool
  is_visited_in = is_visited i.design.station i.routes

  -- a visit with these nodes can be made on none but these routes and those that are kept out
  abbrev pub is_visited_among : ℕ → List NodeNo → List RouteNo → List RouteNo → Bool
  is_visited_among k nodes own kept =
      covers i.design.station i.routes (λ r. may_visit k nodes (route_at i.routes r)) (place.Among own kept)

  -- it can be made on no route that may come earlier than this one
  abbrev pub is_visited_named : ℕ → List NodeNo → RouteNo → Bool
  is_visited_named k nodes r = list_all (λ q. is_route q r || not (may_visit k nodes (route_at i.routes q))
      || not (may_be_earlier i.design.station i.routes q r)) (route_numbers i.routes)

  -- the leg's train uses a route of its last place
  abbrev pub is_used_last : Leg → Bool
  is_used_last l = is_used_in l.train (last_of_leg l)

  -- it is so with each leg before the last
  abbrev pub uses_before_last : List Leg → Bool
  uses_before_last ls = list_all is_used_last (legs_before_last ls)

  -- what is required can't happen before the leg's train is on its last place
  abbrev pub reaches_in : Requirement → Leg → Bool
  reaches_in q = reaches_target i.design.station i.routes q (visit_to i.design.station q)

  -- a train that begins a leg with a route of the place makes the visit no later than where it can on that route
  abbrev pub begins_at : TrainNo → ℕ → Place → Bool
  begins_at t k = begins_with i.design.station i.routes (record { train = t; number = k })

  -- a visit with these nodes can only be made at the end of a route that exits
  abbrev pub is_made_where_it_exits : ℕ → List NodeNo → Bool
  is_made_where_it_exits k nodes = list_all (λ q. let r = route_at i.routes q in
      not (may_visit k nodes r) || (exits r && (first_in nodes (after_first r.nodes) == length_mm r)))
      (route_numbers i.routes)

  -- the first leg begins on a route of the visit from which the ticks are counted
  abbrev pub origin_covered_in : Bound → Bool
  origin_covered_in b =
      origin_covered i.design.station i.routes b b.origin (visit_from i.design.station b.requirement)

  -- each place comes before the next one of its leg, and each leg before the last uses its last place
  abbrev pub legs_covered : List Leg → Bool
  legs_covered ls = legs_follow ls && uses_before_last ls
