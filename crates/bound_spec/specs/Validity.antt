-- Which certificates are valid, and the first reason against one that is not.
use Rattle.std.specs.Prelude.{ℕ, ◌+◌, ◌*◌, ◌/◌, min, Bool, true, false, not, ◌&&◌, ◌||◌, ◌==◌, if◌then◌else◌, List, [], ◌∷◌, map, length, nat_le, nat_lt, Option, None, Some, is_none, sum_by, ◌≡◌}
use Rattle.std.specs.List.{list_any, list_all}
use Rattle.rail_base.specs.declared.station.Station.{Station}
use Rattle.rail_base.specs.declared.station.TrainNo.{TrainNo}
use Rattle.rail_base.specs.declared.route.Route.{Route}
use Rattle.rail_base.specs.declared.route.RouteNo.{RouteNo}
use Rattle.rail_base.specs.declared.plan.Command.{Command}
use Rattle.rail_base.specs.declared.route.Finish.{Finish}
use Rattle.rail_base.specs.declared.route.Finish.TheVariants as finish
use Rattle.rail_base.specs.Members.{all_neighbors}
use Rattle.rail_base.specs.Admission.{is_from, is_visit}
use Rattle.rail_base.specs.Stations.{horizon, within_of}
use Rattle.rail_spec.specs.Plans.{route_at, length_mm, is_train, is_route, goes_on, has_section, own_sections, contend, exits, route_numbers, all_commands}
use Rattle.rail_spec.specs.Feasible.{is_of}
use Rattle.rail_spec.specs.Requirements.{most_ticks, visit_numbers}
use Rattle.cone_spec.specs.Cones.{has_route, named}
use Rattle.cone_spec.specs.Validity as cone
use Rattle.cone_spec.specs.Validity.{from_boundary, free_granted, holder_fits, cone_visit}
use Rattle.bound_spec.specs.declared.Requirement.{Requirement}
use Rattle.bound_spec.specs.declared.Requirement.TheVariants as requirement
use Rattle.bound_spec.specs.declared.Origin.{Origin}
use Rattle.bound_spec.specs.declared.Origin.TheVariants as origin
use Rattle.bound_spec.specs.declared.Place.{Place}
use Rattle.bound_spec.specs.declared.Place.TheVariants as place
use Rattle.bound_spec.specs.declared.Leg.{Leg}
use Rattle.bound_spec.specs.declared.Bound.{Bound}
use Rattle.bound_spec.specs.declared.BoundFault.{BoundFault}
use Rattle.bound_spec.specs.declared.BoundFault.TheVariants as fault
use Rattle.free_spec.specs.Legs.{following}
use Rattle.free_spec.specs.Legs.{Leg as Track}
use Rattle.bound_spec.specs.Walks.{walks}
use Rattle.bound_spec.specs.Rides.{release_place, chain_ticks, chain_ticks_from, wait_ticks, first_place}
use Rattle.bound_spec.specs.Certificates.{VisitOf, routes_of_place, kept_out, first_of_leg, last_of_leg, ride_of, nodes_of_visit, visit_offset, visit_from, visit_to, train_to, target, visit_place, cone_of}
use Rattle.bound_spec.specs.Clauses.{is_named, is_kept_out, is_before, is_kept_behind, clause_of_bound}
use Rattle.rail_spec.specs.Track.{routes_of}
use Rattle.rail_spec.specs.Places.{may_visit}
use Rattle.cone_spec.specs.Clauses.{is_false_of}
pub use Rattle.rail_spec.specs.Track.{is_empty}

-- in increasing order
abbrev pub are_increasing : List RouteNo → Bool
are_increasing rs = all_neighbors (λ r q. nat_lt r.0 q.0) rs

-- the commands of a chain stand in steps one after another, of which no plan has more
abbrev pub most_places : ℕ
most_places = 64

-- how many places the legs have
abbrev pub places_of : List Leg → ℕ
places_of legs = sum_by (λ (l : Leg). length l.places) legs

-- of a leg with more choices of one route for each place, and for the place that waits for it, nothing is shown
abbrev pub most_choices : ℕ
most_choices = 4096

-- each stretch of each track is looked at in each tick; of a certificate that asks for more looks fewer ticks are known
abbrev pub most_looks : ℕ
most_looks = 33554432

-- how many stretches a track has
abbrev pub stretches_in : List Route → ℕ
stretches_in rs = sum_by (λ (r : Route). length r.edges) rs

-- how many choices of one route for each place there are
abbrev pub choices : List Place → ℕ
choices [] = 1
choices (p ∷ ps) = length (routes_of_place p) * choices ps

-- a leg without places
abbrev pub no_leg : Leg
no_leg = record { train = record { 0 = 0 }; places = [] }

-- the first leg
abbrev pub first_leg : List Leg → Leg
first_leg [] = no_leg
first_leg (l ∷ ls) = l

-- the last leg
abbrev pub last_leg : List Leg → Leg
last_leg [] = no_leg
last_leg (l ∷ []) = l
last_leg (l ∷ m ∷ ls) = last_leg (m ∷ ls)

-- the legs but the last
abbrev pub legs_before_last : List Leg → List Leg
legs_before_last [] = []
legs_before_last (l ∷ []) = []
legs_before_last (l ∷ m ∷ ls) = l ∷ legs_before_last (m ∷ ls)

-- a route may go on where the one with this finish ends
abbrev pub ends_at_signal : Finish → Bool
ends_at_signal (finish.Signal s) = true
ends_at_signal (finish.Exit n) = false
ends_at_signal (finish.DeadEnd n) = false

-- the first test that fails, as a reason
abbrev pub first_fault : Bool → Bool → Bool → Option BoundFault
first_fault false covered origin_shows = Some fault.BoundNotInDesign
first_fault true false origin_shows = Some fault.PlaceNotCovered
first_fault true true false = Some fault.BoundNotShown
first_fault true true true = None

module _ (d : Station) (routes : List Route) where
  -- a route has this number
  abbrev pub is_numbered : RouteNo → Bool
  is_numbered r = is_from 1 (length routes) r.0

  -- the place names routes of the design, each once
  abbrev pub place_in_design : Place → Bool
  place_in_design (place.Named r) = is_numbered r
  place_in_design (place.Among rs without) =
      not (is_empty rs) && list_all is_numbered rs && are_increasing rs
      && list_all is_numbered without && are_increasing without

  -- the leg is of a train, and has places
  abbrev pub leg_in_design : Leg → Bool
  leg_in_design l = is_from 1 (length d.trains) l.train.0 && not (is_empty l.places)
      && list_all place_in_design l.places

  -- the commands contend over an own section of the first: a later second one waits until the first's tail has left it
  abbrev pub contend_over_own : Command → Command → Bool
  contend_over_own e c = contend routes e c
      && list_any (has_section (route_at routes c.route)) (own_sections (route_at routes e.route))

  -- the command contends so with each that gives the train a route of the place
  abbrev pub contends_with : Command → TrainNo → Place → Bool
  contends_with e t p = list_all (λ q. contend_over_own e (record { train = t; route = q })) (routes_of_place p)

  -- whatever the routes are, the last command of the first leg contends so with the first of the second
  abbrev pub contend_where_they_meet : Leg → Leg → Bool
  contend_where_they_meet l m =
      list_all (λ r. contends_with (record { train = l.train; route = r }) m.train (first_of_leg m))
      (routes_of_place (last_of_leg l))

  -- there are not too many choices on each leg, with those of the first place of the leg that waits for it
  abbrev pub are_few_choices : List Leg → Bool
  are_few_choices [] = true
  are_few_choices (l ∷ []) = nat_le (choices l.places) most_choices
  are_few_choices (l ∷ m ∷ ls) =
      nat_le (choices l.places * length (routes_of_place (first_of_leg m))) most_choices && are_few_choices (m ∷ ls)

  -- the design has what is required
  abbrev pub requirement_in_design : Requirement → Bool
  requirement_in_design (requirement.Within w) = is_from 1 (length d.withins) w
  requirement_in_design (requirement.Order o) = is_from 1 (length d.orders) o
  requirement_in_design (requirement.Visit t k) = is_visit d t k
  requirement_in_design (requirement.Grant c) = is_of d routes c

  -- each route that passes the test is one of the place, or kept out
  abbrev pub covers : (RouteNo → Bool) → Place → Bool
  covers test p =
      list_all (λ r. not (test r) || has_route (routes_of_place p) r || has_route (kept_out p) r) (route_numbers routes)

  -- a visit may be made on the route
  abbrev pub can_visit : TrainNo → ℕ → RouteNo → Bool
  can_visit t k r = may_visit k (nodes_of_visit d t k) (route_at routes r)

  -- the route starts at a boundary
  abbrev pub is_first_route : RouteNo → Bool
  is_first_route r = from_boundary (route_at routes r ∷ [])

  -- the one route goes on where the other ends
  abbrev pub goes_on_to : RouteNo → RouteNo → Bool
  goes_on_to r q = goes_on (route_at routes r).finish (route_at routes q).start

  -- a train that uses a route of the second place has used one of the first just before
  abbrev pub comes_before : Place → Place → Bool
  comes_before (place.Named r) q = list_all (goes_on_to r) (routes_of_place q)
  comes_before (place.Among rs without) q =
      list_all (λ s. not (is_first_route s)) (routes_of_place q)
      && covers (λ r. list_any (goes_on_to r) (routes_of_place q)) (place.Among rs without)

  -- a train uses a route of the place: the named one, or else one of those on which it makes some visit
  abbrev pub is_used : TrainNo → Place → Bool
  is_used t (place.Named r) = true
  is_used t (place.Among rs without) =
      list_any (λ k. covers (can_visit t k) (place.Among rs without)) (visit_numbers d t)

  -- a train that uses both routes uses the first before the second
  abbrev pub may_be_earlier : RouteNo → RouteNo → Bool
  may_be_earlier q r = ends_at_signal (route_at routes q).finish && not (is_first_route r)

  -- a visit is not made before a route of the place: on none but the named one that may come earlier, or else on one of the place
  abbrev pub is_visited : TrainNo → ℕ → Place → Bool
  is_visited t k (place.Named r) =
      list_all (λ q. is_route q r || not (can_visit t k q) || not (may_be_earlier q r)) (route_numbers routes)
  is_visited t k (place.Among rs without) = covers (can_visit t k) (place.Among rs without)

  -- the leg is one place, that names the route
  abbrev pub is_just : RouteNo → List Place → Bool
  is_just r (place.Named q ∷ []) = is_route q r
  is_just r _ = false

  -- what is required can't happen before the leg's train is on its last place
  abbrev pub reaches_target : Requirement → Option VisitOf → Leg → Bool
  reaches_target (requirement.Grant c) v l = is_just c.route l.places
  reaches_target q None l = false
  reaches_target q (Some v) l = is_visited v.train v.number (last_of_leg l)

  -- the route exits, and the visit is made at its end
  abbrev pub makes_at_end : VisitOf → Route → Bool
  makes_at_end v r = exits r && (visit_offset d v.train v.number r == length_mm r)

  -- the visit can only be made where the path ends
  abbrev pub is_made_at_end : VisitOf → Bool
  is_made_at_end v =
      list_all (λ r. not (can_visit v.train v.number r) || makes_at_end v (route_at routes r)) (route_numbers routes)

  -- a train that begins a leg with a route of the place makes the visit no later than where it can on that route
  abbrev pub begins_with : VisitOf → Place → Bool
  begins_with v p =
      if nat_le v.number 1 then list_all is_first_route (routes_of_place p)
      else list_all (can_visit v.train v.number) (routes_of_place p) && (v.number == 2 || is_made_at_end v)

  -- on a walk of the leg the place of the one visit is not past where the walk leads: to what the next leg waits for, or to the other visit
  abbrev pub is_ahead : VisitOf → VisitOf → Leg → List Leg → List Route → Bool
  is_ahead from to l [] rs = nat_le (visit_place d from rs) (target d to rs)
  is_ahead from to l (m ∷ ls) rs =
      list_all (λ s. nat_le (visit_place d from rs) (release_place d l.train rs s)) (first_place (ride_of routes m))

  -- so on all walks of the first leg
  abbrev pub are_ahead : VisitOf → VisitOf → List Leg → Bool
  are_ahead from to [] = false
  are_ahead from to (l ∷ ls) = list_all (is_ahead from to l ls) (walks (ride_of routes l).places)

  -- ---- how long the tracks of the legs are followed

  -- how many stretches the tracks of a walk have: by itself, and with each route that goes on where it ends
  abbrev pub stretches_of_walk : List Route → ℕ
  stretches_of_walk rs = stretches_in rs + sum_by (λ (l : Track). stretches_in l.routes) (following routes rs true)

  -- those of all walks of a leg, for each of the places to which they lead
  abbrev pub stretches_of_leg : Leg → ℕ → ℕ
  stretches_of_leg l places = sum_by stretches_of_walk (walks (ride_of routes l).places) * places

  -- those of all legs: each leads to what the routes of the next leg's first place wait for, and the last to one place
  abbrev pub stretches_of : List Leg → ℕ
  stretches_of [] = 0
  stretches_of (l ∷ []) = stretches_of_leg l 1
  stretches_of (l ∷ m ∷ ls) = stretches_of_leg l (length (routes_of_place (first_of_leg m))) + stretches_of (m ∷ ls)

  -- each stretch is looked at in so many ticks at the most, all of them in no more than most_looks
  abbrev pub followed : List Leg → ℕ
  followed ls = min (horizon d) (most_looks / stretches_of ls)

  module _ (h : ℕ) where
    -- the least ticks, h of a leg at the most, from the grant of the first leg's first command to a visit, or to the grant of the last leg's first
    abbrev pub ticks_to : Option VisitOf → List Leg → ℕ
    ticks_to v [] = 0
    ticks_to None (l ∷ ls) = wait_ticks d routes h (ride_of routes l) (map (ride_of routes) ls)
    ticks_to (Some v) (l ∷ ls) = chain_ticks d routes h (ride_of routes l) (map (ride_of routes) ls) (target d v)

    -- the least ticks from a visit on the first leg's first route to another
    abbrev pub ticks_from_visit : VisitOf → VisitOf → List Leg → ℕ
    ticks_from_visit from to [] = 0
    ticks_from_visit from to (l ∷ ls) =
        chain_ticks_from d routes h (visit_place d from) (ride_of routes l) (map (ride_of routes) ls) (target d to)

    -- the least ticks from the one visit to the other are such: the first visit is made as its train's first command is granted
    abbrev pub passes_between : VisitOf → VisitOf → List Leg → (ℕ → Bool) → Bool
    passes_between from to ls test =
        if nat_le from.number 1 then test (ticks_to (Some to) ls)
        else are_ahead from to ls && test (ticks_from_visit from to ls)

  -- so many ticks from the one visit to the other are too many
  abbrev pub is_too_long : Requirement → ℕ → Bool
  is_too_long (requirement.Within w) c = nat_lt (most_ticks d (within_of d w)) c
  is_too_long (requirement.Order o) c = true
  is_too_long (requirement.Visit t k) c = false
  is_too_long (requirement.Grant q) c = false

  -- where the one visit is made at tick k, the other is too late after so many ticks of the run
  abbrev pub is_too_late : Requirement → ℕ → ℕ → Bool
  is_too_late (requirement.Within w) k c = nat_lt (k + most_ticks d (within_of d w)) c
  is_too_late (requirement.Order o) k c = nat_le k c
  is_too_late (requirement.Visit t v) k c = false
  is_too_late (requirement.Grant q) k c = false

  module _ (b : Bound) where
    -- the origin goes with the requirement: two visits have one from which ticks are counted
    abbrev pub origin_in_design : Origin → Option VisitOf → Bool
    origin_in_design origin.Visit (Some v) = is_train (first_leg b.legs).train v.train
    origin_in_design origin.FirstTick (Some v) = v.number == 1
    origin_in_design (origin.Cone k c) (Some v) = cone.in_design d routes (cone_of b)
    origin_in_design origin.Start (Some v) = false
    origin_in_design origin.Start None = true
    origin_in_design origin.Visit None = false
    origin_in_design origin.FirstTick None = false
    origin_in_design (origin.Cone k c) None = false

    -- nothing is taken for granted both ways
    abbrev pub is_consistent : Bool
    is_consistent =
        let commands = all_commands d routes in
        list_all (λ c. not (is_named d routes b c && is_kept_out d routes b c)) commands
        && list_all (λ e. list_all (λ c. not (is_before d routes b e c && is_kept_behind d routes b e c)) commands)
        commands

    -- ---- the first reason: bound not in design

    -- what it names is there, and the legs can wait for each other
    abbrev pub names_design : Bool
    names_design = requirement_in_design b.requirement && not (is_empty b.legs) && list_all leg_in_design b.legs
        && nat_le (places_of b.legs) most_places && are_few_choices b.legs
        && all_neighbors contend_where_they_meet b.legs
        && is_train (last_leg b.legs).train (train_to d b.requirement)
        && origin_in_design b.origin (visit_from d b.requirement)

    abbrev pub in_design : Bool
    in_design = names_design && is_consistent

    -- ---- the second: place not covered

    -- the first leg begins on a route of the visit from which the ticks are counted
    abbrev pub origin_covered : Origin → Option VisitOf → Bool
    origin_covered origin.Visit (Some v) = begins_with v (first_of_leg (first_leg b.legs))
    origin_covered origin.Visit None = true
    origin_covered origin.Start v = true
    origin_covered origin.FirstTick v = true
    origin_covered (origin.Cone k c) v = true

    abbrev pub covered : Bool
    covered = list_all (λ l. all_neighbors comes_before l.places) b.legs
        && list_all (λ l. is_used l.train (last_of_leg l)) (legs_before_last b.legs)
        && reaches_target b.requirement (visit_to d b.requirement) (last_leg b.legs)
        && origin_covered b.origin (visit_from d b.requirement)

    -- ---- the third: bound not shown

    -- the cone makes the visit at this tick
    abbrev pub is_made_at : ℕ → Option ℕ → Bool
    is_made_at k (Some a) = k == a
    is_made_at k None = false

    -- the cone is one by whose run the visit is made at this tick
    abbrev pub cone_shows : ℕ → VisitOf → Bool
    cone_shows k v = list_all (free_granted d routes (cone_of b)) (cone_of b).trains
        && list_all (λ c. holder_fits d routes (cone_of b) c c.holder) (cone_of b).trains
        && is_made_at k (cone_visit d routes (cone_of b) (named (cone_of b) v.train).horizon v.train v.number)

    -- by the origin the ticks from the one visit to the other, or from the start of the run, are too many
    abbrev pub origin_shows : Origin → Option VisitOf → Option VisitOf → Bool
    origin_shows origin.Visit (Some from) (Some to) =
        passes_between (followed b.legs) from to b.legs (is_too_long b.requirement)
    origin_shows origin.FirstTick (Some from) to = is_too_long b.requirement (ticks_to (followed b.legs) to b.legs)
    origin_shows origin.Start None to = nat_lt (horizon d) (1 + ticks_to (followed b.legs) to b.legs)
    origin_shows (origin.Cone k c) (Some from) to =
        cone_shows k from && is_too_late b.requirement k (1 + ticks_to (followed b.legs) to b.legs)
    origin_shows origin.Visit (Some from) None = false
    origin_shows origin.Visit None to = false
    origin_shows origin.FirstTick None to = false
    origin_shows origin.Start (Some from) to = false
    origin_shows (origin.Cone k c) None to = false

    abbrev pub shows_failure : Bool
    shows_failure = nat_le (stretches_of b.legs) most_looks
        && origin_shows b.origin (visit_from d b.requirement) (visit_to d b.requirement)

    -- the first reason that holds
    abbrev pub fault_of : Option BoundFault
    fault_of = first_fault in_design covered shows_failure

    -- no reason holds against the certificate
    abbrev pub is_valid_bound : Bool
    is_valid_bound = is_none fault_of

-- of the clause of each valid bound a literal is true of the plan
abbrev pub ValidBoundsHold : Station → ℕ → List (List Command) → Type 0
ValidBoundsHold d n plan = (b : Bound) → is_valid_bound d (routes_of d) b ≡ true
    → is_false_of plan (clause_of_bound d (routes_of d) b) ≡ false
