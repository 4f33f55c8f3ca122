-- Pairs of a route and a number of visits that a train has made before it. They are numbered from 0, by route and then by visits.
use Rattle.std.specs.Prelude.{ℕ, Bool, ◌+◌, ◌-◌, ◌*◌, ◌/◌, ◌%◌, List, [], ◌∷◌, map, filter, length, slice_index_or}
use Rattle.std.specs.Prelude.{if◌then◌else◌, ◌==◌}
use Rattle.rail_base.specs.declared.station.NodeNo.{NodeNo}
use Rattle.rail_base.specs.declared.route.Route.{Route}
use Rattle.rail_base.specs.declared.route.RouteNo.{RouteNo}
use Rattle.rail_base.specs.Numbering.{after_first, count_from, entry}
use Rattle.rail_spec.specs.Plans.{goes_on, has_node, route_at, route_numbers, starts_in}

-- ---- visits

-- how many visits are made at a node or before, where so many are made before it
abbrev pub made_at : List (List NodeNo) → NodeNo → ℕ → ℕ
made_at sets n j = if has_node (slice_index_or sets j []) n then j + 1 else j

-- the same after these nodes
abbrev pub made_on : List (List NodeNo) → List NodeNo → ℕ → ℕ
made_on sets [] j = j
made_on sets (n ∷ ns) j = made_on sets ns (made_at sets n j)

-- the same after a route, where so many are made at its start or before
abbrev pub made_behind : List (List NodeNo) → Route → ℕ → ℕ
made_behind sets r j = made_on sets (map (λ n. n.0) (after_first r.nodes)) j

-- ---- routes

-- the routes that go on where this one ends
abbrev pub onward : List Route → RouteNo → List RouteNo
onward routes r = filter (λ q. goes_on (route_at routes r).finish (route_at routes q).start) (route_numbers routes)

-- those of each route
abbrev pub all_onward : List Route → List (List RouteNo)
all_onward routes = map (onward routes) (route_numbers routes)

-- ---- pairs

-- the number of a pair, where a train has so many visits
abbrev pub pair_of : ℕ → RouteNo → ℕ → ℕ
pair_of width r j = (r.0 - 1) * width + (j - 1)

-- its route
abbrev pub route_of : ℕ → ℕ → RouteNo
route_of width p = record { 0 = p / width + 1 }

-- how many visits are made before the route
abbrev pub made_before : ℕ → ℕ → ℕ
made_before width p = p % width + 1

module _ (routes : List Route) (sets : List (List NodeNo)) where
  -- how many visits are made after the route of a pair
  abbrev pub made : ℕ → ℕ
  made p = made_behind sets (route_at routes (route_of (length sets) p)) (made_before (length sets) p)

  -- the pairs that can come next
  abbrev pub next_pairs : ℕ → List ℕ
  next_pairs p = map (λ q. pair_of (length sets) q (made p)) (onward routes (route_of (length sets) p))

  -- how many pairs there are
  abbrev pub many : ℕ
  many = length routes * length sets

  -- the visits that are made after each pair
  abbrev pub all_made : List ℕ
  all_made = map made (count_from 0 many)

  -- the pairs that can come next after each
  abbrev pub graph : List (List ℕ)
  graph = map next_pairs (count_from 0 many)

  -- the route is one with which a walk begins
  abbrev pub begins : RouteNo → Bool
  begins r = starts_in (entry [] sets 1) (route_at routes r).start

  -- the pairs with which a walk can begin
  abbrev pub starts : List ℕ
  starts = map (λ r. pair_of (length sets) r 1) (filter begins (route_numbers routes))

  -- the pairs after which all visits are made
  abbrev pub ends : List ℕ
  ends = filter (λ p. made p == length sets) (count_from 0 many)
