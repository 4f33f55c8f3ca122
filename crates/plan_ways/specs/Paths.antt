-- The ways that a plan can give a train, and the paths by which they are listed.
use Rattle.std.specs.Prelude.{◌≡◌, ◌↔◌, ◌⊎◌, ℕ, zero, suc, ◌≤◌, ◌<◌, Bool, true, List, [], ◌∷◌, ◌++◌, map, filter, flat_map}
use Rattle.std.specs.Prelude.{length, sum_by, Option, None, Some, is_some}
use Rattle.std.specs.List.{list_all}
use Rattle.rail_base.specs.declared.station.Station.{Station}
use Rattle.rail_base.specs.declared.station.TrainNo.{TrainNo}
use Rattle.rail_base.specs.declared.route.Route.{Route}
use Rattle.rail_base.specs.declared.route.RouteNo.{RouteNo}
use Rattle.rail_base.specs.Members.{In}
use Rattle.rail_base.specs.Stations.{train_of}
use Rattle.rail_plan.specs.WellFormed.{may_follow}
use Rattle.rail_spec.specs.Plans.{is_path, route_at}
use Rattle.way_spec.specs.Ways.{AreLive, IsWay, visits_along}

-- how many nodes the routes of a way have
abbrev pub nodes_of : List Route → List RouteNo → ℕ
nodes_of routes rs = sum_by (λ r. length (route_at routes r).nodes) rs

module _ (d : Station) (routes : List Route) (t : TrainNo) where
  -- a way that a plan can give the train: no two of its routes start at one place or end at one signal, and it has no more
  -- routes than a plan may have steps
  pub record IsPlanWay (rs : List RouteNo) : Type 0 where
    pub way : IsWay d routes t rs
    pub path : is_path (train_of d t) (map (route_at routes) rs) ≡ true
    pub few : length rs ≤ 256

  -- these are all of them
  abbrev pub ArePlanWays : List (List RouteNo) → Type 0
  ArePlanWays ways = (rs : List RouteNo) → In rs ways ↔ IsPlanWay rs

  -- ---- paths, by how many routes they have

  -- a path may go on with the route
  abbrev pub may_go_on_with : List RouteNo → RouteNo → Bool
  may_go_on_with rs r = may_follow (train_of d t) (map (route_at routes) rs) (route_at routes r)

  -- all visits are made on these routes
  abbrev pub makes_all : List RouteNo → Bool
  makes_all rs = list_all is_some (visits_along d routes t rs)

  module _ (some : List RouteNo) where
    -- a path with one of these routes more
    abbrev pub longer : List RouteNo → List (List RouteNo)
    longer rs = map (λ r. rs ++ r ∷ []) (filter (may_go_on_with rs) some)

    -- the paths of n of these routes
    abbrev pub paths_of : ℕ → List (List RouteNo)
    paths_of zero = [] ∷ []
    paths_of (suc n) = flat_map longer (paths_of n)

    -- the paths of 1 to n of them
    abbrev pub paths_up_to : ℕ → List (List RouteNo)
    paths_up_to zero = []
    paths_up_to (suc n) = paths_up_to n ++ paths_of (suc n)

    -- those of these paths on which all visits are made
    abbrev pub ways_up_to : ℕ → List (List RouteNo)
    ways_up_to n = filter makes_all (paths_up_to n)

  -- they are not listed: its live routes make more than 5,000 paths of at most n routes, or more than 1,000 ways, or ways over
  -- more than 50,000 nodes
  pub record AreMany : Type 0 where
    pub live : List RouteNo
    pub are_live : AreLive d routes t live
    pub most : ℕ
    pub within : most ≤ 256
    pub many : (5000 < length (paths_up_to live most))
        ⊎ ((1000 < length (ways_up_to live most)) ⊎ (50000 < sum_by (nodes_of routes) (ways_up_to live most)))

  -- the ways, or else they are many
  abbrev pub AreListed : Option (List (List RouteNo)) → Type 0
  AreListed None = AreMany
  AreListed (Some ways) = ArePlanWays ways
