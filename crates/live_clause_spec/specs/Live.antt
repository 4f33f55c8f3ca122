-- Live commands: those whose route stands in a way of their train. They are found over routes that come one after
-- another, with how many visits the train has made before each.
use Rattle.std.specs.Prelude.{ℕ, zero, suc, Bool, ◌&&◌, ◌||◌, ◌==◌, List, filter, length}
use Rattle.std.specs.List.{list_any}
use Rattle.rail_base.specs.declared.station.Station.{Station}
use Rattle.rail_base.specs.declared.station.NodeNo.{NodeNo}
use Rattle.rail_base.specs.declared.route.Route.{Route}
use Rattle.rail_base.specs.declared.route.RouteNo.{RouteNo}
use Rattle.rail_base.specs.declared.plan.Command.{Command}
use Rattle.rail_base.specs.Stations.{train_of}
use Rattle.rail_spec.specs.Plans.{is_route, route_at, route_numbers}
use Rattle.train_ways.specs.Pairs.{begins, made_behind, many, onward}

-- for a train with these visits
module _ (routes : List Route) (sets : List (List NodeNo)) where
  -- how many visits are made behind a route, where so many are made before it
  abbrev pub made_then : RouteNo → ℕ → ℕ
  made_then r j = made_behind sets (route_at routes r) j

  -- then all are made
  abbrev pub has_made_all : RouteNo → ℕ → Bool
  has_made_all r j = made_then r j == length sets

  -- the route, with so many visits made before it, passes the test; or one does that can come up to k routes later
  abbrev pub can_come : (RouteNo → ℕ → Bool) → ℕ → RouteNo → ℕ → Bool
  can_come test zero r j = test r j
  can_come test (suc k) r j = test r j || list_any (λ q. can_come test k q (made_then r j)) (onward routes r)

  -- all visits can be made on the route and others behind it, on no more than there are pairs of a route
  -- and a number of visits
  abbrev pub can_finish : RouteNo → ℕ → Bool
  can_finish r j = can_come has_made_all (many routes sets) r j

  -- it is this route, and they can
  abbrev pub can_finish_on : RouteNo → RouteNo → ℕ → Bool
  can_finish_on r q j = is_route q r && can_finish q j

  -- from a route with which the train can begin it can come to this one, so that all visits can be made
  abbrev pub is_live_route : RouteNo → Bool
  is_live_route r =
      list_any (λ q. can_come (can_finish_on r) (many routes sets) q 1)
      (filter (begins routes sets) (route_numbers routes))

-- the command's route is live for its train
abbrev pub is_live : Station → List Route → Command → Bool
is_live d routes c = is_live_route routes (train_of d c.train).visits c.route
