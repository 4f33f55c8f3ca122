-- Walks and ways of a train: routes in a row that it may be given, and those by which it makes its visits.
use Rattle.std.specs.Prelude.{◌≡◌, ◌↔◌, ℕ, ◌+◌, ◌-◌, ◌≤◌, ◌<◌, true, List, length, map, take, sum_by, is_some, Option}
use Rattle.std.specs.List.{list_all}
use Rattle.rail_base.specs.declared.station.Station.{Station}
use Rattle.rail_base.specs.declared.station.SignalNo.{SignalNo}
use Rattle.rail_base.specs.declared.station.TrainNo.{TrainNo}
use Rattle.rail_base.specs.declared.state.PathNode.{PathNode}
use Rattle.rail_base.specs.declared.route.Route.{Route}
use Rattle.rail_base.specs.declared.route.RouteNo.{RouteNo}
use Rattle.rail_base.specs.declared.route.Start.TheVariants as start
use Rattle.rail_base.specs.Members.{In, Pairs, Differ, all_neighbors}
use Rattle.rail_base.specs.Stations.{IsTrain, first_visit, train_of, trains}
use Rattle.rail_base.specs.Routes.{IsRoute}
use Rattle.rail_spec.specs.Plans.{begins_in, goes_on, route_at}
use Rattle.rail_spec.specs.Places.{path_nodes, visits_on}

module _ (d : Station) (routes : List Route) (t : TrainNo) where
  -- routes of the design: the first begins at a boundary of the train's first visit, and each next one goes on where the
  -- one before ends
  pub record IsWalk (rs : List RouteNo) : Type 0 where
    pub named : (r : RouteNo) → In r rs → IsRoute routes r
    pub begins : begins_in (first_visit (train_of d t)) (map (route_at routes) rs) ≡ true
    pub goes_on : all_neighbors (λ r q. goes_on r.finish q.start) (map (route_at routes) rs) ≡ true

  -- where the train's visits are made on routes in a row, in order
  abbrev pub visits_along : List RouteNo → List (Option PathNode)
  visits_along rs = visits_on (train_of d t).visits (path_nodes (map (route_at routes) rs))

  -- its first k visits are made on them
  abbrev pub MakesFirst : ℕ → List RouteNo → Type 0
  MakesFirst k rs = list_all is_some (take k (visits_along rs)) ≡ true

  -- a way of the train is a walk on which all its visits are made
  pub record IsWay (rs : List RouteNo) : Type 0 where
    pub walk : IsWalk rs
    pub makes_all : list_all is_some (visits_along rs) ≡ true

  -- there is a way of the train
  abbrev pub HasWay : Type 0
  HasWay = (rs : List RouteNo) × IsWay rs

  -- there is a walk of it on which its first k visits are made
  abbrev pub CanMakeFirst : ℕ → Type 0
  CanMakeFirst k = (rs : List RouteNo) × IsWalk rs × MakesFirst k rs

  -- no walk of it makes its first k visits, and some walk makes those before the k-th
  pub record IsFirstUnmade (k : ℕ) : Type 0 where
    pub at_least_one : 1 ≤ k
    pub theirs : k ≤ length (train_of d t).visits
    pub before : CanMakeFirst (k - 1)
    pub unmade : CanMakeFirst k → ⊥

  -- some way of the train has n routes, and none has fewer
  pub record IsFewestRoutes (n : ℕ) : Type 0 where
    pub way : List RouteNo
    pub is_way : IsWay way
    pub so_many : length way ≡ n
    pub none_fewer : (rs : List RouteNo) → IsWay rs → n ≤ length rs

  -- the route stands in a way of the train
  abbrev pub IsLive : RouteNo → Type 0
  IsLive r = (rs : List RouteNo) × IsWay rs × In r rs

  -- a live route of the train starts at the signal
  abbrev pub IsLiveStart : SignalNo → Type 0
  IsLiveStart s = (r : RouteNo) × IsLive r × ((route_at routes r).start ≡ start.Signal s)

  -- these are its live routes, in order
  pub record AreLive (rs : List RouteNo) : Type 0 where
    pub each : (r : RouteNo) → In r rs ↔ IsLive r
    pub in_order : Pairs (λ (r q : RouteNo). r.0 < q.0) rs

  -- n is one more than the signals at which its live routes start: more routes no train has in a plan, since its first route
  -- starts at a boundary, and no two at one signal
  pub record IsMostRoutes (n : ℕ) : Type 0 where
    pub signals : List SignalNo
    pub each : (s : SignalNo) → In s signals ↔ IsLiveStart s
    pub each_once : Differ signals
    pub so_many : n ≡ length signals + 1

module _ (d : Station) (routes : List Route) where
  -- the shortest way of some train has n routes, and that of each has so many at most
  pub record IsFewestSteps (n : ℕ) : Type 0 where
    pub train : TrainNo
    pub there : IsTrain d train
    pub of_train : IsFewestRoutes d routes train n
    pub each : (t : TrainNo) → IsTrain d t → (k : ℕ) × IsFewestRoutes d routes t k × (k ≤ n)

  -- m is the sum of the most routes of all trains
  pub record IsMostSteps (m : ℕ) : Type 0 where
    pub most : TrainNo → ℕ
    pub of_train : (t : TrainNo) → IsTrain d t → IsMostRoutes d routes t (most t)
    pub is_sum : m ≡ sum_by most (trains d)
