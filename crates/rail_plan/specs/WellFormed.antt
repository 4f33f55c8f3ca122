-- Where a plan isn't well formed, in the order in which that is said.
use Rattle.std.specs.Prelude.{ℕ, ◌+◌, ◌-◌, Bool, true, false, not, ◌&&◌, ◌||◌, if◌then◌else◌, List, [], ◌∷◌, ◌++◌, map}
use Rattle.std.specs.Prelude.{filter, flat_map, length, take, nat_le, Option, None, Some}
use Rattle.std.specs.Option.{option_or}
use Rattle.std.specs.List.{list_all}
use Rattle.rail_base.specs.declared.station.Station.{Station}
use Rattle.rail_base.specs.declared.station.Train.{Train}
use Rattle.rail_base.specs.declared.station.NodeNo.{NodeNo}
use Rattle.rail_base.specs.declared.station.TrainNo.{TrainNo}
use Rattle.rail_base.specs.declared.route.Route.{Route}
use Rattle.rail_base.specs.declared.plan.Command.{Command}
use Rattle.rail_base.specs.Numbering.{entry, one_to}
use Rattle.rail_base.specs.Stations.{train_of, trains, first_visit}
use Rattle.rail_spec.specs.Plans.{is_train, route_at, routes_given, path_routes, is_start, goes_on, end_at_one_signal}
use Rattle.rail_spec.specs.Plans.{starts_in}
use Rattle.rail_plan.specs.declared.place.PlanPlace.{PlanPlace}
use Rattle.rail_plan.specs.declared.place.PlanPlace.TheVariants as place

-- the last member
abbrev pub last_of_list : {X : Type 0} → List X → Option X
last_of_list [] = None
last_of_list (x ∷ xs) = option_or (last_of_list xs) (Some x)

-- the route starts where the train is: at its first visit, or where its last route ends
abbrev pub begins_well : List NodeNo → Option Route → Route → Bool
begins_well set None r = starts_in set r.start
begins_well set (Some q) r = goes_on q.finish r.start

-- the two start at different places, and don't end at one signal
abbrev pub are_apart : Route → Route → Bool
are_apart q r = not (is_start q.start r.start) && not (end_at_one_signal q.finish r.finish)

-- the command is for another train, or its route is so apart from r
abbrev pub is_apart : List Route → TrainNo → Route → Command → Bool
is_apart routes t r c = not (is_train c.train t) || are_apart (route_at routes c.route) r

-- the train's path may go on with the route
abbrev pub may_follow : Train → List Route → Route → Bool
may_follow t rs r = begins_well (first_visit t) (last_of_list rs) r && list_all (λ q. are_apart q r) rs

-- and with the routes of one step, of which there is one at most
abbrev pub may_go_on : Train → List Route → List Route → Bool
may_go_on t rs [] = true
may_go_on t rs (r ∷ []) = may_follow t rs r
may_go_on t rs (r ∷ q ∷ qs) = false

-- a train's command in a step is right after the steps before it
abbrev pub is_placed : Station → List Route → List (List Command) → List Command → TrainNo → Bool
is_placed d routes before step t =
    may_go_on (train_of d t) (path_routes routes before t) (map (route_at routes) (routes_given t step))

-- the trains, in file order, whose command in the step of this number isn't
abbrev pub misplaced_in : Station → List Route → List (List Command) → ℕ → List TrainNo
misplaced_in d routes plan i = filter (λ t. not (is_placed d routes (take (i - 1) plan) (entry [] plan i) t)) (trains d)

-- these, by step and train
abbrev pub placed_badly : Station → List Route → List (List Command) → List PlanPlace
placed_badly d routes plan = flat_map (λ i. map (place.Train i) (misplaced_in d routes plan i)) (one_to (length plan))

-- the step after n, where there is one
abbrev pub past : ℕ → List (List Command) → List PlanPlace
past n plan = if nat_le (length plan) n then [] else place.Step (n + 1) ∷ []

-- where the plan isn't well formed for n
abbrev pub misplaced : Station → List Route → ℕ → List (List Command) → List PlanPlace
misplaced d routes n plan = past n plan ++ placed_badly d routes plan
