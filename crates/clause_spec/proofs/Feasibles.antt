-- A feasible plan's paths make all visits.
use Rattle.std.proofs.Common.{◌≡◌, ℕ, suc, ◌<◌, true, ◌&&◌, List, [], ◌∷◌, length, Option, Some, None, refl, ap, arith}
use Rattle.std.specs.Prelude.{is_some, slice_index_or, option_and_then}
use Rattle.std.specs.List.{list_all}
use Rattle.rail_base.specs.declared.station.Station.{Station}
use Rattle.rail_base.specs.declared.station.NodeNo.{NodeNo}
use Rattle.rail_base.specs.declared.station.TrainNo.{TrainNo}
use Rattle.rail_base.specs.declared.route.Route.{Route}
use Rattle.rail_base.specs.declared.plan.Command.{Command}
use Rattle.rail_base.specs.Numbering.{from_first, after_first}
use Rattle.rail_base.specs.Stations.{trains, train_of, horizon}
use Rattle.rail_spec.specs.Plans.{has_node, path_routes}
use Rattle.rail_base.specs.declared.state.PathNode.{PathNode}
use Rattle.rail_spec.specs.Visits.{pass_tick, visits_of_train, makes_visits}
use Rattle.rail_spec.specs.Dispatches.{of_plan}
use Rattle.rail_spec.specs.Requirements.{is_done, command_numbers, granted_by, visit_numbers, visited_by, keeps_order, meets}
use Rattle.rail_spec.specs.Places.{path_nodes, visits_at, visits_on}
use Rattle.rail_base.proofs.Members.{In, and_left, and_right, and_both, list_all_at}
use Rattle.rail_base.proofs.Lists.{in_count}

some_all : {X : Type 0} (xs : List (Option X)) → ((j : ℕ) → j < length xs → is_some (slice_index_or xs j None) ≡ true) → list_all is_some xs ≡ true
some_all [] h = refl
some_all (x ∷ xs) h = and_both (is_some x) (list_all is_some xs) (h 0 (omega arith)) (some_all xs (λ j k. h (suc j) (omega arith)))

length-at : (sets : List (List NodeNo)) (ps : List PathNode) → length (visits_at sets ps) ≡ length sets
length-at [] ps = refl
length-at (set ∷ sets) ps = ap suc (length-at sets (after_first (from_first (λ (p : PathNode). has_node set p.node) ps)))

length-on : (sets : List (List NodeNo)) (ps : List PathNode) → length (visits_on sets ps) ≡ length sets
length-on [] ps = refl
length-on (set ∷ sets) ps = ap suc (length-at sets (after_first ps))

some_before : {X Y : Type 0} (f : X → Option Y) (o : Option X) → is_some (option_and_then f o) ≡ true → is_some o ≡ true
some_before f None h = h
some_before f (Some x) h = refl

pub meets_visits : (d : Station) (routes : List Route) (plan : List (List Command)) → meets d routes plan ≡ true → (t : TrainNo) → In t (trains d) → makes_visits d routes (of_plan routes plan) t ≡ true
meets_visits d routes plan h t m =
    let k = horizon d in
    let done = and_left (is_done d routes plan k) _ (and_left (is_done d routes plan k && list_all (keeps_order d routes plan k) d.orders) _ h) in
    let visited = and_right (list_all (λ u. list_all (granted_by d routes plan k u) (command_numbers d routes plan u)) (trains d)) _ done in
    let all = list_all_at (λ u. list_all (visited_by d routes plan k u) (visit_numbers d u)) (trains d) t visited m in
    let l = length-on (train_of d t).visits (path_nodes (path_routes routes plan t)) in
    some_all (visits_of_train d routes (of_plan routes plan) t) (λ j i.
    some_before (pass_tick d routes (of_plan routes plan) k t) (slice_index_or (visits_of_train d routes (of_plan routes plan) t) j None)
    (list_all_at (visited_by d routes plan k t) (visit_numbers d t) (suc j) all (in_count 1 (length (train_of d t).visits) (suc j) (omega arith) (omega arith))))
