-- The paths of a feasible plan are ways.
use Rattle.std.proofs.Common.{◌≡◌, ℕ, suc, ◌<◌, Bool, true, ◌&&◌, nat_le, List, [], ◌∷◌, length, Option, Some, None, not, refl, ap, subst, arith, leb-true}
use Rattle.std.specs.Prelude.{is_some, slice_index_or, option_and_then}
use Rattle.std.specs.List.{list_all}
use Rattle.rail_base.specs.declared.station.Station.{Station}
use Rattle.rail_base.specs.declared.station.NodeNo.{NodeNo}
use Rattle.rail_base.specs.declared.station.TrainNo.{TrainNo}
use Rattle.rail_base.specs.declared.route.Route.{Route}
use Rattle.rail_base.specs.declared.plan.Command.{Command}
use Rattle.rail_base.specs.declared.state.PathNode.{PathNode}
use Rattle.rail_base.specs.Numbering.{one_to, from_first, after_first}
use Rattle.rail_base.specs.Members.{all_pairs, all_neighbors}
use Rattle.rail_base.specs.Stations.{IsTrain, first_visit, trains, train_of, horizon}
use Rattle.rail_base.specs.Routes.{IsRoute}
use Rattle.rail_spec.specs.Plans.{begins_in, commands, end_at_one_signal, goes_on, has_node, is_path, is_start, one_each, path, path_routes}
use Rattle.rail_spec.specs.Visits.{pass_tick}
use Rattle.rail_spec.specs.Track.{routes_of}
use Rattle.rail_spec.specs.Dispatches.{of_plan}
use Rattle.rail_spec.specs.Requirements.{is_done, command_numbers, granted_by, visit_numbers, visited_by, keeps_order, meets}
use Rattle.rail_spec.specs.Feasible.{is_of, IsWellFormed, IsFeasible}
use Rattle.rail_spec.specs.Places.{path_nodes, visits_at, visits_on}
use Rattle.rail_base.proofs.Members.{In, and_left, and_right, and_both, list_all_at}
use Rattle.rail_base.proofs.Lists.{in_map, in_map_back, in_count, in_count_back}
use Rattle.rail_laws.proofs.Standing.{in_path}
use Rattle.rail_laws.proofs.Given.{command_in_path}
use Rattle.rail_laws.proofs.Lengths.{path_few}
use Rattle.way_spec.specs.Ways.{IsWalk, visits_along}
use Rattle.way_spec.specs.Laws.{CommandsAreLive, NeedsWays, PathsAreWays, TakesFewest, TakesFewestOfAll, VisitingPathsAreWays}

-- ---- all visits are made

some_all : {X : Type 0} (xs : List (Option X)) → ((j : ℕ) → j < length xs → is_some (slice_index_or xs j None) ≡ true) → list_all is_some xs ≡ true
some_all [] h = refl
some_all (x ∷ xs) h = and_both (is_some x) (list_all is_some xs) (h 0 (omega arith)) (some_all xs (λ j k. h (suc j) (omega arith)))

length-at : (sets : List (List NodeNo)) (ps : List PathNode) → length (visits_at sets ps) ≡ length sets
length-at [] ps = refl
length-at (set ∷ sets) ps = ap suc (length-at sets (after_first (from_first (λ (p : PathNode). has_node set p.node) ps)))

pub length-on : (sets : List (List NodeNo)) (ps : List PathNode) → length (visits_on sets ps) ≡ length sets
length-on [] ps = refl
length-on (set ∷ sets) ps = ap suc (length-at sets (after_first ps))

some_before : {X Y : Type 0} (f : X → Option Y) (o : Option X) → is_some (option_and_then f o) ≡ true → is_some o ≡ true
some_before f None h = h
some_before f (Some x) h = refl

pub in_trains : (d : Station) (t : TrainNo) → IsTrain d t → In t (trains d)
in_trains d t h = in_map (λ n. record { 0 = n }) (one_to (length d.trains)) t.0 (let l = h.0 in let u = h.1 in in_count 1 (length d.trains) t.0 l (omega arith))

pub in_trains_back : (d : Station) (t : TrainNo) → In t (trains d) → IsTrain d t
in_trains_back d t m = go (in_map_back (λ n. let x : TrainNo = record { 0 = n } in x) (one_to (length d.trains)) t m)
  where
    go : ((n : ℕ) × In n (one_to (length d.trains)) × ((let x : TrainNo = record { 0 = n } in x) ≡ t)) → IsTrain d t
    go (n, i, e) = subst (IsTrain d) e (let l = in_count_back 1 (length d.trains) n i in let a = l.0 in let b = l.1 in (omega arith, omega arith))

pub visits_made : (d : Station) (routes : List Route) (plan : List (List Command)) → meets d routes plan ≡ true → (t : TrainNo) → IsTrain d t → list_all is_some (visits_along d routes t (path plan t)) ≡ true
visits_made d routes plan h t known =
    let k = horizon d in
    let done = and_left (is_done d routes plan k) _ (and_left (is_done d routes plan k && list_all (keeps_order d routes plan k) d.orders) _ h) in
    let visited = and_right (list_all (λ u. list_all (granted_by d routes plan k u) (command_numbers d routes plan u)) (trains d)) _ done in
    let all = list_all_at (λ u. list_all (visited_by d routes plan k u) (visit_numbers d u)) (trains d) t visited (in_trains d t known) in
    let l = length-on (train_of d t).visits (path_nodes (path_routes routes plan t)) in
    some_all (visits_along d routes t (path plan t)) (λ j i.
    some_before (pass_tick d routes (of_plan routes plan) k t) (slice_index_or (visits_along d routes t (path plan t)) j None)
    (list_all_at (visited_by d routes plan k t) (visit_numbers d t) (suc j) all (in_count 1 (length (train_of d t).visits) (suc j) (omega arith) (omega arith))))

-- ---- what a well-formed plan says of one train

module _ (d : Station) (routes : List Route) (n : ℕ) (plan : List (List Command)) (f : IsWellFormed d routes n plan) where
  pub of_design : (c : Command) → In c (commands plan) → is_of d routes c ≡ true
  of_design c m = list_all_at (is_of d routes) (commands plan) c f.named m

  pub has_train : (c : Command) → In c (commands plan) → IsTrain d c.train
  has_train c m =
      let a = and_left (nat_le 1 c.train.0 && nat_le c.train.0 (length d.trains)) _ (and_left (nat_le 1 c.train.0 && nat_le c.train.0 (length d.trains) && nat_le 1 c.route.0) _ (of_design c m)) in
      (leb-true _ _ (and_left (nat_le 1 c.train.0) _ a), leb-true _ _ (and_right (nat_le 1 c.train.0) _ a))

  has_route : (c : Command) → In c (commands plan) → IsRoute routes c.route
  has_route c m =
      let a = and_left (nat_le 1 c.train.0 && nat_le c.train.0 (length d.trains) && nat_le 1 c.route.0) _ (of_design c m) in
      (leb-true _ _ (and_right (nat_le 1 c.train.0 && nat_le c.train.0 (length d.trains)) _ a), leb-true _ _ (and_right (nat_le 1 c.train.0 && nat_le c.train.0 (length d.trains) && nat_le 1 c.route.0) _ (of_design c m)))

  abbrev each_path : Bool
  each_path = list_all (λ t. is_path (train_of d t) (path_routes routes plan t)) (trains d)

  pub its_path : (t : TrainNo) → IsTrain d t → is_path (train_of d t) (path_routes routes plan t) ≡ true
  its_path t known = list_all_at (λ t. is_path (train_of d t) (path_routes routes plan t)) (trains d) t (and_right (nat_le (length plan) n && list_all one_each plan) each_path f.formed) (in_trains d t known)

  pub one_a_step : list_all one_each plan ≡ true
  one_a_step = and_right (nat_le (length plan) n) _ (and_left (nat_le (length plan) n && list_all one_each plan) each_path f.formed)

  pub path_is_walk : (t : TrainNo) → IsTrain d t → IsWalk d routes t (path plan t)
  path_is_walk t known =
      let rs = path_routes routes plan t in
      let begins = begins_in (first_visit (train_of d t)) rs in
      let follows = all_neighbors (λ (r q : Route). goes_on r.finish q.start) rs in
      let apart = all_pairs (λ (r q : Route). not (is_start r.start q.start)) rs in
      let ends = all_pairs (λ (r q : Route). not (end_at_one_signal r.finish q.finish)) rs in
      let two = and_left (begins && follows) apart (and_left (begins && follows && apart) ends (its_path t known)) in
      record {
        named = λ r m. has_route (record { train = t; route = r }) (in_path t plan r m);
        begins = and_left begins follows two;
        goes_on = and_right begins follows two;
      }

  pub starts_differ : (t : TrainNo) → IsTrain d t → all_pairs (λ (r q : Route). not (is_start r.start q.start)) (path_routes routes plan t) ≡ true
  starts_differ t known =
      let rs = path_routes routes plan t in
      let begins = begins_in (first_visit (train_of d t)) rs in
      let follows = all_neighbors (λ (r q : Route). goes_on r.finish q.start) rs in
      let apart = all_pairs (λ (r q : Route). not (is_start r.start q.start)) rs in
      let ends = all_pairs (λ (r q : Route). not (end_at_one_signal r.finish q.finish)) rs in
      and_right (begins && follows) apart (and_left (begins && follows && apart) ends (its_path t known))

-- ---- the laws

pub visiting : (d : Station) (routes : List Route) (n : ℕ) (plan : List (List Command)) → IsWellFormed d routes n plan → VisitingPathsAreWays d routes n plan
visiting d routes n plan f t known made = record { walk = path_is_walk d routes n plan f t known; makes_all = made }

module _ (d : Station) (n : ℕ) (plan : List (List Command)) (f : IsFeasible d n plan) where
  pub paths_are_ways : PathsAreWays d plan
  paths_are_ways t known = record {
    walk = path_is_walk d (routes_of d) n plan f.runnable.well_formed t known;
    makes_all = visits_made d (routes_of d) plan f.met t known;
  }

  pub commands_are_live : CommandsAreLive d plan
  commands_are_live c m = (path plan c.train, paths_are_ways c.train (has_train d (routes_of d) n plan f.runnable.well_formed c m), command_in_path plan c m)

  pub takes_fewest : TakesFewest d plan
  takes_fewest t k known fewest =
      let a = fewest.none_fewer (path plan t) (paths_are_ways t known) in
      let b = path_few t plan (one_a_step d (routes_of d) n plan f.runnable.well_formed) in
      omega arith

pub takes_fewest_of_all : (d : Station) (n : ℕ) (plan : List (List Command)) → IsFeasible d n plan → TakesFewestOfAll d plan
takes_fewest_of_all d n plan f k least = takes_fewest d n plan f least.train k least.there least.of_train

pub needs_ways : (d : Station) → NeedsWays d
needs_ways d t known none n plan f = none (path plan t, paths_are_ways d n plan f t known)
