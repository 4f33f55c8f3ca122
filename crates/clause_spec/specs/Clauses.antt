-- The clauses of the base, family by family.
use Rattle.std.specs.Prelude.{ℕ, zero, suc, ◌+◌, ◌-◌, Bool, true, false, not, ◌&&◌, ◌||◌, if◌then◌else◌, List, [], ◌∷◌}
use Rattle.std.specs.Prelude.{◌++◌, map, filter, flat_map, length, nat_lt, sum_by, fold, max, Option, None, Some}
use Rattle.std.specs.List.{list_any}
use Rattle.rail_base.specs.declared.station.Station.{Station}
use Rattle.rail_base.specs.declared.station.NodeNo.{NodeNo}
use Rattle.rail_base.specs.declared.station.TrainNo.{TrainNo}
use Rattle.rail_base.specs.declared.route.Route.{Route}
use Rattle.rail_base.specs.declared.route.RouteNo.{RouteNo}
use Rattle.rail_base.specs.declared.route.Start.{Start}
use Rattle.rail_base.specs.declared.route.Start.TheVariants as start
use Rattle.rail_base.specs.declared.plan.Command.{Command}
use Rattle.rail_base.specs.Numbering.{one_to, entry}
use Rattle.rail_base.specs.Stations.{trains, train_of, train_length, first_visit}
use Rattle.rail_spec.specs.Plans.{route_at, goes_on, is_start, end_at_one_signal, exits, length_mm, own_shared}
use Rattle.rail_spec.specs.Plans.{release_offset, has_node, route_numbers, all_commands}
use Rattle.rail_spec.specs.Places as places
use Rattle.clause_spec.specs.Variables.{Given, Before, By, Literal, yes, no, if_given, pairs, numbered}
use Rattle.sat_clause.specs.declared.lit.Lit.{Lit}

-- literals of which one is true
abbrev pub Clause : Type 0
Clause = List Literal

-- a start at a boundary
abbrev pub at_boundary : Start → Bool
at_boundary (start.Boundary n) = true
at_boundary (start.Signal s) = false

-- two routes that no train is given both: both start at boundaries, at one place, or both end at one signal
abbrev pub exclude : Route → Route → Bool
exclude r q =
    at_boundary r.start && at_boundary q.start || is_start r.start q.start || end_at_one_signal r.finish q.finish

-- each route with one that has a greater number
abbrev pub later_pairs : {X : Type 0} → List X → List (X × X)
later_pairs [] = []
later_pairs (x ∷ xs) = map (λ y. (x, y)) xs ++ later_pairs xs

-- so far is a tail of this length past the last of these places; there is none to pass where the list is empty
abbrev pub left_by : List ℕ → ℕ → ℕ
left_by [] length = 0
left_by (x ∷ xs) length = fold max 0 (x ∷ xs) + length

module _ (routes : List Route) where
  -- the routes that end where this one starts
  abbrev pub leading_to : Start → List RouteNo
  leading_to s = filter (λ q. goes_on (route_at routes q).finish s) (route_numbers routes)

  -- the route goes on from the last one of the chain and starts where none of the chain does
  abbrev pub extends : List RouteNo → RouteNo → RouteNo → Bool
  extends chain last w = let start = (route_at routes w).start in
      goes_on (route_at routes last).finish start
      && not (list_any (λ v. is_start (route_at routes v).start start) chain)

  -- the routes with which a chain goes on, its last one being named
  abbrev pub onward : List RouteNo → RouteNo → List RouteNo
  onward chain last = filter (extends chain last) (route_numbers routes)

  -- a chain, with its last route
  abbrev pub chain_length : List RouteNo → ℕ
  chain_length chain = sum_by (λ w. length_mm (route_at routes w)) chain

  -- the chains that begin with these routes and then this one, none of which exits, and are shorter than a bound; each before those that go on from it.
  -- The first number bounds how many routes more there are
  abbrev pub chains : ℕ → ℕ → List RouteNo → RouteNo → List (List RouteNo × RouteNo)
  chains zero bound before w = []
  chains (suc more) bound before w =
      let chain = before ++ w ∷ [] in
      let further = flat_map (chains more bound chain) (onward chain w) in
      if not (exits (route_at routes w)) && nat_lt (chain_length chain) bound then (chain, w) ∷ further else []

module _ (d : Station) (routes : List Route) (n : ℕ) where
  -- ---- what is given stays given

  -- what is given by a step is given by the next
  abbrev pub stays_given : Command → List Clause
  stays_given c = map (λ i. no (Given c i) ∷ yes (Given c (i + 1)) ∷ []) (one_to (n - 1))

  -- ---- a route starts at a boundary of the first visit, or where an earlier one ends

  -- what the start asks of a command that is given by step i
  abbrev pub start_clause : Command → Start → ℕ → List Clause
  start_clause c (start.Boundary m) i =
      if has_node (first_visit (train_of d c.train)) m then [] else (no (Given c i) ∷ []) ∷ []
  start_clause c (start.Signal s) i =
      (no (Given c i)
      ∷ flat_map (λ q. if_given (record { train = c.train; route = q }) (i - 1)) (leading_to routes (start.Signal s)))
      ∷ []

  -- for each step
  abbrev pub starts_rightly : Command → List Clause
  starts_rightly c = flat_map (start_clause c (route_at routes c.route).start) (one_to n)

  -- ---- routes that exclude each other

  -- the train is not given both routes
  abbrev pub not_both : TrainNo → RouteNo × RouteNo → Clause
  not_both t p =
      no (Given (record { train = t; route = p.0 }) n)
      ∷ no (Given (record { train = t; route = p.1 }) n) ∷ []

  -- for each two routes that exclude each other
  abbrev pub excluded : TrainNo → List Clause
  excluded t =
      map (not_both t)
      (filter (λ p. exclude (route_at routes p.0) (route_at routes p.1)) (later_pairs (route_numbers routes)))

  -- ---- contending commands aren't given in one step

  -- not both are new in one step
  abbrev pub not_at_once : Command × Command → List Clause
  not_at_once p =
      map (λ i. no (Given p.0 i) ∷ if_given p.0 (i - 1) ++ no (Given p.1 i) ∷ if_given p.1 (i - 1)) (one_to n)

  -- contending commands, each two once
  abbrev pub first_pairs : List (Command × Command)
  first_pairs = filter (λ p. nat_lt p.0.train.0 p.1.train.0) (pairs d routes)

  -- ---- a contending command waits until enough track is given to clear the shared sections

  -- so much track clears all own sections of the first that they share
  abbrev pub clearing : Command → Command → ℕ
  clearing e c = let r = route_at routes e.route in
      left_by (map (release_offset r) (own_shared r (route_at routes c.route))) (train_length d e.train)

  -- where the train is given the chain and no route onward, the other command is not new in the next step
  abbrev pub wait_clause : Command → Command → List RouteNo × RouteNo → ℕ → Clause
  wait_clause e c chain i = map (λ w. no (Given (record { train = e.train; route = w }) i)) chain.0
      ++ no (Given c (i + 1)) ∷ yes (Given c i)
      ∷ map (λ w. yes (Given (record { train = e.train; route = w }) i)) (onward routes chain.0 chain.1)

  -- for each chain that does not clear yet, and each step
  abbrev pub waits : Command × Command → List Clause
  waits p =
      flat_map (λ chain. map (wait_clause p.0 p.1 chain) (one_to (n - 1)))
      (chains routes (length routes) (clearing p.0 p.1) [] p.0.route)

  -- ---- each visit is on some route

  -- the visit may be made on the route
  abbrev pub may_visit : ℕ → List NodeNo → RouteNo → Bool
  may_visit k set r = places.may_visit k set (route_at routes r)

  -- one of these routes is given
  abbrev pub visited : TrainNo → ℕ → Clause
  visited t k =
      map (λ r. yes (Given (record { train = t; route = r }) n))
      (filter (may_visit k (entry [] (train_of d t).visits k)) (route_numbers routes))

  -- for each visit of the train
  abbrev pub makes_visits : TrainNo → List Clause
  makes_visits t = map (visited t) (one_to (length (train_of d t).visits))

  -- ---- which of two commands is given before the other

  -- the variable of a pair says just this
  abbrev pub in_order : Command × Command → List Clause
  in_order p = let before = Before p.0 p.1 in
      (no before ∷ yes (Given p.1 n) ∷ [])
      ∷ map (λ i. no before ∷ no (Given p.1 i) ∷ if_given p.0 (i - 1)) (one_to n)
      ++ map (λ i. yes before ∷ no (Given p.0 i) ∷ yes (Given p.1 i) ∷ no (Given p.1 n) ∷ []) (one_to (n - 1))

  -- ---- by which step all is given

  -- by step k is given what is given at all
  abbrev pub all_given : ℕ → List Clause
  all_given k = map (λ c. no (By k) ∷ no (Given c n) ∷ yes (Given c k) ∷ []) (all_commands d routes)

  -- ---- all of them

  -- all clauses, in their order
  abbrev pub clauses : List Clause
  clauses = flat_map stays_given (all_commands d routes)
      ++ flat_map starts_rightly (all_commands d routes)
      ++ flat_map excluded (trains d)
      ++ flat_map not_at_once first_pairs
      ++ flat_map waits (pairs d routes)
      ++ flat_map makes_visits (trains d)
      ++ flat_map in_order (pairs d routes)
      ++ flat_map all_given (one_to (n - 1))

  -- the clause list over numbers
  abbrev pub base_clauses : List (List Lit)
  base_clauses = map (map (numbered d routes n)) clauses

-- how many literals clauses have
abbrev pub literals : {X : Type 0} → List (List X) → ℕ
literals clauses = sum_by length clauses

-- the literals of the shortest beginning of the list that has more than so many, where there is one
abbrev pub past_limit : {X : Type 0} → ℕ → ℕ → List (List X) → Option ℕ
past_limit limit sum [] = None
past_limit limit sum (c ∷ cs) =
    if nat_lt limit (sum + length c) then Some (sum + length c) else past_limit limit (sum + length c) cs
