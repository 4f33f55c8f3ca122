-- What is left of the clauses where dead variables are false, listed family by family without those that go.
use Rattle.std.specs.Prelude.{ℕ, zero, suc, ◌+◌, ◌-◌, Bool, not, ◌&&◌, if◌then◌else◌, List, [], ◌∷◌, ◌++◌}
use Rattle.std.specs.Prelude.{map, filter, flat_map, length, nat_lt}
use Rattle.rail_base.specs.declared.station.Station.{Station}
use Rattle.rail_base.specs.declared.station.TrainNo.{TrainNo}
use Rattle.rail_base.specs.declared.route.Route.{Route}
use Rattle.rail_base.specs.declared.route.RouteNo.{RouteNo}
use Rattle.rail_base.specs.declared.route.Start.{Start}
use Rattle.rail_base.specs.declared.route.Start.TheVariants as start
use Rattle.rail_base.specs.declared.plan.Command.{Command}
use Rattle.rail_base.specs.Numbering.{entry, one_to}
use Rattle.rail_base.specs.Stations.{train_of, trains}
use Rattle.rail_spec.specs.Plans.{exits, route_at, route_numbers}
use Rattle.clause_spec.specs.declared.question.Turns.{Turns}
use Rattle.clause_spec.specs.Variables.{Given, By, yes, no, if_given}
use Rattle.clause_spec.specs.Clauses.{Clause, chain_length, clearing, exclude, in_order, later_pairs, leading_to}
use Rattle.clause_spec.specs.Clauses.{may_visit, not_at_once, not_both, onward, start_clause, stays_given}
use Rattle.alike_clause_spec.specs.Turns.{beginnings, turn_pairs}
use Rattle.live_clause_spec.specs.Variables.{live_commands, live_pairs}

-- the train has a live command for the route
abbrev pub is_live_for : (Command → Bool) → TrainNo → RouteNo → Bool
is_live_for live t r = live (record { train = t; route = r })

module _ (live : Command → Bool) (routes : List Route) where
  -- the live routes of a train
  abbrev pub live_routes : TrainNo → List RouteNo
  live_routes t = filter (is_live_for live t) (route_numbers routes)

  -- those that end where this one starts
  abbrev pub live_leading_to : TrainNo → Start → List RouteNo
  live_leading_to t s = filter (is_live_for live t) (leading_to routes s)

  -- those with which a chain goes on
  abbrev pub live_onward : TrainNo → List RouteNo → RouteNo → List RouteNo
  live_onward t chain last = filter (is_live_for live t) (onward routes chain last)

  -- the chains that have live routes of the train alone
  abbrev pub live_chains : TrainNo → ℕ → ℕ → List RouteNo → RouteNo → List (List RouteNo × RouteNo)
  live_chains t zero bound before w = []
  live_chains t (suc more) bound before w =
      let chain = before ++ w ∷ [] in
      let further = flat_map (live_chains t more bound chain) (live_onward t chain w) in
      if not (exits (route_at routes w)) && nat_lt (chain_length routes chain) bound then (chain, w) ∷ further else []

module _ (live : Command → Bool) (d : Station) (routes : List Route) (n : ℕ) where
  -- what the start asks of a live command that is given by step i
  abbrev pub live_start_clause : Command → Start → ℕ → List Clause
  live_start_clause c (start.Boundary m) i = start_clause d routes n c (start.Boundary m) i
  live_start_clause c (start.Signal s) i =
      (no (Given c i)
      ∷ flat_map (λ q. if_given (record { train = c.train; route = q }) (i - 1))
      (live_leading_to live routes c.train (start.Signal s)))
      ∷ []

  -- for each step
  abbrev pub live_starts_rightly : Command → List Clause
  live_starts_rightly c = flat_map (live_start_clause c (route_at routes c.route).start) (one_to n)

  -- for each two live routes that exclude each other
  abbrev pub live_excluded : TrainNo → List Clause
  live_excluded t =
      map (not_both d routes n t)
      (filter (λ p. exclude (route_at routes p.0) (route_at routes p.1)) (later_pairs (live_routes live routes t)))

  -- live commands that contend, each two once
  abbrev pub live_first_pairs : List (Command × Command)
  live_first_pairs = filter (λ p. nat_lt p.0.train.0 p.1.train.0) (live_pairs live d routes)

  -- where the train is given the chain and no live route onward, the other command is not new in the next step
  abbrev pub live_wait_clause : Command → Command → List RouteNo × RouteNo → ℕ → Clause
  live_wait_clause e c chain i = map (λ w. no (Given (record { train = e.train; route = w }) i)) chain.0
      ++ no (Given c (i + 1)) ∷ yes (Given c i)
      ∷ map (λ w. yes (Given (record { train = e.train; route = w }) i))
      (live_onward live routes e.train chain.0 chain.1)

  -- for each chain of live routes that does not clear yet, and each step
  abbrev pub live_waits : Command × Command → List Clause
  live_waits p =
      flat_map (λ chain. map (live_wait_clause p.0 p.1 chain) (one_to (n - 1)))
      (live_chains live routes p.0.train (length routes) (clearing d routes n p.0 p.1) [] p.0.route)

  -- one of the live routes is given on which the visit may be made
  abbrev pub live_visited : TrainNo → ℕ → Clause
  live_visited t k =
      map (λ r. yes (Given (record { train = t; route = r }) n))
      (filter (may_visit d routes n k (entry [] (train_of d t).visits k)) (live_routes live routes t))

  -- for each visit of the train
  abbrev pub live_makes_visits : TrainNo → List Clause
  live_makes_visits t = map (live_visited t) (one_to (length (train_of d t).visits))

  -- by step k is given what is given at all
  abbrev pub live_all_given : ℕ → List Clause
  live_all_given k = map (λ c. no (By k) ∷ no (Given c n) ∷ yes (Given c k) ∷ []) (live_commands live d routes)

  -- the live routes with which a train may begin
  abbrev pub live_beginnings : TrainNo → List RouteNo
  live_beginnings t = filter (is_live_for live t) (beginnings d routes n t)

  -- where the later train of a pair is given this route by a step, the earlier has begun by it
  abbrev pub live_has_begun : TrainNo × TrainNo → RouteNo → ℕ → Clause
  live_has_begun p q i =
      no (Given (record { train = p.1; route = q }) i)
      ∷ map (λ r. yes (Given (record { train = p.0; route = r }) i)) (live_beginnings p.0)

  -- for each live route with which the later may begin, and each step
  abbrev pub live_in_turn : TrainNo × TrainNo → List Clause
  live_in_turn p = flat_map (λ q. map (live_has_begun p q) (one_to n)) (live_beginnings p.1)

module _ (turns : Turns) (live : Command → Bool) (d : Station) (routes : List Route) (n : ℕ) where
  -- all of them, in their order
  abbrev pub live_clauses : List Clause
  live_clauses = flat_map (stays_given d routes n) (live_commands live d routes)
      ++ flat_map (live_starts_rightly live d routes n) (live_commands live d routes)
      ++ flat_map (live_excluded live d routes n) (trains d)
      ++ flat_map (not_at_once d routes n) (live_first_pairs live d routes n)
      ++ flat_map (live_waits live d routes n) (live_pairs live d routes)
      ++ flat_map (live_makes_visits live d routes n) (trains d)
      ++ flat_map (in_order d routes n) (live_pairs live d routes)
      ++ flat_map (live_all_given live d routes n) (one_to (n - 1))
      ++ flat_map (live_in_turn live d routes n) (turn_pairs turns d)
