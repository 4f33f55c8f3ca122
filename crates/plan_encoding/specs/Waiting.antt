-- The clauses of chains.
use Rattle.std.specs.Prelude.{ℕ, ◌-◌, Bool, List, map, flat_map, cond, [], nat_lt}
use Rattle.rail_base.specs.declared.station.Station.{Station}
use Rattle.rail_base.specs.declared.route.Route.{Route}
use Rattle.rail_base.specs.declared.route.RouteNo.{RouteNo}
use Rattle.rail_base.specs.declared.plan.Command.{Command}
use Rattle.rail_base.specs.Numbering.{one_to}
use Rattle.clause_spec.specs.Clauses.{Clause, not_at_once}
use Rattle.live_clause_spec.specs.Listed.{live_wait_clause}

module _ (live : Command → Bool) (d : Station) (routes : List Route) (n : ℕ) where
  -- the second command waits for the first, for each of these chains and each step
  abbrev pub waits_over : Command → Command → List (List RouteNo × RouteNo) → List Clause
  waits_over e c chains = flat_map (λ chain. map (live_wait_clause live d routes n e c chain) (one_to (n - 1))) chains

module _ (d : Station) (routes : List Route) (n : ℕ) where
  -- two commands are not given in one step, said where the first one's train is the earlier of the two
  abbrev pub apart_once : Command × Command → List Clause
  apart_once p = cond (nat_lt p.0.train.0 p.1.train.0) (not_at_once d routes n p) []
