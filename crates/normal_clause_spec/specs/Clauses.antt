-- The clauses of normal plans, behind those of the base.
use Rattle.std.specs.Prelude.{ℕ, zero, suc, ◌-◌, Bool, not, ◌&&◌, ◌||◌, List, [], ◌∷◌, ◌++◌, map, filter, flat_map, length}
use Rattle.std.specs.List.{list_any}
use Rattle.rail_base.specs.declared.station.Station.{Station}
use Rattle.rail_base.specs.declared.route.Route.{Route}
use Rattle.rail_base.specs.declared.route.RouteNo.{RouteNo}
use Rattle.rail_base.specs.declared.plan.Command.{Command}
use Rattle.rail_base.specs.Numbering.{count_from, one_to}
use Rattle.rail_spec.specs.Plans.{is_train, is_route, route_at, share, route_numbers, all_commands}
use Rattle.sat_clause.specs.declared.lit.Lit.{Lit}
use Rattle.clause_spec.specs.Variables.{Given, yes, no, if_given}
use Rattle.clause_spec.specs.Clauses.{leading_to, onward, base_clauses}
use Rattle.normal_clause_spec.specs.Variables.{NormalLiteral, of_base, is_in, is_not_in, normal_numbered}

-- literals of which one is true
abbrev pub NormalClause : Type 0
NormalClause = List NormalLiteral

module _ (routes : List Route) where
  -- the route is the last of a chain that begins with these routes, the last of which is named, and has at most so many more
  abbrev pub ends_chain : ℕ → List RouteNo → RouteNo → RouteNo → Bool
  ends_chain zero chain last w = is_route last w
  ends_chain (suc more) chain last w =
      is_route last w || list_any (λ q. ends_chain more (chain ++ q ∷ []) q w) (onward routes chain last)

  -- the one route begins a chain and the other ends it; since the starts in a chain differ, none has more routes than there are
  abbrev pub leads_to : RouteNo → RouteNo → Bool
  leads_to v w = ends_chain (length routes) (v ∷ []) v w

  -- a route that shares a section with r leads to w
  abbrev pub can_keep : RouteNo → RouteNo → Bool
  can_keep r w =
      list_any (λ v. share (route_at routes v) (route_at routes r) && leads_to v w) (route_numbers routes)

module _ (d : Station) (routes : List Route) (n : ℕ) where
  -- ---- what is given in a step is given by it, and not by the step before

  -- what is given in the step after this one is not given by this one
  abbrev pub not_before : Command → ℕ → List NormalClause
  not_before c zero = []
  not_before c (suc i) = (is_not_in c (suc (suc i)) ∷ of_base (no (Given c (suc i))) ∷ []) ∷ []

  -- the variable of a command and a step says just this
  abbrev pub exactly_in : Command → ℕ → List NormalClause
  exactly_in c i =
      (is_not_in c i ∷ of_base (yes (Given c i)) ∷ [])
      ∷ not_before c (i - 1)
      ++ (of_base (no (Given c i)) ∷ map of_base (if_given c (i - 1)) ++ is_in c i ∷ [])
      ∷ []

  -- for each step
  abbrev pub exactly : Command → List NormalClause
  exactly c = flat_map (exactly_in c) (one_to n)

  -- ---- what is given in a step can't be given in the step before

  -- the commands of its train whose routes end where its route starts
  abbrev pub leaders : Command → List Command
  leaders c =
      map (λ w. record { train = c.train; route = w }) (leading_to routes (route_at routes c.route).start)

  -- the commands of other trains that can keep it from a section
  abbrev pub keepers : Command → List Command
  keepers c =
      filter (λ e. not (is_train e.train c.train) && can_keep routes c.route e.route) (all_commands d routes)

  -- where it is given in a step, one of these is given in the step before
  abbrev pub kept_clause : Command → ℕ → NormalClause
  kept_clause c i = is_not_in c i ∷ map (λ e. is_in e (i - 1)) (leaders c ++ keepers c)

  -- for each step from the second on
  abbrev pub kept : Command → List NormalClause
  kept c = map (kept_clause c) (count_from 2 (n - 1))

  -- ---- all of them

  -- all these clauses, in their order
  abbrev pub normal_clauses : List NormalClause
  normal_clauses = flat_map exactly (all_commands d routes) ++ flat_map kept (all_commands d routes)

  -- the base, and then these clauses over numbers
  abbrev pub normal_base : List (List Lit)
  normal_base = base_clauses d routes n ++ map (map (normal_numbered d routes n)) normal_clauses
