-- What the laws of the base speak of.
use Rattle.std.specs.Prelude.{ℕ, ◌≡◌, ◌≤◌, ◌<◌, ◌&&◌, Bool, true, not, nat_le, List, length, ◌*◌, nat_lt, None}
use Rattle.std.specs.List.{list_all}
use Rattle.rail_base.specs.declared.station.Station.{Station}
use Rattle.rail_base.specs.declared.station.TrainNo.{TrainNo}
use Rattle.rail_base.specs.declared.route.Route.{Route}
use Rattle.rail_base.specs.declared.route.RouteNo.{RouteNo}
use Rattle.rail_base.specs.declared.plan.Command.{Command}
use Rattle.rail_spec.specs.Plans.{goes_on, is_start, exits, route_at, contend}
use Rattle.rail_base.specs.Members.{In, all_neighbors, all_pairs}
use Rattle.rail_spec.specs.Feasible.{is_of, IsFeasible, IsRunnable}
use Rattle.rail_spec.specs.Dispatches.{of_plan}
use Rattle.rail_spec.specs.Visits.{makes_visits}
use Rattle.clause_spec.specs.Clauses.{chain_length, base_clauses, past_limit}
use Rattle.sat_clause.specs.Clauses.{clause_holds}
use Rattle.sat_clause.specs.declared.lit.Lit.{Lit}
use Rattle.clause_spec.specs.Variables.{Given, Before, By, number_of, variable_count, pairs}
use Rattle.rail_spec.specs.Track.{routes_of}
use Rattle.clause_spec.specs.Models.{model_of, decoded}

-- the whole path of each train makes all its visits
pub record VisitsAll (d : Station) (routes : List Route) (plan : List (List Command)) : Type 0 where
  pub made : (t : TrainNo) → 1 ≤ t.0 → t.0 ≤ length d.trains → makes_visits d routes (of_plan routes plan) t ≡ true

-- two models agree on what is given, and on which of two commands is before the other
pub record Agrees (d : Station) (routes : List Route) (n : ℕ) (one other : ℕ → Bool) : Type 0 where
  pub given : (c : Command) (i : ℕ) → is_of d routes c ≡ true → 1 ≤ i → i ≤ n
      → one (number_of d routes n (Given c i)) ≡ other (number_of d routes n (Given c i))
  pub before : (e c : Command) → is_of d routes e ≡ true → is_of d routes c ≡ true → contend routes e c ≡ true
      → one (number_of d routes n (Before e c)) ≡ other (number_of d routes n (Before e c))

-- routes of the table of which each goes on from the one before; their starts differ, none exits, and together they are shorter than the bound
pub record IsChain (routes : List Route) (bound : ℕ) (chain : List RouteNo) : Type 0 where
  pub known : list_all (λ r. nat_le 1 r.0 && nat_le r.0 (length routes)) chain ≡ true
  pub near : all_neighbors (λ r q. goes_on (route_at routes r).finish (route_at routes q).start) chain ≡ true
  pub apart : all_pairs (λ r q. not (is_start (route_at routes r).start (route_at routes q).start)) chain ≡ true
  pub stays : list_all (λ r. not (exits (route_at routes r))) chain ≡ true
  pub below_bound : chain_length routes chain < bound

-- no values that make the base true say that all is given by step k
abbrev pub NoneBy : Station → List Route → ℕ → ℕ → Type 0
NoneBy d routes n k = (values : ℕ → Bool)
    → list_all (clause_holds values) (base_clauses d routes n) ≡ true
    → values (number_of d routes n (By k)) ≡ true → ⊥

-- each literal of the base has a variable from 1 on, and none the last one, which says that all is given by step n
abbrev pub AreLiteralsInRange : Station → List Route → ℕ → Type 0
AreLiteralsInRange d routes n = (c : List Lit) → In c (base_clauses d routes n) → (l : Lit) → In l c
    → (1 ≤ l.var) × (l.var < variable_count d routes n)

-- it is so of the base of every design for every number of steps from 1 on
abbrev pub EachBase : (Station → List Route → ℕ → Type 0) → Type 0
EachBase Is = (d : Station) (routes : List Route) (n : ℕ) → 1 ≤ n → Is d routes n

-- the values make every clause of the base true
abbrev pub IsModel : Station → List Route → ℕ → (ℕ → Bool) → Type 0
IsModel d routes n values = list_all (clause_holds values) (base_clauses d routes n) ≡ true

-- the model of the plan does
abbrev pub HasModel : Station → List Route → ℕ → List (List Command) → Type 0
HasModel d routes n plan = IsModel d routes n (model_of d routes n plan)

-- every runnable plan that makes all visits has a model
abbrev pub PlansHaveModels : Station → List Route → ℕ → Type 0
PlansHaveModels d routes n = (plan : List (List Command)) → IsRunnable d routes n plan → VisitsAll d routes plan
    → HasModel d routes n plan

-- every feasible plan has a model
abbrev pub FeasibleHaveModels : Station → ℕ → Type 0
FeasibleHaveModels d n = (plan : List (List Command)) → IsFeasible d n plan → HasModel d (routes_of d) n plan

-- the plan that a model gives has a model
abbrev pub DecodedHaveModels : Station → List Route → ℕ → Type 0
DecodedHaveModels d routes n = (values : ℕ → Bool) → IsModel d routes n values
    → HasModel d routes n (decoded d routes n values)

-- every model gives a runnable plan, and agrees with that plan's model
abbrev pub ModelsArePlans : Station → List Route → ℕ → Type 0
ModelsArePlans d routes n = (values : ℕ → Bool) → IsModel d routes n values
    → IsRunnable d routes n (decoded d routes n values)
    × Agrees d routes n (model_of d routes n (decoded d routes n values)) values

-- a base within a limit has at most half as many pairs
abbrev pub BoundsPairs : Station → List Route → ℕ → Type 0
BoundsPairs d routes n = (limit : ℕ) → past_limit limit 0 (base_clauses d routes n) ≡ None
    → 2 * length (pairs d routes) ≤ limit

-- the literals of a clause stand by their variables, each once
abbrev pub StandsInOrder : List Lit → Type 0
StandsInOrder clause = all_pairs (λ (l m : Lit). nat_lt l.var m.var) clause ≡ true

-- there are at most 16,000,000 literals in these clauses
abbrev pub HasFewLiterals : List (List Lit) → Type 0
HasFewLiterals clauses = past_limit 16000000 0 clauses ≡ None
