-- What the laws of all bases speak of.
use Rattle.std.specs.Prelude.{ℕ, ◌≡◌, ◌≢◌, ◌+◌, ◌≤◌, Bool, true, List}
use Rattle.std.specs.List.{list_all}
use Rattle.rail_base.specs.declared.station.Station.{Station}
use Rattle.rail_base.specs.declared.route.Route.{Route}
use Rattle.rail_base.specs.declared.plan.Command.{Command}
use Rattle.rail_base.specs.Admitted.{IsAdmitted}
use Rattle.rail_base.specs.Members.{In}
use Rattle.rail_spec.specs.Feasible.{IsFeasible}
use Rattle.rail_spec.specs.Track.{routes_of}
use Rattle.sat_clause.specs.declared.lit.Lit.{Lit}
use Rattle.sat_clause.specs.Clauses.{clause_holds}
use Rattle.clause_spec.specs.declared.question.BaseKind.{BaseKind}
use Rattle.clause_spec.specs.Clauses.{base_clauses}
use Rattle.base_spec.specs.Bases.{HasModelFor, before_selectors, clauses_of, decoded_of, on_plain, variables_of}

-- a plan that is feasible for n steps, and has values that make the clauses of the base true and say that all is given
-- by step k
pub record HasModelBy (kind : BaseKind) (d : Station) (n k : ℕ) : Type 0 where
  pub plan : List (List Command)
  pub feasible : IsFeasible d n plan
  pub model : HasModelFor kind d (routes_of d) n plan (clauses_of kind d (routes_of d) n)
  pub by : model.values (before_selectors kind d (routes_of d) n + k) ≡ true

-- where a plan of k steps is feasible, there is such a one
abbrev pub FeasibleHaveModelsBy : BaseKind → Station → ℕ → ℕ → Type 0
FeasibleHaveModelsBy kind d n k = IsAdmitted d → (plan : List (List Command)) → IsFeasible d k plan
    → HasModelBy kind d n k

-- values that make the clauses of the base true give a plan that has such values
abbrev pub ModelsGivePlans : BaseKind → Station → ℕ → Type 0
ModelsGivePlans kind d n = (values : ℕ → Bool)
    → list_all (clause_holds values) (clauses_of kind d (routes_of d) n) ≡ true
    → HasModelFor kind d (routes_of d) n (decoded_of kind d (routes_of d) n values) (clauses_of kind d (routes_of d) n)

-- values that make them true make those of the plain base true
abbrev pub BeginsWithPlain : BaseKind → Station → List Route → ℕ → Type 0
BeginsWithPlain kind d routes n = (values : ℕ → Bool)
    → list_all (clause_holds values) (clauses_of kind d routes n) ≡ true
    → list_all (clause_holds (on_plain kind d routes n values)) (base_clauses d routes n) ≡ true

-- each literal has a variable from 1 on that there is, and none the one which says that all is given by step n
abbrev pub AreInRangeOf : BaseKind → Station → List Route → ℕ → Type 0
AreInRangeOf kind d routes n = (c : List Lit) → In c (clauses_of kind d routes n) → (l : Lit) → In l c
    → (1 ≤ l.var) × (l.var ≤ (variables_of kind d routes n).count) × (l.var ≢ before_selectors kind d routes n + n)
