-- The clauses and the variables of each base.
use Rattle.std.specs.Prelude.{ℕ, ◌≡◌, ◌+◌, ◌*◌, ◌≤◌, Bool, true, List, map, length, Option, Some}
use Rattle.std.specs.List.{list_all}
use Rattle.rail_base.specs.declared.station.Station.{Station}
use Rattle.rail_base.specs.declared.route.Route.{Route}
use Rattle.rail_base.specs.declared.plan.Command.{Command}
use Rattle.sat_clause.specs.declared.lit.Lit.{Lit}
use Rattle.sat_clause.specs.Clauses.{clause_holds}
use Rattle.clause_spec.specs.declared.question.BaseKind.{BaseKind}
use Rattle.clause_spec.specs.declared.question.BaseKind.TheVariants.{Plain, Sorted, Normal, Live}
use Rattle.clause_spec.specs.declared.question.Turns.TheVariants.{All}
use Rattle.clause_spec.specs.declared.question.VariableCounts.{VariableCounts}
use Rattle.clause_spec.specs.Variables.{numbered, pairs, variable_count}
use Rattle.clause_spec.specs.Clauses.{Clause, base_clauses}
use Rattle.clause_spec.specs.Models.{decoded, model_of}
use Rattle.alike_clause_spec.specs.Sorted.{sorted_base}
use Rattle.normal_clause_spec.specs.Clauses.{normal_base}
use Rattle.live_clause_spec.specs.Clauses.{left_of, live_base}
use Rattle.live_clause_spec.specs.Live.{is_live}
use Rattle.live_clause_spec.specs.Models.{spread}
use Rattle.live_clause_spec.specs.Variables.{live_commands, live_pairs}

-- the clauses of a base
abbrev pub clauses_of : BaseKind → Station → List Route → ℕ → List (List Lit)
clauses_of Plain d routes n = base_clauses d routes n
clauses_of Sorted d routes n = sorted_base All d routes n
clauses_of Normal d routes n = normal_base d routes n
clauses_of (Live turns) d routes n = live_base turns d routes n

-- what is left of a clause over a base's numbers: all of it, but in the base of live commands what isn't dead; none
-- where it denies what is dead
abbrev pub left_in : BaseKind → Station → List Route → ℕ → Clause → Option (List Lit)
left_in Plain d routes n cl = Some (map (numbered d routes n) cl)
left_in Sorted d routes n cl = Some (map (numbered d routes n) cl)
left_in Normal d routes n cl = Some (map (numbered d routes n) cl)
left_in (Live turns) d routes n cl = left_of (is_live d routes) d routes n cl

-- how many variables come before those that all is given by a step
abbrev pub before_selectors : BaseKind → Station → List Route → ℕ → ℕ
before_selectors (Live turns) d routes n =
    length (live_commands (is_live d routes) d routes) * n + length (live_pairs (is_live d routes) d routes)
before_selectors _ d routes n = length d.trains * length routes * n + length (pairs d routes)

-- how many come behind them
abbrev pub more_variables : BaseKind → Station → List Route → ℕ → ℕ
more_variables Normal d routes n = length d.trains * length routes * n
more_variables _ d routes n = 0

-- how many variables a base has
abbrev pub variables_of : BaseKind → Station → List Route → ℕ → VariableCounts
variables_of kind d routes n = record {
  count = before_selectors kind d routes n + n + more_variables kind d routes n;
  before_selectors = before_selectors kind d routes n;
  steps = n;
}

-- values of its variables, for those of the plain base: the variables of commands that aren't live are false
abbrev pub on_plain : BaseKind → Station → List Route → ℕ → (ℕ → Bool) → ℕ → Bool
on_plain (Live turns) d routes n values = spread (is_live d routes) d routes n values
on_plain _ d routes n values = values

-- the plan that they give
abbrev pub decoded_of : BaseKind → Station → List Route → ℕ → (ℕ → Bool) → List (List Command)
decoded_of kind d routes n values = decoded d routes n (on_plain kind d routes n values)

-- values that are those of the plan's model on the variables of the plain base, and make these clauses true
pub record HasModelFor (kind : BaseKind) (d : Station) (routes : List Route) (n : ℕ) (plan : List (List Command))
    (clauses : List (List Lit)) : Type 0 where
  pub values : ℕ → Bool
  pub of_plan : (v : ℕ) → v ≤ variable_count d routes n
      → on_plain kind d routes n values v ≡ model_of d routes n plan v
  pub holds : list_all (clause_holds values) clauses ≡ true
