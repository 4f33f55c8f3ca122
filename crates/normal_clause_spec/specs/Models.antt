-- When variables and clauses of normal plans are true, and the model of a plan.
use Rattle.std.specs.Prelude.{ℕ, zero, suc, ◌-◌, Bool, false, not, cond, ◌&&◌, ◌==◌, if◌then◌else◌, nat_le, List, slice_get, Option, Some}
use Rattle.std.specs.List.{list_any}
use Rattle.rail_base.specs.declared.station.Station.{Station}
use Rattle.rail_base.specs.declared.route.Route.{Route}
use Rattle.rail_base.specs.declared.plan.Command.{Command}
use Rattle.rail_spec.specs.Plans.{has_command, step_of}
use Rattle.clause_spec.specs.Variables.{Variable, Given, variables, variable_count}
use Rattle.clause_spec.specs.Models.{is_so, model_of}
use Rattle.normal_clause_spec.specs.Variables.{NormalVariable, OfBase, GivenIn, NormalLiteral}

-- whether a literal is true where the variables have these values
abbrev pub normal_literal_holds : (NormalVariable → Bool) → NormalLiteral → Bool
normal_literal_holds says l = cond l.negated (not (says l.variable)) (says l.variable)

-- whether one of the literals is true
abbrev pub normal_holds : (NormalVariable → Bool) → List NormalLiteral → Bool
normal_holds says ls = list_any (normal_literal_holds says) ls

-- the command stands in the step
abbrev pub stands_in : List (List Command) → Command → ℕ → Bool
stands_in plan c i = has_command plan c && (step_of plan c == i)

-- what a variable says is so in the plan
abbrev pub is_normally_so : List (List Command) → NormalVariable → Bool
is_normally_so plan (OfBase v) = is_so plan v
is_normally_so plan (GivenIn c i) = stands_in plan c i

-- where a variable says that a command is given by a step, whether it stands in that step; else false
abbrev pub stands_or_false : List (List Command) → Option Variable → Bool
stands_or_false plan (Some (Given c i)) = stands_in plan c i
stands_or_false plan _ = false

module _ (d : Station) (routes : List Route) (n : ℕ) where
  -- the values of the numbers behind those of the base, counted from there
  abbrev pub stands_at : List (List Command) → ℕ → Bool
  stands_at plan zero = false
  stands_at plan (suc v) = stands_or_false plan (slice_get (variables d routes n) v)

  -- the model of a plan: on the numbers of the base its model there, and behind them which commands stand in which steps
  abbrev pub normal_model_of : List (List Command) → ℕ → Bool
  normal_model_of plan v = let count = variable_count d routes n in
      if nat_le v count then model_of d routes n plan v else stands_at plan (v - count)
