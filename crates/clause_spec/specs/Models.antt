-- When variables and clauses are true, the model of a plan, and the plan of a model.
use Rattle.std.specs.Prelude.{ℕ, zero, suc, ◌-◌, Bool, false, not, cond, ◌&&◌, List, [], ◌∷◌, map, filter, slice_get}
use Rattle.std.specs.Prelude.{nat_le, nat_lt, Option, None, Some}
use Rattle.std.specs.List.{list_any, list_all}
use Rattle.rail_base.specs.declared.station.Station.{Station}
use Rattle.rail_base.specs.declared.route.Route.{Route}
use Rattle.rail_base.specs.declared.plan.Command.{Command}
use Rattle.rail_base.specs.Numbering.{one_to}
use Rattle.rail_spec.specs.Plans.{commands, step_of, has_command, all_commands}
use Rattle.clause_spec.specs.Variables.{Variable, Given, Before, By, Literal, variables, number_of}

-- whether a literal is true where the variables have these values
abbrev pub literal_holds : (Variable → Bool) → Literal → Bool
literal_holds says l = cond l.negated (not (says l.variable)) (says l.variable)

-- whether one of the literals is true
abbrev pub holds : (Variable → Bool) → List Literal → Bool
holds says ls = list_any (literal_holds says) ls

-- what a variable says is so in the plan
abbrev pub is_so : List (List Command) → Variable → Bool
is_so plan (Given c i) = has_command plan c && nat_le (step_of plan c) i
is_so plan (Before d c) = has_command plan d && has_command plan c && nat_lt (step_of plan d) (step_of plan c)
is_so plan (By k) = list_all (λ c. nat_le (step_of plan c) k) (commands plan)

-- where there is no variable, false
abbrev pub is_so_or_false : List (List Command) → Option Variable → Bool
is_so_or_false plan None = false
is_so_or_false plan (Some v) = is_so plan v

-- the list without the empty steps at its end
abbrev pub with_step : List Command → List (List Command) → List (List Command)
with_step [] [] = []
with_step [] (s ∷ ss) = [] ∷ s ∷ ss
with_step (c ∷ cs) ss = (c ∷ cs) ∷ ss

-- the steps up to the last that is not empty
abbrev pub cut_off : List (List Command) → List (List Command)
cut_off [] = []
cut_off (s ∷ ss) = with_step s (cut_off ss)

-- the command is given by a step, which none is by step 0
abbrev pub given_by : (Variable → Bool) → Command → ℕ → Bool
given_by says c zero = false
given_by says c (suc i) = says (Given c (suc i))

module _ (d : Station) (routes : List Route) (n : ℕ) where
  -- the model of a plan: the value of each number
  abbrev pub model_of : List (List Command) → ℕ → Bool
  model_of plan zero = false
  model_of plan (suc v) = is_so_or_false plan (slice_get (variables d routes n) v)

  -- the commands given by a step and not by the one before
  abbrev pub given_in : (Variable → Bool) → ℕ → List Command
  given_in says i = filter (λ c. given_by says c i && not (given_by says c (i - 1))) (all_commands d routes)

  -- the plan that a model gives
  abbrev pub decoded : (ℕ → Bool) → List (List Command)
  decoded values = cut_off (map (given_in (λ v. values (number_of d routes n v))) (one_to n))
