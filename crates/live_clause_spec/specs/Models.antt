-- Values of the live variables, for all variables; those of a plan, and the plan of values.
use Rattle.std.specs.Prelude.{ℕ, zero, suc, ◌-◌, Bool, false, not, ◌&&◌, List, map, filter, slice_get}
use Rattle.std.specs.Prelude.{Option, None, Some}
use Rattle.rail_base.specs.declared.station.Station.{Station}
use Rattle.rail_base.specs.declared.route.Route.{Route}
use Rattle.rail_base.specs.declared.plan.Command.{Command}
use Rattle.rail_base.specs.Numbering.{one_to}
use Rattle.clause_spec.specs.Variables.{Variable, variables}
use Rattle.clause_spec.specs.Models.{cut_off, given_by, is_so_or_false}
use Rattle.live_clause_spec.specs.Variables.{is_dead, live_commands, live_number, live_variables}

module _ (live : Command → Bool) (d : Station) (routes : List Route) (n : ℕ) where
  -- the value of each variable, where these are those of the numbers of live ones: dead ones are false
  abbrev pub live_says : (ℕ → Bool) → Variable → Bool
  live_says values v = not (is_dead live v) && values (live_number live d routes n v)

  -- where there is no variable, false
  abbrev pub says_or_false : (ℕ → Bool) → Option Variable → Bool
  says_or_false values None = false
  says_or_false values (Some v) = live_says values v

  -- the value of each number of the plain base
  abbrev pub spread : (ℕ → Bool) → ℕ → Bool
  spread values zero = false
  spread values (suc v) = says_or_false values (slice_get (variables d routes n) v)

  -- the model of a plan over the live variables: the value of each of their numbers
  abbrev pub live_model_of : List (List Command) → ℕ → Bool
  live_model_of plan zero = false
  live_model_of plan (suc v) = is_so_or_false plan (slice_get (live_variables live d routes n) v)

  -- the live commands given by a step and not by the one before
  abbrev pub live_given_in : (Variable → Bool) → ℕ → List Command
  live_given_in says i =
      filter (λ c. given_by says c i && not (given_by says c (i - 1))) (live_commands live d routes)

  -- the plan that values of the live variables give
  abbrev pub live_decoded : (ℕ → Bool) → List (List Command)
  live_decoded values = cut_off (map (live_given_in (λ v. values (live_number live d routes n v))) (one_to n))
