-- What values of a base's variables say.
use Rattle.std.specs.Prelude.{ℕ, ◌≡◌, ◌+◌, ◌≤◌, ◌-◌, Bool, true, not, ◌&&◌, List, length}
use Rattle.rail_base.specs.declared.station.Station.{Station}
use Rattle.rail_base.specs.declared.route.Route.{Route}
use Rattle.rail_base.specs.declared.plan.Command.{Command}
use Rattle.sat_core.specs.Models.{value_in}
use Rattle.clause_spec.specs.declared.question.BaseKind.{BaseKind}
use Rattle.clause_spec.specs.Variables.{Variable}
use Rattle.clause_spec.specs.Models.{given_by}
use Rattle.live_clause_spec.specs.Models.{live_given_in}
use Rattle.live_clause_spec.specs.Variables.{live_number}
use Rattle.base_spec.specs.Bases.{before_selectors}

module _ (live : Command → Bool) (d : Station) (routes : List Route) (n : ℕ) (values : List Bool) where
  -- the value of a variable
  abbrev pub says : Variable → Bool
  says v = value_in values (live_number live d routes n v)

  -- a command is given by a step and not by the one before
  abbrev pub is_new : ℕ → Command → Bool
  is_new i c = given_by says c i && not (given_by says c (i - 1))

  -- the commands that they give by a step and not by the one before
  abbrev pub new_in : ℕ → List Command
  new_in step = live_given_in live d routes n says step

module _ (kind : BaseKind) (d : Station) (routes : List Route) (n : ℕ) (values : List Bool) where
  -- where the values say that all is given by step k, there are at most k steps
  abbrev pub EndsAsSaid : List (List Command) → Type 0
  EndsAsSaid steps = (k : ℕ) → 1 ≤ k → k ≤ n → value_in values (before_selectors kind d routes n + k) ≡ true
      → length steps ≤ k
