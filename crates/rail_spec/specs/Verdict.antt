-- The violation by which a plan fails, and where it is decided.
use Rattle.std.specs.Prelude.{◌≡◌, ℕ, ◌≤◌, ◌<◌, true, false, List, Option, None, Some}
use Rattle.rail_base.specs.declared.station.Station.{Station}
use Rattle.rail_base.specs.declared.route.Route.{Route}
use Rattle.rail_base.specs.declared.plan.Command.{Command}
use Rattle.rail_base.specs.declared.plan.Violation.{Violation}
use Rattle.rail_base.specs.declared.plan.Violation.TheVariants as violation
use Rattle.rail_base.specs.Stations.{horizon}
use Rattle.rail_spec.specs.Requirements.{is_done, is_decided, is_certain, violation_at, path_violation, cost}

-- the first, or else the other
abbrev pub or_else : Option Violation → Option Violation → Option Violation
or_else (Some v) o = Some v
or_else None o = o

-- a visit that the path doesn't make, or else what is certain at the deciding tick
abbrev pub failure : Station → List Route → List (List Command) → Option Violation
failure d routes plan = or_else (path_violation d routes plan) (violation_at d routes plan (cost d routes plan))

-- what a verdict says: the deciding tick is one up to the horizon, before it nothing was decided, and at it all is done or something is certain
pub record IsVerdict (d : Station) (routes : List Route) (plan : List (List Command)) : Type 0 where
  pub first : 1 ≤ cost d routes plan
  pub last : cost d routes plan ≤ horizon d
  pub before : path_violation d routes plan ≡ None → (k : ℕ) → 1 ≤ k → k < cost d routes plan
      → is_decided d routes plan k ≡ false
  pub met : failure d routes plan ≡ None → is_done d routes plan (cost d routes plan) ≡ true
  pub failed : (v : Violation) → failure d routes plan ≡ Some v → is_certain d routes plan (cost d routes plan) v ≡ true

-- it fails since something isn't done by the horizon
abbrev pub IsForTime : Violation → Type 0
IsForTime (violation.Grant t j) = Unit {0}
IsForTime (violation.Visit t j) = Unit {0}
IsForTime (violation.Path t j) = ⊥
IsForTime (violation.Within w) = ⊥
IsForTime (violation.Order o) = ⊥
