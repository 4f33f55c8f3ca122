-- Feasible plans, and designs for which there is none.
use Rattle.std.specs.Prelude.{◌≡◌, ℕ, Bool, true, ◌&&◌, List, length, nat_le}
use Rattle.std.specs.List.{list_all}
use Rattle.rail_base.specs.declared.station.Station.{Station}
use Rattle.rail_base.specs.declared.route.Route.{Route}
use Rattle.rail_base.specs.declared.plan.Command.{Command}
use Rattle.rail_spec.specs.Track.{routes_of}
use Rattle.rail_spec.specs.Plans.{commands, is_well_formed, is_executable}
use Rattle.rail_spec.specs.Requirements.{meets}

-- the command names a train and a route of the design
abbrev pub is_of : Station → List Route → Command → Bool
is_of d routes c = nat_le 1 c.train.0 && nat_le c.train.0 (length d.trains)
    && nat_le 1 c.route.0 && nat_le c.route.0 (length routes)

-- every command of the plan does
abbrev pub names_only : Station → List Route → List (List Command) → Bool
names_only d routes plan = list_all (is_of d routes) (commands plan)

-- a plan over the design that is well formed for n
pub record IsWellFormed (d : Station) (routes : List Route) (n : ℕ) (plan : List (List Command)) : Type 0 where
  pub named : names_only d routes plan ≡ true
  pub formed : is_well_formed d routes n plan ≡ true

-- such a plan that can be carried out
pub record IsRunnable (d : Station) (routes : List Route) (n : ℕ) (plan : List (List Command)) : Type 0 where
  pub well_formed : IsWellFormed d routes n plan
  pub executable : is_executable d routes plan ≡ true

-- such a plan that meets the design
pub record IsFeasible (d : Station) (n : ℕ) (plan : List (List Command)) : Type 0 where
  pub runnable : IsRunnable d (routes_of d) n plan
  pub met : meets d (routes_of d) plan ≡ true

-- no plan is feasible
abbrev pub IsInfeasible : Station → ℕ → Type 0
IsInfeasible d n = (plan : List (List Command)) → IsFeasible d n plan → ⊥
