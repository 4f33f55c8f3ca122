-- What plans over an interlocking are.
use Rattle.std.specs.Prelude.{ℕ, Bool, List}
use Rattle.rail_base.specs.declared.station.Station.{Station}
use Rattle.rail_base.specs.declared.route.Route.{Route}
use Rattle.rail_base.specs.declared.plan.Command.{Command}
use Rattle.rail_spec.specs.Feasible as feasible
use Rattle.rail_spec.specs.Plans as plans
use Rattle.interlocking.specs.declared.railway.Interlocking.{Interlocking}

-- what is said of a station and its routes, of those of the interlocking
abbrev pub on {ℓ} : {A : Type ℓ} → Interlocking → (Station → List Route → A) → A
on i word = word i.design.station i.routes

module _ (i : Interlocking) where
  -- every command of the plan names a train and a route
  abbrev pub names_only : List (List Command) → Bool
  names_only = feasible.names_only i.design.station i.routes

  -- the plan has at most so many steps, none with a train twice, and a path for each train
  abbrev pub is_well_formed : ℕ → List (List Command) → Bool
  is_well_formed = plans.is_well_formed i.design.station i.routes

  -- its commands may stand as they do
  abbrev pub is_executable : List (List Command) → Bool
  is_executable = plans.is_executable i.design.station i.routes

  -- a plan that names only what is there, and is well formed
  abbrev pub IsWellFormed : ℕ → List (List Command) → Type 0
  IsWellFormed = feasible.IsWellFormed i.design.station i.routes

  -- such a plan that can be carried out
  abbrev pub IsRunnable : ℕ → List (List Command) → Type 0
  IsRunnable = feasible.IsRunnable i.design.station i.routes
